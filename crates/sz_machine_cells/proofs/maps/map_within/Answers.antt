-- Of the pairs, sorted by their keys, those that are kept are the map.
use Rattle.std.proofs.Common.{rules, arith, ◌≡◌, ◌∙◌, ◌<◌, ◌≤◌, nat_le, [], true, false, Some, is_some, sym, ap, subst}
use Rattle.std.proofs.lemmas.Bool.{leb-true, leb-false}
use Rattle.std.specs.List.{list_all}
use Rattle.sz_value.specs.Data.{mapping, entries_of}
use Rattle.sz_value.specs.Maps.{with_pairs}
use Rattle.sz_value.specs.Order.{KeysRise}
use Rattle.sz_value.specs.Weight.{weight_of}
use Rattle.sz_world_rules.specs.Ticks.{result_weight}
use Rattle.sz_machine_cells.specs.PairViews.{seen_pair_views, last_ones}
use Rattle.sz_machine_cells.proofs.PairLemmas.{no_map, map_is, last_rise}
use Rattle.sz_machine_cells.proofs.maps.map_within.Goals as goal

pub returns-then-not-all_defined-clause-some : goal.returns-then-not-all_defined-clause-some
returns-then-not-all_defined-clause-some c =
    let none : list_all is_some c.args.cells.now ≡ false = search rules in
    let is = no_map c.args.cells.now none in
    (c.undefined.ensures.value ∙ sym is, subst (λ x. result_weight x ≤ c.args.most) (sym is) (omega arith))

pub returns-then-not-is_within-clause-none : goal.returns-then-not-is_within-clause-none
returns-then-not-is_within-clause-none c =
    let all : list_all is_some c.args.cells.now ≡ true = search rules in
    let pairs = seen_pair_views c.in_ok-pairs.pairs.items in
    let whole = map_is c.args.cells.now pairs c.in_ok-pairs.ensures.rest all
    (c.in_ok-pairs.ensures.value ∙ ap (with_pairs []) c.in_ok-pair_views.ensures.value) in
    let sorted : c.deref.result.now ≡ c.in_ok-pairs.pairs.items = search rules in
    let kept = c.in_ok-kept.ensures.value ∙ ap (λ l. last_ones (seen_pair_views l)) sorted in
    let stands : c.deref-2.result.now ≡ c.in_ok-kept.kept.items = search rules in
    let same = ap (λ l. Some (mapping (entries_of l))) (ap seen_pair_views stands ∙ kept) ∙ whole in
    let passes : nat_le (weight_of (mapping (entries_of (seen_pair_views c.deref-2.result.now)))) c.args.most
    ≡ false = search rules in
    subst (λ x. c.args.most < result_weight x) same (leb-false _ _ passes)

pub copied-requires : goal.copied-requires
copied-requires c =
    let sorted : c.deref.result.now ≡ c.in_ok-pairs.pairs.items = search rules in
    let kept = c.in_ok-kept.ensures.value ∙ ap (λ l. last_ones (seen_pair_views l)) sorted in
    let again : c.deref-3.result.now ≡ c.in_ok-kept.kept.items = search rules in
    record {
      rising = subst KeysRise (sym (ap seen_pair_views again ∙ kept))
          (last_rise (seen_pair_views c.in_ok-pairs.pairs.items) c.in_ok-pairs.ensures.rest);
    }

pub returns-clause-some : goal.returns-clause-some
returns-clause-some c =
    let all : list_all is_some c.args.cells.now ≡ true = search rules in
    let pairs = seen_pair_views c.in_ok-pairs.pairs.items in
    let whole = map_is c.args.cells.now pairs c.in_ok-pairs.ensures.rest all
    (c.in_ok-pairs.ensures.value ∙ ap (with_pairs []) c.in_ok-pair_views.ensures.value) in
    let sorted : c.deref.result.now ≡ c.in_ok-pairs.pairs.items = search rules in
    let kept = c.in_ok-kept.ensures.value ∙ ap (λ l. last_ones (seen_pair_views l)) sorted in
    let stands : c.deref-2.result.now ≡ c.in_ok-kept.kept.items = search rules in
    let again : c.deref-3.result.now ≡ c.in_ok-kept.kept.items = search rules in
    let same = ap (λ l. Some (mapping (entries_of l))) (ap seen_pair_views stands ∙ kept) ∙ whole in
    let fits : nat_le (weight_of (mapping (entries_of (seen_pair_views c.deref-2.result.now)))) c.args.most ≡ true =
    search rules in
    let copies = c.in_ok-copied.ensures.value ∙ ap seen_pair_views again ∙ kept in (
      c.in_ok-of_value.ensures.value ∙ ap (λ l. Some (mapping (entries_of l))) copies ∙ whole,
      subst (λ x. result_weight x ≤ c.args.most) same (leb-true _ _ fits),
    )
