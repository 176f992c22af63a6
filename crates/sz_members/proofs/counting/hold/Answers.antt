-- The value is counted again, passed over, or kept.
use Rattle.std.proofs.Common.{◌≡◌, ◌∙◌, ◌++◌, ◌∷◌, [], length, sym, ap, subst, arith, true, false}
use Rattle.std.specs.List.{IsDistinct}
use Rattle.std.specs.Map.{keys_of, lookup}
use Rattle.std.proofs.lemmas.Result.{on_ok_weaker}
use Rattle.sz_types.specs.SeenTables.{seen_table}
use Rattle.sz_value.specs.Seen.{seen}
use Rattle.sz_members.specs.Repeats.{value_eq, is_full, Gains}
use Rattle.sz_members.proofs.RepeatsLemmas.{absent_alike}
use Rattle.sz_members.proofs.MembersLemmas.{gains_again, gains_new, gains_full}
use Rattle.sz_members.proofs.counting.hold.Goals as goal
use Rattle.sz_members.proofs.counting.hold.Goals.{then-count_again-via-then-count_again, then-count_again-via-else-count_again+then-is_full}

pub returns-then-count_again-clause-ok : goal.returns-then-count_again-clause-ok
returns-then-count_again-clause-ok c =
    let table = seen_table c.args.table.now in
    let old = c.args.tally.now.entries in
    let new = c.count_again.new.tally.entries in
    elim c.then-count_again.branch [
      | then-count_again-via-then-count_again w ↦
          gains_again table (seen c.args.value.now) 1 old new (c.count_again.ensures.found w.if-count_again.true)
      | then-count_again-via-else-count_again+then-is_full w ↦
          (let same = c.count_again.ensures.kept w.if-count_again.false in
          let unique = subst (λ es. IsDistinct value_eq (keys_of es)) same w.is_full.ensures.unique in
          let full : is_full table (length old) ≡ true =
          ap (λ es. is_full table (length es)) (sym same) ∙ sym w.is_full.ensures.value ∙ w.if-is_full.true in
          gains_full table (seen c.args.value.now) 1 old new unique full same)
    ]

pub keep-requires : goal.keep-requires
keep-requires c =
    let same = c.count_again.ensures.kept c.if-count_again.false in
    let absent = c.count_again.ensures.absent c.if-count_again.false in
    record {
      absent = absent_alike c.in_ok-value.value c.args.value.now c.count_again.new.tally.entries
          c.in_ok-value.ensures.value (ap (lookup (value_eq c.args.value.now)) same ∙ absent);
    }

pub returns-clause-ok : goal.returns-clause-ok
returns-clause-ok c =
    let table = seen_table c.args.table.now in
    let old = c.args.tally.now.entries in
    let copied = c.in_ok-value.value in
    let same = c.count_again.ensures.kept c.if-count_again.false in
    let few : is_full table (length old) ≡ false =
    ap (λ es. is_full table (length es)) (sym same) ∙ sym c.is_full.ensures.value ∙ c.if-is_full.false in
    on_ok_weaker c.keep.result
    (λ kept. subst (λ d. Gains table d 1 old c.keep.new.tally.entries) c.in_ok-value.ensures.value
    (gains_new table copied 1 old c.keep.new.tally.entries (omega arith) few
    (kept ∙ ap (λ es. es ++ (copied, 1) ∷ []) same))) c.keep.ensures.ok
