-- The next candidate is taken off the innermost list.
use Rattle.std.proofs.Common.{rules, arith, ◌≡◌, suc, ◌<◌, ◌-◌, ◌∙◌, ◌∷◌, length, drop, get_or, set, Some, ap, sym}
use Rattle.std.proofs.lemmas.List.{length-reverse, length-drop}
use Rattle.sz_value.specs.Seen.{seen}
use Rattle.sz_world_rules.specs.Slots.{Slot}
use Rattle.sz_machine_cells.specs.Calls.{Open, after_next}
use Rattle.sz_machine_cells.specs.Waiting.{open_calls}
use Rattle.sz_machine_cells.proofs.CallLemmas.{one_taken}
use Rattle.sz_machine_cells.proofs.calls.Calls.next.Goals as goal

pub returns-in_ok-cell-in-Some-clause-value : goal.returns-in_ok-cell-in-Some-clause-value
returns-in_ok-cell-in-Some-clause-value c =
    let s = c.self.inside in
    let inner = ap (λ o. length o.lists) (sym c.self.view_is) ∙ length-reverse (drop s.lists_from s.lists.items)
    ∙ length-drop s.lists_from s.lists.items in
    let some : s.lists_from < length s.lists.items = omega (arith, c.requires.some, inner) in
    let k = c.len-last.result - 1 in
    let last : suc k ≡ length s.lists.items = search (rules, some) in
    let top : get_or s.lists.items k c.index_mut.result.now ≡ seen c.in-Some.value ∷ c.next.new.self = search rules in
    let taken = one_taken s.waiting.items s.cells.items s.lists.items s.locals_from s.lists_from k last some c.args.n
    (seen c.in-Some.value) c.next.new.self c.index_mut.result.now top in
    let cell : c.in_ok-cell-in-Some.cell ≡ Some (seen c.in-Some.value) = search rules in
    let kept : Slot → Open =
    λ x. record (open_calls s.waiting.items s.cells.items (set s.lists.items k c.next.new.self)
    s.locals_from s.lists_from) {
      locals = set (drop s.locals_from s.cells.items) c.args.n x;
    } in
    c.keep.ensures.value ∙ ap kept cell ∙ taken ∙ ap (after_next c.args.n) c.self.view_is
