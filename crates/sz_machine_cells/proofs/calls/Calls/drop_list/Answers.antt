-- All candidate lists but the innermost are left.
use Rattle.std.proofs.Common.{rules, arith, ◌≡◌, suc, ◌<◌, ◌-◌, ◌∙◌, length, drop, ap, sym}
use Rattle.std.proofs.lemmas.List.{length-reverse, length-drop}
use Rattle.sz_machine_cells.specs.Waiting.{open_calls}
use Rattle.sz_machine_cells.proofs.CallLemmas.{list_dropped}
use Rattle.sz_machine_cells.proofs.calls.Calls.drop_list.Goals as goal

pub returns : goal.returns
returns c =
    let s = c.self.inside in
    let inner = ap (λ o. length o.lists) (sym c.self.view_is) ∙ length-reverse (drop s.lists_from s.lists.items)
    ∙ length-drop s.lists_from s.lists.items in
    let some : s.lists_from < length s.lists.items = omega (arith, c.requires.some, inner) in
    let last : suc (c.len-kept.result - 1) ≡ length s.lists.items = search (rules, some) in
    record {
      value = rw (sym c.self.view_is)
          (ap (λ l. open_calls s.waiting.items s.cells.items l s.locals_from s.lists_from) c.truncate.ensures.items
          ∙ list_dropped s.waiting.items s.cells.items s.lists.items s.locals_from s.lists_from
          (c.len-kept.result - 1) last some);
    }
