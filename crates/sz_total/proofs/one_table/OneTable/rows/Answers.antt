-- No sum is further from 0 than the table's emits can bring it.
use Rattle.std.proofs.Common.{◌*◌, ◌^◌, subst}
use Rattle.std.proofs.lemmas.Result.{on_ok_weaker}
use Rattle.sz_types.specs.SeenTables.{seen_table}
use Rattle.sz_total.specs.Bounded.{SumsAreWithin}
use Rattle.sz_total.specs.OneTable.{table_shown}
use Rattle.sz_total.specs.Parts.{entries_of}
use Rattle.sz_total.proofs.BoundedLemmas.{table_within}
use Rattle.sz_total.proofs.PartLemmas.{all_of_table}
use Rattle.sz_total.proofs.one_table.OneTable.rows.Goals as goal

pub returns-clause-within : goal.returns-clause-within
returns-clause-within c =
    on_ok_weaker c.all_rows.result
    (λ bounded. subst (λ s. SumsAreWithin (2 ^ 63 * s.count) (table_shown s)) c.self.view_is
    (table_within (seen_table c.self.inside.table.now) c.self.inside.count (entries_of c.self.inside.parts.items)
    (all_of_table (seen_table c.self.inside.table.now)
    c.self.inside.count c.self.inside.parts.items c.self.invariant.aggregates) bounded))
    c.all_rows.ensures.bounded
