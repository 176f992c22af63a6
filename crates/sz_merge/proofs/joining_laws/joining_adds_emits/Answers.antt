-- The laws are lemmas.
use Rattle.sz_merge.proofs.EmitLemmas.{rows_join}
use Rattle.sz_merge.proofs.TableLemmas.{tables_join, emits_join}
use Rattle.sz_merge.proofs.joining_laws.joining_adds_emits.Goals as goal

pub returns : goal.returns
returns c = record {
  rows = rows_join;
  tables = tables_join;
  states = emits_join c.tables_forget_the_order.ensures.same c.a_table_shows_its_indexes.ensures.shown;
}
