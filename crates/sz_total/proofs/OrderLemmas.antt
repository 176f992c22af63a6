-- Tables stand for their emits in whatever order these came. The crates above may cite it.
use Rattle.std.proofs.Common.{◌≡◌, ◌∙◌, List, ◌++◌, sym, arith}
use Rattle.std.specs.Prelude.{IsPermutation}
use Rattle.std.proofs.lemmas.List.Sorted.{IsPermutation-append_comm, length_permutation}
use Rattle.sz_tabs.specs.Data.{EmitDatum}
use Rattle.sz_total.specs.Laws.{ForgetsOrder}
use Rattle.sz_total.specs.States.{TotalState, declarations, emit_count, shown}
use Rattle.sz_total.specs.Totals.{StandsFor, Joins}
use Rattle.sz_total.proofs.TablesLemmas.{tables_in_any_order}

pub stands_in_any_order : ForgetsOrder → (total : TotalState) (es fs : List EmitDatum) → IsPermutation es fs
    → StandsFor declarations emit_count shown total es → StandsFor declarations emit_count shown total fs
stands_in_any_order forgets total es fs mixed stands = record {
  rows = λ table declaration there. stands.rows table declaration there ∙ forgets table declaration es fs mixed;
  counted = stands.counted ∙ sym (length_permutation es fs mixed);
}

-- tables that join two sides the one way round join them the other way round too
pub joins_turned : (own other new : TotalState) → other.tables ≡ own.tables
    → Joins declarations emit_count shown other own new → Joins declarations emit_count shown own other new
joins_turned own other new same joins = record {
  same_tables = joins.same_tables ∙ same;
  both_counts = omega (arith, joins.both_counts);
  joined = λ front later mine yours.
      stands_in_any_order tables_in_any_order new (later ++ front) (front ++ later)
      (IsPermutation-append_comm later front) (joins.joined later front yours mine);
}
