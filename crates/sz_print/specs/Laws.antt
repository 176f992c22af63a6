-- Laws of the text of all tables.
use Rattle.std.specs.Prelude.{◌≡◌, ℕ, List, IsPermutation}
use Rattle.sz_types.specs.Tables.{Declaration}
use Rattle.sz_tabs.specs.Data.{EmitDatum}
use Rattle.sz_total.specs.States.{TotalState, declarations, emit_count, shown}
use Rattle.sz_total.specs.Totals.{StandsFor, Joins}
use Rattle.sz_print.specs.Tables.{rows_text, tables_text}

-- the text of all tables of a total
abbrev pub text_of : TotalState → List ℕ
text_of total = rows_text total.tables (shown total)

-- what a total shows has the text of each list of emits that it stands for
abbrev pub ShowsItsEmits : Type 0
ShowsItsEmits =
    (total : TotalState) (emits : List EmitDatum) → StandsFor declarations emit_count shown total emits
    → text_of total ≡ tables_text total.tables emits

-- the text is the same in whatever order the emits came
abbrev pub ForgetsOrder : Type 0
ForgetsOrder =
    (tables : List Declaration) (first second : List EmitDatum) → IsPermutation first second
    → tables_text tables first ≡ tables_text tables second

-- whichever of two sides is merged into the other, the text is the same
abbrev pub MergesEitherWay : Type 0
MergesEitherWay =
    (one other both turned : TotalState) (front later : List EmitDatum) → other.tables ≡ one.tables
    → StandsFor declarations emit_count shown one front
    → StandsFor declarations emit_count shown other later → Joins declarations emit_count shown one other both
    → Joins declarations emit_count shown other one turned → text_of both ≡ text_of turned

-- whether the first of three sides takes the second and then the third, or both after these were merged, the text is
-- the same
abbrev pub MergesInAnyGroups : Type 0
MergesInAnyGroups =
    (one other third both all rest turned : TotalState) (front later last : List EmitDatum)
    → StandsFor declarations emit_count shown one front
    → StandsFor declarations emit_count shown other later → StandsFor declarations emit_count shown third last
    → Joins declarations emit_count shown one other both → Joins declarations emit_count shown both third all
    → Joins declarations emit_count shown other third rest → Joins declarations emit_count shown one rest turned
    → text_of all ≡ text_of turned
