-- What contracts see of how an attempt ends.
use Rattle.std.specs.Prelude.{◌≡◌, List, map}
use Rattle.sz_mean.specs.Marked.{Marked, all_tables}
use Rattle.sz_tabs.specs.Data.{EmitDatum}
use Rattle.sz_machine.specs.Ends.{seen_fault}
use Rattle.sz_total.specs.Totals.{StandsFor}
use Rattle.sz_total.specs.States.{TotalState, declarations, emit_count, shown}
use Rattle.sz_attempt.specs.declared.ends.Skipped.{Skipped}
use Rattle.sz_attempt.specs.declared.ends.AttemptEnd.{AttemptEnd}
use Rattle.sz_attempt.specs.declared.ends.AttemptEnd.TheVariants as answers
use Rattle.sz_attempt.specs.Yields.{Faulting}
use Rattle.sz_attempt.specs.Attempts.{End, gives, fails, dies}

-- the tables are those of the program, and they stand for these emits
pub record StandForEmits (program : Marked) (total : TotalState) (emits : List EmitDatum) : Type 0 where
  pub tables : total.tables ≡ all_tables program
  pub stands : StandsFor declarations emit_count shown total emits

-- the plain data of a record that faults
abbrev pub seen_skipped : Skipped → Faulting
seen_skipped skipped = record { number = skipped.record_no; fault = seen_fault skipped.fault }

-- the plain data of records that fault
abbrev pub seen_faults : List Skipped → List Faulting
seen_faults faults = map seen_skipped faults

-- the answer tells this end: a part stands for just the emits and has the records passed over, a bad end has the
-- first records that fault, and a death the count of records
abbrev pub EndsSo : Marked → End → AttemptEnd → Type 0
EndsSo program end (answers.Part total faults) =
    (emits : List EmitDatum) × (end ≡ gives emits (seen_faults faults)) × StandForEmits program total emits
EndsSo program end (answers.Bad faults) = end ≡ fails (seen_faults faults)
EndsSo program end (answers.Died after) = end ≡ dies after
