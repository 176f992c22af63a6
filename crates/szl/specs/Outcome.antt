-- The outcome of a command line: what the source means for the shards of the records, in input order.
use Rattle.std.specs.Prelude.{ℕ, zero, suc, ◌*◌, List, [], length, Bool, Option, Some, Result, Ok, Err, if◌then◌else◌}
use Rattle.sz_core.specs.Programs.{Core}
use Rattle.sz_world_rules.specs.World.{Fault, Done, Faulted}
use Rattle.sz_world_rules.specs.World as world
use Rattle.sz_world_rules.specs.Slots.{Slot}
use Rattle.sz_mean.specs.Marked.{Marked, all_tables}
use Rattle.sz_mean.specs.Programs.{statics}
use Rattle.sz_tabs.specs.Data.{EmitDatum}
use Rattle.sz_print.specs.Tables.{tables_text}
use Rattle.sz_save_format.specs.Saved.{saved_bytes}
use Rattle.sz_save.specs.Saving.{state_of_emits}
use Rattle.sz_records.specs.declared.ending.Ending.{Ending}
use Rattle.sz_records.specs.declared.ending.Ending.TheVariants.{Whole, Damaged, Limit}
use Rattle.sz_words.specs.declared.settings.RunSettings.{RunSettings}
use Rattle.sz_words.specs.declared.settings.Settings.{Settings}
use Rattle.sz_words.specs.declared.settings.Settings.TheVariants.{Run, Check, Selftest, Merge}
use Rattle.sz_words.specs.Settings.{settings_in}
use Rattle.sz_workers.specs.Outcomes.{ShardsEnd, emitted, faulted, lost, outcome_of}
use Rattle.szl.specs.declared.status.Status.TheVariants as status
use Rattle.sz_refusals.specs.declared.refusal.Refusal.{Refusal}
use Rattle.sz_refusals.specs.Lines.{refusal_line}
use Rattle.szl.specs.Judgement.{Reading, refused, spells}
use Rattle.szl.specs.Checking.{checked}
use Rattle.szl.specs.Savable.{savable}
use Rattle.szl.specs.Settings.{selftest_run}
use Rattle.szl.specs.Records.{Cut}
use Rattle.szl.specs.Merging.{Merged, outcome_of_merge}
use Rattle.szl.specs.ProtoFiles.{proto_asked, outcome_of_file, after_file}
use Rattle.sz_protofile.specs.Types.{TypeShape}
use Rattle.sz_protofile_types.specs.Readings.{FileReading}
use Rattle.szl.specs.Shards.{shards_in, job_of}
pub use Rattle.szl.specs.Answers.{Answer, usage_line, read_failed_line, write_failed_line, no_memory_line, damaged_line, limit_line, lost_line}
pub use Rattle.szl.specs.Answers.{fault_texts, fault_line, success, refusal}

-- how many files are opened for a fault in a record: for one in a static the program alone
abbrev pub opened_for : ℕ → ℕ
opened_for zero = 1
opened_for (suc number) = 2

-- the answer to a fault in a record
abbrev pub outcome_faulted : ℕ → Fault → Answer
outcome_faulted number fault = refusal status.RecordFault (fault_line number fault) (opened_for number)

-- the answer to all emits, by how the records end
abbrev pub outcome_of_ending : Ending → List ℕ → Answer
outcome_of_ending Whole text = success text
outcome_of_ending (Damaged byte) text = refusal status.Damaged (damaged_line byte) 2
outcome_of_ending (Limit byte) text = refusal status.Limit (limit_line byte) 2

-- the answer to a shard that is lost
abbrev pub outcome_lost : ℕ → Answer
outcome_lost shard = refusal status.ShardLost (lost_line shard) 2

-- what is written of all emits: the text of the tables, or the saved tables, whose bound is so many records times the budget
abbrev pub written : Marked → (save : Bool) → (records budget : ℕ) → List EmitDatum → List ℕ
written program save records budget emits =
    if save then saved_bytes (state_of_emits (records * budget) (all_tables program) emits) else tables_text (all_tables program) emits

-- The answer to what comes of the shards: the first that is lost, or has the first record too many that faults, decides, and then how the records
-- end. What is written of the emits is given; how many records were passed over plays no part
abbrev pub outcome_of_shards : (List EmitDatum → List ℕ) → Ending → ShardsEnd → Answer
outcome_of_shards write ending (emitted emits passed) = outcome_of_ending ending (write emits)
outcome_of_shards write ending (faulted number fault) = outcome_faulted number fault
outcome_of_shards write ending (lost shard) = outcome_lost shard

-- the answer to what the statics are: a fault in one decides, and then the shards of the records, with these statics
abbrev pub outcome_of_statics : Marked → RunSettings → Cut → world.Outcome (List Slot) → Answer
outcome_of_statics program s cut (Faulted fault) = outcome_faulted 0 fault
outcome_of_statics program s cut (Done slots) =
    outcome_of_shards (written program s.save (length cut.records) s.budget) cut.ending
    (outcome_of (job_of program slots s) (shards_in s.shard cut.records))

-- the outcome of a program over an input, which is cut into records so. Neither the number of workers nor a doubled shard plays a part
abbrev pub outcome_of_program : Marked → RunSettings → Cut → Answer
outcome_of_program program s cut = outcome_of_statics program s cut (statics program s.budget)

-- the outcome of a program that is refused
abbrev pub outcome_refused : Refusal → Answer
outcome_refused r = refusal status.Program (refusal_line r) 1

-- the outcome of running a program that can be run, over an input that is cut so
abbrev pub outcome_of_checked_run : RunSettings → Cut → Result Marked Refusal → Answer
outcome_of_checked_run s cut (Ok program) = outcome_of_program program s cut
outcome_of_checked_run s cut (Err r) = outcome_refused r

-- the outcome of running what was read, where these types are known
abbrev pub outcome_of_run : List TypeShape → RunSettings → Cut → Reading → Answer
outcome_of_run types s cut (refused r) = outcome_refused r
outcome_of_run types s cut (spells statements) = outcome_of_checked_run s cut (savable types s.save s.ignore_undefs statements)

-- the outcome of checking
abbrev pub outcome_of_checked : Result Core Refusal → Answer
outcome_of_checked (Ok program) = success []
outcome_of_checked (Err r) = outcome_refused r

-- the outcome of checking what was read, where these types are known
abbrev pub outcome_of_check : List TypeShape → Reading → Answer
outcome_of_check types (refused r) = outcome_refused r
outcome_of_check types (spells statements) = outcome_of_checked (checked types statements)

-- the outcome of settings where these types are known, from the reading of the program's text, the input, which is cut so, and what joining
-- files comes to
abbrev pub outcome_with : List TypeShape → Option Settings → Reading → Cut → Merged → Answer
outcome_with types (Some (Run s)) reading cut merged = outcome_of_run types s cut reading
outcome_with types (Some (Check program proto)) reading cut merged = outcome_of_check types reading
outcome_with types (Some (Selftest seed records workers)) reading cut merged = outcome_of_run types (selftest_run workers) cut reading
outcome_with types (Some (Merge names save)) reading cut merged = outcome_of_merge (length names) save merged
outcome_with types _ reading cut merged = refusal status.Usage usage_line 0

-- the outcome after the file of a name, if there is one, which is read so: a file that is refused decides, and else its types are known
abbrev pub outcome_after : Option (List ℕ) → FileReading → Option Settings → Reading → Cut → Merged → Answer
outcome_after name file asked reading cut merged = after_file name (outcome_of_file file (λ types. outcome_with types asked reading cut merged))

-- the outcome of settings, from the reading of their `.proto` file, the reading of the program's text, the input, which is cut so, and what
-- joining files comes to
abbrev pub outcome_of_settings : Option Settings → FileReading → Reading → Cut → Merged → Answer
outcome_of_settings asked file reading cut merged = outcome_after (proto_asked asked) file asked reading cut merged

-- the outcome of a command line without a disk, from its words, the readings of the `.proto` file and of the program's text, the input, which
-- is cut so, and what joining files comes to; of `resume` see Resuming.antt
abbrev pub outcome : List (List ℕ) → FileReading → Reading → Cut → Merged → Answer
outcome words file reading cut merged = outcome_of_settings (settings_in words) file reading cut merged
