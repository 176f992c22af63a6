-- How the run of a program over an input ends: by its shards, and how its records end.
use Rattle.std.proofs.Common.{◌≡◌, ◌≤◌, ◌*◌, ◌^◌, ℕ, List, [], length, sym, ap, ◌∙◌, subst, refl, append-nil, Bool, true}
use Rattle.std.proofs.Math.Nat.{mul_comm}
use Rattle.std.specs.Prelude.{Option, Some, None, Result, Ok, Err, IfSome, IsSome, unwrap_or}
use Rattle.std.specs.Io.KnownBytes.{Consumes, IsAtEnd}
use Rattle.sz_types.specs.declared.frame.Frame.{Frame}
use Rattle.sz_mean.specs.Marked.{all_tables}
use Rattle.sz_tabs.specs.Data.{EmitDatum}
use Rattle.sz_total.specs.States.{declarations, emit_count, shown}
use Rattle.sz_total.specs.Totals.{StandsFor}
use Rattle.sz_attempt.specs.declared.job.Job.{Job}
use Rattle.sz_records.specs.declared.ending.Ending.{Ending}
use Rattle.sz_workers.specs.Outcomes.{ShardsEnd, outcome_of}
use Rattle.sz_stream.specs.declared.stop.Stop.{Stop}
use Rattle.sz_stream.specs.declared.stop.Stop.TheVariants as stops
use Rattle.sz_stream.specs.declared.tables.InputTables.{InputTables}
use Rattle.sz_stream.specs.Inputs.{GoesOn, HasAll, EndsInput, RunsInput, RunsRead, RunsFile}
use Rattle.szl.specs.declared.failure.Failure.{Failure}
use Rattle.szl.specs.declared.failure.Failure.TheVariants as failure
use Rattle.szl.specs.Answers.{success}
use Rattle.szl.specs.Outcome.{written, outcome_of_shards, outcome_of_ending}
use Rattle.szl.specs.Records.{Cut, IsCutInto}
use Rattle.szl.specs.Shards.{shard_sizes, shards_in}
use Rattle.szl.specs.ProgramRuns.{failure_of_stop, GivesTables}
use Rattle.szl.proofs.AnswerLemmas.{cut_of, no_usage}
use Rattle.szl.proofs.OpeningLemmas.{holds_or}
use Rattle.szl.proofs.SaysLemmas.{says}
use Rattle.szl.proofs.ShardLemmas.{sizes_are_shards}

-- the tables of an input are those of the program, and their emits and its records are few
pub record HasFittingTables (job : Job) (tables : InputTables) : Type 0 where
  pub declared : tables.total.tables ≡ all_tables job.compiled
  pub few : tables.total.count ≤ tables.records * job.budget
  pub within : tables.records ≤ 2 ^ 31

fitting : (job : Job) (tables : InputTables) {count : ℕ} {ending : Ending} {outcome : ShardsEnd} → HasAll job count ending outcome tables
    → HasFittingTables job tables
fitting job tables h = record {
  declared = h.stand.tables;
  few = subst (λ n. tables.total.count ≤ n) (mul_comm job.budget tables.records)
      (subst (λ n. n ≤ job.budget * tables.records) (sym h.stand.stands.counted) (subst (λ n. length h.emits ≤ job.budget * n) (sym h.counted) h.few));
  within = subst (λ n. n ≤ 2 ^ 31) (sym h.counted) h.within;
}

module _ (job : Job) (save : Bool) (most : ℕ) (frame : Frame) (input : List ℕ) (rose : Type 0) where
  -- what is written of the emits
  abbrev write_of : Cut → List EmitDatum → List ℕ
  write_of cut = written job.compiled save (length cut.records) job.budget

  -- there was no memory for the records, the tables or the text
  pub no_memory_at_all : GivesTables job save most frame input rose (Err failure.NoMemory)
  no_memory_at_all = let c = cut_of frame input in record { cut = c.cut; is_cut = c.is_cut; decides = tt }

  -- a read failed
  pub read_fails : rose → GivesTables job save most frame input rose (Err failure.ReadFailed)
  read_fails is =
      let c = cut_of frame input in
      record {
        cut = c.cut;
        is_cut = c.is_cut;
        decides = (is, no_usage (write_of c.cut) c.cut.ending (outcome_of job (shards_in most c.cut.records)));
      }

  module _ (low : 1 ≤ most) where
    -- what comes of the input's own records
    ends_so : (answer : Result InputTables Stop) → RunsInput job most frame input answer → (cut : Cut) → IsCutInto frame input cut
        → EndsInput job (length cut.records) cut.ending (outcome_of job (shards_in most cut.records)) answer
    ends_so answer runs cut is_cut =
        runs cut.records cut.ending (shard_sizes most cut.records) is_cut (sizes_are_shards most cut.records low)

    -- a shard faults or is lost, or the records don't end with the input
    pub input_stops : (stop : Stop) → RunsInput job most frame input (Err stop) → (stop ≡ stops.ReadFailed → rose)
        → GivesTables job save most frame input rose (Err (failure_of_stop stop))
    input_stops (stops.Fault n f) runs failed =
        let c = cut_of frame input in
        let h = ends_so (Err (stops.Fault n f)) runs c.cut c.is_cut in
        record { cut = c.cut; is_cut = c.is_cut; decides = says (ap (outcome_of_shards (write_of c.cut) c.cut.ending) h) }
    input_stops (stops.Lost n) runs failed =
        let c = cut_of frame input in
        let h = ends_so (Err (stops.Lost n)) runs c.cut c.is_cut in
        record { cut = c.cut; is_cut = c.is_cut; decides = says (ap (outcome_of_shards (write_of c.cut) c.cut.ending) h) }
    input_stops (stops.Damaged b) runs failed =
        let c = cut_of frame input in
        let h = ends_so (Err (stops.Damaged b)) runs c.cut c.is_cut in
        record {
          cut = c.cut;
          is_cut = c.is_cut;
          decides = says (ap (outcome_of_shards (write_of c.cut) c.cut.ending) h.1.2 ∙ ap (λ e. outcome_of_ending e (write_of c.cut h.1.0)) h.0);
        }
    input_stops (stops.Limit b) runs failed =
        let c = cut_of frame input in
        let h = ends_so (Err (stops.Limit b)) runs c.cut c.is_cut in
        record {
          cut = c.cut;
          is_cut = c.is_cut;
          decides = says (ap (outcome_of_shards (write_of c.cut) c.cut.ending) h.1.2 ∙ ap (λ e. outcome_of_ending e (write_of c.cut h.1.0)) h.0);
        }
    input_stops stops.ReadFailed runs failed = read_fails (failed refl)
    input_stops stops.NoMemory runs failed = no_memory_at_all

    module _ (tables : InputTables) (runs : RunsInput job most frame input (Ok tables)) where
      -- the tables are those of the program, and their emits are counted
      pub tables_fit : HasFittingTables job tables
      tables_fit = let c = cut_of frame input in fitting job tables (ends_so (Ok tables) runs c.cut c.is_cut)

      -- all records are whole, and what is written is of all emits
      pub input_ends : (output : List ℕ)
          → ((emits : List EmitDatum) → StandsFor declarations emit_count shown tables.total emits
          → output ≡ written job.compiled save tables.records job.budget emits)
          → GivesTables job save most frame input rose (Ok output)
      input_ends output told =
          let c = cut_of frame input in
          let h = ends_so (Ok tables) runs c.cut c.is_cut in
          record {
            cut = c.cut;
            is_cut = c.is_cut;
            decides = says (ap (outcome_of_shards (write_of c.cut) c.cut.ending) h.given
                ∙ ap (λ e. outcome_of_ending e (write_of c.cut h.emits)) h.whole
                ∙ ap (λ n. success (written job.compiled save n job.budget h.emits)) (sym h.counted)
                ∙ ap success (sym (told h.emits h.stand.stands)));
          }

-- an input that what was read may begin: the bytes that were left, where they are told, else just what was read
pub record Picks (before : Option (List ℕ)) (read : List ℕ) (over : Bool) : Type 0 where
  pub input : List ℕ
  pub holds : IfSome before (λ bytes. bytes ≡ input)
  pub on : GoesOn read over input

pub picks : (before after : Option (List ℕ)) (read : List ℕ) (over : Bool) → Consumes before after read → (over ≡ true → IsAtEnd after) → Picks before read over
picks None after read over consumed at_end =
    record { input = read; holds = tt; on = record { more = []; begins = sym (append-nil read); ends = λ e. refl } }
picks (Some bytes) None read over consumed at_end = absurd consumed
picks (Some bytes) (Some rest) read over consumed at_end =
    record { input = bytes; holds = refl; on = record { more = rest; begins = consumed; ends = at_end } }

-- what is left is told, where what was there is
pub still_told : (before after : Option (List ℕ)) (read : List ℕ) → Consumes before after read → IfSome before (λ _. IsSome after)
still_told None after read consumed = tt
still_told (Some bytes) None read consumed = absurd consumed
still_told (Some bytes) (Some rest) read consumed = refl

-- the same of a file
pub record GivesRead (job : Job) (save : Bool) (most : ℕ) (frame : Frame) (before : Option (List ℕ)) (rose : Type 0)
    (answer : Result (List ℕ) Failure) : Type 0 where
  pub input : List ℕ
  pub holds : IfSome before (λ bytes. bytes ≡ input)
  pub tables : GivesTables job save most frame input rose answer

module _ (job : Job) (save : Bool) (most : ℕ) (frame : Frame) (before after : Option (List ℕ)) (rose : Type 0) where
  pub read_no_memory : GivesRead job save most frame before rose (Err failure.NoMemory)
  read_no_memory =
      record { input = unwrap_or before []; holds = holds_or before []; tables = no_memory_at_all job save most frame (unwrap_or before []) rose }

  pub read_failed : rose → GivesRead job save most frame before rose (Err failure.ReadFailed)
  read_failed is =
      record { input = unwrap_or before []; holds = holds_or before []; tables = read_fails job save most frame (unwrap_or before []) rose is }

  module _ (low : 1 ≤ most) where
    by_read : (stop : Stop) → RunsRead job most frame before after (Err stop) → (stop ≡ stops.ReadFailed → rose)
        → GivesRead job save most frame before rose (Err (failure_of_stop stop))
    by_read stop r failed =
        let p = picks before after r.read r.over r.consumed r.at_end in
        record { input = p.input; holds = p.holds; tables = input_stops job save most frame p.input rose low stop (r.runs p.input p.on) failed }

    pub file_stops : (stop : Stop) → RunsFile job most frame before after (Err stop) → (stop ≡ stops.ReadFailed → rose)
        → GivesRead job save most frame before rose (Err (failure_of_stop stop))
    file_stops stops.ReadFailed r failed = read_failed (failed refl)
    file_stops stops.NoMemory r failed = read_no_memory
    file_stops (stops.Fault n f) r failed = by_read (stops.Fault n f) r failed
    file_stops (stops.Lost n) r failed = by_read (stops.Lost n) r failed
    file_stops (stops.Damaged b) r failed = by_read (stops.Damaged b) r failed
    file_stops (stops.Limit b) r failed = by_read (stops.Limit b) r failed

    module _ (tables : InputTables) (r : RunsFile job most frame before after (Ok tables)) where
      pub file_fits : HasFittingTables job tables
      file_fits =
          let p = picks before after r.read r.over r.consumed r.at_end in tables_fit job save most frame p.input rose low tables (r.runs p.input p.on)

      pub file_ends : (output : List ℕ)
          → ((emits : List EmitDatum) → StandsFor declarations emit_count shown tables.total emits
          → output ≡ written job.compiled save tables.records job.budget emits)
          → GivesRead job save most frame before rose (Ok output)
      file_ends output told =
          let p = picks before after r.read r.over r.consumed r.at_end in
          record { input = p.input; holds = p.holds; tables = input_ends job save most frame p.input rose low tables (r.runs p.input p.on) output told }

      pub told_at_end : IfSome before (λ _. IsSome after)
      told_at_end = still_told before after r.read r.consumed
