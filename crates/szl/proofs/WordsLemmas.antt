-- The answer where memory ran out before a file was opened, and that to files that are joined.
use Rattle.std.proofs.Common.{ℕ, ◌≤◌, List, [], length, Bool, Option, Some, None, refl, arith}
use Rattle.std.specs.Prelude.{IfSome, unwrap_or, Result, Err}
use Rattle.sz_feed.specs.Feed.{file_of}
use Rattle.sz_feed.specs.Program.{program_text}
use Rattle.sz_io.specs.declared.files.Files as files
use Rattle.sz_protofile.specs.Types.{TypeShape}
use Rattle.sz_words.specs.declared.settings.Settings.{Settings}
use Rattle.sz_words.specs.declared.settings.Settings.TheVariants.{Run, Check, Selftest, Resume, Merge}
use Rattle.szl.specs.declared.status.Status.TheVariants as status
use Rattle.szl.specs.declared.failure.Failure.{Failure}
use Rattle.szl.specs.declared.failure.Failure.TheVariants as failure
use Rattle.szl.specs.Merging.{bad, outcome_of_merge}
use Rattle.szl.specs.MergeAnswers.{AnswersMerge}
use Rattle.szl.specs.Opening.{AnswersWith}
use Rattle.szl.specs.Settings.{frame_asked}
use Rattle.szl.proofs.JudgementLemmas.{every_text_is_read}
use Rattle.szl.proofs.OpeningLemmas.{holds_or}
use Rattle.szl.proofs.OpenedLemmas.{opened_none}
use Rattle.szl.proofs.AnswerLemmas.{cut_of}
use Rattle.szl.proofs.SettingsLemmas.{unopened}
use Rattle.szl.proofs.JoinLemmas.{JoinsFew}
use Rattle.szl.proofs.MergeEnds.{ends_of}
use Rattle.szl.proofs.MergeLemmas.{some_bytes, some_held, some_long}

-- files were joined
pub merge_answered : {F : Type 0} (the_files : files.Ghosts F) (types : List TypeShape) (names : List (List ℕ)) (save : Bool) (old new : F)
    (answer : Result (List ℕ) Failure)
    → AnswersMerge the_files names save old new answer → AnswersWith the_files types (Some (Merge names save)) old new answer
merge_answered the_files types names save old new answer a =
    let r = every_text_is_read [] in
    let c = cut_of (frame_asked (Some (Merge names save))) [] in
    record {
      text = [];
      reading = r.reading;
      read = r.read;
      input = [];
      cut = c.cut;
      is_cut = c.is_cut;
      saved = a.bytes;
      merged = a.end;
      is_merged = a.merged;
      of_files = a.held;
      decides = a.decides;
      opened = a.opened;
    }

module _ {F : Type 0} (the_files : files.Ghosts F) (types : List TypeShape) (old : F) where
  -- memory ran out before a file to be joined was opened
  merge_no_memory : (names : List (List ℕ)) (save : Bool) → (1 ≤ length names) × (length names ≤ 64)
      → AnswersMerge the_files names save old old (Err failure.NoMemory)
  merge_no_memory names save few =
      let long = some_long the_files save old names in
      let found = ends_of [] (some_bytes the_files save old names) (record { same = tt; low = omega arith }) tt (omega (arith, few.0, long))
      (omega (arith, few.1, long)) in
      record {
        bytes = some_bytes the_files save old names;
        held = some_held the_files save old names;
        end = found.end;
        merged = found.merges;
        decides = tt;
        opened = opened_none the_files old names (outcome_of_merge (length names) save found.end).opens status.NoMemory (λ e. cc)
            (λ read memory. absurd (memory refl));
      }

  -- memory ran out before a file was opened
  pub no_memory_for : (asked : Option Settings) → IfSome asked JoinsFew → AnswersWith the_files types asked old old (Err failure.NoMemory)
  no_memory_for None few = let r = every_text_is_read [] in unopened the_files types old None [] [] r.reading r.read [] (bad 0) tt tt failure.NoMemory
      (λ e. cc) (λ cut read memory. absurd (memory refl)) (λ cut. tt)
  no_memory_for (Some (Resume s)) few =
      let r = every_text_is_read [] in
      unopened the_files types old (Some (Resume s)) [] [] r.reading r.read [] (bad 0) tt tt failure.NoMemory (λ e. cc)
      (λ cut read memory. absurd (memory refl)) (λ cut. tt)
  no_memory_for (Some (Run s)) few =
      let text = unwrap_or (the_files.held old s.program) [] in
      let r = every_text_is_read text in
      unopened the_files types old (Some (Run s)) text (unwrap_or (the_files.held old s.input) []) r.reading r.read [] (bad 0) tt
      (holds_or (the_files.held old s.program) [], holds_or (the_files.held old s.input) []) failure.NoMemory (λ e. cc)
      (λ cut read memory. absurd (memory refl)) (λ cut. tt)
  no_memory_for (Some (Check program proto)) few =
      let text = unwrap_or (the_files.held old program) [] in
      let r = every_text_is_read text in
      unopened the_files types old (Some (Check program proto)) text [] r.reading r.read [] (bad 0) tt (holds_or (the_files.held old program) [])
      failure.NoMemory (λ e. cc) (λ cut read memory. absurd (memory refl)) (λ cut. tt)
  no_memory_for (Some (Merge names save)) few =
      merge_answered the_files types names save old old (Err failure.NoMemory) (merge_no_memory names save few)
  no_memory_for (Some (Selftest seed records workers)) few =
      let r = every_text_is_read program_text in
      unopened the_files types old (Some (Selftest seed records workers)) program_text (file_of seed records) r.reading r.read [] (bad 0) tt
      (refl, refl) failure.NoMemory (λ e. cc) (λ cut read memory. absurd (memory refl)) (λ cut. tt)
