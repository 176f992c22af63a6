-- The answer of a self test, from that of its program over its file.
use Rattle.std.proofs.Common.{◌≡◌, ℕ, ◌≤◌, List, [], length, Some, refl, sym, ap, ◌∙◌, subst, arith, append-nil}
use Rattle.std.specs.Prelude.{Result, Ok, Err}
use Rattle.sz_io.specs.Rose.{Rose}
use Rattle.sz_io.specs.declared.files.Files as files
use Rattle.sz_feed.specs.Feed.{file_of}
use Rattle.sz_feed.specs.Program.{program_text}
use Rattle.sz_tree.specs.Statements.{Stms}
use Rattle.sz_mean.specs.Marked.{Marked}
use Rattle.szl.specs.Savable.{savable}
use Rattle.sz_world_rules.specs.World.{Done}
use Rattle.sz_world_rules.specs.Slots.{Slot}
use Rattle.sz_mean.specs.Programs.{statics}
use Rattle.sz_machine.specs.Ends.{seen_fault}
use Rattle.sz_words.specs.declared.settings.RunSettings.{RunSettings}
use Rattle.sz_words.specs.declared.settings.Settings.TheVariants.{Selftest}
use Rattle.sz_attempt.specs.declared.job.Job.{Job}
use Rattle.szl.specs.declared.failure.Failure.{Failure}
use Rattle.szl.specs.declared.failure.Failure.TheVariants as failure
use Rattle.sz_refusals.specs.Texts.{IsShort, HasStatements, most_program_bytes}
use Rattle.szl.specs.Judgement.{refused, spells}
use Rattle.szl.specs.Judging.{IsFailureOf, IsFailureOn}
use Rattle.szl.specs.Opening.{Decides, AnswersWith, AnswersOver, AnswersTextOver, status_of_answer}
use Rattle.szl.specs.Outcome.{outcome_faulted, outcome_of_statics, outcome_of_checked_run}
use Rattle.szl.specs.Merging.{bad}
use Rattle.szl.specs.Promise.{AreReadToEnd}
use Rattle.szl.specs.ProgramRuns.{GivesStatics, GivesTables, IsJobOf}
use Rattle.sz_words.specs.Bounds.{HasBounds}
use Rattle.szl.specs.Settings.{selftest_run}
use Rattle.szl.proofs.JudgementLemmas.{every_text_is_read}
use Rattle.szl.proofs.AnswerLemmas.{cut_of, decides_still, not_read, of_job}
use Rattle.szl.proofs.OpenedLemmas.{opened_none, take_none}
use Rattle.szl.proofs.SaysLemmas.{says}

-- the program is within the limit of a program's text
pub is_short : length program_text ≤ most_program_bytes
unfolding program_text
is_short = omega arith

-- what a self test asks for has its bounds
pub has_bounds : (workers : ℕ) → (1 ≤ workers) × (workers ≤ 64) → HasBounds (selftest_run workers)
has_bounds workers within = record {
  least_workers = within.0;
  most_workers = within.1;
  least_budget = omega arith;
  most_budget = omega arith;
  shard = omega arith;
  least_attempts = omega arith;
  most_attempts = omega arith;
}

module _ (program : Marked) (s : RunSettings) (input : List ℕ) where
  -- there was no memory
  pub no_memory_over : AnswersOver program s input (Err failure.NoMemory)
  no_memory_over = let c = cut_of s.frame input in record { cut = c.cut; is_cut = c.is_cut; decides = tt }

  -- a static faults
  pub static_fails_over : (f : Failure) → GivesStatics program s.budget (Err f) → AnswersOver program s input (Err f)
  static_fails_over (failure.Faulted n f) h = let c = cut_of s.frame input in record {
    cut = c.cut;
    is_cut = c.is_cut;
    decides = says (ap (outcome_of_statics program s c.cut) h.1 ∙ ap (λ k. outcome_faulted k (seen_fault f)) (sym h.0));
  }
  static_fails_over failure.NoMemory h = no_memory_over
  static_fails_over _ h = absurd h

  -- the program was run over the bytes
  pub tables_over : (slots : List Slot) → statics program s.budget ≡ Done slots → (job : Job) → IsJobOf program slots s job
      → (answer : Result (List ℕ) Failure) → GivesTables job s.save s.shard s.frame input ⊥ answer → AnswersOver program s input answer
  tables_over slots begun job of answer gives = record {
    cut = gives.cut;
    is_cut = gives.is_cut;
    decides = subst (λ o. Decides answer o ⊥) (of_job program s slots begun job of gives.cut) gives.decides;
  }

module _ (s : RunSettings) (text input : List ℕ) where
  -- there was no memory
  pub no_memory_text : AnswersTextOver s text input (Err failure.NoMemory)
  no_memory_text =
      let r = every_text_is_read text in
      let c = cut_of s.frame input in
      record { reading = r.reading; read = r.read; cut = c.cut; is_cut = c.is_cut; decides = tt }

  -- the text has no statements
  pub text_refused_over : (f : Failure) → IsFailureOf text f → AnswersTextOver s text input (Err f)
  text_refused_over (failure.Refused r) read = let c = cut_of s.frame input in record {
    reading = refused r;
    read = read;
    cut = c.cut;
    is_cut = c.is_cut;
    decides = says refl;
  }
  text_refused_over failure.NoMemory h = no_memory_text
  text_refused_over _ h = absurd h

  module _ (ss : Stms) (short : IsShort text) (has : HasStatements text ss) where
    -- its statements are refused
    pub statements_refused_over : (f : Failure) → IsFailureOn (savable [] s.save s.ignore_undefs ss) f → AnswersTextOver s text input (Err f)
    statements_refused_over (failure.Refused r) h = let c = cut_of s.frame input in record {
      reading = spells ss;
      read = (short, has);
      cut = c.cut;
      is_cut = c.is_cut;
      decides = says (ap (outcome_of_checked_run s c.cut) h);
    }
    statements_refused_over failure.NoMemory h = no_memory_text
    statements_refused_over _ h = absurd h

    -- they are a program, which was run
    pub program_over : (p : Marked) → savable [] s.save s.ignore_undefs ss ≡ Ok p → (answer : Result (List ℕ) Failure) → AnswersOver p s input answer
        → AnswersTextOver s text input answer
    program_over p is answer a = record {
      reading = spells ss;
      read = (short, has);
      cut = a.cut;
      is_cut = a.is_cut;
      decides = subst (λ o. Decides answer o ⊥) (ap (outcome_of_checked_run s a.cut) (sym is)) a.decides;
    }

-- a self test opens no file
module _ {F : Type 0} (the_files : files.Ghosts F) (old : F) where
  pub selftest_answered : (seed records workers : ℕ) (answer : Result (List ℕ) Failure)
      → AnswersTextOver (selftest_run workers) program_text (file_of seed records) answer
      → AnswersWith the_files [] (Some (Selftest seed records workers)) old old answer
  selftest_answered seed records workers answer a = record {
    text = program_text;
    reading = a.reading;
    read = a.read;
    input = file_of seed records;
    cut = a.cut;
    is_cut = a.is_cut;
    saved = [];
    merged = bad 0;
    is_merged = tt;
    of_files = (refl, refl);
    decides = decides_still answer _ (Rose (the_files.faults old) (the_files.faults old)) a.decides;
    opened = opened_none the_files old [] _ (status_of_answer answer) (not_read answer _ a.decides) (λ read memory. sym (take_none _));
  }

  pub nothing_opened : AreReadToEnd the_files old old []
  nothing_opened = record {
    all_opened = sym (append-nil (the_files.names old));
    each = record { opened = []; one_each = refl; are_new = tt };
    none_left = λ file before now. absurd (before now);
    told = λ file before now. absurd (before now);
  }
