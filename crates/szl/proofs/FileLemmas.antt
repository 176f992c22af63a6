-- The file of an input: opened, and read in pieces.
use Rattle.std.proofs.Common.{◌≡◌, ◌⊎◌, ℕ, ◌≤◌, List, [], ◌∷◌, ◌++◌, Option, refl, sym, ◌∙◌, subst, arith, rules, inl}
use Rattle.std.specs.Prelude.{IsTrue, IfSome, IsSome, Result, Ok, Err, unwrap_or, ◌==◌, ◌||◌}
use Rattle.std.specs.Io.KnownBytes.{IsAtEnd}
use Rattle.sz_io.specs.Rose.{Rose}
use Rattle.sz_io.specs.Opened.{names_after, given_after, KeepsFiles, KeepsOtherFiles}
use Rattle.sz_io.specs.Calls.{OpensOne, ReadToEnd}
use Rattle.sz_io.specs.declared.files.Files as files
use Rattle.sz_io.specs.declared.error.OutsideError.{OutsideError}
use Rattle.sz_io.specs.declared.error.OutsideError.TheVariants as outside
use Rattle.sz_io.proofs.ForCallers.{rose_later}
use Rattle.sz_words.specs.declared.settings.RunSettings.{RunSettings}
use Rattle.sz_attempt.specs.declared.job.Job.{Job}
use Rattle.szl.specs.declared.failure.Failure.{Failure}
use Rattle.szl.specs.declared.status.Status.TheVariants as status
use Rattle.szl.specs.Opening.{status_of_answer}
use Rattle.szl.specs.ProgramRuns.{failure_of_opening, GivesFile}
use Rattle.szl.proofs.EndingLemmas.{GivesRead, no_memory_at_all, read_fails}
use Rattle.szl.proofs.OpeningLemmas.{holds_or}
use Rattle.szl.proofs.OpenedLemmas.{opened_one, opened_or_none}

module _ {F : Type 0} (the_files : files.Ghosts F) (job : Job) (s : RunSettings) (old : F) where
  -- the file couldn't be opened
  pub opening_fails : (new : F) (e : OutsideError) → (e ≡ outside.Failed → Rose (the_files.faults old) (the_files.faults new))
      → the_files.names new ≡ names_after (the_files.names old) s.input (Err e) → GivesFile the_files job s old new (Err (failure_of_opening e))
  opening_fails new outside.Failed failed names =
      let input = unwrap_or (the_files.held old s.input) [] in
      record {
        input = input;
        holds = holds_or (the_files.held old s.input) [];
        tables = read_fails job s.save s.shard s.frame input (Rose (the_files.faults old) (the_files.faults new)) (failed refl);
        opened = opened_one the_files old new s.input [] 1 status.ReadFailed (omega arith) names (λ read memory. refl) (λ read memory. absurd (read refl));
      }
  opening_fails new outside.NoMemory failed names =
      let input = unwrap_or (the_files.held old s.input) [] in
      record {
        input = input;
        holds = holds_or (the_files.held old s.input) [];
        tables = no_memory_at_all job s.save s.shard s.frame input (Rose (the_files.faults old) (the_files.faults new));
        opened = opened_or_none the_files old new s.input [] 1 (omega arith) (inl names);
      }

  -- it was opened, and read
  pub file_gives : (mid new : F) (left : Option (List ℕ)) (answer : Result (List ℕ) Failure) → left ≡ the_files.held old s.input
      → GivesRead job s.save s.shard s.frame left (Rose (the_files.faults old) (the_files.faults new)) answer
      → the_files.names mid ≡ the_files.names old ++ s.input ∷ [] → the_files.names new ≡ the_files.names mid → OpensOne the_files old new
      → GivesFile the_files job s old new answer
  file_gives mid new left answer bytes gives names same one = record {
    input = gives.input;
    holds = subst (λ h. IfSome h (λ b. b ≡ gives.input)) bytes gives.holds;
    tables = gives.tables;
    opened = opened_one the_files old new s.input [] 1 (status_of_answer answer) (omega arith) (same ∙ names) (λ read memory. refl)
        (λ read memory. one);
  }

  -- a read failed since the file was opened
  pub rose_since : (mid new : F) → the_files.faults old ≤ the_files.faults mid → Rose (the_files.faults mid) (the_files.faults new)
      → Rose (the_files.faults old) (the_files.faults new)
  rose_since mid new before rose = rose_later (the_files.faults old) (the_files.faults mid) (the_files.faults new) before rose

  module _ (mid new : F) (file : ℕ) (fresh : IsTrue (the_files.given old file) → ⊥)
      (opened : KeepsFiles the_files.held the_files.left the_files.given the_files.faults old mid)
      (read : KeepsOtherFiles the_files.held the_files.left the_files.given the_files.names the_files.faults file mid new) where
    -- all files opened before stay as they were
    pub keeps_opened : KeepsFiles the_files.held the_files.left the_files.given the_files.faults old new
    keeps_opened = record {
      held_same = λ name. read.held_same name ∙ opened.held_same name;
      left_same = λ other given.
          read.left_same other (λ same. fresh (subst (λ f. IsTrue (the_files.given old f)) same given)) ∙ opened.left_same other given;
      given_still = λ other given. subst IsTrue (sym (read.given_same other)) (opened.given_still other given);
      faults_later = omega (arith, opened.faults_later, read.faults_later);
      faults_stay = λ full. read.faults_stay (opened.faults_stay full);
    }

    module _ (given : (other : ℕ) → the_files.given mid other ≡ given_after (the_files.given old) (Ok file) other) where
      -- one file was opened
      pub opens_one : OpensOne the_files old new
      opens_one = record {
        file = file;
        not_before = fresh;
        given_now = subst IsTrue (sym (read.given_same file ∙ given file)) (itself file);
      }
        where
          itself : (n : ℕ) → IsTrue ((n == n) || the_files.given old n)
          itself n = search rules

      -- and it is at its end
      pub read_to_end : IsAtEnd (the_files.left new file) → IfSome (the_files.held old s.input) (λ _. IsSome (the_files.left new file))
          → ReadToEnd the_files old new s.input
      unfolding opens_one
      read_to_end at_end told = record {
        file = file;
        not_before = fresh;
        given_now = opens_one.given_now;
        no_other = λ other now. others other (subst IsTrue (read.given_same other ∙ given other) now);
        none_left = at_end;
        told = told;
      }
        where
          others : (other : ℕ) → IsTrue ((other == file) || the_files.given old other) → (other ≡ file) ⊎ IsTrue (the_files.given old other)
          others other now = search rules
