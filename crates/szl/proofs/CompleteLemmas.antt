-- Where no device failed, the status is the outcome's, or want of memory.
use Rattle.std.proofs.Common.{◌≡◌, ◌≢◌, ◌⊎◌, inl, inr, ℕ, List, refl, arith}
use Rattle.sz_io.specs.Rose.{Rose}
use Rattle.sz_io.specs.declared.files.Files as files
use Rattle.sz_io.specs.declared.sink.Sink as sink
use Rattle.szl.specs.declared.status.Status.{Status}
use Rattle.szl.specs.declared.status.Status.TheVariants as status
use Rattle.szl.specs.Completeness.{Completes}
use Rattle.szl.specs.Answers.{Answer}
use Rattle.szl.specs.Outcome.{outcome}
use Rattle.szl.specs.Promise.{IsStatusOf, MeansSource}

answered : (answer : Answer) (s : Status) → IsStatusOf answer s → s ≢ status.ReadFailed → s ≢ status.WriteFailed
    → (s ≡ status.NoMemory) ⊎ (s ≡ answer.status)
answered answer status.ReadFailed is read written = absurd (read refl)
answered answer status.WriteFailed is read written = absurd (written refl)
answered answer status.NoMemory is read written = inl refl
answered answer _ is read written = inr is

pub completes : {F O E : Type 0} (the_files : files.Ghosts F) (the_out : sink.Ghosts O) (the_err : sink.Ghosts E) (words : List (List ℕ))
    (s : Status) (files new_files : F) (out new_out : O) (err new_err : E)
    → MeansSource the_files the_out the_err words s files new_files out new_out err new_err → s ≢ status.ReadFailed → s ≢ status.WriteFailed
    → Completes the_files the_out the_err words s files new_files out new_out err new_err
completes the_files the_out the_err words s files new_files out new_out err new_err means read written =
    record { means = means; status_is = answered (outcome words means.file means.reading means.cut means.merged) s means.answers read written }

-- a count that is always 0 doesn't rise
pub never_rises : Rose 0 0 → ⊥
never_rises (inl more) = omega (arith, more)
never_rises (inr stands) = omega (arith, stands)
