-- What stands in front of the bytes of an entry, and what follows it.
use Rattle.std.specs.Prelude.{◌≡◌, ℕ, ◌==◌, ◌&&◌, nat_le, Bool, true, false, if◌then◌else◌, Option, Some, None, List, length, take, drop, bytes_eq}
use Rattle.std.specs.declared.result.Result.{Result}
use Rattle.std.specs.declared.result.Result.TheVariants.{Ok, Err}
use Rattle.sz_types.specs.declared.frame.Frame.{Frame}
use Rattle.sz_types.specs.declared.frame.Frame.TheVariants.{Lines, Delimited}
use Rattle.sz_save_format.specs.Decoding.{Decoder, and_then, both, only, length_at, byte_at, in_front, counted_at}
use Rattle.sz_save_format.specs.DecodingRows.{count_at}
use Rattle.sz_save_format.specs.declared.error.SavedError.{SavedError}
use Rattle.sz_save_format.specs.declared.error.SavedError.TheVariants as saved
use Rattle.sz_journal.specs.Jobs.{mark}
use Rattle.sz_journal.specs.declared.entry_error.EntryError.{EntryError}
use Rattle.sz_journal.specs.declared.entry_error.EntryError.TheVariants.{NotEntry, NoMemory}
use Rattle.sz_journal.specs.declared.job.JobBytes.{JobBytes}
use Rattle.sz_journal.specs.declared.job.Triple.{Triple}
use Rattle.sz_journal.specs.declared.progress.Progress.{Progress}

-- the mark of a job
unfoldable pub mark_at : Decoder ℕ
mark_at flat = only (nat_le 8 (length flat) && bytes_eq (take 8 flat) mark) (Some (0, drop 8 flat))

-- the frame with a byte, and the truth value with one
abbrev pub frame_in : ℕ → Option Frame
frame_in n = if n == 0 then Some Lines else (if n == 1 then Some Delimited else None)

abbrev pub flag_in : ℕ → Option Bool
flag_in n = if n == 0 then Some false else (if n == 1 then Some true else None)

-- what one byte means
unfoldable pub meant_at : {X : Type 0} → (ℕ → Option X) → Decoder X
meant_at meaning flat = and_then (byte_at flat) (λ b rest. in_front (meaning b) rest)

-- an attempt that dies
unfoldable pub triple_at : Decoder Triple
triple_at flat =
    and_then (both length_at (both length_at length_at) flat)
    (λ p rest. Some (record { shard = p.0; number = p.1.0; after = p.1.1 }, rest))

-- a text behind its length in 8 bytes
unfoldable pub text_at : Decoder (List ℕ)
text_at flat = and_then (count_at flat) (λ n rest. only (nat_le n (length rest)) (Some (take n rest, drop n rest)))

-- the parts of a job, and the job of the parts
abbrev pub JobParts : Type 0
JobParts = Frame × (ℕ × (ℕ × (ℕ × (Bool × (ℕ × (List Triple × (List ℕ × (List ℕ × List ℕ))))))))

abbrev pub job_of : JobParts → JobBytes
job_of p = record {
  frame = p.0;
  shard = p.1.0;
  attempts = p.1.1.0;
  budget = p.1.1.1.0;
  ignoring = p.1.1.1.1.0;
  skip = p.1.1.1.1.1.0;
  kills = p.1.1.1.1.1.1.0;
  doubled = p.1.1.1.1.1.1.1.0;
  program = p.1.1.1.1.1.1.1.1.0;
  proto = p.1.1.1.1.1.1.1.1.1;
}

abbrev pub parts_at : Decoder JobParts
parts_at =
    both (meant_at frame_in) (both length_at (both length_at (both count_at (both (meant_at flag_in) (both length_at
    (both (counted_at triple_at) (both (counted_at length_at) (both text_at text_at))))))))

-- a job, all of it
unfoldable pub job_at : Decoder JobBytes
job_at flat = and_then (mark_at flat)
    (λ _ rest. and_then (parts_at rest) (λ p left. only (length left == 0) (Some (job_of p, left))))

-- how far the job has come, in front of the tables of a round
unfoldable pub progress_at : Decoder Progress
progress_at flat =
    and_then (both count_at (both count_at (both count_at length_at)) flat)
    (λ p rest. Some (record { shards = p.0; records = p.1.0; bytes = p.1.1.0; passed = p.1.1.1 }, rest))

-- it stopped there for want of memory, of which nothing is said, or since no such thing was there
abbrev pub Stops : {Y : Type 0} → Option Y → EntryError → Type 0
Stops found NotEntry = found ≡ None
Stops found NoMemory = Unit {0}

-- what was read is what was there, or it stopped there
abbrev pub Reads : {X Y : Type 0} → (X → Y) → Option Y → Result X EntryError → Type 0
Reads seen_found found (Ok x) = found ≡ Some (seen_found x)
Reads seen_found found (Err error) = Stops found error

-- why an entry isn't read whose saved tables aren't
abbrev pub entry_error : SavedError → EntryError
entry_error saved.NotSaved = NotEntry
entry_error saved.NoMemory = NoMemory
