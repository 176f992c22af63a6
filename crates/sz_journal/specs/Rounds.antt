-- The rounds of a journal: their bytes, and which rounds may follow each other.
use Rattle.std.specs.Prelude.{◌≡◌, ℕ, ◌-◌, ◌*◌, ◌^◌, ◌<◌, ◌≤◌, ⊤, List, [], ◌∷◌, ◌++◌}
use Rattle.std.specs.List.{sum_by}
use Rattle.sz_types.specs.Tables.{Declaration}
use Rattle.sz_flat.specs.Spelling.{length_bytes, IsShort}
use Rattle.sz_save_format.specs.Entries.{count_bytes, IsCount}
use Rattle.sz_save_format.specs.Saved.{saved_bytes, CanBeSaved}
use Rattle.sz_journal.specs.declared.job.JobBytes.{JobBytes}
use Rattle.sz_journal.specs.declared.progress.Progress.{Progress}
use Rattle.sz_journal.specs.declared.round.RoundEntry.{RoundEntry}

-- the bytes of a round: the next shard, the records done and the next byte in 8 bytes each, the records passed over
-- so far in 4, and the saved tables of the round
abbrev pub round_bytes : RoundEntry → List ℕ
round_bytes round =
    count_bytes round.next_shard ++ (count_bytes round.records
    ++ (count_bytes round.next_byte ++ (length_bytes round.passed ++ saved_bytes round.saved)))

-- each number of the round has the bytes that its place has, and its tables can be saved
pub record IsSpelledRound (round : RoundEntry) : Type 0 where
  pub next_shard : IsCount round.next_shard
  pub records : IsCount round.records
  pub next_byte : IsCount round.next_byte
  pub passed : IsShort round.passed
  pub saved : CanBeSaved round.saved

-- the bytes are those of the round
pub record IsOfRound (bytes : List ℕ) (round : RoundEntry) : Type 0 where
  pub spelled : IsSpelledRound round
  pub is : bytes ≡ round_bytes round

-- nothing is done
abbrev pub no_progress : Progress
no_progress = record { shards = 0; records = 0; bytes = 0; passed = 0 }

-- where a round ends
abbrev pub progress_of : RoundEntry → Progress
progress_of round = record {
  shards = round.next_shard;
  records = round.records;
  bytes = round.next_byte;
  passed = round.passed;
}

-- where a job has come behind rounds that follow
abbrev pub progress_after : Progress → List RoundEntry → Progress
progress_after before [] = before
progress_after before (round ∷ rounds) = progress_after (progress_of round) rounds

-- where it has come behind all its rounds
abbrev pub last_progress : List RoundEntry → Progress
last_progress rounds = progress_after no_progress rounds

-- The numbers of the round go on from where a job has come so far: it has a shard, a record and a byte; there are no
-- more shards than records, no more than 2^31 records and 2^40 bytes; and no fewer records are passed over than
-- before.
pub record GoesOn (before : Progress) (round : RoundEntry) : Type 0 where
  pub more_shards : before.shards < round.next_shard
  pub more_records : before.records < round.records
  pub more_bytes : before.bytes < round.next_byte
  pub shards_have_records : round.next_shard ≤ round.records
  pub records : round.records ≤ 2 ^ 31
  pub bytes : round.next_byte ≤ 2 ^ 40
  pub passed_later : before.passed ≤ round.passed

-- The round may follow where a job has come so far: its numbers go on from there, and it passes over no more records
-- than the job says; and its saved tables are those of the program, with the number of its own records times the
-- job's budget as the bound.
pub record MayFollow (job : JobBytes) (decls : List Declaration) (before : Progress) (round : RoundEntry) : Type 0 where
  pub goes_on : GoesOn before round
  pub passed : round.passed ≤ job.skip
  pub saved : CanBeSaved round.saved
  pub same_decls : round.saved.decls ≡ decls
  pub bound : round.saved.bound ≡ (round.records - before.records) * job.budget

-- each of the rounds may follow those before it
abbrev pub Follow : JobBytes → List Declaration → Progress → List RoundEntry → Type 0
Follow job decls before [] = ⊤
Follow job decls before (round ∷ rounds) =
    MayFollow job decls before round × Follow job decls (progress_of round) rounds

-- the bounds of the rounds together
abbrev pub all_bounds : List RoundEntry → ℕ
all_bounds rounds = sum_by (λ (round : RoundEntry). round.saved.bound) rounds

-- the rounds may be those of the job, from its first shard on, and their bounds together are at most 2^63
pub record AreRounds (job : JobBytes) (decls : List Declaration) (rounds : List RoundEntry) : Type 0 where
  pub follow : Follow job decls no_progress rounds
  pub bounds : all_bounds rounds ≤ 2 ^ 63
