-- The bounds of what a command line asks for.
use Rattle.std.specs.Prelude.{◌≡◌, ℕ, ◌≤◌, ◌^◌, false, length, ⊤}
use Rattle.sz_words.specs.declared.reading.Numbers.{Numbers}
use Rattle.sz_words.specs.declared.settings.RunSettings.{RunSettings}
use Rattle.sz_words.specs.declared.settings.Settings.{Settings}
use Rattle.sz_words.specs.declared.settings.Settings.TheVariants.{Run, Selftest, Resume, Merge}

-- the number is within these bounds
abbrev pub InRange : ℕ → ℕ → ℕ → Type 0
InRange least most n = (least ≤ n) × (n ≤ most)

-- there are 1 to 64 workers, the budget of a run is one that a record can have, a shard has a record, and there are 1
-- to 8 attempts on it
pub record HasBounds (s : RunSettings) : Type 0 where
  pub least_workers : 1 ≤ s.workers
  pub most_workers : s.workers ≤ 64
  pub least_budget : 1 ≤ s.budget
  pub most_budget : s.budget ≤ 2 ^ 32
  pub shard : 1 ≤ s.shard
  pub least_attempts : 1 ≤ s.attempts
  pub most_attempts : s.attempts ≤ 8

-- the same of the numbers alone
pub record NumbersHaveBounds (n : Numbers) : Type 0 where
  pub workers : InRange 1 64 n.workers
  pub budget : InRange 1 (2 ^ 32) n.budget
  pub shard : InRange 1 65536 n.shard
  pub attempts : InRange 1 8 n.attempts

-- what is asked for has its bounds: those of a run, and that the tables of a job which is resumed aren't saved; the
-- numbers of records and of workers of a self test, and that of files to join
abbrev pub IsBounded : Settings → Type 0
IsBounded (Run s) = HasBounds s
IsBounded (Resume s) = HasBounds s × (s.save ≡ false)
IsBounded (Selftest seed records workers) = (records ≤ 1000000) × ((1 ≤ workers) × (workers ≤ 64))
IsBounded (Merge files save) = InRange 1 64 (length files)
IsBounded _ = ⊤
