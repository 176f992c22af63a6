-- What the rounds of a journal stand for: the first shards of an input, none of which decides.
use Rattle.std.specs.Prelude.{◌≡◌, ◌⊎◌, ℕ, ◌+◌, ◌*◌, List, [], ◌∷◌, ◌++◌, length}
use Rattle.sz_types.specs.declared.frame.Frame.{Frame}
use Rattle.sz_mean.specs.Marked.{all_tables}
use Rattle.sz_tabs.specs.Data.{EmitDatum}
use Rattle.sz_save.specs.Saving.{state_of_emits}
use Rattle.sz_records.specs.declared.ending.Ending.{Ending}
use Rattle.sz_records.specs.Cutting.{full, IsCut, place_after}
use Rattle.sz_records.specs.Shards.{AreShards}
use Rattle.sz_attempt.specs.declared.job.Job.{Job}
use Rattle.sz_attempt.specs.Shards.{ShardData}
use Rattle.sz_workers.specs.Outcomes.{emitted, outcome_from, all_records}
use Rattle.sz_workers.specs.Cuts.{cut_into}
use Rattle.sz_disk.specs.Entries.{IsEmpty}
use Rattle.sz_journal.specs.declared.job.JobBytes.{JobBytes}
use Rattle.sz_journal.specs.declared.progress.Progress.{Progress}
use Rattle.sz_journal.specs.declared.round.RoundEntry.{RoundEntry}
use Rattle.sz_journal.specs.Rounds.{no_progress, progress_of}
use Rattle.sz_journal.specs.Journals.{Spells}

-- what a job is run over: the bytes of an input, how its records are told apart, and how many of them a shard has at most
pub record Source : Type 0 where
  pub frame : Frame
  pub most : ℕ
  pub bytes : List ℕ

-- where so many records of the input end
abbrev pub place_in : Source → ℕ → ℕ
place_in source count = place_after source.frame full 0 0 source.bytes count

-- The round is that of these shards, after what of the input is done. None of them decides. The round has how far the job has come with them,
-- and what is saved of all emits of those of their records that don't fault; its bound is the ticks of its records
pub record IsRoundOf (job : Job) (source : Source) (before : Progress) (shards : List ShardData) (round : RoundEntry) : Type 0 where
  pub emits : List EmitDatum
  pub passed : ℕ
  pub none_decides : outcome_from job before.passed shards ≡ emitted emits passed
  pub next_shard : round.next_shard ≡ before.shards + length shards
  pub records : round.records ≡ before.records + length (all_records shards)
  pub next_byte : round.next_byte ≡ place_in source round.records
  pub passed_so_far : round.passed ≡ before.passed + passed
  pub saved : round.saved ≡ state_of_emits (length (all_records shards) * job.budget) (all_tables job.compiled) emits

-- the rounds are those of the shards in front, whole shards each and in order, after what of the input is done; and these shards are left
abbrev pub AreRoundsOf : Job → Source → Progress → List ShardData → List RoundEntry → List ShardData → Type 0
AreRoundsOf job source before shards [] left = shards ≡ left
AreRoundsOf job source before shards (round ∷ rounds) left =
    (front : List ShardData) × (back : List ShardData) × (shards ≡ front ++ back) × IsRoundOf job source before front round
    × AreRoundsOf job source (progress_of round) back rounds left

-- The journal stands for a job with these rounds: it spells them, and they are those of the first shards of the input, so that these shards are
-- left. The job is told twice: by its name, which is what the journal has of it, and as what is run
pub record StandsFor (name : JobBytes) (job : Job) (source : Source) (image : List ℕ) (rounds : List RoundEntry) (left : List ShardData) : Type 0 where
  pub spells : Spells name (all_tables job.compiled) image rounds
  pub records : List (List ℕ)
  pub ending : Ending
  pub cut : IsCut source.frame full 0 0 source.bytes records ending
  pub sizes : List ℕ
  pub shards : AreShards source.most records sizes
  pub are : AreRoundsOf job source no_progress (cut_into 0 1 records sizes) rounds left

-- the same, whatever shards are left
abbrev pub Stands : JobBytes → Job → Source → List ℕ → List RoundEntry → Type 0
Stands name job source image rounds = (left : List ShardData) × StandsFor name job source image rounds left

-- the journal is one that a call of the job may find: an empty one, which has no round, or one that stands for the job with these rounds
abbrev pub IsFound : JobBytes → Job → Source → List ℕ → List RoundEntry → Type 0
IsFound name job source image rounds = (IsEmpty image × (rounds ≡ [])) ⊎ Stands name job source image rounds
