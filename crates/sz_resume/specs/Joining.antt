-- What the rounds of a journal hold together, while they come.
use Rattle.std.specs.Prelude.{ℕ, List, ◌∷◌, map, Option}
use Rattle.sz_types.specs.Tables.{Declaration}
use Rattle.sz_mean.specs.Marked.{all_tables}
use Rattle.sz_attempt.specs.declared.job.Job.{Job}
use Rattle.sz_journal.specs.declared.job.JobBytes.{JobBytes}
use Rattle.sz_journal.specs.declared.round.RoundEntry.{RoundEntry}
use Rattle.sz_journal.specs.Journal.{rounds_of}
use Rattle.sz_merge.specs.Groups.{AreOf}
use Rattle.sz_resume.specs.Entries.{nothing, saved_in}
use Rattle.sz_resume.specs.Runs.{IsJournalOf}
use Rattle.sz_resume.specs.declared.joined.Joined.{Joined}
use Rattle.sz_resume.specs.declared.job_journal.JobJournal.{JobJournal}

-- the tables of these rounds were joined, after tables that hold nothing
abbrev pub HaveJoined : Joined → List Declaration → List RoundEntry → Type 0
HaveJoined joined decls rounds = AreOf joined.merging (nothing decls ∷ map saved_in rounds)

-- the journal is one of a job with some name, and the tables of its rounds were joined
pub record HasJournal (job : Job) (journal : JobJournal) (bytes : Option (List ℕ)) : Type 0 where
  pub name : JobBytes
  pub is : IsJournalOf name job journal.tail bytes
  pub joined : HaveJoined journal.joined (all_tables job.compiled) (rounds_of journal.tail)
