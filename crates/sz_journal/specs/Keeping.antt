-- What a keeper of rounds may be given.
use Rattle.std.specs.Prelude.{List, [], ◌∷◌, ◌++◌}
use Rattle.sz_types.specs.Tables.{Declaration}
use Rattle.sz_journal.specs.Rounds.{AreRounds}
use Rattle.sz_journal.specs.declared.job.JobBytes.{JobBytes}
use Rattle.sz_journal.specs.declared.round.RoundEntry.{RoundEntry}

-- the round is the next one of some job behind those that are kept
pub record IsNextKept {S : Type 0} (keeps : S → List Declaration → List RoundEntry → Type 0) (keeper : S) (round : RoundEntry) : Type 0 where
  pub job : JobBytes
  pub decls : List Declaration
  pub before : List RoundEntry
  pub kept : keeps keeper decls before
  pub are : AreRounds job decls (before ++ round ∷ [])
