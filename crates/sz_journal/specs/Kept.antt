-- A journal that keeps its rounds, as its callers see it.
use Rattle.std.specs.Prelude.{Result, Ok, Err}
use Rattle.sz_journal.specs.declared.error.OpenError.{OpenError}
use Rattle.sz_journal.specs.declared.journal.Journal.{Journal}
use Rattle.sz_journal.specs.declared.tail.Tail.{Tail}

-- where it ends, which tells its rounds too
abbrev pub tail_of : Journal → Tail
tail_of journal = journal.tail

-- an answer, by where the journal ends
abbrev pub tail_in : Result Journal OpenError → Result Tail OpenError
tail_in (Ok journal) = Ok (tail_of journal)
tail_in (Err error) = Err error
