use Rattle.sz_book.proofs.ChangeLemmas as changes
use Rattle.sz_book.proofs.laws.changes_are_seen.Goals as goal

pub returns : goal.returns
returns c = record { seen = changes.changes_are_seen }
