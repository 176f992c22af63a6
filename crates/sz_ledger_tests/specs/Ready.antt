-- What a pass is at, as its own calls show it.
use Rattle.sz_book_rules.specs.History.{HasDrawn, HasNumber}
use Rattle.sz_claims.specs.Known.{PassData}
use Rattle.sz_ledger_tests.specs.declared.progress.At.{At}
use Rattle.sz_ledger_tests.specs.declared.progress.At.TheVariants.{Rest, Ticket, Attempt}

-- the pass drew the ticket that it is at, and was given the number
abbrev pub IsReady : At → PassData → Type 0
IsReady Rest v = Unit {0}
IsReady (Ticket c) v = HasDrawn c v.mine
IsReady (Attempt c k) v = HasDrawn c v.mine × HasNumber c k v.mine
