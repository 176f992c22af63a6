-- The two answers to a settlement.
use Rattle.sz_book.specs.Lanes.{ReceiptData}
use Rattle.sz_book.specs.declared.receipt.Settled.{Settled}
use Rattle.sz_book.specs.declared.receipt.Settled.TheVariants.{Won, Late}
use Rattle.sz_book_rules.specs.declared.event.Reply.{Reply}
use Rattle.sz_book_rules.specs.declared.event.Reply.TheVariants.{Won as ReplyWon, Late as ReplyLate}

-- the reply of the ledger that an answer tells
abbrev pub told_reply : Settled → Reply
told_reply (Won receipt) = ReplyWon
told_reply (Late winner) = ReplyLate winner

-- where the settlement was won, P holds of the receipt
abbrev pub IsWon : Settled → (ReceiptData → Type 0) → Type 0
IsWon (Won receipt) P = P receipt
IsWon (Late winner) P = Unit {0}
