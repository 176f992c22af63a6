-- The front is the first place.
use Rattle.sz_value.proofs.MarkLemmas.{front_marked}
use Rattle.sz_value.proofs.marked.MarkedText.new.Goals as goal

pub with_more-requires : goal.with_more-requires
with_more-requires c = record { marks = rw c.in_ok-front.ensures.value (front_marked _ c.as_str.utf8) }
