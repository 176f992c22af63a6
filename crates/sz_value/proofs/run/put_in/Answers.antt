-- The pair at the place of its key is written over, or a new one is put into the gap for it.
use mathlib.Core.Bool.{false≢true}
use Rattle.std.proofs.Common.{map}
use Rattle.sz_value.specs.Seen.{seen, seen_pair}
use Rattle.sz_value.proofs.MapLemmas.{put_over, put_between, value_missing}
use Rattle.sz_value.proofs.run.put_in.Goals as goal

pub returns-in-Ok-clause-ok : goal.returns-in-Ok-clause-ok
returns-in-Ok-clause-ok c =
    (put_over c.args.pairs.now.items c.in-Ok.place (record { key = c.args.key; value = c.args.value }) c.requires.rising
    (rw c.deref.ensures.value at c.in-Ok.ensures.found)).pairs

pub returns-in-Ok-clause-rising : goal.returns-in-Ok-clause-rising
returns-in-Ok-clause-rising c =
    (put_over c.args.pairs.now.items c.in-Ok.place (record { key = c.args.key; value = c.args.value }) c.requires.rising
    (rw c.deref.ensures.value at c.in-Ok.ensures.found)).rising

pub returns-in_ok-insert-in-Err-clause-ok : goal.returns-in_ok-insert-in-Err-clause-ok
returns-in_ok-insert-in-Err-clause-ok c =
    rw c.in_ok-insert-in-Err.ensures.items
    (put_between c.args.pairs.now.items c.in-Err.place (record { key = c.args.key; value = c.args.value })
    c.requires.rising (rw c.deref.ensures.value at c.in-Err.ensures.none)).pairs

pub returns-in_ok-insert-in-Err-clause-rising : goal.returns-in_ok-insert-in-Err-clause-rising
returns-in_ok-insert-in-Err-clause-rising c =
    rw c.in_ok-insert-in-Err.ensures.items
    (put_between c.args.pairs.now.items c.in-Err.place (record { key = c.args.key; value = c.args.value })
    c.requires.rising (rw c.deref.ensures.value at c.in-Err.ensures.none)).rising

-- What asks for memory is a key that is not there.
pub returns-in_err-insert-in-Err-clause-room : goal.returns-in_err-insert-in-Err-clause-room
returns-in_err-insert-in-Err-clause-room c there =
    let gap = rw c.deref.ensures.value at c.in-Err.ensures.none in
    let missing =
    value_missing (seen c.args.key) (map seen_pair c.args.pairs.now.items) c.in-Err.place c.requires.rising gap in
    absurd (false≢true (rw missing at there))

pub returns-then-room-eq0-clause-room : goal.returns-then-room-eq0-clause-room
returns-then-room-eq0-clause-room c there =
    let gap = rw c.deref.ensures.value at c.in-Err.ensures.none in
    let missing =
    value_missing (seen c.args.key) (map seen_pair c.args.pairs.now.items) c.in-Err.place c.requires.rising gap in
    absurd (false≢true (rw missing at there))
