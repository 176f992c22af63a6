-- The value beside the key at its place is written over, or the key has a gap.
use Rattle.std.proofs.Common.{refl}
use Rattle.sz_value.specs.Seen.{seen}
use Rattle.sz_value.proofs.MapLemmas.{value_over, value_missing}
use Rattle.sz_value.proofs.run.replace_in.Goals as goal

pub returns-in-Ok-clause-ok : goal.returns-in-Ok-clause-ok
returns-in-Ok-clause-ok c =
    rw c.replace.ensures.after
    (value_over c.args.pairs.now.items c.in-Ok.place (seen c.args.key.now)
    c.index_mut.result.now c.args.value c.index_mut.ensures.value c.requires.rising
    (rw c.deref.ensures.value at c.in-Ok.ensures.found)).pairs

pub returns-in-Ok-clause-rising : goal.returns-in-Ok-clause-rising
returns-in-Ok-clause-rising c =
    rw c.replace.ensures.after
    (value_over c.args.pairs.now.items c.in-Ok.place (seen c.args.key.now)
    c.index_mut.result.now c.args.value c.index_mut.ensures.value c.requires.rising
    (rw c.deref.ensures.value at c.in-Ok.ensures.found)).rising

pub returns-in-Ok-clause-found : goal.returns-in-Ok-clause-found
returns-in-Ok-clause-found c =
    rw c.replace.ensures.value
    (value_over c.args.pairs.now.items c.in-Ok.place (seen c.args.key.now)
    c.index_mut.result.now c.args.value c.index_mut.ensures.value c.requires.rising
    (rw c.deref.ensures.value at c.in-Ok.ensures.found)).found

pub returns-in-Err-clause-none : goal.returns-in-Err-clause-none
returns-in-Err-clause-none c = (
  refl,
  value_missing
      (seen c.args.key.now) _ c.in-Err.field-0 c.requires.rising (rw c.deref.ensures.value at c.in-Err.ensures.none),
)
