-- The copy of a pair is put behind the copies of those before it.
use Rattle.sz_value.proofs.PlaceLemmas.{copied_more}
use Rattle.sz_value.proofs.copying.+copy.Goals as goal

pub copy_pairs-loop-place-preserved : goal.copy_pairs-loop-place-preserved
copy_pairs-loop-place-preserved n c =
    copied_more c.args.pairs.now c.loop-place.place c.loop-place.made.items c.push.new.self.items
    c.in_ok-copy_pair.field-0 c.pair.result.now
    c.pair.ensures.value c.in_ok-copy_pair.ensures.value c.in_ok-push.ensures.items c.loop-place.invariant
