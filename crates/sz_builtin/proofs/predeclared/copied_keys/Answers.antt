-- One key more was copied.
use Rattle.std.proofs.Common.{◌∙◌, [], ◌∷◌, ◌++◌, sym}
use Rattle.sz_value.specs.Seen.{seen_pair}
use Rattle.sz_builtin.proofs.Parts.{keys_taken}
use Rattle.sz_builtin.proofs.predeclared.copied_keys.Goals as goal

pub loop-place-preserved : goal.loop-place-preserved
loop-place-preserved c =
    c.in_ok-push.ensures.ok ∙ (λ i. c.loop-place.invariant i ++ c.in_ok-copy.ensures.value i ∷ [])
    ∙ sym (keys_taken c.args.pairs.now c.loop-place.place (seen_pair c.pair.result.now) c.pair.ensures.value)
