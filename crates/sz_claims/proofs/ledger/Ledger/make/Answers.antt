use Rattle.std.proofs.Common.{◌-◌, ◌++◌, ◌∷◌, ◌+◌, ◌*◌, ◌<◌, ◌^◌, false, replicate, ap, ◌∙◌, arith}
use Rattle.sz_claims.proofs.OpeningLemmas.{opens}
use Rattle.sz_claims.proofs.SoundLemmas.{sound_first}
use Rattle.sz_claims.proofs.ledger.Ledger.make.Goals as goal

pub new-requires : goal.new-requires
new-requires g c =
    opens g.T.Load.died g.T.Load.is_bad c.args.plan _ c.as_slice.result.now _ c.args.lanes.items c.shards.ensures.kept
    (c.as_slice.ensures.value ∙ c.in_ok-words.ensures ∙ ap (λ n. replicate (3 * n + 1) 0 ++ 2 ^ 32 ∷ replicate c.len-count.result 0) c.shards-3.ensures.value)
    c.in_ok-slots.ensures.value (let a = c.len-count.ensures in let b = c.args.lanes.ok.0 in omega arith) c.requires.empty

pub invariant_of-pass : goal.invariant_of-pass
invariant_of-pass g c =
    let e = c.in-Ok.ensures.ok in
    let small : c.args.passes < 2 ^ 32 = (let r = c.ranges.passes.fits in omega arith) in
    sound_first c.args.plan _ _ _ _ _ _ (ap (λ m. m.0) e.4) (ap (λ m. m.1) e.4) (c.in_ok-no_number.ensures
    ∙ ap (λ n. replicate n false) c.ticket_count.ensures.value) c.requires.passes small (c.in_ok-room.ensures
    ∙ ap (λ n. replicate (c.args.passes - 1) (replicate n false)) c.ticket_count-2.ensures.value)
