use Rattle.std.proofs.Common.{◌||◌, ap, sym, ◌∙◌}
use Rattle.sz_book_rules.specs.Machine.{draw_reply}
use Rattle.sz_claims.proofs.SoundLemmas.{sound_draw, none_is}
use Rattle.sz_claims.proofs.ledger.Ledger.draw.Goals as goal

pub invariant_of-pass : goal.invariant_of-pass
invariant_of-pass g c =
    let f = c.draw_found-found in
    let reply = c.ticket_found-claim.ensures.value ∙ ap (λ k. draw_reply k.plan f.result) (sym c.self.invariant.key) in
    let vain = c.or-vain.ensures ∙ ap (λ b. c.pass.inside.no_ticket || b) (none_is _ _ c.is_none.ensures) in
    sound_draw c.self.inside.setup.plan _ _ _ _ _ _ _ _ _ _ c.ticket_found-claim.result c.pass.invariant f.ensures.call.0 f.ensures.call.1 reply vain
