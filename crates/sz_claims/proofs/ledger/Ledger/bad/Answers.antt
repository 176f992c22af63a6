use Rattle.std.proofs.Common.{◌≡◌, ℕ, ◌+◌, ◌*◌, min, ap, sym, ◌∙◌, subst, refl, arith}
use Rattle.sz_book_rules.specs.declared.event.Event.TheVariants.{Bad}
use Rattle.sz_book_rules.specs.declared.event.Reply.TheVariants.{Noted}
use Rattle.sz_claims.specs.Rule.{view_of}
use Rattle.sz_claims.specs.Moves.{Moves}
use Rattle.sz_claims.proofs.SoundLemmas.{sound_quiet}
use Rattle.sz_claims.proofs.ShardLemmas.{bad_moves}
use Rattle.sz_claims.proofs.ledger.Ledger.bad.Goals as goal

pub step-requires-clause-may : goal.step-requires-clause-may
step-requires-clause-may g c =
    let p = c.self.inside.table.shared.key.plan in
    let lanes = c.self.inside.table.shared.key.lanes in
    let same : p.shards ≡ c.shards.result = ap (λ k. k.plan.shards) c.self.invariant.key ∙ sym c.shards.ensures.value in
    let plan : c.self.inside.setup.plan.shards ≡ c.args.self.now.plan.shards = ap (λ n. n.plan.shards) c.self.view_is in
    let P : ℕ → Type 0 = λ k. Moves (view_of c.pass.inside.seat.me) (3 * k + 1) (λ n. min n c.args.shard) (Bad c.args.shard) (λ n. Noted) p lanes in
    record {
      live = c.pass.invariant.live;
      plain = tt;
      report = c.requires.bad;
      moves =
          subst P same (bad_moves p lanes (view_of c.pass.inside.seat.me) c.args.shard (let low = c.requires.within in let v = c.shards.ensures.value in
          omega arith));
    }

pub invariant_of-pass : goal.invariant_of-pass
invariant_of-pass g c = sound_quiet _ _ _ _ _ _ _ _ _ _ c.pass.invariant c.step.ensures.call.0 c.step.ensures.call.1 refl (λ t. refl)
