use Rattle.std.proofs.Common.{ℕ, ◌<◌, bit_or, sym, subst, arith}
use Rattle.std.proofs.lemmas.Nat.{one_shl}
use Rattle.sz_book_rules.specs.declared.event.Event.TheVariants.{Died}
use Rattle.sz_book_rules.specs.declared.event.Reply.TheVariants.{Noted}
use Rattle.sz_claims.specs.Rule.{view_of, deaths_at}
use Rattle.sz_claims.specs.Moves.{Moves}
use Rattle.sz_claims.proofs.ShardLemmas.{died_moves}
use Rattle.sz_claims.proofs.ledger.death.Goals as goal

pub step-requires-clause-may : goal.step-requires-clause-may
step-requires-clause-may g c =
    let p = c.args.shared.now.key.plan in
    let lanes = c.args.shared.now.key.lanes in
    let v = (view_of c.args.seat.now.me) in
    let small : c.args.number < 64 = (let s = c.requires.small in omega arith) in
    let P : ℕ → Type 0 = λ m. Moves v (deaths_at c.args.claim.now.shard) (λ n. bit_or n m) (Died c.args.claim.now c.args.number)
    (λ n. Noted) p lanes in
    record {
      live = c.requires.live;
      plain = tt;
      report = c.requires.died;
      moves =
          subst P (sym (one_shl c.args.number 64 small)) (died_moves p lanes v c.args.claim.now c.args.number c.requires.drew c.requires.given);
    }
