use Rattle.std.proofs.Common.{◌∙◌, sym, subst}
use Rattle.std.proofs.lemmas.Option.{get_or_from_slice_get}
use Rattle.sz_book_rules.specs.Machine.{IsTried}
use Rattle.sz_book.specs.Cores.{CoreData}
use Rattle.sz_book_rules.proofs.StepLemmas.{shard_within}
use Rattle.sz_book.proofs.RoomLemmas.{sound_won}
use Rattle.sz_book.proofs.TakingLemmas.{settle_won}
use Rattle.sz_book.proofs.machine.Core.settle.Goals as goal

-- the shard has a row, and was not won
pub invariant_of-self : goal.invariant_of-self
invariant_of-self c =
    let tried =
    subst (λ (d : CoreData). IsTried d.plan d.state c.args.claim.now c.args.number) (sym c.self.view_is) c.requires in
    let was = get_or_from_slice_get c.self.inside.winners c.args.claim.now.shard c.get-winner.result.now 0
    c.get-winner.ensures.value in
    let sound = c.self.invariant.sound in
    let low = shard_within c.self.inside.plan _ c.args.claim.now sound.plan tried.claim in
    rw (c.set.ensures.value, c.set-2.ensures.value)
    (record {
      sound = sound_won c.self.inside.plan _ c.args.claim.now.shard c.args.number sound low tried.below
          (was ∙ c.if-winner-ne0.false);
      room = c.self.invariant.room;
    })

pub returns : goal.returns
returns c =
    let tried =
    subst (λ (d : CoreData). IsTried d.plan d.state c.args.claim.now c.args.number) (sym c.self.view_is) c.requires in
    let was = get_or_from_slice_get c.self.inside.winners c.args.claim.now.shard c.get-winner.result.now 0
    c.get-winner.ensures.value in
    rw (← c.self.view_is) (settle_won _ c.args.claim.now c.args.number c.set.new.self c.set-2.new.self tried
    (was ∙ c.if-winner-ne0.false) c.set.ensures.value c.set-2.ensures.value)
