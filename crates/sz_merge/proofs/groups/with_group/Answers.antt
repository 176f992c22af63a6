-- Each turn joins the last group to the one that is put behind it.
use Rattle.std.proofs.Common.{◌++◌, ◌∷◌, [], subst}
use Rattle.sz_merge.specs.Together.{CanBeTogether}
use Rattle.sz_merge.specs.Groups.{held_by, Regroups}
use Rattle.sz_merge.proofs.GroupLemmas.{can_two, held_two, regroups_last}
use Rattle.sz_merge.proofs.groups.with_group.Goals as goal

pub joined-requires : goal.joined-requires
joined-requires c =
    let left = c.take_small.new.groups.items in
    let last = c.in-Some.last in
    let group = c.loop-last.group.saved in
    record {
      can = can_two last.saved group (held_by left)
          (subst CanBeTogether
          (held_two left c.loop-last.groups.items last group c.in-Some.ensures.some) c.loop-last.invariant.can);
    }

pub loop-last-preserved : goal.loop-last-preserved
loop-last-preserved c =
    let left = c.take_small.new.groups.items in
    let last = c.in-Some.last in
    let group = c.loop-last.group.saved in
    let before = held_by c.args.groups.items ++ c.args.group.saved ∷ [] in
    regroups_last before (held_by left) last.saved group c.in_ok-group.group.saved c.in_ok-group.ensures.value
    (subst (Regroups before)
    (held_two left c.loop-last.groups.items last group c.in-Some.ensures.some) c.loop-last.invariant)
