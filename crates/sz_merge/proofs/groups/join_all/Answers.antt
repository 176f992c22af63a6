-- Each turn joins the last group to what those behind it hold.
use Rattle.std.proofs.Common.{◌++◌, ◌∷◌, [], subst}
use Rattle.sz_merge.specs.Together.{CanBeTogether}
use Rattle.sz_merge.specs.Groups.{held_by, Regroups}
use Rattle.sz_merge.proofs.GroupLemmas.{can_two, held_two, regroups_last}
use Rattle.sz_merge.proofs.groups.join_all.Goals as goal

pub joined-requires : goal.joined-requires
joined-requires c =
    let left = c.pop-in-loop-group.new.self.items in
    let group = c.in-Some-pop.group in
    let all = c.loop-group.all.saved in
    record {
      can = can_two group.saved all (held_by left)
          (subst CanBeTogether
          (held_two left c.loop-group.groups.items group all c.in-Some-pop.ensures.items) c.loop-group.invariant.can);
    }

pub loop-group-preserved : goal.loop-group-preserved
loop-group-preserved c =
    let left = c.pop-in-loop-group.new.self.items in
    let group = c.in-Some-pop.group in
    let all = c.loop-group.all.saved in
    let before = held_by c.pop.new.self.items ++ c.in-Some.last.saved ∷ [] in
    regroups_last before (held_by left) group.saved all c.in_ok-all.all.saved c.in_ok-all.ensures.value
    (subst (Regroups before)
    (held_two left c.loop-group.groups.items group all c.in-Some-pop.ensures.items) c.loop-group.invariant)
