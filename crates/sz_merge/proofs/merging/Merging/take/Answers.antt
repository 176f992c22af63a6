-- A state is added as a group of its own.
use Rattle.std.proofs.Common.{◌+◌, ◌^◌, ◌≤◌, rules, sym, ap, subst, arith}
use Rattle.sz_merge.specs.Together.{HasSameTables, bounds_of}
use Rattle.sz_merge.specs.Groups.{held_by, AreOf}
use Rattle.sz_merge.proofs.TogetherLemmas.{can_more}
use Rattle.sz_merge.proofs.GroupLemmas.{same_taken, low_taken, taken, bound_more}
use Rattle.sz_merge.proofs.merging.Merging.take.Goals as goal

pub overflow_add-bound : goal.overflow_add-bound
overflow_add-bound c =
    let low = subst (λ l. bounds_of l + c.args.saved.bound ≤ 2 ^ 63) (sym c.self.view_is) (low_taken c.requires.can) in
    let sum : c.self.inside.bound + c.bound.result ≤ 2 ^ 63 = omega (arith, low, c.self.invariant.is, c.bound.ensures.value) in
    search (rules, sum)

pub with_group-requires : goal.with_group-requires
with_group-requires c =
    let view = sym c.self.view_is in
    record {
      can = can_more (held_by c.self.inside.groups.items) c.args.saved c.self.invariant.can
          (subst (λ l. HasSameTables l c.args.saved) view (same_taken c.requires.can))
          (subst (λ l. bounds_of l + c.args.saved.bound ≤ 2 ^ 63) view (low_taken c.requires.can));
    }

pub invariant_of-result : goal.invariant_of-result
invariant_of-result c =
    bound_more (held_by c.self.inside.groups.items) (held_by c.in_ok-groups.groups.items) c.args.saved c.self.inside.bound
    (c.self.inside.bound + c.bound.result) c.self.invariant.is (ap (λ n. c.self.inside.bound + n) c.bound.ensures.value) c.in_ok-groups.ensures.value

pub returns : goal.returns
returns c =
    let view = sym c.self.view_is in
    record {
      value = λ before are. taken (subst (λ l. AreOf l before) view are) c.bound.ensures.can
          (subst (λ l. HasSameTables l c.args.saved) view (same_taken c.requires.can))
          (subst (λ l. bounds_of l + c.args.saved.bound ≤ 2 ^ 63) view (low_taken c.requires.can)) (held_by c.in_ok-groups.groups.items)
          c.in_ok-groups.ensures.value;
    }
