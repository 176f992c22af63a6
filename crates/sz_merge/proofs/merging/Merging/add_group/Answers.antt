-- A file is added as a group of its own.
use Rattle.std.proofs.Common.{◌∙◌, ◌+◌, ◌^◌, ◌≤◌, sym, ap, subst}
use Rattle.std.proofs.lemmas.Result.{err_from_is_err_and}
use Rattle.sz_merge.specs.Together.{HasSameTables, bounds_of}
use Rattle.sz_merge.specs.Groups.{held_by, AreOf}
use Rattle.sz_merge.proofs.TogetherLemmas.{can_more}
use Rattle.sz_merge.proofs.GroupLemmas.{added, unfit_stops, bound_more}
use Rattle.sz_merge.proofs.merging.Merging.add_group.Goals as goal

-- the state can't be joined
pub returns-in_err-bound-clause-stopped : goal.returns-in_err-bound-clause-stopped
returns-in_err-bound-clause-stopped c before are =
    let p = err_from_is_err_and c.from_residual-in_err-bound.result c.from_residual-in_err-bound.ensures.1 in
    rw (p.1, p.2) (unfit_stops c.args.self before c.args.bytes.now c.in_ok-saved.saved are
    c.in_ok-saved.ensures.value c.in_err-bound.field-0.0 c.in_err-bound.ensures.unfit)

pub with_group-requires : goal.with_group-requires
with_group-requires c =
    let saved = c.in_ok-saved.saved in
    let view = sym c.self.view_is in
    let same = subst (λ l. HasSameTables l saved) view c.in_ok-bound.ensures.same in
    let is = c.in_ok-bound.ensures.bound ∙ ap (λ l. bounds_of l + saved.bound) view in
    record {
      can = can_more (held_by c.self.inside.groups.items) saved c.self.invariant.can same
          (subst (λ n. n ≤ 2 ^ 63) is c.in_ok-bound.ensures.low);
    }

pub invariant_of-result : goal.invariant_of-result
invariant_of-result c =
    let saved = c.in_ok-saved.saved in
    let is = c.in_ok-bound.ensures.bound ∙ ap (λ l. bounds_of l + saved.bound) (sym c.self.view_is)
    ∙ ap (λ n. n + saved.bound) (sym c.self.invariant.is) in
    bound_more (held_by c.self.inside.groups.items)
    (held_by c.in_ok-groups.groups.items) saved c.self.inside.bound c.in_ok-bound.bound c.self.invariant.is
    is c.in_ok-groups.ensures.value

pub returns-clause-ok : goal.returns-clause-ok
returns-clause-ok c before are =
    let saved = c.in_ok-saved.saved in
    let view = sym c.self.view_is in
    let same = subst (λ l. HasSameTables l saved) view c.in_ok-bound.ensures.same in
    let is = c.in_ok-bound.ensures.bound ∙ ap (λ l. bounds_of l + saved.bound) view in
    added (held_by c.self.inside.groups.items) before c.args.bytes.now saved
    (subst (λ l. AreOf l before) view are) c.in_ok-saved.ensures.value
    (held_by c.in_ok-groups.groups.items) same
    (subst (λ n. n ≤ 2 ^ 63) is c.in_ok-bound.ensures.low) c.in_ok-groups.ensures.value
