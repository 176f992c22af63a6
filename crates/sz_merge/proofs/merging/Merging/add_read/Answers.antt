-- The groups with the file are those of its state too.
use Rattle.std.proofs.Common.{sym, subst}
use Rattle.std.proofs.lemmas.Result.{err_from_is_err_and}
use Rattle.sz_merge.specs.Groups.{held_by, AreOf}
use Rattle.sz_merge.specs.Reading.{FitsBehind}
use Rattle.sz_merge.proofs.ReadingLemmas.{head_unread, read_stops, read_added, read_bound}
use Rattle.sz_merge.proofs.merging.Merging.add_read.Goals as goal

pub returns-in_err-more-clause-stopped : goal.returns-in_err-more-clause-stopped
returns-in_err-more-clause-stopped c before are =
    let p = err_from_is_err_and c.from_residual.result c.from_residual.ensures.1 in
    rw (p.1, p.2) (head_unread before c.args.bytes.now c.in_err-more.field-0.0 c.in_err-more.ensures.value)

pub with_read-requires-clause-can : goal.with_read-requires-clause-can
with_read-requires-clause-can c = c.self.invariant.can

pub with_read-requires-clause-low : goal.with_read-requires-clause-low
with_read-requires-clause-low c = (subst (λ l. FitsBehind l c.args.bytes.now) (sym c.self.view_is) c.requires.fits).low

pub returns-in_err-now-clause-stopped : goal.returns-in_err-now-clause-stopped
returns-in_err-now-clause-stopped c before are =
    let p = err_from_is_err_and c.from_residual-in_err-now.result c.from_residual-in_err-now.ensures.1 in
    rw (p.1, p.2) (read_stops (held_by c.self.inside.groups.items) before c.args.bytes.now c.in_err-now.field-0.0
    (subst (λ l. AreOf l before) (sym c.self.view_is) are) c.in_err-now.ensures.stopped)

pub invariant_of-result : goal.invariant_of-result
invariant_of-result c =
    read_bound (held_by c.self.inside.groups.items)
    (held_by c.in_ok-now.now.items) c.args.bytes.now c.self.inside.bound c.in_ok-more.more
    c.in_ok-more.field-0-1.now c.self.invariant.is c.in_ok-more.ensures.value c.in_ok-now.ensures.value

pub returns-clause-ok : goal.returns-clause-ok
returns-clause-ok c before are =
    read_added (held_by c.self.inside.groups.items) before c.args.bytes.now (held_by c.in_ok-now.now.items)
    (subst (λ l. AreOf l before) (sym c.self.view_is) are)
    (subst (λ l. FitsBehind l c.args.bytes.now) (sym c.self.view_is) c.requires.fits) c.in_ok-now.ensures.value
