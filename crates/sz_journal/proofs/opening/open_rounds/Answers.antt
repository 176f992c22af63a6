-- The disk is synced and read; where it holds no entry, it begins with that of the job.
use Rattle.std.proofs.Common.{◌≡◌, ◌∙◌, sym}
use Rattle.std.proofs.lemmas.Result.{err_from_is_err_and}
use Rattle.sz_journal.specs.Jobs.{job_bytes}
use Rattle.sz_journal.proofs.LeftLemmas.{nothing_both, rests_read}
use Rattle.sz_journal.proofs.OpenLemmas.{fits_outside, fits_first, first_none, first_read, fits_started, keeps_started, leaves_read, leaves_started, keeps_read}
use Rattle.sz_journal.proofs.opening.open_rounds.Goals as goal

pub returns-in_err-count-clause-causes : goal.returns-in_err-count-clause-causes
returns-in_err-count-clause-causes g c held told =
    let p = err_from_is_err_and c.from_residual-in_err-count.result c.from_residual-in_err-count.ensures.1 in
    fits_outside c.args.job.now c.args.decls.now held
    c.from_residual-in_err-count.result c.in_err-count.field-0.0 p.0 p.1 p.2

pub returns-in_err-count-clause-leaves : goal.returns-in_err-count-clause-leaves
returns-in_err-count-clause-leaves g c held told is_told = leaves_read c.args.job.now c.args.decls.now held c.settle.ensures.kept

pub returns-in_err-has_job-clause-causes : goal.returns-in_err-has_job-clause-causes
returns-in_err-has_job-clause-causes g c held told =
    let p = err_from_is_err_and c.from_residual-in_err-has_job.result c.from_residual-in_err-has_job.ensures.1 in
    let own : c.deref.result.now ≡ job_bytes c.args.job.now = c.deref.ensures.value ∙ c.in_ok-entry.ensures.value in
    fits_first c.args.job.now c.args.decls.now held c.from_residual-in_err-has_job.result c.in_err-has_job.field-0.0 p.0
    (c.in_err-has_job.ensures.value c.args.job.now c.args.decls.now held own (c.settle.ensures.kept.same ∙ told))
    p.1 p.2

pub returns-in_err-has_job-clause-leaves : goal.returns-in_err-has_job-clause-leaves
returns-in_err-has_job-clause-leaves g c held told is_told =
    leaves_read c.args.job.now c.args.decls.now held (nothing_both c.settle.ensures.kept c.has_job.ensures.kept)

pub returns-then-not-branch-clause-causes : goal.returns-then-not-branch-clause-causes
returns-then-not-branch-clause-causes g c held told =
    let own : c.deref.result.now ≡ job_bytes c.args.job.now = c.deref.ensures.value ∙ c.in_ok-entry.ensures.value in
    let none =
    first_none c.args.job.now c.args.decls.now held c.in_ok-has_job.field-0
    (c.in_ok-has_job.ensures.value c.args.job.now c.args.decls.now held own (c.settle.ensures.kept.same ∙ told))
    c.if-not-branch.true in
    fits_started c.args.job.now c.args.decls.now held c.start.result none
    c.start.ensures.rounds c.start.ensures.other c.start.ensures.damaged

pub returns-then-not-branch-clause-ok : goal.returns-then-not-branch-clause-ok
returns-then-not-branch-clause-ok g c held told =
    let own : c.deref.result.now ≡ job_bytes c.args.job.now = c.deref.ensures.value ∙ c.in_ok-entry.ensures.value in
    let entry : c.deref-then-not-branch.result.now ≡ job_bytes c.args.job.now =
    c.deref-then-not-branch.ensures.value ∙ c.in_ok-entry.ensures.value in
    let none =
    first_none c.args.job.now c.args.decls.now held c.in_ok-has_job.field-0
    (c.in_ok-has_job.ensures.value c.args.job.now c.args.decls.now held own (c.settle.ensures.kept.same ∙ told))
    c.if-not-branch.true in
    let rests = rests_read told c.settle.ensures.kept c.in_ok-count.ensures.synced c.has_job.ensures.kept in
    keeps_started c.args.job.now c.args.decls.now c.deref-then-not-branch.result.now (g.K.Disk.bytes c.start.new.disk)
    (g.K.Disk.may_leave c.start.new.disk) c.start.result entry
    (c.start.ensures.ok held rests none) c.start.ensures.rounds

pub returns-then-not-branch-clause-leaves : goal.returns-then-not-branch-clause-leaves
returns-then-not-branch-clause-leaves g c held told is_told =
    let own : c.deref.result.now ≡ job_bytes c.args.job.now = c.deref.ensures.value ∙ c.in_ok-entry.ensures.value in
    let entry : c.deref-then-not-branch.result.now ≡ job_bytes c.args.job.now =
    c.deref-then-not-branch.ensures.value ∙ c.in_ok-entry.ensures.value in
    let none =
    first_none c.args.job.now c.args.decls.now held c.in_ok-has_job.field-0
    (c.in_ok-has_job.ensures.value c.args.job.now c.args.decls.now held own (c.settle.ensures.kept.same ∙ told))
    c.if-not-branch.true in
    let kept = nothing_both c.settle.ensures.kept c.has_job.ensures.kept in
    let rests = rests_read told c.settle.ensures.kept c.in_ok-count.ensures.synced c.has_job.ensures.kept in
    leaves_started c.args.job.now c.args.decls.now held entry kept none
    (c.start.ensures.leaves held rests none (kept.told_now ∙ is_told))

pub read_rounds-requires-clause-first : goal.read_rounds-requires-clause-first
read_rounds-requires-clause-first g c held told =
    let own : c.deref.result.now ≡ job_bytes c.args.job.now = c.deref.ensures.value ∙ c.in_ok-entry.ensures.value in
    first_read c.args.job.now c.args.decls.now held c.in_ok-has_job.field-0
    (c.in_ok-has_job.ensures.value c.args.job.now c.args.decls.now held own (sym c.has_job.ensures.kept.same ∙ told))
    c.if-not-branch.false

pub returns-clause-ok : goal.returns-clause-ok
returns-clause-ok g c held told =
    let read = nothing_both c.has_job.ensures.kept c.read_rounds.ensures.kept in
    let rests = rests_read told c.settle.ensures.kept c.in_ok-count.ensures.synced read in
    keeps_read c.args.job.now c.args.decls.now held (g.K.Disk.bytes c.read_rounds.new.disk)
    (g.K.Disk.may_leave c.read_rounds.new.disk) c.read_rounds.result rests
    (c.read_rounds.ensures.value held (c.has_job.ensures.kept.same ∙ c.settle.ensures.kept.same ∙ told))

pub returns-clause-leaves : goal.returns-clause-leaves
returns-clause-leaves g c held told is_told =
    leaves_read c.args.job.now c.args.decls.now held (nothing_both (nothing_both c.settle.ensures.kept c.has_job.ensures.kept) c.read_rounds.ensures.kept)
