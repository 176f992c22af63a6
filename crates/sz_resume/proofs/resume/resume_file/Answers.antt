use Rattle.std.proofs.Common.{[]}
use Rattle.std.proofs.lemmas.Result.{err_from_is_err_and}
use Rattle.sz_journal.specs.Journal.{rounds_of}
use Rattle.sz_resume.proofs.LeaveLemmas.{leaves_nothing, entries_none}
use Rattle.sz_resume.proofs.WayLemmas.{spelled_at}
use Rattle.sz_resume.proofs.TurnLemmas.{found_stands}
use Rattle.sz_resume.proofs.StartLemmas.{after_dropped, long_input, found_is, tells_all, tells_long}
use Rattle.sz_resume.proofs.resume.resume_file.Goals as goal

-- nothing was written
pub returns-in_err-resize-clause-stopped : goal.returns-in_err-resize-clause-stopped
returns-in_err-resize-clause-stopped g c input held name told rests is_told j found =
    let p = err_from_is_err_and c.from_residual.result c.from_residual.ensures.1 in (
      [],
      leaves_nothing (g.met.K.Disk.only_now c.args.disk.now) rests is_told (found_is rests.read j found),
      rw p.1 tt,
    )

pub returns-in_err-all-clause-stopped : goal.returns-in_err-all-clause-stopped
returns-in_err-all-clause-stopped g c input held name told rests is_told j found =
    let p = err_from_is_err_and c.from_residual-in_err-all.result c.from_residual-in_err-all.ensures.1 in (
      [],
      leaves_nothing (g.met.K.Disk.only_now c.args.disk.now) rests is_told (found_is rests.read j found),
      rw p.1 tt,
    )

pub returns-then-not-all-clause-stopped : goal.returns-then-not-all-clause-stopped
returns-then-not-all-clause-stopped g c input held name told rests is_told j found =
    ([], leaves_nothing (g.met.K.Disk.only_now c.args.disk.now) rests is_told (found_is rests.read j found), tt)

pub returns-in_err-resize-clause-entries : goal.returns-in_err-resize-clause-entries
returns-in_err-resize-clause-entries g c name held rests is_told j =
    entries_none (g.met.K.Disk.only_now c.args.disk.now) rests is_told (spelled_at rests.read j)

pub returns-in_err-all-clause-entries : goal.returns-in_err-all-clause-entries
returns-in_err-all-clause-entries g c name held rests is_told j =
    entries_none (g.met.K.Disk.only_now c.args.disk.now) rests is_told (spelled_at rests.read j)

pub returns-then-not-all-clause-entries : goal.returns-then-not-all-clause-entries
returns-then-not-all-clause-entries g c name held rests is_told j =
    entries_none (g.met.K.Disk.only_now c.args.disk.now) rests is_told (spelled_at rests.read j)

-- the rest is run
pub returns-clause-short_keeps : goal.returns-clause-short_keeps
returns-clause-short_keeps g c gate is = absurd (c.run_after.ensures.long gate is)

pub returns-clause-value : goal.returns-clause-value
returns-clause-value g c input held name told read found =
    let s = c.args.run.now in
    c.run_after.ensures.value input
    (after_dropped (rounds_of c.args.journal.now.tail) c.in_ok-all.ensures.value c.if-not-all.false c.done_after-done.ensures.value c.progress.ensures.value told)
    (found_stands c.args.run.now.job (record { frame = s.frame; most = s.shard; bytes = input }) name held (rounds_of c.args.journal.now.tail) found)

pub returns-clause-short : goal.returns-clause-short
returns-clause-short g c =
    tells_all c.args.journal.now.tail (g.F.Files.left c.args.files.now c.args.file) c.run_after.result
    (λ input told.
    tells_long c.args.journal.now.tail input c.run_after.result c.run_after.ensures.long
    (long_input (rounds_of c.args.journal.now.tail) c.in_ok-all.ensures.value c.if-not-all.false c.done_after-done.ensures.value c.progress.ensures.value told))

pub returns-clause-stopped : goal.returns-clause-stopped
returns-clause-stopped g c input held name told rests is_told j found =
    c.run_after.ensures.stopped input held name
    (after_dropped (rounds_of c.args.journal.now.tail) c.in_ok-all.ensures.value c.if-not-all.false c.done_after-done.ensures.value c.progress.ensures.value told) rests is_told j
    (found_is rests.read j found)

pub returns-clause-ended : goal.returns-clause-ended
returns-clause-ended g c input held name told rests j found =
    c.run_after.ensures.ended input held name
    (after_dropped (rounds_of c.args.journal.now.tail) c.in_ok-all.ensures.value c.if-not-all.false c.done_after-done.ensures.value c.progress.ensures.value told) rests j
    (found_is rests.read j found)
