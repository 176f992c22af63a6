use Rattle.std.proofs.Common.{[], ◌∷◌, ◌++◌, ◌≡◌, ◌-◌, inr, IsTrue, rules, refl, sym, ap, ◌∙◌, subst, arith, append-nil, append_assoc}
use Rattle.std.proofs.lemmas.Result.{err_from_is_err_and}
use Rattle.sz_mean.specs.Marked.{all_tables}
use Rattle.sz_disk.proofs.GateForCallers.{falls_not_refl, falls_not_both}
use Rattle.sz_journal.specs.Rounds.{last_progress}
use Rattle.sz_journal.specs.Journal.{rounds_of}
use Rattle.sz_workers.specs.Outcomes.{outcome_from}
use Rattle.sz_workers.specs.Rounds.{shards_of}
use Rattle.sz_stream.specs.declared.stop.Stop.TheVariants as stops
use Rattle.sz_resume.specs.declared.halt.Halt.TheVariants as halts
use Rattle.sz_resume.specs.Halts.{of_file}
use Rattle.sz_resume.specs.Standing.{Source}
use Rattle.sz_resume.specs.Turns.{rest_from, StopsHalt}
use Rattle.sz_stream.proofs.ReachLemmas.{keeps_on}
use Rattle.sz_resume.proofs.LeaveLemmas.{leaves_nothing, entries_none, entries_both}
use Rattle.sz_resume.proofs.NumberLemmas.{small_more}
use Rattle.sz_resume.proofs.TurnLemmas.{found_stands, stands_more}
use Rattle.sz_resume.proofs.WayLemmas.{rest_told, way_starts, can_read, way_filled, few_first, has_next, way_over, way_ends, way_holds, way_halts, way_told, way_rises, way_on, way_unread, not_short, not_disk, on_any, spelled_at, keeps_at, so_not, way_leaves, none_not}
use Rattle.sz_resume.proofs.resume.run_after.Goals as goal

-- nothing was read
pub loop-intake-init : goal.loop-intake-init
loop-intake-init g c =
    let rounds = rounds_of c.args.journal.now.tail in
    let disk = c.args.disk.now in
    record {
      given = c.requires.given;
      room = c.requires.room;
      rises = omega arith;
      behind =
          way_starts rounds c.args.done c.behind-intake.result (g.F.Files.left c.args.files.now c.args.file) c.requires.can_resume.some c.requires.done
          c.requires.can c.requires.passed c.behind-intake.ensures.empty;
      journal_is = λ name j. j;
      grows = ([], sym (append-nil rounds), tt);
      stands = λ input told all. all;
      joined = c.requires.journal.joined;
      keeps = λ name held rests j. keeps_at rests j;
      entries = λ name held rests is_told j. entries_none (g.met.K.Disk.only_now disk) rests is_told (spelled_at rests.read j);
      stopped = λ input held name told rests is_told j stands.
          ([], leaves_nothing (g.met.K.Disk.only_now disk) rests is_told stands, sym (append-nil rounds));
      told = refl;
      kept = search rules;
      faults = falls_not_refl (g.K.Disk.faults disk);
    }

-- pieces can be read
pub fill_round-requires-clause-can_read : goal.fill_round-requires-clause-can_read
fill_round-requires-clause-can_read g c = can_read c.loop-intake.invariant.behind

-- what stands after the rounds
pub ended-requires : goal.ended-requires
ended-requires g c =
    record { some = (all_tables c.args.run.now.job.compiled, rounds_of c.loop-intake.journal.tail, c.loop-intake.invariant.joined) }

-- the answer where no shard is left
pub returns-in-Some-clause-value : goal.returns-in-Some-clause-value
returns-in-Some-clause-value g c input told all =
    let inv = c.loop-intake.invariant in
    let rounds = rounds_of c.loop-intake.journal.tail in
    let left = g.F.Files.left c.args.files.now c.args.file in
    let f = c.in_ok-fill_round.ensures in
    let b = way_filled inv.behind c.fill_round.new.intake (g.F.Files.left c.fill_round.new.files c.args.file) f.ok f.first f.first_shard in
    way_ends b f.ready (sym c.end.ensures.value ∙ c.in-Some.is) input
    (rest_told left input (last_progress (rounds_of c.args.journal.now.tail)).bytes (last_progress rounds).bytes inv.rises told) c.args.journal.now.tail
    (inv.stands input told all) c.ended.result (c.ended.ensures.value (all_tables c.args.run.now.job.compiled) (rounds_of c.loop-intake.journal.tail) c.loop-intake.invariant.joined)

pub returns-in-Some-clause-end : goal.returns-in-Some-clause-end
returns-in-Some-clause-end g c =
    let inv = c.loop-intake.invariant in
    let f = c.in_ok-fill_round.ensures in
    let b = way_filled inv.behind c.fill_round.new.intake (g.F.Files.left c.fill_round.new.files c.args.file) f.ok f.first f.first_shard in
    way_over b f.ready (sym c.end.ensures.value ∙ c.in-Some.is) c.ended.result (c.ended.ensures.value (all_tables c.args.run.now.job.compiled) (rounds_of c.loop-intake.journal.tail) c.loop-intake.invariant.joined)

pub returns-in-Some-clause-told : goal.returns-in-Some-clause-told
returns-in-Some-clause-told g c =
    let inv = c.loop-intake.invariant in
    let rounds = rounds_of c.loop-intake.journal.tail in
    let left = g.F.Files.left c.args.files.now c.args.file in
    let f = c.in_ok-fill_round.ensures in
    let b = way_filled inv.behind c.fill_round.new.intake (g.F.Files.left c.fill_round.new.files c.args.file) f.ok f.first f.first_shard in
    on_any c.ended.result _ (way_told b left ((last_progress rounds).bytes - (last_progress (rounds_of c.args.journal.now.tail)).bytes) refl)

pub returns-in-Some-clause-grows : goal.returns-in-Some-clause-grows
returns-in-Some-clause-grows g c = on_any c.ended.result _ c.loop-intake.invariant.grows

pub returns-in-Some-clause-long : goal.returns-in-Some-clause-long
returns-in-Some-clause-long g c gate is =
    so_not (all_tables c.args.run.now.job.compiled) (rounds_of c.loop-intake.journal.tail) c.in-Some.ending c.ended.result (halts.Short gate) (c.ended.ensures.value (all_tables c.args.run.now.job.compiled) (rounds_of c.loop-intake.journal.tail) c.loop-intake.invariant.joined) is

pub returns-in-Some-clause-failed : goal.returns-in-Some-clause-failed
returns-in-Some-clause-failed g c is =
    absurd
    (so_not (all_tables c.args.run.now.job.compiled) (rounds_of c.loop-intake.journal.tail) c.in-Some.ending c.ended.result (halts.Stopped stops.ReadFailed) (c.ended.ensures.value (all_tables c.args.run.now.job.compiled) (rounds_of c.loop-intake.journal.tail) c.loop-intake.invariant.joined) is)

pub returns-in-Some-clause-disk_failed : goal.returns-in-Some-clause-disk_failed
returns-in-Some-clause-disk_failed g c is =
    absurd
    (so_not (all_tables c.args.run.now.job.compiled) (rounds_of c.loop-intake.journal.tail) c.in-Some.ending c.ended.result halts.DiskFailed (c.ended.ensures.value (all_tables c.args.run.now.job.compiled) (rounds_of c.loop-intake.journal.tail) c.loop-intake.invariant.joined) is)

pub returns-in-Some-clause-stopped : goal.returns-in-Some-clause-stopped
returns-in-Some-clause-stopped g c input held name told rests is_told j stands =
    let t = c.loop-intake.invariant.stopped input held name told rests is_told j stands in (t.0, t.1, on_any c.ended.result _ t.2)

pub returns-in-Some-clause-ended : goal.returns-in-Some-clause-ended
returns-in-Some-clause-ended g c input held name told rests j stands =
    let s = c.args.run.now in
    let inv = c.loop-intake.invariant in
    let first = rounds_of c.args.journal.now.tail in
    let rounds = rounds_of c.loop-intake.journal.tail in
    let left = g.F.Files.left c.args.files.now c.args.file in
    let disk = c.loop-intake.disk in
    let f = c.in_ok-fill_round.ensures in
    let b = way_filled inv.behind c.fill_round.new.intake (g.F.Files.left c.fill_round.new.files c.args.file) f.ok f.first f.first_shard in
    let all = found_stands c.args.run.now.job (record { frame = s.frame; most = s.shard; bytes = input }) name held first (inr stands) in
    on_any c.ended.result _ (way_holds b f.ready (sym c.end.ensures.value ∙ c.in-Some.is) input
    (rest_told left input (last_progress first).bytes (last_progress rounds).bytes inv.rises told) c.args.journal.now.tail (inv.stands input told all) name held
    first stands (g.K.Disk.bytes disk) (g.K.Disk.may_leave disk) (inv.keeps name held rests j))

-- a piece couldn't be read
pub returns-in_err-fill_round-clause-value : goal.returns-in_err-fill_round-clause-value
returns-in_err-fill_round-clause-value g c input told all =
    let p = err_from_is_err_and c.from_residual.result c.from_residual.ensures.1 in
    let s = c.args.run.now in
    let e = c.in_err-fill_round.ensures.err in
    rw (p.1, p.2, e.1) (way_unread c.args.run.now.job c.args.journal.now.tail (record { frame = s.frame; most = s.shard; bytes = input }) e.0)

pub returns-in_err-fill_round-clause-long : goal.returns-in_err-fill_round-clause-long
returns-in_err-fill_round-clause-long g c gate is =
    let p = err_from_is_err_and c.from_residual.result c.from_residual.ensures.1 in
    let e = c.in_err-fill_round.ensures.err in
    let a = p.1 in
    let b = p.2 in
    let d = e.1 in
    let same : of_file e.0 ≡ halts.Short gate = cc in not_short e.0 gate same

pub returns-in_err-fill_round-clause-disk_failed : goal.returns-in_err-fill_round-clause-disk_failed
returns-in_err-fill_round-clause-disk_failed g c is =
    let p = err_from_is_err_and c.from_residual.result c.from_residual.ensures.1 in
    let e = c.in_err-fill_round.ensures.err in
    let a = p.1 in
    let b = p.2 in
    let d = e.1 in
    let same : of_file e.0 ≡ halts.DiskFailed = cc in absurd (not_disk e.0 same)

pub returns-in_err-fill_round-clause-stopped : goal.returns-in_err-fill_round-clause-stopped
returns-in_err-fill_round-clause-stopped g c input held name told rests is_told j stands =
    let p = err_from_is_err_and c.from_residual.result c.from_residual.ensures.1 in
    let t = c.loop-intake.invariant.stopped input held name told rests is_told j stands in (t.0, t.1, rw p.1 tt)

-- the next round can be run
pub run_next-requires-clause-journal : goal.run_next-requires-clause-journal
run_next-requires-clause-journal g c κs within =
    let j = c.requires.journal in
    record { name = j.name; is = c.loop-intake.invariant.journal_is j.name j.is; joined = c.loop-intake.invariant.joined }

pub run_next-requires-clause-next : goal.run_next-requires-clause-next
run_next-requires-clause-next g c κs within =
    let inv = c.loop-intake.invariant in
    let f = c.in_ok-fill_round.ensures in
    let b = way_filled inv.behind c.fill_round.new.intake (g.F.Files.left c.fill_round.new.files c.args.file) f.ok f.first f.first_shard in
    has_next b f.ready (sym c.end.ensures.value ∙ none_not c.end.result c.in_default.not-Some)

-- fewer records are left
pub loop-intake-smaller : goal.loop-intake-smaller
loop-intake-smaller g c =
    let few = few_first c.loop-intake.invariant.behind in
    let first = c.in_ok-fill_round.ensures.first in
    let further = c.in_ok-run_next.ensures.ok.further in
    omega (arith, few, first, further)

-- a round more was run
pub loop-intake-preserved : goal.loop-intake-preserved
loop-intake-preserved g c =
    let job = c.args.run.now.job in
    let s = c.args.run.now in
    let file = c.args.file in
    let inv = c.loop-intake.invariant in
    let first = rounds_of c.args.journal.now.tail in
    let rounds = rounds_of c.loop-intake.journal.tail in
    let left = g.F.Files.left c.args.files.now file in
    let now = g.F.Files.left c.fill_round.new.files file in
    let from = (last_progress first).bytes in
    let start = rest_from ((last_progress rounds).bytes - from) left in
    let mid = c.fill_round.new.intake in
    let f = c.in_ok-fill_round.ensures in
    let b = way_filled inv.behind mid now f.ok f.first f.first_shard in
    let ok = c.in_ok-run_next.ensures.ok in
    record {
      given = subst IsTrue (sym (c.fill_round.ensures.kept.given_same file)) inv.given;
      room = (let same = c.fill_round.ensures.room in omega (arith, same, inv.room));
      rises = way_rises b left ok from inv.rises;
      behind = way_on b left ok from inv.rises refl;
      journal_is = λ name j. c.in_ok-run_next.ensures.journal name (inv.journal_is name j);
      grows = (
        inv.grows.0 ++ ok.round ∷ [],
        ok.is ∙ ap (λ rs. rs ++ ok.round ∷ []) inv.grows.1 ∙ append_assoc first inv.grows.0 (ok.round ∷ []),
        small_more first rounds inv.grows.0 ok.round inv.grows.1 inv.grows.2 ok.small,
      );
      stands = λ input told all.
          c.in_ok-run_next.ensures.stands (record { frame = s.frame; most = s.shard; bytes = input }) start now b
          (rest_told left input from (last_progress rounds).bytes inv.rises told) (inv.stands input told all);
      joined = c.in_ok-run_next.ensures.joined;
      keeps = λ name held rests j. (
          let k = inv.keeps name held rests j in c.in_ok-run_next.ensures.keeps name k.held k.rests.read (inv.journal_is name j));
      entries = λ name held rests is_told j. (
          let k = inv.keeps name held rests j in
          entries_both name (all_tables job.compiled) first inv.grows.0 inv.grows.1 (inv.entries name held rests is_told j)
          (c.run_next.ensures.entries name k.held k.rests (inv.told ∙ is_told) (inv.journal_is name j)));
      stopped = λ input held name told rests is_told j stands. (
          let source : Source = record { frame = s.frame; most = s.shard; bytes = input } in
          let t = inv.stopped input held name told rests is_told j stands in
          let k = inv.keeps name held rests j in
          let all = inv.stands input told (found_stands job source name held first (inr stands)) in
          let u = c.in_ok-run_next.ensures.stopped name source k.held _ _ b
          (rest_told left input from (last_progress rounds).bytes inv.rises told) (stands_more job source name held k.held first rounds stands all k.spells)
          k.rests (inv.told ∙ is_told) (inv.journal_is name j) in (
            t.0 ++ u.0,
            way_leaves t.2 k.spells t.1 u.1,
            u.2 ∙ ap (λ rs. rs ++ u.0) t.2 ∙ append_assoc first t.0 u.0,
          ));
      told = c.run_next.ensures.told ∙ inv.told;
      kept =
          keeps_on g.F.Files.held g.F.Files.left g.F.Files.given g.F.Files.names g.F.Files.faults file c.args.files.now c.loop-intake.files
          c.fill_round.new.files inv.kept c.fill_round.ensures.kept;
      faults =
          falls_not_both (g.K.Disk.faults c.args.disk.now) (g.K.Disk.faults c.loop-intake.disk) (g.K.Disk.faults c.run_next.new.disk) inv.faults
          c.run_next.ensures.faults;
    }

-- a shard decides, or the disk failed
pub returns-in_err-run_next-clause-value : goal.returns-in_err-run_next-clause-value
returns-in_err-run_next-clause-value g c input told all =
    let p = err_from_is_err_and c.from_residual-in_err-run_next.result c.from_residual-in_err-run_next.ensures.1 in
    let inv = c.loop-intake.invariant in
    let rounds = rounds_of c.loop-intake.journal.tail in
    let left = g.F.Files.left c.args.files.now c.args.file in
    let f = c.in_ok-fill_round.ensures in
    let b = way_filled inv.behind c.fill_round.new.intake (g.F.Files.left c.fill_round.new.files c.args.file) f.ok f.first f.first_shard in
    rw (p.1, p.2) (way_halts b input
    (rest_told left input (last_progress (rounds_of c.args.journal.now.tail)).bytes (last_progress rounds).bytes inv.rises told) c.args.journal.now.tail
    (inv.stands input told all) c.in_err-run_next.field-0.0 c.in_err-run_next.ensures.err)

pub returns-in_err-run_next-clause-long : goal.returns-in_err-run_next-clause-long
returns-in_err-run_next-clause-long g c gate is =
    let p = err_from_is_err_and c.from_residual-in_err-run_next.result c.from_residual-in_err-run_next.ensures.1 in
    let a = p.1 in
    let b = p.2 in
    let same : c.in_err-run_next.field-0.0 ≡ halts.Short gate = cc in
    let mid = c.fill_round.new.intake in
    subst (StopsHalt (outcome_from c.args.run.now.job mid.round.passed (shards_of mid.round))) same c.in_err-run_next.ensures.err

pub returns-in_err-run_next-clause-entries : goal.returns-in_err-run_next-clause-entries
returns-in_err-run_next-clause-entries g c name held rests is_told j =
    let inv = c.loop-intake.invariant in
    let k = inv.keeps name held rests j in
    entries_both name (all_tables c.args.run.now.job.compiled) (rounds_of c.args.journal.now.tail) inv.grows.0 inv.grows.1 (inv.entries name held rests is_told j)
    (c.run_next.ensures.entries name k.held k.rests (inv.told ∙ is_told) (inv.journal_is name j))

pub returns-in_err-run_next-clause-stopped : goal.returns-in_err-run_next-clause-stopped
returns-in_err-run_next-clause-stopped g c input held name told rests is_told j stands =
    let p = err_from_is_err_and c.from_residual-in_err-run_next.result c.from_residual-in_err-run_next.ensures.1 in
    let job = c.args.run.now.job in
    let s = c.args.run.now in
    let inv = c.loop-intake.invariant in
    let first = rounds_of c.args.journal.now.tail in
    let rounds = rounds_of c.loop-intake.journal.tail in
    let left = g.F.Files.left c.args.files.now c.args.file in
    let f = c.in_ok-fill_round.ensures in
    let b = way_filled inv.behind c.fill_round.new.intake (g.F.Files.left c.fill_round.new.files c.args.file) f.ok f.first f.first_shard in
    let source : Source = record { frame = s.frame; most = s.shard; bytes = input } in
    let t = inv.stopped input held name told rests is_told j stands in
    let k = inv.keeps name held rests j in
    let all = inv.stands input told (found_stands job source name held first (inr stands)) in
    let u = c.run_next.ensures.stopped name source k.held _ _ b (rest_told left input (last_progress first).bytes (last_progress rounds).bytes inv.rises told)
    (stands_more job source name held k.held first rounds stands all k.spells) k.rests (inv.told ∙ is_told) (inv.journal_is name j) in (
      t.0 ++ u.0,
      way_leaves t.2 k.spells t.1 u.1,
      rw p.1 tt,
    )
