use Rattle.std.proofs.Common.{[], ◌∷◌, refl, sym, subst}
use Rattle.std.proofs.lemmas.Result.{err_from_is_err_and}
use Rattle.sz_journal.specs.Journal.{rounds_of}
use Rattle.sz_resume.specs.Joining.{HaveJoined}
use Rattle.sz_resume.specs.Turns.{AllStand, AddsRound}
use Rattle.sz_resume.proofs.LeaveLemmas.{leaves_nothing, entries_none}
use Rattle.sz_resume.proofs.WayLemmas.{spelled_at}
use Rattle.sz_resume.proofs.AppendLemmas.{is_round, closed_within, few_left, few_numbers, adds_round, all_stand, can_append, can_join, journal_is, keeps_then, leaves_round, entries_round}
use Rattle.sz_resume.proofs.resume.run_next.Goals as goal

-- the shards at hand are a round
pub run_at_hand-requires-clause-round : goal.run_at_hand-requires-clause-round
run_at_hand-requires-clause-round g c κs within = is_round c.requires.next

-- nothing was written
pub returns-in_err-tables-clause-stopped : goal.returns-in_err-tables-clause-stopped
returns-in_err-tables-clause-stopped g c name source held start left b told stands rests is_told j =
    let p = err_from_is_err_and c.from_residual.result c.from_residual.ensures.1 in (
      [],
      leaves_nothing (g.met.K.Disk.only_now c.args.disk.now) rests is_told stands,
      rw p.1 tt,
    )

pub returns-in_err-round-clause-stopped : goal.returns-in_err-round-clause-stopped
returns-in_err-round-clause-stopped g c name source held start left b told stands rests is_told j =
    let p = err_from_is_err_and c.from_residual-in_err-round.result c.from_residual-in_err-round.ensures.1 in (
      [],
      leaves_nothing (g.met.K.Disk.only_now c.args.disk.now) rests is_told stands,
      rw p.1 tt,
    )

pub returns-in_err-tables-clause-entries : goal.returns-in_err-tables-clause-entries
returns-in_err-tables-clause-entries g c name held rests is_told j =
    entries_none (g.met.K.Disk.only_now c.args.disk.now) rests is_told (spelled_at rests.read j)

pub returns-in_err-round-clause-entries : goal.returns-in_err-round-clause-entries
returns-in_err-round-clause-entries g c name held rests is_told j =
    entries_none (g.met.K.Disk.only_now c.args.disk.now) rests is_told (spelled_at rests.read j)

-- the round may be appended
pub append-requires : goal.append-requires
append-requires g c =
    let v = c.in_ok-tables.ensures.value in
    record {
      can = can_append c.requires.next v.1 (c.in_ok-round.ensures.value v.0 v.1) c.args.journal.now.tail refl c.requires.journal.name (g.K.Disk.bytes c.args.disk.now)
          c.requires.journal.is c.requires.can_resume.is_job;
    }

-- its tables can be joined to those of the rounds
pub keep-requires : goal.keep-requires
keep-requires g c =
    let v = c.in_ok-tables.ensures.value in
    record {
      next = can_join c.requires.next v.1 (c.in_ok-round.ensures.value v.0 v.1) c.args.journal.now.tail refl HaveJoined c.requires.journal.name
          (g.K.Disk.bytes c.args.disk.now) c.requires.journal.is c.requires.can_resume.is_job c.requires.journal.joined;
    }

-- it has a place after it
pub move_on-requires-clause-within : goal.move_on-requires-clause-within
move_on-requires-clause-within g c = closed_within c.requires.next

pub move_on-requires-clause-few : goal.move_on-requires-clause-few
move_on-requires-clause-few g c = few_left c.requires.next

pub move_on-requires-clause-numbers : goal.move_on-requires-clause-numbers
move_on-requires-clause-numbers g c = few_numbers c.requires.next

-- the round was appended
pub returns-in-Ok-clause-ok : goal.returns-in-Ok-clause-ok
returns-in-Ok-clause-ok g c =
    let v = c.in_ok-tables.ensures.value in
    let rounds = rounds_of c.args.journal.now.tail in
    subst (AddsRound c.args.run.now.job rounds (rounds_of c.append.new.self) c.args.intake.now) (sym c.move_on.ensures.value)
    (adds_round c.requires.next v.1 (c.in_ok-round.ensures.value v.0 v.1) (rounds_of c.append.new.self) c.in-Ok.ensures.rounds)

pub returns-in-Ok-clause-journal : goal.returns-in-Ok-clause-journal
returns-in-Ok-clause-journal g c =
    let v = c.in_ok-tables.ensures.value in
    journal_is c.requires.next v.1 (c.in_ok-round.ensures.value v.0 v.1) c.args.journal.now.tail refl c.append.new.self (g.K.Disk.bytes c.args.disk.now) (g.K.Disk.bytes c.append.new.disk)
    (g.K.Disk.may_leave c.append.new.disk) c.requires.can_resume.is_job c.in-Ok.ensures.rounds c.in-Ok.ensures.is_of c.append.ensures.untold c.in-Ok.ensures.ok

pub returns-in-Ok-clause-stands : goal.returns-in-Ok-clause-stands
returns-in-Ok-clause-stands g c source start left b told all =
    let v = c.in_ok-tables.ensures.value in
    subst (AllStand c.args.run.now.job source) (sym c.in-Ok.ensures.rounds)
    (all_stand c.requires.next v.1 (c.in_ok-round.ensures.value v.0 v.1) source start left b told all)

pub returns-in-Ok-clause-keeps : goal.returns-in-Ok-clause-keeps
returns-in-Ok-clause-keeps g c =
    let v = c.in_ok-tables.ensures.value in
    keeps_then c.requires.next v.1 (c.in_ok-round.ensures.value v.0 v.1) c.args.journal.now.tail refl c.append.new.self (g.K.Disk.bytes c.args.disk.now) (g.K.Disk.bytes c.append.new.disk)
    (g.K.Disk.may_leave c.append.new.disk) c.requires.can_resume.is_job c.in-Ok.ensures.rounds c.in-Ok.ensures.ok

pub returns-in-Ok-clause-stopped : goal.returns-in-Ok-clause-stopped
returns-in-Ok-clause-stopped g c name source held start left b told stands rests is_told j =
    let v = c.in_ok-tables.ensures.value in (
      c.in_ok-round.round ∷ [],
      leaves_round c.requires.next v.1 (c.in_ok-round.ensures.value v.0 v.1) c.args.journal.now.tail refl c.requires.can_resume.is_job c.append.ensures.leaves b told stands rests is_told j,
      c.in-Ok.ensures.rounds,
    )

pub returns-in-Ok-clause-entries : goal.returns-in-Ok-clause-entries
returns-in-Ok-clause-entries g c =
    let v = c.in_ok-tables.ensures.value in
    entries_round c.requires.next v.1 (c.in_ok-round.ensures.value v.0 v.1) c.args.journal.now.tail refl c.requires.can_resume.is_job c.append.ensures.leaves

-- there was no memory for what the rounds hold together
pub returns-in_err-keep-in-Ok-clause-entries : goal.returns-in_err-keep-in-Ok-clause-entries
returns-in_err-keep-in-Ok-clause-entries g c =
    let v = c.in_ok-tables.ensures.value in
    entries_round c.requires.next v.1 (c.in_ok-round.ensures.value v.0 v.1) c.args.journal.now.tail refl c.requires.can_resume.is_job c.append.ensures.leaves

pub returns-in_err-keep-in-Ok-clause-stopped : goal.returns-in_err-keep-in-Ok-clause-stopped
returns-in_err-keep-in-Ok-clause-stopped g c name source held start left b told stands rests is_told j =
    let v = c.in_ok-tables.ensures.value in
    let p = err_from_is_err_and c.from_residual-in_err-keep-in-Ok.result c.from_residual-in_err-keep-in-Ok.ensures.1 in (
      c.in_ok-round.round ∷ [],
      leaves_round c.requires.next v.1 (c.in_ok-round.ensures.value v.0 v.1) c.args.journal.now.tail refl c.requires.can_resume.is_job c.append.ensures.leaves b told stands rests is_told j,
      rw p.1 tt,
    )

-- it may have been
pub returns-clause-entries : goal.returns-clause-entries
returns-clause-entries g c =
    let v = c.in_ok-tables.ensures.value in
    entries_round c.requires.next v.1 (c.in_ok-round.ensures.value v.0 v.1) c.args.journal.now.tail refl c.requires.can_resume.is_job c.append.ensures.leaves

pub returns-clause-stopped : goal.returns-clause-stopped
returns-clause-stopped g c name source held start left b told stands rests is_told j =
    let v = c.in_ok-tables.ensures.value in (
      c.in_ok-round.round ∷ [],
      leaves_round c.requires.next v.1 (c.in_ok-round.ensures.value v.0 v.1) c.args.journal.now.tail refl c.requires.can_resume.is_job c.append.ensures.leaves b told stands rests is_told j,
      tt,
    )
