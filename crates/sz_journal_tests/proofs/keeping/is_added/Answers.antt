-- The round may be the next one of a journal that is ready.
use Rattle.std.proofs.Common.{List, [], ◌∷◌, ◌++◌, subst}
use Rattle.sz_journal.specs.Rounds.{AreRounds}
use Rattle.sz_journal.specs.declared.round.RoundEntry.{RoundEntry}
use Rattle.sz_journal_tests.proofs.ReadyLemmas.{can_append, ready_again}
use Rattle.sz_journal_tests.proofs.keeping.is_added.Goals as goal

pub append-requires : goal.append-requires
append-requires c = record {
  can = can_append c.args.job.now c.args.decls.now c.args.journal.now c.args.disk.now c.requires c.args.round
      (subst (λ (rs : List RoundEntry). AreRounds c.args.job.now c.args.decls.now (rs ++ c.args.round ∷ []))
      c.rounds.ensures.value (c.may_be_next.ensures.value.0 c.if-not-may_be_next.false));
}

pub returns-in-Ok : goal.returns-in-Ok
returns-in-Ok c is_true =
    let are =
    subst (λ (rs : List RoundEntry). AreRounds c.args.job.now c.args.decls.now (rs ++ c.args.round ∷ []))
    c.rounds.ensures.value (c.may_be_next.ensures.value.0 c.if-not-may_be_next.false) in
    ready_again c.args.job.now c.args.decls.now c.args.journal.now c.args.disk.now c.requires c.args.round
    c.append.new.self c.append.new.disk c.in-Ok.ensures.rounds c.in-Ok.ensures.is_of
    (c.in-Ok.ensures.ok c.args.job.now c.args.decls.now c.requires.keeps.held c.requires.keeps.rests.read
    c.requires.is_of c.requires.keeps.spells are)
