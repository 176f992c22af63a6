-- Bytes that are those of no round, or of one that may not be the next one, aren't those of the next one.
use Rattle.std.proofs.Common.{◌∙◌, ◌<◌, ◌^◌, Err, true≢false, sym, ap, rules}
use Rattle.sz_journal.specs.Journal.{rounds_of}
use Rattle.sz_journal.proofs.RoundLemmas.{none_next, other_next}
use Rattle.sz_journal.proofs.reading.take_round.Goals as goal

pub returns-then-not-can_follow-clause-value : goal.returns-then-not-can_follow-clause-value
returns-then-not-can_follow-clause-value g c =
    let few : c.args.job.now.skip < 2 ^ 32 = search rules in (
      c.end-gate.ensures.value,
      other_next c.args.job.now c.args.decls.now (rounds_of c.args.tail.now) c.args.entry.now c.in-Ok.round few
          c.in-Ok.ensures.value (λ are. true≢false (sym ((c.can_follow.ensures.value (rounds_of c.args.tail.now) c.requires.are c.progress.ensures.value).1 are)
          ∙ c.if-not-can_follow.true)),
    )

pub returns-in-Err-NotEntry-clause-value : goal.returns-in-Err-NotEntry-clause-value
returns-in-Err-NotEntry-clause-value g c =
    let few : c.args.job.now.skip < 2 ^ 32 = search rules in (
      c.end-gate.ensures.value,
      none_next c.args.job.now c.args.decls.now (rounds_of c.args.tail.now) c.args.entry.now few
          (c.in-Err-NotEntry.ensures.not_entry (ap (λ e. Err e) c.in-Err-NotEntry.field-0-is)),
    )
