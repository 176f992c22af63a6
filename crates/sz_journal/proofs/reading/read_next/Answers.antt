-- What stands at the gate behind the last round.
use Rattle.std.proofs.lemmas.Result.{err_from_is_err_and}
use Rattle.sz_journal.proofs.TurnLemmas.{turn_closed, turn_ending, turn_cut, turn_failed, turn_more}
use Rattle.sz_journal.proofs.reading.read_next.Goals as goal

pub returns-in-Closed-clause-value : goal.returns-in-Closed-clause-value
returns-in-Closed-clause-value g c =
    turn_closed c.requires.at c.end-gate.ensures.value c.in_ok-read_gate.ensures.value c.in-Closed.is

pub returns-in-Ending-clause-value : goal.returns-in-Ending-clause-value
returns-in-Ending-clause-value g c =
    turn_ending
    c.requires.at c.end-gate.ensures.value c.in_ok-read_gate.ensures.value c.in-Ending.field-0 c.in-Ending.is

pub returns-in-Cut-clause-value : goal.returns-in-Cut-clause-value
returns-in-Cut-clause-value g c =
    turn_cut c.requires.at c.end-gate.ensures.value c.in_ok-read_gate.ensures.value c.in-Cut.is

pub returns-in_err-take_round-in-Entry-clause-value : goal.returns-in_err-take_round-in-Entry-clause-value
returns-in_err-take_round-in-Entry-clause-value g c =
    let p = err_from_is_err_and c.from_residual-in_err-take_round-in-Entry.result
    c.from_residual-in_err-take_round-in-Entry.ensures.1 in
    turn_failed c.requires.at c.end-gate.ensures.value c.in_ok-read_gate.ensures.value c.in-Entry.is
    c.deref.ensures.value c.take_round.new.tail c.from_residual-in_err-take_round-in-Entry.result
    c.in_err-take_round-in-Entry.field-0.0 p.0 c.in_err-take_round-in-Entry.ensures.value p.1 p.2

pub returns-clause-value : goal.returns-clause-value
returns-clause-value g c =
    turn_more c.requires.at c.end-gate.ensures.value c.in_ok-read_gate.ensures.value c.in-Entry.is
    c.deref.ensures.value c.take_round.new.tail
    c.in_ok-take_round-in-Entry.ensures.value c.in_ok-read_gate.ensures.within
