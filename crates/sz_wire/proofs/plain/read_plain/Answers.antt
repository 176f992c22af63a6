use Rattle.sz_wire.proofs.PlainLemmas.{eight_found, four_found}
use Rattle.sz_wire.proofs.plain.read_plain.Goals as goal

pub returns-in_ok-number-in-1-clause-found : goal.returns-in_ok-number-in-1-clause-found
returns-in_ok-number-in-1-clause-found c =
    eight_found c.args.bytes.now c.args.at c.in-1.is c.rest.ensures c.in_ok-number-in-1.ensures.found

pub returns-in_ok-number-in-5-clause-found : goal.returns-in_ok-number-in-5-clause-found
returns-in_ok-number-in-5-clause-found c =
    four_found c.args.bytes.now c.args.at c.in-5.is c.rest-in-5.ensures c.in_ok-number-in-5.ensures.found
