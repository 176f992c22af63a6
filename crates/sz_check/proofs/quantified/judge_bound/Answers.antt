use Rattle.std.proofs.Common.{map}
use Rattle.sz_check.specs.Quantified.{variable_of}
use Rattle.sz_check.proofs.WhenLemmas.{bound_is, bound_outside}
use Rattle.sz_check.proofs.quantified.judge_bound.Goals as goal

pub returns-clause-value : goal.returns-clause-value
returns-clause-value c =
    bound_is c.args.known.now c.open.new.self c.bind_inside.new.known (map variable_of c.args.variables.now)
    c.bind_inside.result c.in_ok-open.ensures.value c.bind_inside.ensures.value c.bind_inside.ensures.locals

pub returns-clause-outside : goal.returns-clause-outside
returns-clause-outside c =
    bound_outside c.args.known.now c.open.new.self c.bind_inside.new.known c.bind_inside.result
    c.in_ok-open.ensures.value c.bind_inside.ensures.outside
