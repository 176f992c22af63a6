use Rattle.std.proofs.Common.{sym, ◌∙◌}
use Rattle.sz_check_names.specs.Knowledge.{blocks_of}
use Rattle.sz_check.specs.Quantified.{variable_of}
use Rattle.sz_check.proofs.FoldLemmas.{one_inside, not_inside}
use Rattle.sz_check.proofs.quantified.bind_if_inside.Goals as goal

pub returns-then-is_seen_inside-clause-value : goal.returns-then-is_seen_inside-clause-value
returns-then-is_seen_inside-clause-value c =
    rw (one_inside (variable_of c.args.variable.now) (blocks_of c.args.known.now)
    (sym c.is_seen_inside.ensures.value ∙ c.if-is_seen_inside.true))
    c.bind.ensures.value

pub returns-else-is_seen_inside-clause-value : goal.returns-else-is_seen_inside-clause-value
returns-else-is_seen_inside-clause-value c =
    not_inside (variable_of c.args.variable.now) (blocks_of c.args.known.now)
    (sym c.is_seen_inside.ensures.value ∙ c.if-is_seen_inside.false)
