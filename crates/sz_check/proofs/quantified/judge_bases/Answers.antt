use Rattle.std.proofs.Common.{◌+◌, map, drop, length, sym, ◌∙◌}
use Rattle.std.proofs.lemmas.Bool.{ltb-false}
use Rattle.std.proofs.lemmas.Result.{err_from_is_err_and}
use Rattle.sz_quant.specs.Seen.{bound_of}
use Rattle.sz_core.specs.View.{quantified_of}
use Rattle.sz_check_names.specs.Knowledge.{blocks_of}
use Rattle.sz_check_names.proofs.TurnLemmas.{map_push}
use Rattle.sz_types.proofs.ForCallers.{rest_more, rest_none}
use Rattle.sz_check.specs.Quantified.{variable_of, based_of}
use Rattle.sz_check_rules.specs.declared.cause.Cause.TheVariants.{Unbounded}
use Rattle.sz_check.proofs.WhenLemmas.{stops_as, bases_go, bases_fail, bases_lack, bases_end}
use Rattle.sz_check.proofs.quantified.judge_bases.Goals as goal

pub returns-in_default-clause-value : goal.returns-in_default-clause-value
returns-in_default-clause-value c =
    let i = c.loop-i.i in
    let variables = c.args.variables.now in
    let first = c.index-variables-i.result in
    let over = ltb-false i (length c.args.bounds.now) (sym c.in_default.ensures.lookup.0) in
    stops_as c.of.result Unbounded first.name.now _ (rw (← c.index-variables-i.is) at c.of.ensures.value)
    (bases_lack (map quantified_of c.loop-i.made.items) (blocks_of c.loop-i.known) (map variable_of (drop i variables))
    (map variable_of (drop (i + 1) variables)) (map bound_of (drop i c.args.bounds.now)) (variable_of first) _
    (rest_more variable_of variables i first c.loop-i-test.true c.index-variables-i.is)
    (rest_none bound_of c.args.bounds.now i over) c.loop-i.invariant.judged)

pub returns-in_err-judge_base-clause-value : goal.returns-in_err-judge_base-clause-value
returns-in_err-judge_base-clause-value c =
    let p = err_from_is_err_and c.from_residual.result c.from_residual.ensures.1 in
    let i = c.loop-i.i in
    let variables = c.args.variables.now in
    let bounds = c.args.bounds.now in
    let first = c.index-variables-i-in-loop-i in
    rw (p.1, p.2) (bases_fail (map quantified_of c.loop-i.made.items) (blocks_of c.loop-i.known)
    (map variable_of (drop i variables)) (map variable_of (drop (i + 1) variables)) (map bound_of (drop i bounds))
    (map bound_of (drop (i + 1) bounds)) (variable_of first.result)
    (bound_of c.in-Some.bound.now) c.in_err-judge_base.field-0.0 _
    (rest_more variable_of variables i first.result c.loop-i-test.true first.is)
    (rest_more bound_of bounds i c.in-Some.bound.now c.in-Some.ensures.lookup.3.0 c.in-Some.ensures.lookup.1)
    c.in_err-judge_base.ensures.value c.loop-i.invariant.judged)

pub loop-i-preserved : goal.loop-i-preserved
loop-i-preserved c =
    let i = c.loop-i.i in
    let variables = c.args.variables.now in
    let bounds = c.args.bounds.now in
    let first = c.index-variables-i-in-loop-i in
    record {
      judged = rw (c.in_ok-push.ensures.items, map_push quantified_of c.loop-i.made.items c.in_ok-judge_base.field-0)
          (bases_go (map quantified_of c.loop-i.made.items) (blocks_of c.loop-i.known)
          (map variable_of (drop i variables)) (map variable_of (drop (i + 1) variables))
          (map bound_of (drop i bounds)) (map bound_of (drop (i + 1) bounds)) (variable_of first.result)
          (bound_of c.in-Some.bound.now) (based_of c.judge_base.new.known c.in_ok-judge_base.field-0) _
          (rest_more variable_of variables i first.result c.loop-i-test.true first.is)
          (rest_more bound_of bounds i c.in-Some.bound.now c.in-Some.ensures.lookup.3.0 c.in-Some.ensures.lookup.1)
          c.in_ok-judge_base.ensures.value c.loop-i.invariant.judged);
      outside = c.judge_base.ensures.outside ∙ c.loop-i.invariant.outside;
      locals = c.judge_base.ensures.locals ∙ c.loop-i.invariant.locals;
    }

pub returns-clause-value : goal.returns-clause-value
returns-clause-value c = bases_end (map quantified_of c.loop-i.made.items) (blocks_of c.loop-i.known)
    (map variable_of (drop c.loop-i.i c.args.variables.now)) (map bound_of (drop c.loop-i.i c.args.bounds.now)) _
    (rest_none variable_of c.args.variables.now c.loop-i.i c.loop-i-test.false)
    c.loop-i.invariant.judged
