-- The steps so far, and those that are left, are all of them.
use Rattle.std.proofs.Common.{◌≡◌, ◌++◌, map, drop}
use Rattle.sz_core.specs.View.{step_of}
use Rattle.sz_gen_rules.specs.StatementCode.{bare_step}
use Rattle.sz_gen_stmt.proofs.parts.bare_steps.Given as goal

abbrev pub invariant-loop-step : goal.invariant-loop-step
invariant-loop-step l =
    l.steps ++ map bare_step (map step_of (drop l.step-index l.path)) ≡ map bare_step (map step_of l.path)
