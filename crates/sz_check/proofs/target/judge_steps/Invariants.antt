-- The path that is left, from what was reached, is the whole path.
use Rattle.std.proofs.Common.{◌≡◌, map, drop}
use Rattle.sz_tree.specs.View.{step_of}
use Rattle.sz_check_rules.specs.JudgingPaths.{judge_steps}
use Rattle.sz_check_names.specs.Knowledge.{scene_of}
use Rattle.sz_check.specs.Targets.{target_seen}
use Rattle.sz_check.proofs.target.judge_steps.Given as goal

abbrev pub invariant-loop-step : goal.invariant-loop-step
invariant-loop-step l =
    judge_steps (scene_of l.known) l.place (target_seen l.target) (map step_of (drop l.step-index l.steps))
    ≡ judge_steps (scene_of l.known) l.place (target_seen l.fn.first) (map step_of l.steps)
