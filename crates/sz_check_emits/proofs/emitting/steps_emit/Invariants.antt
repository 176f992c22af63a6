-- One from here on can emit exactly where one of all can.
use Rattle.std.proofs.Common.{◌≡◌, map, drop}
use Rattle.sz_tree.specs.View.{step_of}
use Rattle.sz_check_names.specs.Knowledge.{blocks_of}
use Rattle.sz_check_rules.specs.EmittingTrees.{emits_by, steps_emit}
use Rattle.sz_check_emits.specs.Hidden.{hidden_of}
use Rattle.sz_check_emits.proofs.emitting.steps_emit.Given as goal

abbrev pub invariant-loop-step : goal.invariant-loop-step
invariant-loop-step l =
    steps_emit (emits_by (blocks_of l.known)) (hidden_of l.hidden) (map step_of (drop l.step-index l.steps))
    ≡ steps_emit (emits_by (blocks_of l.known)) (hidden_of l.hidden) (map step_of l.steps)
