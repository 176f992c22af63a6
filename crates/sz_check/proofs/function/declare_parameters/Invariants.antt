-- The parameters that are left, from what is known, are all of them; what is outside the innermost block stays.
use Rattle.std.proofs.Common.{◌≡◌, map, drop}
use Rattle.sz_types.specs.Seen.{seen}
use Rattle.sz_tree.specs.Types.{params_of}
use Rattle.sz_tree.specs.View.{param_of}
use Rattle.sz_check.specs.Functions.{declare_parameters}
use Rattle.sz_check_names.specs.Knowledge.{scene_of}
use Rattle.sz_check.proofs.function.declare_parameters.Given as goal

abbrev pub invariant-loop-i : goal.invariant-loop-i
invariant-loop-i l = record {
  declared : declare_parameters (scene_of l.known) (params_of (map param_of (drop l.i l.trees)))
      (map seen (drop l.i l.types))
      ≡ declare_parameters (scene_of l.fn.known) (params_of (map param_of l.trees)) (map seen l.types);
  outside : l.known.outside ≡ l.fn.known.outside;
}
