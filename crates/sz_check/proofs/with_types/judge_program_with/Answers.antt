-- A program that is judged with types that are well formed is sound.
use Rattle.std.proofs.Common.{map}
use Rattle.sz_tree.specs.View.{program_of}
use Rattle.sz_core.specs.View.{item_of}
use Rattle.sz_core.specs.Programs.{core_of}
use Rattle.sz_check.specs.RoundTypes.{named_shapes}
use Rattle.sz_check.proofs.RoundLemmas.{all_formed}
use Rattle.sz_check.proofs.with_types.judge_program_with.Goals as goal

pub new-requires : goal.new-requires
new-requires c =
    let types = c.args.types.now in
    let program = core_of (map item_of c.in_ok-items.items.items) c.in_ok-items.locals in
    record {
      sound = c.judged_programs_are_sound.ensures.with_types (named_shapes types)
          (all_formed types c.requires.sound.formed) (program_of c.args.tree.now) program
          c.in_ok-items.ensures.value;
    }
