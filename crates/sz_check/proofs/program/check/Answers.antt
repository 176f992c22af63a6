-- A program that is judged is sound.
use Rattle.std.proofs.Common.{map}
use Rattle.sz_tree.specs.View.{program_of}
use Rattle.sz_core.specs.View.{item_of}
use Rattle.sz_core.specs.Programs.{core_of}
use Rattle.sz_check.proofs.program.check.Goals as goal

pub new-requires : goal.new-requires
new-requires c =
    let program = core_of (map item_of c.in_ok-items.items.items) c.in_ok-items.locals in
    record {
      sound =
          c.judged_programs_are_sound.ensures.value (program_of c.args.tree.now) program c.in_ok-items.ensures.value;
    }
