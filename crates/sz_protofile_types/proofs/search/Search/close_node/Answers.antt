use Rattle.std.proofs.Common.{ap, arith}
use Rattle.sz_protofile_types.specs.declared.mark.Mark.TheVariants as mark
use Rattle.std.proofs.Common.{set}
use Rattle.sz_protofile_types.proofs.Closings.{popped_within, popped_is}
use Rattle.sz_protofile_types.proofs.search.Search.close_node.Goals as goal

pub index_mut-requires : goal.index_mut-requires
index_mut-requires c =
    omega (
      arith,
      popped_within c.args.self.now.marks.items c.args.self.now.path.items c.requires.path c.pop.new.self.items
          c.in-Some.node c.in-Some.ensures.items,
      c.args.self.now.marks.ok.0,
    )

pub returns-in_ok-push-clause-marks : goal.returns-in_ok-push-clause-marks
returns-in_ok-push-clause-marks c = λ u a.
    ap (λ v. set c.args.self.now.marks.items v (mark.Closed c.args.number))
    (popped_is c.args.self.now.marks.items c.args.self.now.path.items c.requires.path c.pop.new.self.items
    c.in-Some.node u c.in-Some.ensures.items a)
