use Rattle.std.proofs.Common.{map, arith}
use Rattle.std.proofs.lemmas.Result.{err_from_is_err_and}
use Rattle.sz_types.specs.Seen.{seen}
use Rattle.sz_check_names.specs.Knowledge.{blocks_of}
use Rattle.sz_check_names.proofs.TurnLemmas.{map_push}
use Rattle.sz_check_emits.proofs.TableLemmas.{elems_fail, elems_go, elems_end}
use Rattle.sz_check_emits.proofs.table.judge_elems.Goals as goal

pub returns-in_err-ty : goal.returns-in_err-ty
returns-in_err-ty c =
    let p = err_from_is_err_and c.from_residual.result c.from_residual.ensures.1 in
    record {
      value = rw (p.1, p.2) (elems_fail (blocks_of c.args.known.now)
          (map seen c.loop-tree.types.items) c.args.trees.now c.loop-tree.tree-index
          c.tree-item.result c.in_err-ty.field-0.0 _
          (omega arith) c.tree-item.is c.in_err-ty.ensures.value c.loop-tree.invariant);
    }

pub loop-tree-preserved : goal.loop-tree-preserved
loop-tree-preserved c =
    rw (c.in_ok-push.ensures.items, map_push seen c.loop-tree.types.items c.in_ok-ty.ty)
    (elems_go (blocks_of c.args.known.now)
    (map seen c.loop-tree.types.items) c.args.trees.now c.loop-tree.tree-index c.tree-item.result
    (seen c.in_ok-ty.ty) _ (omega arith) c.tree-item.is c.in_ok-ty.ensures.value c.loop-tree.invariant)

pub returns : goal.returns
returns c = record {
  value = elems_end (blocks_of c.args.known.now)
      (map seen c.loop-tree.types.items) c.args.trees.now c.loop-tree.tree-index _ (omega arith)
      c.loop-tree.invariant;
}
