use Rattle.std.proofs.Common.{sym, subst}
use Rattle.std.specs.Prelude.{IsFalse}
use Rattle.sz_check_rules.specs.Names.{Block, has}
use Rattle.sz_check.proofs.RoundLemmas.{free_name, types_more}
use Rattle.sz_check.proofs.with_types.add_types.Goals as goal

-- the names before it are other ones
pub add_type-requires : goal.add_type-requires
add_type-requires c = record {
  free = subst (λ (block : Block). IsFalse (has c.named-item.result.name block)) (sym c.loop-named.invariant.block)
      (free_name c.args.types.now c.loop-named.named-index c.named-item.result c.loop-named-test.true c.named-item.is
      c.requires.apart);
}

pub loop-named-preserved : goal.loop-named-preserved
loop-named-preserved c =
    types_more c.args.known.now c.loop-named.known c.add_type.new.known c.args.types.now c.loop-named.named-index
    c.named-item.result c.loop-named-test.true c.named-item.is c.loop-named.invariant c.in_ok-add_type.ensures.value
