-- The bytes have the rank of the values that are kept.
use Rattle.std.proofs.Common.{sym, subst}
use Rattle.std.proofs.Math.Logic.{∥∥₁_elim, ∥∥₁_prop}
use Rattle.sz_flat.specs.Lists.{SpellsAll}
use Rattle.sz_flat.specs.Rank.{Ranks}
use Rattle.sz_flat.proofs.flat_list.FlatList.rank.Goals as goal

pub returns : goal.returns
returns c =
    let kept = c.self.inside.spelled in
    record {
      value = ∥∥₁_elim kept.1 ∥∥₁_prop
          (λ k. ∣ subst (λ values. Ranks values c.rank_all.result) c.self.view_is
          (c.rank_all.ensures.value kept.0 (subst (λ flat. SpellsAll flat kept.0) (sym c.as_slice.ensures.value) k))
          ∣₁);
    }
