-- A weight turned round twice is the weight.
use Rattle.std.proofs.Common.{◌∙◌, Some, sym, ap, subst}
use Rattle.std.specs.Int.{w64}
use Rattle.std.specs.Int.RustNames.{FitsSigned}
use Rattle.std.proofs.lemmas.Int.{to_z-of_z}
use Rattle.sz_extreme.specs.Ranks.{turned}
use Rattle.sz_extreme.proofs.ExtremeLemmas.{weight_again}
use Rattle.sz_extreme.proofs.rank.rank_of.Goals as goal

pub returns : goal.returns
returns c =
    let kind = c.args.kind in
    let weight = c.unwrap.result in
    let rank = c.turned.result in
    let weight_fits : FitsSigned w64 weight = record { sfits = c.unwrap.type_inv } in
    let rank_fits : FitsSigned w64 rank = record { sfits = c.turned.type_inv } in
    let same = to_z-of_z w64 rank rank_fits in
    record {
      value = ap (λ n. Some (turned kind n))
          (same ∙ c.turned.ensures.value ∙ ap (turned kind) (to_z-of_z w64 weight weight_fits))
          ∙ ap Some (weight_again kind weight) ∙ sym c.unwrap.ensures;
      fits = subst (FitsSigned w64) (sym same) rank_fits;
    }
