-- What ranks tell of messages that reach others.
use Rattle.std.proofs.Common.{◌≡◌, ◌≢◌, ℕ, ◌<◌, ◌≤◌, ◌⊎◌, inl, inr, List, arith}
use Rattle.std.specs.List.{Contains}
use Rattle.std.proofs.lemmas.Bool.{cases_eq}
use Rattle.sz_protofile.specs.declared.field.FieldIn.{FieldIn}
use Rattle.sz_protofile.specs.declared.field.Sort.TheVariants as sorts
use Rattle.sz_protofile.specs.Fields.{Reaches, itself, further}
use Rattle.sz_protofile_types.specs.Ranks.{Ranking, rank, IsRanking}

module _ (fields : List FieldIn) (r : Ranking) (k : IsRanking fields r) where
  -- what a message reaches has no higher rank
  pub falls_along : (x y : List ℕ) → Reaches fields x y → rank r y ≤ rank r x
  falls_along x y (itself m) = omega arith
  falls_along x y (further f m n c e w) = omega (arith, falls_along m n w, k.falling f m c e)

  -- a field leads back exactly where the ranks are the same
  pub leads_back : (f : FieldIn) (m : List ℕ) → Contains fields f → f.sort ≡ sorts.Message m
      → Reaches fields m f.owner → rank r m ≡ rank r f.owner
  leads_back f m c e w = omega (arith, falls_along m f.owner w, k.falling f m c e)

  pub is_lower : (f : FieldIn) (m : List ℕ) → Contains fields f → f.sort ≡ sorts.Message m
      → (Reaches fields m f.owner → ⊥) → rank r m < rank r f.owner
  is_lower f m c e none = by (cases_eq (rank r m) (rank r f.owner))
    where
      by : (rank r m ≡ rank r f.owner) ⊎ (rank r m ≢ rank r f.owner) → rank r m < rank r f.owner
      by (inl same) = absurd (none (k.together f m c e same))
      by (inr n) = let l = k.falling f m c e in grind (arith, l, n)
