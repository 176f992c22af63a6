-- Entries of more than three numbers.
use Rattle.std.proofs.Common.{◌≡◌, ℕ, List, [], ◌∷◌, Bool, true, false, cond, refl}
use Rattle.std.specs.Prelude.{nat_eq, None}
use Rattle.std.specs.List.{onto_first}
use Rattle.sz_words.specs.Texts.{pieces}
use Rattle.sz_words.specs.Lists.{kill_of}

-- a text has a piece, so an entry with one after its third names no kill
pub too_many : (s k j text : List ℕ) → kill_of (s ∷ k ∷ j ∷ pieces 46 text) ≡ None
too_many s k j [] = refl
too_many s k j (b ∷ bs) = by_test (nat_eq b 46)
  where
    joined : (ps : List (List ℕ)) → kill_of (s ∷ k ∷ j ∷ onto_first b ps) ≡ None
    joined [] = refl
    joined (p ∷ ps) = refl

    by_test : (t : Bool) → kill_of (s ∷ k ∷ j ∷ cond t ([] ∷ pieces 46 bs) (onto_first b (pieces 46 bs))) ≡ None
    by_test true = refl
    by_test false = joined (pieces 46 bs)
