-- What is made of the elements of a list from a place on.
use Rattle.std.proofs.Common.{◌≡◌, ◌∙◌, ℕ, ◌+◌, ◌<◌, ◌≤◌, List, [], ◌∷◌, map, length, drop, get_or, sym, ap}
use Rattle.std.proofs.lemmas.List.{drop_more}
use Rattle.std.proofs.Math.ListN.{drop_of_length-le}

-- the elements from a place on
pub rest_more : {A B : Type 0} (f : A → B) (xs : List A) (i : ℕ) (x : A) → i < length xs → x ≡ get_or xs i x
    → map f (drop i xs) ≡ f x ∷ map f (drop (i + 1) xs)
rest_more f xs i x within is = ap (map f) (drop_more xs i x within)
    ∙ ap (λ (y : _). f y ∷ map f (drop (i + 1) xs)) (sym is)

pub rest_none : {A B : Type 0} (f : A → B) (xs : List A) (i : ℕ) → length xs ≤ i → map f (drop i xs) ≡ []
rest_none f xs i over = ap (map f) (drop_of_length-le xs over)
