-- A list by its first element, and elements at one place.
use Rattle.std.proofs.Common.{◌≡◌, ◌∙◌, ℕ, zero, suc, ◌-◌, ◌<◌, ◌≤◌, List, [], ◌∷◌, length, map, take, drop, get_or, sym, ap, arith, take_all}

-- a list that isn't empty is its first element and the others
pub split : {X : Type 0} (xs : List X) (x : X) → 1 ≤ length xs → x ≡ get_or xs 0 x
    → xs ≡ x ∷ take (length xs - 1) (drop 1 xs)
split [] x some is = absurd (omega (arith, some))
split (y ∷ ys) x some is =
    let long : suc (length ys) - 1 ≡ length ys = omega arith in
    λ i. sym is i ∷ sym (ap (λ n. take n ys) long ∙ take_all (length ys) ys (omega arith)) i

-- what is alike of two lists is alike at each place
pub alike_at : {X Y : Type 0} (f : X → Y) (xs ys : List X) (i : ℕ) (x y : X) → i < length xs → i < length ys
    → x ≡ get_or xs i x → y ≡ get_or ys i y → map f xs ≡ map f ys → f x ≡ f y
alike_at f [] ys i x y less also is there same = absurd (omega (arith, less))
alike_at f (a ∷ xs) [] i x y less also is there same = absurd (omega (arith, also))
alike_at f (a ∷ xs) (b ∷ ys) zero x y less also is there same = let first : f a ≡ f b = cc in
    ap f is ∙ first ∙ ap f (sym there)
alike_at f (a ∷ xs) (b ∷ ys) (suc i) x y less also is there same =
    let later : map f xs ≡ map f ys = cc in
    alike_at f xs ys i x y (omega (arith, less)) (omega (arith, also)) is there later
