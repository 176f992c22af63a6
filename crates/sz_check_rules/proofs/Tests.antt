-- Truth values of tests, and lists in which nothing stands twice.
use Rattle.std.proofs.Common.{◌≡◌, ◌↔◌, ℕ, Bool, true, false, nat_eq, List, [], ◌∷◌, true≢false, refl, sym, ap, ◌∙◌}
use Rattle.std.specs.Prelude.{◌||◌, not, bytes_eq}
use Rattle.std.specs.List.{list_any}
use Rattle.std.specs.Cmp.Lexicographic.{bytes_decides}
use Rattle.std.proofs.lemmas.Bool.{eqb-true, eq-eqb}

pub not_so : (b : Bool) → not b ≡ true → b ≡ false
not_so false h = refl
not_so true h = absurd (true≢false (sym h))

pub so_not : {b : Bool} → b ≡ false → not b ≡ true
so_not h = ap not h

pub neither_first : (a b : Bool) → (a || b) ≡ false → a ≡ false
neither_first false b h = refl
neither_first true b h = h

pub neither_second : (a b : Bool) → (a || b) ≡ false → b ≡ false
neither_second false b h = h
neither_second true b h = absurd (true≢false h)

-- two tests that pass together are the same
pub same_tests : (a b : Bool) → (a ≡ true → b ≡ true) → (b ≡ true → a ≡ true) → a ≡ b
same_tests true true h k = refl
same_tests true false h k = sym (h refl)
same_tests false true h k = k refl
same_tests false false h k = refl

module _ {A : Type 0} (same : A → A → Bool) where
  -- none of the second list stands in the first
  abbrev pub AreFresh : List A → List A → Type 0
  AreFresh taken [] = Unit {0}
  AreFresh taken (x ∷ xs) = (list_any (same x) taken ≡ false) × AreFresh taken xs

  module _ (exact : (x y : A) → (same x y ≡ true) ↔ (x ≡ y)) where
    turned : (x y : A) → same x y ≡ same y x
    turned x y = same_tests (same x y) (same y x) (λ h. (exact y x).1 (sym ((exact x y).0 h)))
        (λ h. (exact x y).1 (sym ((exact y x).0 h)))

    pub not_later : (x : A) (taken ys : List A) → AreFresh (x ∷ taken) ys → list_any (same x) ys ≡ false
    not_later x taken [] h = refl
    not_later x taken (y ∷ ys) h = λ i. (turned x y ∙ neither_first _ _ h.0) i || not_later x taken ys h.1 i

  pub still_fresh : (x : A) (taken ys : List A) → AreFresh (x ∷ taken) ys → AreFresh taken ys
  still_fresh x taken [] h = tt
  still_fresh x taken (y ∷ ys) h = (neither_second _ _ h.0, still_fresh x taken ys h.1)

-- texts and numbers are compared exactly
pub texts_exact : (x y : List ℕ) → (bytes_eq x y ≡ true) ↔ (x ≡ y)
texts_exact = bytes_decides

pub numbers_exact : (x y : ℕ) → (nat_eq x y ≡ true) ↔ (x ≡ y)
numbers_exact x y = (eqb-true x y, eq-eqb x y)
