-- Whether all bytes of a text are ASCII, as a test and as a fact.
use Rattle.std.proofs.Common.{◌≡◌, ◌∙◌, ℕ, zero, suc, ◌≤◌, ◌<◌, Bool, true, false, ◌&&◌, nat_lt, slice_index, List, [], ◌∷◌, ◌++◌, length, take, drop, refl, sym, ap, arith}
use Rattle.std.specs.Bool.{MatchBool}
use Rattle.std.specs.Str.{IsAscii, IsNotAscii, IsCharBoundary}
use Rattle.std.proofs.lemmas.Bool.Decides.{nat_tests}
use Rattle.std.proofs.lemmas.List.Folds.{list_all-append}
use Rattle.std.proofs.lemmas.Str.{IsAscii-take, IsAscii-drop, IsCharBoundary-from_ascii}
use Rattle.sz_value.specs.Texts.{is_ascii}

both_in : (a b : Bool) → a ≡ true → b ≡ true → (a && b) ≡ true
both_in a b h k = ap (λ c. c && b) h ∙ k

both : (a b : Bool) → (a && b) ≡ true → (a ≡ true) × (b ≡ true)
both true b h = (refl, h)
both false b h = absurd cc

below : (b : ℕ) → b < 128 → nat_lt b 128 ≡ true
below b h = grind (arith, nat_tests)

below_from : (b : ℕ) → nat_lt b 128 ≡ true → b < 128
below_from b h = grind (arith, nat_tests)

above : (b : ℕ) → 128 ≤ b → nat_lt b 128 ≡ false
above b h = grind (arith, nat_tests)

-- a text of ASCII passes the test
pub ascii_passes : (s : List ℕ) → IsAscii s → is_ascii s ≡ true
ascii_passes [] h = refl
ascii_passes (b ∷ bs) h = both_in (nat_lt b 128) (is_ascii bs) (below b (h 0)) (ascii_passes bs (λ i. h (suc i)))

-- a text with another byte doesn't
other_fails : (s : List ℕ) → IsNotAscii s → is_ascii s ≡ false
other_fails [] h = absurd (omega (arith, h.1))
other_fails (b ∷ bs) h = at (λ i k. other_fails bs (i, k)) h.0 h.1
  where
    second : (a : Bool) → is_ascii bs ≡ false → (a && is_ascii bs) ≡ false
    second true e = e
    second false e = refl

    at : ((i : ℕ) → 128 ≤ slice_index bs i → is_ascii bs ≡ false) → (i : ℕ) → 128 ≤ slice_index (b ∷ bs) i
        → (nat_lt b 128 && is_ascii bs) ≡ false
    at after zero k = ap (λ a. a && is_ascii bs) (above b k)
    at after (suc i) k = second (nat_lt b 128) (after i k)

-- a text that passes is one of ASCII
pub passes_ascii : (s : List ℕ) → is_ascii s ≡ true → IsAscii s
passes_ascii [] h = λ i. omega arith
passes_ascii (b ∷ bs) h = let p = both (nat_lt b 128) (is_ascii bs) h in at p.0 (passes_ascii bs p.1)
  where
    at : nat_lt b 128 ≡ true → IsAscii bs → (i : ℕ) → slice_index (b ∷ bs) i < 128
    at k l zero = below_from b k
    at k l (suc i) = l i

-- what a walk over the bytes tells is the test
pub ascii_told : (found : Bool) (s : List ℕ) → MatchBool found (IsAscii s) (IsNotAscii s) → found ≡ is_ascii s
ascii_told true s h = sym (ascii_passes s h)
ascii_told false s h = sym (other_fails s h)

-- two texts as one are ASCII where both are
pub ascii_joined : (s t : List ℕ) → is_ascii (s ++ t) ≡ (is_ascii s && is_ascii t)
ascii_joined s t = list_all-append (λ byte. nat_lt byte 128) s t

-- so is each part
pub ascii_part : (s : List ℕ) (from count : ℕ) → is_ascii s ≡ true → is_ascii (take count (drop from s)) ≡ true
ascii_part s from count h = ascii_passes (take count (drop from s))
    (IsAscii-take (drop from s) count (IsAscii-drop s from (passes_ascii s h)))

-- and it may be cut anywhere
pub ascii_cut : (s : List ℕ) (at : ℕ) → is_ascii s ≡ true → at ≤ length s → IsCharBoundary s at
ascii_cut s at h within = IsCharBoundary-from_ascii s at (passes_ascii s h) within
