-- The loops that look for the end of a comment or of a string.
use Rattle.std.proofs.Common.{◌≡◌, ℕ, suc, ◌+◌, ◌≤◌, ◌<◌, Bool, true, false, ◌&&◌, ◌==◌, eqb, not, List, length, drop, get_or, Option, Some, None, refl}
use Rattle.std.proofs.Common.{sym, ap, ◌∙◌, arith}
use Rattle.std.specs.Option.{option_map}
use Rattle.std.proofs.lemmas.List.{drop_all}
use Rattle.std.proofs.lemmas.Bool.{eqb-true}
use Rattle.sz_protofile_lex.specs.Tokens.{comment_at, quoted_at}
use Rattle.sz_protofile_lex.proofs.Turns.{front_at}

-- one more byte was passed
shifted : (i : ℕ) (o : Option ℕ) → option_map (λ n. i + n) (option_map suc o) ≡ option_map (λ n. (i + 1) + n) o
shifted i None = refl
shifted i (Some n) = ap (λ (m : ℕ). Some m) (omega arith)

from_zero : (o : Option ℕ) → option_map (λ n. 0 + n) o ≡ o
from_zero None = refl
from_zero (Some n) = ap (λ (m : ℕ). Some m) (omega arith)

-- what is not equal doesn't pass the test
not_equal : (a b : ℕ) → (a ≡ b → ⊥) → (a == b) ≡ false
not_equal a b h = go (eqb a b) refl
  where
    go : (x : Bool) → eqb a b ≡ x → eqb a b ≡ false
    go true e = absurd (h (eqb-true a b e))
    go false e = e

-- ---- comments

pub comment_starts : (text : List ℕ) → option_map (λ n. 0 + n) (comment_at false (drop 0 text)) ≡ comment_at false text
comment_starts text = from_zero (comment_at false text)

module _ (text : List ℕ) (i : ℕ) (star : Bool) (r : Option ℕ)
    (so_far : option_map (λ n. i + n) (comment_at star (drop i text)) ≡ r) where
  pub comment_closes : i < length text → (star && get_or text i 0 == 47) ≡ true → Some (i + 1) ≡ r
  unfolding comment_at
  comment_closes lt ends =
      let e : comment_at star (drop i text) ≡ Some 1 = rw (front_at text i lt, ends) refl in
      sym (ap (option_map (λ n. i + n)) e) ∙ so_far

  pub comment_goes_on : i < length text → (star && get_or text i 0 == 47) ≡ false
      → option_map (λ n. (i + 1) + n) (comment_at (get_or text i 0 == 42) (drop (i + 1) text)) ≡ r
  unfolding comment_at
  comment_goes_on lt goes =
      let e : comment_at star (drop i text) ≡ option_map suc
      (comment_at (get_or text i 0 == 42) (drop (i + 1) text)) = rw (front_at text i lt, goes) refl in
      sym (shifted i (comment_at (get_or text i 0 == 42) (drop (i + 1) text)))
      ∙ sym (ap (option_map (λ n. i + n)) e) ∙ so_far

  pub comment_is_open : length text ≤ i → None ≡ r
  unfolding comment_at
  comment_is_open le =
      let e : comment_at star (drop i text) ≡ None = rw (drop_all i text le) refl in
      sym (ap (option_map (λ n. i + n)) e) ∙ so_far

-- ---- strings

pub quoted_starts : (quote : ℕ) (text : List ℕ)
    → option_map (λ n. 0 + n) (quoted_at quote false (drop 0 text)) ≡ quoted_at quote false text
quoted_starts quote text = from_zero (quoted_at quote false text)

module _ (quote : ℕ) (text : List ℕ) (i : ℕ) (escaped : Bool) (r : Option ℕ)
    (so_far : option_map (λ n. i + n) (quoted_at quote escaped (drop i text)) ≡ r) where
  pub newline_fails : i < length text → get_or text i 0 ≡ 10 → None ≡ r
  unfolding quoted_at
  newline_fails lt newline =
      let e : quoted_at quote escaped (drop i text) ≡ None = rw (front_at text i lt, newline) refl in
      sym (ap (option_map (λ n. i + n)) e) ∙ so_far

  pub quote_closes : i < length text → (get_or text i 0 ≡ 10 → ⊥) → (not escaped && get_or text i 0 == quote) ≡ true
      → Some (i + 1) ≡ r
  unfolding quoted_at
  quote_closes lt other ends =
      let e : quoted_at quote escaped (drop i text) ≡ Some 1 =
      rw (front_at text i lt, not_equal (get_or text i 0) 10 other, ends) refl in
      sym (ap (option_map (λ n. i + n)) e) ∙ so_far

  pub quoted_goes_on : i < length text → (get_or text i 0 ≡ 10 → ⊥) → (not escaped && get_or text i 0 == quote) ≡ false
      → option_map (λ n. (i + 1) + n) (quoted_at quote (not escaped && get_or text i 0 == 92) (drop (i + 1) text)) ≡ r
  unfolding quoted_at
  quoted_goes_on lt other goes =
      let rest = quoted_at quote (not escaped && get_or text i 0 == 92) (drop (i + 1) text) in
      let e : quoted_at quote escaped (drop i text) ≡ option_map suc rest =
      rw (front_at text i lt, not_equal (get_or text i 0) 10 other, goes) refl in
      sym (shifted i rest) ∙ sym (ap (option_map (λ n. i + n)) e) ∙ so_far

  pub quoted_is_open : length text ≤ i → None ≡ r
  unfolding quoted_at
  quoted_is_open le =
      let e : quoted_at quote escaped (drop i text) ≡ None = rw (drop_all i text le) refl in
      sym (ap (option_map (λ n. i + n)) e) ∙ so_far
