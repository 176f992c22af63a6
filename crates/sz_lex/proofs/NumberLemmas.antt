-- Digits are read one after another, and a number that is too large stays so.
use Rattle.std.proofs.Common.{◌≡◌, ℕ, suc, ◌+◌, ◌*◌, ◌^◌, ◌≤◌, ◌<◌, Bool, true, false, nat_lt, nat_le, inl, inr, List, [], ◌∷◌, length}
use Rattle.std.proofs.Common.{Option, Some, None, refl, sym, ap, ◌∙◌, arith}
use Rattle.std.proofs.lemmas.Bool.{ltb-true, ltb-false, lt-ltb, le-leb}
use Rattle.std.proofs.Math.Nat.{mul_assoc, pow-succ'}
use Rattle.std.proofs.lemmas.Nat.{mul-le}
use Rattle.std.specs.Char.{digit_value}
use Rattle.sz_lex.specs.Numbers.{digits_from, below}
use Rattle.std.specs.Char.{OutOfScalarRange}
use Rattle.sz_lex.specs.Literals.{character_escape}
use Rattle.sz_lex.specs.Reading.{push_digit}
use Rattle.sz_lex.proofs.LiteralLemmas.{none_some}

pub no_lt : (a b : ℕ) → b ≤ a → nat_lt a b ≡ false
no_lt a b le = go (nat_lt a b) refl
  where
    go : (x : Bool) → nat_lt a b ≡ x → nat_lt a b ≡ false
    go true e = absurd (omega (arith, ltb-true a b e))
    go false e = e

scaled : (base n d : ℕ) → 1 ≤ base → n ≤ n * base + d
scaled base n d some = omega (arith, mul-le n 1 n base (omega arith) some)

-- digits make a number no smaller
grows : (base n : ℕ) (ds : List ℕ) (m : ℕ) → 1 ≤ base → digits_from base n ds ≡ Some m → n ≤ m
grows base n [] m some h = let same : n ≡ m = cc in omega arith
grows base n (b ∷ ds) m some h = go (nat_lt (digit_value b) base) refl (grows base (n * base + digit_value b) ds m some)
  where
    go : (x : Bool) → nat_lt (digit_value b) base ≡ x → (digits_from base (n * base + digit_value b) ds ≡ Some m
        → n * base + digit_value b ≤ m) → n ≤ m
    go true e again = let more : n * base + digit_value b ≤ m = again (rw e at h) in
        omega (arith, more, scaled base n (digit_value b) some)
    go false e again = let nothing : None ≡ Some m = rw e at h in none_some nothing

pub too_large : (base n limit : ℕ) (ds : List ℕ) → 1 ≤ base → limit ≤ n → below limit (digits_from base n ds) ≡ None
too_large base n limit ds some le = go (digits_from base n ds) refl
  where
    go : (o : Option ℕ) → digits_from base n ds ≡ o → below limit (digits_from base n ds) ≡ None
    go None e = ap (below limit) e
    go (Some m) e = ap (below limit) e ∙ rw (no_lt m limit (omega (arith, grows base n ds m some e))) refl

-- one more digit
pub record Pushed (base n b m : ℕ) (ds : List ℕ) : Type 0 where
  pub fits : m < 2 ^ 64
  pub more : digits_from base n (b ∷ ds) ≡ digits_from base m ds

pub pushed : (base n b m : ℕ) (ds : List ℕ) → push_digit base n b ≡ Some m → Pushed base n b m ds
pushed base n b m ds h = go (nat_lt (digit_value b) base) (nat_lt (n * base + digit_value b) (2 ^ 64)) refl refl
  where
    go : (x y : Bool) → nat_lt (digit_value b) base ≡ x → nat_lt (n * base + digit_value b) (2 ^ 64) ≡ y
        → Pushed base n b m ds
    go false y e f = let nothing : None ≡ Some m = rw e at h in none_some nothing
    go true false e f = let nothing : None ≡ Some m = rw f at (rw e at h) in none_some nothing
    go true true e f =
        let is : Some (n * base + digit_value b) ≡ Some m = rw f at (rw e at h) in
        let same : n * base + digit_value b ≡ m = cc in
        record {
          fits = omega (arith, same, ltb-true (n * base + digit_value b) (2 ^ 64) f);
          more =
              rw e (ap (λ (k : ℕ). digits_from base k ds) same);
        }

-- no number goes on with this byte
pub not_pushed : (base n b : ℕ) (ds : List ℕ) → 1 ≤ base → push_digit base n b ≡ None
    → below (2 ^ 64) (digits_from base n (b ∷ ds)) ≡ None
not_pushed base n b ds some h = go (nat_lt (digit_value b) base) (nat_lt (n * base + digit_value b) (2 ^ 64)) refl refl
  where
    go : (x y : Bool) → nat_lt (digit_value b) base ≡ x → nat_lt (n * base + digit_value b) (2 ^ 64) ≡ y
        → below (2 ^ 64) (digits_from base n (b ∷ ds)) ≡ None
    go false y e f = rw e refl
    go true false e f = rw e (too_large base (n * base + digit_value b) (2 ^ 64) ds some (not_below f))
      where
        not_below : nat_lt (n * base + digit_value b) (2 ^ 64) ≡ false → 2 ^ 64 ≤ n * base + digit_value b
        not_below f = ltb-false (n * base + digit_value b) (2 ^ 64) f
    go true true e f = let something : Some (n * base + digit_value b) ≡ None = rw f at (rw e at h) in
        none_some (sym something)

-- digits to base 16 are below 16 to the power of their number
pub hexadecimal_below : (n : ℕ) (ds : List ℕ) (m k : ℕ) → n < k → digits_from 16 n ds ≡ Some m → m < k * 16 ^ length ds
hexadecimal_below n [] m k lt h = let same : n ≡ m = cc in omega (arith, same)
hexadecimal_below n (b ∷ ds) m k lt h =
    go (nat_lt (digit_value b) 16) refl (hexadecimal_below (n * 16 + digit_value b) ds m (k * 16))
  where
    power : k * 16 * 16 ^ length ds ≡ k * 16 ^ suc (length ds)
    power = mul_assoc k 16 (16 ^ length ds) ∙ ap (λ (x : ℕ). k * x) (sym (pow-succ' 16 (length ds)))

    go : (x : Bool) → nat_lt (digit_value b) 16 ≡ x → (n * 16 + digit_value b < k * 16
        → digits_from 16 (n * 16 + digit_value b) ds ≡ Some m → m < k * 16 * 16 ^ length ds)
        → m < k * 16 ^ suc (length ds)
    go false e again = let nothing : None ≡ Some m = rw e at h in none_some nothing
    go true e again = rw (← power) (again (omega (arith, ltb-true (digit_value b) 16 e)) (rw e at h))

pub four_digits : (ds : List ℕ) (m : ℕ) → length ds ≡ 4 → digits_from 16 0 ds ≡ Some m → m < 65536
four_digits ds m len h = let most = hexadecimal_below 0 ds m 1 (omega arith) h in let top : 1 * 16 ^ length ds ≡ 65536 =
    rw len refl in omega (arith, most, top)

-- four hexadecimal digits fit
pub four_fit : (ds : List ℕ) → length ds ≡ 4 → below (2 ^ 64) (digits_from 16 0 ds) ≡ digits_from 16 0 ds
four_fit ds len = go (digits_from 16 0 ds) refl
  where
    go : (o : Option ℕ) → digits_from 16 0 ds ≡ o → below (2 ^ 64) (digits_from 16 0 ds) ≡ digits_from 16 0 ds
    go None e = ap (below (2 ^ 64)) e ∙ sym e
    go (Some m) e = let fits : nat_lt m (2 ^ 64) ≡ true = lt-ltb m (2 ^ 64) (omega (
      arith,
      four_digits ds m len e,
    )) in ap (below (2 ^ 64)) e ∙ (rw fits (sym e))

-- a code of four digits that no character has is no escape
pub no_character : (code : ℕ) → OutOfScalarRange code → code < 65536 → character_escape code ≡ None
no_character code (inl h) lt = let low : nat_le 0xD800 code ≡ true =
    le-leb 0xD800 code h.0 in let high : nat_le code 0xDFFF ≡ true = le-leb code 0xDFFF h.1 in rw (low, high) refl
no_character code (inr h) lt = absurd (omega (arith, h))
