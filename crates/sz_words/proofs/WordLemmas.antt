-- What `clap` makes of the dashes of a word.
use Rattle.std.proofs.Common.{◌≡◌, ℕ, List, [], ◌∷◌, Bool, true, false, true≢false, refl, sym, drop, Some, None}
use Rattle.std.specs.Prelude.{bytes_eq, codes, nat_eq, if◌then◌else◌, ◌&&◌}
use Rattle.std.specs.List.{before_first, after_first}
use Rattle.clap.specs.Lexer.{long_of, short_of}
use Rattle.sz_words.specs.Parts.{is_dashed, is_name, is_long, is_equals, has_equals}

-- a name is no option
pub record NoOption (word : List ℕ) : Type 0 where
  pub no_end : bytes_eq word (45 ∷ 45 ∷ []) ≡ false
  pub no_long : long_of word ≡ None
  pub no_short : short_of word ≡ None

pub name-NoOption : (word : List ℕ) → is_name word ≡ true → NoOption word
name-NoOption [] e = record { no_end = refl; no_long = refl; no_short = refl }
name-NoOption (x ∷ xs) e = go (nat_eq x 45) refl xs e
  where
    go : (b : Bool) → nat_eq x 45 ≡ b → (xs : List ℕ) → is_name (x ∷ xs) ≡ true → NoOption (x ∷ xs)
    go false f xs e = record { no_end = rw f refl; no_long = rw f refl; no_short = rw f refl }
    go true f [] e = record { no_end = rw f refl; no_long = rw f refl; no_short = rw f refl }
    go true f (y ∷ ys) e = let bad : false ≡ true = rw f at e in absurd (true≢false (sym bad))

-- a word that doesn't begin with a dash is a name
pub undashed-name : (word : List ℕ) → is_dashed word ≡ false → is_name word ≡ true
undashed-name word e = rw e refl

-- a word of two dashes and more
pub long-is : (word : List ℕ) → is_long word ≡ true → bytes_eq word (codes "--") ≡ false
    → long_of word ≡ Some (
      before_first is_equals (drop 2 word),
      (if has_equals (drop 2 word) then Some (after_first is_equals (drop 2 word)) else None),
    )
long-is [] e f = absurd (true≢false (sym e))
long-is (x ∷ []) e f = absurd (no_both (nat_eq x 45) e)
  where
    no_both : (b : Bool) → (b && false) ≡ true → ⊥
    no_both true h = true≢false (sym h)
    no_both false h = true≢false (sym h)
long-is (x ∷ y ∷ rest) e f = go (nat_eq x 45) refl (nat_eq y 45) refl rest f
  where
    go : (b : Bool) → nat_eq x 45 ≡ b → (c : Bool) → nat_eq y 45 ≡ c → (rest : List ℕ)
        → bytes_eq (x ∷ y ∷ rest) (codes "--") ≡ false
        → long_of (x ∷ y ∷ rest)
        ≡ Some (before_first is_equals rest, (if has_equals rest then Some (after_first is_equals rest) else None))
    go false g c h rest f = let bad : false ≡ true = rw g at e in absurd (true≢false (sym bad))
    go true g false h rest f = let bad : false ≡ true = rw (g, h) at e in absurd (true≢false (sym bad))
    go true g true h [] f = let bad : true ≡ false = rw (g, h) at f in absurd (true≢false bad)
    go true g true h (z ∷ zs) f = rw (g, h) refl
