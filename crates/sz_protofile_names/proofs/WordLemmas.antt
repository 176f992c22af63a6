-- Laws of words: those of a table, and what stands behind a front.
use Rattle.std.proofs.Common.{◌≡◌, ℕ, ◌+◌, ◌<◌, Bool, true, false, eqb, List, [], ◌∷◌, ◌++◌, drop, find, get_or, Option, Some, None, refl, sym, ap, ◌∙◌, arith, length, Bor, if◌then◌else◌, ◌≢◌}
use Rattle.std.specs.Option.{MatchOption, option_copied}
use Rattle.std.specs.Str.Pattern.{FindsTextPrefix, LacksTextAt, StripsPrefix}
use Rattle.std.proofs.lemmas.List.{at_drop_more}
use Rattle.std.proofs.lemmas.Bool.{eqb-true}
use Rattle.std.proofs.lemmas.Bool.Decides.{nat_tests}
use Rattle.sz_protofile.specs.Lookup.{behind}

-- the item at i, or a later one
pub found_item : {X : Type 0} (test : X → Bool) (xs : List X) (i : ℕ) (d : X) → i < length xs
    → test (get_or xs i d) ≡ true → find test (drop i xs) ≡ Some (get_or xs i d)
found_item test xs i d lt e = at_drop_more (find test) xs i d lt ∙ rw e refl

pub passed_item : {X : Type 0} (test : X → Bool) (xs : List X) (i : ℕ) (d : X) → i < length xs
    → test (get_or xs i d) ≡ false → find test (drop i xs) ≡ find test (drop (i + 1) xs)
passed_item test xs i d lt e = at_drop_more (find test) xs i d lt ∙ rw e refl

-- ---- what is left of a word behind a front

cons_is : (a : ℕ) (xs ys : List ℕ) → xs ≡ ys → (a ∷ xs) ≡ (a ∷ ys)
cons_is a xs ys e = ap (λ (l : List ℕ). a ∷ l) e

itself : (a : ℕ) → eqb a a ≡ true
itself a = grind (arith, nat_tests)

pub behind_front : (front rest : List ℕ) → behind front (front ++ rest) ≡ Some rest
unfolding behind
behind_front [] rest = refl
behind_front (a ∷ front) rest = by (eqb a a) (itself a) (behind_front front rest)
  where
    by : (b : Bool) → b ≡ true → behind front (front ++ rest) ≡ Some rest
        → (if b then behind front (front ++ rest) else None) ≡ Some rest
    by true e after = after
    by false e after = absurd cc

pub behind_lacks : (front word : List ℕ) → ((rest : List ℕ) → word ≢ front ++ rest) → behind front word ≡ None
unfolding behind
behind_lacks [] word h = absurd (h word refl)
behind_lacks (a ∷ front) [] h = refl
behind_lacks (a ∷ front) (b ∷ word) h =
    by (eqb a b) refl (λ same. behind_lacks front word
    (λ rest e. h rest (ap (λ (x : ℕ). x ∷ word) (sym same) ∙ cons_is a word (front ++ rest) e)))
  where
    by : (t : Bool) → eqb a b ≡ t → (a ≡ b → behind front word ≡ None) → (if t then behind front word else None) ≡ None
    by true e after = after (eqb-true a b e)
    by false e after = refl

pub stripped : (front word : List ℕ) (r : Option (Bor (List ℕ)))
    → MatchOption r (LacksTextAt front word 0) (λ x. StripsPrefix (FindsTextPrefix front) word x.now)
    → option_copied r ≡ behind front word
stripped front word None h = sym (behind_lacks front word h)
stripped front word (Some x) (n, found, is, len) =
    ap (λ (l : List ℕ). Some l) is ∙ sym (behind_front front (drop n word)) ∙ ap (behind front) (sym found.1)
