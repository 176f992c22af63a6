-- Shards that are to be placed, one more at a time.
use Rattle.std.proofs.Common.{◌≡◌, ℕ, zero, suc, ◌+◌, ◌<◌, ◌==◌, ◌&&◌, ◌||◌, Bool, true, false, not, List, [], ◌∷◌, ◌++◌, set, take, length, refl, ap, sym, ◌∙◌, subst}
use Rattle.std.specs.Prelude.{slice_index}
use Rattle.std.specs.List.{list_any}
use Rattle.std.proofs.lemmas.Bool.{eqb-true, eqb-false}
use Rattle.std.proofs.lemmas.List.{get_or-set_other, take_more}
use Rattle.sz_book_rules.specs.Machine.{AreUnplaced}
use Rattle.sz_book.specs.Cores.{is_unplaced_after}

pub front_unplaced : (n i : ℕ) (marks ss : List ℕ) → AreUnplaced n marks ss → AreUnplaced n marks (take i ss)
front_unplaced n zero marks ss h = tt
front_unplaced n (suc i) marks [] h = tt
front_unplaced n (suc i) marks (s ∷ ss) h = (h.0, front_unplaced n i (set marks s 0) ss h.1)

cleared : (marks : List ℕ) (s : ℕ) → slice_index (set marks s 0) s ≡ 0
cleared [] s = refl
cleared (m ∷ marks) zero = refl
cleared (m ∷ marks) (suc s) = cleared marks s

by_first : (t s : ℕ) (marks front : List ℕ) (b : Bool) → (t == s) ≡ b → is_unplaced_after (set marks t 0) front s
    ≡ ((slice_index marks s == 1) && not (b || list_any (λ u. u == s) front))
by_first t s marks front true is =
    let none : slice_index (set marks t 0) s ≡ 0 =
    ap (λ (u : ℕ). slice_index (set marks u 0) s) (eqb-true t s is) ∙ cleared marks s in
    ap (λ (n : ℕ). (n == 1) && not (list_any (λ u. u == s) front)) none ∙ no_and (slice_index marks s == 1) where
      no_and : (b : Bool) → false ≡ (b && false)
      no_and true = refl
      no_and false = refl
by_first t s marks front false is =
    ap (λ (n : ℕ). (n == 1) && not (list_any (λ u. u == s) front))
    (get_or-set_other marks t s 0 0 (λ (same : s ≡ t). eqb-false t s is (sym same)))

-- what is after one more shard
after-cons : (marks front : List ℕ) (t s : ℕ)
    → is_unplaced_after (set marks t 0) front s ≡ is_unplaced_after marks (t ∷ front) s
after-cons marks front t s = by_first t s marks front (t == s) refl

is_one : (n : ℕ) (b : Bool) → (n == 1) ≡ b → b && true ≡ true → n ≡ 1
is_one n true is h = eqb-true n 1 is
is_one n false is h = absurd (cc h)

pub snoc_unplaced : (marks front : List ℕ) (s : ℕ) → AreUnplaced 0 marks front
    → is_unplaced_after marks front s ≡ true → AreUnplaced 0 marks (front ++ s ∷ [])
snoc_unplaced marks [] s h is = (is_one (slice_index marks s) (slice_index marks s == 1) refl is, tt)
snoc_unplaced marks (t ∷ front) s h is =
    (h.0, snoc_unplaced (set marks t 0) front s h.1 (after-cons marks front t s ∙ is))

one_is : (n : ℕ) → n ≡ 1 → ((n == 1) && true) ≡ true
one_is n is = ap (λ (m : ℕ). (m == 1) && true) is

pub unplaced_snoc : (marks front : List ℕ) (s : ℕ) → AreUnplaced 0 marks (front ++ s ∷ [])
    → is_unplaced_after marks front s ≡ true
unplaced_snoc marks [] s h = one_is (slice_index marks s) h.0
unplaced_snoc marks (t ∷ front) s h = sym (after-cons marks front t s) ∙ unplaced_snoc (set marks t 0) front s h.1

pub next_unplaced : (marks ss : List ℕ) (i : ℕ) → i < length ss → AreUnplaced 0 marks (take i ss)
    → is_unplaced_after marks (take i ss) (slice_index ss i) ≡ true
    → AreUnplaced 0 marks (take (i + 1) ss)
next_unplaced marks ss i low h is =
    subst (AreUnplaced 0 marks) (sym (take_more ss i 0 low)) (snoc_unplaced marks (take i ss) (slice_index ss i) h is)

pub not_unplaced : (marks ss : List ℕ) (i : ℕ) → i < length ss
    → is_unplaced_after marks (take i ss) (slice_index ss i) ≡ false → ¬ AreUnplaced 0 marks ss
not_unplaced marks ss i low is h =
    let yes = unplaced_snoc marks (take i ss) (slice_index ss i)
    (subst (AreUnplaced 0 marks) (take_more ss i 0 low) (front_unplaced 0 (i + 1) marks ss h)) in
    absurd (cc (sym is ∙ yes))
