-- What a function gives for lists of numbers in any order.
use Rattle.std.proofs.Common.{◌≡◌, ◌≢◌, ◌⊎◌, ℕ, zero, suc, ◌<◌, ◌≤◌, List, [], ◌∷◌, ◌++◌, length, refl, ap, sym, ◌∙◌, subst, inl, inr, ⊎_elim}
use Rattle.std.proofs.Common.{arith, append_assoc, length-append}
use Rattle.std.specs.Prelude.{IsPermutation}
use Rattle.std.proofs.lemmas.List.Sorted.{IsPermutation-refl, IsPermutation-append_left, IsPermutation-append_right, IsPermutation-append_comm, IsPermutation-trans, length_permutation}
use mathlib.Core.Logic.{dite}
use native.Mathlib.Decide.{ℕ_discrete}
use Rattle.sz_book_rules.specs.History.{IsAmong, AreDistinct}
use Rattle.sz_workers.proofs.WonLemmas.{among_back}
use Rattle.sz_workers.specs.Parts.{gathered}

-- what a function gives for 0 and so on, below a number
abbrev pub in_order : {A : Type 0} → (ℕ → List A) → ℕ → List A
in_order f zero = []
in_order f (suc n) = in_order f n ++ f n

-- whether a number is in a list
among_or_not : (m : ℕ) (ss : List ℕ) → IsAmong m ss ⊎ (¬ IsAmong m ss)
among_or_not m [] = inr (λ no. no)
among_or_not m (s ∷ ss) = dite (ℕ_discrete s m) (λ (e : s ≡ m). inl (inl e))
    (λ (ne : s ≢ m). ⊎_elim (λ (a : IsAmong m ss). inl (inr a)) (λ (b : ¬ IsAmong m ss). inr (λ in'. ⊎_elim ne b in'))
    (among_or_not m ss))

-- a list at a number that is in it
record IsSplit (m : ℕ) (ss : List ℕ) : Type 0 where
  front : List ℕ
  back : List ℕ
  is : ss ≡ front ++ m ∷ back

split_at : (m : ℕ) (ss : List ℕ) → IsAmong m ss → IsSplit m ss
split_at m [] h = absurd h
split_at m (s ∷ ss) (inl e) = record { front = []; back = ss; is = ap (λ (k : ℕ). k ∷ ss) e }
split_at m (s ∷ ss) (inr h) = let r = split_at m ss h in record {
  front = s ∷ r.front;
  back = r.back;
  is = ap (λ (l : List ℕ). s ∷ l) r.is;
}

-- what is left without that number
among_rest : (t m : ℕ) (front back : List ℕ) → IsAmong t (front ++ m ∷ back) → (m ≡ t) ⊎ IsAmong t (front ++ back)
among_rest t m [] back h = h
among_rest t m (s ∷ front) back (inl e) = inr (inl e)
among_rest t m (s ∷ front) back (inr h) =
    ⊎_elim (λ (a : m ≡ t). inl a) (λ (b : IsAmong t (front ++ back)). inr (inr b)) (among_rest t m front back h)

among_more : (t m : ℕ) (front back : List ℕ) → IsAmong t (front ++ back) → IsAmong t (front ++ m ∷ back)
among_more t m [] back h = inr h
among_more t m (s ∷ front) back (inl e) = inl e
among_more t m (s ∷ front) back (inr h) = inr (among_more t m front back h)

distinct_rest : (m : ℕ) (front back : List ℕ) → AreDistinct (front ++ m ∷ back)
    → (¬ IsAmong m (front ++ back)) × AreDistinct (front ++ back)
distinct_rest m [] back d = d
distinct_rest m (s ∷ front) back d =
    let r = distinct_rest m front back d.1 in (
      (λ in'. ⊎_elim (λ (e : s ≡ m). d.0 (subst (λ (k : ℕ). IsAmong k (front ++ m ∷ back)) (sym e)
          (among_back m front (m ∷ back) (inl refl)))) r.0 in'),
      ((λ in'. d.0 (among_more s m front back in')), r.1),
    )

module _ {A : Type 0} (f : ℕ → List A) where
  pub gathered-append : (ss ts : List ℕ) → gathered f (ss ++ ts) ≡ gathered f ss ++ gathered f ts
  gathered-append [] ts = refl
  gathered-append (s ∷ ss) ts = ap (λ (l : List A). f s ++ l) (gathered-append ss ts)
      ∙ sym (append_assoc (f s) (gathered f ss) (gathered f ts))

  -- what one of the numbers gives can stand last
  taken_out : (m : ℕ) (front back : List ℕ)
      → IsPermutation (gathered f (front ++ m ∷ back)) (gathered f (front ++ back) ++ f m)
  taken_out m front back =
      let a : List A = gathered f front in
      let b : List A = gathered f back in
      let left : gathered f (front ++ m ∷ back) ≡ a ++ (f m ++ b) = gathered-append front (m ∷ back) in
      let right : gathered f (front ++ back) ++ f m ≡ a ++ (b ++ f m) =
      ap (λ (l : List A). l ++ f m) (gathered-append front back) ∙ append_assoc a b (f m) in
      let moved : IsPermutation (a ++ (f m ++ b)) (a ++ (b ++ f m)) =
      IsPermutation-append_right a (f m ++ b) (b ++ f m) (IsPermutation-append_comm (f m) b) in
      subst (λ (l : List A). IsPermutation (gathered f (front ++ m ∷ back)) l) (sym right)
      (subst (λ (l : List A). IsPermutation l (a ++ (b ++ f m))) (sym left) moved)

  below_other : (s n : ℕ) → s < suc n → s ≢ n → s < n
  below_other s n l ne = grind arith

  -- all numbers below n and no others, each once, give what they give in order
  pub gives_all : (n : ℕ) (ss : List ℕ) → AreDistinct ss → ((s : ℕ) → IsAmong s ss → s < n)
      → ((s : ℕ) → s < n → IsAmong s ss) → IsPermutation (gathered f ss) (in_order f n)
  gives_all zero [] d low all = IsPermutation-refl []
  gives_all zero (s ∷ ss) d low all = absurd (let none = low s (inl refl) in omega arith)
  gives_all (suc n) ss d low all =
      let at = split_at n ss (all n (omega arith)) in
      let rest : List ℕ = at.front ++ at.back in
      let apart = distinct_rest n at.front at.back (subst AreDistinct at.is d) in
      let back : (s : ℕ) → IsAmong s rest → IsAmong s ss =
      λ s in'. subst (IsAmong s) (sym at.is) (among_more s n at.front at.back in') in
      let lower : (s : ℕ) → IsAmong s rest → s < n = λ s in'.
      let l = low s (back s in') in
      let ne : s ≢ n = λ e. apart.0 (subst (λ (k : ℕ). IsAmong k rest) e in') in
      below_other s n l ne in
      let each : (s : ℕ) → s < n → IsAmong s rest = λ s l.
      ⊎_elim (λ (e : n ≡ s). absurd (omega (arith, e, l))) (λ (in' : IsAmong s rest). in')
      (among_rest s n at.front at.back (subst (IsAmong s) at.is (all s (omega (arith, l))))) in
      let first : IsPermutation (gathered f ss) (gathered f rest ++ f n) =
      subst (λ (l : List ℕ). IsPermutation (gathered f l) (gathered f rest ++ f n)) (sym at.is)
      (taken_out n at.front at.back) in
      IsPermutation-trans (gathered f ss) (gathered f rest ++ f n) (in_order f n ++ f n) first
      (IsPermutation-append_left (f n) (gathered f rest) (in_order f n) (gives_all n rest apart.1 lower each))

  -- one number more
  fewer_by : (n : ℕ) (ss : List ℕ) → AreDistinct ss → ((s : ℕ) → IsAmong s ss → s < suc n)
      → ((rest : List ℕ) → AreDistinct rest → ((s : ℕ) → IsAmong s rest → s < n)
      → length (gathered f rest) ≤ length (in_order f n))
      → IsAmong n ss ⊎ (¬ IsAmong n ss) → length (gathered f ss) ≤ length (in_order f n ++ f n)
  fewer_by n ss d low below (inl in') =
      let at = split_at n ss in' in
      let rest : List ℕ = at.front ++ at.back in
      let apart = distinct_rest n at.front at.back (subst AreDistinct at.is d) in
      let lower : (s : ℕ) → IsAmong s rest → s < n = λ s here.
      below_other s n (low s (subst (IsAmong s) (sym at.is) (among_more s n at.front at.back here)))
      (λ e. apart.0 (subst (λ (k : ℕ). IsAmong k rest) e here)) in
      let fewer = below rest apart.1 lower in
      let same = length_permutation (gathered f (at.front ++ n ∷ at.back)) (gathered f rest ++ f n)
      (taken_out n at.front at.back) in
      let is = ap (λ (l : List ℕ). length (gathered f l)) at.is in
      omega (arith, fewer, same, is, length-append (in_order f n) (f n), length-append (gathered f rest) (f n))
  fewer_by n ss d low below (inr out) =
      let fewer =
      below ss d (λ s here. below_other s n (low s here) (λ e. out (subst (λ (k : ℕ). IsAmong k ss) e here))) in
      omega (arith, fewer, length-append (in_order f n) (f n))

  -- some of the numbers below n, each once, give no more than all
  pub gives_fewer : (n : ℕ) (ss : List ℕ) → AreDistinct ss → ((s : ℕ) → IsAmong s ss → s < n)
      → length (gathered f ss) ≤ length (in_order f n)
  gives_fewer zero [] d low = omega arith
  gives_fewer zero (s ∷ ss) d low = absurd (let none = low s (inl refl) in omega arith)
  gives_fewer (suc n) ss d low =
      fewer_by n ss d low (λ rest. gives_fewer n rest) (among_or_not n ss)
