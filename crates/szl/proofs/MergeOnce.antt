-- Merging files ends in one way only.
use Rattle.std.proofs.Common.{◌≡◌, ◌∙◌, ℕ, suc, ◌+◌, ◌≤◌, inl, inr, List, [], ◌∷◌, ◌++◌, length, sym, ap, subst, arith, ◌^◌}
use Rattle.std.proofs.lemmas.List.Sorted.{IsPermutation-refl}
use Rattle.sz_save_format.specs.Saved.{SavedState, Saves}
use Rattle.sz_save_format.specs.Laws.{IsOneSpelling}
use Rattle.sz_merge.specs.Laws.{IsOneTogether}
use Rattle.sz_merge.specs.Together.{HasSameTables, bounds_of}
use Rattle.szl.specs.Merging.{Merged, together, too_long, bad, other, past, IsJoined, EndsAt, MergesFrom, IsMergedOnce}

module _ (spelling : IsOneSpelling) (one : IsOneTogether) where
  module _ (number : ℕ) (before : List SavedState) (bytes : List ℕ) where
    -- what is so of one state of the bytes is so of each
    of_state : (P : SavedState → Type 0) (s t : SavedState) → Saves bytes s → Saves bytes t → P s → P t
    of_state P s t g h = subst P (spelling bytes s t g h)

    same_file : (make : ℕ → Merged) (m n : ℕ) → m ≡ number → n ≡ number → make m ≡ make n
    same_file make m n is also = ap make (is ∙ sym also)

    one_end : (a b : Merged) → EndsAt number before bytes a → EndsAt number before bytes b → a ≡ b
    one_end (together s) b g h = absurd g
    one_end a (together s) g h = absurd h
    one_end (too_long m) (too_long n) g h = same_file too_long m n g.0 h.0
    one_end (too_long m) (bad n) g h = absurd (omega (arith, g.1, h.1))
    one_end (too_long m) (other n) g h = absurd (omega (arith, g.1, h.1))
    one_end (too_long m) (past n) g h = absurd (omega (arith, g.1, h.1))
    one_end (bad m) (too_long n) g h = absurd (omega (arith, g.1, h.1))
    one_end (bad m) (bad n) g h = same_file bad m n g.0 h.0
    one_end (bad m) (other n) g h = absurd (g.2 h.2.0 h.2.1)
    one_end (bad m) (past n) g h = absurd (g.2 h.2.0 h.2.1)
    one_end (other m) (too_long n) g h = absurd (omega (arith, g.1, h.1))
    one_end (other m) (bad n) g h = absurd (h.2 g.2.0 g.2.1)
    one_end (other m) (other n) g h = same_file other m n g.0 h.0
    one_end (other m) (past n) g h = absurd (g.2.2 (of_state (HasSameTables before) h.2.0 g.2.0 h.2.1 g.2.1 h.2.2.0))
    one_end (past m) (too_long n) g h = absurd (omega (arith, g.1, h.1))
    one_end (past m) (bad n) g h = absurd (h.2 g.2.0 g.2.1)
    one_end (past m) (other n) g h = absurd (h.2.2 (of_state (HasSameTables before) g.2.0 h.2.0 g.2.1 h.2.1 g.2.2.0))
    one_end (past m) (past n) g h = same_file past m n g.0 h.0

    -- a file that can be joined ends nothing
    pub no_end : (a : Merged) (s : SavedState) → EndsAt number before bytes a → IsJoined before bytes s → ⊥
    no_end (together t) s g h = g
    no_end (too_long m) s g h = omega (arith, g.1, h.0)
    no_end (bad m) s g h = g.2 s h.1.saves
    no_end (other m) s g h = g.2.2 (of_state (HasSameTables before) s g.2.0 h.1.saves g.2.1 h.1.same)
    no_end (past m) s g h =
        let low = of_state (λ t. bounds_of before + t.bound ≤ 2 ^ 63) s g.2.0 h.1.saves g.2.1 h.1.low in omega (arith, low, g.2.2.1)

  one_left : (before : List SavedState) (a b : Merged) → MergesFrom before [] a → MergesFrom before [] b → a ≡ b
  one_left before (together s) (together t) g h = ap together (one before before s t (IsPermutation-refl before) g h)
  one_left before (too_long m) b g h = absurd g
  one_left before (bad m) b g h = absurd g
  one_left before (other m) b g h = absurd g
  one_left before (past m) b g h = absurd g
  one_left before (together s) (too_long m) g h = absurd h
  one_left before (together s) (bad m) g h = absurd h
  one_left before (together s) (other m) g h = absurd h
  one_left before (together s) (past m) g h = absurd h

  once_from : (before : List SavedState) (files : List (List ℕ)) (a b : Merged) → MergesFrom before files a → MergesFrom before files b → a ≡ b
  once_from before [] a b g h = one_left before a b g h
  once_from before (bytes ∷ files) a b (inl g) (inl h) = one_end (suc (length before)) before bytes a b g h
  once_from before (bytes ∷ files) a b (inl g) (inr h) = absurd (no_end (suc (length before)) before bytes a h.0 g h.1)
  once_from before (bytes ∷ files) a b (inr g) (inl h) = absurd (no_end (suc (length before)) before bytes b g.0 h g.1)
  once_from before (bytes ∷ files) a b (inr g) (inr h) =
      let same = spelling bytes h.0 g.0 h.1.1.saves g.1.1.saves in
      once_from (before ++ g.0 ∷ []) files a b g.2 (subst (λ s. MergesFrom (before ++ s ∷ []) files b) same h.2)

  pub merged_once : IsMergedOnce
  merged_once files a b g h = once_from [] files a b g h
