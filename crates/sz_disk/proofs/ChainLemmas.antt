-- What the same bytes hold, read in two ways, is the same.
use Rattle.std.proofs.Common.{◌≡◌, ◌≢◌, ℕ, List, [], ◌∷◌, ◌++◌, length, take, drop, refl, sym, ◌∙◌, ap, append_assoc}
use Rattle.std.specs.List.{AllByRecursion}
use Rattle.std.proofs.lemmas.List.{take_at, drop_at}
use Rattle.sz_disk.specs.Entries.{with_length, opened, all_opened, IsCounted, Holds}
use Rattle.sz_disk.proofs.ReadLemmas.{count_again}

-- entries with the same bytes in front are the same, and so is what stands behind them
same_front : (e f a b : List ℕ) → IsCounted e → IsCounted f → with_length e ++ a ≡ with_length f ++ b
    → (e ≡ f) × (a ≡ b)
same_front e f a b few small is =
    let long : length e ≡ length f = count_again (length e) (length f) few small (ap (λ (l : List ℕ). take 8 l) is) in
    let rest : e ++ a ≡ f ++ b = ap (λ (l : List ℕ). drop 8 l) is in (
      sym (take_at e a (length e) refl) ∙ ap (λ (l : List ℕ). take (length e) l) rest
          ∙ take_at f b (length e) (sym long),
      sym (drop_at e a (length e) refl) ∙ ap (λ (l : List ℕ). drop (length e) l) rest
          ∙ drop_at f b (length e) (sym long),
    )

pub same_opened : (e f a b : List ℕ) → IsCounted e → IsCounted f → opened e ++ a ≡ opened f ++ b → (e ≡ f) × (a ≡ b)
same_opened e f a b few small is = same_front e f a b few small (ap (λ (l : List ℕ). drop 1 l) is)

first_same : (g h : ℕ) (a b : List ℕ) → g ∷ a ≡ h ∷ b → g ≡ h
first_same g h a b is = cc

module _ (gate : ℕ) (behind : List ℕ) (closed : gate ≢ 1) where
  same_lists : (entries others : List (List ℕ)) (shut : ℕ) (rest : List ℕ) → shut ≢ 1 → AllByRecursion IsCounted entries
      → AllByRecursion IsCounted others → all_opened entries ++ gate ∷ behind ≡ all_opened others ++ shut ∷ rest
      → entries ≡ others
  same_lists [] [] shut rest no_open counted few is = refl
  same_lists [] (f ∷ others) shut rest no_open counted few is = absurd (closed (first_same gate 1 behind _ is))
  same_lists (e ∷ entries) [] shut rest no_open counted few is = absurd (no_open (first_same shut 1 rest _ (sym is)))
  same_lists (e ∷ entries) (f ∷ others) shut rest no_open counted few is =
      let regrouped : opened e ++ (all_opened entries ++ gate ∷ behind)
      ≡ opened f ++ (all_opened others ++ shut ∷ rest) =
      sym (append_assoc (opened e) (all_opened entries) (gate ∷ behind)) ∙ is
      ∙ append_assoc (opened f) (all_opened others) (shut ∷ rest) in
      let same = same_opened e f (all_opened entries ++ gate ∷ behind)
      (all_opened others ++ shut ∷ rest) counted.0 few.0 regrouped in
      λ i. same.0 i ∷ same_lists entries others shut rest no_open counted.1 few.1 same.1 i

-- no bytes hold two lists of entries
pub one_list : (bytes : List ℕ) (entries others : List (List ℕ)) → Holds entries bytes → Holds others bytes
    → entries ≡ others
one_list bytes entries others first second =
    same_lists first.gate first.behind first.closed entries others
    second.gate second.behind second.closed first.counted second.counted
    (sym first.is ∙ second.is)
