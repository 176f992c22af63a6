-- Starts are taken away from the end of a list.
use Rattle.std.proofs.Common.{◌≡◌, ℕ, ◌+◌, ◌<◌, ◌≤◌, ◌⊎◌, inl, inr, List, [], ◌∷◌, ◌++◌, length, take, slice_get, Some, refl, sym, ap, ◌∙◌, subst, arith}
use Rattle.std.proofs.lemmas.Bool.{cases_lt}
use Rattle.std.proofs.lemmas.List.{length_push, take_all, take_at, take-take}
use Rattle.sz_protofile_types.specs.declared.mark.Start.{Start}
use Rattle.sz_protofile_types.proofs.Places.{at_within, at_end, at_taken}

-- so far only starts behind the place are taken away
pub record IsCutting (place : ℕ) (starts after : List Start) : Type 0 where
  pub front : after ≡ take (length after) starts
  pub few : length after ≤ length starts
  pub behind : (i : ℕ) (s : Start) → slice_get starts i ≡ Some s → length after ≤ i → place < s.place

pub cut_begins : (place : ℕ) (starts : List Start) → IsCutting place starts starts
cut_begins place starts = record {
  front = sym (take_all (length starts) starts (omega arith));
  few = omega arith;
  behind = λ i s a l. absurd (omega (arith, at_within starts i s a, l));
}

pub cut_goes_on : (place : ℕ) (starts old after : List Start) (t : Start) → IsCutting place starts old
    → old ≡ after ++ t ∷ [] → place < t.place → IsCutting place starts after
cut_goes_on place starts old after t h e l = record {
  front = sym (take_at after (t ∷ []) (length after) refl) ∙ ap (take (length after)) (sym e ∙ h.front)
      ∙ take-take (length after) (length old) starts (omega (arith, count));
  few = omega (arith, count, h.few);
  behind = λ i s a b. by i s a b;
}
  where
    count : length old ≡ length after + 1
    count = ap length e ∙ length_push after t

    its_own : slice_get starts (length after) ≡ Some t
    its_own = (at_taken starts (length old) (length after) t
        (ap (λ l. slice_get l (length after)) (sym h.front ∙ e) ∙ at_end after t)).0

    at_own : (i : ℕ) (s : Start) → slice_get starts i ≡ Some s → (i ≡ length after) → place < s.place
    at_own i s a f = subst (λ (r : Start). place < r.place) (same i s a f) l
      where
        same : (i : ℕ) (s : Start) → slice_get starts i ≡ Some s → (i ≡ length after) → t ≡ s
        same i s a f =
            let p : Some t ≡ Some s = sym its_own ∙ ap (slice_get starts) (sym f) ∙ a in
            cc

    by : (i : ℕ) (s : Start) → slice_get starts i ≡ Some s → length after ≤ i → place < s.place
    by i s a b = split (cases_lt (length after) i)
      where
        split : (length after < i) ⊎ (i ≤ length after) → place < s.place
        split (inl c) = h.behind i s a (omega (arith, c, count))
        split (inr c) = at_own i s a (omega (arith, b, c))
