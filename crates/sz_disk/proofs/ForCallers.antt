-- What a crate above may cite: what one write may leave, as fronts and backs of bytes.
use Rattle.std.proofs.Common.{◌≡◌, ℕ, ◌+◌, ◌<◌, ◌≤◌, ◌||◌, false, List, [], ◌∷◌, length, take, drop, sym, ◌∙◌, arith}
use Rattle.std.proofs.Common.{length-take, length-drop, get_or-take, get_or-drop}
use Rattle.std.proofs.lemmas.Bool.Decides.{nat_tests}
use Rattle.sz_disk.specs.Crashes.{Torn, covers}
use Rattle.sz_disk.proofs.TornLemmas.{same_bytes}

-- a place before a span lies in none of it, and one behind it doesn't either
before_it : (at count place : ℕ) → place < at → (covers place (record { at = at; count = count }) || false) ≡ false
before_it at count place lt = grind (arith, nat_tests)

behind_it : (at count place : ℕ) → at + count ≤ place
    → (covers place (record { at = at; count = count }) || false) ≡ false
behind_it at count place le = grind (arith, nat_tests)

module _ (at count : ℕ) (old image : List ℕ) (torn : Torn (record { at = at; count = count } ∷ []) old image) where
  -- the bytes before the span stay
  pub torn_front : at ≤ length old → take at image ≡ take at old
  torn_front within =
      same_bytes (take at image) (take at old)
      (omega (arith, length-take at image, length-take at old, within, torn.no_shorter))
      (λ i lt.
      let low : i < at = omega (arith, lt, length-take at old) in
      get_or-take at image i 0 low ∙ torn.same i (omega (arith, lt, within, length-take at old))
      (before_it at count i low) ∙ sym (get_or-take at old i 0 low))

  -- a span within the old bytes leaves their number, and those behind it
  pub torn_long : at + count ≤ length old → length image ≡ length old
  torn_long within = omega (arith, within, torn.no_shorter, torn.no_longer)

  pub torn_back : at + count ≤ length old → drop (at + count) image ≡ drop (at + count) old
  torn_back within =
      same_bytes (drop (at + count) image) (drop (at + count) old)
      (omega (arith, length-drop (at + count) image, length-drop (at + count) old, torn_long within))
      (λ i lt.
      get_or-drop (at + count) image i 0
      ∙ torn.same (at + count + i) (omega (arith, lt, within, length-drop (at + count) old))
      (behind_it at count (at + count + i) (omega arith)) ∙ sym (get_or-drop (at + count) old i 0))
