-- What a crash leaves of a journal while an entry is written behind its last gate, and while this gate is opened.
use Rattle.std.proofs.Common.{◌≡◌, ℕ, ◌+◌, ◌≤◌, List, [], ◌∷◌, ◌++◌, length, take, drop, get_or}
use Rattle.std.proofs.Common.{sym, ◌∙◌, ap, arith, append_assoc, length-append, take-append-drop}
use Rattle.std.proofs.lemmas.List.{take_at, drop_at, drop_more}
use Rattle.sz_disk.specs.Crashes.{Torn}
use Rattle.sz_disk.specs.Calls.{overwritten}
use Rattle.sz_disk.proofs.ForCallers.{torn_front, torn_back, torn_long}

module _ (front : List ℕ) (gate : ℕ) (rest : List ℕ) (at : ℕ) (here : at ≡ length front) where
  abbrev file : List ℕ
  file = front ++ gate ∷ rest

  with_gate : file ≡ (front ++ gate ∷ []) ++ rest
  with_gate = sym (append_assoc front (gate ∷ []) rest)

  long : length file ≡ at + 1 + length rest
  long = let parts = length-append front (gate ∷ rest) in omega (arith, parts, here)

  gate_long : length (front ++ gate ∷ []) ≡ at + 1
  gate_long = let parts = length-append front (gate ∷ []) in omega (arith, parts, here)

  up_to_gate : take (at + 1) file ≡ front ++ gate ∷ []
  up_to_gate = ap (λ (l : List ℕ). take (at + 1) l) with_gate ∙ take_at (front ++ gate ∷ []) rest (at + 1) gate_long

  -- a write behind the gate leaves the gate
  pub torn_behind : (count : ℕ) (image : List ℕ) → Torn (record { at = at + 1; count = count } ∷ []) file image
      → image ≡ front ++ gate ∷ drop (at + 1) image
  torn_behind count image torn =
      let same : take (at + 1) image ≡ front ++ gate ∷ [] =
      torn_front (at + 1) count file image torn (omega (arith, long)) ∙ up_to_gate in
      sym (take-append-drop (at + 1) image) ∙ ap (λ (l : List ℕ). l ++ drop (at + 1) image) same
      ∙ append_assoc front (gate ∷ []) (drop (at + 1) image)

  -- what was written behind it
  pub written_behind : (written : List ℕ)
      → overwritten (at + 1) written file ≡ front ++ gate ∷ (written ++ drop (at + 1 + length written) file)
  written_behind written =
      ap (λ (l : List ℕ). l ++ written ++ drop (at + 1 + length written) file) up_to_gate
      ∙ append_assoc (front ++ gate ∷ []) written (drop (at + 1 + length written) file)
      ∙ append_assoc front (gate ∷ []) (written ++ drop (at + 1 + length written) file)

  front_is : take at file ≡ front
  front_is = take_at front (gate ∷ rest) at (sym here)

  back_is : drop (at + 1) file ≡ rest
  back_is = ap (λ (l : List ℕ). drop (at + 1) l) with_gate ∙ drop_at (front ++ gate ∷ []) rest (at + 1) gate_long

  -- a write of the gate leaves all other bytes
  pub torn_gate : (image : List ℕ) → Torn (record { at = at; count = 1 } ∷ []) file image
      → image ≡ front ++ get_or image at 0 ∷ rest
  torn_gate image torn =
      let within : at + 1 ≤ length file = omega (arith, long) in
      let ends : drop at image ≡ get_or image at 0 ∷ rest =
      drop_more image at 0 (omega (arith, torn_long at 1 file image torn within, within))
      ∙ ap (λ (l : List ℕ). get_or image at 0 ∷ l) (torn_back at 1 file image torn within ∙ back_is) in
      sym (take-append-drop at image)
      ∙ ap (λ (l : List ℕ). l ++ drop at image) (torn_front at 1 file image torn (omega (arith, within)) ∙ front_is)
      ∙ ap (λ (l : List ℕ). front ++ l) ends
