-- The lanes of a closed table, as they are taken one by one.
use Rattle.std.proofs.Common.{◌≡◌, ◌≢◌, ℕ, zero, suc, ◌+◌, ◌<◌, ◌≤◌, Bool, true, false, List, [], ◌∷◌, ◌++◌, Some, None, map, take, set, length}
use Rattle.std.proofs.Common.{refl, ap, sym, ◌∙◌, arith}
use Rattle.std.specs.Prelude.{slice_index_or}
use Rattle.std.proofs.lemmas.List.{get_or-set_same, get_or-set_other, map-append}
use mathlib.Core.Option.{some, some-injective, some-ne-none}
use mathlib.Core.Logic.{dite}
use native.Mathlib.Decide.{ℕ_discrete}
use lib.ListN.{get_elem?}
use Rattle.sz_book.specs.Lanes.{LaneData}
use Rattle.sz_claims.specs.Rule.{Slot}

-- the first i of these slots were emptied, in order, and the others are full
pub record IsTakenUpTo (i : ℕ) (slots : List Slot) (many : ℕ) (full : List Bool) (lanes : List LaneData) (count room : ℕ) : Type 0 where
  pub taken : (k : ℕ) → k < i → slice_index_or full k false ≡ false
  pub left : (k : ℕ) → i ≤ k → k < many → slice_index_or full k false ≡ true
  pub lanes_are : map (λ (lane : LaneData). Some lane) lanes ≡ take i slots
  pub counted : count ≡ i
  pub fits : many ≤ room

take_one : {A : Type 0} (xs : List A) (i : ℕ) (x : A) → get_elem? xs i ≡ some x → take (suc i) xs ≡ take i xs ++ x ∷ []
take_one [] i x e = absurd (some-ne-none x (sym e))
take_one (y ∷ ys) zero x e = ap (λ z. z ∷ []) (some-injective y x e)
take_one (y ∷ ys) (suc i) x e = ap (λ zs. y ∷ zs) (take_one ys i x e)

-- one more slot is emptied
pub one_taken : (i many : ℕ) (slots : List Slot) (full full' : List Bool) (lanes lanes' : List LaneData) (lane : LaneData)
    (count count' room room' : ℕ) → IsTakenUpTo i slots many full lanes count room → i < many → length full ≡ many
    → get_elem? slots i ≡ some (Some lane) → full' ≡ set full i false → lanes' ≡ lanes ++ lane ∷ [] → count' ≡ count + 1 → room' ≡ room
    → IsTakenUpTo (i + 1) slots many full' lanes' count' room'
one_taken i many slots full full' lanes lanes' lane count count' room room' h low long found emptied more counted same =
    let next : suc i ≡ i + 1 = omega arith in record {
      taken = λ k below. ap (λ (l : List Bool). slice_index_or l k false) emptied ∙ dite (ℕ_discrete k i)
          (λ (e : k ≡ i). ap (λ (j : ℕ). slice_index_or (set full i false) j false) e ∙ get_or-set_same full i false false (omega arith))
          (λ (ne : k ≢ i). get_or-set_other full i k false false ne ∙ h.taken k (omega arith));
      left = λ k above in'. ap (λ (l : List Bool). slice_index_or l k false) emptied
          ∙ get_or-set_other full i k false false (λ e. absurd (omega arith)) ∙ h.left k (omega arith) in';
      lanes_are = ap (map (λ (l : LaneData). Some l)) more ∙ map-append (λ (l : LaneData). Some l) lanes (lane ∷ [])
          ∙ ap (λ (l : List Slot). l ++ Some lane ∷ []) h.lanes_are ∙ sym (take_one slots i (Some lane) found) ∙ ap (λ n. take n slots) next;
      counted = counted ∙ ap (λ n. n + 1) h.counted;
      fits = let f = h.fits in omega arith;
    }

-- no slot of a lane that is home is empty
pub no_gap : {P : Type 0} (slots : List Slot) (all : List LaneData) (i : ℕ) → slots ≡ map (λ (l : LaneData). Some l) all
    → get_elem? slots i ≡ some None → P
no_gap slots [] i e found = absurd (some-ne-none None (sym (ap (λ (l : List Slot). get_elem? l i) (sym e) ∙ found)))
no_gap slots (l ∷ ls) zero e found =
    let wrong : Some l ≡ None = some-injective (Some l) None (ap (λ (k : List Slot). get_elem? k 0) (sym e) ∙ found) in absurd (cc wrong)
no_gap slots (l ∷ ls) (suc i) e found =
    no_gap (map (λ (k : LaneData). Some k) ls) ls i refl (ap (λ (k : List Slot). get_elem? k (suc i)) (sym e) ∙ found)
