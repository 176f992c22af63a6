-- What bytes hold once an entry was appended, and what they hold in between.
use Rattle.std.proofs.Common.{◌≡◌, inl, inr, ℕ, ◌+◌, List, [], ◌∷◌, ◌++◌, length, Option, sym, ◌∙◌, ap, subst, arith, append_assoc, length-append}
use Rattle.std.specs.List.{AllByRecursion}
use Rattle.std.proofs.lemmas.List.{append-nil}
use Rattle.std.proofs.lemmas.List.Concat.{flat_map-append}
use Rattle.std.proofs.lemmas.Bool.{cases_eq}
use Rattle.sz_disk.specs.Crashes.{Images}
use Rattle.sz_disk.specs.Entries.{count_bytes, with_length, with_gate, opened, all_opened, end_of, IsCounted, Holds, HoldsOneOf, IsEmpty, IsEmptyOrHolds}
use Rattle.sz_disk.specs.Crashing.{Rests, LeavesOnly}
use Rattle.sz_disk.specs.GateCalls.{Keeps}
use Rattle.sz_disk.specs.Gates.{IsBeforeOrBehind}
use Rattle.sz_disk.proofs.LeaveLemmas.{leaves_if}

pub opened_long : (entry : List ℕ) → length (opened entry) ≡ 9 + length entry
opened_long entry = let parts = length-append (count_bytes (length entry)) entry in omega (arith, parts)

pub opened_more : (entries : List (List ℕ)) (entry : List ℕ)
    → all_opened (entries ++ entry ∷ []) ≡ all_opened entries ++ opened entry
opened_more entries entry = flat_map-append opened entries (entry ∷ [])
    ∙ ap (λ (l : List ℕ). all_opened entries ++ l) (append-nil (opened entry))

pub end_more : (entries : List (List ℕ)) (entry : List ℕ)
    → end_of (entries ++ entry ∷ []) ≡ end_of entries + length (opened entry)
end_more entries entry = ap length (opened_more entries entry) ∙ length-append (all_opened entries) (opened entry)

counted_more : (entries : List (List ℕ)) (entry : List ℕ) → AllByRecursion IsCounted entries → IsCounted entry
    → AllByRecursion IsCounted (entries ++ entry ∷ [])
counted_more [] entry all one = (one, tt)
counted_more (e ∷ entries) entry all one = (all.0, counted_more entries entry all.1 one)

module _ (entries : List (List ℕ)) (entry : List ℕ) (counted : IsCounted entry) where
  abbrev front : List ℕ
  front = all_opened entries

  open_is : (behind : List ℕ)
      → front ++ 1 ∷ (with_gate entry ++ behind) ≡ all_opened (entries ++ entry ∷ []) ++ 0 ∷ behind
  open_is behind =
      ap (λ (l : List ℕ). front ++ 1 ∷ l) (append_assoc (with_length entry) (0 ∷ []) behind)
      ∙ sym (append_assoc front (opened entry) (0 ∷ behind))
      ∙ ap (λ (l : List ℕ). l ++ 0 ∷ behind) (sym (opened_more entries entry))

  -- behind an open gate the entry counts
  holds_more : (image behind : List ℕ) → AllByRecursion IsCounted entries
      → image ≡ front ++ 1 ∷ (with_gate entry ++ behind) → Holds (entries ++ entry ∷ []) image
  holds_more image behind all is = record {
    gate = 0;
    behind = behind;
    is = is ∙ open_is behind;
    closed = λ e. absurd cc;
    counted = counted_more entries entry all counted;
  }

  -- while it was written and its gate opened, it counted or it didn't
  pub holds_one : (held image : List ℕ) (holds : Holds entries held)
      → IsBeforeOrBehind front holds.gate (with_gate entry) image → HoldsOneOf entries entry image
  holds_one held image holds (inl has) =
      inl
      (record { gate = holds.gate; behind = has.behind; is = has.is; closed = holds.closed; counted = holds.counted })
  holds_one held image holds (inr has) = elim (cases_eq has.gate 1) [
    | inl is_open ↦
        inr (holds_more image has.behind holds.counted
        (has.is ∙ ap (λ (g : ℕ). front ++ g ∷ (with_gate entry ++ has.behind)) is_open))
    | inr shut ↦
        inl (record {
          gate = has.gate;
          behind = with_gate entry ++ has.behind;
          is = has.is;
          closed = shut;
          counted = holds.counted;
        })
  ]

  pub leaves_one : {D : Type 0} (time : D → ℕ) (left_since : D → ℕ → Images) (old new : D) (written held : List ℕ)
      (holds : Holds entries held) → written ≡ with_gate entry
      → LeavesOnly time left_since old new (IsBeforeOrBehind front holds.gate written)
      → LeavesOnly time left_since old new (HoldsOneOf entries entry)
  leaves_one time left_since old new written held holds is leaves =
      leaves_if time left_since old new (IsBeforeOrBehind front holds.gate written) (HoldsOneOf entries entry)
      (λ image one. holds_one held image holds
      (subst (λ (w : List ℕ). IsBeforeOrBehind front holds.gate w image) is one)) leaves

  pub keeps_more : (bytes : Option (List ℕ)) (may_leave : Images) (written : List ℕ)
      → AllByRecursion IsCounted entries → written ≡ with_gate entry
      → (behind : List ℕ) × Rests bytes may_leave (front ++ 1 ∷ (written ++ behind))
      → Keeps bytes may_leave (entries ++ entry ∷ [])
  keeps_more bytes may_leave written all is ends =
      let image = front ++ 1 ∷ (written ++ ends.0) in
      record {
        held = image;
        rests = ends.1;
        holds = holds_more image ends.0 all (ap (λ (w : List ℕ). front ++ 1 ∷ (w ++ ends.0)) is);
      }

-- no entry is held by bytes that hold none
pub empty_of : (bytes : List ℕ) → Holds [] bytes → IsEmpty bytes
empty_of [] holds = tt
empty_of (gate ∷ []) holds = tt
empty_of (gate ∷ byte ∷ bytes) holds = λ is_open. holds.closed (sym (first holds.is) ∙ is_open)
  where
    first : gate ∷ byte ∷ bytes ≡ holds.gate ∷ holds.behind → gate ≡ holds.gate
    first e = cc

-- once there was no entry or one, it is so
pub empty_or_one : (entry image : List ℕ) → HoldsOneOf [] entry image → IsEmptyOrHolds entry image
empty_or_one entry image (inl holds) = inl (empty_of image holds)
empty_or_one entry image (inr holds) = inr holds
