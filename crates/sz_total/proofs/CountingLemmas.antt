-- The loops that count index lists, make parts, and deal index lists to them.
use Rattle.std.proofs.Common.{◌≡◌, ◌∙◌, ℕ, zero, suc, ◌+◌, ◌≤◌, ◌<◌, Bool, true, false, cond, true≢false, List, [], ◌∷◌, ◌++◌, length, refl, sym, ap, subst, arith, nat_eq}
use Rattle.std.specs.Prelude.{set, slice_index_or, replicate}
use Rattle.std.specs.List.{IsDistinct}
use Rattle.std.specs.Map.{keys_of}
use Rattle.std.proofs.lemmas.Bool.{eq-eqb, eqb-true}
use Rattle.std.proofs.lemmas.List.{append-nil, length-append, length-set, get_or-set_same, get_or-set_other}
use Rattle.std.proofs.lemmas.List.Elements.{filter-append}
use Rattle.std.proofs.Common.{append_assoc}
use Rattle.sz_value.specs.Data.{Datum}
use Rattle.sz_total.specs.Entries.{Entries, same_indexes}
use Rattle.sz_total.specs.Parts.{PartState, empty_part, part_at, part_of}
use Rattle.sz_total.specs.Dealing.{lies_in, share_of, AreCounted, HasShare, HaveShares, MayPut, PutsLast}
use Rattle.sz_total.specs.declared.aggregate.Aggregate.{Aggregate}
use Rattle.sz_total.proofs.DealingLemmas.{share_here, share_elsewhere, may_put, put_more}

-- the first entries are counted, and the rest is left
pub record IsCountedTo (all rest : Entries) (counts : List ℕ) : Type 0 where
  pub first : Entries
  pub is : first ++ rest ≡ all
  pub many : length counts ≡ 16
  pub counted : AreCounted first counts

-- a share is no longer than all
pub share_short : (at : ℕ) (entries : Entries) → length (share_of at entries) ≤ length entries
share_short at [] = omega arith
share_short at (e ∷ es) = by_test (lies_in at e) (share_short at es)
  where
    by_test : (b : Bool) → length (share_of at es) ≤ length es
        → length (cond b (e ∷ share_of at es) (share_of at es)) ≤ suc (length es)
    by_test true less = omega (arith, less)
    by_test false less = omega (arith, less)

-- one more is counted
pub counted_more : (all rest next : Entries) (key : List Datum) (a : Aggregate) (counts new : List ℕ)
    → rest ≡ (key, a) ∷ next
    → part_of 16 key < 16 → new ≡ set counts (part_of 16 key) (slice_index_or counts (part_of 16 key) 0 + 1)
    → IsCountedTo all rest counts → IsCountedTo all next new
counted_more all rest next key a counts new is within now before = record {
  first = before.first ++ (key, a) ∷ [];
  is = append_assoc before.first ((key, a) ∷ []) next ∙ ap (λ l. before.first ++ l) (sym is) ∙ before.is;
  many = ap length now ∙ length-set counts place more ∙ before.many;
  counted = λ at less. by_test at less (nat_eq at place) refl;
}
  where
    place : ℕ
    place = part_of 16 key

    more : ℕ
    more = slice_index_or counts place 0 + 1

    by_test : (at : ℕ) → at < 16 → (b : Bool) → nat_eq at place ≡ b
        → slice_index_or new at 0 ≡ length (share_of at (before.first ++ (key, a) ∷ []))
    by_test at less true same =
        let here = eqb-true at place same in
        let longer = ap length (filter-append (lies_in place) before.first ((key, a) ∷ []))
        ∙ length-append (share_of place before.first) (share_of place ((key, a) ∷ []))
        ∙ ap (λ n. length (share_of place before.first) + n) (ap length (share_here key a [])) in
        subst (λ k. slice_index_or new k 0 ≡ length (share_of k (before.first ++ (key, a) ∷ []))) (sym here)
        (ap (λ l. slice_index_or l place 0) now
        ∙ get_or-set_same counts place more 0 (omega (arith, within, before.many))
        ∙ ap (λ n. n + 1) (before.counted place within) ∙ sym longer)
    by_test at less false other =
        let same = filter-append (lies_in at) before.first ((key, a) ∷ [])
        ∙ ap (λ l. share_of at before.first ++ l) (share_elsewhere at key a [] turned)
        ∙ append-nil (share_of at before.first) in
        ap (λ l. slice_index_or l at 0) now
        ∙ get_or-set_other counts place at more 0 (λ e. true≢false (sym (eq-eqb at place e) ∙ other))
        ∙ before.counted at less ∙ ap length (sym same)
      where
        turned : nat_eq place at ≡ false
        turned = by_turn (nat_eq place at) refl
          where
            by_turn : (b : Bool) → nat_eq place at ≡ b → nat_eq place at ≡ false
            by_turn true e = absurd (true≢false (sym (eq-eqb at place (sym (eqb-true place at e))) ∙ other))
            by_turn false e = e

pub all_same : (z n at : ℕ) → slice_index_or (replicate n z) at z ≡ z
all_same z zero zero = refl
all_same z zero (suc at) = refl
all_same z (suc n) zero = refl
all_same z (suc n) (suc at) = all_same z n at

pub counted_none : (all : Entries) (counts : List ℕ) → length counts ≡ 16
    → ((at : ℕ) → at < 16 → slice_index_or counts at 0 ≡ 0) → IsCountedTo all all counts
counted_none all counts many none = record { first = []; is = refl; many = many; counted = none }

pub counted_all : (all : Entries) (counts : List ℕ) → IsCountedTo all [] counts → AreCounted all counts
counted_all all counts end = subst (λ es. AreCounted es counts) (sym (append-nil end.first) ∙ end.is) end.counted

-- the next count is small
pub count_short : (all rest : Entries) (counts : List ℕ) (at : ℕ) → at < 16 → IsCountedTo all rest counts
    → slice_index_or counts at 0 ≤ length all
count_short all rest counts at within before =
    omega (
      arith,
      before.counted at within,
      share_short at before.first,
      ap length before.is,
      length-append before.first rest,
    )

-- the first parts have room for as many as were counted
pub record IsRoomyTo (at : ℕ) (counts : List ℕ) (parts : List PartState) : Type 0 where
  pub as_many : length parts ≡ at
  pub each : (i : ℕ) → i < at → part_at parts i ≡ record {
    entries = [];
    room = slice_index_or counts i 0;
    arriving = [];
  }

at_front : {X : Type 0} (xs : List X) (y d : X) (i : ℕ) → i < length xs
    → slice_index_or (xs ++ y ∷ []) i d ≡ slice_index_or xs i d
at_front [] y d i less = let no : ⊥ = omega (arith, less) in absurd no
at_front (x ∷ xs) y d zero less = refl
at_front (x ∷ xs) y d (suc i) less = at_front xs y d i (omega (arith, less))

at_end : {X : Type 0} (xs : List X) (y d : X) → slice_index_or (xs ++ y ∷ []) (length xs) d ≡ y
at_end [] y d = refl
at_end (x ∷ xs) y d = at_end xs y d

pub roomy_none : (counts : List ℕ) → IsRoomyTo 0 counts []
roomy_none counts = record { as_many = refl; each = λ i less. let no : ⊥ = omega (arith, less) in absurd no }

pub roomy_more : (at : ℕ) (counts : List ℕ) (parts new : List PartState) (more : PartState) → new ≡ parts ++ more ∷ []
    → more ≡ record { entries = []; room = slice_index_or counts at 0; arriving = [] } → IsRoomyTo at counts parts
    → IsRoomyTo (at + 1) counts new
roomy_more at counts parts new more grown is before = record {
  as_many = omega (arith, ap length grown, length-append parts (more ∷ []), before.as_many);
  each = λ i less. by_test i less (nat_eq i at) refl;
}
  where
    by_test : (i : ℕ) → i < at + 1 → (b : Bool) → nat_eq i at ≡ b
        → part_at new i ≡ record { entries = []; room = slice_index_or counts i 0; arriving = [] }
    by_test i less true same =
        let here = eqb-true i at same in
        ap (λ l. part_at l i) grown ∙ ap (part_at (parts ++ more ∷ [])) (here ∙ sym before.as_many)
        ∙ at_end parts more empty_part ∙ is
        ∙ ap (λ k. record { entries = []; room = slice_index_or counts k 0; arriving = [] }) (sym here)
    by_test i less false other =
        let lower : i < at = omega (arith, less, not_here) in
        ap (λ l. part_at l i) grown ∙ at_front parts more empty_part i (omega (arith, lower, before.as_many))
        ∙ before.each i lower
      where
        not_here : i ≡ at → ⊥
        not_here e = true≢false (sym (eq-eqb i at e) ∙ other)

pub all_roomy : (entries : Entries) (counts : List ℕ) (at : ℕ) (parts : List PartState) → at ≡ 16
    → AreCounted entries counts → IsRoomyTo at counts parts → HaveShares [] entries parts
all_roomy entries counts at parts all counted made = record {
  as_many = made.as_many ∙ all;
  each = λ i less.
      subst (HasShare i [] entries) (sym (made.each i (omega (arith, less, all))))
      (record { entries = refl; room = omega (arith, counted i less); arriving = refl });
}

-- the first entries are dealt, and there is room for the rest
pub record IsDealtTo (all rest : Entries) (parts : List PartState) : Type 0 where
  pub first : Entries
  pub is : first ++ rest ≡ all
  pub shares : HaveShares first rest parts

pub dealt_none : (all : Entries) (parts : List PartState) → HaveShares [] all parts → IsDealtTo all all parts
dealt_none all parts shares = record { first = []; is = refl; shares = shares }

pub may_put_next : (all next : Entries) (key : List Datum) (a : Aggregate) (parts : List PartState)
    → part_of 16 key < 16
    → IsDistinct same_indexes (keys_of all) → IsDealtTo all ((key, a) ∷ next) parts → MayPut key parts
may_put_next all next key a parts within apart dealt =
    may_put dealt.first next key a parts within dealt.shares
    (subst (λ es. IsDistinct same_indexes (keys_of es)) (sym dealt.is) apart)

pub dealt_more : (all next : Entries) (key : List Datum) (a : Aggregate) (parts new : List PartState)
    → part_of 16 key < 16 → IsDealtTo all ((key, a) ∷ next) parts → PutsLast key a parts new → IsDealtTo all next new
dealt_more all next key a parts new within dealt puts = record {
  first = dealt.first ++ (key, a) ∷ [];
  is = append_assoc dealt.first ((key, a) ∷ []) next ∙ dealt.is;
  shares = put_more dealt.first next key a parts within dealt.shares new puts;
}

pub dealt_all : (all : Entries) (parts : List PartState) → IsDealtTo all [] parts → HaveShares all [] parts
dealt_all all parts end = subst (λ es. HaveShares es [] parts) (sym (append-nil end.first) ∙ end.is) end.shares
