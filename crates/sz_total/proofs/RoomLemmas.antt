-- The loops over the parts of a table: what one turn does, and what all of them did.
use Rattle.std.proofs.Common.{◌≡◌, ◌∙◌, ℕ, ◌+◌, ◌≤◌, ◌<◌, ◌⊎◌, inl, inr, Bool, true, false, true≢false, Some, List, length}
use Rattle.std.proofs.Common.{get_or, refl, sym, ap, subst, arith, nat_eq}
use Rattle.std.specs.Prelude.{slice_get}
use Rattle.std.proofs.lemmas.Bool.{eq-eqb, eqb-true}
use Rattle.std.proofs.lemmas.Option.{slice_get-get_or, slice_get_within, get_or_from_slice_get}
use Rattle.sz_total.specs.Joining.{AreOf, LooksTheSame}
use Rattle.sz_total.specs.Parts.{PartState, empty_part, part_at, beside, HasPartRoom, HasPartRoomAt, HavePartRoom, ChangesPartRoomAt, ArePartsAlike}
use Rattle.sz_total.specs.Parts.{IsPartAlikeAt, PartsLookTheSame, Receives, ReceivesAt, MayJoin, MayJoinAll, MayJoinAt, Settles, SettlesAt, SettleAll}
use Rattle.sz_total.proofs.JoiningLemmas.{looks_refl, looks_trans}
use Rattle.sz_total.proofs.PartLemmas.{nothing_past}
use Rattle.sz_total.proofs.PartsLemmas.{as_many_set, written, unwritten, each_set}
use Rattle.sz_total.proofs.DealingLemmas.{below}

-- room was made in the first parts
pub record IsPartRoomTo (at : ℕ) (others first current : List PartState) : Type 0 where
  pub looks : PartsLookTheSame first current
  pub room : (i : ℕ) → i < at → HasPartRoom (part_at current i) (part_at others i)

pub part_room_none : (others first : List PartState) → IsPartRoomTo 0 others first first
part_room_none others first = record {
  looks = record { as_many = refl; each = λ i. looks_refl (part_at first i).entries; arriving = λ i. refl };
  room = λ i less. let no : ⊥ = omega (arith, less) in absurd no;
}

-- the next part is of one family with the other
pub alike_at : (at : ℕ) (others first current : List PartState) (other : PartState) → length others ≡ length first
    → ArePartsAlike first others → IsPartRoomTo at others first current → slice_get others at ≡ Some other
    → IsPartAlikeAt at other current
alike_at at others first current other as_many alike made there = record {
  own = part_at current at;
  there =
      slice_get-get_or current at empty_part
      (omega (arith, slice_get_within others at other there, as_many, made.looks.as_many));
  alike = record {
    family = (alike at).family;
    mine = (made.looks.each at).families (alike at).family (alike at).mine;
    others_too =
        subst (λ (p : PartState). AreOf (alike at).family p.entries)
        (get_or_from_slice_get others at other empty_part there) (alike at).others_too;
  };
}

-- one part more has room
module _ (at : ℕ) (first current new : List PartState) (before : PartsLookTheSame first current)
    (changes : ChangesPartRoomAt at current new) where
  inside : at < length current
  inside = slice_get_within current at changes.before changes.there

  own_is : part_at current at ≡ changes.before
  own_is = get_or_from_slice_get current at changes.before empty_part changes.there

  pub looks_more : PartsLookTheSame first new
  looks_more = record {
    as_many = as_many_set current new at changes.after inside changes.now ∙ before.as_many;
    each =
        each_set current new at changes.after inside changes.now
        (λ i p. LooksTheSame (part_at first i).entries p.entries)
        (looks_trans (part_at first at).entries changes.before.entries changes.after.entries
        (subst (λ (p : PartState). LooksTheSame (part_at first at).entries p.entries) own_is (before.each at))
        changes.looks) before.each;
    arriving =
        each_set current new at changes.after inside changes.now (λ i p. p.arriving ≡ (part_at first i).arriving)
        (changes.arriving ∙ ap (λ (p : PartState). p.arriving) (sym own_is) ∙ before.arriving at) before.arriving;
  }

pub part_room_more : (at : ℕ) (others first current new : List PartState) (other : PartState)
    → slice_get others at ≡ Some other → IsPartRoomTo at others first current → ChangesPartRoomAt at current new
    → HasPartRoomAt at other new → IsPartRoomTo (at + 1) others first new
part_room_more at others first current new other there made changes has = record {
  looks = looks_more at first current new made.looks changes;
  room = λ i less. by_test i less (nat_eq i at) refl;
}
  where
    here : HasPartRoom (part_at new at) (part_at others at)
    here =
        subst (HasPartRoom (part_at new at)) (sym (get_or_from_slice_get others at other empty_part there))
        (subst (λ p. HasPartRoom p other) (sym (get_or_from_slice_get new at has.own empty_part has.there)) has.room)

    by_test : (i : ℕ) → i < at + 1 → (b : Bool) → nat_eq i at ≡ b → HasPartRoom (part_at new i) (part_at others i)
    by_test i less true same =
        subst (λ k. HasPartRoom (part_at new k) (part_at others k)) (sym (eqb-true i at same)) here
    by_test i less false other =
        subst (λ p. HasPartRoom p (part_at others i))
        (sym (unwritten current new at changes.after (slice_get_within current at changes.before changes.there)
        changes.now i other)) (made.room i (omega (arith, less, other_number other)))
      where
        other_number : nat_eq i at ≡ false → i ≡ at → ⊥
        other_number apart same = true≢false (sym (eq-eqb i at same) ∙ apart)

pub all_part_room : (at : ℕ) (others first current : List PartState) → length others ≡ length first → length others ≤ at
    → IsPartRoomTo at others first current → HavePartRoom current others
all_part_room at others first current as_many end made i = by_place (below i at)
  where
    by_place : (i < at) ⊎ (at ≤ i) → HasPartRoom (part_at current i) (part_at others i)
    by_place (inl less) = made.room i less
    by_place (inr past) =
        subst (λ p. HasPartRoom p (part_at others i))
        (sym (nothing_past current i (omega (arith, past, end, as_many, made.looks.as_many))))
        (subst (HasPartRoom empty_part) (sym (nothing_past others i (omega (arith, past, end))))
        (record { lists = omega arith; aggregates = tt }))

-- what the first parts of the other side have was received
pub record IsReceivedTo (at : ℕ) (others first current : List PartState) : Type 0 where
  pub as_many : length current ≡ length first
  pub each : (i : ℕ) → i < at → part_at current i ≡ beside (part_at first i) (part_at others i)
  pub still : (i : ℕ) → at ≤ i → part_at current i ≡ part_at first i

pub received_none : (others first : List PartState) → IsReceivedTo 0 others first first
received_none others first = record {
  as_many = refl;
  each = λ i less. let no : ⊥ = omega (arith, less) in absurd no;
  still = λ i more. refl;
}

pub received_more : (at : ℕ) (others first current new : List PartState) (other : PartState)
    → slice_get others at ≡ Some other
    → IsReceivedTo at others first current → ReceivesAt at other current new → IsReceivedTo (at + 1) others first new
received_more at others first current new other there before receives = record {
  as_many = as_many_set current new at after inside receives.now ∙ before.as_many;
  each = λ i less. by_test i less (nat_eq i at) refl;
  still = λ i more. unwritten current new at after inside receives.now i (higher i more (nat_eq i at) refl)
      ∙ before.still i (omega (arith, more));
}
  where
    after : PartState
    after = beside receives.before other

    inside : at < length current
    inside = slice_get_within current at receives.before receives.there

    higher : (i : ℕ) → at + 1 ≤ i → (b : Bool) → nat_eq i at ≡ b → nat_eq i at ≡ false
    higher i more true same = let no : ⊥ = omega (arith, more, eqb-true i at same) in absurd no
    higher i more false same = same

    here : part_at new at ≡ beside (part_at first at) (part_at others at)
    here =
        written current new at after inside receives.now
        ∙ (λ k.
        beside
        ((sym (get_or_from_slice_get current at receives.before empty_part receives.there)
        ∙ before.still at (omega arith)) k) (sym (get_or_from_slice_get others at other empty_part there) k))

    by_test : (i : ℕ) → i < at + 1 → (b : Bool) → nat_eq i at ≡ b
        → part_at new i ≡ beside (part_at first i) (part_at others i)
    by_test i less true same =
        subst (λ k. part_at new k ≡ beside (part_at first k) (part_at others k)) (sym (eqb-true i at same)) here
    by_test i less false other =
        unwritten current new at after inside receives.now i other
        ∙ before.each i (omega (arith, less, other_number other))
      where
        other_number : nat_eq i at ≡ false → i ≡ at → ⊥
        other_number apart same = true≢false (sym (eq-eqb i at same) ∙ apart)

pub all_received : (at : ℕ) (others first current : List PartState) → length others ≡ length first → length others ≤ at
    → IsReceivedTo at others first current → Receives others first current
all_received at others first current as_many end made = record {
  as_many = made.as_many;
  each = λ i. by_place i (below i at);
}
  where
    by_place : (i : ℕ) → (i < at) ⊎ (at ≤ i) → part_at current i ≡ beside (part_at first i) (part_at others i)
    by_place i (inl less) = made.each i less
    by_place i (inr past) =
        nothing_past current i (omega (arith, past, end, as_many, made.as_many))
        ∙ (λ k.
        beside (sym (nothing_past first i (omega (arith, past, end, as_many))) k)
        (sym (nothing_past others i (omega (arith, past, end))) k))

-- the first parts settled
pub record IsSettledTo (at : ℕ) (first current : List PartState) : Type 0 where
  pub as_many : length current ≡ length first
  pub each : (i : ℕ) → i < at → Settles (part_at first i) (part_at current i)
  pub still : (i : ℕ) → at ≤ i → part_at current i ≡ part_at first i

pub settled_none : (first : List PartState) → IsSettledTo 0 first first
settled_none first = record {
  as_many = refl;
  each = λ i less. let no : ⊥ = omega (arith, less) in absurd no;
  still = λ i more. refl;
}

pub may_settle_next : (at : ℕ) (first current : List PartState) → MayJoinAll first → IsSettledTo at first current
    → at < length first → MayJoinAt at current
may_settle_next at first current may made less = record {
  own = part_at current at;
  there = slice_get-get_or current at empty_part (omega (arith, less, made.as_many));
  may = subst MayJoin (sym (made.still at (omega arith))) (may at less);
}

pub settled_more : (at : ℕ) (first current new : List PartState) → IsSettledTo at first current
    → SettlesAt at current new → IsSettledTo (at + 1) first new
settled_more at first current new before settles = record {
  as_many = as_many_set current new at settles.after inside settles.now ∙ before.as_many;
  each = λ i less. by_test i less (nat_eq i at) refl;
  still = λ i more. unwritten current new at settles.after inside settles.now i (higher i more (nat_eq i at) refl)
      ∙ before.still i (omega (arith, more));
}
  where
    inside : at < length current
    inside = slice_get_within current at settles.before settles.there

    higher : (i : ℕ) → at + 1 ≤ i → (b : Bool) → nat_eq i at ≡ b → nat_eq i at ≡ false
    higher i more true same = let no : ⊥ = omega (arith, more, eqb-true i at same) in absurd no
    higher i more false same = same

    here : Settles (part_at first at) (part_at new at)
    here =
        subst (Settles (part_at first at)) (sym (written current new at settles.after inside settles.now))
        (subst (λ p. Settles p settles.after)
        (sym (get_or_from_slice_get current at settles.before empty_part settles.there)
        ∙ before.still at (omega arith)) settles.settles)

    by_test : (i : ℕ) → i < at + 1 → (b : Bool) → nat_eq i at ≡ b → Settles (part_at first i) (part_at new i)
    by_test i less true same = subst (λ k. Settles (part_at first k) (part_at new k)) (sym (eqb-true i at same)) here
    by_test i less false other =
        subst (Settles (part_at first i)) (sym (unwritten current new at settles.after inside settles.now i other))
        (before.each i (omega (arith, less, other_number other)))
      where
        other_number : nat_eq i at ≡ false → i ≡ at → ⊥
        other_number apart same = true≢false (sym (eq-eqb i at same) ∙ apart)

pub all_settled : (at : ℕ) (first current : List PartState) → length first ≤ at → IsSettledTo at first current
    → SettleAll first current
all_settled at first current end made = record {
  as_many = made.as_many;
  each = λ i less. made.each i (omega (arith, less, end));
}

-- a part that is given to a thread may be settled
pub accepts_one : (parts lent : List PartState) → lent ≡ parts → MayJoinAll parts → (at : ℕ) (own : PartState)
    → at < length lent → own ≡ get_or lent at own → MayJoin own
accepts_one parts lent same may at own less is =
    let within : at < length parts = omega (arith, less, ap length same) in
    subst MayJoin (get_or_from_slice_get parts at (get_or parts at own) empty_part
    (slice_get-get_or parts at own within) ∙ ap (λ l. get_or l at own) (sym same) ∙ sym is)
    (may at within)
