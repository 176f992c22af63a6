-- The loop over the fields of a group comes to the group's end.
use Rattle.std.proofs.Common.{◌≡◌, ℕ, zero, suc, ◌+◌, ◌-◌, ◌<◌, ◌≤◌, List, [], length, drop, Some, None, Result, Ok}
use Rattle.std.proofs.Common.{Err, true, false, cond, eqb, refl, sym, ap, ◌∙◌, arith}
use Rattle.std.specs.Prelude.{OnErr}
use Rattle.std.specs.Option.{option_and_then}
use Rattle.std.proofs.Math.ListN.{drop_of_length-le}
use Rattle.sz_wire.specs.Varint.{number_at, varint_at}
use Rattle.sz_wire.specs.Key.{Key, key_at}
use Rattle.sz_wire.specs.Field.{value_end, group_end}

-- at a place in a group that began at another, what is left of it ends where the whole does
pub record IsInGroup (bytes : List ℕ) (levels number at place : ℕ) : Type 0 where
  pub later : at ≤ place
  pub ends : (turns : ℕ) → length bytes - at ≤ turns
      → (left : ℕ) × (length bytes - place ≤ left)
      × (group_end left levels number (drop place bytes) ≡ group_end turns levels number (drop at bytes))

-- no key, no end
no_key : (left levels number : ℕ) (bytes : List ℕ) → key_at bytes ≡ None → group_end left levels number bytes ≡ None
unfolding group_end
no_key zero levels number bytes e = refl
no_key (suc left) levels number bytes e = rw e refl

nothing_left : key_at [] ≡ None
unfolding key_at varint_at number_at
nothing_left = refl

pub group_without_key : {bytes : List ℕ} {levels number at place : ℕ} → IsInGroup bytes levels number at place
    → key_at (drop place bytes) ≡ None
    → (turns : ℕ) → length bytes - at ≤ turns → group_end turns levels number (drop at bytes) ≡ None
group_without_key {bytes} {levels} {number} {at} {place} h e turns le =
    let s = h.ends turns le in sym s.2 ∙ no_key s.0 levels number (drop place bytes) e

pub group_without_end : {bytes : List ℕ} {levels number at place : ℕ} → IsInGroup bytes levels number at place
    → length bytes ≤ place → (turns : ℕ) → length bytes - at ≤ turns
    → group_end turns levels number (drop at bytes) ≡ None
group_without_end {bytes} {levels} {number} {at} {place} h past turns le =
    group_without_key h (ap key_at (drop_of_length-le bytes past) ∙ nothing_left) turns le

-- a key, and what it makes of the end
one_turn : (left levels number : ℕ) (bytes : List ℕ) (key : Key) (rest : List ℕ) → 0 < left
    → key_at bytes ≡ Some (key, rest) → (one : ℕ) × (left ≡ suc one)
    × (group_end left levels number bytes ≡ cond (eqb key.wire 4) (cond (eqb key.number number) (Some rest) None)
    (option_and_then (group_end one levels number) (value_end (group_end one) levels key rest)))
unfolding group_end
one_turn zero levels number bytes key rest lt e = absurd (omega arith)
one_turn (suc one) levels number bytes key rest lt e = (one, refl, rw e refl)

-- what a turn at this place makes of the whole
turn_here : {bytes : List ℕ} {levels number at place : ℕ} → IsInGroup bytes levels number at place
    → place < length bytes → (key : Key) (after : ℕ)
    → key_at (drop place bytes) ≡ Some (key, drop after bytes) → place < after
    → (turns : ℕ) → length bytes - at ≤ turns → (one : ℕ) × (length bytes - after ≤ one)
    × (group_end turns levels number (drop at bytes)
    ≡ cond (eqb key.wire 4) (cond (eqb key.number number) (Some (drop after bytes)) None)
    (option_and_then (group_end one levels number) (value_end (group_end one) levels key (drop after bytes))))
turn_here {bytes} {levels} {number} {at} {place} h inside key after e further turns le =
    let s = h.ends turns le in
    let t = one_turn s.0 levels number (drop place bytes) key (drop after bytes) (omega (arith, s.1)) e in
    (t.0, omega (arith, s.1, t.1), sym s.2 ∙ t.2)

pub group_ends : {bytes : List ℕ} {levels number at place : ℕ} → IsInGroup bytes levels number at place
    → place < length bytes → (inner wire after : ℕ)
    → key_at (drop place bytes) ≡ Some (record { number = inner; wire = wire }, drop after bytes) → place < after
    → wire ≡ 4 → inner ≡ number → (turns : ℕ) → length bytes - at ≤ turns
    → group_end turns levels number (drop at bytes) ≡ Some (drop after bytes)
group_ends {bytes} {levels} {number} h inside inner wire after e further end same turns le =
    let t = turn_here h inside (record { number = inner; wire = wire }) after e further turns le in
    let a : eqb wire 4 ≡ true = grind arith in
    let b : eqb inner number ≡ true = grind arith in
    t.2 ∙ rw (a, b) refl

pub group_of_another : {bytes : List ℕ} {levels number at place : ℕ} → IsInGroup bytes levels number at place
    → place < length bytes → (inner wire after : ℕ)
    → key_at (drop place bytes) ≡ Some (record { number = inner; wire = wire }, drop after bytes) → place < after
    → wire ≡ 4 → (inner ≡ number → ⊥) → (turns : ℕ) → length bytes - at ≤ turns
    → group_end turns levels number (drop at bytes) ≡ None
group_of_another {bytes} {levels} {number} h inside inner wire after e further end other turns le =
    let t = turn_here h inside (record { number = inner; wire = wire }) after e further turns le in
    let a : eqb wire 4 ≡ true = grind arith in
    let b : eqb inner number ≡ false = grind arith in
    t.2 ∙ rw (a, b) refl

pub group_without_value : {bytes : List ℕ} {levels number at place : ℕ} → IsInGroup bytes levels number at place
    → place < length bytes → (inner wire after : ℕ)
    → key_at (drop place bytes) ≡ Some (record { number = inner; wire = wire }, drop after bytes) → place < after
    → (wire ≡ 4 → ⊥) → ((one : ℕ) → length bytes - after ≤ one
    → value_end (group_end one) levels (record { number = inner; wire = wire }) (drop after bytes) ≡ None)
    → (turns : ℕ) → length bytes - at ≤ turns → group_end turns levels number (drop at bytes) ≡ None
group_without_value {bytes} {levels} {number} h inside inner wire after e further goes missing turns le =
    let t = turn_here h inside (record { number = inner; wire = wire }) after e further turns le in
    let a : eqb wire 4 ≡ false = grind arith in
    t.2 ∙ rw (a, missing t.0 t.1) refl

pub group_goes_on : {bytes : List ℕ} {levels number at place : ℕ} → IsInGroup bytes levels number at place
    → place < length bytes → (inner wire after next : ℕ)
    → key_at (drop place bytes) ≡ Some (record { number = inner; wire = wire }, drop after bytes) → place < after
    → (wire ≡ 4 → ⊥) → after ≤ next
    → ((one : ℕ) → length bytes - after ≤ one
    → value_end (group_end one) levels (record { number = inner; wire = wire }) (drop after bytes)
    ≡ Some (drop next bytes)) → IsInGroup bytes levels number at next
group_goes_on {bytes} {levels} {number} {at} {place} h inside inner wire after next e further goes order found =
    record {
      later = omega (arith, h.later);
      ends = λ turns le. (
          let t = turn_here h inside (record { number = inner; wire = wire }) after e further turns le in
          let a : eqb wire 4 ≡ false = grind arith in
          let left : group_end t.0 levels number (drop next bytes) ≡ group_end turns levels number (drop at bytes) =
          sym (t.2 ∙ rw (a, found t.0 t.1) refl) in
          (t.0, omega (arith, t.1), left));
    }

-- the value of a group is what follows it
pub value_of_group : (turns depth number wire : ℕ) (bytes rest : List ℕ) → wire ≡ 3 → depth < 100
    → group_end turns (100 - (depth + 1)) number bytes ≡ Some rest
    → value_end (group_end turns) (100 - depth) (record { number = number; wire = wire }) bytes ≡ Some rest
unfolding value_end
value_of_group turns depth number wire bytes rest is lt e =
    let some : eqb (100 - depth) 0 ≡ false = grind arith in
    let one : 100 - depth - 1 ≡ 100 - (depth + 1) = omega arith in
    rw (is, some, one, e) refl

-- what is known at an error
pub at_err : {T E Q : Type 0} (r : Result T E) → Q → OnErr r Q
at_err (Ok x) q = tt
at_err (Err e) q = q
