-- What it tells of operands, calls and candidate lists that the row of an instruction covers a state.
use Rattle.std.proofs.Common.{◌≡◌, ℕ, Bool, zero, suc, ◌<◌, ◌≤◌, List, [], ◌∷◌, length, drop, slice_get, unwrap_or, Some, None, IsSome, IsNone, refl, ap, arith}
use Rattle.sz_value.specs.Data.{Datum}
use Rattle.sz_instr.specs.declared.instr.Instr.{Instr}
use Rattle.sz_instr.specs.declared.instr.Instr.TheVariants.{Push, Local, Static, Input, Keep, KeepStatic, Clear, Store, Unary, Binary, Apply}
use Rattle.sz_instr.specs.declared.instr.Instr.TheVariants.{Convert, Decode, MakeArray, MakeTuple, MakeMap, Index, Slice, Field, Def, Tick, Jump, Test}
use Rattle.sz_instr.specs.declared.instr.Instr.TheVariants.{AndTest, OrTest, Call, Return, EndRecord, Discard, Emit, Enter, Next, Leave, Meets, Fails}
use Rattle.sz_instr.specs.declared.step.Step.{Step}
use Rattle.sz_world_rules.specs.Slots.{Slot}
use Rattle.sz_types.specs.declared.operator.Builtin.{Builtin}
use Rattle.sz_types.specs.declared.operator.BinOp.{BinOp}
use Rattle.sz_machine.specs.AtLines.{IsInside, IsApart}
use Rattle.sz_instr.specs.Covering.{HasList}

-- there is a candidate list
pub list_there : (lists : List (List Datum)) → HasList lists → 0 < length lists
list_there [] h = absurd h
list_there (cs ∷ lists) h = omega arith

-- an item that is found is within
pub found_within : {X : Type 0} → (xs : List X) (n : ℕ) (x : X) → slice_get xs n ≡ Some x → n < length xs
found_within [] n x e = absurd (cc)
found_within (y ∷ xs) zero x e = omega arith
found_within (y ∷ xs) (suc n) x e = let rest = found_within xs n x e in omega (arith, rest)

-- what has to do with neither statics nor the record is inside
pub is_inside : (i : Instr) → ((n : ℕ) → i ≡ Static n → ⊥) → (i ≡ Input → ⊥)
    → ((n : ℕ) → i ≡ KeepStatic n → ⊥) → IsInside i
is_inside (Push x) a b k = tt
is_inside (Local x) a b k = tt
is_inside (Static x) a b k = a x refl
is_inside Input a b k = b refl
is_inside (Keep x) a b k = tt
is_inside (KeepStatic x) a b k = k x refl
is_inside (Clear x) a b k = tt
is_inside (Store x y) a b k = tt
is_inside (Unary x) a b k = tt
is_inside (Binary x) a b k = tt
is_inside (Apply x) a b k = tt
is_inside (Convert x) a b k = tt
is_inside (Decode x) a b k = tt
is_inside (MakeArray x) a b k = tt
is_inside (MakeTuple x) a b k = tt
is_inside (MakeMap x) a b k = tt
is_inside Index a b k = tt
is_inside Slice a b k = tt
is_inside (Field x) a b k = tt
is_inside Def a b k = tt
is_inside Tick a b k = tt
is_inside (Jump x) a b k = tt
is_inside (Test x y) a b k = tt
is_inside (AndTest x) a b k = tt
is_inside (OrTest x) a b k = tt
is_inside (Call x) a b k = tt
is_inside Return a b k = tt
is_inside EndRecord a b k = tt
is_inside Discard a b k = tt
is_inside (Emit x y z) a b k = tt
is_inside (Enter x) a b k = tt
is_inside (Next x y) a b k = tt
is_inside Leave a b k = tt
is_inside (Meets x) a b k = tt
is_inside (Fails x) a b k = tt

-- from an item that is found on there are it and the others
pub drop_found : {X : Type 0} → (xs : List X) (n : ℕ) (x : X) → slice_get xs n ≡ Some x
    → drop n xs ≡ x ∷ drop (suc n) xs
drop_found [] n x e = absurd (cc)
drop_found (y ∷ xs) zero x e = ap (λ o. unwrap_or o x ∷ xs) e
drop_found (y ∷ xs) (suc n) x e = drop_found xs n x e

-- after the last one there are none
pub drop_past : {X : Type 0} → (xs : List X) (n : ℕ) → length xs ≤ n → drop n xs ≡ []
drop_past [] zero h = refl
drop_past [] (suc n) h = refl
drop_past (x ∷ xs) zero h = absurd (omega (arith, h))
drop_past (x ∷ xs) (suc n) h = drop_past xs n (omega (arith, h))

-- a slot isn't both
pub not_both : (x : Slot) → IsSome x → IsNone x → ⊥
not_both None some none = absurd (cc)
not_both (Some d) some none = absurd (cc)

-- what isn't done in line, this record says of it: it is none of the common instructions
pub record IsUncommon (i : Instr) : Type 0 where
  pub no_push : (n : ℕ) → i ≡ Push n → ⊥
  pub no_local : (n : ℕ) → i ≡ Local n → ⊥
  pub no_keep : (n : ℕ) → i ≡ Keep n → ⊥
  pub no_clear : (n : ℕ) → i ≡ Clear n → ⊥
  pub no_store : (n : ℕ) (path : List Step) → i ≡ Store n path → ⊥
  pub no_binary : (op : BinOp) → i ≡ Binary op → ⊥
  pub no_tick : i ≡ Tick → ⊥
  pub no_jump : (n : ℕ) → i ≡ Jump n → ⊥
  pub no_test : (n past : ℕ) → i ≡ Test n past → ⊥
  pub no_andtest : (n : ℕ) → i ≡ AndTest n → ⊥
  pub no_ortest : (n : ℕ) → i ≡ OrTest n → ⊥
  pub no_emit : (t n : ℕ) (weighted : Bool) → i ≡ Emit t n weighted → ⊥
  pub no_endrecord : i ≡ EndRecord → ⊥
  pub no_apply : (which : Builtin) → i ≡ Apply which → ⊥
  pub no_convert : (n : ℕ) → i ≡ Convert n → ⊥
  pub no_slice : i ≡ Slice → ⊥
  pub no_index : i ≡ Index → ⊥
  pub no_field : (n : ℕ) → i ≡ Field n → ⊥

-- and then it stands apart
pub is_apart : (i : Instr) → IsInside i → IsUncommon i → IsApart i
is_apart (Push x) h k = absurd (k.no_push x refl)
is_apart (Local x) h k = absurd (k.no_local x refl)
is_apart (Keep x) h k = absurd (k.no_keep x refl)
is_apart (Clear x) h k = absurd (k.no_clear x refl)
is_apart (Store x y) h k = absurd (k.no_store x y refl)
is_apart (Unary x) h k = tt
is_apart (Binary x) h k = absurd (k.no_binary x refl)
is_apart Def h k = tt
is_apart Tick h k = absurd (k.no_tick refl)
is_apart (Jump x) h k = absurd (k.no_jump x refl)
is_apart (Test x y) h k = absurd (k.no_test x y refl)
is_apart (AndTest x) h k = absurd (k.no_andtest x refl)
is_apart (OrTest x) h k = absurd (k.no_ortest x refl)
is_apart EndRecord h k = absurd (k.no_endrecord refl)
is_apart Discard h k = tt
is_apart (Meets x) h k = tt
is_apart (Fails x) h k = tt
is_apart (Static x) h k = absurd h
is_apart Input h k = absurd h
is_apart (KeepStatic x) h k = absurd h
is_apart (Apply x) h k = absurd (k.no_apply x refl)
is_apart (Convert x) h k = absurd (k.no_convert x refl)
is_apart (Decode x) h k = tt
is_apart (MakeArray x) h k = tt
is_apart (MakeTuple x) h k = tt
is_apart (MakeMap x) h k = tt
is_apart Index h k = absurd (k.no_index refl)
is_apart Slice h k = absurd (k.no_slice refl)
is_apart (Field x) h k = absurd (k.no_field x refl)
is_apart (Call x) h k = tt
is_apart Return h k = tt
is_apart (Emit x y z) h k = absurd (k.no_emit x y z refl)
is_apart (Enter x) h k = tt
is_apart (Next x y) h k = tt
is_apart Leave h k = tt
