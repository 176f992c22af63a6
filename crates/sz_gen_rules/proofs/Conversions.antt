-- Conversions: a value that keeps its type takes a tick alone, bytes that become a message are decoded, and any other
-- value is converted plainly.
use Rattle.std.proofs.Common.{true≢false, ◌≡◌, ◌∙◌, ℕ, suc, ◌+◌, ◌∷◌, Bool, true, false, Some, None, if◌then◌else◌, refl, sym, ap, subst}
use Rattle.std.specs.Prelude.{slice_get}
use Rattle.sz_types.specs.Data.{Shape, FieldShapes}
use Rattle.sz_types.specs.Same.{alike}
use Rattle.sz_types.specs.Conversions.{converts_to, IsProto}
use Rattle.sz_types.specs.Rows.{convert_row}
use Rattle.sz_types.proofs.ForCallers.{alike_equal}
use Rattle.sz_value.specs.Data.{Datum, truth, int, time, str, bytes, array, tuple, mapping}
use Rattle.sz_types.specs.Types.{has_type}
use Rattle.sz_proto.proofs.ForCallers.{values_have_their_type}
use Rattle.sz_builtin.proofs.PartTypeLemmas.{convert_keeps}
use Rattle.sz_instr.specs.declared.instr.Instr.{Instr}
use Rattle.sz_instr.specs.declared.instr.Instr.TheVariants.{Tick, Convert, Decode}
use Rattle.sz_instr.specs.declared.code.Code.{Code}
use Rattle.sz_world_rules.specs.Slots.{Slot}
use Rattle.sz_world_rules.specs.Typed.{Fits}
use Rattle.sz_world_rules.specs.Operations.{converted, converted_plainly, decoded_as}
use Rattle.sz_world_rules.specs.Ticks.{conversion_weight, result_weight}
use Rattle.sz_instr.specs.States.{State, Goes}
use Rattle.sz_instr.specs.Rows.{by_type}
use Rattle.sz_instr.specs.Covering.{HasConversion, IsDecoded}
use Rattle.sz_instr.specs.Runs.{conversion_added}
use Rattle.sz_gen_rules.specs.Tables.{tables_in, type_number}
use Rattle.sz_gen_rules.specs.ExpressionCode.{changing, conversion}
use Rattle.sz_gen_rules.specs.Named.{HasTarget}
use Rattle.sz_gen_rules.proofs.Steps.{LeavesSlot}

-- ---- a value that keeps its type

kept_value : (t : Shape) (d : Datum) → has_type d t ≡ true → converted t (Some d) ≡ Some d
kept_value Shape.truth (truth b) h = refl
kept_value Shape.int (int n) h = refl
kept_value Shape.time (time n) h = refl
kept_value Shape.str (str s) h = refl
kept_value Shape.bytes (bytes s) h = refl
kept_value (Shape.array t) (array ds) h = refl
kept_value (Shape.tuple fs) (tuple ds) h = refl
kept_value (Shape.proto fs) (tuple ds) h = refl
kept_value (Shape.mapping k v) (mapping es) h = refl
kept_value t d h = absurd cc

kept_slot : (t : Shape) (y : Slot) → Fits y t → converted t y ≡ y
kept_slot t None h = refl
kept_slot t (Some d) h = kept_value t d h

weightless_value : (t : Shape) (d : Datum) → has_type d t ≡ true → conversion_weight t (Some d) (Some d) ≡ 0
weightless_value Shape.truth d h = refl
weightless_value Shape.int d h = refl
weightless_value Shape.time d h = refl
weightless_value Shape.str (str s) h = refl
weightless_value Shape.bytes (bytes s) h = refl
weightless_value (Shape.array t) d h = refl
weightless_value (Shape.tuple fs) d h = refl
weightless_value (Shape.proto fs) (tuple ds) h = refl
weightless_value (Shape.mapping k v) d h = refl
weightless_value t d h = absurd cc

weightless_none : (t : Shape) → conversion_weight t None None ≡ 0
weightless_none Shape.str = refl
weightless_none Shape.bytes = refl
weightless_none t = refl

weightless : (t : Shape) (y : Slot) → Fits y t → conversion_weight t y y ≡ 0
weightless t None h = weightless_none t
weightless t (Some d) h = weightless_value t d h

-- ---- bytes that become a message

-- only bytes become one
only_bytes : (from : Shape) (fs : FieldShapes) → alike from (Shape.proto fs) ≡ false
    → converts_to from (Shape.proto fs) ≡ true → from ≡ Shape.bytes
only_bytes Shape.bytes fs other converts = refl
only_bytes from fs other converts = absurd (true≢false (sym converts ∙ other))

-- the same of what a slot holds
same_message : (fs : FieldShapes) (y : Slot) → Fits y Shape.bytes
    → decoded_as (Shape.proto fs) y ≡ converted (Shape.proto fs) y
same_message fs None h = refl
same_message fs (Some (bytes s)) h = refl
same_message fs (Some d) h = absurd cc

message_weight : (fs : FieldShapes) (y : Slot) → Fits y Shape.bytes
    → result_weight (decoded_as (Shape.proto fs) y)
    ≡ conversion_weight (Shape.proto fs) y (converted (Shape.proto fs) y)
message_weight fs None h = refl
message_weight fs (Some (bytes s)) h = refl
message_weight fs (Some d) h = absurd cc

message_fits : (fs : FieldShapes) (y : Slot) → Fits y Shape.bytes → Fits (converted (Shape.proto fs) y) (Shape.proto fs)
message_fits fs None h = tt
message_fits fs (Some (bytes s)) h = values_have_their_type (Shape.proto fs) s
message_fits fs (Some d) h = absurd cc

-- ---- a value of another type

row_is : (from to : Shape) → (IsProto to → ⊥) → converts_to from to ≡ true → convert_row from to ≡ Some to
row_is Shape.bytes (Shape.proto fs) plain h = absurd (plain tt)
row_is from to plain h = ap (λ (b : Bool). if b then Some to else None) h

plain_value : (to : Shape) (d : Datum) → (IsProto to → ⊥) → converted_plainly to (Some d) ≡ converted to (Some d)
plain_value (Shape.proto fs) d plain = absurd (plain tt)
plain_value to d plain = refl

plain_slot : (to : Shape) (y : Slot) → (IsProto to → ⊥) → converted_plainly to y ≡ converted to y
plain_slot to None plain = refl
plain_slot to (Some d) plain = plain_value to d plain

plain_fits : (from to : Shape) (y : Slot) → (IsProto to → ⊥) → converts_to from to ≡ true → Fits y from
    → Fits (converted_plainly to y) to
plain_fits from to None plain converts h = tt
plain_fits from to (Some d) plain converts h = convert_keeps d from to to h (row_is from to plain converts)

has_conversion : (from to : Shape) (y : Slot) → (IsProto to → ⊥) → converts_to from to ≡ true → Fits y from
    → HasConversion (Some to) y
has_conversion from (Shape.proto fs) y plain converts h = absurd (plain tt)
has_conversion from to y plain converts h = (from, converts, h)

-- ---- the instructions

-- the instruction leaves what a slot becomes by a conversion to the type, and takes what that weighs
abbrev pub Makes : Code → Shape → Slot → State → Instr → Type 0
Makes code to y s i = LeavesSlot code i
    (record s { stack = y ∷ s.stack }) s.stack (conversion_weight to y (converted to y)) (converted to y) to

module _ (code : Code) (from to : Shape) (y : Slot) (s : State) (fits : Fits y from) where
  keeps_type : alike from to ≡ true → Makes code to y s Tick
  keeps_type same =
      let typed : Fits y to = subst (Fits y) (alike_equal from to same) fits in
      let kept = kept_slot to y typed in
      record {
        covered = tt;
        charge = sym (ap (λ n. 1 + n) (ap (λ z. conversion_weight to y z) kept ∙ weightless to y typed));
        acts = λ w place. λ j. Goes (record s { at = suc s.at; stack = sym kept j ∷ s.stack; world = w });
        typed = subst (λ z. Fits z to) (sym kept) typed;
      }

  converts_plainly : (n : ℕ) → (IsProto to → ⊥) → slice_get code.types n ≡ Some to → converts_to from to ≡ true
      → Makes code to y s (Convert n)
  converts_plainly n plain found converts =
      let same = plain_slot to y plain in
      record {
        covered = subst (λ o. HasConversion o y) (sym found) (has_conversion from to y plain converts fits);
        charge = ap (λ o. 1 + conversion_added o y) found ∙ ap (λ z. 1 + conversion_weight to y z) same;
        acts = λ w place. λ j. Goes (record s {
          at = suc s.at;
          stack = (ap (λ o. by_type converted_plainly o y) found ∙ same) j ∷ s.stack;
          world = w;
        });
        typed = subst (λ z. Fits z to) same (plain_fits from to y plain converts fits);
      }

module _ (code : Code) (fs : FieldShapes) (y : Slot) (s : State) (fits : Fits y Shape.bytes) where
  decodes : (n : ℕ) → slice_get code.types n ≡ Some (Shape.proto fs) → Makes code (Shape.proto fs) y s (Decode n)
  decodes n found = record {
    covered = subst (λ o. IsDecoded o y) (sym found) fits;
    charge = ap (λ o. 1 + result_weight (by_type decoded_as o y)) found ∙ ap (λ m. 1 + m) (message_weight fs y fits);
    acts = λ w place. λ j. Goes (record s {
      at = suc s.at;
      stack = (ap (λ o. by_type decoded_as o y) found ∙ same_message fs y fits) j ∷ s.stack;
      world = w;
    });
    typed = message_fits fs y fits;
  }

changes_type : (code : Code) (from to : Shape) (y : Slot) (s : State) (fits : Fits y from) (n : ℕ)
    → slice_get code.types n ≡ Some to
    → alike from to ≡ false → converts_to from to ≡ true → Makes code to y s (changing to n)
changes_type code from (Shape.proto fs) y s fits n found other converts =
    decodes code fs y s (subst (Fits y) (only_bytes from fs other converts) fits) n found
changes_type code from to y s fits n found other converts =
    converts_plainly code from to y s fits n (λ p. absurd p) found converts

module _ (code : Code) (from to : Shape) (y : Slot) (s : State) (fits : Fits y from) where
  pub conversion_leaves : converts_to from to ≡ true → HasTarget (tables_in code) (alike from to) to
      → Makes code to y s (conversion (tables_in code) from to)
  conversion_leaves converts has = by_alike (alike from to) refl has
    where
      by_alike : (b : Bool) → alike from to ≡ b → HasTarget (tables_in code) b to
          → Makes code to y s (if b then Tick else changing to (type_number (tables_in code) to))
      by_alike true same has = keeps_type code from to y s fits same
      by_alike false other has = changes_type code from to y s fits (type_number (tables_in code) to) has other converts
