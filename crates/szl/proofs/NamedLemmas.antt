-- The types of a `.proto` file have their bytes in a saved file, but for their height.
use Rattle.std.proofs.Common.{◌≡◌, ℕ, zero, suc, ◌+◌, ◌<◌, ◌≤◌, ◌^◌, true, false, ◌&&◌, nat_eq, nat_le, List, [], ◌∷◌, length, map, get_or}
use Rattle.std.proofs.Common.{refl, subst, arith}
use Rattle.std.specs.List.{Contains, sum, fold}
use Rattle.std.proofs.lemmas.Bool.{and_parts, eqb-true, leb-true}
use Rattle.sz_types.specs.Data as data_of
use Rattle.sz_types.specs.Data.{Shape, FieldShapes, field, no_fields, with_field}
use Rattle.sz_types.specs.declared.encoding.Encoding.{Encoding}
use Rattle.sz_types.specs.declared.encoding.Encoding.TheVariants as encodings
use Rattle.sz_core.specs.WellFormed.{names_of, numbers_of, are_distinct_texts, are_distinct_numbers, is_plain, is_field_type, takes_encoding, most_field_number}
use Rattle.sz_core.specs.WellFormed.{is_well_formed, are_parts, are_message_fields}
use Rattle.sz_save_format.specs.Names.{HasName}
use Rattle.sz_save_format.specs.Types as saved
use Rattle.sz_save_format.specs.Types.{HasTypeBytes, HaveFieldBytes}
use Rattle.sz_protofile.specs.declared.scope.Scope.{Scope}
use Rattle.sz_protofile.specs.Names.{spelled, unreserved, messages_in}
use Rattle.sz_protofile.specs.Types.{TypeShape, field_count, field_counts, most_fields, HasTypes}
use Rattle.sz_protofile_types.specs.Sound.{AreSound}
use Rattle.sz_protofile_types.specs.Named.{IsFieldName, AreNamed, FieldsAreNamed, FieldsHaveNames}
use Rattle.szl.specs.ProtoFiles.{most_file_bytes}
use Rattle.szl.specs.ProtoReads.{HaveTypeBytes}

plain_is : (code : Encoding) → is_plain code ≡ true → code ≡ encodings.Plain
plain_is encodings.Plain e = refl
plain_is encodings.Zigzag e = absurd cc
plain_is encodings.Fixed32 e = absurd cc
plain_is encodings.Fixed64 e = absurd cc

module _ (most : ℕ) (low : most < 2 ^ 32) where
  has_name : (name : List ℕ) → IsFieldName most name → HasName name
  has_name name h = record { short = let few = h.few in omega (arith, few, low); is = h.is }

  few_fields : (fs : FieldShapes) → saved.field_count fs ≤ field_counts fs
  few_fields no_fields = omega arith
  few_fields (with_field (field name t number code) fs) = let rest = few_fields fs in omega (arith, rest)

  mutual
    unfolding is_well_formed are_parts are_message_fields

    -- a type with such names and not too many fields
    has_bytes : (s : Shape) → AreNamed most s → is_well_formed s ≡ true → field_count s ≤ most_fields → HasTypeBytes s
    has_bytes data_of.truth n w few = tt
    has_bytes data_of.int n w few = tt
    has_bytes data_of.time n w few = tt
    has_bytes data_of.str n w few = tt
    has_bytes data_of.bytes n w few = tt
    has_bytes (data_of.array t) n w few = has_bytes t n w few
    has_bytes (data_of.mapping k v) n w few =
        let p = and_parts (is_well_formed k) (is_well_formed v) w in
        (has_bytes k n.0 p.0 (omega (arith, few)), has_bytes v n.1 p.1 (omega (arith, few)))
    has_bytes (data_of.tuple fs) n w few =
        let p = and_parts (are_distinct_texts (names_of fs)) (are_parts fs) w in
        let less = few_fields fs in
        (omega (arith, less, few), part_bytes fs n p.1 few)
    has_bytes (data_of.proto fs) n w few =
        let p = and_parts (are_distinct_texts (names_of fs) && are_distinct_numbers (numbers_of fs)) (are_message_fields fs) w in
        let less = few_fields fs in
        (omega (arith, less, few), field_bytes fs n p.1 few)

    part_bytes : (fs : FieldShapes) → FieldsAreNamed most fs → are_parts fs ≡ true → field_counts fs ≤ most_fields → HaveFieldBytes false fs
    part_bytes no_fields n w few = tt
    part_bytes (with_field (field name t number code) fs) n w few =
        let p = and_parts (nat_eq number 0 && is_plain code && is_well_formed t) (are_parts fs) w in
        let q = and_parts (nat_eq number 0 && is_plain code) (is_well_formed t) p.0 in
        let r = and_parts (nat_eq number 0) (is_plain code) q.0 in (
          (has_name name n.0, has_bytes t n.1 q.1 (omega (arith, few)), (eqb-true number 0 r.0, plain_is code r.1)),
          part_bytes fs n.2 p.1 (omega (arith, few)),
        )

    field_bytes : (fs : FieldShapes) → FieldsAreNamed most fs → are_message_fields fs ≡ true → field_counts fs ≤ most_fields → HaveFieldBytes true fs
    field_bytes no_fields n w few = tt
    field_bytes (with_field (field name t number code) fs) n w few =
        let one = nat_le 1 number in
        let under = nat_le number most_field_number in
        let p = and_parts (one && under && is_field_type t && takes_encoding code t && is_well_formed t) (are_message_fields fs) w in
        let q = and_parts (one && under && is_field_type t && takes_encoding code t) (is_well_formed t) p.0 in
        let r = and_parts (one && under && is_field_type t) (takes_encoding code t) q.0 in
        let u = and_parts (one && under) (is_field_type t) r.0 in
        let bound = leb-true number most_field_number (and_parts one under u.0).1 in (
          (has_name name n.0, has_bytes t n.1 q.1 (omega (arith, few)), omega (arith, bound)),
          field_bytes fs n.2 p.1 (omega (arith, few)),
        )

  -- the same of several types
  all_have : (types : List TypeShape) → ((t : TypeShape) → Contains types t → AreNamed most t.shape)
      → ((t : TypeShape) → Contains types t → is_well_formed t.shape ≡ true) → ((t : TypeShape) → Contains types t → field_count t.shape ≤ most_fields)
      → HaveTypeBytes types
  all_have [] n w few = tt
  all_have (t ∷ types) n w few = (
    has_bytes t.shape (n t (0, omega arith, refl)) (w t (0, omega arith, refl)) (few t (0, omega arith, refl)),
    all_have types (λ u c. n u (suc c.0, omega (arith, c.1), c.2)) (λ u c. w u (suc c.0, omega (arith, c.1), c.2))
        (λ u c. few u (suc c.0, omega (arith, c.1), c.2)),
  )

-- each of several types has no more fields than all together
each_few : (types : List ℕ → Shape) (l : List Scope) (n : ℕ) → sum (map (λ (s : Scope). field_count (types s.full)) l) ≤ n
    → (t : TypeShape) → Contains (map (λ (s : Scope). record { name = unreserved s.joined; shape = types s.full }) l) t → field_count t.shape ≤ n
each_few types l n few t c = by l 0 few c.0 c.1 c.2
  where
    made : Scope → TypeShape
    made s = record { name = unreserved s.joined; shape = types s.full }

    -- a sum from a number on is no less than this
    from : (l : List Scope) (a : ℕ) → fold ◌+◌ a (map (λ (s : Scope). field_count (types s.full)) l) ≤ n → a ≤ n
    from [] a few = few
    from (s ∷ l) a few = let h = from l (a + field_count (types s.full)) few in omega (arith, h)

    first : (s : Scope) (l : List Scope) (a : ℕ) → fold ◌+◌ a (map (λ (s : Scope). field_count (types s.full)) (s ∷ l)) ≤ n
        → field_count (types s.full) ≤ n
    first s l a few = let h = from l (a + field_count (types s.full)) few in omega (arith, h)

    by : (l : List Scope) (a : ℕ) → fold ◌+◌ a (map (λ (s : Scope). field_count (types s.full)) l) ≤ n → (i : ℕ) → i < length (map made l)
        → get_or (map made l) i t ≡ t → field_count t.shape ≤ n
    by [] a few i k is = absurd (omega (arith, k))
    by (s ∷ l) a few zero k is = subst (λ (x : TypeShape). field_count x.shape ≤ n) is (first s l a few)
    by (s ∷ l) a few (suc i) k is = by l (a + field_count (types s.full)) few i (omega (arith, k)) is

-- those of a file
pub types_have_bytes : (bytes : List ℕ) (types : List TypeShape) → FieldsHaveNames → ((b : List ℕ) (ts : List TypeShape) → HasTypes b ts → AreSound ts)
    → length bytes ≤ most_file_bytes → HasTypes bytes types → HaveTypeBytes types
types_have_bytes bytes types named sound short h =
    all_have (length bytes + 1) (omega (arith, short)) types (named bytes types h) (sound bytes types h).formed
    (λ t c. each_few h.types (messages_in (spelled bytes) [] h.all) most_fields h.within t (subst (λ ts. Contains ts t) h.answer_is c))

pub none_sound : AreSound []
none_sound = record { apart = refl; messages = λ t c. absurd (omega (arith, c.1)); formed = λ t c. absurd (omega (arith, c.1)) }
