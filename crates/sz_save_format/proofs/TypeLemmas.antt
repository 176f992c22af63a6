-- Types in front of bytes: what is found is a type that is not too high, and each such type is found.
use Rattle.std.proofs.Common.{◌≡◌, ◌∙◌, ℕ, zero, suc, ◌≤◌, ◌-◌, ◌==◌, Bool, true, false, if◌then◌else◌, ⊎_elim, Some, None, List, [], ◌∷◌, ◌++◌, length, flat_map, refl, sym, ap, subst, append_assoc, arith, eqb-true}
use Rattle.std.specs.List.{AllByRecursion}
use Rattle.sz_types.specs.Data.{Shape, FieldShape, field, FieldShapes, no_fields, with_field, fields_of}
use Rattle.sz_types.specs.Same.{encoding_number}
use Rattle.sz_types.specs.declared.encoding.Encoding.{Encoding}
use Rattle.sz_types.specs.declared.encoding.Encoding.TheVariants.{Plain, Zigzag, Fixed32, Fixed64}
use Rattle.sz_flat.specs.Spelling.{length_bytes, counted_bytes, IsShort}
use Rattle.sz_save_format.specs.Names.{HasName}
use Rattle.sz_save_format.specs.Types.{field_count, number_and_code, type_bytes, fields_bytes, HasNumber, HasTypeBytes, HaveFieldBytes, height, tallest}
use Rattle.sz_save_format.specs.Fields.{field_bytes}
use Rattle.sz_save_format.specs.Decoding.{and_then, byte_at, in_front, encoding_in, numbering_at, field_at, fields_at, type_cases, picked, type_at}
use Rattle.sz_save_format.proofs.FrontLemmas.{Finds, none_some, some_is, then_some, SameFound, found_is, found_first, first_again, first_there, byte_some, in_front_some, if_some, picked_some, carried, two_parts, counted_finds}
use Rattle.sz_save_format.proofs.NameLemmas.{length_finds, name_finds}

encoding_told : (code : ℕ) (way : Encoding) → encoding_in code ≡ Some way → code ≡ encoding_number way
encoding_told code way e =
    ⊎_elim (λ h. eqb-true code 0 h.0 ∙ ap encoding_number (some_is Plain way h.1))
    (λ a. ⊎_elim (λ h. eqb-true code 1 h.0 ∙ ap encoding_number (some_is Zigzag way h.1))
    (λ b. ⊎_elim (λ h. eqb-true code 2 h.0 ∙ ap encoding_number (some_is Fixed32 way h.1))
    (λ c. ⊎_elim (λ h. eqb-true code 3 h.0 ∙ ap encoding_number (some_is Fixed64 way h.1)) (λ d. absurd (none_some d.1))
    (if_some (code == 3) (Some Fixed64) None way c.1))
    (if_some (code == 2) (Some Fixed32) _ way b.1))
    (if_some (code == 1) (Some Zigzag) _ way a.1))
    (if_some (code == 0) (Some Plain) _ way e)

encoding_again : (way : Encoding) → encoding_in (encoding_number way) ≡ Some way
encoding_again Plain = refl
encoding_again Zigzag = refl
encoding_again Fixed32 = refl
encoding_again Fixed64 = refl

-- the number and the encoding of a field, if it has them
abbrev numbering_bytes : Bool → ℕ × Encoding → List ℕ
numbering_bytes numbered n = if numbered then number_and_code n.0 n.1 else []

numbering_sound : (numbered : Bool) (flat : List ℕ) (n : ℕ × Encoding) (rest : List ℕ)
    → numbering_at numbered flat ≡ Some (n, rest)
    → HasNumber numbered n.0 n.1 × (flat ≡ numbering_bytes numbered n ++ rest)
unfolding numbering_at
numbering_sound false flat n rest e =
    let same = found_is (0, Plain) n flat rest e in
    (subst (λ m. HasNumber false m.0 m.1) same.0 (refl, refl), same.1)
numbering_sound true flat n rest e =
    let first = found_first length_finds flat (λ number mid. and_then (byte_at mid)
    (λ code more. and_then (in_front (encoding_in code) more) (λ way end. Some ((number, way), end)))) (n, rest) e in
    let second = then_some (byte_at first.1) (λ code more.
    and_then (in_front (encoding_in code) more) (λ way end. Some ((first.0, way), end))) (n, rest) first.4 in
    let third =
    then_some (in_front (encoding_in second.0) second.1) (λ way end. Some ((first.0, way), end)) (n, rest) second.3 in
    let found = in_front_some (encoding_in second.0) second.1 third.0 third.1 third.2 in
    let code = encoding_told second.0 third.0 found.0 in
    let byte = byte_some first.1 second.0 second.1 second.2 in
    carried (λ (m : ℕ × Encoding). IsShort m.0) (numbering_bytes true) flat
    (first.0, third.0) n third.1 rest third.3 first.2
    (two_parts flat
    (length_bytes first.0) first.1 (encoding_number third.0 ∷ []) third.1 first.3 (byte ∙ (λ i. code i ∷ found.1 i)))

numbering_again : (numbered : Bool) (n : ℕ × Encoding) (rest : List ℕ) → HasNumber numbered n.0 n.1
    → numbering_at numbered (numbering_bytes numbered n ++ rest) ≡ Some (n, rest)
unfolding numbering_at
numbering_again false n rest h = λ i. Some ((sym h.0 i, sym h.1 i), rest)
numbering_again true n rest h =
    first_there length_finds n.0 (numbering_bytes true n ++ rest) (encoding_number n.1 ∷ rest)
    (λ number mid. and_then (byte_at mid)
    (λ code more. and_then (in_front (encoding_in code) more) (λ way end. Some ((number, way), end)))) h
    (append_assoc (length_bytes n.0) (encoding_number n.1 ∷ []) rest)
    ∙ ap (λ o. and_then (in_front o rest) (λ way end. Some ((n.0, way), end))) (encoding_again n.1)

numbering_finds : (numbered : Bool)
    → Finds (λ n. HasNumber numbered n.0 n.1) (numbering_bytes numbered) (numbering_at numbered)
numbering_finds numbered = record { sound = numbering_sound numbered; again = numbering_again numbered }

-- a type of at most so many levels has its bytes
abbrev pub HasAt : ℕ → Shape → Type 0
HasAt levels t = HasTypeBytes t × (height t ≤ levels)

-- a field whose type is of at most so many levels has its bytes
abbrev HasField : Bool → ℕ → FieldShape → Type 0
HasField numbered levels (field name t number code) = HasName name × HasAt levels t × HasNumber numbered number code

module _ (numbered : Bool) (levels : ℕ) (inner : Finds (HasAt levels) type_bytes (type_at levels)) where
  field_sound : (flat : List ℕ) (f : FieldShape) (rest : List ℕ)
      → field_at numbered (type_at levels) flat ≡ Some (f, rest)
      → HasField numbered levels f × (flat ≡ field_bytes numbered f ++ rest)
  unfolding field_at
  field_sound flat f rest e =
      let first = found_first name_finds flat (λ name mid. and_then (type_at levels mid)
      (λ t more. and_then (numbering_at numbered more) (λ n end. Some (field name t n.0 n.1, end)))) (f, rest) e in
      let second = found_first inner first.1 (λ t more.
      and_then (numbering_at numbered more) (λ n end. Some (field first.0 t n.0 n.1, end))) (f, rest) first.4 in
      let third = found_first (numbering_finds numbered) second.1
      (λ n end. Some (field first.0 second.0 n.0 n.1, end)) (f, rest) second.4 in
      carried (HasField numbered levels) (field_bytes numbered) flat
      (field first.0 second.0 third.0.0 third.0.1) f third.1 rest third.4 (first.2, second.2, third.2)
      (two_parts flat
      (counted_bytes first.0) first.1 (type_bytes second.0 ++ numbering_bytes numbered third.0) third.1 first.3
      (two_parts first.1 (type_bytes second.0) second.1 (numbering_bytes numbered third.0) third.1 second.3 third.3))

  field_again : (f : FieldShape) (rest : List ℕ) → HasField numbered levels f
      → field_at numbered (type_at levels) (field_bytes numbered f ++ rest) ≡ Some (f, rest)
  unfolding field_at
  field_again (field name t number code) rest h =
      let tail = type_bytes t ++ numbering_bytes numbered (number, code) in
      first_there name_finds name ((counted_bytes name ++ tail) ++ rest) (tail ++ rest)
      (λ name mid. and_then (type_at levels mid)
      (λ t more. and_then (numbering_at numbered more) (λ n end. Some (field name t n.0 n.1, end)))) h.0
      (append_assoc (counted_bytes name) tail rest)
      ∙ first_there inner t (tail ++ rest) (numbering_bytes numbered (number, code) ++ rest)
      (λ t more. and_then (numbering_at numbered more) (λ n end. Some (field name t n.0 n.1, end))) h.1
      (append_assoc (type_bytes t) (numbering_bytes numbered (number, code)) rest)
      ∙ first_again (numbering_finds numbered) (number, code) rest (λ n end. Some (field name t n.0 n.1, end)) h.2

  field_finds : Finds (HasField numbered levels) (field_bytes numbered) (field_at numbered (type_at levels))
  field_finds = record { sound = field_sound; again = field_again }

  fields_finds : Finds (λ fs. IsShort (length fs) × AllByRecursion (HasField numbered levels) fs)
      (λ fs. length_bytes (length fs) ++ flat_map (field_bytes numbered) fs) (fields_at numbered (type_at levels))
  fields_finds = counted_finds length_finds field_finds

-- the fields as a list
abbrev list_of : FieldShapes → List FieldShape
list_of no_fields = []
list_of (with_field f fields) = f ∷ list_of fields

fields_again : (fields : FieldShapes) → fields_of (list_of fields) ≡ fields
fields_again no_fields = refl
fields_again (with_field f fields) = ap (with_field f) (fields_again fields)

pub count_of : (fs : List FieldShape) → field_count (fields_of fs) ≡ length fs
count_of [] = refl
count_of (f ∷ fs) = omega (arith, count_of fs)

pub bytes_of : (numbered : Bool) (fs : List FieldShape)
    → fields_bytes numbered (fields_of fs) ≡ flat_map (field_bytes numbered) fs
bytes_of numbered [] = refl
bytes_of numbered (field name t number code ∷ fs) =
    ap (λ l. field_bytes numbered (field name t number code) ++ l) (bytes_of numbered fs)

have_of : (numbered : Bool) (levels : ℕ) (fs : List FieldShape) → AllByRecursion (HasField numbered levels) fs
    → HaveFieldBytes numbered (fields_of fs) × (tallest (fields_of fs) ≤ levels)
have_of numbered levels [] h = (tt, omega arith)
have_of numbered levels (field name t number code ∷ fs) h =
    let later = have_of numbered levels fs h.1 in
    (((h.0.0, h.0.1.0, h.0.2), later.0), omega (arith, later.1, h.0.1.1))

of_have : (numbered : Bool) (levels : ℕ) (fields : FieldShapes) → HaveFieldBytes numbered fields
    → tallest fields ≤ levels → AllByRecursion (HasField numbered levels) (list_of fields)
of_have numbered levels no_fields h low = tt
of_have numbered levels (with_field (field name t number code) fields) h low =
    ((h.0.0, (h.0.1, omega (arith, low)), h.0.2), of_have numbered levels fields h.1 (omega (arith, low)))

-- the bytes of fields are those of the list
listed_bytes : (numbered : Bool) (fields : FieldShapes)
    → length_bytes (field_count fields) ++ fields_bytes numbered fields ≡ length_bytes (length (list_of fields))
    ++ flat_map (field_bytes numbered) (list_of fields)
listed_bytes numbered fields =
    let same = fields_again fields in
    (λ i. length_bytes (field_count (sym same i)) ++ fields_bytes numbered (sym same i))
    ∙ (λ i. length_bytes (count_of (list_of fields) i) ++ bytes_of numbered (list_of fields) i)

short_list : (fields : FieldShapes) → IsShort (field_count fields) → IsShort (length (list_of fields))
short_list fields h = subst IsShort (ap field_count (sym (fields_again fields)) ∙ count_of (list_of fields)) h

some_height : (t : Shape) → 1 ≤ height t
some_height Shape.truth = omega arith
some_height Shape.int = omega arith
some_height Shape.time = omega arith
some_height Shape.str = omega arith
some_height Shape.bytes = omega arith
some_height (Shape.array t) = omega arith
some_height (Shape.mapping k v) = omega arith
some_height (Shape.tuple fields) = omega arith
some_height (Shape.proto fields) = omega arith

module _ (levels : ℕ) (inner : Finds (HasAt levels) type_bytes (type_at levels)) where
  -- what is found behind the byte of a kind
  abbrev Found : ℕ → List ℕ → Shape → List ℕ → Type 0
  Found kind mid t rest = HasAt (suc levels) t × (kind ∷ mid ≡ type_bytes t ++ rest)

  module _ (kind : ℕ) (mid : List ℕ) (t : Shape) (rest : List ℕ) where
    basic : (s : Shape) (number : ℕ) → HasAt (suc levels) s → type_bytes s ≡ number ∷ [] → SameFound s t mid rest
        → kind ≡ number → Found kind mid t rest
    basic s number has is e same =
        carried (HasAt (suc levels)) type_bytes (kind ∷ mid) s t mid rest e has
        ((λ i. same i ∷ mid) ∙ ap (λ l. l ++ mid) (sym is))

    array_found : and_then (type_at levels mid) (λ s more. Some (Shape.array s, more)) ≡ Some (t, rest) → kind ≡ 6
        → Found kind mid t rest
    array_found e same =
        let first = found_first inner mid (λ s more. Some (Shape.array s, more)) (t, rest) e in
        let low = first.2.1 in
        carried (HasAt (suc levels)) type_bytes (kind ∷ mid)
        (Shape.array first.0) t first.1 rest first.4 (first.2.0, omega (arith, low))
        (λ i. same i ∷ first.3 i)

    mapping_found : and_then (type_at levels mid)
        (λ k more. and_then (type_at levels more) (λ v end. Some (Shape.mapping k v, end))) ≡ Some (t, rest)
        → kind ≡ 8 → Found kind mid t rest
    mapping_found e same =
        let first = found_first inner mid
        (λ k more. and_then (type_at levels more) (λ v end. Some (Shape.mapping k v, end))) (t, rest) e in
        let second = found_first inner first.1 (λ v end. Some (Shape.mapping first.0 v, end)) (t, rest) first.4 in
        let low = first.2.1 in
        let below = second.2.1 in
        carried (HasAt (suc levels)) type_bytes (kind ∷ mid) (Shape.mapping first.0 second.0) t second.1 rest second.4
        ((first.2.0, second.2.0), omega (arith, low, below))
        (λ i. same i ∷ two_parts mid (type_bytes first.0) first.1 (type_bytes second.0) second.1 first.3 second.3 i)

    tuple_found : and_then (fields_at false (type_at levels) mid) (λ fs more. Some (Shape.tuple (fields_of fs), more))
        ≡ Some (t, rest) → kind ≡ 7 → Found kind mid t rest
    tuple_found e same =
        let first = found_first (fields_finds false levels inner) mid
        (λ fs more. Some (Shape.tuple (fields_of fs), more)) (t, rest) e in
        let have = have_of false levels first.0 first.2.1 in
        let low = have.1 in
        carried (HasAt (suc levels)) type_bytes (kind ∷ mid) (Shape.tuple (fields_of first.0)) t first.1 rest first.4
        ((subst IsShort (sym (count_of first.0)) first.2.0, have.0), omega (arith, low))
        ((λ i. same i ∷ first.3 i)
        ∙ (λ i. 7 ∷ (length_bytes (sym (count_of first.0) i) ++ sym (bytes_of false first.0) i) ++ first.1))

    proto_found : and_then (fields_at true (type_at levels) mid) (λ fs more. Some (Shape.proto (fields_of fs), more))
        ≡ Some (t, rest) → kind ≡ 9 → Found kind mid t rest
    proto_found e same =
        let first = found_first (fields_finds true levels inner) mid
        (λ fs more. Some (Shape.proto (fields_of fs), more)) (t, rest) e in
        let have = have_of true levels first.0 first.2.1 in
        let low = have.1 in
        carried (HasAt (suc levels)) type_bytes (kind ∷ mid) (Shape.proto (fields_of first.0)) t first.1 rest first.4
        ((subst IsShort (sym (count_of first.0)) first.2.0, have.0), omega (arith, low))
        ((λ i. same i ∷ first.3 i)
        ∙ (λ i. 9 ∷ (length_bytes (sym (count_of first.0) i) ++ sym (bytes_of true first.0) i) ++ first.1))

  type_sound : (flat : List ℕ) (t : Shape) (rest : List ℕ) → type_at (suc levels) flat ≡ Some (t, rest)
      → HasAt (suc levels) t × (flat ≡ type_bytes t ++ rest)
  unfolding type_at
  type_sound flat t rest e =
      let first = then_some (byte_at flat) (picked (type_cases (type_at levels))) (t, rest) e in
      let byte = byte_some flat first.0 first.1 first.2 in
      let some : 1 ≤ suc levels = omega arith in
      let found : Found first.0 first.1 t rest =
      picked_some (type_cases (type_at levels)) first.0 first.1 (t, rest) (Found first.0 first.1 t rest) (
        basic first.0 first.1 t rest Shape.truth 1 (tt, some) refl,
        (
          basic first.0 first.1 t rest Shape.int 2 (tt, some) refl,
          (
            basic first.0 first.1 t rest Shape.time 3 (tt, some) refl,
            (
              basic first.0 first.1 t rest Shape.str 4 (tt, some) refl,
              (
                basic first.0 first.1 t rest Shape.bytes 5 (tt, some) refl,
                (
                  array_found first.0 first.1 t rest,
                  (
                    tuple_found first.0 first.1 t rest,
                    (
                      mapping_found first.0 first.1 t rest,
                      (proto_found first.0 first.1 t rest, tt),
                    ),
                  ),
                ),
              ),
            ),
          ),
        ),
      ) first.3 in
      (found.0, byte ∙ found.1)

  type_again : (t : Shape) (rest : List ℕ) → HasAt (suc levels) t
      → type_at (suc levels) (type_bytes t ++ rest) ≡ Some (t, rest)
  unfolding type_at
  type_again Shape.truth rest h = refl
  type_again Shape.int rest h = refl
  type_again Shape.time rest h = refl
  type_again Shape.str rest h = refl
  type_again Shape.bytes rest h = refl
  type_again (Shape.array t) rest h = let low = h.1 in
      first_again inner t rest (λ s more. Some (Shape.array s, more)) (h.0, omega (arith, low))
  type_again (Shape.mapping k v) rest h =
      let low = h.1 in
      first_there inner k ((type_bytes k ++ type_bytes v) ++ rest) (type_bytes v ++ rest)
      (λ k more. and_then (type_at levels more) (λ v end. Some (Shape.mapping k v, end))) (h.0.0, omega (arith, low))
      (append_assoc (type_bytes k) (type_bytes v) rest)
      ∙ first_again inner v rest (λ v end. Some (Shape.mapping k v, end)) (h.0.1, omega (arith, low))
  type_again (Shape.tuple fields) rest h =
      let low = h.1 in
      first_there (fields_finds false levels inner) (list_of fields)
      ((length_bytes (field_count fields) ++ fields_bytes false fields) ++ rest) rest
      (λ fs more. Some (Shape.tuple (fields_of fs), more))
      (short_list fields h.0.0, of_have false levels fields h.0.1 (omega (arith, low)))
      (ap (λ l. l ++ rest) (listed_bytes false fields))
      ∙ (λ i. Some (Shape.tuple (fields_again fields i), rest))
  type_again (Shape.proto fields) rest h =
      let low = h.1 in
      first_there (fields_finds true levels inner) (list_of fields)
      ((length_bytes (field_count fields) ++ fields_bytes true fields) ++ rest) rest
      (λ fs more. Some (Shape.proto (fields_of fs), more))
      (short_list fields h.0.0, of_have true levels fields h.0.1 (omega (arith, low)))
      (ap (λ l. l ++ rest) (listed_bytes true fields))
      ∙ (λ i. Some (Shape.proto (fields_again fields i), rest))

pub no_type_at_zero : (flat : List ℕ) → type_at 0 flat ≡ None
unfolding type_at
no_type_at_zero flat = refl

-- types of at most so many levels
pub type_finds : (levels : ℕ) → Finds (HasAt levels) type_bytes (type_at levels)
type_finds zero = record {
  sound = λ flat t rest e. absurd (none_some (sym (no_type_at_zero flat) ∙ e));
  again = λ t rest h. absurd (let low = h.1 in let some = some_height t in omega (arith, low, some));
}
type_finds (suc levels) = record {
  sound = type_sound levels (type_finds levels);
  again = type_again levels (type_finds levels);
}

-- a type of some levels begins with the byte of its kind
pub type_at_more : (levels : ℕ) (flat : List ℕ) → 1 ≤ levels
    → type_at levels flat ≡ and_then (byte_at flat) (picked (type_cases (type_at (levels - 1))))
unfolding type_at
type_at_more zero flat some = absurd (omega (arith, some))
type_at_more (suc levels) flat some =
    let back : levels ≡ suc levels - 1 = omega arith in
    ap (λ n. and_then (byte_at flat) (picked (type_cases (type_at n)))) back
