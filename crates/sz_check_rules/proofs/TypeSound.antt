-- A type that is judged is well formed.
use Rattle.std.proofs.Common.{◌≡◌, ℕ, Bool, true, false, List, [], ◌∷◌, Option, Some, None, refl}
use Rattle.std.specs.Prelude.{ℤ, pos, negsuc, ◌&&◌, not, if◌then◌else◌, bytes_eq, nat_eq, nat_le, IfSome}
use Rattle.std.specs.Cmp.{first_so, second_so}
use Rattle.std.specs.List.{list_any}
use Rattle.sz_types.specs.Data.{Shape, FieldShapes, no_fields, with_field, field}
use Rattle.sz_types.specs.declared.encoding.Encoding.{Encoding}
use Rattle.sz_types.specs.declared.encoding.Encoding.TheVariants.{Plain}
use Rattle.sz_tree.specs.declared.types.BasicType.{BasicType}
use Rattle.sz_tree.specs.declared.types.BasicType.TheVariants as basics
use Rattle.sz_tree.specs.Names.{Ident}
use Rattle.sz_tree.specs.Types.{Typ, basic, type_name, array, map_type, tuple, proto, Params, no_params, param, Fields, proto_field}
use Rattle.sz_tree.specs.Types as trees
use Rattle.sz_core.specs.WellFormed.{is_well_formed, are_parts, are_message_fields, names_of, numbers_of, are_distinct_texts, are_distinct_numbers}
use Rattle.sz_core.specs.WellFormed.{is_field_type, takes_encoding, most_field_number}
use Rattle.sz_core.specs.Typing.{Sight}
use Rattle.sz_check_rules.specs.Refusals.{has_name}
use Rattle.sz_check_rules.specs.Names.{Block, Meaning}
use Rattle.sz_check_rules.specs.Names as names
use Rattle.sz_check_rules.specs.JudgingTypes.{judge_type, judge_parts, judge_fields, shape_of, type_named, field_number, encoding_of, Coding, coding_of, coded}
use Rattle.sz_check_rules.proofs.Holds.{Holds, ok_holds, err_holds, bind_holds, if_holds}
use Rattle.sz_check_rules.proofs.Tests.{not_so, so_not, AreFresh, not_later, still_fresh, texts_exact, numbers_exact}
use Rattle.sz_check_rules.proofs.Meanings.{looked_up}
use Rattle.sz_check_rules.proofs.Sights.{IsFormed, Fits, AllFit}

-- a basic type is well formed
pub basic_formed : (b : BasicType) → IsFormed (shape_of b)
unfolding is_well_formed
basic_formed basics.Bool = refl
basic_formed basics.Int = refl
basic_formed basics.String = refl
basic_formed basics.Bytes = refl
basic_formed basics.Time = refl

-- so is the type that a name stands for
pub named_formed : (g : Sight) (n : Ident) (m : Meaning) → Fits g m → Holds (type_named n m) IsFormed
named_formed g n (names.variable k t) h = err_holds _ _
named_formed g n (names.quantified k t) h = err_holds _ _
named_formed g n (names.static k t) h = err_holds _ _
named_formed g n (names.type_name t) h = ok_holds _ t h
named_formed g n (names.table k d) h = err_holds _ _
named_formed g n (names.function k s) h = err_holds _ _
named_formed g n (names.predeclared b) h = err_holds _ _
named_formed g n names.input h = err_holds _ _

-- the parts of a tuple, after parts with these names
record AreParts (taken : List (List ℕ)) (fs : FieldShapes) : Type 0 where
  fresh : AreFresh bytes_eq taken (names_of fs)
  distinct : are_distinct_texts (names_of fs) ≡ true
  parts : are_parts fs ≡ true

-- the fields of a message, after fields with these names and numbers
record AreFields (taken : List (List ℕ)) (used : List ℕ) (fs : FieldShapes) : Type 0 where
  fresh : AreFresh bytes_eq taken (names_of fs)
  distinct : are_distinct_texts (names_of fs) ≡ true
  unused : AreFresh nat_eq used (numbers_of fs)
  apart : are_distinct_numbers (numbers_of fs) ≡ true
  fields : are_message_fields fs ≡ true

-- a number can be that of a field
abbrev InRange : ℕ → Type 0
InRange n = (nat_le 1 n && nat_le n most_field_number) ≡ true

-- a field of this type, with a name that isn't taken, is coded so
record IsCoding (taken : List (List ℕ)) (used : List ℕ) (n : Ident) (t : Shape) (c : Coding) : Type 0 where
  free : has_name n.text taken ≡ false
  unused : list_any (nat_eq c.number) used ≡ false
  range : InRange c.number
  kind : is_field_type t ≡ true
  code : takes_encoding c.code t ≡ true

numbered : (k : ℤ) → IfSome (field_number k) InRange
numbered (pos n) = within (nat_le 1 n && nat_le n most_field_number) refl
  where
    within : (b : Bool) → (nat_le 1 n && nat_le n most_field_number) ≡ b → IfSome (if b then Some n else None) InRange
    within true e = e
    within false e = tt
numbered (negsuc n) = tt

coding_holds : (taken : List (List ℕ)) (used : List ℕ) (n : Ident) (t : Shape) (number : Option ℕ)
    (code : Option Encoding) → IfSome number InRange
    → Holds (coded n taken (coding_of used t number code)) (IsCoding taken used n t)
coding_holds taken used n t None code range = err_holds _ _
coding_holds taken used n t (Some k) None range = err_holds _ _
coding_holds taken used n t (Some k) (Some code) range =
    by_test (not (list_any (nat_eq k) used) && is_field_type t && takes_encoding code t) refl
  where
    coding : Coding
    coding = record { number = k; code = code }

    by_test : (b : Bool) → (not (list_any (nat_eq k) used) && is_field_type t && takes_encoding code t) ≡ b
        → Holds (coded n taken (if b then Some coding else None)) (IsCoding taken used n t)
    by_test true e = if_holds _ (λ h. err_holds _ _) (λ free. ok_holds _ coding (record {
      free = free;
      unused = not_so _ (first_so _ (is_field_type t) (first_so _ (takes_encoding code t) e));
      range = range;
      kind = second_so _ (is_field_type t) (first_so _ (takes_encoding code t) e);
      code = second_so _ (takes_encoding code t) e;
    }))
    by_test false e = err_holds _ _

-- a part more in front
more_parts : (taken : List (List ℕ)) (name : List ℕ) (t : Shape) (fs : FieldShapes) → has_name name taken ≡ false
    → IsFormed t → AreParts (name ∷ taken) fs → AreParts taken (with_field (field name t 0 Plain) fs)
unfolding are_parts
more_parts taken name t fs free formed rest = record {
  fresh = (free, still_fresh bytes_eq name taken (names_of fs) rest.fresh);
  distinct = λ i. so_not (not_later bytes_eq texts_exact name taken (names_of fs) rest.fresh) i && rest.distinct i;
  parts = λ i. formed i && rest.parts i;
}

-- a field more in front
more_fields : (taken : List (List ℕ)) (used : List ℕ) (n : Ident) (t : Shape) (c : Coding) (fs : FieldShapes)
    → IsFormed t → IsCoding taken used n t c → AreFields (n.text ∷ taken) (c.number ∷ used) fs
    → AreFields taken used (with_field (field n.text t c.number c.code) fs)
unfolding are_message_fields
more_fields taken used n t c fs formed h rest = record {
  fresh = (h.free, still_fresh bytes_eq n.text taken (names_of fs) rest.fresh);
  distinct = λ i. so_not (not_later bytes_eq texts_exact n.text taken (names_of fs) rest.fresh) i && rest.distinct i;
  unused = (h.unused, still_fresh nat_eq c.number used (numbers_of fs) rest.unused);
  apart = λ i. so_not (not_later nat_eq numbers_exact c.number used (numbers_of fs) rest.unused) i && rest.apart i;
  fields = λ i. h.range i && h.kind i && h.code i && formed i && rest.fields i;
}

module _ (g : Sight) (blocks : List Block) (fit : AllFit g blocks) where
  mutual
    unfolding judge_type judge_parts judge_fields is_well_formed are_parts are_message_fields

    -- a type that is judged is well formed
    pub type_formed : (t : Typ) → Holds (judge_type blocks t) IsFormed
    type_formed (basic p b) = ok_holds _ _ (basic_formed b)
    type_formed (type_name n) = bind_holds (looked_up (Fits g) n blocks fit) (named_formed g n)
    type_formed (array p t) = bind_holds (type_formed t) (λ u h. ok_holds _ _ h)
    type_formed (map_type p l k v) =
        bind_holds (type_formed k) (λ u h. bind_holds (type_formed v) (λ w i. ok_holds _ _ (λ j. h j && i j)))
    type_formed (tuple p ps) = bind_holds (parts_formed [] ps) (λ fs h. ok_holds _ _ (λ i. h.distinct i && h.parts i))
    type_formed (proto p fs) =
        bind_holds (fields_formed [] [] fs) (λ gs h. ok_holds _ _ (λ i. h.distinct i && h.apart i && h.fields i))

    parts_formed : (taken : List (List ℕ)) (ps : Params) → Holds (judge_parts blocks taken ps) (AreParts taken)
    parts_formed taken no_params =
        ok_holds (AreParts taken) no_fields (record { fresh = tt; distinct = refl; parts = refl })
    parts_formed taken (param n t ps) = bind_holds (type_formed t) (λ u formed. if_holds _ (λ h. err_holds _ _)
        (λ free. bind_holds (parts_formed (n.text ∷ taken) ps)
        (λ fs rest. ok_holds _ _ (more_parts taken n.text u fs free formed rest))))

    fields_formed : (taken : List (List ℕ)) (used : List ℕ) (fs : Fields)
        → Holds (judge_fields blocks taken used fs) (AreFields taken used)
    fields_formed taken used trees.no_fields = ok_holds (AreFields taken used) no_fields
        (record { fresh = tt; distinct = refl; unused = tt; apart = refl; fields = refl })
    fields_formed taken used (proto_field n t k word fs) = bind_holds (type_formed t) (λ u formed.
        bind_holds (coding_holds taken used n u (field_number k) (encoding_of word) (numbered k)) (λ c h.
        bind_holds (fields_formed (n.text ∷ taken) (c.number ∷ used) fs)
        (λ gs rest. ok_holds _ _ (more_fields taken used n u c gs formed h rest))))
