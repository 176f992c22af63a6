-- A type that is judged of a tree with such names has its bytes.
use Rattle.std.proofs.Common.{◌≡◌, ℕ, suc, ◌+◌, ◌≤◌, Bool, true, false, List, [], ◌∷◌, length, refl, sym, ap, subst, arith}
use Rattle.std.specs.Prelude.{⊤, ℤ, pos, negsuc, ◌&&◌, not, nat_eq, nat_le, if◌then◌else◌, IfSome, Option, Some, None}
use Rattle.std.specs.List.{list_any, AllByRecursion}
use Rattle.std.proofs.lemmas.Bool.{and_parts, leb-true}
use Rattle.sz_types.specs.Data.{Shape, FieldShapes, no_fields, with_field, field}
use Rattle.sz_types.specs.declared.encoding.Encoding.{Encoding}
use Rattle.sz_types.specs.declared.encoding.Encoding.TheVariants.{Plain}
use Rattle.sz_tree.specs.declared.types.BasicType.{BasicType}
use Rattle.sz_tree.specs.declared.types.BasicType.TheVariants as basics
use Rattle.sz_tree.specs.Names.{Ident}
use Rattle.sz_tree.specs.Types.{Typ, basic, type_name, array, map_type, tuple, proto, Params, no_params, param, Fields, proto_field}
use Rattle.sz_tree.specs.Types as trees
use Rattle.sz_tree.specs.Statements.{ElemForm}
use Rattle.sz_core.specs.WellFormed.{is_field_type, takes_encoding, most_field_number}
use Rattle.sz_flat.specs.Spelling.{IsShort}
use Rattle.sz_check_rules.specs.Refusals.{has_name, bad_field}
use Rattle.sz_check_rules.specs.Names.{Block, Meaning}
use Rattle.sz_check_rules.specs.Names as names
use Rattle.sz_check_rules.specs.JudgingTypes.{judge_type, judge_parts, judge_fields, shape_of, type_named, field_number, encoding_of, Coding, coding_of, coded}
use Rattle.sz_check_rules.specs.JudgingPrograms.{judge_elems}
use Rattle.sz_check_rules.proofs.Holds.{Holds, ok_holds, err_holds, bind_holds, if_holds}
use Rattle.sz_check_rules.proofs.ForCallers.{Mean, looked_up}
use Rattle.sz_save_format.specs.Types.{field_count, HasTypeBytes, HaveFieldBytes}
use Rattle.sz_save_names.proofs.TreeNames.{parts_in, fields_in, IsWritten, AreWritten, FieldsAreWritten}

-- what a name stands for has its bytes, if it is a type
abbrev pub IsSpelled : Meaning → Type 0
IsSpelled (names.type_name t) = HasTypeBytes t
IsSpelled _ = ⊤

basic_spelled : (b : BasicType) → HasTypeBytes (shape_of b)
basic_spelled basics.Bool = tt
basic_spelled basics.Int = tt
basic_spelled basics.String = tt
basic_spelled basics.Bytes = tt
basic_spelled basics.Time = tt

named_spelled : (n : Ident) (m : Meaning) → IsSpelled m → Holds (type_named n m) HasTypeBytes
named_spelled n (names.variable k t) h = err_holds _ _
named_spelled n (names.quantified k t) h = err_holds _ _
named_spelled n (names.static k t) h = err_holds _ _
named_spelled n (names.type_name t) h = ok_holds HasTypeBytes t h
named_spelled n (names.table k d) h = err_holds _ _
named_spelled n (names.function k s) h = err_holds _ _
named_spelled n (names.predeclared b) h = err_holds _ _
named_spelled n names.input h = err_holds _ _

-- the number of a field has 4 bytes
numbered : (k : ℤ) → IfSome (field_number k) IsShort
numbered (pos n) = within (nat_le 1 n && nat_le n most_field_number) refl
  where
    within : (b : Bool) → (nat_le 1 n && nat_le n most_field_number) ≡ b → IfSome (if b then Some n else None) IsShort
    within true e = let most : n ≤ most_field_number =
        leb-true n most_field_number (and_parts (nat_le 1 n) (nat_le n most_field_number) e).1 in omega (arith, most)
    within false e = tt
numbered (negsuc n) = tt

abbrev HasShortNumber : Coding → Type 0
HasShortNumber c = IsShort c.number

coding_short : (taken : List (List ℕ)) (used : List ℕ) (n : Ident) (t : Shape) (number : Option ℕ)
    (code : Option Encoding) → IfSome number IsShort
    → Holds (coded n taken (coding_of used t number code)) HasShortNumber
coding_short taken used n t None code short = err_holds _ _
coding_short taken used n t (Some k) None short = err_holds _ _
coding_short taken used n t (Some k) (Some code) short =
    by_test (not (list_any (nat_eq k) used) && is_field_type t && takes_encoding code t)
  where
    coding : Coding
    coding = record { number = k; code = code }

    by_test : (b : Bool) → Holds (coded n taken (if b then Some coding else None)) HasShortNumber
    by_test true = if_holds _ (λ h. err_holds _ _) (λ free. ok_holds HasShortNumber coding short)
    by_test false = err_holds _ _

-- the fields have their bytes, and are as many
record AreFields (numbered : Bool) (count : ℕ) (fs : FieldShapes) : Type 0 where
  spelled : HaveFieldBytes numbered fs
  many : field_count fs ≡ count

-- the types of a table's indexes have their bytes, and are as many
pub record AreIndexes (count : ℕ) (ts : List Shape) : Type 0 where
  pub spelled : AllByRecursion HasTypeBytes ts
  pub many : length ts ≡ count

module _ (blocks : List Block) (mean : Mean IsSpelled blocks) where
  mutual
    unfolding judge_type judge_parts judge_fields

    pub type_spelled : (t : Typ) → IsWritten t → Holds (judge_type blocks t) HasTypeBytes
    type_spelled (basic p b) w = ok_holds HasTypeBytes (shape_of b) (basic_spelled b)
    type_spelled (type_name n) w = bind_holds (looked_up IsSpelled n blocks mean) (named_spelled n)
    type_spelled (array p t) w = bind_holds (type_spelled t w) (λ u h. ok_holds HasTypeBytes (Shape.array u) h)
    type_spelled (map_type p l k v) w =
        bind_holds (type_spelled k w.0)
        (λ u h. bind_holds (type_spelled v w.1) (λ x i. ok_holds HasTypeBytes (Shape.mapping u x) (h, i)))
    type_spelled (tuple p ps) w = bind_holds (parts_spelled [] ps w.1) (λ fs h.
        ok_holds HasTypeBytes (Shape.tuple fs) (subst IsShort (sym h.many) w.0, h.spelled))
    type_spelled (proto p fs) w = bind_holds (fields_spelled [] [] fs w.1) (λ gs h.
        ok_holds HasTypeBytes (Shape.proto gs) (subst IsShort (sym h.many) w.0, h.spelled))

    parts_spelled : (taken : List (List ℕ)) (ps : Params) → AreWritten ps
        → Holds (judge_parts blocks taken ps) (AreFields false (parts_in ps))
    parts_spelled taken no_params w = ok_holds (AreFields false 0) no_fields (record { spelled = tt; many = refl })
    parts_spelled taken (param n t ps) w = bind_holds (type_spelled t w.1) (λ u here.
        if_holds {m = bad_field n} (has_name n.text taken)
        (λ h. err_holds (AreFields false (parts_in (param n t ps))) _)
        (λ free. bind_holds (parts_spelled (n.text ∷ taken) ps w.2) (λ fs rest.
        ok_holds (AreFields false (parts_in (param n t ps))) (with_field (field n.text u 0 Plain) fs)
        (record { spelled = ((w.0, here, (refl, refl)), rest.spelled); many = ap (λ k. k + 1) rest.many }))))

    fields_spelled : (taken : List (List ℕ)) (used : List ℕ) (fs : Fields) → FieldsAreWritten fs
        → Holds (judge_fields blocks taken used fs) (AreFields true (fields_in fs))
    fields_spelled taken used trees.no_fields w =
        ok_holds (AreFields true 0) no_fields (record { spelled = tt; many = refl })
    fields_spelled taken used (proto_field n t k word fs) w = bind_holds (type_spelled t w.1) (λ u here.
        bind_holds (coding_short taken used n u (field_number k) (encoding_of word) (numbered k)) (λ c short.
        bind_holds (fields_spelled (n.text ∷ taken) (c.number ∷ used) fs w.2) (λ gs rest.
        ok_holds (AreFields true (fields_in (proto_field n t k word fs)))
        (with_field (field n.text u c.number c.code) gs)
        (record { spelled = ((w.0, here, short), rest.spelled); many = ap (λ j. j + 1) rest.many }))))

  pub indexes_spelled : (es : List ElemForm) → AllByRecursion (λ (e : ElemForm). IsWritten e.of) es
      → Holds (judge_elems blocks es) (AreIndexes (length es))
  unfolding judge_elems
  indexes_spelled [] w = ok_holds (AreIndexes 0) [] (record { spelled = tt; many = refl })
  indexes_spelled (e ∷ es) w =
      bind_holds (type_spelled e.of w.0) (λ t h. bind_holds (indexes_spelled es w.1) (λ ts rest.
      ok_holds (AreIndexes _) (t ∷ ts) (record { spelled = (h, rest.spelled); many = ap suc rest.many })))
