-- How the names in a tree are written: those of fields and of tables are names that a saved file can hold, and there
-- are few of them.
use Rattle.std.proofs.Common.{ℕ, suc, ◌+◌, ◌<◌, ◌≤◌, ℤ, List, [], ◌∷◌, length, sym, ap, subst, arith}
use Rattle.std.specs.Prelude.{⊤, Option, Some, None}
use Rattle.std.specs.List.{AllByRecursion}
use Rattle.sz_types.specs.declared.place.Place.{Place}
use Rattle.sz_lex.specs.declared.token.Token.{Token}
use Rattle.sz_lex.specs.declared.token.Kind.TheVariants as kinds
use Rattle.sz_tree.specs.Names.{Ident}
use Rattle.sz_tree.specs.Types.{Typ, basic, type_name, array, map_type, tuple, proto, Params, no_params, param, Fields, no_fields, proto_field}
use Rattle.sz_tree.specs.Statements.{ElemForm, TableForm, Stm, typedef, table, Stms, no_stms, stm}
use Rattle.sz_flat.specs.Spelling.{IsShort}
use Rattle.sz_parse_expr.specs.Tokens.{Spelling, AtName, Many, token}
use Rattle.sz_parse_expr.specs.Types.{ReadsName, ReadsType, ReadsParams, ReadsMoreParams, ReadsFields, ReadsMoreFields, ReadsElem}
use Rattle.sz_parse_expr.proofs.TokenLemmas.{at_length, is_length, name_length}
use Rattle.sz_parse_expr.proofs.TypeSound.{label_shorter, type_shorter}
use Rattle.sz_parse_expr.proofs.Items.{many_fewer}
use Rattle.sz_parse_expr.proofs.ExpressionAlike.{Agree}
use Rattle.sz_parse.specs.Statements.{Perhaps, ReadsArgument, ReadsTableIndex, ReadsTable, ReadsStm, ReadsStms}
use Rattle.sz_parse.proofs.ForCallers.{stm_shorter, stm_alike}
use Rattle.sz_save_format.specs.Names.{HasName}

-- how many there are
abbrev pub parts_in : Params → ℕ
parts_in no_params = 0
parts_in (param n t ps) = parts_in ps + 1

abbrev pub fields_in : Fields → ℕ
fields_in no_fields = 0
fields_in (proto_field n t k l fs) = fields_in fs + 1

abbrev mutual
  -- the names of fields in a type are written so, and there are few of each
  pub IsWritten : Typ → Type 0
  IsWritten (basic p b) = ⊤
  IsWritten (type_name n) = ⊤
  IsWritten (array p t) = IsWritten t
  IsWritten (map_type p l k v) = IsWritten k × IsWritten v
  IsWritten (tuple p ps) = IsShort (parts_in ps) × AreWritten ps
  IsWritten (proto p fs) = IsShort (fields_in fs) × FieldsAreWritten fs

  pub AreWritten : Params → Type 0
  AreWritten no_params = ⊤
  AreWritten (param n t ps) = HasName n.text × IsWritten t × AreWritten ps

  pub FieldsAreWritten : Fields → Type 0
  FieldsAreWritten no_fields = ⊤
  FieldsAreWritten (proto_field n t k l fs) = HasName n.text × IsWritten t × FieldsAreWritten fs

-- the same of a table's declaration
pub record IsWrittenTable (n : Ident) (f : TableForm) : Type 0 where
  pub name : HasName n.text
  pub few : IsShort (length f.indexes)
  pub indexes : AllByRecursion (λ (e : ElemForm). IsWritten e.of) f.indexes
  pub element : IsWritten f.of.of

-- and of the statements at the top level that declare types and tables
abbrev pub IsWrittenStm : Stm → Type 0
IsWrittenStm (typedef p n t) = IsWritten t
IsWrittenStm (table n f) = IsWrittenTable n f
IsWrittenStm _ = ⊤

abbrev pub AreWrittenStms : Stms → Type 0
AreWrittenStms no_stms = ⊤
AreWrittenStms (stm s ss) = IsWrittenStm s × AreWrittenStms ss

-- ---- what is read has such names, where each name token is spelled by one

module _ (text : Spelling) (names : (p : Place) (start len : ℕ) → HasName (text (token kinds.Name p start len))) where
  named : {n : Ident} {ts rest : List Token} → AtName text n ts rest → HasName n.text
  named {n} h = subst HasName (sym h.spelled) (names n.place h.start h.len)

  maybe_shorter : (n : Option Ident) (ts rest : List Token) → ReadsName text n ts rest → length rest ≤ length ts
  maybe_shorter None ts rest h = omega (arith, ap length h.0)
  maybe_shorter (Some n) ts rest h = omega (arith, name_length h)

  -- tokens of which there are few
  abbrev AreFew : List Token → Type 0
  AreFew ts = IsShort (length ts)

  mutual
    unfolding ReadsType

    type_written : (t : Typ) (ts rest : List Token) → ReadsType text t ts rest → AreFew ts → IsWritten t
    type_written (basic p b) ts rest h few = tt
    type_written (type_name n) ts rest h few = tt
    type_written (array p t) ts rest h few =
        type_written t h.1 rest h.4 (omega (arith, few, at_length h.2, is_length h.3))
    type_written (map_type p l k v) ts rest h few =
        let label = label_shorter text l h.1 h.2 h.8 in
        let first = type_shorter text k h.2 h.3 h.9 in (
          type_written k h.2 h.3 h.9 (omega (arith, few, at_length h.6, is_length h.7, label)),
          type_written v h.5 rest h.12
              (omega (arith, few, at_length h.6, is_length h.7, label, first, is_length h.10, is_length h.11)),
        )
    type_written (tuple p ps) ts rest h few =
        let inner : AreFew h.0 = omega (arith, few, at_length h.2) in
        let parts = params_written ps h.0 h.1 h.3 inner in
        (omega (arith, inner, parts.1), parts.0)
    type_written (proto p fs) ts rest h few =
        let inner : AreFew h.1 = omega (arith, few, at_length h.3, is_length h.4) in
        let fields = fields_written fs h.1 h.2 h.5 inner in
        (omega (arith, inner, fields.1), fields.0)

    params_written : (ps : Params) (ts rest : List Token) → ReadsParams text ps ts rest → AreFew ts
        → AreWritten ps × (parts_in ps ≤ length ts)
    params_written no_params ts rest h few = absurd h
    params_written (param n t ps) ts rest h few =
        let first = type_shorter text t h.1 h.2 h.5 in
        let here = type_written t h.1 h.2 h.5 (omega (arith, few, name_length h.3, is_length h.4)) in
        let more = more_params_written ps h.2 rest h.6 (omega (arith, few, name_length h.3, is_length h.4, first)) in
        ((named h.3, here, more.0), omega (arith, more.1, name_length h.3, is_length h.4, first))

    more_params_written : (ps : Params) (ts rest : List Token) → ReadsMoreParams text ps ts rest → AreFew ts
        → AreWritten ps × (parts_in ps ≤ length ts)
    more_params_written no_params ts rest h few = (tt, omega arith)
    more_params_written (param n t ps) ts rest h few =
        let first = type_shorter text t h.2 h.3 h.7 in
        let here = type_written t h.2 h.3 h.7 (omega (arith, few, is_length h.4, name_length h.5, is_length h.6)) in
        let more = more_params_written ps h.3 rest h.8
        (omega (arith, few, is_length h.4, name_length h.5, is_length h.6, first)) in
        ((named h.5, here, more.0), omega (arith, more.1, is_length h.4, name_length h.5, is_length h.6, first))

    fields_written : (fs : Fields) (ts rest : List Token) → ReadsFields text fs ts rest → AreFew ts
        → FieldsAreWritten fs × (fields_in fs ≤ length ts)
    fields_written no_fields ts rest h few = absurd h
    fields_written (proto_field n t k l fs) ts rest h few =
        let first = type_shorter text t h.1 h.2 h.8 in
        let label = maybe_shorter l h.4 h.5 h.11 in
        let here = type_written t h.1 h.2 h.8 (omega (arith, few, name_length h.6, is_length h.7)) in
        let less : suc (length h.5) ≤ length ts =
        omega (arith, name_length h.6, is_length h.7, first, is_length h.9, is_length h.10, label) in
        let more = more_fields_written fs h.5 rest h.12 (omega (arith, few, less)) in
        ((named h.6, here, more.0), omega (arith, more.1, less))

    more_fields_written : (fs : Fields) (ts rest : List Token) → ReadsMoreFields text fs ts rest → AreFew ts
        → FieldsAreWritten fs × (fields_in fs ≤ length ts)
    more_fields_written no_fields ts rest h few = (tt, omega arith)
    more_fields_written (proto_field n t k l fs) ts rest h few =
        let first = type_shorter text t h.2 h.3 h.10 in
        let label = maybe_shorter l h.5 h.6 h.13 in
        let here = type_written t h.2 h.3 h.10 (omega (arith, few, is_length h.7, name_length h.8, is_length h.9)) in
        let less : suc (length h.6) ≤ length ts =
        omega (arith, is_length h.7, name_length h.8, is_length h.9, first, is_length h.11, is_length h.12, label) in
        let more = more_fields_written fs h.6 rest h.14 (omega (arith, few, less)) in
        ((named h.8, here, more.0), omega (arith, more.1, less))

  -- ---- tables

  elem_written : (e : ElemForm) (ts rest : List Token) → ReadsElem text e ts rest → AreFew ts → IsWritten e.of
  unfolding ReadsElem
  elem_written e ts rest h few =
      type_written e.of h.0 rest h.2 (omega (arith, few, label_shorter text e.name ts h.0 h.1))

  index_shorter : (e : ElemForm) (ts rest : List Token) → ReadsTableIndex text e ts rest → length rest < length ts
  unfolding ReadsElem
  index_shorter e ts rest h =
      omega (
        arith,
        is_length h.2,
        label_shorter text e.name h.0 h.3.0 h.3.1,
        type_shorter text e.of h.3.0 h.1 h.3.2,
        is_length h.4,
      )

  indexes_written : (es : List ElemForm) (ts rest : List Token) → Many (ReadsTableIndex text) es ts rest → AreFew ts
      → AllByRecursion (λ (e : ElemForm). IsWritten e.of) es × (length es ≤ length ts)
  unfolding Many
  indexes_written [] ts rest h few = (tt, omega arith)
  indexes_written (e ∷ es) ts rest h few =
      let shorter = index_shorter e ts h.0 h.1 in
      let more = indexes_written es h.0 rest h.2 (omega (arith, few, shorter)) in
      ((elem_written e h.1.0 h.1.1 h.1.3 (omega (arith, few, is_length h.1.2)), more.0), omega (arith, more.1, shorter))

  argument_shorter : (n : Option ℤ) (ts rest : List Token) → Perhaps ReadsArgument n ts rest → length rest ≤ length ts
  argument_shorter None ts rest h = omega (arith, ap length h)
  argument_shorter (Some n) ts rest h = omega (arith, is_length h.2, is_length h.3, is_length h.4)

  table_written : (n : Ident) (f : TableForm) (ts rest : List Token) → ReadsStm text (table n f) ts rest → AreFew ts
      → IsWrittenTable n f
  unfolding ReadsStm ReadsTable
  table_written n f ts rest h few =
      let form = h.6 in
      let word = form.6 in
      let front : length form.1 < length ts =
      omega (
        arith,
        name_length h.3,
        is_length h.4,
        is_length h.5,
        name_length word,
        argument_shorter f.argument form.0 form.1 form.7,
      ) in
      let indexes = indexes_written f.indexes form.1 form.2 form.8 (omega (arith, few, front)) in
      let shorter = many_fewer (ReadsTableIndex text) index_shorter f.indexes form.1 form.2 form.8 in
      record {
        name = named h.3;
        few = omega (arith, few, front, indexes.1);
        indexes = indexes.0;
        element = elem_written f.of form.3 form.4 form.10 (omega (arith, few, front, shorter, is_length form.9));
      }

  stm_written : (s : Stm) (ts rest : List Token) → ReadsStm text s ts rest → AreFew ts → IsWrittenStm s
  unfolding ReadsStm
  stm_written (typedef p n t) ts rest h few =
      type_written t h.2 h.3 h.7 (omega (arith, few, at_length h.4, name_length h.5, is_length h.6))
  stm_written (table n f) ts rest h few = table_written n f ts rest h few
  stm_written _ ts rest h few = tt

-- of statements that are read by one spelling, where another that agrees with it on their tokens spells each name
-- token by a name
module _ (text other : Spelling)
    (names : (p : Place) (start len : ℕ) → HasName (other (token kinds.Name p start len))) where
  pub stms_written : (ss : Stms) (ts rest : List Token) → ReadsStms text ss ts rest → Agree text other ts
      → IsShort (length ts) → AreWrittenStms ss
  unfolding ReadsStm
  stms_written no_stms ts rest h agree few = tt
  stms_written (stm s ss) ts rest h agree few =
      let first = stm_alike text other s ts h.0 h.1 agree in (
        stm_written other names s ts h.0 first.0 few,
        stms_written ss h.0 rest h.2 first.1 (omega (arith, few, stm_shorter text s ts h.0 h.1)),
      )
