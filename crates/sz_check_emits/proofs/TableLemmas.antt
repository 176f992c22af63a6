-- Declarations of tables: limits that are too large, types in order, and fields that are whole numbers.
use Rattle.std.proofs.Common.{◌≡◌, ◌≤◌, ◌<◌, ℕ, ◌+◌, Bool, true, false, List, [], ◌∷◌, ◌++◌, length, get_or, drop, map, Option, Some, refl, sym, subst, ap, ◌∙◌}
use Rattle.std.proofs.Common.{nat_eq, arith}
use Rattle.std.specs.Prelude.{Ok, Err, ◌&&◌, if◌then◌else◌, codes, bytes_eq}
use Rattle.std.proofs.lemmas.Bool.{ne_eqb, lt-leb}
use Rattle.sz_types.specs.Data.{Shape}
use Rattle.sz_types.specs.Tables.{Declaration}
use Rattle.sz_types.specs.declared.table.TableKind.{TableKind}
use Rattle.sz_types.specs.declared.table.TableKind.TheVariants.{Sum, Maximum, Minimum, Set, Collection}
use Rattle.sz_tree.specs.declared.stmt.Elem.{Elem}
use Rattle.sz_tree.specs.Names.{Ident}
use Rattle.sz_tree.specs.Statements.{TableForm}
use Rattle.sz_tree.specs.View.{elem_of, type_of}
use Rattle.sz_core.specs.WellFormed.{kind_allows, has_sum, has_no_weight}
use Rattle.sz_check_rules.specs.Refusals.{Judged, ◌>>=◌, bad_table, no_kind, refused_for, has_name, left_out_kinds}
use Rattle.sz_check_rules.specs.declared.cause.Cause.TheVariants.{LeftOut, UnknownName}
use Rattle.sz_check_rules.specs.Names.{Block}
use Rattle.sz_check_rules.specs.JudgingTypes.{judge_type}
use Rattle.sz_check_rules.specs.JudgingPrograms.{kind_of, limit_of, judge_elems, declaration_of, TableTypes, judge_types, judge_table_declaration}
use Rattle.sz_check_names.specs.Turns.{following, put_all}
use Rattle.sz_check_emits.specs.Tabling.{with_type, IsLimit}
use Rattle.sz_check_names.specs.Outcome.{Stops}
use Rattle.sz_check_names.specs.declared.error.JudgeError.{JudgeError}
use Rattle.sz_check_names.specs.declared.error.JudgeError.TheVariants as errors
use Rattle.sz_check_names.proofs.TurnLemmas.{turn_fails, turn_goes, turn_ends}
use Rattle.sz_types.proofs.ForCallers.{rest_more, rest_none}

second_fails : (a b : Bool) → b ≡ false → (a && b) ≡ false
second_fails true b h = h
second_fails false b h = refl

first_fails : (a b : Bool) → a ≡ false → (a && b) ≡ false
first_fails a b h = ap (λ c. c && b) h

no_kind_allows : (k : TableKind) (d : Declaration) → 4294967296 ≤ d.limit → kind_allows k d ≡ false
no_kind_allows Sum d h =
    first_fails (nat_eq d.limit 0 && has_sum d.element) (has_no_weight d.weight)
    (first_fails (nat_eq d.limit 0) (has_sum d.element) (ne_eqb d.limit 0 (λ p. absurd (omega (arith, p, h)))))
no_kind_allows Maximum d h = first_fails _ _ (second_fails _ _ (lt-leb d.limit 10000 (omega (arith, h))))
no_kind_allows Minimum d h = first_fails _ _ (second_fails _ _ (lt-leb d.limit 10000 (omega (arith, h))))
no_kind_allows Set d h = first_fails _ _ (second_fails _ _ (lt-leb d.limit 1000000 (omega (arith, h))))
no_kind_allows Collection d h = first_fails _ _ (ne_eqb d.limit 0 (λ p. absurd (omega (arith, p, h))))

-- no kind has so large a limit
pub too_large : (n word : Ident) (kind : TableKind) (limit : ℕ) (indexes : List Shape) (element : Shape)
    (weight : Option Shape) → 4294967296 ≤ limit
    → declaration_of n word kind (Some limit) indexes element weight ≡ bad_table word.place
too_large n word kind limit indexes element weight h =
    let d : Declaration = record {
      name = n.text;
      kind = kind;
      limit = limit;
      indexes = indexes;
      element = element;
      weight = weight;
    } in
    ap (λ (b : Bool). if b then Ok d else bad_table word.place) (no_kind_allows kind d h)

put_types : (ts : List Shape) → put_all with_type ts [] ≡ ts
put_types [] = refl
put_types (t ∷ ts) = ap (λ (us : List Shape). t ∷ us) (put_types ts)

module _ (blocks : List Block) where
  elems_turn : (es : List Elem) (i : ℕ) (e : Elem) → i < length es → e ≡ get_or es i e
      → judge_elems blocks (map elem_of (drop i es))
      ≡ (judge_type blocks (type_of e.of) >>= λ t. judge_elems blocks (map elem_of (drop (i + 1) es))
      >>= λ ts. Ok (with_type t ts))
  unfolding judge_elems
  elems_turn es i e within is = rw (rest_more elem_of es i e within is) refl

  pub elems_fail : (front : List Shape) (es : List Elem) (i : ℕ) (e : Elem) (r : JudgeError)
      (whole : Judged (List Shape)) → i < length es → e ≡ get_or es i e
      → Stops r (judge_type blocks (type_of e.of))
      → following with_type front (judge_elems blocks (map elem_of (drop i es))) ≡ whole → Stops r whole
  elems_fail front es i e r whole within is h so_far =
      turn_fails with_type front r _ _ _ whole (elems_turn es i e within is) h so_far

  pub elems_go : (front : List Shape) (es : List Elem) (i : ℕ) (e : Elem) (t : Shape) (whole : Judged (List Shape))
      → i < length es → e ≡ get_or es i e → judge_type blocks (type_of e.of) ≡ Ok t
      → following with_type front (judge_elems blocks (map elem_of (drop i es))) ≡ whole
      → following with_type (front ++ t ∷ []) (judge_elems blocks (map elem_of (drop (i + 1) es))) ≡ whole
  elems_go front es i e t whole within is h so_far =
      turn_goes with_type front t _ (λ _. judge_elems blocks (map elem_of (drop (i + 1) es))) _ whole
      (elems_turn es i e within is) h so_far

  pub elems_end : (front : List Shape) (es : List Elem) (i : ℕ) (whole : Judged (List Shape)) → length es ≤ i
      → following with_type front (judge_elems blocks (map elem_of (drop i es))) ≡ whole → whole ≡ Ok front
  unfolding judge_elems
  elems_end front es i whole over so_far =
      turn_ends with_type front [] _ whole (ap (judge_elems blocks) (rest_none elem_of es i over)) so_far
      ∙ ap (λ (ts : List Shape). Ok ts) (put_types front)

-- a wrong limit refuses a declaration
pub wrong_limit : (blocks : List Block) (n : Ident) (f : TableForm) (kind : TableKind) (types : TableTypes)
    (e : JudgeError) → kind_of f.kind ≡ Ok kind → judge_types blocks f ≡ Ok types
    → IsLimit f.kind (limit_of kind f.argument) (Err e) → Stops e (judge_table_declaration blocks n f)
wrong_limit blocks n f kind types e known judged wrong =
    let made : TableKind → TableTypes → Judged Declaration
    = λ k types. declaration_of n f.kind k (limit_of k f.argument) types.indexes types.element types.weight in
    subst (Stops e)
    (sym (ap (λ (j : Judged TableKind). j >>= λ k. judge_types blocks f >>= made k) known
    ∙ ap (λ (j : Judged TableTypes). j >>= made kind) judged)) (wrong n kind types)

-- a refusal of nothing as that of a kind
abbrev as_kind : Judged Unit → Judged TableKind
as_kind (Ok u) = Ok Sum
as_kind (Err r) = Err r

no_kind_is : (n : Ident) → as_kind (no_kind n) ≡ no_kind n
no_kind_is n = by (has_name n.text left_out_kinds)
  where
    by : (b : Bool) → as_kind (if b then refused_for LeftOut n else refused_for UnknownName n)
        ≡ (if b then refused_for LeftOut n else refused_for UnknownName n)
    by true = refl
    by false = refl

-- a word that is none of the five is of no kind
pub none_of_five : (n : Ident) (e : JudgeError) → bytes_eq n.text (codes "sum") ≡ false
    → bytes_eq n.text (codes "maximum") ≡ false → bytes_eq n.text (codes "minimum") ≡ false
    → bytes_eq n.text (codes "set") ≡ false → bytes_eq n.text (codes "collection") ≡ false
    → Stops {Y = Unit} e (no_kind n) → Stops e (kind_of n)
none_of_five n errors.NoMemory a b c d f h = tt
none_of_five n (errors.Refused cause p name) a b c d f h = rw (a, b, c, d, f) (sym (no_kind_is n) ∙ ap as_kind h)
