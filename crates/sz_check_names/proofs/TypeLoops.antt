-- Turns of the loops over parts of tuples and fields of messages.
use Rattle.std.proofs.Common.{◌≡◌, ℕ, ◌+◌, ◌<◌, ◌≤◌, Bool, true, false, List, [], ◌∷◌, ◌++◌, length, get_or, drop, map, refl, ap, ◌∙◌}
use Rattle.std.specs.Prelude.{Ok, Err, if◌then◌else◌, Option, Some, None}
use Rattle.sz_types.specs.Data.{Shape, FieldShape, field, FieldShapes, no_fields, with_field, fields_of as shapes_of}
use Rattle.sz_types.specs.declared.encoding.Encoding.TheVariants.{Plain}
use Rattle.sz_tree.specs.declared.types.Param.{Param}
use Rattle.sz_tree.specs.declared.types.ProtoField.{ProtoField}
use Rattle.sz_tree.specs.Names.{Ident}
use Rattle.sz_tree.specs.Types.{params_of, fields_of}
use Rattle.sz_tree.specs.View.{param_of, field_of, type_of}
use Rattle.sz_check_rules.specs.Refusals.{Judged, ◌>>=◌, bad_field, has_name}
use Rattle.sz_check_rules.specs.Names.{Block}
use Rattle.sz_check_rules.specs.JudgingTypes.{judge_type, judge_parts, judge_fields, Coding, coded, coding_of, field_number, encoding_of}
use Rattle.sz_check_names.specs.Turns.{following, put_all}
use Rattle.sz_check_names.specs.Parts.{name_of, number_of, free_name, free_coding, judge_part, judge_field}
use Rattle.sz_check_names.specs.Outcome.{Stops}
use Rattle.sz_check_names.specs.declared.error.JudgeError.{JudgeError}
use Rattle.sz_check_names.proofs.TurnLemmas.{turn_fails, turn_goes, turn_ends}
use Rattle.sz_types.proofs.ForCallers.{rest_more, rest_none}

put_fields : (fs : List FieldShape) → put_all with_field fs no_fields ≡ shapes_of fs
put_fields [] = refl
put_fields (f ∷ fs) = ap (with_field f) (put_fields fs)

part_then : (n : Ident) (j : Judged Shape) (b : Bool) (rest : List ℕ → Judged FieldShapes)
    → (j >>= λ part. if b then bad_field n else (rest n.text >>= λ fs. Ok (with_field (field n.text part 0 Plain) fs)))
    ≡ ((j >>= λ part. (if b then bad_field n else Ok n.text) >>= λ name. Ok (field name part 0 Plain))
    >>= λ f. rest (name_of f) >>= λ fs. Ok (with_field f fs))
part_then n (Ok part) true rest = refl
part_then n (Ok part) false rest = refl
part_then n (Err r) b rest = refl

field_then : (n : Ident) (taken : List (List ℕ)) (j : Judged Shape) (code : Shape → Option Coding)
    (rest : List ℕ → ℕ → Judged FieldShapes) → (j >>= λ part. coded n taken (code part) >>= λ c. rest n.text c.number
    >>= λ fs. Ok (with_field (field n.text part c.number c.code) fs))
    ≡ ((j >>= λ part. free_coding n (code part) >>= λ c. free_name n taken
    >>= λ name. Ok (field name part c.number c.code))
    >>= λ f. rest (name_of f) (number_of f) >>= λ fs. Ok (with_field f fs))
field_then n taken (Err r) code rest = refl
field_then n taken (Ok part) code rest = coded_then (code part)
  where
    coded_then : (d : Option Coding)
        → (coded n taken d >>= λ c. rest n.text c.number
        >>= λ fs. Ok (with_field (field n.text part c.number c.code) fs))
        ≡ ((free_coding n d >>= λ c. free_name n taken >>= λ name. Ok (field name part c.number c.code))
        >>= λ f. rest (name_of f) (number_of f) >>= λ fs. Ok (with_field f fs))
    coded_then None = refl
    coded_then (Some c) = named (has_name n.text taken)
      where
        named : (b : Bool)
            → ((if b then bad_field n else Ok c) >>= λ c. rest n.text c.number
            >>= λ fs. Ok (with_field (field n.text part c.number c.code) fs))
            ≡ (((if b then bad_field n else Ok n.text) >>= λ name. Ok (field name part c.number c.code))
            >>= λ f. rest (name_of f) (number_of f) >>= λ fs. Ok (with_field f fs))
        named true = refl
        named false = refl

module _ (blocks : List Block) (ps : List Param) where
  -- the parts from a place on, after parts with these names
  abbrev pub parts_from : List (List ℕ) → ℕ → Judged FieldShapes
  parts_from taken i = judge_parts blocks taken (params_of (map param_of (drop i ps)))

  parts_turn : (taken : List (List ℕ)) (i : ℕ) (p : Param) → i < length ps → p ≡ get_or ps i p
      → parts_from taken i ≡ (judge_part blocks taken p.name (type_of p.of)
      >>= λ f. parts_from (name_of f ∷ taken) (i + 1) >>= λ fs. Ok (with_field f fs))
  unfolding judge_parts
  parts_turn taken i p within is =
      rw (rest_more param_of ps i p within is)
      (part_then p.name (judge_type blocks (type_of p.of)) (has_name p.name.text taken)
      (λ name. parts_from (name ∷ taken) (i + 1)))

  pub parts_fails : (front : List FieldShape) (taken : List (List ℕ)) (i : ℕ) (p : Param) (r : JudgeError)
      (whole : Judged FieldShapes) → i < length ps → p ≡ get_or ps i p
      → Stops r (judge_part blocks taken p.name (type_of p.of))
      → following with_field front (parts_from taken i) ≡ whole → Stops r whole
  parts_fails front taken i p r whole within is h so_far =
      turn_fails with_field front r _ _ _ whole (parts_turn taken i p within is) h so_far

  pub parts_goes : (front : List FieldShape) (taken more : List (List ℕ)) (i : ℕ) (p : Param) (f : FieldShape)
      (whole : Judged FieldShapes) → i < length ps → p ≡ get_or ps i p
      → judge_part blocks taken p.name (type_of p.of) ≡ Ok f → more ≡ name_of f ∷ taken
      → following with_field front (parts_from taken i) ≡ whole
      → following with_field (front ++ f ∷ []) (parts_from more (i + 1)) ≡ whole
  parts_goes front taken more i p f whole within is h added so_far =
      ap (λ (names : List (List ℕ)). following with_field (front ++ f ∷ []) (parts_from names (i + 1))) added
      ∙ turn_goes with_field front f _ (λ g. parts_from (name_of g ∷ taken) (i + 1)) _ whole
      (parts_turn taken i p within is) h so_far

  pub parts_ends : (front : List FieldShape) (taken : List (List ℕ)) (i : ℕ) (whole : Judged FieldShapes)
      → length ps ≤ i → following with_field front (parts_from taken i) ≡ whole → whole ≡ Ok (shapes_of front)
  unfolding judge_parts
  parts_ends front taken i whole over so_far =
      turn_ends with_field front no_fields _ whole (rw (rest_none param_of ps i over) refl) so_far
      ∙ ap (λ (fs : FieldShapes). Ok fs) (put_fields front)

module _ (blocks : List Block) (ps : List ProtoField) where
  -- the fields from a place on, after fields with these names and numbers
  abbrev pub fields_from : List (List ℕ) → List ℕ → ℕ → Judged FieldShapes
  fields_from taken used i = judge_fields blocks taken used (fields_of (map field_of (drop i ps)))

  fields_turn : (taken : List (List ℕ)) (used : List ℕ) (i : ℕ) (p : ProtoField) → i < length ps → p ≡ get_or ps i p
      → fields_from taken used i
      ≡ (judge_field blocks taken used (field_of p)
      >>= λ f. fields_from (name_of f ∷ taken) (number_of f ∷ used) (i + 1) >>= λ fs. Ok (with_field f fs))
  unfolding judge_fields
  fields_turn taken used i p within is =
      rw (rest_more field_of ps i p within is)
      (field_then p.name taken (judge_type blocks (type_of p.of))
      (λ part. coding_of used part (field_number p.number) (encoding_of p.label))
      (λ name number. fields_from (name ∷ taken) (number ∷ used) (i + 1)))

  pub fields_fails : (front : List FieldShape) (taken : List (List ℕ)) (used : List ℕ) (i : ℕ) (p : ProtoField)
      (r : JudgeError) (whole : Judged FieldShapes)
      → i < length ps → p ≡ get_or ps i p → Stops r (judge_field blocks taken used (field_of p))
      → following with_field front (fields_from taken used i) ≡ whole → Stops r whole
  fields_fails front taken used i p r whole within is h so_far =
      turn_fails with_field front r _ _ _ whole (fields_turn taken used i p within is) h so_far

  pub fields_goes : (front : List FieldShape) (taken more : List (List ℕ)) (used others : List ℕ) (i : ℕ)
      (p : ProtoField) (f : FieldShape) (whole : Judged FieldShapes) → i < length ps → p ≡ get_or ps i p
      → judge_field blocks taken used (field_of p) ≡ Ok f → more ≡ name_of f ∷ taken → others ≡ number_of f ∷ used
      → following with_field front (fields_from taken used i) ≡ whole
      → following with_field (front ++ f ∷ []) (fields_from more others (i + 1)) ≡ whole
  fields_goes front taken more used others i p f whole within is h added counted so_far =
      (λ i'. following with_field (front ++ f ∷ []) (fields_from (added i') (counted i') (i + 1)))
      ∙ turn_goes with_field front f _ (λ g. fields_from (name_of g ∷ taken) (number_of g ∷ used) (i + 1)) _ whole
      (fields_turn taken used i p within is) h so_far

  pub fields_ends : (front : List FieldShape) (taken : List (List ℕ)) (used : List ℕ) (i : ℕ)
      (whole : Judged FieldShapes) → length ps ≤ i
      → following with_field front (fields_from taken used i) ≡ whole → whole ≡ Ok (shapes_of front)
  unfolding judge_fields
  fields_ends front taken used i whole over so_far =
      turn_ends with_field front no_fields _ whole (rw (rest_none field_of ps i over) refl) so_far
      ∙ ap (λ (fs : FieldShapes). Ok fs) (put_fields front)
