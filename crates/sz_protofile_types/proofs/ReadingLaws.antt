-- Each file has a reading, and just one.
use Rattle.std.proofs.Common.{◌≡◌, ◌⊎◌, inl, inr, ℕ, Bool, true, false, nat_le, List, Option, Some, None}
use Rattle.std.proofs.Common.{refl, sym, ap, subst, ◌∙◌, arith}
use Rattle.std.proofs.lemmas.Bool.{leb-true, leb-false}
use Rattle.sz_types.specs.declared.place.Place.{Place}
use Rattle.sz_types.specs.Data.{Shape}
use Rattle.sz_protofile.specs.declared.line.Line.{Line}
use Rattle.sz_protofile.specs.Lines.{HasLines}
use Rattle.sz_protofile.specs.Lines as reading
use Rattle.sz_protofile.proofs.LineLemmas.{one_list, not_both, one_place}
use Rattle.sz_protofile.specs.declared.fault.Fault.{Fault}
use Rattle.sz_protofile.specs.Names.{spelled}
use Rattle.sz_protofile.specs.Faults.{file_fault}
use Rattle.sz_protofile.specs.Types.{
  TypeShape,
  AreTypes,
  all_fields,
  total,
  most_fields,
  named,
  IsSound,
  HasTypes,
  IsFaulty,
  syntax,
  wrong,
  IsRefused,
  faulty,
  large,
}
use Rattle.sz_protofile.specs.Types.{refused_at, first_place}
use Rattle.sz_protofile_types.specs.Making.{HaveOneType}
use Rattle.sz_protofile_types.proofs.ForCallers.{one_type}
use Rattle.sz_protofile_types.specs.Readings.{FileReading, bad_file, with_types, IsReading, HasReading}
use Rattle.sz_protofile_types.proofs.PartLaws.{lines_or_place}
use Rattle.sz_protofile_types.proofs.ReachLaws.{by_reached, is_ranking}
use Rattle.sz_protofile_types.proofs.LevelLaws.{types, has_types}

module _ (bytes : List ℕ) where
  abbrev fault_in : List Line → Option Fault
  fault_in all = file_fault (spelled bytes) all

  abbrev size : List Line → (List ℕ → Shape) → ℕ
  size all given = total (spelled bytes) all given

  one : (all : List Line) → HaveOneType (spelled bytes) all
  one all = one_type (spelled bytes) all (by_reached (all_fields (spelled bytes) all))
      (is_ranking (all_fields (spelled bytes) all))

  -- ---- some reading

  sound_read : (all : List Line) → IsSound bytes all → HasReading bytes
  sound_read all sound = by (nat_le (size all given) most_fields) refl
    where
      given : List ℕ → Shape
      given = types (all_fields (spelled bytes) all)

      are : AreTypes (spelled bytes) all given
      are = has_types (spelled bytes) all

      by : (b : Bool) → nat_le (size all given) most_fields ≡ b → HasReading bytes
      by true e = record {
        reading = with_types (named (spelled bytes) all given);
        read = record {
          all = all;
          sound = sound;
          types = given;
          are = are;
          within = leb-true (size all given) most_fields e;
          answer_is = refl;
        };
      }
      by false e = record {
        reading = bad_file (refused_at 6 first_place);
        read = large all sound (λ others t.
            let more = leb-false (size all given) most_fields e in
            let same = (one all others given t are).1 in
            omega (arith, more, same));
      }

  lines_read : (all : List Line) → HasLines bytes all → HasReading bytes
  lines_read all lines = by (fault_in all) refl
    where
      by : (o : Option Fault) → fault_in all ≡ o → HasReading bytes
      by None e = sound_read all (record { lines = lines; sound = e })
      by (Some f) e = record { reading = bad_file f; read = faulty f (wrong all f lines e) }

  pub every_file_is_read : HasReading bytes
  every_file_is_read = by (lines_or_place bytes)
    where
      by : ((all : List Line) × HasLines bytes all) ⊎ ((p : Place) × reading.IsRefused bytes p) → HasReading bytes
      by (inl h) = lines_read h.0 h.1
      by (inr h) = record { reading = bad_file (refused_at 2 h.0); read = faulty (refused_at 2 h.0) (syntax h.0 h.1) }

  -- ---- one reading

  some_is : (f g : Fault) → ◌≡◌ {A = Option Fault} (Some f) (Some g) → f ≡ g
  some_is f g e = cc

  no_fault : (f : Fault) → ◌≡◌ {A = Option Fault} (Some f) None → ⊥
  no_fault f e = absurd cc

  -- a file with which nothing is wrong isn't refused before there are types
  not_faulty : (all : List Line) → IsSound bytes all → (f : Fault) → IsFaulty bytes f → ⊥
  not_faulty all sound _ (syntax p h) = not_both bytes all p sound.lines h
  not_faulty all sound _ (wrong others f lines e) =
      no_fault f (sym e ∙ ap fault_in (one_list bytes others all lines sound.lines) ∙ sound.sound)

  one_faulty : (f g : Fault) → IsFaulty bytes f → IsFaulty bytes g → f ≡ g
  one_faulty _ _ (syntax p h) (syntax q k) = ap (refused_at 2) (one_place bytes p q h k)
  one_faulty _ _ (syntax p h) (wrong all g lines e) = absurd (not_both bytes all p lines h)
  one_faulty _ _ (wrong all f lines e) (syntax q k) = absurd (not_both bytes all q lines k)
  one_faulty _ _ (wrong all f lines e) (wrong others g more d) =
      some_is f g (sym e ∙ ap fault_in (one_list bytes all others lines more) ∙ d)

  one_refusal : (f g : Fault) → IsRefused bytes f → IsRefused bytes g → f ≡ g
  one_refusal _ _ (faulty f h) (faulty g k) = one_faulty f g h k
  one_refusal _ _ (faulty f h) (large all sound more) = absurd (not_faulty all sound f h)
  one_refusal _ _ (large all sound more) (faulty g k) = absurd (not_faulty all sound g k)
  one_refusal _ _ (large all sound more) (large others also most) = refl

  not_refused : (ts : List TypeShape) (f : Fault) → HasTypes bytes ts → IsRefused bytes f → ⊥
  not_refused ts _ h (faulty f k) = not_faulty h.all h.sound f k
  not_refused ts _ h (large all sound more) =
      let same = one_list bytes all h.all sound.lines h.sound.lines in
      let much = more h.types (subst (λ (l : List Line). AreTypes (spelled bytes) l h.types) (sym same) h.are) in
      let little = h.within in
      let alike = ap (λ (l : List Line). size l h.types) same in
      omega (arith, much, little, alike)

  same_types : (ts others : List TypeShape) → HasTypes bytes ts → HasTypes bytes others → ts ≡ others
  same_types ts others h k =
      let same = one_list bytes h.all k.all h.sound.lines k.sound.lines in
      let there = subst (λ (l : List Line). AreTypes (spelled bytes) l h.types) same h.are in
      h.answer_is ∙ ap (λ (l : List Line). named (spelled bytes) l h.types) same
      ∙ (one k.all h.types k.types there k.are).0 ∙ sym k.answer_is

  pub one_reading : (a b : FileReading) → IsReading bytes a → IsReading bytes b → a ≡ b
  one_reading (bad_file f) (bad_file g) h k = ap bad_file (one_refusal f g h k)
  one_reading (bad_file f) (with_types ts) h k = absurd (not_refused ts f k h)
  one_reading (with_types ts) (bad_file f) h k = absurd (not_refused ts f h k)
  one_reading (with_types ts) (with_types others) h k = ap with_types (same_types ts others h k)
