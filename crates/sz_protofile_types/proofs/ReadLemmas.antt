-- What is found decides what a file is answered with.
use Rattle.std.proofs.Common.{◌≡◌, ℕ, List, Some, None, sym, ap, subst, ◌∙◌, arith}
use Rattle.sz_protofile.specs.declared.line.Line.{Line}
use Rattle.sz_protofile.specs.declared.fault.Fault.{Fault}
use Rattle.sz_protofile.specs.Names.{spelled}
use Rattle.sz_types.specs.Data.{Shape}
use Rattle.sz_protofile.specs.Types.{TypeShape, AreTypes, named, total, IsSound, HasTypes, IsFaulty, IsRefused, faulty, large, refused_at, first_place}
use Rattle.sz_protofile_names.specs.declared.error.ProtoError.{ProtoError}
use Rattle.sz_protofile_names.specs.declared.error.ProtoError.TheVariants as errors
use Rattle.sz_protofile_names.specs.Outcome.{OrNoMemory}
use Rattle.sz_protofile_types.specs.Making.{AreFound}

abbrev no_memory : ProtoError
no_memory = errors.NoMemory

-- ---- a file that has no lines, or in which something is wrong

pub still_refused : (bytes : List ℕ) (e : ProtoError) → OrNoMemory e (IsFaulty bytes) → OrNoMemory e (IsRefused bytes)
still_refused bytes (errors.Refused n p name) h = faulty _ h
still_refused bytes errors.NoMemory h = tt

-- ---- a file with these lines

module _ (bytes : List ℕ) (all : List Line) (sound : IsSound bytes all)
    (only : (other : List Line) → IsSound bytes other → all ≡ other)
    (never : (f : Fault) → IsFaulty bytes f → ⊥) where
  pub has_types : (types : List TypeShape) → AreFound (spelled bytes) all (Some types) → HasTypes bytes types
  has_types types h = record {
    all = all;
    sound = sound;
    types = h.found.0;
    are = h.found.1;
    within = h.found.2;
    answer_is = h.found.3;
  }

  pub only_types : (types : List TypeShape) → AreFound (spelled bytes) all (Some types) → (other : List TypeShape)
      → HasTypes bytes other → types ≡ other
  only_types types h other o =
      let lines_are = only o.all o.sound in
      subst (λ (l : List Line). types ≡ named_by l o.types) lines_are
      (h.found.3 ∙ (h.one h.found.0 o.types h.found.1
      (subst (λ (l : List Line). AreTypes (spelled bytes) l o.types) (sym lines_are) o.are)).0)
      ∙ sym o.answer_is
    where
      named_by : List Line → (List ℕ → Shape) → List TypeShape
      named_by l t = named (spelled bytes) l t

  pub not_refused : (types : List TypeShape) → AreFound (spelled bytes) all (Some types) → (f : Fault)
      → IsRefused bytes f → ⊥
  not_refused types h f (faulty g w) = never g w
  not_refused types h f (large other s l) =
      let lines_are = only other s in
      let m = l h.found.0 (subst (λ (x : List Line). AreTypes (spelled bytes) x h.found.0) lines_are h.found.1) in
      let w = h.found.2 in
      let t = ap (λ (x : List Line). total (spelled bytes) x h.found.0) lines_are in
      absurd (omega (arith, m, w, t))

  pub not_found : AreFound (spelled bytes) all None → (other : List TypeShape) → HasTypes bytes other → ⊥
  not_found h other o =
      let lines_are = only o.all o.sound in
      let m = h.none o.types (subst (λ (x : List Line). AreTypes (spelled bytes) x o.types) (sym lines_are) o.are) in
      let w = o.within in
      let t = ap (λ (x : List Line). total (spelled bytes) x o.types) lines_are in
      absurd (omega (arith, m, w, t))

  pub is_large : AreFound (spelled bytes) all None → IsRefused bytes (refused_at 6 first_place)
  is_large h = large all sound h.none
