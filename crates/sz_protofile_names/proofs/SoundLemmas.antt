-- A file has one list of lines and one first fault, so what a call says of its answer decides all answers.
use Rattle.std.proofs.Common.{◌≡◌, ℕ, List, Option, Some, None, ap, ◌∙◌}
use Rattle.sz_types.specs.declared.place.Place.{Place}
use Rattle.sz_protofile.specs.declared.line.Line.{Line}
use Rattle.sz_protofile.specs.declared.error.FileError.{FileError}
use Rattle.sz_protofile.specs.declared.error.FileError.TheVariants as reading
use Rattle.sz_protofile.specs.Lines as file
use Rattle.sz_protofile.specs.Lines.{HasLines}
use Rattle.sz_protofile.specs.declared.fault.Fault.{Fault}
use Rattle.sz_protofile.specs.Names.{spelled}
use Rattle.sz_protofile.specs.Faults.{file_fault}
use Rattle.sz_protofile.specs.Types.{IsSound, IsFaulty, syntax, wrong, refused_at}
use Rattle.sz_protofile_names.specs.Outcome.{refusal, file_refusal, OrNoMemory}

abbrev some : Fault → Option Fault
some f = Some f

abbrev nothing : Option Fault
nothing = None

pub some_is : {f g : Fault} → some f ≡ some g → f ≡ g
some_is e = cc

pub no_some : {f : Fault} → some f ≡ nothing → ⊥
no_some e = absurd cc

pub or_fault : (P : Fault → Type 0) (f : Fault) → P f → OrNoMemory (refusal f) P
or_fault P f h = h

-- ---- a file that has no lines

pub faulty : (bytes : List ℕ) (e : FileError) → file.OrNoMemory e (file.IsRefused bytes)
    → OrNoMemory (file_refusal e) (IsFaulty bytes)
faulty bytes (reading.Syntax p) h = syntax p h
faulty bytes reading.NoMemory h = tt

pub only_faulty : (bytes : List ℕ) (e : FileError) → ((all : List Line) → HasLines bytes all → e ≡ reading.NoMemory)
    → ((p : Place) → file.IsRefused bytes p → file.OrNoMemory e (λ q. q ≡ p)) → (f : Fault) → IsFaulty bytes f
    → OrNoMemory (file_refusal e) (λ g. g ≡ f)
only_faulty bytes (reading.Syntax q) none only f (syntax p h) = ap (refused_at 2) (only p h)
only_faulty bytes (reading.Syntax q) none only f (wrong all g h e) = absurd (let n = none all h in absurd cc)
only_faulty bytes reading.NoMemory none only f h = tt

-- ---- a file that has these lines, and this first fault or none

module _ (bytes : List ℕ) (all : List Line) (o : Option Fault) (is : o ≡ file_fault (spelled bytes) all)
    (only : (other : List Line) → HasLines bytes other → all ≡ other)
    (never : (p : Place) → file.IsRefused bytes p → ⊥) where
  pub same_fault : (f : Fault) → IsFaulty bytes f → o ≡ Some f
  same_fault f (syntax p h) = absurd (never p h)
  same_fault f (wrong other g h e) = is ∙ ap (file_fault (spelled bytes)) (only other h) ∙ e

  pub sound_none : (other : List Line) → IsSound bytes other → o ≡ None
  sound_none other s = is ∙ ap (file_fault (spelled bytes)) (only other s.lines) ∙ s.sound
