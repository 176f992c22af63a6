-- Each file's messages have types: those of the fields of messages of lower ranks are made first.
use Rattle.std.proofs.Common.{◌≡◌, inl, inr, ℕ, zero, suc, ◌<◌, Bool, true, false, if◌then◌else◌, List, [], ◌∷◌, ◌++◌, length}
use Rattle.std.proofs.Common.{bytes_eq, refl, sym, ap, ◌∙◌, arith}
use Rattle.std.proofs.lemmas.Slice.Eq.{bytes_eq-Decides}
use Rattle.sz_types.specs.Data as data_of
use Rattle.sz_types.specs.Data.{Shape, FieldShape, fields_of}
use Rattle.sz_types.specs.declared.encoding.Encoding.TheVariants as encodings
use Rattle.sz_protofile.specs.Reading.{Spelling}
use Rattle.sz_protofile.specs.declared.line.Line.{Line}
use Rattle.sz_protofile.specs.declared.field.FieldIn.{FieldIn}
use Rattle.sz_protofile.specs.declared.field.Sort.{Sort}
use Rattle.sz_protofile.specs.declared.field.Sort.TheVariants as sorts
use Rattle.sz_protofile.specs.Scalars.{shape_of}
use Rattle.sz_protofile.specs.Fields.{as_field, Adds, nothing, plainly, again, once, Makes, none, own, other}
use Rattle.sz_protofile.specs.Types.{all_fields, AreTypes}
use Rattle.sz_protofile_types.proofs.ForCallers.{makes_same}
use Rattle.sz_protofile_types.proofs.ReachLaws.{Decided, decided, reached, few_reached, is_lower}

module _ (all : List FieldIn) where
  -- what a field adds, where messages have these types
  abbrev once_unless : (List ℕ → Shape) → (f : FieldIn) (m : List ℕ) → Decided all m f.owner → List FieldShape
  once_unless types f m (inl w) = []
  once_unless types f m (inr never) = as_field f (types m) encodings.Plain ∷ []

  abbrev added_as : (List ℕ → Shape) → FieldIn → Sort → List FieldShape
  added_as types f sorts.Unkept = []
  added_as types f (sorts.Kept p) = as_field f (shape_of p.kind) p.code ∷ []
  added_as types f (sorts.Message m) = once_unless types f m (decided all m f.owner)

  adds_once : (types : List ℕ → Shape) (f : FieldIn) (m : List ℕ) → f.sort ≡ sorts.Message m
      → (d : Decided all m f.owner) → Adds all types f (once_unless types f m d)
  adds_once types f m is (inl w) = again m is w
  adds_once types f m is (inr never) = once m is never

  adds : (types : List ℕ → Shape) (f : FieldIn) (s : Sort) → f.sort ≡ s → Adds all types f (added_as types f s)
  adds types f sorts.Unkept is = nothing is
  adds types f (sorts.Kept p) is = plainly p is
  adds types f (sorts.Message m) is = adds_once types f m is (decided all m f.owner)

  -- the fields of a message's type
  unfoldable pub made : (List ℕ → Shape) → List ℕ → List FieldIn → List FieldShape
  made types owner [] = []
  made types owner (f ∷ fields) =
      (if bytes_eq f.owner owner then added_as types f f.sort else []) ++ made types owner fields

  makes : (types : List ℕ → Shape) (owner : List ℕ) (fields : List FieldIn)
      → Makes all types owner fields (made types owner fields)
  unfolding made
  makes types owner [] = none
  makes types owner (f ∷ fields) = by (bytes_eq f.owner owner) refl (makes types owner fields)
    where
      by : (b : Bool) → bytes_eq f.owner owner ≡ b → Makes all types owner fields (made types owner fields)
          → Makes all types owner (f ∷ fields) ((if b then added_as types f f.sort else []) ++ made types owner fields)
      by true e rest = own f fields (added_as types f f.sort) (made types owner fields)
          ((bytes_eq-Decides f.owner owner).0 e) (adds types f f.sort refl) rest
      by false e rest =
          other f fields (made types owner fields)
          (λ is. let d = (bytes_eq-Decides f.owner owner).1 is in let w = sym e ∙ d in absurd cc) rest

  -- the types of messages, where those that lead back no further than so often are whole
  unfoldable pub level : ℕ → List ℕ → Shape
  level zero m = data_of.proto (fields_of [])
  level (suc n) m = data_of.proto (fields_of (made (level n) m all))

  -- a message of a rank below a level has its type there, and one level further the same
  steady : (n : ℕ) (m : List ℕ) → reached all all m < n → level n m ≡ level (suc n) m
  unfolding level
  steady zero m low = absurd (omega (arith, low))
  steady (suc n) m low =
      ap (λ fs. data_of.proto (fields_of fs))
      (makes_same all (level n) (level (suc n)) m all (made (level n) m all) (made (level (suc n)) m all)
      (λ f t c o e never.
      let h = is_lower all f t c e never in
      let same = ap (reached all all) o in
      steady n t (omega (arith, h, same, low)))
      (makes (level n) m all) (makes (level (suc n)) m all))

  -- the types of all messages
  abbrev pub types : List ℕ → Shape
  types = level (suc (length all))

  pub types_are : (m : List ℕ)
      → (fs : List FieldShape) × (Makes all types m all fs) × (types m ≡ data_of.proto (fields_of fs))
  unfolding level
  types_are m =
      let few = few_reached all all m in
      (made types m all, makes types m all, steady (suc (length all)) m (omega (arith, few)))

-- the messages of the file with these lines have types
pub has_types : (text : Spelling) (lines : List Line) → AreTypes text lines (types (all_fields text lines))
has_types text lines s c = types_are (all_fields text lines) s.full
