-- Fields that are found by their names, and what a change by one gives.
use Rattle.std.proofs.Common.{◌≡◌, ℕ, suc, ◌+◌, Bool, true, false, List, Option, Some, None, refl, ap, ◌∙◌, arith}
use Rattle.std.specs.Prelude.{if◌then◌else◌, slice_get, IfSome, bytes_eq}
use Rattle.sz_types.specs.Data.{Shape, FieldShapes, no_fields, with_field, field}
use Rattle.sz_types.specs.Rows.{sum_row, difference_row}
use Rattle.sz_core.specs.Typing.{HasFields, field_types}
use Rattle.sz_check_rules.specs.Agreeing.{Found, field_named}
use Rattle.sz_check_rules.specs.JudgingParts.{fields_in}

-- where a field with this name is, if it is there
record IsNamed (at : ℕ) (fs : FieldShapes) (x : Found) : Type 0 where
  following : ℕ
  place : x.place ≡ at + following
  here : slice_get (field_types fs) following ≡ Some x.type

named_at : (name : List ℕ) (at : ℕ) (fs : FieldShapes) → IfSome (field_named name at fs) (IsNamed at fs)
named_at name at no_fields = tt
named_at name at (with_field (field other t number code) fs) =
    next (bytes_eq name other) (field_named name (1 + at) fs) (named_at name (1 + at) fs)
  where
    whole : FieldShapes
    whole = with_field (field other t number code) fs

    later : (o : Option Found) → IfSome o (IsNamed (1 + at) fs) → IfSome o (IsNamed at whole)
    later None h = tt
    later (Some x) h = record { following = suc h.following; place = h.place ∙ omega arith; here = h.here }

    next : (b : Bool) (o : Option Found) → IfSome o (IsNamed (1 + at) fs)
        → IfSome (if b then Some (record { place = at; type = t }) else o) (IsNamed at whole)
    next true o h = record { following = 0; place = omega arith; here = refl }
    next false o h = later o h

-- a field with its place and type
pub record IsFieldOf (fs : FieldShapes) (x : Found) : Type 0 where
  pub here : slice_get (field_types fs) x.place ≡ Some x.type

-- a field that is found by its name
pub named_field : (name : List ℕ) (fs : FieldShapes) → IfSome (field_named name 0 fs) (IsFieldOf fs)
named_field name fs = from (field_named name 0 fs) (named_at name 0 fs)
  where
    from : (o : Option Found) → IfSome o (IsNamed 0 fs) → IfSome o (IsFieldOf fs)
    from None h = tt
    from (Some x) h =
        let same : x.place ≡ h.following = omega (arith, h.place) in
        record { here = ap (λ k. slice_get (field_types fs) k) same ∙ h.here }

-- the fields that are found are those of the type
pub has_fields : (t : Shape) → IfSome (fields_in t) (HasFields t)
has_fields (Shape.tuple fs) = refl
has_fields (Shape.proto fs) = refl
has_fields _ = tt

-- a row for a change by one gives the type that it takes
pub sum_keeps : (t : Shape) → IfSome (sum_row t Shape.int) (λ u. u ≡ t)
sum_keeps Shape.int = refl
sum_keeps Shape.time = refl
sum_keeps _ = tt

pub difference_keeps : (t : Shape) → IfSome (difference_row t Shape.int) (λ u. u ≡ t)
difference_keeps Shape.int = refl
difference_keeps Shape.time = refl
difference_keeps _ = tt
