-- What is seen of each kind of type, and of fields.
use Rattle.std.proofs.Common.{◌≡◌, ◌<◌, ℕ, zero, suc, List, [], ◌∷◌, length, get_or, map, Some, arith, sym, ap, ◌∙◌, Box, Global}
use Rattle.std.specs.Prelude.{slice_get}
use Rattle.sz_types.specs.Data.{Shape, truth, int, time, str, bytes, array, mapping, tuple, proto, FieldShape, fields_of}
use Rattle.sz_types.specs.Seen.{seen, seen_field, seen_fields, ty_step, field_step, fields_step}
use Rattle.sz_types.specs.declared.ty.Ty.{Ty, fold-roll-Ty, roll-Ty, map-Ty}
use Rattle.sz_types.specs.declared.ty.Ty.TheOpen.{Ty-F}
use Rattle.sz_types.specs.declared.ty.Ty.TheVariants.{Bool, Int, Time, Str, Bytes, Array, Map, Tuple, Proto, rolls-Bool, rolls-Int, rolls-Time, rolls-Str, rolls-Bytes, rolls-Array, rolls-Map, rolls-Tuple, rolls-Proto}
use Rattle.sz_types.specs.declared.ty.Field.{Field, fold-Field, fold_out-Field}
use Rattle.sz_types.specs.declared.ty.Fields.{Fields, out-Fields, fold_out-Fields}

-- the box with this pointer and allocator around a type
abbrev pub box_of : Box (Unit {0}) Global → Ty → Box Ty Global
box_of p t = record { ptr = p.ptr; alloc = p.alloc; value = t }

-- the data of a field by the fold
field_folds : (f : Field)
    → fold-Field Shape FieldShape (List FieldShape) ty_step field_step fields_step f ≡ seen_field f
field_folds = fold_out-Field Shape FieldShape (List FieldShape) ty_step field_step fields_step

-- fields are seen as the list of what is seen of each
pub fields_seen : (fs : Fields) → seen_fields fs ≡ map seen_field (out-Fields fs).fields.value.items
fields_seen fs =
    fold_out-Fields Shape FieldShape (List FieldShape) ty_step field_step fields_step fs
    ∙ (λ i. map (λ f. field_folds f i) (out-Fields fs).fields.value.items)

-- a type is seen by its one level
levels : (x : Ty-F Ty Field Fields)
    → seen (roll-Ty x) ≡ ty_step (map-Ty Ty Field Fields Shape FieldShape (List FieldShape) seen
    (fold-Field Shape FieldShape (List FieldShape) ty_step field_step fields_step) seen_fields x)
levels = fold-roll-Ty Shape FieldShape (List FieldShape) ty_step field_step fields_step

pub seen_bool : seen Bool ≡ truth
seen_bool = ap seen (sym rolls-Bool) ∙ levels Ty-F.Bool

pub seen_int : seen Int ≡ int
seen_int = ap seen (sym rolls-Int) ∙ levels Ty-F.Int

pub seen_time : seen Time ≡ time
seen_time = ap seen (sym rolls-Time) ∙ levels Ty-F.Time

pub seen_str : seen Str ≡ str
seen_str = ap seen (sym rolls-Str) ∙ levels Ty-F.Str

pub seen_bytes : seen Bytes ≡ bytes
seen_bytes = ap seen (sym rolls-Bytes) ∙ levels Ty-F.Bytes

pub seen_array : (element : Box Ty Global) → seen (Array element) ≡ array (seen element.value)
seen_array element = ap seen (sym (rolls-Array element)) ∙ levels (Ty-F.Array element)

pub seen_map : (key value : Box Ty Global) → seen (Map key value) ≡ mapping (seen key.value) (seen value.value)
seen_map key value = ap seen (sym (rolls-Map key value)) ∙ levels (Ty-F.Map key value)

pub seen_tuple : (fields : Fields) → seen (Tuple fields) ≡ tuple (fields_of (seen_fields fields))
seen_tuple fields = ap seen (sym (rolls-Tuple fields)) ∙ levels (Ty-F.Tuple fields)

pub seen_proto : (fields : Fields) → seen (Proto fields) ≡ proto (fields_of (seen_fields fields))
seen_proto fields = ap seen (sym (rolls-Proto fields)) ∙ levels (Ty-F.Proto fields)

-- the field at a place is seen at that place
pub field_at : (fs : List Field) (i : ℕ) (f : Field) → f ≡ get_or fs i f → i < length (map seen_field fs)
    → slice_get (map seen_field fs) i ≡ Some (seen_field f)
field_at [] i f is within = absurd (omega (arith, within))
field_at (g ∷ fs) zero f is within = ap (λ h. Some (seen_field h)) (sym is)
field_at (g ∷ fs) (suc i) f is within = field_at fs i f is (omega (arith, within))
