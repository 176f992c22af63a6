-- How the logic stores the plain data of types and of declarations: what the models of their lists have to give.
use Rattle.std.specs.Prelude.{◌≡◌, ℕ, zero, suc, List, Option}
use Rattle.std.proofs.Common.{refl, ap, arith}
use Rattle.std.specs.Coded.{Coded, code_by, coded_ℕ, coded_list, coded_option, coded×}
use base.Stored.{Gv, gnil, gnum, gcons, num}
use Rattle.sz_types.specs.Data.{Shape, truth, int, time, str, bytes, array, mapping, tuple, proto, FieldShape, field, FieldShapes, no_fields, with_field}
use Rattle.sz_types.specs.Same.{encoding_number}
use Rattle.sz_types.specs.Tables.{Declaration}
use Rattle.sz_types.specs.declared.encoding.Encoding.{Encoding}
use Rattle.sz_types.specs.declared.encoding.Encoding.TheVariants.{Plain, Zigzag, Fixed32, Fixed64}
use Rattle.sz_types.specs.declared.table.TableKind.{TableKind}
use Rattle.sz_types.specs.declared.table.TableKind.TheVariants.{Sum, Maximum, Minimum, Set, Collection}

abbrev coded_letters : Coded (List ℕ)
coded_letters = coded_list coded_ℕ

abbrev mutual
  pub shape_tree : Shape → Gv
  shape_tree truth = gnum 0
  shape_tree int = gnum 1
  shape_tree time = gnum 2
  shape_tree str = gnum 3
  shape_tree bytes = gnum 4
  shape_tree (array s) = gcons (gnum 5) (shape_tree s)
  shape_tree (mapping k v) = gcons (gnum 6) (gcons (shape_tree k) (shape_tree v))
  shape_tree (tuple fs) = gcons (gnum 7) (fields_tree fs)
  shape_tree (proto fs) = gcons (gnum 8) (fields_tree fs)

  field_tree : FieldShape → Gv
  field_tree (field name s number code) =
      gcons (coded_letters.code name) (gcons (shape_tree s) (gcons (gnum number) (gnum (encoding_number code))))

  fields_tree : FieldShapes → Gv
  fields_tree no_fields = gnil
  fields_tree (with_field f fs) = gcons (field_tree f) (fields_tree fs)

-- the first part of a pair, else the tree itself
abbrev head : Gv → Gv
head gnil = gnil
head (gnum n) = gnum n
head (gcons a b) = a

-- the second part of a pair, else nothing
abbrev tail : Gv → Gv
tail gnil = gnil
tail (gnum n) = gnil
tail (gcons a b) = b

-- 1 for a pair, else 0
abbrev is_pair : Gv → ℕ
is_pair gnil = 0
is_pair (gnum n) = 0
is_pair (gcons a b) = 1

-- encodings with one place are the same
pub encoding_apart : (c d : Encoding) → encoding_number c ≡ encoding_number d → c ≡ d
encoding_apart Plain Plain p = refl
encoding_apart Zigzag Zigzag p = refl
encoding_apart Fixed32 Fixed32 p = refl
encoding_apart Fixed64 Fixed64 p = refl
encoding_apart c d p = absurd (omega (arith, p))

mutual
  pub shape_apart : (s t : Shape) → shape_tree s ≡ shape_tree t → s ≡ t
  shape_apart truth truth p = λ i. truth
  shape_apart int int p = λ i. int
  shape_apart time time p = λ i. time
  shape_apart str str p = λ i. str
  shape_apart bytes bytes p = λ i. bytes
  shape_apart (array s) (array t) p = ap array (shape_apart s t (ap tail p))
  shape_apart (mapping k v) (mapping l w) p =
      λ i. mapping (shape_apart k l (ap (λ g. head (tail g)) p) i) (shape_apart v w (ap (λ g. tail (tail g)) p) i)
  shape_apart (tuple fs) (tuple gs) p = ap tuple (fields_apart fs gs (ap tail p))
  shape_apart (proto fs) (proto gs) p = ap proto (fields_apart fs gs (ap tail p))
  shape_apart s t p = absurd (let kinds = ap (λ g. num (head g)) p in omega arith)

  field_apart : (f g : FieldShape) → field_tree f ≡ field_tree g → f ≡ g
  field_apart (field name s number code) (field other t place way) p =
      λ i. field (coded_letters.inj name other (ap head p) i)
      (shape_apart s t (ap (λ g. head (tail g)) p) i)
      (ap (λ g. num (head (tail (tail g)))) p i)
      (encoding_apart code way (ap (λ g. num (tail (tail (tail g)))) p) i)

  fields_apart : (fs gs : FieldShapes) → fields_tree fs ≡ fields_tree gs → fs ≡ gs
  fields_apart no_fields no_fields p = λ i. no_fields
  fields_apart no_fields (with_field g gs) p = absurd (let sizes = ap is_pair p in omega arith)
  fields_apart (with_field f fs) no_fields p = absurd (let sizes = ap is_pair p in omega arith)
  fields_apart (with_field f fs) (with_field g gs) p =
      λ i. with_field (field_apart f g (ap head p) i) (fields_apart fs gs (ap tail p) i)

-- how a type is stored
abbrev pub shape_code : Coded Shape
shape_code = record { code = shape_tree; inj = shape_apart }

-- how a list of types is stored
abbrev pub shapes_code : Coded (List Shape)
shapes_code = coded_list shape_code

-- the place of a kind of table in the order of the kinds
abbrev kind_number : TableKind → ℕ
kind_number Sum = 0
kind_number Maximum = 1
kind_number Minimum = 2
kind_number Set = 3
kind_number Collection = 4

-- the kind of table at a place
abbrev kind_at : ℕ → TableKind
kind_at zero = Sum
kind_at (suc zero) = Maximum
kind_at (suc (suc zero)) = Minimum
kind_at (suc (suc (suc zero))) = Set
kind_at (suc (suc (suc (suc n)))) = Collection

pub kind_again : (kind : TableKind) → kind_at (kind_number kind) ≡ kind
kind_again Sum = refl
kind_again Maximum = refl
kind_again Minimum = refl
kind_again Set = refl
kind_again Collection = refl

abbrev kind_code : Coded TableKind
kind_code = code_by ℕ coded_ℕ kind_number kind_at kind_again

-- the parts of a declaration as a tuple
abbrev Parts : Type 0
Parts = List ℕ × (TableKind × (ℕ × (List Shape × (Shape × Option Shape))))

abbrev parts_of : Declaration → Parts
parts_of d = (d.name, (d.kind, (d.limit, (d.indexes, (d.element, d.weight)))))

abbrev made_of : Parts → Declaration
made_of p = record {
  name = p.0;
  kind = p.1.0;
  limit = p.1.1.0;
  indexes = p.1.1.1.0;
  element = p.1.1.1.1.0;
  weight = p.1.1.1.1.1;
}

abbrev parts_code : Coded Parts
parts_code = coded× coded_letters
    (coded× kind_code (coded× coded_ℕ (coded× shapes_code (coded× shape_code (coded_option shape_code)))))

-- how a declaration is stored
abbrev pub declaration_code : Coded Declaration
declaration_code = code_by Parts parts_code parts_of made_of (λ d. refl)

-- how a list of declarations is stored
abbrev pub declarations_code : Coded (List Declaration)
declarations_code = coded_list declaration_code
