-- Types are alike exactly where they are equal.
use Rattle.std.proofs.Common.{◌≡◌, ◌↔◌, true, ◌&&◌, nat_eq, true≢false, refl, sym, ap, subst}
use Rattle.std.specs.Cmp.{first_so, second_so}
use Rattle.std.specs.Cmp.Lexicographic.{pointwise, bytes_decides}
use Rattle.std.proofs.lemmas.Bool.{eqb-true, eq-eqb}
use Rattle.sz_types.specs.Data.{Shape, truth, int, time, str, bytes, array, mapping, tuple, proto, FieldShape, field, FieldShapes, no_fields, with_field}
use Rattle.sz_types.specs.Same.{alike, alike_field, alike_fields, encoding_number}
use Rattle.sz_types.specs.Code.{encoding_apart}

mutual
  -- types that are alike are equal
  pub alike_equal : (s t : Shape) → alike s t ≡ true → s ≡ t
  alike_equal truth truth h = refl
  alike_equal int int h = refl
  alike_equal time time h = refl
  alike_equal str str h = refl
  alike_equal bytes bytes h = refl
  alike_equal (array s) (array t) h = ap array (alike_equal s t h)
  alike_equal (mapping k v) (mapping l w) h =
      λ i. mapping (alike_equal k l (first_so (alike k l) (alike v w) h) i)
      (alike_equal v w (second_so (alike k l) (alike v w) h) i)
  alike_equal (tuple fs) (tuple gs) h = ap tuple (fields_equal fs gs h)
  alike_equal (proto fs) (proto gs) h = ap proto (fields_equal fs gs h)
  alike_equal s t h = absurd (true≢false (sym h))

  field_equal : (f g : FieldShape) → alike_field f g ≡ true → f ≡ g
  field_equal (field name s number code) (field other t place way) h =
      let names = pointwise nat_eq name other in
      let types = alike s t in
      let numbers = nat_eq number place in
      let codes = nat_eq (encoding_number code) (encoding_number way) in
      let three = first_so (names && types && numbers) codes h in
      let two = first_so (names && types) numbers three in
      λ i. field ((bytes_decides name other).0 (first_so names types two) i)
      (alike_equal s t (second_so names types two) i)
      (eqb-true number place (second_so (names && types) numbers three) i)
      (encoding_apart code way
      (eqb-true (encoding_number code) (encoding_number way) (second_so (names && types && numbers) codes h)) i)

  fields_equal : (fs gs : FieldShapes) → alike_fields fs gs ≡ true → fs ≡ gs
  fields_equal no_fields no_fields h = refl
  fields_equal no_fields (with_field g gs) h = absurd (true≢false (sym h))
  fields_equal (with_field f fs) no_fields h = absurd (true≢false (sym h))
  fields_equal (with_field f fs) (with_field g gs) h =
      let first = first_so (alike_field f g) (alike_fields fs gs) h in
      let rest = second_so (alike_field f g) (alike_fields fs gs) h in
      λ i. with_field (field_equal f g first i) (fields_equal fs gs rest i)

mutual
  -- a type is alike to itself
  pub alike_itself : (s : Shape) → alike s s ≡ true
  alike_itself truth = refl
  alike_itself int = refl
  alike_itself time = refl
  alike_itself str = refl
  alike_itself bytes = refl
  alike_itself (array s) = alike_itself s
  alike_itself (mapping k v) = λ i. alike_itself k i && alike_itself v i
  alike_itself (tuple fs) = fields_itself fs
  alike_itself (proto fs) = fields_itself fs

  field_itself : (f : FieldShape) → alike_field f f ≡ true
  field_itself (field name s number code) =
      λ i. (bytes_decides name name).1 refl i && alike_itself s i && eq-eqb number number refl i
      && eq-eqb (encoding_number code) (encoding_number code) refl i

  fields_itself : (fs : FieldShapes) → alike_fields fs fs ≡ true
  fields_itself no_fields = refl
  fields_itself (with_field f fs) = λ i. field_itself f i && fields_itself fs i

-- types are alike exactly where they are equal
pub alike_is_equality : (s t : Shape) → (alike s t ≡ true) ↔ (s ≡ t)
alike_is_equality s t = (alike_equal s t, λ same. subst (λ u. alike s u ≡ true) same (alike_itself s))
