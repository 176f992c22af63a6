-- Numbers of fields that stop at one more than a file may have.
use Rattle.std.proofs.Common.{◌≡◌, ℕ, zero, suc, ◌+◌, ◌<◌, ◌≤◌, ◌⊎◌, inl, inr, Bool, true, false, cond, nat_lt, nat_le, List, [], ◌∷◌, ◌++◌, refl, sym, ap, ◌∙◌, arith, bytes_eq}
use Rattle.std.specs.List.{sum_by}
use Rattle.std.proofs.lemmas.Bool.{cases_lt, lt-ltb, le-ltb, lt-leb}
use Rattle.std.proofs.lemmas.List.Sums.{sum_by-cons}
use Rattle.sz_types.specs.Data as data_of
use Rattle.sz_types.specs.Data.{Shape, FieldShape, fields_of}
use Rattle.sz_types.specs.declared.encoding.Encoding.TheVariants as encodings
use Rattle.sz_protofile.specs.declared.field.FieldIn.{FieldIn}
use Rattle.sz_protofile.specs.declared.field.PlainKind.{PlainKind}
use Rattle.sz_protofile.specs.declared.field.PlainKind.TheVariants as kinds
use Rattle.sz_protofile.specs.declared.field.Sort.{Sort}
use Rattle.sz_protofile.specs.declared.field.Sort.TheVariants as sorts
use Rattle.sz_protofile.specs.Scalars.{shape_of}
use Rattle.sz_protofile.specs.Types.{field_count, field_counts, most_fields}
use Rattle.sz_protofile_types.specs.Ranks.{Ranking, rank}
use Rattle.sz_protofile_types.specs.Making.{Made, type_in, added_as, added_by, after_field}
use Rattle.sz_protofile_types.specs.Holding.{capped, number_as, after_counted}

-- ---- capped numbers

small : (n : ℕ) → n ≤ most_fields → capped n ≡ n
small n l = ap (λ b. cond b (most_fields + 1) n) (le-ltb most_fields n l)

large : (n : ℕ) → most_fields < n → capped n ≡ most_fields + 1
large n l = ap (λ b. cond b (most_fields + 1) n) (lt-ltb most_fields n l)

pub capped_again : (n : ℕ) → capped (capped n) ≡ capped n
capped_again n = by (cases_lt most_fields n)
  where
    by : (most_fields < n) ⊎ (n ≤ most_fields) → capped (capped n) ≡ capped n
    by (inl l) = ap capped (large n l) ∙ large (most_fields + 1) (omega arith) ∙ sym (large n l)
    by (inr l) = ap capped (small n l)

-- what is added to a capped number
pub capped_sum : (a b : ℕ) → capped (capped a + b) ≡ capped (a + b)
capped_sum a b = by (cases_lt most_fields a)
  where
    by : (most_fields < a) ⊎ (a ≤ most_fields) → capped (capped a + b) ≡ capped (a + b)
    by (inl l) =
        ap (λ n. capped (n + b)) (large a l) ∙ large (most_fields + 1 + b) (omega arith)
        ∙ sym (large (a + b) (omega (arith, l)))
    by (inr l) = ap (λ n. capped (n + b)) (small a l)

pub capped_next : (a b : ℕ) → capped (capped a + (capped b + 1)) ≡ capped (a + (b + 1))
capped_next a b =
    let e : a + (capped b + 1) ≡ capped b + (a + 1) = omega arith in
    let f : b + (a + 1) ≡ a + (b + 1) = omega arith in
    capped_sum a (capped b + 1) ∙ ap capped e ∙ capped_sum b (a + 1) ∙ ap capped f

-- a capped number is one that a file may have where the number is
pub few_is : (n : ℕ) → nat_le (capped n) most_fields ≡ nat_le n most_fields
few_is n = by (cases_lt most_fields n)
  where
    by : (most_fields < n) ⊎ (n ≤ most_fields) → nat_le (capped n) most_fields ≡ nat_le n most_fields
    by (inl l) = ap (λ k. nat_le k most_fields) (large n l) ∙ sym (lt-leb n most_fields l)
    by (inr l) = ap (λ k. nat_le k most_fields) (small n l)

pub capped_total : {X : Type 0} (f : X → ℕ) (l : List X) → capped (sum_by (λ x. capped (f x)) l) ≡ capped (sum_by f l)
capped_total f [] = refl
capped_total f (x ∷ l) =
    let few = sum_by (λ y. capped (f y)) l in
    let every = sum_by f l in
    let e : f x + few ≡ few + f x = omega arith in
    let g : every + f x ≡ f x + every = omega arith in
    ap capped (sum_by-cons (λ y. capped (f y)) x l) ∙ capped_sum (f x) few ∙ ap capped e ∙ sym (capped_sum few (f x))
    ∙ ap (λ n. capped (n + f x)) (capped_total f l) ∙ capped_sum every (f x) ∙ ap capped (g ∙ sym (sum_by-cons f x l))

-- ---- fields of types

counts_append : (a b : List FieldShape)
    → field_counts (fields_of (a ++ b)) ≡ field_counts (fields_of a) + field_counts (fields_of b)
counts_append [] b = omega arith
counts_append (f ∷ a) b = omega (arith, counts_append a b)

-- no type but a message's has fields
plain_count : (kind : PlainKind) → field_count (shape_of kind) ≡ 0
plain_count kinds.Truth = refl
plain_count kinds.Whole = refl
plain_count kinds.Str = refl
plain_count kinds.Bytes = refl

repeated_count : (b : Bool) (s : Shape) → field_count (cond b (data_of.array s) s) ≡ field_count s
repeated_count true s = refl
repeated_count false s = refl

module _ (r : Ranking) where
  -- a field adds so many fields
  added_count : (made : Made) (f : FieldIn) (s : Sort)
      → field_counts (fields_of (added_as r made f s)) ≡ number_as r (λ m. field_count (type_in made m)) f s
  added_count made f sorts.Unkept = refl
  added_count made f (sorts.Kept p) = omega (arith, repeated_count f.repeated (shape_of p.kind), plain_count p.kind)
  added_count made f (sorts.Message m) = by (nat_lt (rank r m) (rank r f.owner))
    where
      by : (b : Bool) → field_counts (fields_of (cond b (data_of.field f.name
          (cond f.repeated (data_of.array (type_in made m)) (type_in made m)) f.number encodings.Plain ∷ []) []))
          ≡ cond b (field_count (type_in made m) + 1) 0
      by true = omega (arith, repeated_count f.repeated (type_in made m))
      by false = refl

  capped_number : (numbers : List ℕ → ℕ) (f : FieldIn) (s : Sort) (a : ℕ)
      → capped (capped a + number_as r (λ m. capped (numbers m)) f s) ≡ capped (a + number_as r numbers f s)
  capped_number numbers f sorts.Unkept a = capped_sum a 0
  capped_number numbers f (sorts.Kept p) a = capped_sum a 1
  capped_number numbers f (sorts.Message m) a = by (nat_lt (rank r m) (rank r f.owner))
    where
      by : (b : Bool) → capped (capped a + cond b (capped (numbers m) + 1) 0) ≡ capped (a + cond b (numbers m + 1) 0)
      by true = capped_next a (numbers m)
      by false = capped_sum a 0

  -- a field more is counted as it is made
  pub counted_field : (made : Made) (f : FieldIn) (m : List ℕ)
      → after_counted r (λ n. capped (field_count (type_in made n))) f m
      ≡ capped (field_count (type_in (after_field r made f) m))
  counted_field made f m = by (bytes_eq f.owner m)
    where
      by : (b : Bool) → cond b (capped (capped (field_count (type_in made f.owner)) + number_as r
          (λ n. capped (field_count (type_in made n))) f f.sort)) (capped (field_count (type_in made m)))
          ≡ capped (field_counts (fields_of (cond b (made f.owner ++ added_by r made f) (made m))))
      by true =
          capped_number (λ n. field_count (type_in made n)) f f.sort (field_count (type_in made f.owner))
          ∙ ap (λ n. capped (field_count (type_in made f.owner) + n)) (sym (added_count made f f.sort))
          ∙ ap capped (sym (counts_append (made f.owner) (added_by r made f)))
      by false = refl
