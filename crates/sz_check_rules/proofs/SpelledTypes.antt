-- Statements that declare types, each written out: they are judged to be these types.
use Rattle.std.proofs.Common.{◌≡◌, ℕ, Bool, true, false, List, [], ◌∷◌, Option, Some, None, refl, sym, ap, subst, ◌∙◌, ℤ, pos}
use Rattle.std.specs.Prelude.{◌||◌, ◌&&◌, not, IsFalse, bytes_eq, nat_eq, nat_le}
use Rattle.std.specs.List.{list_any}
use Rattle.std.specs.Cmp.{first_so, second_so, unsigned_Decides}
use Rattle.std.proofs.lemmas.Slice.Eq.{bytes_eq-Decides}
use Rattle.sz_types.specs.Data.{Shape, FieldShapes, field}
use Rattle.sz_types.specs.Data as shapes
use Rattle.sz_types.specs.declared.encoding.Encoding.{Encoding}
use Rattle.sz_types.specs.declared.encoding.Encoding.TheVariants.{Plain, Zigzag, Fixed32, Fixed64}
use Rattle.sz_tree.specs.declared.types.BasicType.TheVariants as basics
use Rattle.sz_tree.specs.Names.{Ident}
use Rattle.sz_tree.specs.Types.{Typ, basic, array, proto, Fields, no_fields, proto_field}
use Rattle.sz_core.specs.WellFormed.{is_well_formed, are_message_fields, are_distinct_texts, are_distinct_numbers, names_of, numbers_of}
use Rattle.sz_core.specs.WellFormed.{is_field_type, takes_encoding, most_field_number}
use Rattle.sz_check_rules.specs.Refusals.{◌>>=◌, has_name}
use Rattle.sz_check_rules.specs.Names.{Block}
use Rattle.sz_check_rules.specs.JudgingTypes.{judge_type, judge_fields, coded, coding_of, field_number, encoding_of}
use Rattle.sz_check_rules.proofs.Holds.{good}
use Rattle.sz_check_rules.specs.TypeStatements.{IsWord, Spells, SpellFields}

-- ---- names and numbers that differ

pub left_false : (a b : Bool) → (a || b) ≡ false → a ≡ false
left_false true b h = absurd cc
left_false false b h = refl

pub right_false : (a b : Bool) → (a || b) ≡ false → b ≡ false
right_false true b h = absurd cc
right_false false b h = h

true_false : true ≡ false → ⊥
true_false e = cc

pub not_true : (b : Bool) → not b ≡ true → b ≡ false
not_true true h = absurd cc
not_true false h = refl

pub neither : (a b : Bool) → a ≡ false → b ≡ false → (a || b) ≡ false
neither a b h k = rw (h, k) refl

module _ {A : Type 0} (eq : A → A → Bool) where
  -- none of these is taken
  abbrev pub NoneTaken : List A → List A → Type 0
  NoneTaken taken [] = Unit {0}
  NoneTaken taken (x ∷ xs) = IsFalse (list_any (eq x) taken) × NoneTaken taken xs

  none_at_first : (xs : List A) → NoneTaken [] xs
  none_at_first [] = tt
  none_at_first (x ∷ xs) = (refl, none_at_first xs)

  none_more : (swap : (x y : A) → IsFalse (eq x y) → IsFalse (eq y x)) (x : A) (taken xs : List A)
      → IsFalse (list_any (eq x) xs) → NoneTaken taken xs → NoneTaken (x ∷ taken) xs
  none_more swap x taken [] h k = tt
  none_more swap x taken (y ∷ xs) h k = (
    neither (eq y x) (list_any (eq y) taken) (swap x y (left_false (eq x y) (list_any (eq x) xs) h)) k.0,
    none_more swap x taken xs (right_false (eq x y) (list_any (eq x) xs) h) k.1,
  )

pub swap_texts : (x y : List ℕ) → IsFalse (bytes_eq x y) → IsFalse (bytes_eq y x)
swap_texts x y h = by (bytes_eq y x) refl
  where
    by : (b : Bool) → bytes_eq y x ≡ b → bytes_eq y x ≡ false
    by false e = e
    by true e = absurd (true_false (sym ((bytes_eq-Decides x y).1 (sym ((bytes_eq-Decides y x).0 e))) ∙ h))

swap_numbers : (x y : ℕ) → IsFalse (nat_eq x y) → IsFalse (nat_eq y x)
swap_numbers x y h = by (nat_eq y x) refl
  where
    by : (b : Bool) → nat_eq y x ≡ b → nat_eq y x ≡ false
    by false e = e
    by true e = absurd (true_false (sym ((unsigned_Decides x y).1 (sym ((unsigned_Decides y x).0 e))) ∙ h))

-- ---- a type

-- the word of an encoding stands for it
word_encodes : (code : Encoding) (word : Option Ident) → IsWord code word → encoding_of word ≡ Some code
word_encodes Plain None h = refl
word_encodes Plain (Some word) h = absurd h
word_encodes Zigzag (Some word) h = rw h refl
word_encodes Zigzag None h = absurd h
word_encodes Fixed32 (Some word) h = rw h refl
word_encodes Fixed32 None h = absurd h
word_encodes Fixed64 (Some word) h = rw h refl
word_encodes Fixed64 None h = absurd h

in_range : (n : ℕ) → nat_le 1 n ≡ true → nat_le n most_field_number ≡ true → field_number (pos n) ≡ Some n
in_range n least most = rw (least, most) refl

-- a field that keeps the rules is coded so
coded_so : (n : Ident) (taken : List (List ℕ)) (used : List ℕ) (t : Shape) (k : ℕ) (code : Encoding)
    → IsFalse (has_name n.text taken)
    → IsFalse (list_any (nat_eq k) used) → is_field_type t ≡ true → takes_encoding code t ≡ true
    → coded n taken (coding_of used t (Some k) (Some code)) ≡ good (record { number = k; code = code })
coded_so n taken used t k code name number type takes = rw (number, type, takes, name) refl

-- what a field of a message keeps
record IsKept (t : Shape) (number : ℕ) (code : Encoding) (fields : FieldShapes) : Type 0 where
  pub least : nat_le 1 number ≡ true
  pub most : nat_le number most_field_number ≡ true
  pub type : is_field_type t ≡ true
  pub takes : takes_encoding code t ≡ true
  pub formed : is_well_formed t ≡ true
  pub rest : are_message_fields fields ≡ true

is_kept : (name : List ℕ) (t : Shape) (number : ℕ) (code : Encoding) (fields : FieldShapes)
    → are_message_fields (shapes.with_field (field name t number code) fields) ≡ true → IsKept t number code fields
unfolding are_message_fields
is_kept name t number code fields h =
    let a = first_so _ (are_message_fields fields) h in
    let b = first_so _ (is_well_formed t) a in
    let c = first_so _ (takes_encoding code t) b in
    let d = first_so _ (is_field_type t) c in
    record {
      least = first_so _ (nat_le number most_field_number) d;
      most = second_so (nat_le 1 number) _ d;
      type = second_so _ (is_field_type t) c;
      takes = second_so _ (takes_encoding code t) b;
      formed = second_so _ (is_well_formed t) a;
      rest = second_so _ (are_message_fields fields) h;
    }

module _ (blocks : List Block) where
  field_then : (taken : List (List ℕ)) (used : List ℕ) (n : Ident) (t : Typ) (k : ℤ) (word : Option Ident)
      (fs : Fields) (s : Shape) (number : ℕ) (code : Encoding) (others : FieldShapes) → judge_type blocks t ≡ good s
      → field_number k ≡ Some number → encoding_of word ≡ Some code
      → coded n taken (coding_of used s (Some number) (Some code)) ≡ good (record { number = number; code = code })
      → judge_fields blocks (n.text ∷ taken) (number ∷ used) fs ≡ good others
      → judge_fields blocks taken used (proto_field n t k word fs)
      ≡ good (shapes.with_field (field n.text s number code) others)
  unfolding judge_fields
  field_then taken used n t k word fs s number code others a b c d e = rw (a, b, c, d, e) refl

  mutual
    unfolding judge_type judge_fields is_well_formed

    pub spelled : (t : Typ) (s : Shape) → Spells t s → is_well_formed s ≡ true → judge_type blocks t ≡ good s
    spelled (basic p basics.Bool) Shape.truth h f = refl
    spelled (basic p basics.Int) Shape.int h f = refl
    spelled (basic p basics.Time) Shape.time h f = refl
    spelled (basic p basics.String) Shape.str h f = refl
    spelled (basic p basics.Bytes) Shape.bytes h f = refl
    spelled (array p t) (Shape.array s) h f = ap (λ j. j >>= λ element. good (Shape.array element)) (spelled t s h f)
    spelled (proto p fs) (Shape.proto fields) h f =
        let both = first_so (are_distinct_texts (names_of fields) && are_distinct_numbers (numbers_of fields))
        (are_message_fields fields) f in
        ap (λ j. j >>= λ types. good (Shape.proto types)) (fields_spelled [] [] fs fields h
        (none_at_first bytes_eq (names_of fields)) (none_at_first nat_eq (numbers_of fields))
        (first_so (are_distinct_texts (names_of fields)) (are_distinct_numbers (numbers_of fields)) both)
        (second_so (are_distinct_texts (names_of fields)) (are_distinct_numbers (numbers_of fields)) both)
        (second_so (are_distinct_texts (names_of fields) && are_distinct_numbers (numbers_of fields))
        (are_message_fields fields) f))
    spelled _ _ h f = absurd h

    fields_spelled : (taken : List (List ℕ)) (used : List ℕ) (fs : Fields) (fields : FieldShapes)
        → SpellFields fs fields → NoneTaken bytes_eq taken (names_of fields)
        → NoneTaken nat_eq used (numbers_of fields) → are_distinct_texts (names_of fields) ≡ true
        → are_distinct_numbers (numbers_of fields) ≡ true → are_message_fields fields ≡ true
        → judge_fields blocks taken used fs ≡ good fields
    fields_spelled taken used no_fields shapes.no_fields h free unused texts others f = refl
    fields_spelled taken used (proto_field n t k word fs)
        (shapes.with_field (field name s number code) fields) h free unused texts others f =
        let kept = is_kept name s number code fields f in
        let is : n.text ≡ name = h.0 in
        let more = none_more bytes_eq swap_texts name taken (names_of fields)
        (not_true _ (first_so _ (are_distinct_texts (names_of fields)) texts)) free.1 in
        let used_more = none_more nat_eq swap_numbers number used (numbers_of fields)
        (not_true _ (first_so _ (are_distinct_numbers (numbers_of fields)) others)) unused.1 in
        let rest = fields_spelled (n.text ∷ taken) (number ∷ used) fs fields h.4
        (subst (λ x. NoneTaken bytes_eq (x ∷ taken) (names_of fields)) (sym is) more) used_more
        (second_so (not (list_any (bytes_eq name) (names_of fields))) _ texts)
        (second_so (not (list_any (nat_eq number) (numbers_of fields))) _ others) kept.rest in
        field_then taken used n t k word fs s number code fields (spelled t s h.1 kept.formed)
        (ap field_number h.2 ∙ in_range number kept.least kept.most) (word_encodes code word h.3)
        (coded_so n taken used s number code
        (subst (λ x. IsFalse (has_name x taken)) (sym is) free.0) unused.0 kept.type kept.takes) rest
        ∙ ap (λ (x : List ℕ). good (shapes.with_field (field x s number code) fields)) is
    fields_spelled taken used _ _ h free unused texts others f = absurd h
