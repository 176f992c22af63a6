-- The types of a file with which nothing is wrong are well formed.
use Rattle.std.proofs.Common.{◌≡◌, ℕ, zero, suc, ◌<◌, ◌≤◌, ◌^◌, Bool, true, false, ◌&&◌, ◌||◌, not, nat_lt, nat_le, nat_eq, cond, List, [], ◌∷◌, map, length, get_or, bytes_eq, refl, sym, ap, subst, ◌∙◌, arith}
use Rattle.std.specs.List.{Contains, list_any}
use Rattle.std.proofs.lemmas.Bool.{false≢true, ltb-true, le-leb}
use Rattle.std.proofs.lemmas.Bool.Decides.{Decides-eqb}
use Rattle.std.proofs.lemmas.Slice.Eq.{bytes_eq-Decides}
use Rattle.sz_types.specs.Data as data_of
use Rattle.sz_types.specs.Data.{Shape, FieldShape, FieldShapes, no_fields, fields_of}
use Rattle.sz_types.specs.Conversions.{IsProto}
use Rattle.sz_types.specs.declared.encoding.Encoding.{Encoding}
use Rattle.sz_types.specs.declared.encoding.Encoding.TheVariants as encodings
use Rattle.sz_core.specs.WellFormed.{names_of, numbers_of, are_distinct_texts, are_distinct_numbers, most_field_number, is_field_type, takes_encoding, is_well_formed, are_message_fields}
use Rattle.sz_protofile.specs.Reading.{Spelling}
use Rattle.sz_protofile.specs.declared.line.Line.{Line}
use Rattle.sz_protofile.specs.declared.field.FieldIn.{FieldIn}
use Rattle.sz_protofile.specs.declared.field.Plain.{Plain}
use Rattle.sz_protofile.specs.declared.field.PlainKind.{PlainKind}
use Rattle.sz_protofile.specs.declared.field.PlainKind.TheVariants as kinds
use Rattle.sz_protofile.specs.declared.field.Sort.TheVariants as sorts
use Rattle.sz_protofile.specs.declared.scope.Scope.{Scope}
use Rattle.sz_protofile.specs.Names.{spelled, messages_in}
use Rattle.sz_protofile.specs.Scalars.{shape_of}
use Rattle.sz_protofile.specs.Lookup.{known_in, message_names_in}
use Rattle.sz_protofile.specs.Faults.{nothing_before, in_range}
use Rattle.sz_protofile.specs.Fields.{as_field, nothing, plainly, again, once, Makes, none, own, other}
use Rattle.sz_protofile.specs.Types.{TypeShape, all_fields, AreTypes, field_count, field_counts, HasTypes}
use Rattle.sz_protofile_types.proofs.ForCallers.{target_of}
use Rattle.sz_protofile_types.specs.Sound.{AreSound}
use Rattle.sz_protofile_types.proofs.LineLaws.{AreApart, AllApart, TakesCode, name_of, turned, fields_new, messages_named, field_takes}

-- the first number of two that are not alike
not_alike : (a b : ℕ) → nat_eq a b ≡ false → nat_eq b a ≡ false
not_alike a b e = by (nat_eq b a) refl
  where
    by : (t : Bool) → nat_eq b a ≡ t → nat_eq b a ≡ false
    by true g = absurd (false≢true (sym e ∙ (Decides-eqb a b).1 (sym ((Decides-eqb b a).0 g))))
    by false g = g

-- a proto type, or an array of it where the field is repeated
abbrev wrap : Bool → Shape → Shape
wrap b s = cond b (data_of.array s) s

-- the type of a field may stand in a message
record MayStand (s : Shape) (code : Encoding) : Type 0 where
  type : (b : Bool) → is_field_type (wrap b s) ≡ true
  coded : (b : Bool) → takes_encoding code (wrap b s) ≡ true
  formed : (b : Bool) → is_well_formed (wrap b s) ≡ true

-- the fields that were made of those of a message
record AreFormed (fields : List FieldIn) (owner : List ℕ) (made : List FieldShape) : Type 0 where
  free_name : (name : List ℕ) → ((f : FieldIn) → Contains fields f → f.owner ≡ owner → bytes_eq name f.name ≡ false)
      → list_any (bytes_eq name) (names_of (fields_of made)) ≡ false
  free_number : (number : ℕ) → ((f : FieldIn) → Contains fields f → f.owner ≡ owner → nat_eq number f.number ≡ false)
      → list_any (nat_eq number) (numbers_of (fields_of made)) ≡ false
  names : are_distinct_texts (names_of (fields_of made)) ≡ true
  numbers : are_distinct_numbers (numbers_of (fields_of made)) ≡ true
  each : are_message_fields (fields_of made) ≡ true

head_of : (f : FieldIn) (more : List FieldIn) → Contains (f ∷ more) f
head_of f more = (0, omega arith, refl)

tail_of : (f : FieldIn) (more : List FieldIn) (g : FieldIn) → Contains more g → Contains (f ∷ more) g
tail_of f more g c = (suc c.0, omega (arith, c.1), c.2)

-- a field that adds nothing
passed_over : (f : FieldIn) (more : List FieldIn) (owner : List ℕ) (made : List FieldShape)
    → AreFormed more owner made → AreFormed (f ∷ more) owner made
passed_over f more owner made h = record {
  free_name = λ name free. h.free_name name (λ g c o. free g (tail_of f more g c) o);
  free_number = λ number free. h.free_number number (λ g c o. free g (tail_of f more g c) o);
  names = h.names;
  numbers = h.numbers;
  each = h.each;
}

-- of the same message, so it has another name and another number
other_name : (f g : FieldIn) → AreApart f g → g.owner ≡ f.owner → bytes_eq f.name g.name ≡ false
other_name f g a o = turned g.name f.name
    (ap (λ b. b && bytes_eq g.name f.name) (sym ((bytes_eq-Decides g.owner f.owner).1 o)) ∙ a.name)

other_number : (f g : FieldIn) → AreApart f g → g.owner ≡ f.owner → nat_eq f.number g.number ≡ false
other_number f g a o = not_alike g.number f.number
    (ap (λ b. b && nat_eq g.number f.number) (sym ((bytes_eq-Decides g.owner f.owner).1 o)) ∙ a.number)

within : (n : ℕ) → in_range n ≡ true → (nat_le 1 n ≡ true) × (nat_le n most_field_number ≡ true)
within n e = by (nat_lt 0 n) (nat_lt n (2 ^ 29)) refl refl e
  where
    by : (a b : Bool) → nat_lt 0 n ≡ a → nat_lt n (2 ^ 29) ≡ b → (a && b) ≡ true
        → (nat_le 1 n ≡ true) × (nat_le n most_field_number ≡ true)
    by true true p q g =
        let low = ltb-true 0 n p in
        let high = ltb-true n (2 ^ 29) q in
        (le-leb 1 n (omega (arith, low)), le-leb n most_field_number (omega (arith, high)))
    by true false p q g = absurd (false≢true g)
    by false b p q g = absurd (false≢true g)

-- a field that adds itself
put_first : (f : FieldIn) (more : List FieldIn) (owner : List ℕ) (made : List FieldShape) (s : Shape)
    (code : Encoding) → f.owner ≡ owner → ((g : FieldIn) → Contains more g → AreApart f g) → in_range f.number ≡ true
    → MayStand s code → AreFormed more owner made → AreFormed (f ∷ more) owner (as_field f s code ∷ made)
unfolding is_well_formed
put_first f more owner made s code o apart ranged may h = record {
  free_name = λ name free.
      ap (λ b. b || list_any (bytes_eq name) (names_of (fields_of made))) (free f (head_of f more) o)
      ∙ h.free_name name (λ g c e. free g (tail_of f more g c) e);
  free_number = λ number free.
      ap (λ b. b || list_any (nat_eq number) (numbers_of (fields_of made))) (free f (head_of f more) o)
      ∙ h.free_number number (λ g c e. free g (tail_of f more g c) e);
  names = ap (λ b. not b && are_distinct_texts (names_of (fields_of made)))
      (h.free_name f.name (λ g c e. other_name f g (apart g c) (e ∙ sym o))) ∙ h.names;
  numbers = ap (λ b. not b && are_distinct_numbers (numbers_of (fields_of made)))
      (h.free_number f.number (λ g c e. other_number f g (apart g c) (e ∙ sym o))) ∙ h.numbers;
  each =
      let w = within f.number ranged in
      rw (w.0, w.1, may.type f.repeated, may.coded f.repeated, may.formed f.repeated) h.each;
}

-- ---- types that stand in messages

plain_stands : (p : Plain) → TakesCode p → MayStand (shape_of p.kind) p.code
unfolding is_well_formed
plain_stands p h = record { type = type p.kind; coded = coded; formed = formed p.kind }
  where
    type : (k : PlainKind) (b : Bool) → is_field_type (wrap b (shape_of k)) ≡ true
    type kinds.Truth true = refl
    type kinds.Truth false = refl
    type kinds.Whole true = refl
    type kinds.Whole false = refl
    type kinds.Str true = refl
    type kinds.Str false = refl
    type kinds.Bytes true = refl
    type kinds.Bytes false = refl

    coded : (b : Bool) → takes_encoding p.code (wrap b (shape_of p.kind)) ≡ true
    coded true = h.1
    coded false = h.0

    formed : (k : PlainKind) (b : Bool) → is_well_formed (wrap b (shape_of k)) ≡ true
    formed kinds.Truth true = refl
    formed kinds.Truth false = refl
    formed kinds.Whole true = refl
    formed kinds.Whole false = refl
    formed kinds.Str true = refl
    formed kinds.Str false = refl
    formed kinds.Bytes true = refl
    formed kinds.Bytes false = refl

message_stands : (fs : FieldShapes) → is_well_formed (data_of.proto fs) ≡ true
    → MayStand (data_of.proto fs) encodings.Plain
unfolding is_well_formed
message_stands fs e = record { type = type; coded = coded; formed = formed }
  where
    type : (b : Bool) → is_field_type (wrap b (data_of.proto fs)) ≡ true
    type true = refl
    type false = refl

    coded : (b : Bool) → takes_encoding encodings.Plain (wrap b (data_of.proto fs)) ≡ true
    coded true = refl
    coded false = refl

    formed : (b : Bool) → is_well_formed (wrap b (data_of.proto fs)) ≡ true
    formed true = e
    formed false = e

repeated_count : (b : Bool) (s : Shape) → field_count (wrap b s) ≡ field_count s
repeated_count true s = refl
repeated_count false s = refl

-- ---- the fields of a message

module _ (all : List FieldIn) (types : List ℕ → Shape) (n : ℕ) (owner : List ℕ)
    (plain : (f : FieldIn) (p : Plain) → Contains all f → f.sort ≡ sorts.Kept p → TakesCode p)
    (lower : (f : FieldIn) (m : List ℕ) → Contains all f → f.sort ≡ sorts.Message m → field_count (types m) < n
    → MayStand (types m) encodings.Plain) where
  makes_formed : (fields : List FieldIn) (made : List FieldShape) → ((f : FieldIn) → Contains fields f → Contains all f)
      → ((f : FieldIn) → Contains fields f → in_range f.number ≡ true) → AllApart fields
      → field_counts (fields_of made) ≤ n → Makes all types owner fields made → AreFormed fields owner made
  unfolding is_well_formed
  makes_formed fields made among ranged apart few none = record {
    free_name = λ name free. refl;
    free_number = λ number free. refl;
    names = refl;
    numbers = refl;
    each = empty;
  }
    where
      empty : are_message_fields no_fields ≡ true
      empty = refl
  makes_formed fields made among ranged apart few (other f more rest o w) =
      passed_over f more owner rest
      (makes_formed more rest (λ g c. among g (tail_of f more g c))
      (λ g c. ranged g (tail_of f more g c)) apart.1 few w)
  makes_formed fields made among ranged apart few (own f more added rest o (nothing e) w) =
      passed_over f more owner rest
      (makes_formed more rest (λ g c. among g (tail_of f more g c))
      (λ g c. ranged g (tail_of f more g c)) apart.1 few w)
  makes_formed fields made among ranged apart few (own f more added rest o (again m e r) w) =
      passed_over f more owner rest
      (makes_formed more rest (λ g c. among g (tail_of f more g c))
      (λ g c. ranged g (tail_of f more g c)) apart.1 few w)
  makes_formed fields made among ranged apart few (own f more added rest o (plainly p e) w) =
      put_first f more owner rest (shape_of p.kind) p.code o apart.0 (ranged f (head_of f more))
      (plain_stands p (plain f p (among f (head_of f more)) e)) (makes_formed more rest
      (λ g c. among g (tail_of f more g c)) (λ g c. ranged g (tail_of f more g c)) apart.1 (omega (arith, few)) w)
  makes_formed fields made among ranged apart few (own f more added rest o (once m e r) w) =
      put_first f more owner rest (types m) encodings.Plain o apart.0 (ranged f (head_of f more))
      (lower f m (among f (head_of f more)) e (omega (arith, few, repeated_count f.repeated (types m))))
      (makes_formed more rest (λ g c. among g (tail_of f more g c))
      (λ g c. ranged g (tail_of f more g c)) apart.1 (omega (arith, few)) w)

-- ---- whole files

proto_formed : (fields : List FieldIn) (owner : List ℕ) (made : List FieldShape) → AreFormed fields owner made
    → is_well_formed (data_of.proto (fields_of made)) ≡ true
unfolding is_well_formed
proto_formed fields owner made h = rw (h.names, h.numbers, h.each) refl

module _ (text : Spelling) (all : List Line) (types : List ℕ → Shape) (are : AreTypes text all types)
    (ranged : (f : FieldIn) → Contains (all_fields text all) f → in_range f.number ≡ true)
    (apart : AllApart (all_fields text all)) where
  below : (n : ℕ) (s : Scope) → Contains (messages_in text [] all) s → field_count (types s.full) < n
      → is_well_formed (types s.full) ≡ true
  below zero s c l = absurd (omega (arith, l))
  below (suc n) s c l =
      let a = are s c in
      ap is_well_formed a.2
      ∙ proto_formed (all_fields text all) s.full a.0
      (makes_formed (all_fields text all) types n s.full
      (λ f p d e. field_takes text (known_in text all) (message_names_in text [] [] all) [] all f p d e)
      (λ f m d e k.
      let t = target_of text all f m d e in
      let u = are t.0 t.1 in
      let is : types m ≡ data_of.proto (fields_of u.0) = ap types (sym t.2) ∙ u.2 in
      subst (λ x. MayStand x encodings.Plain) (sym is)
      (message_stands (fields_of u.0) (ap is_well_formed (sym is) ∙ ap (λ x. is_well_formed (types x)) (sym t.2)
      ∙ below n t.0 t.1 (omega (arith, k, ap (λ x. field_count (types x)) t.2)))))
      (all_fields text all) a.0 (λ f d. d) ranged apart (omega (arith, l, ap field_count a.2)) a.1)

  pub types_formed : (s : Scope) → Contains (messages_in text [] all) s → is_well_formed (types s.full) ≡ true
  types_formed s c = below (suc (field_count (types s.full))) s c (omega arith)

  pub types_protos : (s : Scope) → Contains (messages_in text [] all) s → IsProto (types s.full)
  types_protos s c = let a = are s c in subst IsProto (sym a.2) tt

-- what holds of each element of a list holds of each of another that is made of it
each_of : (P : TypeShape → Type 0) (f : Scope → TypeShape) (l : List Scope) → ((s : Scope) → Contains l s → P (f s))
    → (t : TypeShape) → Contains (map f l) t → P t
each_of P f l h t c = by l h c.0 c.1 c.2
  where
    by : (l : List Scope) → ((s : Scope) → Contains l s → P (f s)) → (i : ℕ) → i < length (map f l)
        → get_or (map f l) i t ≡ t → P t
    by [] h i k is = absurd (omega (arith, k))
    by (s ∷ l) h zero k is = subst P is (h s (0, omega arith, refl))
    by (s ∷ l) h (suc i) k is = by l (λ x d. h x (suc d.0, omega (arith, d.1), d.2)) i (omega (arith, k)) is

pub sound_types : (bytes : List ℕ) (types : List TypeShape) → HasTypes bytes types → AreSound types
sound_types bytes types h =
    let text = spelled bytes in
    let new =
    fields_new text (known_in text h.all) (message_names_in text [] [] h.all) nothing_before h.all h.sound.sound in
    let called = messages_named text (known_in text h.all) nothing_before h.all h.sound.sound in
    subst AreSound (sym h.answer_is) (record {
      apart = ap are_distinct_texts (names_are (messages_in text [] h.all)) ∙ called.apart;
      messages = each_of (λ t. IsProto t.shape) (λ s. record { name = name_of s; shape = h.types s.full })
          (messages_in text [] h.all)
          (λ s c. types_protos text h.all h.types h.are (λ f d. (new.each f d).ranged) new.apart s c);
      formed = each_of (λ t. is_well_formed t.shape ≡ true) (λ s. record { name = name_of s; shape = h.types s.full })
          (messages_in text [] h.all)
          (λ s c. types_formed text h.all h.types h.are (λ f d. (new.each f d).ranged) new.apart s c);
    })
  where
    names_are : (l : List Scope) → map (λ (t : TypeShape). t.name)
        (map (λ (s : Scope). record { name = name_of s; shape = h.types s.full }) l) ≡ map name_of l
    names_are [] = refl
    names_are (s ∷ l) = ap (λ (x : List (List ℕ)). name_of s ∷ x) (names_are l)
