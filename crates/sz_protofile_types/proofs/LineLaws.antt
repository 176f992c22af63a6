-- What the lines of a file with which nothing is wrong have: names of messages, and names and numbers of fields, that
-- differ.
use Rattle.std.proofs.Common.{◌≡◌, ℕ, zero, suc, ◌<◌, ◌⊎◌, inl, inr, Bool, true, false, ◌&&◌, ◌||◌, not, nat_eq, cond, List, [], ◌∷◌, ◌++◌, length, get_or, map, Option, None, Some, bytes_eq, refl, sym, ap, subst, ◌∙◌, arith}
use Rattle.std.specs.Option.{option_or}
use Rattle.std.specs.List.{Contains, list_any}
use Rattle.std.proofs.lemmas.Bool.{false≢true}
use Rattle.std.proofs.lemmas.List.Elements.{Contains-append_cases}
use Rattle.std.proofs.lemmas.Slice.Eq.{bytes_eq-Decides}
use Rattle.sz_types.specs.Data.{array}
use Rattle.sz_core.specs.WellFormed.{are_distinct_texts, takes_encoding}
use Rattle.sz_protofile.specs.Reading.{Spelling}
use Rattle.sz_protofile.specs.declared.line.Line.{Line}
use Rattle.sz_protofile.specs.declared.line.Line.TheVariants as lines
use Rattle.sz_protofile.specs.declared.line.Member.{Member}
use Rattle.sz_protofile.specs.declared.fault.Fault.{Fault}
use Rattle.sz_protofile.specs.declared.field.FieldIn.{FieldIn}
use Rattle.sz_protofile.specs.declared.scope.Scope.{Scope}
use Rattle.sz_protofile.specs.Names.{has_name, unreserved, called, messages_in, around_after}
use Rattle.sz_protofile.specs.Lookup.{Known}
use Rattle.sz_protofile.specs.Faults.{Named, named, Numbered, numbered, Before, owner_of, with_member, with_others, with_line, has_field, has_number, in_range, member_fault, fault_of, first_fault}
use Rattle.sz_protofile.specs.Fields.{whole, sort_of_plain, sort_by, field_in, field_by, fields_in}
use Rattle.sz_protofile.specs.Scalars.{plain_of, shape_of}
use Rattle.sz_protofile.specs.declared.field.Plain.{Plain}
use Rattle.sz_protofile.specs.declared.field.Sort.TheVariants as sorts
use Rattle.sz_protofile.specs.declared.scalar.Scalar.{Scalar}
use Rattle.sz_protofile.specs.declared.scalar.Scalar.TheVariants as scalars

-- ---- answers that are none

none_first : (a b : Option Fault) → option_or a b ≡ None → a ≡ None
none_first None b e = refl
none_first (Some f) b e = e

none_second : (a b : Option Fault) → option_or a b ≡ None → b ≡ None
none_second None b e = e
none_second (Some f) b e = absurd cc

-- nothing is wrong behind a line, if nothing is from there on
later : (text : Spelling) (known : Known) (before : Before) (line : Line) (more : List Line)
    → first_fault text known before (line ∷ more) ≡ None
    → first_fault text known (with_line text before line) more ≡ None
unfolding first_fault
later text known before line more e = none_second (fault_of text known before line) _ e

-- a fault by a test is none where the test fails
failed : (b : Bool) (f : Fault) → cond b (Some f) None ≡ None → b ≡ false
failed true f e = absurd cc
failed false f e = refl

passed : (b : Bool) (f : Fault) → cond b None (Some f) ≡ None → b ≡ true
passed true f e = refl
passed false f e = absurd cc

both_true : (a b : Bool) → (a && b) ≡ true → (a ≡ true) × (b ≡ true)
both_true true b e = (refl, e)
both_true false b e = absurd (false≢true e)

not_true : (b : Bool) → not b ≡ true → b ≡ false
not_true true e = absurd (false≢true e)
not_true false e = refl

-- nothing in a list with one more passes
any_before : {X : Type 0} (test : X → Bool) (xs : List X) (x : X) → list_any test (xs ++ x ∷ []) ≡ false
    → (list_any test xs ≡ false) × (test x ≡ false)
any_before test [] x e = by (test x) e
  where
    by : (b : Bool) → (b || false) ≡ false → (false ≡ false) × (b ≡ false)
    by true g = absurd (false≢true (sym g))
    by false g = (refl, refl)
any_before test (y ∷ xs) x e = by (test y) (any_before test xs x) e
  where
    by : (b : Bool) → (list_any test (xs ++ x ∷ []) ≡ false → (list_any test xs ≡ false) × (test x ≡ false))
        → (b || list_any test (xs ++ x ∷ [])) ≡ false → ((b || list_any test xs) ≡ false) × (test x ≡ false)
    by true h g = absurd (false≢true (sym g))
    by false h g = h g

-- ---- fields

-- two fields don't have the same name, nor the same number, in the same message
pub record AreApart (f g : FieldIn) : Type 0 where
  pub name : (bytes_eq g.owner f.owner && bytes_eq g.name f.name) ≡ false
  pub number : (bytes_eq g.owner f.owner && nat_eq g.number f.number) ≡ false

-- no two of the fields do
abbrev pub AllApart : List FieldIn → Type 0
AllApart [] = Unit {0}
AllApart (f ∷ more) = ((g : FieldIn) → Contains more g → AreApart f g) × AllApart more

-- a field has a name and a number that aren't there before, and its number is in range
pub record IsNew (fields : List Named) (numbers : List Numbered) (g : FieldIn) : Type 0 where
  pub name : has_field g.owner g.name fields ≡ false
  pub number : has_number g.owner g.number numbers ≡ false
  pub ranged : in_range g.number ≡ true

-- fields that are new, and apart from each other
pub record AreNew (before : Before) (fields : List FieldIn) : Type 0 where
  pub each : (g : FieldIn) → Contains fields g → IsNew before.fields before.numbers g
  pub apart : AllApart fields

-- a field that is new behind one more is new, and apart from that one
older : (fields : List Named) (numbers : List Numbered) (owner name : List ℕ) (number : ℕ) (g : FieldIn)
    → IsNew (fields ++ named owner name ∷ []) (numbers ++ numbered owner number ∷ []) g
    → (IsNew fields numbers g) × ((bytes_eq g.owner owner && bytes_eq g.name name) ≡ false)
    × ((bytes_eq g.owner owner && nat_eq g.number number) ≡ false)
older fields numbers owner name number g h =
    let a =
    any_before (λ (f : Named). bytes_eq g.owner f.owner && bytes_eq g.name f.name) fields (named owner name) h.name in
    let b = any_before (λ (n : Numbered). bytes_eq g.owner n.owner && nat_eq g.number n.number) numbers
    (numbered owner number) h.number in
    (record { name = a.0; number = b.0; ranged = h.ranged }, a.1, b.1)

module _ (text : Spelling) (known : Known) (names : List (List ℕ)) where
  -- a field's own line
  own_new : (before : Before) (m : Member) → member_fault text before m ≡ None
      → (has_field (owner_of before) (unreserved (text m.name)) before.fields ≡ false)
      × (has_number (owner_of before) m.number before.numbers ≡ false)
      × (in_range m.number ≡ true)
  own_new before m e =
      let a = failed (has_field (owner_of before) (unreserved (text m.name)) before.fields) _ (none_first _ _ e) in
      let b = both_true (in_range m.number) (not (has_number (owner_of before) m.number before.numbers))
      (passed (in_range m.number && not (has_number (owner_of before) m.number before.numbers)) _
      (none_second _ _ e)) in
      (a, not_true _ b.1, b.0)

  -- a line without a field takes no name and no number of one
  as_before : (before : Before) (line : Line) (fields : List FieldIn) → AreNew (with_others text before line) fields
      → AreNew before fields
  as_before before line fields h = record { each = h.each; apart = h.apart }

  pub fields_new : (before : Before) (all : List Line) → first_fault text known before all ≡ None
      → AreNew before (fields_in text known names before.around all)
  unfolding first_fault fields_in
  fields_new before [] e = record { each = λ g c. absurd (omega (arith, c.1)); apart = tt }
  fields_new before (lines.Field f ∷ more) e =
      step (own_new before f.member (none_first _ _ (none_first _ _ e)))
      (fields_new (with_member text before f.member) more (later text known before (lines.Field f) more e))
    where
      here : FieldIn
      here = field_in text known names before.around f

      rest : List FieldIn
      rest = fields_in text known names before.around more

      step : (has_field here.owner here.name before.fields ≡ false)
          × (has_number here.owner here.number before.numbers ≡ false) × (in_range here.number ≡ true)
          → AreNew (with_member text before f.member) rest → AreNew before (here ∷ rest)
      step own h = record {
        each = λ g c. by g c.0 c.1 c.2;
        apart = (
          λ g c. let o = older before.fields before.numbers here.owner here.name here.number g (h.each g c) in
              record { name = o.1; number = o.2 },
          h.apart,
        );
      }
        where
          by : (g : FieldIn) (i : ℕ) → i < suc (length rest) → get_or (here ∷ rest) i g ≡ g
              → IsNew before.fields before.numbers g
          by g zero l is =
              subst (IsNew before.fields before.numbers) is (record { name = own.0; number = own.1; ranged = own.2 })
          by g (suc i) l is = (older before.fields before.numbers here.owner here.name here.number g
              (h.each g (i, omega (arith, l), is))).0
  fields_new before (lines.Unread m ∷ more) e =
      let h = fields_new (with_member text before m) more (later text known before (lines.Unread m) more e) in
      record {
        each = λ g c. (older before.fields before.numbers (owner_of before) (unreserved (text m.name)) m.number g
            (h.each g c)).0;
        apart = h.apart;
      }
  fields_new before (lines.Passed ∷ more) e =
      as_before before lines.Passed _
      (fields_new (with_others text before lines.Passed) more (later text known before lines.Passed more e))
  fields_new before (lines.Package n ∷ more) e =
      as_before before (lines.Package n) _
      (fields_new (with_others text before (lines.Package n)) more (later text known before (lines.Package n) more e))
  fields_new before (lines.Enum n ∷ more) e =
      as_before before (lines.Enum n) _
      (fields_new (with_others text before (lines.Enum n)) more (later text known before (lines.Enum n) more e))
  fields_new before (lines.Message n ∷ more) e =
      as_before before (lines.Message n) _
      (fields_new (with_others text before (lines.Message n)) more (later text known before (lines.Message n) more e))
  fields_new before (lines.End ∷ more) e =
      as_before before lines.End _
      (fields_new (with_others text before lines.End) more (later text known before lines.End more e))

-- ---- names of messages

-- a text is another one, whichever of the two stands first
pub turned : (a b : List ℕ) → bytes_eq a b ≡ false → bytes_eq b a ≡ false
turned a b e = by (bytes_eq b a) refl
  where
    by : (t : Bool) → bytes_eq b a ≡ t → bytes_eq b a ≡ false
    by true g = absurd (false≢true (sym e ∙ (bytes_eq-Decides a b).1 (sym ((bytes_eq-Decides b a).0 g))))
    by false g = g

-- the name of a message as programs see it
abbrev pub name_of : Scope → List ℕ
name_of s = unreserved s.joined

-- messages have names that aren't there before, and no two of them have the same
pub record AreNamed (taken : List (List ℕ)) (messages : List Scope) : Type 0 where
  pub each : (s : Scope) → Contains messages s → has_name (name_of s) taken ≡ false
  pub apart : are_distinct_texts (map name_of messages) ≡ true

none_is : (name : List ℕ) (messages : List Scope)
    → ((s : Scope) → Contains messages s → bytes_eq name (name_of s) ≡ false)
    → list_any (bytes_eq name) (map name_of messages) ≡ false
none_is name [] h = refl
none_is name (s ∷ messages) h =
    ap (λ b. b || list_any (bytes_eq name) (map name_of messages)) (h s (0, omega arith, refl))
    ∙ none_is name messages (λ t c. h t (suc c.0, omega (arith, c.1), c.2))

module _ (text : Spelling) (known : Known) where
  -- behind one name more
  behind_one : (taken : List (List ℕ)) (name : List ℕ) (messages : List Scope)
      → AreNamed (taken ++ name ∷ []) messages → AreNamed taken messages
  behind_one taken name messages h = record {
    each = λ s c. (any_before (bytes_eq (name_of s)) taken name (h.each s c)).0;
    apart = h.apart;
  }

  with_first : (taken : List (List ℕ)) (s : Scope) (messages : List Scope) → has_name (name_of s) taken ≡ false
      → AreNamed (taken ++ name_of s ∷ []) messages → AreNamed taken (s ∷ messages)
  with_first taken s messages e h = record {
    each = λ t c. by t c.0 c.1 c.2;
    apart = ap (λ b. not b && are_distinct_texts (map name_of messages))
        (none_is (name_of s) messages
        (λ t c. turned (name_of t) (name_of s) (any_before (bytes_eq (name_of t)) taken (name_of s) (h.each t c)).1))
        ∙ h.apart;
  }
    where
      by : (t : Scope) (i : ℕ) → i < suc (length messages) → get_or (s ∷ messages) i t ≡ t
          → has_name (name_of t) taken ≡ false
      by t zero l is = subst (λ x. has_name (name_of x) taken ≡ false) is e
      by t (suc i) l is = (any_before (bytes_eq (name_of t)) taken (name_of s) (h.each t (i, omega (arith, l), is))).0

  pub messages_named : (before : Before) (all : List Line) → first_fault text known before all ≡ None
      → AreNamed before.names (messages_in text before.around all)
  unfolding first_fault messages_in
  messages_named before [] e = record { each = λ s c. absurd (omega (arith, c.1)); apart = refl }
  messages_named before (lines.Message n ∷ more) e =
      with_first before.names (called before.around (text n)) _ (failed _ _ (none_first _ _ e))
      (messages_named (with_others text before (lines.Message n)) more
      (later text known before (lines.Message n) more e))
  messages_named before (lines.Enum n ∷ more) e =
      behind_one before.names _ _
      (messages_named (with_others text before (lines.Enum n)) more (later text known before (lines.Enum n) more e))
  messages_named before (lines.Field f ∷ more) e =
      messages_named (with_member text before f.member) more (later text known before (lines.Field f) more e)
  messages_named before (lines.Unread m ∷ more) e =
      messages_named (with_member text before m) more (later text known before (lines.Unread m) more e)
  messages_named before (lines.Passed ∷ more) e =
      messages_named (with_others text before lines.Passed) more (later text known before lines.Passed more e)
  messages_named before (lines.Package n ∷ more) e =
      messages_named (with_others text before (lines.Package n)) more (later text known before (lines.Package n) more e)
  messages_named before (lines.End ∷ more) e =
      messages_named (with_others text before lines.End) more (later text known before lines.End more e)

-- ---- what fields are kept with

-- a type that isn't a message's takes its encoding, as an array too
abbrev pub TakesCode : Plain → Type 0
TakesCode p =
    (takes_encoding p.code (shape_of p.kind) ≡ true) × (takes_encoding p.code (array (shape_of p.kind)) ≡ true)

same_plain : (p q : Plain) → sorts.Kept p ≡ sorts.Kept q → p ≡ q
same_plain p q e = cc

message_kept : (m : List ℕ) (p : Plain) → sorts.Message m ≡ sorts.Kept p → ⊥
message_kept m p e = absurd cc

unkept_kept : (p : Plain) → sorts.Unkept ≡ sorts.Kept p → ⊥
unkept_kept p e = absurd cc

scalar_takes : (s : Scalar) (p : Plain) → sort_of_plain (plain_of s) ≡ sorts.Kept p → TakesCode p
scalar_takes s p e = by s e
  where
    own : (q : Plain) → TakesCode q → sorts.Kept q ≡ sorts.Kept p → TakesCode p
    own q h g = subst TakesCode (same_plain q p g) h

    by : (s : Scalar) → sort_of_plain (plain_of s) ≡ sorts.Kept p → TakesCode p
    by scalars.Double g = absurd (unkept_kept p g)
    by scalars.Float g = absurd (unkept_kept p g)
    by scalars.Int32 g = own _ (refl, refl) g
    by scalars.Int64 g = own _ (refl, refl) g
    by scalars.Uint32 g = own _ (refl, refl) g
    by scalars.Uint64 g = own _ (refl, refl) g
    by scalars.Sint32 g = own _ (refl, refl) g
    by scalars.Sint64 g = own _ (refl, refl) g
    by scalars.Fixed32 g = own _ (refl, refl) g
    by scalars.Fixed64 g = own _ (refl, refl) g
    by scalars.Sfixed32 g = own _ (refl, refl) g
    by scalars.Sfixed64 g = own _ (refl, refl) g
    by scalars.Bool g = own _ (refl, refl) g
    by scalars.String g = own _ (refl, refl) g
    by scalars.Bytes g = own _ (refl, refl) g

sort_takes : (s : Option Scalar) (names : List (List ℕ)) (o : Option (List ℕ)) (p : Plain)
    → sort_by s names o ≡ sorts.Kept p → TakesCode p
sort_takes (Some s) names o p e = scalar_takes s p e
sort_takes None names None p e = absurd (unkept_kept p e)
sort_takes None names (Some n) p e = by (has_name n names) e
  where
    by : (b : Bool) → cond b (sorts.Message n) (sorts.Kept whole) ≡ sorts.Kept p → TakesCode p
    by true g = absurd (message_kept n p g)
    by false g = subst TakesCode (same_plain whole p g) (refl, refl)

pub field_takes : (text : Spelling) (known : Known) (names : List (List ℕ)) (around : List Scope) (all : List Line)
    (f : FieldIn) (p : Plain) → Contains (fields_in text known names around all) f
    → f.sort ≡ sorts.Kept p → TakesCode p
unfolding fields_in
field_takes text known names around [] f p c e = absurd (omega (arith, c.1))
field_takes text known names around (line ∷ more) f p c e =
    by (Contains-append_cases (field_by text known names around line)
    (fields_in text known names (around_after text around line) more) f c)
    (λ d. field_takes text known names (around_after text around line) more f p d e)
  where
    here : (l : Line) → Contains (field_by text known names around l) f → TakesCode p
    here (lines.Field g) d = first d.0 d.1 d.2
      where
        first : (i : ℕ) → i < 1 → get_or (field_in text known names around g ∷ []) i f ≡ f → TakesCode p
        first zero l is = sort_takes _ names _ p (ap (λ (x : FieldIn). x.sort) is ∙ e)
        first (suc i) l is = absurd (omega (arith, l))
    here lines.Passed d = absurd (omega (arith, d.1))
    here (lines.Package n) d = absurd (omega (arith, d.1))
    here (lines.Enum n) d = absurd (omega (arith, d.1))
    here (lines.Message n) d = absurd (omega (arith, d.1))
    here lines.End d = absurd (omega (arith, d.1))
    here (lines.Unread n) d = absurd (omega (arith, d.1))

    by : Contains (field_by text known names around line) f
        ⊎ Contains (fields_in text known names (around_after text around line) more) f
        → (Contains (fields_in text known names (around_after text around line) more) f → TakesCode p) → TakesCode p
    by (inl d) rest = here line d
    by (inr d) rest = rest d
