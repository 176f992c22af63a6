-- The type of a field that has a message's is that of a message of the file.
use Rattle.std.proofs.Common.{◌≡◌, ℕ, zero, suc, ◌<◌, ◌⊎◌, inl, inr, Bool, true, false, ◌||◌, if◌then◌else◌, List, [], ◌∷◌, ◌++◌, Option, None, Some, bytes_eq, option_to_list, get_or, refl, sym, ap, ◌∙◌, arith}
use Rattle.std.specs.List.{Contains}
use Rattle.std.proofs.lemmas.Bool.{false≢true}
use Rattle.std.proofs.lemmas.List.Elements.{Contains-append_left, Contains-append_right, Contains-append_cases}
use Rattle.std.proofs.lemmas.Slice.Eq.{bytes_eq-Decides}
use Rattle.sz_protofile.specs.Reading.{Spelling}
use Rattle.sz_protofile.specs.declared.line.Line.{Line}
use Rattle.sz_protofile.specs.declared.line.Line.TheVariants as lines
use Rattle.sz_protofile.specs.declared.field.FieldIn.{FieldIn}
use Rattle.sz_protofile.specs.declared.field.Plain.{Plain}
use Rattle.sz_protofile.specs.declared.field.Sort.TheVariants as sorts
use Rattle.sz_protofile.specs.declared.scalar.Scalar.{Scalar}
use Rattle.sz_protofile.specs.declared.scope.Scope.{Scope}
use Rattle.sz_protofile.specs.Names.{has_name, message_by, messages_in, around_after}
use Rattle.sz_protofile.specs.Scalars.{plain_of}
use Rattle.sz_protofile.specs.Lookup.{Known, known_in, with_name, with_declared, message_names_in}
use Rattle.sz_protofile.specs.Fields.{whole, sort_of_plain, sort_of_name, sort_by, field_in, field_by, fields_in}
use Rattle.sz_protofile.specs.Types.{all_fields}

-- ---- the message of a field's type is among the names

same_message : (m n : List ℕ) → sorts.Message m ≡ sorts.Message n → m ≡ n
same_message m n e = cc

kept_message : (p : Plain) (m : List ℕ) → sorts.Kept p ≡ sorts.Message m → ⊥
kept_message p m e = absurd cc

unkept_message : (m : List ℕ) → sorts.Unkept ≡ sorts.Message m → ⊥
unkept_message m e = absurd cc

plain_target : (o : Option Plain) (m : List ℕ) → sort_of_plain o ≡ sorts.Message m → ⊥
plain_target None m e = unkept_message m e
plain_target (Some p) m e = kept_message p m e

name_target : (names : List (List ℕ)) (o : Option (List ℕ)) (m : List ℕ) → sort_of_name names o ≡ sorts.Message m
    → has_name m names ≡ true
name_target names None m e = absurd (unkept_message m e)
name_target names (Some n) m e = by (has_name n names) refl e
  where
    by : (b : Bool) → has_name n names ≡ b → (if b then sorts.Message n else sorts.Kept whole) ≡ sorts.Message m
        → has_name m names ≡ true
    by true is g = ap (λ x. has_name x names) (sym (same_message n m g)) ∙ is
    by false is g = absurd (kept_message whole m g)

sort_target : (s : Option Scalar) (names : List (List ℕ)) (o : Option (List ℕ)) (m : List ℕ)
    → sort_by s names o ≡ sorts.Message m → has_name m names ≡ true
sort_target (Some s) names o m e = absurd (plain_target (plain_of s) m e)
sort_target None names o m e = name_target names o m e

module _ (text : Spelling) (known : Known) (names : List (List ℕ)) where
  line_target : (around : List Scope) (line : Line) (f : FieldIn) (m : List ℕ)
      → Contains (field_by text known names around line) f → f.sort ≡ sorts.Message m → has_name m names ≡ true
  line_target around (lines.Field g) f m c e = by c.0 c.1 c.2
    where
      by : (i : ℕ) → i < 1 → get_or (field_in text known names around g ∷ []) i f ≡ f → has_name m names ≡ true
      by zero l is = sort_target _ names _ m (ap (λ (x : FieldIn). x.sort) is ∙ e)
      by (suc i) l is = absurd (omega (arith, l))
  line_target around lines.Passed f m c e = absurd (omega (arith, c.1))
  line_target around (lines.Package n) f m c e = absurd (omega (arith, c.1))
  line_target around (lines.Enum n) f m c e = absurd (omega (arith, c.1))
  line_target around (lines.Message n) f m c e = absurd (omega (arith, c.1))
  line_target around lines.End f m c e = absurd (omega (arith, c.1))
  line_target around (lines.Unread n) f m c e = absurd (omega (arith, c.1))

  fields_target : (around : List Scope) (all : List Line) (f : FieldIn) (m : List ℕ)
      → Contains (fields_in text known names around all) f → f.sort ≡ sorts.Message m → has_name m names ≡ true
  unfolding fields_in
  fields_target around [] f m c e = absurd (omega (arith, c.1))
  fields_target around (line ∷ more) f m c e =
      by (Contains-append_cases (field_by text known names around line)
      (fields_in text known names (around_after text around line) more) f c)
      (fields_target (around_after text around line) more f m)
    where
      by : Contains (field_by text known names around line) f
          ⊎ Contains (fields_in text known names (around_after text around line) more) f
          → (Contains (fields_in text known names (around_after text around line) more) f → f.sort ≡ sorts.Message m
          → has_name m names ≡ true) → has_name m names ≡ true
      by (inl d) rest = line_target around line f m d e
      by (inr d) rest = rest d e

-- ---- a name among those of the messages is that of one

-- a message of this full name is among these
abbrev IsAmong : List Scope → List ℕ → Type 0
IsAmong messages m = (s : Scope) × (Contains messages s) × (s.full ≡ m)

has_added : (m n : List ℕ) (names : List (List ℕ)) → has_name m (names ++ n ∷ []) ≡ true
    → (has_name m names ≡ true) ⊎ (m ≡ n)
has_added m n [] h = by (bytes_eq m n) refl h
  where
    by : (b : Bool) → bytes_eq m n ≡ b → (b || false) ≡ true → (false ≡ true) ⊎ (m ≡ n)
    by true e g = inr ((bytes_eq-Decides m n).0 e)
    by false e g = absurd (false≢true g)
has_added m n (x ∷ names) h = by (bytes_eq m x) (has_added m n names) h
  where
    by : (b : Bool) → (has_name m (names ++ n ∷ []) ≡ true → (has_name m names ≡ true) ⊎ (m ≡ n))
        → (b || has_name m (names ++ n ∷ [])) ≡ true → ((b || has_name m names) ≡ true) ⊎ (m ≡ n)
    by true rest g = inl refl
    by false rest g = rest g

has_with : (m n : List ℕ) (names : List (List ℕ)) → has_name m (with_name names n) ≡ true
    → (has_name m names ≡ true) ⊎ (m ≡ n)
has_with m n names h = by (has_name n names) h
  where
    by : (b : Bool) → has_name m (if b then names else names ++ n ∷ []) ≡ true → (has_name m names ≡ true) ⊎ (m ≡ n)
    by true g = inl g
    by false g = has_added m n names g

has_declared : (m : List ℕ) (o : Option Scope) (names : List (List ℕ)) → has_name m (with_declared names o) ≡ true
    → (has_name m names ≡ true) ⊎ IsAmong (option_to_list o) m
has_declared m None names h = inl h
has_declared m (Some s) names h = by (has_with m s.full names h)
  where
    by : (has_name m names ≡ true) ⊎ (m ≡ s.full) → (has_name m names ≡ true) ⊎ IsAmong (s ∷ []) m
    by (inl g) = inl g
    by (inr e) = inr (s, (0, omega arith, refl), sym e)

named_message : (text : Spelling) (names : List (List ℕ)) (around : List Scope) (all : List Line) (m : List ℕ)
    → has_name m (message_names_in text names around all) ≡ true
    → (has_name m names ≡ true) ⊎ IsAmong (messages_in text around all) m
unfolding message_names_in messages_in
named_message text names around [] m h = inl h
named_message text names around (line ∷ more) m h =
    by (named_message text (with_declared names (message_by text around line)) (around_after text around line) more m h)
  where
    here : (has_name m names ≡ true) ⊎ IsAmong (option_to_list (message_by text around line)) m
        → (has_name m names ≡ true) ⊎ IsAmong (messages_in text around (line ∷ more)) m
    here (inl g) = inl g
    here (inr a) =
        inr (
          a.0,
          Contains-append_left (option_to_list (message_by text around line))
              (messages_in text (around_after text around line) more) a.0 a.1,
          a.2,
        )

    by : (has_name m (with_declared names (message_by text around line)) ≡ true)
        ⊎ IsAmong (messages_in text (around_after text around line) more) m
        → (has_name m names ≡ true) ⊎ IsAmong (messages_in text around (line ∷ more)) m
    by (inl g) = here (has_declared m (message_by text around line) names g)
    by (inr a) =
        inr (
          a.0,
          Contains-append_right (option_to_list (message_by text around line))
              (messages_in text (around_after text around line) more) a.0 a.1,
          a.2,
        )

-- the type of a field that has a message's is that of a message of the file
pub target_of : (text : Spelling) (all : List Line) (f : FieldIn) (m : List ℕ) → Contains (all_fields text all) f
    → f.sort ≡ sorts.Message m → IsAmong (messages_in text [] all) m
target_of text all f m c e =
    by (named_message text [] [] all m
    (fields_target text (known_in text all) (message_names_in text [] [] all) [] all f m c e))
  where
    by : (false ≡ true) ⊎ IsAmong (messages_in text [] all) m → IsAmong (messages_in text [] all) m
    by (inl g) = absurd (false≢true g)
    by (inr a) = a
