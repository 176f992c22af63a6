-- Files by example: what is wrong with them, the names in them, and what their fields are.
use Rattle.std.proofs.Common.{◌≡◌, ℕ, List, [], ◌∷◌, None, Bool, true, false, refl, unwrap_or, slice_get}
use Rattle.std.specs.Prelude.{codes}
use Rattle.sz_types.specs.declared.encoding.Encoding.TheVariants as encodings
use Rattle.sz_protofile_lex.specs.declared.token.Token.{Token}
use Rattle.sz_protofile_lex.specs.declared.token.Kind.TheVariants as kinds
use Rattle.sz_protofile.specs.Reading.{Spelling}
use Rattle.sz_protofile.specs.declared.line.Line.{Line}
use Rattle.sz_protofile.specs.declared.line.Line.TheVariants as lines
use Rattle.sz_protofile.specs.Names.{messages_in}
use Rattle.sz_protofile.specs.Lookup.{behind, found_around, names_in, message_names_in, package_in}
use Rattle.sz_protofile.specs.Faults.{breaks, file_fault, first_fault}
use Rattle.sz_protofile.specs.declared.field.PlainKind.TheVariants as kinds_of
use Rattle.sz_protofile.specs.declared.field.Sort.TheVariants as sorts
use Rattle.sz_protofile.specs.Fields.{whole, fields_in}
use Rattle.sz_protofile.specs.Types.{all_fields}

-- the word of this number in a list of words, in line 1 at a column that is so much too
abbrev word : ℕ → Token
word n = record { kind = kinds.Word; place = record { line = 1; column = n }; start = n; len = 1 }

abbrev among : List (List ℕ) → Spelling
among words t = unwrap_or (slice_get words t.start) []

abbrev field : Bool → ℕ → ℕ → ℕ → Line
field repeated type name number = lines.Field (record {
  repeated = repeated;
  word = word type;
  member = record { name = word name; number = number };
})

-- ---- message Q { string country = 1; message P { sint64 d = 1; double x = 2; } repeated P type = 2; enum E { .. } Q.E k = 3; }

abbrev words : Spelling
words = among (codes "Q" ∷ codes "string" ∷ codes "country" ∷ codes "P" ∷ codes "sint64" ∷ codes "d" ∷
    codes "double" ∷ codes "x" ∷ codes "type" ∷ codes "E" ∷ codes "Q.E" ∷ codes "k" ∷ [])

abbrev file : List Line
file = lines.Message (word 0) ∷ field false 1 2 1 ∷ lines.Message (word 3) ∷ field false 4 5 1
    ∷ field false 6 7 2 ∷ lines.End ∷ field true 3 8 2 ∷ lines.Enum (word 9) ∷ field false 10 11 3 ∷ lines.End ∷ []

its_messages : messages_in words [] file
    ≡ record { full = codes "Q"; joined = codes "Q" } ∷ record { full = codes "Q.P"; joined = codes "Q_P" } ∷ []
unfolding messages_in
its_messages = refl

nothing_wrong : file_fault words file ≡ None
unfolding first_fault behind found_around names_in package_in
nothing_wrong = refl

its_fields : all_fields words file ≡
    record {
      owner = codes "Q";
      name = codes "country";
      number = 1;
      repeated = false;
      sort = sorts.Kept (record { kind = kinds_of.Str; code = encodings.Plain });
    } ∷
    record {
      owner = codes "Q.P";
      name = codes "d";
      number = 1;
      repeated = false;
      sort = sorts.Kept (record { kind = kinds_of.Whole; code = encodings.Zigzag });
    } ∷
    record { owner = codes "Q.P"; name = codes "x"; number = 2; repeated = false; sort = sorts.Unkept } ∷
    record {
      owner = codes "Q";
      name = codes "type_";
      number = 2;
      repeated = true;
      sort = sorts.Message (codes "Q.P");
    } ∷
    record { owner = codes "Q"; name = codes "k"; number = 3; repeated = false; sort = sorts.Kept whole } ∷ []
unfolding fields_in message_names_in behind found_around names_in package_in
its_fields = refl

-- ---- message A { B b = 1; } and its like

abbrev other_words : Spelling
other_words =
    among (codes "A" ∷ codes "B" ∷ codes "b" ∷ codes "a.p" ∷ codes ".a.p.A" ∷ codes "a.p.A" ∷ codes "p.A" ∷ [])

unknown_type : file_fault other_words (lines.Message (word 0) ∷ field false 1 2 1 ∷ lines.End ∷ [])
    ≡ breaks 5 (word 1) (codes "B")
unfolding first_fault behind found_around names_in package_in
unknown_type = refl

-- what only a second message of a name declares isn't found, and what stands behind that message is
second_declares : file_fault other_words (lines.Message (word 0) ∷ field false 1 2 1 ∷ lines.End ∷
    lines.Message (word 0) ∷ lines.Message (word 1) ∷ lines.End ∷ lines.End ∷ []) ≡ breaks 5 (word 1) (codes "B")
unfolding first_fault behind found_around names_in package_in
second_declares = refl

behind_the_second : file_fault other_words (lines.Message (word 0) ∷ field false 1 2 1 ∷ lines.End ∷
    lines.Message (word 0) ∷ lines.Message (word 2) ∷ lines.End ∷ lines.End ∷ lines.Enum (word 1) ∷ [])
    ≡ breaks 3 (word 0) (codes "A")
unfolding first_fault behind found_around names_in package_in
behind_the_second = refl

-- the package is taken off, behind a dot or by itself, and a part of it isn't
in_a_package : file_fault other_words
    (lines.Package (word 3) ∷ lines.Message (word 0) ∷ field false 4 1 1 ∷ field false 5 2 2 ∷ lines.End ∷ []) ≡ None
unfolding first_fault behind found_around names_in package_in
in_a_package = refl

in_part_of_it : file_fault other_words
    (lines.Package (word 3) ∷ lines.Message (word 0) ∷ field false 6 1 1 ∷ lines.End ∷ [])
    ≡ breaks 5 (word 6) (codes "p.A")
unfolding first_fault behind found_around names_in package_in
in_part_of_it = refl

-- of one field the name comes first, then the number, then the type
name_twice : file_fault other_words (lines.Message (word 0) ∷ field false 0 2 1 ∷ field false 1 2 1 ∷ lines.End ∷ [])
    ≡ breaks 3 (word 2) (codes "b")
unfolding first_fault behind found_around names_in package_in
name_twice = refl

number_twice : file_fault other_words
    (lines.Message (word 0) ∷ field false 0 2 1 ∷ field false 1 1 1 ∷ lines.End ∷ []) ≡ breaks 4 (word 1) (codes "B")
unfolding first_fault behind found_around names_in package_in
number_twice = refl

number_zero : file_fault other_words (lines.Message (word 0) ∷ field false 0 2 0 ∷ lines.End ∷ [])
    ≡ breaks 4 (word 2) (codes "b")
unfolding first_fault behind found_around names_in package_in
number_zero = refl

message_twice : file_fault other_words (lines.Message (word 0) ∷ lines.End ∷ lines.Enum (word 0) ∷ [])
    ≡ breaks 3 (word 0) (codes "A")
unfolding first_fault behind found_around names_in package_in
message_twice = refl
