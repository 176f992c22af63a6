-- The fields of a file's types have names that a program can have.
use Rattle.std.proofs.Common.{
  ◌≡◌,
  ◌≢◌,
  ◌⊎◌,
  inl,
  inr,
  ℕ,
  zero,
  suc,
  ◌+◌,
  ◌<◌,
  ◌≤◌,
  Bool,
  true,
  false,
  ◌&&◌,
  if◌then◌else◌,
  List,
  [],
  ◌∷◌,
  ◌++◌,
  length,
  map,
  take,
  drop,
  get_or,
  codes,
}
use Rattle.std.proofs.Common.{Option, Some, None, refl, sym, ap, subst, ◌∙◌, arith, length-append}
use Rattle.std.specs.List.{Contains}
use Rattle.std.specs.Option.{is_some}
use Rattle.std.specs.Str.{is_utf8}
use Rattle.std.proofs.lemmas.Bool.{and_parts, and_from}
use Rattle.std.proofs.lemmas.Bool.Decides.{nat_tests}
use Rattle.std.proofs.lemmas.List.Elements.{Contains-append_cases}
use Rattle.std.proofs.lemmas.Str.{IsUtf8-from_ascii, is_utf8-from_IsUtf8}
use Rattle.std.proofs.lemmas.Str.Ascii.{IsAscii-nil, IsAscii-cons}
use Rattle.std.proofs.Common.{IsAscii}
use Rattle.sz_types.specs.Data as data_of
use Rattle.sz_types.specs.Data.{Shape, FieldShape, fields_of}
use Rattle.sz_types.specs.declared.encoding.Encoding.{Encoding}
use Rattle.sz_types.specs.declared.encoding.Encoding.TheVariants as encodings
use Rattle.sz_lex.specs.Classes.{is_letter, is_word}
use Rattle.sz_lex.specs.Lookup.{word_of}
use Rattle.sz_lex.specs.Tokens.{all_word, IsName, IsLexeme}
use Rattle.sz_lex.specs.Words.{word_text}
use Rattle.sz_lex.specs.declared.token.Kind.TheVariants as kinds
use Rattle.sz_lex.specs.declared.word.Word.{Word}
use Rattle.sz_lex.specs.declared.word.Word.TheVariants as words
use Rattle.sz_lex.proofs.WordLemmas.{word_again, word_spells, letter_word}
use Rattle.sz_protofile_lex.specs.declared.token.Token.{Token}
use Rattle.sz_protofile_lex.specs.Lexemes.{lexeme_of}
use Rattle.sz_protofile.specs.Reading.{is_name}
use Rattle.sz_protofile.specs.declared.line.Line.{Line}
use Rattle.sz_protofile.specs.declared.line.Line.TheVariants as lines
use Rattle.sz_protofile.specs.declared.field.FieldIn.{FieldIn}
use Rattle.sz_protofile.specs.declared.field.PlainKind.{PlainKind}
use Rattle.sz_protofile.specs.declared.field.PlainKind.TheVariants as plain_kinds
use Rattle.sz_protofile.specs.declared.scope.Scope.{Scope}
use Rattle.sz_protofile.specs.declared.field.Sort.TheVariants as sorts
use Rattle.sz_protofile.specs.Names.{spelled, unreserved, messages_in, around_after}
use Rattle.sz_protofile.specs.Scalars.{shape_of}
use Rattle.sz_protofile.specs.Lookup.{Known, known_in, message_names_in}
use Rattle.sz_protofile.specs.Fields.{as_field, field_by, fields_in, nothing, plainly, again, once, Makes, none, own, other}
use Rattle.sz_protofile.specs.Types.{TypeShape, all_fields, AreTypes, field_count, field_counts, HasTypes}
use Rattle.sz_protofile_types.proofs.ForCallers.{target_of}
use Rattle.sz_protofile_types.specs.Named.{IsFieldName, AreNamed, FieldsAreNamed}
use Rattle.sz_protofile_types.proofs.NamedLines.{AllNamed, lines_named}

-- ---- a name of the grammar is text, and one that a program can have once a reserved word has its underscore

word_is_low : (b : ℕ) → is_word b ≡ true → b < 128
word_is_low b h = grind (arith, nat_tests)

words_are_ascii : (l : List ℕ) → all_word l ≡ true → IsAscii l
words_are_ascii [] h = IsAscii-nil
words_are_ascii (b ∷ l) h = let p = and_parts (is_word b) (all_word l) h in
    IsAscii-cons b l (word_is_low b p.0) (words_are_ascii l p.1)

is_text : (l : List ℕ) → is_name l ≡ true → is_utf8 l ≡ true
is_text [] e = absurd cc
is_text (b ∷ l) e =
    let p = and_parts (is_letter b) (all_word l) e in
    is_utf8-from_IsUtf8 (b ∷ l)
    (IsUtf8-from_ascii (b ∷ l) (IsAscii-cons b l (word_is_low b (letter_word b p.0)) (words_are_ascii l p.1)))

all_and_one : (l : List ℕ) → all_word l ≡ true → all_word (l ++ codes "_") ≡ true
all_and_one [] h = refl
all_and_one (b ∷ l) h =
    let p = and_parts (is_word b) (all_word l) h in
    and_from (is_word b) (all_word (l ++ codes "_")) p.0 (all_and_one l p.1)

name_and_one : (l : List ℕ) → is_name l ≡ true → IsName (l ++ codes "_")
name_and_one [] e = absurd cc
name_and_one (b ∷ l) e = let p = and_parts (is_letter b) (all_word l) e in (p.0, all_and_one l p.1)

is_a_name : (l : List ℕ) → is_name l ≡ true → IsName l
is_a_name [] e = absurd cc
is_a_name (b ∷ l) e = and_parts (is_letter b) (all_word l) e

-- no reserved word is another one with an underscore
no_longer_word : (w : Word) → word_of (word_text w ++ codes "_") ≡ None
no_longer_word w = elim w as (λ (w : Word). word_of (word_text w ++ codes "_") ≡ None) [ words.All ↦ refl | _ ↦ refl ]

no_word : (l : List ℕ) → word_of l ≡ None → (w : Word) → l ≢ word_text w
no_word l e w is = let found = ap word_of is ∙ word_again w in let both = sym e ∙ found in absurd cc

free_name : (l : List ℕ) → is_name l ≡ true → IsLexeme kinds.Name (unreserved l)
free_name l e = by (word_of l) refl
  where
    by : (o : Option Word) → word_of l ≡ o → IsLexeme kinds.Name (if is_some o then l ++ codes "_" else l)
    by None is = (is_a_name l e, no_word l is)
    by (Some w) is = (
      name_and_one l e,
      no_word (l ++ codes "_") (ap (λ x. word_of (x ++ codes "_")) (sym (word_spells l w is)) ∙ no_longer_word w),
    )

free_long : (l : List ℕ) (n : ℕ) → length l ≤ n → length (unreserved l) ≤ n + 1
free_long l n h = by (is_some (word_of l))
  where
    by : (b : Bool) → length (if b then l ++ codes "_" else l) ≤ n + 1
    by true = omega (arith, h, length-append l (codes "_"))
    by false = omega (arith, h)

-- a word's bytes are some of the file's
take_few : (n : ℕ) (xs : List ℕ) → length (take n xs) ≤ length xs
take_few zero xs = omega arith
take_few (suc n) [] = omega arith
take_few (suc n) (x ∷ xs) = let h = take_few n xs in omega (arith, h)

drop_few : (n : ℕ) (xs : List ℕ) → length (drop n xs) ≤ length xs
drop_few zero xs = omega arith
drop_few (suc n) [] = omega arith
drop_few (suc n) (x ∷ xs) = let h = drop_few n xs in omega (arith, h)

lexeme_long : (bytes : List ℕ) (t : Token) → length (lexeme_of bytes t) ≤ length bytes
lexeme_long bytes t =
    let taken = take_few t.len (drop t.start bytes) in
    let dropped = drop_few t.start bytes in
    omega (arith, taken, dropped)

module _ (bytes : List ℕ) where
  most : ℕ
  most = length bytes + 1

  spelled_name : (t : Token) → is_name (lexeme_of bytes t) ≡ true → IsFieldName most (unreserved (spelled bytes t))
  unfolding most
  spelled_name t e =
      subst (λ x. IsFieldName (length bytes + 1) (unreserved x)) (sym same)
      (record {
        is = free_name (lexeme_of bytes t) e;
        few = free_long (lexeme_of bytes t) (length bytes) (lexeme_long bytes t);
      })
    where
      same : spelled bytes t ≡ lexeme_of bytes t
      same = ap (λ b. if b then lexeme_of bytes t else []) (is_text (lexeme_of bytes t) e)

  -- ---- all fields have such names

  module _ (known : Known) (names : List (List ℕ)) where
    abbrev HaveNames : List FieldIn → Type 0
    HaveNames fields = (f : FieldIn) → Contains fields f → IsFieldName most f.name

    one_has : (g : FieldIn) → IsFieldName most g.name → HaveNames (g ∷ [])
    one_has g h f c = by c.0 c.1 c.2
      where
        by : (i : ℕ) → i < 1 → get_or (g ∷ []) i f ≡ f → IsFieldName most f.name
        by zero l is = subst (λ (x : FieldIn). IsFieldName most x.name) is h
        by (suc i) l is = absurd (omega (arith, l))

    fields_have : (around : List Scope) (all : List Line) → AllNamed (lexeme_of bytes) all
        → HaveNames (fields_in (spelled bytes) known names around all)
    unfolding fields_in
    fields_have around [] h f c = absurd (omega (arith, c.1))
    fields_have around (lines.Field g ∷ more) h f c =
        by (Contains-append_cases (field_by (spelled bytes) known names around (lines.Field g))
        (fields_in (spelled bytes) known names (around_after (spelled bytes) around (lines.Field g)) more) f c)
        (fields_have (around_after (spelled bytes) around (lines.Field g)) more h.1 f)
      where
        by : Contains (field_by (spelled bytes) known names around (lines.Field g)) f
            ⊎ Contains
            (fields_in (spelled bytes) known names (around_after (spelled bytes) around (lines.Field g)) more) f
            → (Contains (fields_in (spelled bytes) known names
            (around_after (spelled bytes) around (lines.Field g)) more) f → IsFieldName most f.name)
            → IsFieldName most f.name
        by (inl d) rest = one_has _ (spelled_name g.member.name h.0) f d
        by (inr d) rest = rest d
    fields_have around (lines.Passed ∷ more) h f c = fields_have _ more h.1 f c
    fields_have around (lines.Package n ∷ more) h f c = fields_have _ more h.1 f c
    fields_have around (lines.Enum n ∷ more) h f c = fields_have _ more h.1 f c
    fields_have around (lines.Message n ∷ more) h f c = fields_have _ more h.1 f c
    fields_have around (lines.End ∷ more) h f c = fields_have _ more h.1 f c
    fields_have around (lines.Unread m ∷ more) h f c = fields_have _ more h.1 f c

  -- ---- and so have those of types

  plain_named : (k : PlainKind) → AreNamed most (shape_of k)
  plain_named plain_kinds.Truth = tt
  plain_named plain_kinds.Whole = tt
  plain_named plain_kinds.Str = tt
  plain_named plain_kinds.Bytes = tt

  put_named : (f : FieldIn) (s : Shape) (code : Encoding) (rest : List FieldShape) → IsFieldName most f.name
      → AreNamed most s → FieldsAreNamed most (fields_of rest)
      → FieldsAreNamed most (fields_of (as_field f s code ∷ rest))
  put_named f s code rest n h k = by f.repeated
    where
      by : (b : Bool) → IsFieldName most f.name × AreNamed most (if b then data_of.array s else s)
          × FieldsAreNamed most (fields_of rest)
      by true = (n, h, k)
      by false = (n, h, k)

  repeated_count : (b : Bool) (s : Shape) → field_count (if b then data_of.array s else s) ≡ field_count s
  repeated_count true s = refl
  repeated_count false s = refl

  module _ (all : List FieldIn) (types : List ℕ → Shape) (n : ℕ) (owner : List ℕ)
      (have : (f : FieldIn) → Contains all f → IsFieldName most f.name)
      (lower : (f : FieldIn) (m : List ℕ) → Contains all f → f.sort ≡ sorts.Message m → field_count (types m) < n
      → AreNamed most (types m)) where
    abbrev Among : List FieldIn → Type 0
    Among fields = (f : FieldIn) → Contains fields f → Contains all f

    tail_among : (f : FieldIn) (more : List FieldIn) → Among (f ∷ more) → Among more
    tail_among f more among g c = among g (suc c.0, omega (arith, c.1), c.2)

    head_among : (f : FieldIn) (more : List FieldIn) → Among (f ∷ more) → Contains all f
    head_among f more among = among f (0, omega arith, refl)

    makes_named : (fields : List FieldIn) (made : List FieldShape) → Among fields → field_counts (fields_of made) ≤ n
        → Makes all types owner fields made → FieldsAreNamed most (fields_of made)
    makes_named fields made among few none = tt
    makes_named fields made among few (other f more rest o w) = makes_named more rest (tail_among f more among) few w
    makes_named fields made among few (own f more added rest o (nothing e) w) =
        makes_named more rest (tail_among f more among) few w
    makes_named fields made among few (own f more added rest o (again m e r) w) =
        makes_named more rest (tail_among f more among) few w
    makes_named fields made among few (own f more added rest o (plainly p e) w) =
        put_named f (shape_of p.kind) p.code rest (have f (head_among f more among)) (plain_named p.kind)
        (makes_named more rest (tail_among f more among) (omega (arith, few)) w)
    makes_named fields made among few (own f more added rest o (once m e r) w) =
        put_named f (types m) encodings.Plain rest (have f (head_among f more among))
        (lower f m (head_among f more among) e (omega (arith, few, repeated_count f.repeated (types m))))
        (makes_named more rest (tail_among f more among) (omega (arith, few)) w)

  module _ (all : List Line) (types : List ℕ → Shape) (are : AreTypes (spelled bytes) all types)
      (have : (f : FieldIn) → Contains (all_fields (spelled bytes) all) f → IsFieldName most f.name) where
    below : (n : ℕ) (s : Scope) → Contains (messages_in (spelled bytes) [] all) s → field_count (types s.full) < n
        → AreNamed most (types s.full)
    below zero s c l = absurd (omega (arith, l))
    below (suc n) s c l =
        let a = are s c in
        subst (AreNamed most) (sym a.2)
        (makes_named (all_fields (spelled bytes) all) types n s.full have
        (λ f m d e k.
        let t = target_of (spelled bytes) all f m d e in
        subst
        (λ x. AreNamed most (types x)) t.2 (below n t.0 t.1 (omega (arith, k, ap (λ x. field_count (types x)) t.2))))
        (all_fields (spelled bytes) all) a.0 (λ f d. d) (omega (arith, l, ap field_count a.2)) a.1)

    types_named : (s : Scope) → Contains (messages_in (spelled bytes) [] all) s → AreNamed most (types s.full)
    types_named s c = below (suc (field_count (types s.full))) s c (omega arith)

  each_of : (f : Scope → TypeShape) (l : List Scope) → ((s : Scope) → Contains l s → AreNamed most (f s).shape)
      → (t : TypeShape) → Contains (map f l) t → AreNamed most t.shape
  each_of f l h t c = by l h c.0 c.1 c.2
    where
      by : (l : List Scope) → ((s : Scope) → Contains l s → AreNamed most (f s).shape) → (i : ℕ)
          → i < length (map f l) → get_or (map f l) i t ≡ t → AreNamed most t.shape
      by [] h i k is = absurd (omega (arith, k))
      by (s ∷ l) h zero k is = subst (λ (x : TypeShape). AreNamed most x.shape) is (h s (0, omega arith, refl))
      by (s ∷ l) h (suc i) k is = by l (λ x d. h x (suc d.0, omega (arith, d.1), d.2)) i (omega (arith, k)) is

  pub fields_have_names : (types : List TypeShape) → HasTypes bytes types → (t : TypeShape) → Contains types t
      → AreNamed (length bytes + 1) t.shape
  unfolding most
  fields_have_names types h t c =
      let have = fields_have (known_in (spelled bytes) h.all) (message_names_in (spelled bytes) [] [] h.all) [] h.all
      (lines_named (lexeme_of bytes) 0 0 h.all h.sound.lines.tokens [] h.sound.lines.reads) in
      each_of (λ s. record { name = unreserved s.joined; shape = h.types s.full })
      (messages_in (spelled bytes) [] h.all)
      (λ s d. types_named h.all h.types h.are have s d) t (subst (λ ts. Contains ts t) h.answer_is c)
