-- Numbers, strings and names in front of bytes.
use Rattle.std.proofs.Common.{◌≡◌, ◌∙◌, ◌≢◌, ℕ, ◌<◌, ◌≤◌, nat_le, true, true≢false, ◌&&◌, is_none, Option, Some, None, List, [], ◌∷◌, ◌++◌, length, take, drop, refl, sym, ap, subst, append_assoc, arith, take_at, drop_at, take-append-drop, length-take-le, length-append, leb-true, le-leb, IsUtf8, IsAscii}
use Rattle.std.specs.Int.{w32, w64}
use Rattle.std.proofs.lemmas.Bool.{and_parts, and_from}
use Rattle.std.proofs.lemmas.Bool.Decides.{nat_tests}
use Rattle.std.proofs.lemmas.Nat.{from_be_bytes-to_be_bytes_4, from_be_bytes-to_be_bytes_8}
use Rattle.std.proofs.lemmas.Str.{IsUtf8-from_ascii}
use Rattle.std.proofs.lemmas.Str.Ascii.{IsAscii-nil, IsAscii-cons}
use Rattle.sz_lex.specs.Classes.{is_letter, is_word}
use Rattle.sz_lex.specs.Lookup.{word_of}
use Rattle.sz_lex.specs.Tokens.{all_word, IsLexeme}
use Rattle.sz_lex.specs.Words.{word_text}
use Rattle.sz_lex.specs.declared.token.Kind.TheVariants as kinds
use Rattle.sz_lex.specs.declared.word.Word.{Word}
use Rattle.sz_lex.proofs.WordLemmas.{word_again, word_spells, letter_word}
use Rattle.sz_flat.specs.Spelling.{length_bytes, counted_bytes, IsShort}
use Rattle.sz_save_format.specs.Names.{HasName}
use Rattle.sz_save_format.specs.Entries.{count_bytes, IsCount}
use Rattle.sz_save_format.specs.Decoding.{only, length_at, string_at, is_name, name_at}
use Rattle.sz_save_format.specs.DecodingRows.{count_at}
use Rattle.sz_save_format.proofs.FrontLemmas.{Finds, only_some, only_true, found_is, found_first, first_there, fixed_finds}

pub length_finds : Finds IsShort length_bytes length_at
length_finds = fixed_finds w32 4 (λ n. refl) from_be_bytes-to_be_bytes_4

pub count_finds : Finds IsCount count_bytes count_at
count_finds = fixed_finds w64 8 (λ n. refl) from_be_bytes-to_be_bytes_8

pub string_finds : Finds (λ s. IsShort (length s)) counted_bytes string_at
unfolding string_at
string_finds = record { sound = go; again = there }
  where
    go : (flat s rest : List ℕ) → string_at flat ≡ Some (s, rest)
        → IsShort (length s) × (flat ≡ counted_bytes s ++ rest)
    go flat s rest e =
        let first = found_first length_finds flat
        (λ n mid. only (nat_le n (length mid)) (Some (take n mid, drop n mid))) (s, rest) e in
        let n = first.0 in
        let mid = first.1 in
        let parts = only_some (nat_le n (length mid)) (Some (take n mid, drop n mid)) (s, rest) first.4 in
        let same = found_is (take n mid) s (drop n mid) rest parts.1 in
        let long : length s ≡ n = ap length (sym same.0) ∙ length-take-le n mid (leb-true n (length mid) parts.0) in (
          subst IsShort (sym long) first.2,
          first.3 ∙ (λ i. length_bytes (sym long i) ++ sym (take-append-drop n mid) i)
              ∙ (λ i. length_bytes (length s) ++ (same.0 i ++ same.1 i))
              ∙ sym (append_assoc (length_bytes (length s)) s rest),
        )

    there : (s rest : List ℕ) → IsShort (length s) → string_at (counted_bytes s ++ rest) ≡ Some (s, rest)
    there s rest h =
        let n = length s in
        let mid = s ++ rest in
        let few : n ≤ length mid = let both = length-append s rest in omega (arith, both) in
        first_there length_finds n (counted_bytes s ++ rest) mid
        (λ n mid. only (nat_le n (length mid)) (Some (take n mid, drop n mid))) h
        (append_assoc (length_bytes n) s rest)
        ∙ only_true (nat_le n (length mid)) (Some (take n mid, drop n mid)) (le-leb n (length mid) few)
        ∙ (λ i. Some (take_at s rest n refl i, drop_at s rest n refl i))

-- a name is one whose test says so
no_word : (l : List ℕ) → is_none (word_of l) ≡ true → (w : Word) → l ≢ word_text w
no_word l none w is = true≢false (sym none ∙ ap is_none (ap word_of is ∙ word_again w))

none_found : (l : List ℕ) → ((w : Word) → l ≢ word_text w) → is_none (word_of l) ≡ true
none_found l h = by (word_of l) refl
  where
    by : (o : Option Word) → word_of l ≡ o → is_none o ≡ true
    by None e = refl
    by (Some w) e = absurd (h w (sym (word_spells l w e)))

pub name_told : (l : List ℕ) → is_name l ≡ true → IsLexeme kinds.Name l
unfolding is_name
name_told [] e = absurd (true≢false (sym e))
name_told (b ∷ l) e =
    let first = and_parts (is_letter b) (all_word l && is_none (word_of (b ∷ l))) e in
    let second = and_parts (all_word l) (is_none (word_of (b ∷ l))) first.1 in
    ((first.0, second.0), no_word (b ∷ l) second.1)

pub name_tells : (l : List ℕ) → IsLexeme kinds.Name l → is_name l ≡ true
unfolding is_name
name_tells [] h = absurd h.0
name_tells (b ∷ l) h =
    and_from (is_letter b) (all_word l && is_none (word_of (b ∷ l))) h.0.0
    (and_from (all_word l) (is_none (word_of (b ∷ l))) h.0.1 (none_found (b ∷ l) h.1))

word_is_low : (b : ℕ) → is_word b ≡ true → b < 128
word_is_low b h = grind (arith, nat_tests)

words_are_ascii : (l : List ℕ) → all_word l ≡ true → IsAscii l
words_are_ascii [] h = IsAscii-nil
words_are_ascii (b ∷ l) h = let p = and_parts (is_word b) (all_word l) h in
    IsAscii-cons b l (word_is_low b p.0) (words_are_ascii l p.1)

-- a name is UTF-8
pub name_is_utf8 : (l : List ℕ) → is_name l ≡ true → IsUtf8 l
unfolding is_name
name_is_utf8 [] e = absurd (true≢false (sym e))
name_is_utf8 (b ∷ l) e =
    let first = and_parts (is_letter b) (all_word l && is_none (word_of (b ∷ l))) e in
    let second = and_parts (all_word l) (is_none (word_of (b ∷ l))) first.1 in
    IsUtf8-from_ascii (b ∷ l) (IsAscii-cons b l (word_is_low b (letter_word b first.0)) (words_are_ascii l second.0))

pub name_finds : Finds HasName counted_bytes name_at
unfolding name_at
name_finds = record { sound = go; again = there }
  where
    go : (flat name rest : List ℕ) → name_at flat ≡ Some (name, rest)
        → HasName name × (flat ≡ counted_bytes name ++ rest)
    go flat name rest e =
        let first = found_first string_finds flat (λ s mid. only (is_name s) (Some (s, mid))) (name, rest) e in
        let parts = only_some (is_name first.0) (Some (first.0, first.1)) (name, rest) first.4 in
        let same = found_is first.0 name first.1 rest parts.1 in (
          subst HasName same.0 (record { short = first.2; is = name_told first.0 parts.0 }),
          first.3 ∙ (λ i. counted_bytes (same.0 i) ++ same.1 i),
        )

    there : (name rest : List ℕ) → HasName name → name_at (counted_bytes name ++ rest) ≡ Some (name, rest)
    there name rest h =
        first_there string_finds name (counted_bytes name ++ rest) rest
        (λ s mid. only (is_name s) (Some (s, mid))) h.short refl
        ∙ only_true (is_name name) (Some (name, rest)) (name_tells name h.is)
