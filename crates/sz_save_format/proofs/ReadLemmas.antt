-- What is read of texts, maps and tuples.
use Rattle.std.proofs.Common.{◌≡◌, ◌∙◌, ℕ, ◌≤◌, ◌<◌, ◌==◌, Bool, true, false, Option, Some, None, List, [], ◌∷◌, length, map, get_or, zero, suc, refl, sym, ap, arith, eq-eqb, IsUtf8}
use Rattle.std.specs.Str.{is_utf8}
use Rattle.std.proofs.lemmas.Str.{IsUtf8-from_is_utf8, is_utf8-from_IsUtf8}
use Rattle.sz_types.specs.Data.{fields_of}
use Rattle.sz_types.specs.Seen.{seen, seen_field}
use Rattle.sz_types.specs.declared.ty.Field.{Field}
use Rattle.sz_value.specs.Data.{Datum, str, tuple, mapping, data_of, entries_of}
use Rattle.sz_value.specs.Maps.{with_pairs}
use Rattle.sz_flat.proofs.RisingLemmas.{made_of_rising}
use Rattle.sz_save_format.specs.Types.{height, tallest}
use Rattle.sz_save_format.specs.Entries.{in_order}
use Rattle.sz_save_format.specs.Decoding.{Decoder, and_then, only, length_at, tag_at, tagged, counted_at, string_at}
use Rattle.sz_save_format.specs.DecodingRows.{text_at, pair_at, key_may_follow, mapping_at, tuple_at}
use Rattle.sz_save_format.proofs.FrontLemmas.{only_true}
use Rattle.sz_save_format.proofs.ValueLemmas.{ordered_rise}

abbrev text_behind : List ℕ → List ℕ → Option (Datum × List ℕ)
text_behind s more = only (is_utf8 s) (Some (str s, more))

pub text_read : (flat mid s rest : List ℕ) → tag_at 4 flat ≡ Some (0, mid) → string_at mid ≡ Some (s, rest) → IsUtf8 s
    → tagged 4 text_at flat ≡ Some (str s, rest)
unfolding text_at
text_read flat mid s rest e f utf8 =
    ap (λ o. and_then o (λ _ l. and_then (string_at l) text_behind)) e ∙ ap (λ o. and_then o text_behind) f
    ∙ only_true (is_utf8 s) (Some (str s, rest)) (is_utf8-from_IsUtf8 s utf8)

pub text_refused : (flat mid s rest : List ℕ) → tag_at 4 flat ≡ Some (0, mid) → string_at mid ≡ Some (s, rest)
    → ¬ (IsUtf8 s) → tagged 4 text_at flat ≡ None
unfolding text_at
text_refused flat mid s rest e f bad =
    ap (λ o. and_then o (λ _ l. and_then (string_at l) text_behind)) e ∙ ap (λ o. and_then o text_behind) f
    ∙ by (is_utf8 s) refl
  where
    by : (b : Bool) → is_utf8 s ≡ b → only {X = Datum × List ℕ} b (Some (str s, rest)) ≡ None
    by true is = absurd (bad (IsUtf8-from_is_utf8 s is))
    by false is = refl

pub map_read : (key value : Decoder Datum) (flat mid : List ℕ) (ps made : List (Datum × Datum)) (rest : List ℕ)
    → tag_at 8 flat ≡ Some (0, mid) → counted_at (pair_at key value) mid ≡ Some (ps, rest)
    → in_order key_may_follow ps ≡ true → made ≡ with_pairs [] ps
    → tagged 8 (mapping_at key value) flat ≡ Some (mapping (entries_of made), rest)
unfolding mapping_at
map_read key value flat mid ps made rest e f rise is =
    ap (λ o. and_then o (λ _ l. mapping_at key value l)) e
    ∙ ap (λ o. and_then o (λ qs more. only (in_order key_may_follow qs) (Some (mapping (entries_of qs), more)))) f
    ∙ only_true (in_order key_may_follow ps) (Some (mapping (entries_of ps), rest)) rise
    ∙ (λ i. Some (mapping (entries_of (sym (is ∙ made_of_rising ps (ordered_rise ps rise)) i)), rest))

module _ (count : ℕ) (parts : Decoder (List Datum)) (flat mid : List ℕ) (n : ℕ) (behind : List ℕ)
    (e : tag_at 7 flat ≡ Some (0, mid))
    (f : length_at mid ≡ Some (n, behind)) where
  abbrev count_behind : ℕ → List ℕ → Option (Datum × List ℕ)
  count_behind m more = only (m == count) (and_then (parts more) (λ ds end. Some (tuple (data_of ds), end)))

  to_count : tagged 7 (tuple_at count parts) flat ≡ count_behind n behind
  unfolding tuple_at
  to_count = ap (λ o. and_then o (λ _ l. tuple_at count parts l)) e ∙ ap (λ o. and_then o count_behind) f

  pub tuple_refused : ¬ (n ≡ count) → tagged 7 (tuple_at count parts) flat ≡ None
  tuple_refused apart = to_count ∙ by (n == count) refl
    where
      by : (b : Bool) → (n == count) ≡ b
          → only b (and_then (parts behind) (λ ds end. Some (tuple (data_of ds), end))) ≡ None
      by true is = absurd (apart (grind (arith, is)))
      by false is = refl

  pub tuple_read : (ds : List Datum) (rest : List ℕ) → n ≡ count → parts behind ≡ Some (ds, rest)
      → tagged 7 (tuple_at count parts) flat ≡ Some (tuple (data_of ds), rest)
  tuple_read ds rest same g =
      to_count ∙ only_true (n == count) (and_then (parts behind) (λ es end. Some (tuple (data_of es), end)))
      (eq-eqb n count same) ∙ ap (λ o. and_then o (λ es end. Some (tuple (data_of es), end))) g

-- no field's type is higher than the highest
pub field_low : (fields : List Field) (i : ℕ) (f : Field) → i < length fields → f ≡ get_or fields i f
    → height (seen f.ty) ≤ tallest (fields_of (map seen_field fields))
field_low [] i f less is = absurd (omega (arith, less))
field_low (g ∷ fields) zero f less is = omega (arith, ap (λ (h : Field). height (seen h.ty)) is)
field_low (g ∷ fields) (suc i) f less is = omega (arith, field_low fields i f (omega (arith, less)) is)
