-- Places of characters in texts, counted from 0.
use Rattle.std.specs.Prelude.{◌≡◌, ℕ, ◌*◌, ◌<◌, List, ◌++◌, length, drop, slice_index, chars, encode_utf8_all, IsUtf8}
use Rattle.std.specs.Str.{IsCharBoundary}

-- the rest is what stands in the text after its first `count` characters
pub record IsRestAfter (count : ℕ) (text rest : List ℕ) : Type 0 where
  pub front : List ℕ
  pub many : length front ≡ count
  pub whole : text ≡ encode_utf8_all front ++ rest
  pub characters : chars text ≡ front ++ chars rest
  pub utf8 : IsUtf8 rest

-- the place in the text's bytes at which its first `count` characters end
pub record IsMark (count : ℕ) (text : List ℕ) (place : ℕ) : Type 0 where
  pub cut : IsCharBoundary text place
  pub rest : IsRestAfter count text (drop place text)

-- the places at which 0, 64, 128 characters end, and so on
pub record AreMarks (text places : List ℕ) : Type 0 where
  pub some : 0 < length places
  pub each : (i : ℕ) → i < length places → IsMark (64 * i) text (slice_index places i)
