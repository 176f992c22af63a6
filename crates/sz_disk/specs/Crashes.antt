-- What a crash may leave of a disk.
use Rattle.std.specs.Prelude.{◌≡◌, ℕ, ◌+◌, ◌<◌, ◌≤◌, max, Bool, true, false, ◌&&◌, nat_lt, nat_le, List, [], ◌∷◌, length, slice_index, ⊤}
use Rattle.std.specs.List.{list_any}
use Rattle.sz_disk.specs.declared.span.Span.{Span}

-- this place lies in the span
abbrev pub covers : ℕ → Span → Bool
covers place span = nat_le span.at place && nat_lt place (span.at + span.count)

-- this place lies in one of the spans
abbrev pub is_in_some : List Span → ℕ → Bool
is_in_some spans place = list_any (covers place) spans

-- how long a disk of this length is once these spans are written
abbrev pub length_after : ℕ → List Span → ℕ
length_after count [] = count
length_after count (span ∷ spans) = length_after (max count (span.at + span.count)) spans

-- What a crash may leave of the bytes that stood at the last sync, where these spans were written since: any bytes in
-- each span and past the old end, any length from the old one to the new one, and all other bytes as they were.
pub record Torn (spans : List Span) (synced image : List ℕ) : Type 0 where
  pub no_shorter : length synced ≤ length image
  pub no_longer : length image ≤ length_after (length synced) spans
  pub same : (place : ℕ) → place < length synced → is_in_some spans place ≡ false
      → slice_index image place ≡ slice_index synced place

-- the images that a crash may leave, where they are told
pub data Images : Type 1 where
  untold : Images
  told : (List ℕ → Type 0) → Images

-- whether they are told
abbrev pub are_told : Images → Bool
are_told untold = false
are_told (told images) = true

-- a crash may leave this image; where nothing is told, it may be any
abbrev pub MayBe : Images → List ℕ → Type 0
MayBe untold image = ⊤
MayBe (told images) image = images image

-- a crash leaves this image and no other, where that is told
abbrev pub IsTheImage : Images → List ℕ → Type 0
IsTheImage untold bytes = ⊤
IsTheImage (told images) bytes = (image : List ℕ) → images image → image ≡ bytes
