-- Bytes that are a text.
use Rattle.std.specs.Str.{is_utf8, IsUtf8}
use Rattle.std.proofs.lemmas.Str.{is_utf8-from_IsUtf8}
use Rattle.std.proofs.Common.{◌≡◌, ℕ, List, true}

-- bytes that are UTF-8 are a text
pub is_text : (s : List ℕ) → IsUtf8 s → is_utf8 s ≡ true
is_text s u = is_utf8-from_IsUtf8 s u
