-- Bytes as a string.
use Rattle.std.proofs.Common.{◌≡◌, ℕ, Bool, true, false, if◌then◌else◌, Some, None, List, refl, ap}
use Rattle.std.specs.Str.{is_utf8, IsUtf8}
use Rattle.std.proofs.lemmas.Str.{is_utf8-from_IsUtf8, IsUtf8-from_is_utf8}
use Rattle.sz_value.specs.Data.{str}

pub text_there : (s : List ℕ) → IsUtf8 s → (if is_utf8 s then Some (str s) else None) ≡ Some (str s)
text_there s u = ap (λ b. if b then Some (str s) else None) (is_utf8-from_IsUtf8 s u)

pub no_text : (s : List ℕ) → ¬ (IsUtf8 s) → (if is_utf8 s then Some (str s) else None) ≡ None
no_text s n = at (is_utf8 s) refl
  where
    at : (b : Bool) → is_utf8 s ≡ b → (if b then Some (str s) else None) ≡ None
    at true e = absurd (n (IsUtf8-from_is_utf8 s e))
    at false e = refl
