-- Bytes of a file that are dropped, piece by piece.
use Rattle.std.proofs.Common.{◌≡◌, ℕ, ◌+◌, ◌-◌, ◌≤◌, List, ◌++◌, length, Option, arith, length-append}
use Rattle.std.proofs.KnownBytes.{Consumes-trans}
use Rattle.std.specs.Io.KnownBytes.{Consumes}

-- of so many bytes all but those that are left were dropped
pub record HasDropped (before after : Option (List ℕ)) (bytes left : ℕ) : Type 0 where
  pub dropped : List ℕ
  pub consumed : Consumes before after dropped
  pub counted : length dropped + left ≡ bytes

-- a piece more
pub drops_more : (start before after : Option (List ℕ)) (bytes left count : ℕ) (piece : List ℕ) → HasDropped start before bytes left
    → Consumes before after piece → length piece ≡ count → count ≤ left → HasDropped start after bytes (left - count)
drops_more start before after bytes left count piece has more counted within = record {
  dropped = has.dropped ++ piece;
  consumed = Consumes-trans start before after has.dropped piece has.consumed more;
  counted = omega (arith, has.counted, counted, within, length-append has.dropped piece);
}
