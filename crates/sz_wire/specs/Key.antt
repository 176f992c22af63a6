-- Keys: a varint of which the low three bits are a wire type and the others a field's number.
use Rattle.std.specs.Prelude.{ℕ, ◌/◌, ◌%◌, ◌^◌, List, Option, Some, None, Bool, ◌&&◌, nat_lt}
use Rattle.std.specs.Option.{option_and_then}
use Rattle.std.specs.Prelude.{if◌then◌else◌}
use Rattle.sz_wire.specs.Varint.{varint_at}

-- a field's number and a wire type
pub record Key : Type 0 where
  pub number : ℕ
  pub wire : ℕ

-- the key that stands in a number
abbrev pub key_in : ℕ → Key
key_in n = record { number = n / 8; wire = n % 8 }

-- a number from 1 to 2^29 - 1, and a wire type from 0 to 5
abbrev pub is_key : Key → Bool
is_key key = nat_lt 0 key.number && nat_lt key.number (2 ^ 29) && nat_lt key.wire 6

-- the key at the front, and what follows it
unfoldable pub key_at : List ℕ → Option (Key × List ℕ)
key_at bytes = option_and_then
    (λ (found : ℕ × List ℕ). if is_key (key_in found.0) then Some (key_in found.0, found.1) else None) (varint_at bytes)
