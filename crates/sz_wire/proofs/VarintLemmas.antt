-- The number that is read byte by byte is the number that the bytes spell.
use Rattle.std.proofs.Common.{◌≡◌, ℕ, suc, ◌+◌, ◌*◌, ◌-◌, ◌%◌, ◌^◌, ◌<◌, ◌≤◌, List, length, drop, get_or, Option, Some}
use Rattle.std.proofs.Common.{None, Bool, true, false, cond, ltb, refl, sym, ap, ◌∙◌, arith}
use Rattle.std.proofs.Math.ListN.{drop_of_length-le}
use Rattle.std.proofs.Math.Nat.{add-mod-mod, mod-add-mod, mod-eq_of_lt}
use Rattle.std.proofs.lemmas.Nat.{mul-mod_first}
use Rattle.std.proofs.lemmas.List.{drop_more}
use Rattle.std.proofs.lemmas.Bool.{lt-ltb, le-ltb}
use Rattle.sz_wire.specs.Varint.{low_bits, number_at, in_64_bits, varint_at}

-- what was read so far, and after it what is still to come at this weight
abbrev pub goes_on : ℕ → ℕ → Option (ℕ × List ℕ) → Option (ℕ × List ℕ)
goes_on value weight None = None
goes_on value weight (Some found) = Some ((value + weight * found.0) % 2 ^ 64, found.1)

-- i bytes of the varint were read, and have this value; the next has this weight
pub record IsReadTo (bytes : List ℕ) (at i value weight : ℕ) : Type 0 where
  pub rest : goes_on value weight (number_at (10 - i) (drop (at + i) bytes)) ≡ varint_at (drop at bytes)

from_start : (read : Option (ℕ × List ℕ)) → goes_on 0 1 read ≡ in_64_bits read
from_start None = refl
from_start (Some found) = let e : 0 + 1 * found.0 ≡ found.0 = omega arith in
    ap (λ (n : ℕ). Some (n % 2 ^ 64, found.1)) e

pub starts_read : (bytes : List ℕ) (at : ℕ) → IsReadTo bytes at 0 0 1
unfolding varint_at
starts_read bytes at = record {
  rest = let e : at + 0 ≡ at = omega arith in rw e (from_start (number_at 10 (drop at bytes)));
}

-- what one byte makes of the number after it
byte_read : (bytes : List ℕ) (at i : ℕ) → i < 10 → at + i < length bytes
    → number_at (10 - i) (drop (at + i) bytes) ≡ cond (ltb (get_or bytes (at + i) 0) 128)
    (Some (get_or bytes (at + i) 0, drop (at + i + 1) bytes))
    (low_bits (get_or bytes (at + i) 0) (number_at (10 - (i + 1)) (drop (at + (i + 1)) bytes)))
unfolding number_at
byte_read bytes at i lt inside =
    let k : 10 - i ≡ suc (10 - (i + 1)) = omega arith in
    let p : at + (i + 1) ≡ at + i + 1 = omega arith in
    rw (k, p, drop_more bytes (at + i) 0 inside) refl

-- the value so far, with a byte's bits
abbrev pub with_byte : ℕ → ℕ → ℕ → ℕ
with_byte value weight b = (value + (b % 128 * weight) % 2 ^ 64) % 2 ^ 64

last_value : (value weight b : ℕ) → b < 128 → (value + weight * b) % 2 ^ 64 ≡ with_byte value weight b
last_value value weight b lt =
    let e : weight * b ≡ b * weight = grind arith in
    let m : b % 128 ≡ b = mod-eq_of_lt lt in
    rw (m, add-mod-mod, e) refl

pub last_byte : {bytes : List ℕ} {at i value weight : ℕ} → IsReadTo bytes at i value weight → i < 10
    → at + i < length bytes → get_or bytes (at + i) 0 < 128
    → varint_at (drop at bytes) ≡ Some (with_byte value weight (get_or bytes (at + i) 0), drop (at + i + 1) bytes)
last_byte {bytes} {at} {i} {value} {weight} h lt inside small =
    let b = get_or bytes (at + i) 0 in
    let test : ltb b 128 ≡ true = lt-ltb _ _ small in
    let read : number_at (10 - i) (drop (at + i) bytes) ≡ Some (b, drop (at + i + 1) bytes) =
    byte_read bytes at i lt inside
    ∙ ap (λ (t : Bool). cond t (Some (b, drop (at + i + 1) bytes))
    (low_bits b (number_at (10 - (i + 1)) (drop (at + (i + 1)) bytes)))) test in
    sym h.rest ∙ ap (goes_on value weight) read
    ∙ ap (λ (n : ℕ). Some (n, drop (at + i + 1) bytes)) (last_value value weight (get_or bytes (at + i) 0) small)

more_value : (value weight b n : ℕ) → 128 ≤ b → b < 256
    → (value + weight * (b - 128 + 128 * n)) % 2 ^ 64
    ≡ (with_byte value weight b + (weight * 128) % 2 ^ 64 * n) % 2 ^ 64
more_value value weight b n low high =
    let m : b % 128 ≡ b - 128 = omega arith in
    let e : value + weight * (b - 128 + 128 * n) ≡ (value + (b - 128) * weight) + weight * 128 * n = grind arith in
    let right : (with_byte value weight b + (weight * 128) % 2 ^ 64 * n) % 2 ^ 64
    ≡ ((value + (b - 128) * weight) + weight * 128 * n) % 2 ^ 64 =
    rw (m, add-mod-mod, mod-add-mod)
    (sym (add-mod-mod (value + (b - 128) * weight) ((weight * 128) % 2 ^ 64 * n) (2 ^ 64))
    ∙ rw (mul-mod_first (weight * 128) n (2 ^ 64))
    (add-mod-mod (value + (b - 128) * weight) (weight * 128 * n) (2 ^ 64))) in
    ap (λ (k : ℕ). k % 2 ^ 64) e ∙ sym right

more_read : (value weight b : ℕ) (read : Option (ℕ × List ℕ)) → 128 ≤ b → b < 256
    → goes_on value weight (low_bits b read) ≡ goes_on (with_byte value weight b) ((weight * 128) % 2 ^ 64) read
more_read value weight b None low high = refl
more_read value weight b (Some found) low high =
    ap (λ (n : ℕ). Some (n, found.1)) (more_value value weight b found.0 low high)

pub more_bytes : {bytes : List ℕ} {at i value weight : ℕ} → IsReadTo bytes at i value weight → i < 10
    → at + i < length bytes → 128 ≤ get_or bytes (at + i) 0 → get_or bytes (at + i) 0 < 256
    → IsReadTo bytes at (i + 1) (with_byte value weight (get_or bytes (at + i) 0)) ((weight * 128) % 2 ^ 64)
more_bytes {bytes} {at} {i} {value} {weight} h lt inside low high =
    let b = get_or bytes (at + i) 0 in
    let after = number_at (10 - (i + 1)) (drop (at + (i + 1)) bytes) in
    let test : ltb b 128 ≡ false = le-ltb _ _ low in
    let read : number_at (10 - i) (drop (at + i) bytes) ≡ low_bits b after =
    byte_read bytes at i lt inside
    ∙ ap (λ (t : Bool). cond t (Some (b, drop (at + i + 1) bytes)) (low_bits b after)) test in
    record { rest = sym (more_read value weight b after low high) ∙ ap (goes_on value weight) (sym read) ∙ h.rest }

pub bytes_end : {bytes : List ℕ} {at i value weight : ℕ} → IsReadTo bytes at i value weight → i < 10
    → length bytes ≤ at + i → varint_at (drop at bytes) ≡ None
unfolding number_at
bytes_end {bytes} {at} {i} {value} {weight} h lt past =
    let k : 10 - i ≡ suc (10 - (i + 1)) = omega arith in
    let nothing : number_at (10 - i) (drop (at + i) bytes) ≡ None = rw (k, drop_of_length-le bytes past) refl in
    sym h.rest ∙ ap (goes_on value weight) nothing

pub too_long : {bytes : List ℕ} {at i value weight : ℕ} → IsReadTo bytes at i value weight → 10 ≤ i
    → varint_at (drop at bytes) ≡ None
unfolding number_at
too_long {bytes} {at} {i} {value} {weight} h le =
    let k : 10 - i ≡ 0 = omega arith in
    let nothing : number_at (10 - i) (drop (at + i) bytes) ≡ None = rw k refl in
    sym h.rest ∙ ap (goes_on value weight) nothing
