-- Values at a place are values at the front of what is left there.
use Rattle.std.proofs.Common.{◌≡◌, ℕ, ◌+◌, ◌-◌, ◌<◌, ◌≤◌, List, length, take, drop, Some, None, true, false, ltb, refl, arith, length-drop}
use Rattle.std.specs.Int.{Width, w32, w64}
use Rattle.std.proofs.lemmas.Bool.{lt-ltb, le-ltb}
use Rattle.std.proofs.lemmas.List.{drop-drop}
use Rattle.sz_wire.specs.Varint.{varint_at}
use Rattle.sz_wire.specs.Field.{Content, bytes_at, fixed_at, span_at, plain_at, read_as, span, eight, four}

pub span_missing : (bytes : List ℕ) → varint_at bytes ≡ None → span_at bytes ≡ None
unfolding span_at
span_missing bytes e = rw e refl

pub span_short : (bytes : List ℕ) (at size from : ℕ) → varint_at (drop at bytes) ≡ Some (size, drop from bytes)
    → length bytes - from < size → span_at (drop at bytes) ≡ None
unfolding span_at bytes_at
span_short bytes at size from e lt =
    let short : ltb (length (drop from bytes)) size ≡ true = lt-ltb _ _ (omega (arith, length-drop from bytes)) in
    rw (e, short) refl

pub span_found : (bytes : List ℕ) (at size from : ℕ) → varint_at (drop at bytes) ≡ Some (size, drop from bytes)
    → size ≤ length bytes - from → read_as span (span_at (drop at bytes))
    ≡ Some (span (take (from + size - from) (drop from bytes)), drop (from + size) bytes)
unfolding span_at bytes_at
span_found bytes at size from e le =
    let long : ltb (length (drop from bytes)) size ≡ false = le-ltb _ _ (omega (arith, length-drop from bytes)) in
    let k : from + size - from ≡ size = omega arith in
    rw (e, long, k, drop-drop size from bytes) refl

-- a number of fixed size, as what a field holds
fixed_found : (w : Width) (kind : ℕ → Content) (bytes : List ℕ) (at n size : ℕ)
    → fixed_at w (drop at bytes) ≡ Some (n, drop size (drop at bytes))
    → read_as kind (fixed_at w (drop at bytes)) ≡ Some (kind n, drop (at + size) bytes)
fixed_found w kind bytes at n size e = rw (e, drop-drop size at bytes) refl

pub eight_found : (bytes : List ℕ) (at : ℕ) {front : List ℕ} {wire n : ℕ} → wire ≡ 1 → front ≡ drop at bytes
    → fixed_at w64 front ≡ Some (n, drop 8 front)
    → plain_at wire (drop at bytes) ≡ Some (eight n, drop (at + 8) bytes)
unfolding plain_at
eight_found bytes at {front} {wire} {n} is same found =
    rw (is, fixed_found w64 eight bytes at n 8 (rw (← same) found)) refl

pub four_found : (bytes : List ℕ) (at : ℕ) {front : List ℕ} {wire n : ℕ} → wire ≡ 5 → front ≡ drop at bytes
    → fixed_at w32 front ≡ Some (n, drop 4 front) → plain_at wire (drop at bytes) ≡ Some (four n, drop (at + 4) bytes)
unfolding plain_at
four_found bytes at {front} {wire} {n} is same found =
    rw (is, fixed_found w32 four bytes at n 4 (rw (← same) found)) refl
