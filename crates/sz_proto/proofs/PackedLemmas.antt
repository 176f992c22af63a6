-- Packed elements, read one after another.
use Rattle.std.proofs.Common.{◌≡◌, ℕ, ℤ, zero, suc, ◌+◌, ◌-◌, ◌<◌, ◌≤◌, List, [], ◌∷◌, ◌++◌, length, drop, Some, None, refl, sym, ap, ◌∙◌, arith, length-drop}
use Rattle.std.specs.Option.{option_map}
use Rattle.std.specs.Int.{Width, cast_signed}
use Rattle.std.proofs.lemmas.List.{drop-drop}
use Rattle.sz_wire.specs.Field.{fixed_at}
use Rattle.sz_types.specs.declared.encoding.Encoding.{Encoding}
use Rattle.sz_proto.specs.Elements.{packed_at, packed_within}
use Rattle.sz_proto.proofs.GoingLemmas.{Goes, goes_on, goes_end}

-- elements are read up to a place
pub record IsUnpacking (code : Encoding) (bytes : List ℕ) (at : ℕ) (got : List ℤ) : Type 0 where
  pub left : ℕ
  pub enough : length bytes - at ≤ left
  pub goes : Goes (packed_within (length bytes) code bytes) got (packed_within left code (drop at bytes))
  pub place : at ≤ length bytes

one_more : (left : ℕ) (code : Encoding) (rest more : List ℕ) (n : ℤ) → 0 < length rest → length rest ≤ left
    → packed_at code rest ≡ Some (n, more) → (turns : ℕ) × (left ≡ suc turns)
    × (packed_within left code rest ≡ option_map (λ ns. n ∷ ns) (packed_within turns code more))
unfolding packed_within
one_more zero code rest more n some le found = absurd (omega (arith, some, le))
one_more (suc turns) code [] more n some le found = absurd (omega (arith, some))
one_more (suc turns) code (b ∷ rest) more n some le found = (turns, refl, rw found refl)

none_more : (left : ℕ) (code : Encoding) (rest : List ℕ) → 0 < length rest → packed_at code rest ≡ None
    → packed_within left code rest ≡ None
unfolding packed_within
none_more left code [] some found = absurd (omega (arith, some))
none_more zero code (b ∷ rest) some found = refl
none_more (suc turns) code (b ∷ rest) some found = rw found refl

no_more : (left : ℕ) (code : Encoding) (rest : List ℕ) → length rest ≡ 0 → packed_within left code rest ≡ Some []
unfolding packed_within
no_more left code [] none = refl
no_more left code (b ∷ rest) none = absurd (omega (arith, none))

pub unpacks_more : (code : Encoding) (bytes : List ℕ) (at next : ℕ) (got : List ℤ) (n : ℤ)
    → IsUnpacking code bytes at got → at < length bytes → packed_at code (drop at bytes) ≡ Some (n, drop next bytes)
    → at < next → next ≤ length bytes → IsUnpacking code bytes next (got ++ n ∷ [])
unpacks_more code bytes at next got n h lt found forward within =
    let enough = h.enough in
    let len = length-drop at bytes in
    let one = one_more h.left code (drop at bytes) (drop next bytes) n (omega (arith, len, lt))
    (omega (arith, len, enough)) found in
    let left = one.1 in
    record {
      left = one.0;
      enough = omega (arith, enough, left, forward);
      goes = goes_on (packed_within (length bytes) code bytes) (packed_within one.0 code (drop next bytes)) got (n ∷ [])
          (h.goes ∙ ap (option_map (λ ns. got ++ ns)) one.2);
      place = within;
    }

pub unpacks_none : (code : Encoding) (bytes : List ℕ) (at : ℕ) (got : List ℤ) → IsUnpacking code bytes at got
    → at < length bytes → packed_at code (drop at bytes) ≡ None → packed_within (length bytes) code bytes ≡ None
unpacks_none code bytes at got h lt found =
    let len = length-drop at bytes in
    h.goes ∙ ap (option_map (λ ns. got ++ ns)) (none_more h.left code (drop at bytes) (omega (arith, len, lt)) found)

pub unpacked : (code : Encoding) (bytes : List ℕ) (at : ℕ) (got : List ℤ) → IsUnpacking code bytes at got
    → length bytes ≤ at → packed_within (length bytes) code bytes ≡ Some got
unpacked code bytes at got h over =
    let len = length-drop at bytes in
    goes_end (packed_within (length bytes) code bytes) got
    (h.goes ∙ ap (option_map (λ ns. got ++ ns)) (no_more h.left code (drop at bytes) (omega (arith, len, over))))

-- a number with the sign that its width gives it, in front of what follows it
abbrev signed : Width → ℕ × List ℕ → ℤ × List ℕ
signed w found = (cast_signed w found.0, found.1)

-- an element of fixed size
pub fixed_element : (w : Width) (bytes front : List ℕ) (at n size : ℕ) (r : ℤ) → front ≡ drop at bytes
    → fixed_at w front ≡ Some (n, drop size front)
    → r ≡ cast_signed w n → option_map (signed w) (fixed_at w (drop at bytes)) ≡ Some (r, drop (at + size) bytes)
fixed_element w bytes front at n size r same found is =
    let number : Some (signed w (n, drop size front)) ≡ Some (r, drop size front) = rw is refl in
    let after : drop size front ≡ drop (at + size) bytes = ap (drop size) same ∙ drop-drop size at bytes in
    let rest : Some (r, drop size front) ≡ Some (r, drop (at + size) bytes) = rw after refl in
    ap (λ (l : List ℕ). option_map (signed w) (fixed_at w l)) (sym same)
    ∙ ap (option_map (signed w)) found ∙ number ∙ rest
