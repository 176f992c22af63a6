-- What is known of a text of digits that is read from the front.
use Rattle.std.proofs.Common.{◌≡◌, ◌≤◌, ◌<◌, ◌+◌, ◌*◌, ℕ, List, [], ◌∷◌, drop, get_or, length, refl, arith, le_refl, le_trans}
use Rattle.std.proofs.Common.{nat_le, Bool, true, false, ◌&&◌, if◌then◌else◌, Some, None}
use Rattle.std.specs.List.{list_all}
use Rattle.std.specs.Char.{is_ascii_digit, digit_value}
use Rattle.std.specs.Str.Parse.{digits_value, digits_value_after}
use Rattle.sz_types.specs.Numerals.{is_numeral}
use Rattle.std.proofs.lemmas.List.{at_drop_more}
use Rattle.std.proofs.lemmas.Grind.{common_steps}
use Rattle.std.proofs.lemmas.Bool.Decides.{nat_tests}

-- the first digits write this value, which is not above `most`, and all depends on the rest
pub record ReadsDigits (text : List ℕ) (at value most : ℕ) : Type 0 where
  pub small : value ≤ most
  pub value_same : digits_value_after 10 value (drop at text) ≡ digits_value 10 text
  pub digits_same : list_all is_ascii_digit (drop at text) ≡ list_all is_ascii_digit text

-- more digits only make the value larger
pub grows : (value : ℕ) (ds : List ℕ) → value ≤ digits_value_after 10 value ds
grows value [] = le_refl value
grows value (d ∷ ds) =
    let step : value ≤ value * 10 + digit_value d = omega arith in
    le_trans step (grows (value * 10 + digit_value d) ds)

-- where one more digit is refused, the text's value is too large, and the text is refused
pub refused : (text : List ℕ) (at value most : ℕ) → ReadsDigits text at value most → at < length text
    → None ≡ (if nat_le (value * 10 + digit_value (get_or text at 0)) most
    then Some (value * 10 + digit_value (get_or text at 0)) else None)
    → None ≡ (if is_numeral text && nat_le (digits_value 10 text) most then Some (digits_value 10 text) else None)
refused text at value most reads more h =
    let next = value * 10 + digit_value (get_or text at 0) in
    let turn = at_drop_more (digits_value_after 10 value) text at 0 more in
    let least = grows next (drop (at + 1) text) in
    let large : most < next = from_none next (nat_le next most) refl h in
    let whole : nat_le (digits_value 10 text) most ≡ false = grind (arith, nat_tests, common_steps, reads.value_same) in
    at_false (is_numeral text) whole
  where
    -- what is refused is too large
    from_none : (next : ℕ) (b : Bool) → nat_le next most ≡ b → None ≡ (if b then Some next else None) → most < next
    from_none next true is e = absurd (cc)
    from_none next false is e = grind (arith, nat_tests)

    -- nothing is read where the second test fails
    at_false : (b : Bool) {c : Bool} → c ≡ false → None ≡ (if b && c then Some (digits_value 10 text) else None)
    at_false true e = rw e refl
    at_false false e = refl
