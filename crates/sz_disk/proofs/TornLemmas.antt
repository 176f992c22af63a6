-- What writes, one after the other, may leave of a disk.
use Rattle.std.proofs.Common.{◌≡◌, ℕ, ◌+◌, ◌-◌, ◌<◌, ◌≤◌, ◌⊎◌, min, max, Bool, true, false, ◌&&◌, ◌||◌, not, if◌then◌else◌, nat_lt, List, [], ◌∷◌}
use Rattle.std.proofs.Common.{◌++◌, length, get_or, take, drop, map, inl, inr, refl, sym, ◌∙◌, ap, subst, arith, length-take, length-drop}
use Rattle.std.proofs.Common.{length-append, get_or-take, get_or-drop, get_or-set_other, length-set, set}
use Rattle.std.proofs.lemmas.Bool.Decides.{nat_tests}
use Rattle.std.proofs.lemmas.List.{get_or_append_left, get_or-append_right}
use Rattle.std.proofs.lemmas.List.Folds.{list_any-append}
use Rattle.std.proofs.lemmas.List.FromFn.{length-map-range_with_len, get_or-map-range_with_len, fill_by_all}
use Rattle.std.specs.List.{range_with_len}
use Rattle.sz_disk.specs.declared.span.Span.{Span}
use Rattle.sz_disk.specs.Crashes.{Torn, covers, is_in_some, length_after}
use Rattle.sz_disk.specs.Calls.{overwritten}

pub grows : (count : ℕ) (spans : List Span) → count ≤ length_after count spans
grows count [] = omega arith
grows count (span ∷ spans) = let more = grows (max count (span.at + span.count)) spans in omega (arith, more)

pub length_after-append : (count : ℕ) (spans : List Span) (span : Span)
    → length_after count (spans ++ span ∷ []) ≡ max (length_after count spans) (span.at + span.count)
length_after-append count [] span = refl
length_after-append count (s ∷ spans) span = length_after-append (max count (s.at + s.count)) spans span

or_false : (b : Bool) → (b || false) ≡ b
or_false true = refl
or_false false = refl

or_none : (a b : Bool) → a ≡ false → b ≡ false → (a || b) ≡ false
or_none a b is_a is_b = ap (λ x. x || b) is_a ∙ is_b

none_left : (a b : Bool) → (a || b) ≡ false → a ≡ false
none_left true b none = none
none_left false b none = refl

none_right : (a b : Bool) → (a || b) ≡ false → b ≡ false
none_right true b none = absurd cc
none_right false b none = none

in_some-append : (spans : List Span) (span : Span) (place : ℕ)
    → is_in_some (spans ++ span ∷ []) place ≡ (is_in_some spans place || covers place span)
in_some-append spans span place = list_any-append (covers place) spans (span ∷ [])
    ∙ ap (λ b. is_in_some spans place || b) (or_false (covers place span))

-- bytes that have the same length and the same byte at each place are the same
pub same_bytes : (xs ys : List ℕ) → length xs ≡ length ys
    → ((i : ℕ) → i < length ys → get_or xs i 0 ≡ get_or ys i 0) → xs ≡ ys
same_bytes xs ys same each =
    fill_by_all (λ i. get_or ys i 0) xs (length ys) 0 same each
    ∙ sym (fill_by_all (λ i. get_or ys i 0) ys (length ys) 0 refl (λ i lt. refl))

-- all writes may be lost
pub torn_refl : (spans : List Span) (bytes : List ℕ) → Torn spans bytes bytes
torn_refl spans bytes = record {
  no_shorter = omega arith;
  no_longer = grows (length bytes) spans;
  same = λ i lt out. refl;
}

-- a further write
pub torn_then : (spans : List Span) (span : Span) (a b c : List ℕ) → Torn spans a b → Torn (span ∷ []) b c
    → Torn (spans ++ span ∷ []) a c
torn_then spans span a b c first second = record {
  no_shorter = omega (arith, first.no_shorter, second.no_shorter);
  no_longer = omega (arith, first.no_longer, second.no_longer, length_after-append (length a) spans span);
  same = λ place lt out.
      let split : (is_in_some spans place || covers place span) ≡ false = sym (in_some-append spans span place) ∙ out in
      let out_of_last =
      or_none (covers place span) false (none_right (is_in_some spans place) (covers place span) split) refl in
      second.same place (omega (arith, lt, first.no_shorter)) out_of_last
      ∙ first.same place lt (none_left (is_in_some spans place) (covers place span) split);
}

pick : (test : Bool) (x y z : ℕ) → (test ≡ true → x ≡ z) → (test ≡ false → y ≡ z) → (if test then x else y) ≡ z
pick true x y z if_so if_not = if_so refl
pick false x y z if_so if_not = if_not refl

both : (a b : Bool) → (a && not b) ≡ true → (a ≡ true) × (b ≡ false)
both true false is = (refl, refl)
both true true is = absurd cc
both false b is = absurd cc

neither : (a b : Bool) → (a && not b) ≡ false → a ≡ true → b ≡ false → ⊥
neither a b fails is_a is_b = let holds : (a && not b) ≡ true = ap (λ x. x && not b) is_a ∙ ap not is_b in absurd (cc)

less : (m n : ℕ) → nat_lt m n ≡ true → m < n
less m n is = grind (arith, nat_tests)

is_less : (m n : ℕ) → m < n → nat_lt m n ≡ true
is_less m n lt = grind (arith, nat_tests)

module _ (spans : List Span) (span : Span) (a c : List ℕ) (torn : Torn (spans ++ span ∷ []) a c) where
  -- how long the disk was before the last write
  abbrev size : ℕ
  size = min (length c) (length_after (length a) spans)

  -- a byte that no earlier write went over was still the old one, and each other one was what the crash left
  abbrev byte : ℕ → ℕ
  byte place = if nat_lt place (length a) && not (is_in_some spans place) then get_or a place 0 else get_or c place 0

  abbrev before : List ℕ
  before = map byte (range_with_len 0 size)

  at_place : (place : ℕ) → place < size → get_or before place 0 ≡ byte place
  at_place place lt = get_or-map-range_with_len byte 0 size place place 0 lt (omega arith)

  kept : (place : ℕ) → place < length a → is_in_some spans place ≡ false → byte place ≡ get_or a place 0
  kept place lt out =
      pick _ _ _ _ (λ holds. refl) (λ fails. absurd (neither _ _ fails (is_less place (length a) lt) out))

  last : (place : ℕ) → covers place span ≡ false → get_or c place 0 ≡ byte place
  last place out =
      sym (pick _ _ _ _ (λ holds.
      let parts = both _ _ holds in
      sym (torn.same place (less place (length a) parts.0) (in_some-append spans span place ∙ or_none _ _ parts.1 out)))
      (λ fails. refl))

  long : length before ≡ size
  long = length-map-range_with_len byte 0 size

  size_fits : length c ≤ max size (span.at + span.count)
  size_fits = omega (arith, torn.no_longer, length_after-append (length a) spans span)

  -- what a crash before the last write might have left, of which this write makes what a crash after it may leave
  pub torn_split : (b : List ℕ) × Torn spans a b × Torn (span ∷ []) b c
  torn_split = (
    before,
    record {
      no_shorter = omega (arith, long, torn.no_shorter, grows (length a) spans);
      no_longer = omega (arith, long);
      same = λ place lt out. at_place place (omega (arith, lt, torn.no_shorter, grows (length a) spans))
          ∙ kept place lt out;
    },
    record {
      no_shorter = omega (arith, long);
      no_longer = omega (arith, long, size_fits);
      same = λ place lt out. last place (none_left (covers place span) false out)
          ∙ sym (at_place place (omega (arith, lt, long)));
    },
  )

-- more writes may leave all that fewer may leave
pub torn_more : (spans : List Span) (span : Span) (a b : List ℕ) → Torn spans a b → Torn (spans ++ span ∷ []) a b
torn_more spans span a b torn = torn_then spans span a b b torn (torn_refl (span ∷ []) b)

-- a byte that may be any is changed
pub torn_set : (spans : List Span) (a b : List ℕ) (place x : ℕ) → Torn spans a b
    → (place < length a → is_in_some spans place ≡ true) → Torn spans a (set b place x)
torn_set spans a b place x torn free = record {
  no_shorter = omega (arith, length-set b place x, torn.no_shorter);
  no_longer = omega (arith, length-set b place x, torn.no_longer);
  same = λ other lt out.
      get_or-set_other b place other x 0
      (λ e. let in_one = subst (λ p. p < length a → is_in_some spans p ≡ true) (sym e) free lt in absurd cc)
      ∙ torn.same other lt out;
}

-- the end is cut off, up to what stood at the sync
pub torn_cut : (spans : List Span) (a b : List ℕ) (count : ℕ) → Torn spans a b → length a ≤ count
    → Torn spans a (take count b)
torn_cut spans a b count torn fits = record {
  no_shorter = omega (arith, length-take count b, torn.no_shorter);
  no_longer = omega (arith, length-take count b, torn.no_longer);
  same = λ place lt out. get_or-take count b place 0 (omega (arith, lt, fits)) ∙ torn.same place lt out;
}

outside : (at count place : ℕ) → covers place (record { at = at; count = count }) ≡ false
    → (place < at) ⊎ (at + count ≤ place)
outside at count place out = grind (arith, nat_tests)

module _ (at count : ℕ) (written bytes : List ℕ) (within : at ≤ length bytes) (fits : length written ≤ count) where
  front_long : length (take at bytes) ≡ at
  front_long = omega (arith, length-take at bytes, within)

  back_long : length (drop (at + length written) bytes) ≡ length bytes - (at + length written)
  back_long = length-drop (at + length written) bytes

  put_long : length (take at bytes ++ written) ≡ at + length written
  put_long = omega (arith, length-append (take at bytes) written, front_long)

  pub length-overwritten : length (overwritten at written bytes) ≡ max (length bytes) (at + length written)
  length-overwritten =
      let parts = length-append (take at bytes ++ written) (drop (at + length written) bytes) in
      omega (arith, within, put_long, back_long, parts)

  elsewhere : (place : ℕ) → place < length bytes → (place < at) ⊎ (at + count ≤ place)
      → get_or (overwritten at written bytes) place 0 ≡ get_or bytes place 0
  elsewhere place lt (inl left) =
      get_or_append_left (take at bytes ++ written) (drop (at + length written) bytes) 0 place
      (omega (arith, left, put_long))
      ∙ get_or_append_left (take at bytes) written 0 place (omega (arith, left, front_long))
      ∙ get_or-take at bytes place 0 left
  elsewhere place lt (inr right) =
      get_or-append_right (take at bytes ++ written) (drop (at + length written) bytes)
      (at + length written) place 0 put_long (omega (arith, right, fits))
      ∙ get_or-drop (at + length written) bytes (place - (at + length written)) 0
      ∙ ap (λ (k : ℕ). get_or bytes k 0) (omega (arith, right, fits))

  -- a write of all bytes of a span, or of the first ones, tears no other
  pub torn_overwritten : Torn (record { at = at; count = count } ∷ []) bytes (overwritten at written bytes)
  torn_overwritten = record {
    no_shorter = omega (arith, length-overwritten);
    no_longer = omega (arith, length-overwritten, fits);
    same = λ place lt out. elsewhere place lt (outside at count place (none_left _ false out));
  }
