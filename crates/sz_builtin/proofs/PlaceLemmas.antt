-- The first place of a list in another, and of a text in another by its bytes.
use Rattle.std.proofs.Common.{◌≡◌, ◌∙◌, ℕ, zero, suc, ◌+◌, ◌<◌, ◌≤◌, Bool, true, false, ◌&&◌, nat_eq, if◌then◌else◌, Option, Some, None, MatchOption, List, [], ◌∷◌, ◌++◌, length, take, drop, slice_index, get_or, refl, sym, ap, subst, arith, rules, inl, inr}
use Rattle.std.proofs.lemmas.Bool.{eqb-true, eq-eqb, false≢true, cases_order}
use Rattle.std.proofs.lemmas.List.{take_at, drop_at, take-append-drop, take-append-le, length-append, length-drop, length-take-le}
use Rattle.std.proofs.lemmas.Str.{chars-append, encodes-append, encodes-chars, length-le-encodes, IsUtf8-take, IsCharBoundary-start}
use Rattle.std.specs.Option.{option_map}
use Rattle.std.specs.Str.{chars, encode_utf8_all, IsUtf8, IsCharBoundary}
use Rattle.memchr.specs.Find.{OccursAt, FindsNeedle, IsFirstByte, is_byte}
use Rattle.memchr.proofs.lemmas.MatchLemmas.{OccursAt-split, OccursAt-from_part}
use Rattle.sz_builtin.specs.Predeclared.{begins, first_place}
use Rattle.sz_builtin.proofs.TypeLemmas.{both}

-- xs stands in ys at place k
pub record Stands (xs ys : List ℕ) (k : ℕ) : Type 0 where
  pub front : List ℕ
  pub rest : List ℕ
  pub split : ys ≡ front ++ (xs ++ rest)
  pub at : length front ≡ k

-- r is the first such place
abbrev pub IsFirstPlace : List ℕ → List ℕ → Option ℕ → Type 0
IsFirstPlace xs ys r =
    MatchOption r ((k : ℕ) → ¬ (Stands xs ys k)) (λ k. Stands xs ys k × ((j : ℕ) → j < k → ¬ (Stands xs ys j)))

-- ---- one list in another

begins_rest : (xs ys : List ℕ) → begins xs ys ≡ true → (rest : List ℕ) × (ys ≡ xs ++ rest)
begins_rest [] ys h = (ys, refl)
begins_rest (x ∷ xs) [] h = absurd cc
begins_rest (x ∷ xs) (y ∷ ys) h =
    let parts = both (nat_eq x y) (begins xs ys) h in
    let more = begins_rest xs ys parts.1 in
    (more.0, ap (λ z. z ∷ ys) (sym (eqb-true x y parts.0)) ∙ ap (λ l. x ∷ l) more.1)

begins_itself : (xs rest : List ℕ) → begins xs (xs ++ rest) ≡ true
begins_itself [] rest = refl
begins_itself (x ∷ xs) rest = ap (λ b. b && begins xs (xs ++ rest)) (eq-eqb x x refl) ∙ begins_itself xs rest

abbrev tail_of : List ℕ → List ℕ
tail_of [] = []
tail_of (y ∷ ys) = ys

-- where the list doesn't begin with xs, xs stands in its tail
later : (xs ys : List ℕ) (k : ℕ) (front rest : List ℕ) → begins xs ys ≡ false → ys ≡ front ++ (xs ++ rest)
    → length front ≡ k → (i : ℕ) × (k ≡ i + 1) × Stands xs (tail_of ys) i
later xs ys k [] rest isnt split at = absurd (false≢true (sym isnt ∙ ap (begins xs) split ∙ begins_itself xs rest))
later xs ys k (z ∷ front) rest isnt split at =
    (length front, sym at ∙ omega arith, record { front = front; rest = rest; split = ap tail_of split; at = refl })

first_place_gives : (xs ys : List ℕ) → IsFirstPlace xs ys (first_place xs ys)
first_place_gives xs [] = at (begins xs []) refl
  where
    empty : (front xs rest : List ℕ) → [] ≡ front ++ (xs ++ rest) → begins xs [] ≡ true
    empty [] [] rest h = refl
    empty [] (x ∷ xs) rest h = absurd (cc)
    empty (z ∷ front) xs rest h = absurd (cc)

    at : (b : Bool) → begins xs [] ≡ b → IsFirstPlace xs [] (if b then Some 0 else None)
    at true e = let r = begins_rest xs [] e in
        (record { front = []; rest = r.0; split = r.1; at = refl }, λ j l. absurd (omega arith))
    at false e = λ k s. let i = later xs [] k s.front s.rest e s.split s.at in
        absurd (false≢true (sym e ∙ empty s.front xs s.rest s.split))
first_place_gives xs (y ∷ ys) = at (begins xs (y ∷ ys)) refl (first_place xs ys) (first_place_gives xs ys)
  where
    at : (b : Bool) → begins xs (y ∷ ys) ≡ b → (r : Option ℕ) → IsFirstPlace xs ys r
        → IsFirstPlace xs (y ∷ ys) (if b then Some 0 else option_map suc r)
    at true e r h = let s = begins_rest xs (y ∷ ys) e in
        (record { front = []; rest = s.0; split = s.1; at = refl }, λ j l. absurd (omega arith))
    at false e None h = λ k s. let i = later xs (y ∷ ys) k s.front s.rest e s.split s.at in h i.0 i.2
    at false e (Some k) h = (
      record { front = y ∷ h.0.front; rest = h.0.rest; split = ap (λ l. y ∷ l) h.0.split; at = ap suc h.0.at },
      λ j l s. let i = later xs (y ∷ ys) j s.front s.rest e s.split s.at in h.1 i.0 (omega (arith, i.1, l)) i.2,
    )

-- there is one first place
one_first : (xs ys : List ℕ) (r s : Option ℕ) → IsFirstPlace xs ys r → IsFirstPlace xs ys s → r ≡ s
one_first xs ys None None h k = refl
one_first xs ys None (Some j) h k = absurd (h j k.0)
one_first xs ys (Some i) None h k = absurd (k i h.0)
one_first xs ys (Some i) (Some j) h k = ap Some (elim (cases_order i j) [
  | inl same ↦ same
  | inr e ↦ elim e [ inl l ↦ absurd (k.1 i l h.0) | inr l ↦ absurd (h.1 j l k.0) ]
])

pub place_is : (xs ys : List ℕ) (r : Option ℕ) → IsFirstPlace xs ys r → r ≡ first_place xs ys
place_is xs ys r h = one_first xs ys r (first_place xs ys) h (first_place_gives xs ys)

-- ---- bytes in bytes

stands_from : (hay needle : List ℕ) (k : ℕ) → OccursAt hay needle k → Stands needle hay k
stands_from hay needle k o = record {
  front = take k hay;
  rest = drop (k + length needle) hay;
  split = sym (take-append-drop k hay) ∙ ap (λ l. take k hay ++ l) (OccursAt-split hay needle k o);
  at = length-take-le k hay (omega (arith, o.fits));
}

occurs_from : (hay needle : List ℕ) (k : ℕ) → Stands needle hay k → OccursAt hay needle k
occurs_from hay needle k s =
    let after : drop k hay ≡ needle ++ s.rest = ap (drop k) s.split ∙ drop_at s.front (needle ++ s.rest) k s.at in
    let size = ap length s.split ∙ length-append s.front (needle ++ s.rest) in
    let size2 = length-append needle s.rest in
    let at = s.at in
    OccursAt-from_part hay needle k (omega (arith, size, size2, at))
    (ap (take (length needle)) after ∙ take_at needle s.rest (length needle) refl)

pub bytes_first : (hay needle : List ℕ) (r : Option ℕ) → FindsNeedle hay needle 0 r → IsFirstPlace needle hay r
bytes_first hay needle None h = λ k s. let o = occurs_from hay needle k s in h k (omega arith) (omega (arith, o.fits)) o
bytes_first hay needle (Some p) h = (
  stands_from hay needle p h.1,
  λ j l s. h.0.before j (omega arith) l (occurs_from hay needle j s),
)

pub byte_place_is : (hay needle : List ℕ) (r : Option ℕ) → FindsNeedle hay needle 0 r → r ≡ first_place needle hay
byte_place_is hay needle r h = place_is needle hay r (bytes_first hay needle r h)

-- a byte occurs as a needle just where it stands
occurs_as : (hay : List ℕ) (byte k : ℕ) → k < length hay → is_byte byte (slice_index hay k) ≡ true
    → OccursAt hay (byte ∷ []) k
occurs_as hay byte k less is = record {
  fits = omega (arith, less);
  reads = λ j l. ap (λ n. slice_index hay n) (omega (arith, l)) ∙ eqb-true (slice_index hay k) byte is
      ∙ sym (ap (λ n. slice_index (byte ∷ []) n) (only j l));
}
  where
    only : (j : ℕ) → j < 1 → j ≡ 0
    only j l = omega (arith, l)

byte_at : (hay : List ℕ) (byte k : ℕ) → OccursAt hay (byte ∷ []) k → is_byte byte (slice_index hay k) ≡ true
byte_at hay byte k o =
    eq-eqb (slice_index hay k) byte (ap (λ n. slice_index hay n) (omega arith) ∙ o.reads 0 (omega arith))

finds_byte : (hay : List ℕ) (byte : ℕ) (r : Option ℕ) → IsFirstByte (is_byte byte) hay r
    → FindsNeedle hay (byte ∷ []) 0 r
finds_byte hay byte None h = λ k low high o. h k low (omega (arith, o.fits)) (byte_at hay byte k o)
finds_byte hay byte (Some p) h =
    let less = h.0.high in (
      record {
        low = h.0.low;
        high = omega (arith, less);
        before = λ k low high o. h.0.before k low high (byte_at hay byte k o);
      },
      occurs_as hay byte p less h.1,
    )

-- the first place of the one byte of a needle is that of the needle
pub one_byte_is : (hay needle : List ℕ) (r : Option ℕ) → length needle ≡ 1
    → IsFirstByte (is_byte (get_or needle 0 0)) hay r → r ≡ first_place needle hay
one_byte_is hay [] r one h = absurd (omega (arith, one))
one_byte_is hay (byte ∷ []) r one h = byte_place_is hay (byte ∷ []) r (finds_byte hay byte r h)
one_byte_is hay (byte ∷ other ∷ more) r one h = absurd (omega (arith, one))

-- ---- a text in a text

-- the text may be cut where another begins in it
pub cut_at_place : (hay needle : List ℕ) (p : ℕ) → IsUtf8 hay → IsUtf8 needle → IsFirstPlace needle hay (Some p)
    → IsCharBoundary hay p
cut_at_place hay [] p u v h =
    let zero_first : p ≡ 0 = at p h in subst (λ q. IsCharBoundary hay q) (sym zero_first) (IsCharBoundary-start hay u)
  where
    at : (q : ℕ) → IsFirstPlace [] hay (Some q) → q ≡ 0
    at zero k = refl
    at (suc q) k = absurd (k.1 0 (omega arith) (record { front = []; rest = hay; split = refl; at = refl }))
cut_at_place hay (x ∷ xs) p u v h =
    let o = occurs_from hay (x ∷ xs) p h.0 in
    let same : get_or hay p 0 ≡ x = search (rules, o.reads 0) in
    let lead = IsCharBoundary-start (x ∷ xs) v in (
      omega (arith, o.fits),
      λ less high. subst (λ b. 192 ≤ b) (sym same) (lead.1 (omega arith) (subst (λ b. 128 ≤ b) same high)),
    )

-- characters that stand in a text stand there as bytes
bytes_stand : (hay needle : List ℕ) (k : ℕ) → IsUtf8 hay → IsUtf8 needle → (s : Stands (chars needle) (chars hay) k)
    → Stands needle hay (length (encode_utf8_all s.front))
bytes_stand hay needle k u v s = record {
  front = encode_utf8_all s.front;
  rest = encode_utf8_all s.rest;
  split = sym (encodes-chars hay u) ∙ ap encode_utf8_all s.split ∙ encodes-append s.front (chars needle ++ s.rest)
      ∙ ap (λ l. encode_utf8_all s.front ++ l)
      (encodes-append (chars needle) s.rest ∙ ap (λ l. l ++ encode_utf8_all s.rest) (encodes-chars needle v));
  at = refl;
}

pub text_first : (hay needle : List ℕ) (r : Option ℕ) → IsUtf8 hay → IsUtf8 needle → IsFirstPlace needle hay r
    → IsFirstPlace (chars needle) (chars hay) (option_map (λ p. length (chars (take p hay))) r)
text_first hay needle None u v h = λ k s. h (length (encode_utf8_all s.front)) (bytes_stand hay needle k u v s)
text_first hay needle (Some p) u v h = (
  record { front = chars front; rest = chars h.0.rest; split = whole; at = refl },
  λ j l s. h.1 (length (encode_utf8_all s.front)) (shorter j l s) (bytes_stand hay needle j u v s),
)
  where
    front : List ℕ
    front = take p hay

    text : IsUtf8 front
    text = IsUtf8-take hay p u (cut_at_place hay needle p u v h)

    is_front : front ≡ h.0.front
    is_front = ap (take p) h.0.split ∙ take_at h.0.front (needle ++ h.0.rest) p h.0.at

    whole : chars hay ≡ chars front ++ (chars needle ++ chars h.0.rest)
    whole = ap chars (h.0.split ∙ ap (λ l. l ++ (needle ++ h.0.rest)) (sym is_front))
        ∙ chars-append front (needle ++ h.0.rest) text ∙ ap (λ l. chars front ++ l) (chars-append needle h.0.rest v)

    shorter : (j : ℕ) → j < length (chars front) → (s : Stands (chars needle) (chars hay) j)
        → length (encode_utf8_all s.front) < p
    shorter j l s =
        let begun : s.front ≡ take j (chars front) =
        sym (ap (take j) s.split ∙ take_at s.front (chars needle ++ s.rest) j s.at) ∙ ap (take j) whole
        ∙ take-append-le j (chars front) (chars needle ++ chars h.0.rest) (omega (arith, l)) in
        let bytes : front ≡ encode_utf8_all s.front ++ encode_utf8_all (drop j (chars front)) =
        sym (encodes-chars front text) ∙ ap encode_utf8_all (sym (take-append-drop j (chars front)))
        ∙ encodes-append (take j (chars front)) (drop j (chars front))
        ∙ ap (λ l. encode_utf8_all l ++ encode_utf8_all (drop j (chars front))) (sym begun) in
        let size = ap length bytes ∙ length-append (encode_utf8_all s.front) (encode_utf8_all (drop j (chars front))) in
        let most = length-le-encodes (drop j (chars front)) in
        let left = length-drop j (chars front) in
        let all : length front ≡ p = ap length is_front ∙ h.0.at in
        omega (arith, size, most, left, all, l)

-- the place counted in characters
pub text_place_is : (hay needle : List ℕ) (r : Option ℕ) → IsUtf8 hay → IsUtf8 needle → FindsNeedle hay needle 0 r
    → option_map (λ p. length (chars (take p hay))) r ≡ first_place (chars needle) (chars hay)
text_place_is hay needle r u v h =
    place_is (chars needle) (chars hay) _ (text_first hay needle r u v (bytes_first hay needle r h))
