-- The places that long texts keep.
use Rattle.std.proofs.Common.{◌≡◌, ℕ, ◌+◌, ◌-◌, ◌*◌, ◌<◌, ◌≤◌, subst, List, [], ◌∷◌, ◌++◌, length, drop, sym, ap, ◌∙◌, arith, slice_index, ◌⊎◌, inl, inr}
use Rattle.std.specs.Prelude.{chars, encode_utf8_all, IsUtf8}
use Rattle.std.proofs.lemmas.List.{append_assoc, length-append, get_or_append_left, drop-append-le}
use Rattle.std.proofs.lemmas.Bool.{cases_order}
use Rattle.std.proofs.Math.Seq.{get_or-append_seam}
use Rattle.std.proofs.lemmas.Str.{chars-append, IsUtf8-append, IsCharBoundary-from_drop, length-le-encodes, encodes-chars}
use Rattle.sz_value.specs.Characters.{IsRestAfter, IsMark, AreMarks}
use Rattle.sz_value.proofs.CharacterLemmas.{at_front, more_after, all_after, mark_at}

-- the front is the first place
pub front_marked : (text : List ℕ) → IsUtf8 text → AreMarks text (0 ∷ [])
front_marked text u = record { some = omega arith; each = at }
  where
    first : IsMark 0 text 0
    first = record { cut = IsCharBoundary-from_drop text 0 (omega arith) u; rest = at_front text u }

    at : (i : ℕ) → i < 1 → IsMark (64 * i) text (slice_index (0 ∷ []) i)
    at i l = let e : 0 ≡ i = omega (arith, l) in subst (λ n. IsMark (64 * n) text (slice_index (0 ∷ []) n)) e first

-- one place more
pub one_place_more : (text places : List ℕ) (place : ℕ) → AreMarks text places
    → IsMark (64 * length places) text place → AreMarks text (places ++ place ∷ [])
one_place_more text places place h k = record {
  some = omega (arith, length-append places (place ∷ []));
  each = λ i l. at i l (cases_order i (length places));
}
  where
    before : (i : ℕ) → i < length places → IsMark (64 * i) text (slice_index (places ++ place ∷ []) i)
    before i less =
        subst (λ p. IsMark (64 * i) text p) (sym (get_or_append_left places (place ∷ []) 0 i less)) (h.each i less)

    last : IsMark (64 * length places) text (slice_index (places ++ place ∷ []) (length places))
    last = subst (λ p. IsMark (64 * length places) text p) (sym (get_or-append_seam places place [] 0)) k

    at : (i : ℕ) → i < length (places ++ place ∷ []) → (i ≡ length places) ⊎ ((i < length places) ⊎ (length places < i))
        → IsMark (64 * i) text (slice_index (places ++ place ∷ []) i)
    at i l (inl e) = subst (λ n. IsMark (64 * n) text (slice_index (places ++ place ∷ []) n)) (sym e) last
    at i l (inr (inl less)) = before i less
    at i l (inr (inr more)) = absurd (let n = length-append places (place ∷ []) in omega (arith, n, l, more))

-- the place behind the last one
pub next_marked : (text places rest : List ℕ) (last : ℕ) → AreMarks text places → last + 1 ≡ length places
    → IsRestAfter 64 (drop (slice_index places last) text) rest
    → IsMark (64 * length places) text (length text - length rest)
next_marked text places rest last h e k =
    subst (λ n. IsMark (64 * n) text (length text - length rest)) e
    (subst (λ n. IsMark n text (length text - length rest)) (omega arith)
    (mark_at (64 * last + 64) text rest (more_after (64 * last) 64 text (drop (slice_index places last) text) rest
    (h.each last (omega (arith, e))).rest k)))

-- a walk from a place of them passes what is before it, too
pub near_passed : (text places rest : List ℕ) (near count : ℕ) → AreMarks text places → near < length places
    → near * 64 ≤ count
    → IsRestAfter (count - near * 64) (drop (slice_index places near) text) rest → IsRestAfter count text rest
near_passed text places rest near count h within le k =
    subst (λ n. IsRestAfter n text rest) (omega (arith, le))
    (more_after (64 * near) (count - near * 64) text (drop (slice_index places near) text) rest
    (h.each near within).rest k)

-- and counts them
pub near_counted : (text places : List ℕ) (near : ℕ) → AreMarks text places → near < length places
    → length (chars text) ≡ near * 64 + length (chars (drop (slice_index places near) text))
near_counted text places near h within =
    omega (arith, all_after (64 * near) text (drop (slice_index places near) text) (h.each near within).rest)

-- of which there are no more than bytes
pub near_within : (text places : List ℕ) (near : ℕ) → IsUtf8 text → AreMarks text places → near < length places
    → near * 64 + length (chars (drop (slice_index places near) text)) ≤ length text
near_within text places near u h within =
    omega
    (arith, near_counted text places near h within, length-le-encodes (chars text), ap length (encodes-chars text u))

-- the places of a text are places of each that begins with it
pub marks_of_begun : (first second places : List ℕ) → IsUtf8 first → IsUtf8 second → AreMarks first places
    → AreMarks (first ++ second) places
marks_of_begun first second places u v h = record {
  some = h.some;
  each = λ i l. longer (64 * i) (slice_index places i) (h.each i l);
}
  where
    longer : (count place : ℕ) → IsMark count first place → IsMark count (first ++ second) place
    longer count place k =
        let after : drop place (first ++ second) ≡ drop place first ++ second =
        drop-append-le place first second k.cut.0 in
        let utf8 : IsUtf8 (drop place first ++ second) = IsUtf8-append (drop place first) second k.rest.utf8 v in
        record {
          cut = IsCharBoundary-from_drop (first ++ second) place (omega (arith, length-append first second, k.cut.0))
              (subst IsUtf8 (sym after) utf8);
          rest = subst (λ r. IsRestAfter count (first ++ second) r) (sym after) (record {
            front = k.rest.front;
            many = k.rest.many;
            whole = ap (λ x. x ++ second) k.rest.whole
                ∙ append_assoc (encode_utf8_all k.rest.front) (drop place first) second;
            characters = chars-append first second u ∙ ap (λ x. x ++ chars second) k.rest.characters
                ∙ append_assoc k.rest.front (chars (drop place first)) (chars second)
                ∙ ap (λ x. k.rest.front ++ x) (sym (chars-append (drop place first) second k.rest.utf8));
            utf8 = utf8;
          });
        }
