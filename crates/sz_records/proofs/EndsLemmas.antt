-- Records that lie in one list of bytes.
use Rattle.std.proofs.Common.{◌≡◌, ℕ, zero, suc, ◌+◌, ◌-◌, ◌<◌, ◌≤◌, List, [], ◌∷◌, ◌++◌, length, take, drop, map, get_or, Some, refl, sym, subst, ap, ◌∙◌, arith, length-drop}
use Rattle.std.specs.Prelude.{slice_get}
use Rattle.std.specs.List.{slice_range, copy_within}
use Rattle.std.proofs.lemmas.List.{take_all, take-append-le, take-append-drop, drop-append-le, drop-drop, length-take-le}
use Rattle.std.proofs.Math.Seq.{drop-append_seam}
use Rattle.std.proofs.lemmas.List.Edits.{take-paste}
use Rattle.std.proofs.lemmas.List.Sums.{sum_by-cons}
use Rattle.sz_records.specs.Ends.{RecordsData, records_at, AreEnds}
use Rattle.sz_records.specs.Shards.{bytes_in}

-- what is left of a list whose rest was moved to its front
pub left_later : {X : Type 0} (xs : List X) (k n : ℕ) → n ≡ length xs - k → k ≤ length xs
    → take n (copy_within xs k (length xs) 0) ≡ drop k xs
left_later xs k n e le =
    let rest = length-drop k xs in
    let pasted : take (length xs - k) (copy_within xs k (length xs) 0) ≡ take (length xs - k) (drop k xs) =
    ap (λ (m : ℕ). take m (copy_within xs k (length xs) 0))
    (let none : length xs - k ≡ 0 + (length xs - k) = omega arith in none)
    ∙ take-paste xs 0 (drop k xs) (length xs - k) (omega arith) (omega (arith, rest)) in
    rw e (pasted ∙ take_all (length xs - k) (drop k xs) (omega (arith, rest)))

-- records are their bytes and their ends
pub same_data : (one other : RecordsData) → one.items ≡ other.items → one.ends ≡ other.ends → one ≡ other
same_data one other items ends =
    ap (λ (x : List (List ℕ)). let d : RecordsData = record { items = x; ends = one.ends } in d) items
    ∙ ap (λ (x : List ℕ). let d : RecordsData = record { items = other.items; ends = x } in d) ends

-- as many records as ends
pub records_len : (from : ℕ) (ends bytes : List ℕ) → length (records_at from ends bytes) ≡ length ends
records_len from [] bytes = refl
records_len from (end ∷ ends) bytes = ap suc (records_len end ends bytes)

pub end_at : (self : List (List ℕ)) (ends bytes : List ℕ) (i : ℕ) → records_at 0 ends bytes ≡ self → i < length self
    → i < length ends
end_at self ends bytes i is lt = let n = ap length is in let m = records_len 0 ends bytes in omega (arith, lt, n, m)

pub ends_up_to : (self : List (List ℕ)) (ends bytes : List ℕ) (i : ℕ) → records_at 0 ends bytes ≡ self
    → i ≤ length self → i ≤ length ends
ends_up_to self ends bytes i is le = let n = ap length is in let m = records_len 0 ends bytes in omega (arith, le, n, m)

-- the bytes of a record lie between the end of the one before and its own
pub record_at : (from : ℕ) (ends bytes : List ℕ) (i : ℕ) → i < length ends
    → slice_get (records_at from ends bytes) i ≡ Some (slice_range bytes (get_or (from ∷ ends) i 0) (get_or ends i 0))
record_at from [] bytes i lt = absurd (omega (arith, lt))
record_at from (end ∷ ends) bytes zero lt = refl
record_at from (end ∷ ends) bytes (suc i) lt = record_at end ends bytes i (omega (arith, lt))

-- no end lies after the last one
pub ends_rise : (from : ℕ) (ends : List ℕ) (len : ℕ) → AreEnds from ends len → from ≤ len
ends_rise from [] len h = omega (arith, h)
ends_rise from (end ∷ ends) len h = let more = ends_rise end ends len h.1 in let low = h.0 in omega (arith, low, more)

pub end_within : (from : ℕ) (ends : List ℕ) (len i : ℕ) → AreEnds from ends len → i < length ends
    → (get_or (from ∷ ends) i 0 ≤ get_or ends i 0) × (get_or ends i 0 ≤ len)
end_within from [] len i h lt = absurd (omega (arith, lt))
end_within from (end ∷ ends) len zero h lt = (h.0, ends_rise end ends len h.1)
end_within from (end ∷ ends) len (suc i) h lt = end_within end ends len i h.1 (omega (arith, lt))

pub place_within : (from : ℕ) (ends : List ℕ) (len i : ℕ) → AreEnds from ends len → i ≤ length ends
    → get_or (from ∷ ends) i 0 ≤ len
place_within from ends len zero h le = ends_rise from ends len h
place_within from [] len (suc i) h le = absurd (omega (arith, le))
place_within from (end ∷ ends) len (suc i) h le = place_within end ends len i h.1 (omega (arith, le))

-- the first records, and those after them
pub first_records : (from : ℕ) (ends bytes : List ℕ) (n : ℕ)
    → take n (records_at from ends bytes) ≡ records_at from (take n ends) bytes
first_records from ends bytes zero = refl
first_records from [] bytes (suc n) = refl
first_records from (end ∷ ends) bytes (suc n) =
    ap (λ (rs : List (List ℕ)). slice_range bytes from end ∷ rs) (first_records end ends bytes n)

pub first_ends : (from : ℕ) (ends : List ℕ) (len n : ℕ) → AreEnds from ends len → n ≤ length ends
    → AreEnds from (take n ends) (get_or (from ∷ ends) n 0)
first_ends from ends len zero h le = refl
first_ends from [] len (suc n) h le = absurd (omega (arith, le))
first_ends from (end ∷ ends) len (suc n) h le = (h.0, first_ends end ends len n h.1 (omega (arith, le)))

pub later_records : (from : ℕ) (ends bytes : List ℕ) (n : ℕ) → n ≤ length ends
    → drop n (records_at from ends bytes) ≡ records_at (get_or (from ∷ ends) n 0) (drop n ends) bytes
later_records from ends bytes zero le = refl
later_records from [] bytes (suc n) le = absurd (omega (arith, le))
later_records from (end ∷ ends) bytes (suc n) le = later_records end ends bytes n (omega (arith, le))

pub later_ends : (from : ℕ) (ends : List ℕ) (len n : ℕ) → AreEnds from ends len → n ≤ length ends
    → AreEnds (get_or (from ∷ ends) n 0) (drop n ends) len
later_ends from ends len zero h le = h
later_ends from [] len (suc n) h le = absurd (omega (arith, le))
later_ends from (end ∷ ends) len (suc n) h le = later_ends end ends len n h.1 (omega (arith, le))

-- what lies between two places is the same with more bytes at the end
same_range : (from end : ℕ) (bytes more : List ℕ) → from ≤ end → end ≤ length bytes
    → slice_range (bytes ++ more) from end ≡ slice_range bytes from end
same_range from end bytes more low high =
    let rest = length-drop from bytes in
    ap (take (end - from)) (drop-append-le from bytes more (omega (arith, low, high)))
    ∙ take-append-le (end - from) (drop from bytes) more (omega (arith, low, high, rest))

-- bytes after the last record change none
pub more_after : (from : ℕ) (ends bytes more : List ℕ) → AreEnds from ends (length bytes)
    → records_at from ends (bytes ++ more) ≡ records_at from ends bytes
more_after from [] bytes more h = refl
more_after from (end ∷ ends) bytes more h =
    rw (
      same_range from end bytes more h.0 (ends_rise end ends (length bytes) h.1),
      more_after end ends bytes more h.1,
    ) refl

-- one record more
pub one_more : (from : ℕ) (ends bytes more : List ℕ) (len : ℕ) → AreEnds from ends (length bytes)
    → len ≡ length bytes + length more
    → records_at from (ends ++ len ∷ []) (bytes ++ more) ≡ records_at from ends bytes ++ more ∷ []
one_more from [] bytes more len h e =
    let last : slice_range (bytes ++ more) from len ≡ more =
    rw h (ap (take (len - length bytes)) (drop-append_seam bytes more)
    ∙ take_all (len - length bytes) more (omega (arith, e))) in
    rw last refl
one_more from (end ∷ ends) bytes more len h e =
    rw (
      same_range from end bytes more h.0 (ends_rise end ends (length bytes) h.1),
      one_more end ends bytes more len h.1 e,
    ) refl

pub one_end_more : (from : ℕ) (ends : List ℕ) (len more : ℕ) → AreEnds from ends len → len ≤ more
    → AreEnds from (ends ++ more ∷ []) more
one_end_more from [] len more h le = (omega (arith, h, le), refl)
one_end_more from (end ∷ ends) len more h le = (h.0, one_end_more end ends len more h.1 le)

-- without bytes in front of the first record each place is so much lower
moved : (from : ℕ) (ends bytes : List ℕ) (front len : ℕ) → AreEnds from ends len → front ≤ from
    → records_at (from - front) (map (λ end. end - front) ends) (drop front bytes) ≡ records_at from ends bytes
moved from [] bytes front len h le = refl
moved from (end ∷ ends) bytes front len h le =
    let low = h.0 in
    let start : front + (from - front) ≡ from = omega (arith, le) in
    let size : end - front - (from - front) ≡ end - from = omega (arith, le, low) in
    let same : slice_range (drop front bytes) (from - front) (end - front) ≡ slice_range bytes from end =
    rw (size, drop-drop (from - front) front bytes, start) refl in
    rw (same, moved end ends bytes front len h.1 (omega (arith, le, low))) refl

pub moved_ends : (from : ℕ) (ends : List ℕ) (front len : ℕ) → AreEnds from ends len → front ≤ from
    → AreEnds (from - front) (map (λ end. end - front) ends) (len - front)
moved_ends from [] front len h le = ap (λ (n : ℕ). n - front) h
moved_ends from (end ∷ ends) front len h le = let low = h.0 in
    (omega (arith, low), moved_ends end ends front len h.1 (omega (arith, le, low)))

-- the records without the first ones
pub cleared : (ends bytes : List ℕ) (n place : ℕ) → AreEnds 0 ends (length bytes) → n ≤ length ends
    → place ≡ get_or (0 ∷ ends) n 0
    → records_at 0 (map (λ end. end - place) (drop n ends)) (drop place bytes) ≡ drop n (records_at 0 ends bytes)
cleared ends bytes n place h le is =
    let none : place - place ≡ 0 = omega arith in
    let later : AreEnds place (drop n ends) (length bytes) = rw is (later_ends 0 ends (length bytes) n h le) in
    let here : records_at 0 (map (λ end. end - place) (drop n ends)) (drop place bytes)
    ≡ records_at place (drop n ends) bytes =
    subst (λ (k : ℕ). records_at k (map (λ end. end - place) (drop n ends)) (drop place bytes)
    ≡ records_at place (drop n ends) bytes) none
    (moved place (drop n ends) bytes place (length bytes) later (omega arith)) in
    here ∙ rw is (sym (later_records 0 ends bytes n le))

-- the first records alone
pub kept_ends : (ends bytes : List ℕ) (n place : ℕ) → AreEnds 0 ends (length bytes) → n ≤ length ends
    → place ≡ get_or (0 ∷ ends) n 0 → AreEnds 0 (take n ends) (length (take place bytes))
kept_ends ends bytes n place h le is =
    let within : place ≤ length bytes = rw is (place_within 0 ends (length bytes) n h le) in
    rw (length-take-le place bytes within, is) (first_ends 0 ends (length bytes) n h le)

pub kept : (ends bytes : List ℕ) (n place : ℕ) → AreEnds 0 ends (length bytes) → n ≤ length ends
    → place ≡ get_or (0 ∷ ends) n 0 → records_at 0 (take n ends) (take place bytes) ≡ take n (records_at 0 ends bytes)
kept ends bytes n place h le is =
    sym (more_after 0 (take n ends) (take place bytes) (drop place bytes) (kept_ends ends bytes n place h le is))
    ∙ ap (records_at 0 (take n ends)) (take-append-drop place bytes) ∙ sym (first_records 0 ends bytes n)

-- the bytes of the first records lie between where they begin and where they end
bytes_of_front : (from : ℕ) (ends bytes : List ℕ) (n : ℕ) → AreEnds from ends (length bytes) → n ≤ length ends
    → bytes_in (take n (records_at from ends bytes)) + from ≡ get_or (from ∷ ends) n 0
bytes_of_front from ends bytes zero h le = (let same : 0 + from ≡ from = omega arith in same)
bytes_of_front from [] bytes (suc n) h le = absurd (omega (arith, le))
bytes_of_front from (end ∷ ends) bytes (suc n) h le =
    let more = bytes_of_front end ends bytes n h.1 (omega (arith, le)) in
    let high = ends_rise end ends (length bytes) h.1 in
    let low = h.0 in
    let rest = length-drop from bytes in
    let long = length-take-le (end - from) (drop from bytes) (omega (arith, rest, low, high)) in
    let step = sum_by-cons length (slice_range bytes from end) (take n (records_at end ends bytes)) in
    let there : get_or (from ∷ end ∷ ends) (suc n) 0 ≡ get_or (end ∷ ends) n 0 = refl in
    omega (arith, step, there, more, long, low)

-- places after others
pub place_later : (start : ℕ) (ends : List ℕ) (n k : ℕ) → n ≤ length ends
    → get_or (get_or (start ∷ ends) n 0 ∷ drop n ends) k 0 ≡ get_or (start ∷ ends) (n + k) 0
place_later start ends zero k le = ap (λ (j : ℕ). get_or (start ∷ ends) j 0) (let e : k ≡ 0 + k = omega arith in e)
place_later start [] (suc n) k le = absurd (omega (arith, le))
place_later start (end ∷ ends) (suc n) k le =
    place_later end ends n k (omega (arith, le))
    ∙ ap (λ (j : ℕ). get_or (start ∷ end ∷ ends) j 0) (let e : suc (n + k) ≡ suc n + k = omega arith in e)

-- the bytes of the records from one place to another
pub bytes_held : (self : List (List ℕ)) (ends bytes : List ℕ) (from to : ℕ) → records_at 0 ends bytes ≡ self
    → AreEnds 0 ends (length bytes) → from ≤ to → to ≤ length self
    → bytes_in (take (to - from) (drop from self)) + get_or (0 ∷ ends) from 0 ≡ get_or (0 ∷ ends) to 0
bytes_held self ends bytes from to is h order le =
    let all = ends_up_to self ends bytes to is le in
    let front : from ≤ length ends = omega (arith, all, order) in
    let start = get_or (0 ∷ ends) from 0 in
    let rest = length-drop from ends in
    let join : from + (to - from) ≡ to = omega (arith, order) in
    ap (λ (rs : List (List ℕ)). bytes_in (take (to - from) (drop from rs)) + start) (sym is)
    ∙ ap (λ (rs : List (List ℕ)). bytes_in (take (to - from) rs) + start) (later_records 0 ends bytes from front)
    ∙ bytes_of_front start (drop from ends) bytes (to - from) (later_ends 0 ends (length bytes) from h front)
    (omega (arith, rest, all, order)) ∙ place_later 0 ends from (to - from) front
    ∙ ap (λ (j : ℕ). get_or (0 ∷ ends) j 0) join

-- the places in front of one are lowered, and the others are still to be
abbrev pub AreLowered : ℕ → List ℕ → List ℕ → ℕ → Type 0
AreLowered front all now i = take i now ++ map (λ place. place - front) (drop i now) ≡ map (λ place. place - front) all
