-- What is known of a record's place stays when more bytes come.
use Rattle.std.proofs.Common.{◌≡◌, ℕ, suc, ◌+◌, ◌-◌, ◌<◌, ◌≤◌, min, List, [], ◌∷◌, ◌++◌, length, take, Option, Some}
use Rattle.std.proofs.Common.{None, Bool, true, false, cond, eqb, ltb, refl, ap, ◌∙◌, arith, length-append}
use Rattle.std.proofs.lemmas.Bool.{lt-ltb, le-ltb, ltb-true, ltb-false, le-leb, leb-true}
use Rattle.std.proofs.lemmas.List.{take-append-le}
use Rattle.sz_types.specs.declared.frame.Frame.{Frame}
use Rattle.sz_types.specs.declared.frame.Frame.TheVariants.{Lines, Delimited}
use Rattle.sz_records.specs.declared.ending.Ending.{Ending}
use Rattle.sz_records.specs.declared.ending.Ending.TheVariants.{Damaged, Limit}
use Rattle.sz_records.specs.declared.limits.FrameLimits.{FrameLimits}
use Rattle.sz_wire.specs.Varint.{varint_at}
use Rattle.sz_records.specs.Cutting.{Standing, record_of, stopped, unfinished, by_limits, line_len, line_standing}
use Rattle.sz_records.specs.Cutting.{sized_standing, length_standing, frame_standing, standing}
use Rattle.sz_records.proofs.VarintLemmas.{varint_stays, varint_stays_none}

-- what stands is a record or the ending, so more bytes change nothing
abbrev IsSettled : Standing → Type 0
IsSettled (record_of r size) = Unit {0}
IsSettled (stopped why) = Unit {0}
IsSettled unfinished = ⊥

line_len_grows : (a b : List ℕ) → line_len a ≤ line_len (a ++ b)
unfolding line_len
line_len_grows [] b = omega arith
line_len_grows (x ∷ xs) b = by_test (line_len_grows xs b) (eqb x 10)
  where
    by_test : line_len xs ≤ line_len (xs ++ b) → (t : Bool)
        → cond t 0 (suc (line_len xs)) ≤ cond t 0 (suc (line_len (xs ++ b)))
    by_test more true = omega arith
    by_test more false = omega arith

line_len_stays : (a b : List ℕ) → line_len a < length a → line_len (a ++ b) ≡ line_len a
unfolding line_len
line_len_stays [] b lt = absurd (omega arith)
line_len_stays (x ∷ xs) b lt = by_test (λ h. line_len_stays xs b h) (eqb x 10) lt
  where
    by_test : (line_len xs < length xs → line_len (xs ++ b) ≡ line_len xs) → (t : Bool)
        → cond t 0 (suc (line_len xs)) < suc (length xs)
        → cond t 0 (suc (line_len (xs ++ b))) ≡ cond t 0 (suc (line_len xs))
    by_test same true h = refl
    by_test same false h = ap suc (same (omega arith))

chain_stays : (long past there long' past' there' : Bool) (p : ℕ) (found found' : Standing)
    → IsSettled (by_limits long past there p found) → (long ≡ true → long' ≡ true) → (past ≡ true → past' ≡ true)
    → (there ≡ true → (there' ≡ true) × (long' ≡ long) × (past' ≡ past) × (found' ≡ found))
    → by_limits long' past' there' p found' ≡ by_limits long past there p found
chain_stays true past there long' past' there' p found found' settled l m w = rw (l refl) refl
chain_stays false true there true past' there' p found found' settled l m w = refl
chain_stays false true there false past' there' p found found' settled l m w = rw (m refl) refl
chain_stays false false true long' past' there' p found found' settled l m w = let h = w refl in
    rw (h.0, h.1, h.2, h.3) refl
chain_stays false false false long' past' there' p found found' settled l m w = absurd settled

line_stays : (limits : FrameLimits) (p : ℕ) (a b : List ℕ) → IsSettled (line_standing limits p a)
    → line_standing limits p (a ++ b) ≡ line_standing limits p a
unfolding line_standing
line_stays limits p a b settled =
    let longer : length (a ++ b) ≡ length a + length b = length-append a b in
    let grows = line_len_grows a b in
    chain_stays _ _ _ _ _ _ p _ _ settled
    (λ e. let h = ltb-true _ _ e in let later : limits.record_bytes < line_len (a ++ b) = omega arith in
    lt-ltb _ _ later) (λ e. let h = ltb-true _ _ e in let later : limits.input_bytes
    < p + min (line_len (a ++ b) + 1) (length (a ++ b)) = omega arith in lt-ltb _ _ later)
    (λ e.
    let lt : line_len a < length a = ltb-true _ _ e in
    let same : line_len (a ++ b) ≡ line_len a = line_len_stays a b lt in
    let room : min (line_len a + 1) (length (a ++ b)) ≡ min (line_len a + 1) (length a) = omega arith in
    let front : take (line_len a) (a ++ b) ≡ take (line_len a) a = take-append-le (line_len a) a b (omega arith) in
    let there : line_len (a ++ b) < length (a ++ b) = omega arith in
    let long : ltb limits.record_bytes (line_len (a ++ b)) ≡ ltb limits.record_bytes (line_len a) = rw same refl in
    let past : ltb limits.input_bytes (p + min (line_len (a ++ b) + 1) (length (a ++ b))) ≡ ltb limits.input_bytes
    (p + min (line_len a + 1) (length a)) = rw (same, room) refl in
    let found : record_of (take (line_len (a ++ b)) (a ++ b)) (line_len (a ++ b) + 1)
    ≡ record_of (take (line_len a) a) (line_len a + 1) =
    rw (same, front) refl in
    (lt-ltb _ _ there, long, past, found))

sized_stays : (limits : FrameLimits) (p used size : ℕ) (a b : List ℕ) → IsSettled (sized_standing limits p used size a)
    → sized_standing limits p used size (a ++ b) ≡ sized_standing limits p used size a
unfolding sized_standing
sized_stays limits p used size a b settled =
    let longer : length (a ++ b) ≡ length a + length b = length-append a b in
    chain_stays _ _ _ _ _ _ p _ _ settled (λ e. e) (λ e. e)
    (λ e.
    let le : size ≤ length a = leb-true _ _ e in
    let front : take size (a ++ b) ≡ take size a = take-append-le size a b le in
    let there : size ≤ length (a ++ b) = omega arith in
    let found : record_of (take size (a ++ b)) (used + size) ≡ record_of (take size a) (used + size) = rw front refl in
    (le-leb _ _ there, refl, refl, found))

length_stays : (limits : FrameLimits) (p : ℕ) (a b : List ℕ) (read : Option (ℕ × List ℕ)) → varint_at a ≡ read
    → IsSettled (length_standing limits p a read)
    → length_standing limits p (a ++ b) (varint_at (a ++ b)) ≡ length_standing limits p a read
unfolding length_standing
length_stays limits p a b None e settled = by_test (ltb (length a) 10) refl settled
  where
    by_test : (t : Bool) → ltb (length a) 10 ≡ t → IsSettled (cond t unfinished (stopped (Damaged p)))
        → length_standing limits p (a ++ b) (varint_at (a ++ b)) ≡ cond t unfinished (stopped (Damaged p))
    by_test true h settled' = absurd settled'
    by_test false h settled' =
        let le : 10 ≤ length a = ltb-false _ _ h in
        let later : ltb (length (a ++ b)) 10 ≡ false = le-ltb _ _ (omega (arith, length-append a b)) in
        rw (varint_stays_none a b le e, later) refl
length_stays limits p a b (Some read) e settled =
    let more : varint_at (a ++ b) ≡ Some (read.0, read.1 ++ b) = varint_stays a b read.0 read.1 e in
    let used : length (a ++ b) - length (read.1 ++ b) ≡ length a - length read.1 =
    omega (arith, length-append a b, length-append read.1 b) in
    rw (more, used) (sized_stays limits p (length a - length read.1) read.0 read.1 b settled)

frame_stays : (frame : Frame) (limits : FrameLimits) (p : ℕ) (a b : List ℕ)
    → IsSettled (frame_standing frame limits p a)
    → frame_standing frame limits p (a ++ b) ≡ frame_standing frame limits p a
unfolding frame_standing
frame_stays Lines limits p a b settled = line_stays limits p a b settled
frame_stays Delimited limits p a b settled = length_stays limits p a b (varint_at a) refl settled

-- a record or an ending stays, whatever comes after
stays : (frame : Frame) (limits : FrameLimits) (p n : ℕ) (a b : List ℕ) → IsSettled (standing frame limits p n a)
    → standing frame limits p n (a ++ b) ≡ standing frame limits p n a
unfolding standing
stays frame limits p n [] b settled = absurd settled
stays frame limits p n (x ∷ xs) b settled = by_test (ltb n limits.records) settled
  where
    by_test : (t : Bool) → IsSettled (cond t (frame_standing frame limits p (x ∷ xs)) (stopped (Limit p)))
        → cond t (frame_standing frame limits p (x ∷ xs ++ b)) (stopped (Limit p))
        ≡ cond t (frame_standing frame limits p (x ∷ xs)) (stopped (Limit p))
    by_test true h = frame_stays frame limits p (x ∷ xs) b h
    by_test false h = refl

pub record_stays : (frame : Frame) (limits : FrameLimits) (p n : ℕ) (a b : List ℕ) (r : List ℕ) (size : ℕ)
    → standing frame limits p n a ≡ record_of r size → standing frame limits p n (a ++ b) ≡ record_of r size
record_stays frame limits p n a b r size e = stays frame limits p n a b (rw e tt) ∙ e

pub ending_stays : (frame : Frame) (limits : FrameLimits) (p n : ℕ) (a b : List ℕ) (why : Ending)
    → standing frame limits p n a ≡ stopped why → standing frame limits p n (a ++ b) ≡ stopped why
ending_stays frame limits p n a b why e = stays frame limits p n a b (rw e tt) ∙ e
