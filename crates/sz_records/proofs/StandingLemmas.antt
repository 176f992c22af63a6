-- What stands where a record begins, case by case.
use Rattle.std.proofs.Common.{◌≡◌, ℕ, zero, suc, ◌+◌, ◌-◌, ◌<◌, ◌≤◌, min, List, [], ◌∷◌, length, get_or, Option, Some, None, Bool, true}
use Rattle.std.proofs.Common.{false, eqb, ltb, cond, refl, sym, ap, arith}
use Rattle.std.specs.Prelude.{unwrap_or, nat_lt, nat_le, take}
use Rattle.std.proofs.Common.{eq-eqb}
use Rattle.std.proofs.lemmas.Bool.{lt-ltb, le-ltb, ltb-true, ltb-false, leb-false, eqb-true}
use Rattle.memchr.specs.Find.{IsFirstByte, is_byte}
use Rattle.sz_types.specs.declared.frame.Frame.{Frame}
use Rattle.sz_types.specs.declared.frame.Frame.TheVariants.{Lines, Delimited}
use Rattle.sz_wire.specs.Varint.{varint_at}
use Rattle.sz_records.specs.declared.ending.Ending.TheVariants.{Whole, Damaged, Limit}
use Rattle.sz_records.specs.declared.limits.FrameLimits.{FrameLimits}
use Rattle.sz_records.specs.declared.record_at.Front.{Front}
use Rattle.sz_records.specs.declared.record_at.Front.TheVariants as fronts
use Rattle.sz_records.specs.Fronts.{IsCounted}
use Rattle.sz_records.specs.Cutting.{record_of, stopped, unfinished, by_limits, line_len, line_standing}
use Rattle.sz_records.specs.Cutting.{sized_standing, length_standing, frame_standing, standing}

pub nothing_stands : (frame : Frame) (limits : FrameLimits) (p n : ℕ) (bytes : List ℕ) → length bytes ≡ 0
    → standing frame limits p n bytes ≡ unfinished
unfolding standing
nothing_stands frame limits p n [] e = refl
nothing_stands frame limits p n (b ∷ bytes) e = absurd (omega arith)

pub too_many : (frame : Frame) (limits : FrameLimits) (p n : ℕ) (bytes : List ℕ) → 0 < length bytes → limits.records ≤ n
    → standing frame limits p n bytes ≡ stopped (Limit p)
unfolding standing
too_many frame limits p n [] some le = absurd (omega arith)
too_many frame limits p n (b ∷ bytes) some le = let test : ltb n limits.records ≡ false = le-ltb _ _ le in rw test refl

pub by_frame : (frame : Frame) (limits : FrameLimits) (p n : ℕ) (bytes : List ℕ) → 0 < length bytes → n < limits.records
    → standing frame limits p n bytes ≡ frame_standing frame limits p bytes
unfolding standing
by_frame frame limits p n [] some lt = absurd (omega arith)
by_frame frame limits p n (b ∷ bytes) some lt = let test : ltb n limits.records ≡ true = lt-ltb _ _ lt in rw test refl

-- the place of the first byte 10
pub line_len_is : (bytes : List ℕ) (k : ℕ) → k ≤ length bytes → ((i : ℕ) → i < k → get_or bytes i 0 ≡ 10 → ⊥)
    → (k < length bytes → get_or bytes k 0 ≡ 10) → line_len bytes ≡ k
unfolding line_len
line_len_is [] k le before here = omega arith
line_len_is (b ∷ bytes) zero le before here = let e : b ≡ 10 = here (omega arith) in rw e refl
line_len_is (b ∷ bytes) (suc k) le before here =
    let other : eqb b 10 ≡ false = let ne : b ≡ 10 → ⊥ = before 0 (omega arith) in grind arith in
    rw other
    (ap suc (line_len_is bytes k (omega arith) (λ i lt. before (suc i) (omega arith)) (λ lt. here (omega arith))))

-- a test that a byte is 10
is_10 : (b : ℕ) → is_byte 10 b ≡ true → b ≡ 10
is_10 b e = eqb-true b 10 e

pub first_newline : (bytes : List ℕ) (r : Option ℕ) → IsFirstByte (is_byte 10) bytes r
    → unwrap_or r (length bytes) ≡ line_len bytes
first_newline bytes None h =
    sym (line_len_is bytes (length bytes) (omega arith)
    (λ i lt e. h i (omega arith) lt (eq-eqb (get_or bytes i 0) 10 e)) (λ lt. absurd (omega arith)))
first_newline bytes (Some k) h =
    let inside : k < length bytes = h.0.high in
    sym (line_len_is bytes k (omega arith) (λ i lt e. h.0.before i (omega arith) lt (eq-eqb (get_or bytes i 0) 10 e))
    (λ lt. is_10 (get_or bytes k 0) h.1))

pub counted : (n most : ℕ) (found : Front) → n < most → IsCounted n most found
counted n most (fronts.Record from to size) lt = lt
counted n most (fronts.Stopped why) lt = tt
counted n most fronts.Unfinished lt = tt

-- what stands is never the ending of a file that is whole
limits_never_whole : (long past there : Bool) (p : ℕ) (r : List ℕ) (size : ℕ)
    → by_limits long past there p (record_of r size) ≡ stopped Whole → ⊥
limits_never_whole true past there p r size e = cc
limits_never_whole false true there p r size e = cc
limits_never_whole false false true p r size e = cc
limits_never_whole false false false p r size e = cc

sized_never_whole : (limits : FrameLimits) (p used size : ℕ) (later : List ℕ)
    → sized_standing limits p used size later ≡ stopped Whole → ⊥
unfolding sized_standing
sized_never_whole limits p used size later e =
    limits_never_whole (nat_lt limits.record_bytes size) (nat_lt limits.input_bytes (p + (used + size)))
    (nat_le size (length later)) p (take size later) (used + size) e

length_never_whole : (limits : FrameLimits) (p : ℕ) (bytes : List ℕ) (read : Option (ℕ × List ℕ))
    → length_standing limits p bytes read ≡ stopped Whole → ⊥
unfolding length_standing
length_never_whole limits p bytes None e = by (ltb (length bytes) 10) e
  where
    by : (t : Bool) → cond t unfinished (stopped (Damaged p)) ≡ stopped Whole → ⊥
    by true e = cc
    by false e = cc
length_never_whole limits p bytes (Some read) e =
    sized_never_whole limits p (length bytes - length read.1) read.0 read.1 e

line_never_whole : (limits : FrameLimits) (p : ℕ) (bytes : List ℕ) → line_standing limits p bytes ≡ stopped Whole → ⊥
unfolding line_standing
line_never_whole limits p bytes e =
    limits_never_whole (nat_lt limits.record_bytes (line_len bytes))
    (nat_lt limits.input_bytes (p + min (line_len bytes + 1) (length bytes)))
    (nat_lt (line_len bytes) (length bytes)) p (take (line_len bytes) bytes) (line_len bytes + 1) e

pub never_whole : (frame : Frame) (limits : FrameLimits) (p n : ℕ) (bytes : List ℕ)
    → standing frame limits p n bytes ≡ stopped Whole → ⊥
unfolding standing frame_standing
never_whole frame limits p n [] e = cc
never_whole frame limits p n (b ∷ bytes) e = by frame (ltb n limits.records) e
  where
    by : (frame : Frame) (t : Bool)
        → cond t (frame_standing frame limits p (b ∷ bytes)) (stopped (Limit p)) ≡ stopped Whole → ⊥
    by frame false e = cc
    by Lines true e = line_never_whole limits p (b ∷ bytes) e
    by Delimited true e = length_never_whole limits p (b ∷ bytes) (varint_at (b ∷ bytes)) e

-- no limit is passed where a record is only begun
record OnlyBegun (past there : Bool) : Type 0 where
  within : past ≡ false
  more : there ≡ false

only_begun : (long past there : Bool) (p : ℕ) (r : List ℕ) (size : ℕ)
    → by_limits long past there p (record_of r size) ≡ unfinished → OnlyBegun past there
only_begun true past there p r size e = absurd cc
only_begun false true there p r size e = absurd cc
only_begun false false true p r size e = absurd cc
only_begun false false false p r size e = record { within = refl; more = refl }

line_within : (limits : FrameLimits) (p : ℕ) (bytes : List ℕ) → line_standing limits p bytes ≡ unfinished
    → p + length bytes ≤ limits.input_bytes
unfolding line_standing
line_within limits p bytes e =
    let o = only_begun (nat_lt limits.record_bytes (line_len bytes))
    (nat_lt limits.input_bytes (p + min (line_len bytes + 1) (length bytes)))
    (nat_lt (line_len bytes) (length bytes)) p (take (line_len bytes) bytes) (line_len bytes + 1) e in
    let within : p + min (line_len bytes + 1) (length bytes) ≤ limits.input_bytes = ltb-false _ _ o.within in
    let open_still : length bytes ≤ line_len bytes = ltb-false _ _ o.more in
    omega (arith, within, open_still)

sized_within : (limits : FrameLimits) (p used size : ℕ) (later : List ℕ)
    → sized_standing limits p used size later ≡ unfinished → p + (used + length later) ≤ limits.input_bytes
unfolding sized_standing
sized_within limits p used size later e =
    let o = only_begun (nat_lt limits.record_bytes size) (nat_lt limits.input_bytes (p + (used + size)))
    (nat_le size (length later)) p (take size later) (used + size) e in
    let within : p + (used + size) ≤ limits.input_bytes = ltb-false _ _ o.within in
    let more : length later < size = leb-false _ _ o.more in
    omega (arith, within, more)

length_within : (limits : FrameLimits) (p : ℕ) (bytes : List ℕ) (read : Option (ℕ × List ℕ)) → p ≤ limits.input_bytes
    → length_standing limits p bytes read ≡ unfinished → p + length bytes ≤ limits.input_bytes + 9
unfolding length_standing
length_within limits p bytes None low e = by (ltb (length bytes) 10) refl e
  where
    by : (t : Bool) → ltb (length bytes) 10 ≡ t → cond t unfinished (stopped (Damaged p)) ≡ unfinished
        → p + length bytes ≤ limits.input_bytes + 9
    by true is e = let few : length bytes < 10 = ltb-true _ _ is in omega (arith, few, low)
    by false is e = absurd cc
length_within limits p bytes (Some read) low e =
    let within = sized_within limits p (length bytes - length read.1) read.0 read.1 e in omega (arith, within)

-- where a record is only begun, what there is of it lies in the input, but for the bytes of its length
pub begun_within : (frame : Frame) (limits : FrameLimits) (p n : ℕ) (bytes : List ℕ) → p ≤ limits.input_bytes
    → standing frame limits p n bytes ≡ unfinished → p + length bytes ≤ limits.input_bytes + 9
unfolding standing frame_standing
begun_within frame limits p n [] low e = omega (arith, low)
begun_within frame limits p n (b ∷ bytes) low e = by frame (ltb n limits.records) e
  where
    by : (frame : Frame) (t : Bool)
        → cond t (frame_standing frame limits p (b ∷ bytes)) (stopped (Limit p)) ≡ unfinished
        → p + length (b ∷ bytes) ≤ limits.input_bytes + 9
    by frame false e = absurd cc
    by Lines true e = let within = line_within limits p (b ∷ bytes) e in omega (arith, within)
    by Delimited true e = length_within limits p (b ∷ bytes) (varint_at (b ∷ bytes)) low e

-- and where records are lines, all of it does
pub lines_within : (limits : FrameLimits) (p n : ℕ) (bytes : List ℕ) → p ≤ limits.input_bytes
    → standing Lines limits p n bytes ≡ unfinished → p + length bytes ≤ limits.input_bytes
unfolding standing frame_standing
lines_within limits p n [] low e = omega (arith, low)
lines_within limits p n (b ∷ bytes) low e = by (ltb n limits.records) e
  where
    by : (t : Bool) → cond t (line_standing limits p (b ∷ bytes)) (stopped (Limit p)) ≡ unfinished
        → p + length (b ∷ bytes) ≤ limits.input_bytes
    by false e = absurd cc
    by true e = line_within limits p (b ∷ bytes) e
