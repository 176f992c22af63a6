-- Lines of which a part is known to have no newline.
use Rattle.std.proofs.Common.{◌≡◌, ℕ, zero, suc, ◌+◌, ◌≤◌, ◌==◌, Bool, true, false, cond, List, [], ◌∷◌, ◌++◌, length, drop, nat_lt, refl, arith, Option, Some, None}
use Rattle.std.proofs.lemmas.Bool.{ltb-false}
use Rattle.sz_types.specs.declared.frame.Frame.{Frame}
use Rattle.sz_types.specs.declared.frame.Frame.TheVariants.{Lines, Delimited}
use Rattle.sz_records.specs.declared.cutter.Cutter.{Cutter}
use Rattle.sz_records.specs.declared.ending.Ending.{Ending}
use Rattle.sz_records.specs.declared.ending.Ending.TheVariants.{Limit}
use Rattle.sz_records.specs.declared.limits.FrameLimits.{FrameLimits}
use Rattle.sz_records.specs.Cutting.{record_of, stopped, unfinished, by_limits, line_len, line_standing, frame_standing, standing}
use Rattle.sz_records.specs.Steps.{IsScanned, IsLeft}

pub line_len_within : (bytes : List ℕ) → line_len bytes ≤ length bytes
unfolding line_len
line_len_within [] = omega arith
line_len_within (b ∷ bytes) = by_test (b == 10) (line_len_within bytes) where
  by_test : (test : Bool) → line_len bytes ≤ length bytes → cond test 0 (suc (line_len bytes)) ≤ suc (length bytes)
  by_test true h = omega arith
  by_test false h = omega (arith, h)

-- after bytes without a newline the line goes on
pub scanned_on : (bytes : List ℕ) (scanned : ℕ) → scanned ≤ line_len bytes
    → line_len bytes ≡ scanned + line_len (drop scanned bytes)
unfolding line_len
scanned_on bytes zero h = omega arith
scanned_on [] (suc n) h = absurd (omega (arith, h))
scanned_on (b ∷ bytes) (suc n) h = by_test (b == 10) (scanned_on bytes n) h where
  by_test : (test : Bool) → (n ≤ line_len bytes → line_len bytes ≡ n + line_len (drop n bytes))
      → suc n ≤ cond test 0 (suc (line_len bytes))
      → cond test 0 (suc (line_len bytes)) ≡ suc n + line_len (drop n bytes)
  by_test true go h = absurd (omega (arith, h))
  by_test false go h = let e = go (omega (arith, h)) in omega (arith, e)

-- more bytes at the end don't make a line shorter
pub scanned_more : (bytes more : List ℕ) → line_len bytes ≤ line_len (bytes ++ more)
unfolding line_len
scanned_more [] more = omega arith
scanned_more (b ∷ bytes) more = by_test (b == 10) (scanned_more bytes more) where
  by_test : (test : Bool) → line_len bytes ≤ line_len (bytes ++ more)
      → cond test 0 (suc (line_len bytes)) ≤ cond test 0 (suc (line_len (bytes ++ more)))
  by_test true h = omega arith
  by_test false h = omega (arith, h)

not_there : (too_long past_input all_there : Bool) (p : ℕ) (r : List ℕ) (size : ℕ)
    → by_limits too_long past_input all_there p (record_of r size) ≡ unfinished → all_there ≡ false
not_there true past_input all_there p r size e = absurd cc
not_there false true all_there p r size e = absurd cc
not_there false false true p r size e = absurd cc
not_there false false false p r size e = refl

line_open : (limits : FrameLimits) (p : ℕ) (bytes : List ℕ) → line_standing limits p bytes ≡ unfinished
    → length bytes ≤ line_len bytes
unfolding line_standing
line_open limits p bytes e = ltb-false (line_len bytes) (length bytes) (not_there _ _ _ p _ _ e)

-- a line that isn't all there has no newline
pub open_scanned : (frame : Frame) (limits : FrameLimits) (p n : ℕ) (bytes : List ℕ)
    → standing frame limits p n bytes ≡ unfinished → frame ≡ Lines → length bytes ≤ line_len bytes
unfolding standing frame_standing
open_scanned frame limits p n [] e is = omega arith
open_scanned Lines limits p n (b ∷ bytes) e is = by_count (nat_lt n limits.records) e where
  by_count : (test : Bool) → cond test (line_standing limits p (b ∷ bytes)) (stopped (Limit p)) ≡ unfinished
      → length (b ∷ bytes) ≤ line_len (b ∷ bytes)
  by_count true e = line_open limits p (b ∷ bytes) e
  by_count false e = absurd cc
open_scanned Delimited limits p n (b ∷ bytes) e is = absurd cc

-- all bytes that are left of lines were looked at, where the ending isn't known
pub all_scanned : (cutter : Cutter) (left : List ℕ) (ended : Option Ending) → IsLeft cutter left ended → ended ≡ None
    → IsScanned cutter.frame left (length left)
all_scanned cutter left None over is = open_scanned cutter.frame cutter.limits cutter.place cutter.count left over
all_scanned cutter left (Some e) over is = absurd cc

-- what was looked at stays so, whatever bytes come after it
pub scanned_longer : (frame : Frame) (bytes more : List ℕ) (scanned : ℕ) → IsScanned frame bytes scanned
    → IsScanned frame (bytes ++ more) scanned
scanned_longer frame bytes more scanned h is = let a = h is in let b = scanned_more bytes more in omega (arith, a, b)

-- nothing was looked at
pub none_scanned : (frame : Frame) (bytes : List ℕ) → IsScanned frame bytes 0
none_scanned frame bytes is = omega arith
