-- The records of a file, and how they end.
use Rattle.std.specs.Prelude.{◌≡◌, ℕ, zero, suc, ◌+◌, ◌-◌, List, [], ◌∷◌, length, take, drop, min, Option, Some, None, Bool, ◌^◌}
use Rattle.std.specs.Prelude.{nat_lt, nat_le, ◌==◌, if◌then◌else◌}
use Rattle.sz_types.specs.declared.frame.Frame.{Frame}
use Rattle.sz_types.specs.declared.frame.Frame.TheVariants.{Lines, Delimited}
use Rattle.sz_wire.specs.Varint.{varint_at}
use Rattle.sz_records.specs.declared.ending.Ending.{Ending}
use Rattle.sz_records.specs.declared.ending.Ending.TheVariants.{Whole, Damaged, Limit}
use Rattle.sz_records.specs.declared.limits.FrameLimits.{FrameLimits}

-- what an input may hold: the bytes of a record, the number of records, and its bytes in all
abbrev pub full : FrameLimits
full = record { record_bytes = 4194304; records = 2147483648; input_bytes = 2 ^ 40 }

-- what stands where a record begins: a record, with the number of bytes that it takes; the ending; or the beginning
-- of a record
pub data Standing : Type 0 where
  record_of : List ℕ → ℕ → Standing
  stopped : Ending → Standing
  unfinished : Standing

-- how many bytes are before the first byte 10, or before the end
unfoldable pub line_len : List ℕ → ℕ
line_len [] = 0
line_len (b ∷ bytes) = if b == 10 then 0 else suc (line_len bytes)

-- where a record would begin at byte p: it is too long, it ends past the input, it is all there, or it is only begun
abbrev pub by_limits : Bool → Bool → Bool → ℕ → Standing → Standing
by_limits too_long past_input all_there p found =
    if too_long then stopped (Limit p) else if past_input then stopped (Limit p) else if all_there
    then found else unfinished

-- what stands at byte p where records are lines; a line takes its byte 10 too, if that is there
unfoldable pub line_standing : FrameLimits → ℕ → List ℕ → Standing
line_standing limits p bytes = by_limits
    (nat_lt limits.record_bytes (line_len bytes))
    (nat_lt limits.input_bytes (p + min (line_len bytes + 1) (length bytes)))
    (nat_lt (line_len bytes) (length bytes))
    p (record_of (take (line_len bytes) bytes) (line_len bytes + 1))

-- what stands at byte p where so many bytes have told a record's length, and these are after them
unfoldable pub sized_standing : FrameLimits → ℕ → ℕ → ℕ → List ℕ → Standing
sized_standing limits p used size later = by_limits
    (nat_lt limits.record_bytes size)
    (nat_lt limits.input_bytes (p + (used + size)))
    (nat_le size (length later))
    p (record_of (take size later) (used + size))

-- with the length that was read: none is there so far, or none can be there, or one of so many bytes
unfoldable pub length_standing : FrameLimits → ℕ → List ℕ → Option (ℕ × List ℕ) → Standing
length_standing limits p bytes None = if nat_lt (length bytes) 10 then unfinished else stopped (Damaged p)
length_standing limits p bytes (Some read) = sized_standing limits p (length bytes - length read.1) read.0 read.1

-- what stands at byte p, by the frame
unfoldable pub frame_standing : Frame → FrameLimits → ℕ → List ℕ → Standing
frame_standing Lines limits p bytes = line_standing limits p bytes
frame_standing Delimited limits p bytes = length_standing limits p bytes (varint_at bytes)

-- what stands at byte p after n records
unfoldable pub standing : Frame → FrameLimits → ℕ → ℕ → List ℕ → Standing
standing frame limits p n [] = unfinished
standing frame limits p n (b ∷ bytes) =
    if nat_lt n limits.records then frame_standing frame limits p (b ∷ bytes) else stopped (Limit p)

-- the records and the ending of a file that ends after these bytes, which are the beginning of a record
abbrev pub at_end : Frame → ℕ → List ℕ → List (List ℕ) × Ending
at_end frame p [] = ([], Whole)
at_end Lines p (b ∷ bytes) = ((b ∷ bytes) ∷ [], Whole)
at_end Delimited p (b ∷ bytes) = ([], Damaged p)

-- no record is there, where this stands
abbrev pub EndsHere : Frame → ℕ → List ℕ → Ending → Standing → Type 0
EndsHere frame p bytes e (record_of r size) = ⊥
EndsHere frame p bytes e (stopped why) = e ≡ why
EndsHere frame p bytes e unfinished = at_end frame p bytes ≡ ([], e)

-- a record is there, and more as told, where this stands
abbrev pub BeginsWith : Frame → ℕ → List ℕ → (ℕ → Type 0) → List ℕ → List (List ℕ) → Ending → Standing → Type 0
BeginsWith frame p bytes goes_on first others e (record_of r size) = (first ≡ r) × goes_on size
BeginsWith frame p bytes goes_on first others e (stopped why) = ⊥
BeginsWith frame p bytes goes_on first others e unfinished = at_end frame p bytes ≡ (first ∷ others, e)

-- from byte p on, after n records, the rest of a file is cut into these records with this ending
unfoldable pub IsCut : Frame → FrameLimits → ℕ → ℕ → List ℕ → List (List ℕ) → Ending → Type 0
IsCut frame limits p n bytes [] e = EndsHere frame p bytes e (standing frame limits p n bytes)
IsCut frame limits p n bytes (first ∷ others) e =
    BeginsWith frame p bytes (λ size. IsCut frame limits (p + size) (n + 1) (drop size bytes) others e) first others e
    (standing frame limits p n bytes)

-- the way in which the rest of a file is cut
pub record HasCut (frame : Frame) (limits : FrameLimits) (p n : ℕ) (bytes : List ℕ) : Type 0 where
  pub records : List (List ℕ)
  pub ending : Ending
  pub cut : IsCut frame limits p n bytes records ending

-- to which byte a record leads that begins at byte p, where this stands, and further ones as told; a last line leads
-- to the end
abbrev pub leads_to : ℕ → List ℕ → (ℕ → ℕ) → Standing → ℕ
leads_to p bytes later (record_of r size) = later size
leads_to p bytes later (stopped why) = p
leads_to p bytes later unfinished = p + length bytes

-- from byte p on, after n records: where the last of so many more of them ends, which is byte p for none
unfoldable pub place_after : Frame → FrameLimits → ℕ → ℕ → List ℕ → ℕ → ℕ
place_after frame limits p n bytes zero = p
place_after frame limits p n bytes (suc count) =
    leads_to p bytes (λ size. place_after frame limits (p + size) (n + 1) (drop size bytes) count)
    (standing frame limits p n bytes)

-- the places to which further records lead, where i records lead to the place of i
abbrev pub places_of : (ℕ → ℕ) → ℕ → ℕ → List ℕ
places_of place i zero = []
places_of place i (suc count) = place (suc i) ∷ places_of place (suc i) count

-- where so many records of what stands behind byte p and n records of a file end, from record i of them on, counted
-- from 0
abbrev pub ends_in : ℕ → ℕ → Frame → FrameLimits → List ℕ → ℕ → ℕ → List ℕ
ends_in p n frame limits bytes i count = places_of (place_after frame limits p n bytes) i count
