-- What is unfinished fixes no ending: a file that begins so can end in more ways than one.
use Rattle.std.proofs.Common.{◌≡◌, ◌≢◌, ℕ, zero, suc, ◌+◌, ◌-◌, ◌*◌, ◌%◌, ◌^◌, ◌<◌, ◌≤◌, min, List, [], ◌∷◌, ◌++◌, length, take, drop, replicate, Option}
use Rattle.std.proofs.Common.{Some, None, Bool, true, false, cond, ltb, refl, subst, sym, ap, ◌∙◌, arith, length-append, length-drop, append_assoc}
use Rattle.std.specs.Prelude.{nat_lt, nat_le}
use Rattle.std.proofs.lemmas.Bool.{le-leb, ltb-true, ltb-false, leb-true, leb-false}
use Rattle.std.proofs.lemmas.List.{append-nil, length-replicate}
use Rattle.std.proofs.lemmas.Option.{some_pair_parts}
use Rattle.sz_types.specs.declared.frame.Frame.{Frame}
use Rattle.sz_types.specs.declared.frame.Frame.TheVariants.{Lines, Delimited}
use Rattle.sz_wire.specs.Varint.{low_bits, number_at, in_64_bits, varint_at}
use Rattle.sz_records.specs.declared.cutter.Cutter.{Cutter}
use Rattle.sz_records.specs.declared.ending.Ending.{Ending}
use Rattle.sz_records.specs.declared.ending.Ending.TheVariants.{Whole, Damaged, Limit}
use Rattle.sz_records.specs.declared.limits.FrameLimits.{FrameLimits}
use Rattle.sz_records.specs.Cutting.{Standing, record_of, stopped, unfinished, by_limits, line_len, line_standing, sized_standing, length_standing}
use Rattle.sz_records.specs.Cutting.{frame_standing, standing, at_end, EndsHere, BeginsWith, IsCut}
use Rattle.sz_records.specs.Fed.{FramerData, IsCutBy, HasReadBehind, EndsSo}
use Rattle.sz_records.proofs.StandingLemmas.{by_frame, never_whole, nothing_stands, lines_within}
use Rattle.sz_records.proofs.CutLemmas.{cut_record, cut_stopped, cut_end}
use Rattle.sz_records.proofs.CutLaws.{cut_once}
use Rattle.sz_records.proofs.VarintLemmas.{varint_stays}

-- where a record stands, no limit is passed and all of it is there
record IsThere (past there : Bool) (found : Standing) (r : List ℕ) (size : ℕ) : Type 0 where
  within : past ≡ false
  whole : there ≡ true
  same : found ≡ record_of r size

is_there : (long past there : Bool) (p : ℕ) (found : Standing) (r : List ℕ) (size : ℕ)
    → by_limits long past there p found ≡ record_of r size → IsThere past there found r size
is_there true past there p found r size e = absurd cc
is_there false true there p found r size e = absurd cc
is_there false false true p found r size e = record { within = refl; whole = refl; same = e }
is_there false false false p found r size e = absurd cc

same_size : (r q : List ℕ) (size other : ℕ) → record_of r size ≡ record_of q other → size ≡ other
same_size r q size other e = cc

-- what follows a number is shorter than what it stands in
number_shorter : (most : ℕ) (bytes : List ℕ) (n : ℕ) (rest : List ℕ) → number_at most bytes ≡ Some (n, rest)
    → length rest < length bytes
unfolding number_at
number_shorter zero bytes n rest e = absurd cc
number_shorter (suc most) [] n rest e = absurd cc
number_shorter (suc most) (x ∷ xs) n rest e =
    by_test (number_at most xs) (λ high h. number_shorter most xs high rest h) (ltb x 128) e
  where
    by_test : (read : Option (ℕ × List ℕ))
        → ((high : ℕ) → read ≡ Some (high, rest) → length rest < length xs) → (t : Bool)
        → cond t (Some (x, xs)) (low_bits x read) ≡ Some (n, rest) → length rest < suc (length xs)
    by_test read goes true h = let parts = some_pair_parts x n xs rest h in omega (arith, ap length parts.1)
    by_test None goes false h = absurd cc
    by_test (Some found) goes false h =
        let parts = some_pair_parts (x - 128 + 128 * found.0) n found.1 rest h in
        let short = goes found.0 (ap (λ (r : List ℕ). Some (found.0, r)) parts.1) in omega (arith, short)

varint_shorter : (bytes : List ℕ) (n : ℕ) (rest : List ℕ) → varint_at bytes ≡ Some (n, rest)
    → length rest < length bytes
unfolding varint_at
varint_shorter bytes n rest e = by (number_at 10 bytes) (λ m h. number_shorter 10 bytes m rest h) e
  where
    by : (read : Option (ℕ × List ℕ)) → ((m : ℕ) → read ≡ Some (m, rest) → length rest < length bytes)
        → in_64_bits read ≡ Some (n, rest) → length rest < length bytes
    by None goes h = absurd cc
    by (Some found) goes h =
        let parts = some_pair_parts (found.0 % 2 ^ 64) n found.1 rest h in
        goes found.0 (ap (λ (r : List ℕ). Some (found.0, r)) parts.1)

-- a record takes some bytes, and ends inside the input and inside the bytes that are there
pub record IsInside (limits : FrameLimits) (p size : ℕ) (bytes : List ℕ) : Type 0 where
  pub some : 0 < size
  pub in_input : p + size ≤ limits.input_bytes
  pub in_bytes : size ≤ length bytes

line_inside : (limits : FrameLimits) (p : ℕ) (bytes r : List ℕ) (size : ℕ)
    → line_standing limits p bytes ≡ record_of r size → IsInside limits p size bytes
unfolding line_standing
line_inside limits p bytes r size e =
    let h = is_there (nat_lt limits.record_bytes (line_len bytes))
    (nat_lt limits.input_bytes (p + min (line_len bytes + 1) (length bytes)))
    (nat_lt (line_len bytes) (length bytes)) p
    (record_of (take (line_len bytes) bytes) (line_len bytes + 1)) r size e in
    let within : p + min (line_len bytes + 1) (length bytes) ≤ limits.input_bytes = ltb-false _ _ h.within in
    let whole : line_len bytes < length bytes = ltb-true _ _ h.whole in
    let same : line_len bytes + 1 ≡ size = same_size _ _ _ _ h.same in
    record {
      some = omega (arith, same);
      in_input = omega (arith, within, whole, same);
      in_bytes = omega (arith, whole, same);
    }

length_inside : (limits : FrameLimits) (p : ℕ) (bytes : List ℕ) (read : Option (ℕ × List ℕ)) (r : List ℕ) (size : ℕ)
    → ((n : ℕ) (rest : List ℕ) → read ≡ Some (n, rest) → length rest < length bytes)
    → length_standing limits p bytes read ≡ record_of r size → IsInside limits p size bytes
unfolding length_standing sized_standing
length_inside limits p bytes None r size shorter e = by (ltb (length bytes) 10) e
  where
    by : (t : Bool) → cond t unfinished (stopped (Damaged p)) ≡ record_of r size → IsInside limits p size bytes
    by true is = absurd cc
    by false is = absurd cc
length_inside limits p bytes (Some read) r size shorter e =
    let used = length bytes - length read.1 in
    let h = is_there (nat_lt limits.record_bytes read.0) (nat_lt limits.input_bytes (p + (used + read.0)))
    (nat_le read.0 (length read.1)) p (record_of (take read.0 read.1) (used + read.0)) r size e in
    let within : p + (used + read.0) ≤ limits.input_bytes = ltb-false _ _ h.within in
    let whole : read.0 ≤ length read.1 = leb-true _ _ h.whole in
    let short : length read.1 < length bytes = shorter read.0 read.1 refl in
    let same : used + read.0 ≡ size = same_size _ _ _ _ h.same in
    record {
      some = omega (arith, short, same);
      in_input = omega (arith, within, same);
      in_bytes = omega (arith, whole, short, same);
    }

-- so does a record that stands
pub record_inside : (frame : Frame) (limits : FrameLimits) (p n : ℕ) (bytes r : List ℕ) (size : ℕ)
    → standing frame limits p n bytes ≡ record_of r size → IsInside limits p size bytes
unfolding standing frame_standing
record_inside frame limits p n [] r size e = absurd cc
record_inside frame limits p n (b ∷ bytes) r size e = by frame (ltb n limits.records) e
  where
    by : (frame : Frame) (t : Bool)
        → cond t (frame_standing frame limits p (b ∷ bytes)) (stopped (Limit p)) ≡ record_of r size
        → IsInside limits p size (b ∷ bytes)
    by frame false is = absurd cc
    by Lines true is = line_inside limits p (b ∷ bytes) r size is
    by Delimited true is =
        length_inside limits p (b ∷ bytes) (varint_at (b ∷ bytes)) r size (varint_shorter (b ∷ bytes)) is

-- what is only begun at the end of a whole file lies inside the input
end_inside : (frame : Frame) (limits : FrameLimits) (p n : ℕ) (bytes : List ℕ) (rs : List (List ℕ))
    → p ≤ limits.input_bytes → standing frame limits p n bytes ≡ unfinished → at_end frame p bytes ≡ (rs, Whole)
    → p + length bytes ≤ limits.input_bytes
end_inside frame limits p n [] rs low stood e = omega (arith, low)
end_inside Lines limits p n (b ∷ bytes) rs low stood e = lines_within limits p n (b ∷ bytes) low stood
end_inside Delimited limits p n (b ∷ bytes) rs low stood e =
    absurd (let no = ap (λ (x : List (List ℕ) × Ending). x.1) e in cc)

-- a whole file lies inside the input
pub whole_inside : (frame : Frame) (limits : FrameLimits) (p n : ℕ) (bytes : List ℕ) (rs : List (List ℕ))
    → p ≤ limits.input_bytes → IsCut frame limits p n bytes rs Whole → p + length bytes ≤ limits.input_bytes
unfolding IsCut
whole_inside frame limits p n bytes [] low h = by (standing frame limits p n bytes) refl h
  where
    by : (s : Standing) → standing frame limits p n bytes ≡ s → EndsHere frame p bytes Whole s
        → p + length bytes ≤ limits.input_bytes
    by (record_of r size) stood k = absurd k
    by (stopped why) stood k = absurd (never_whole frame limits p n bytes (stood ∙ ap stopped (sym k)))
    by unfinished stood k = end_inside frame limits p n bytes [] low stood k
whole_inside frame limits p n bytes (first ∷ others) low h =
    by (λ size. whole_inside frame limits (p + size) (n + 1) (drop size bytes) others)
    (standing frame limits p n bytes) refl h
  where
    by : ((size : ℕ) → p + size ≤ limits.input_bytes
        → IsCut frame limits (p + size) (n + 1) (drop size bytes) others Whole
        → p + size + length (drop size bytes) ≤ limits.input_bytes)
        → (s : Standing) → standing frame limits p n bytes ≡ s
        → BeginsWith frame p bytes
        (λ size. IsCut frame limits (p + size) (n + 1) (drop size bytes) others Whole) first others Whole s
        → p + length bytes ≤ limits.input_bytes
    by goes (record_of r size) stood k =
        let inside = record_inside frame limits p n bytes r size stood in
        let rest = goes size inside.in_input k.1 in omega (arith, inside.in_input, rest, length-drop size bytes)
    by goes (stopped why) stood k = absurd k
    by goes unfinished stood k = end_inside frame limits p n bytes (first ∷ others) low stood k

-- a byte 0 ends a number that is begun
number_ends : (most : ℕ) (bytes : List ℕ) → length bytes < most → number_at most bytes ≡ None
    → (n : ℕ) × (number_at most (bytes ++ 0 ∷ []) ≡ Some (n, []))
unfolding number_at
number_ends zero bytes few e = absurd (omega (arith, few))
number_ends (suc most) [] few e = (0, refl)
number_ends (suc most) (x ∷ xs) few e = by_test (λ h. number_ends most xs (omega (arith, few)) h) (ltb x 128) e
  where
    low_bits_none : (read : Option (ℕ × List ℕ)) → low_bits x read ≡ None → read ≡ None
    low_bits_none None h = refl
    low_bits_none (Some found) h = absurd cc

    by_test : (number_at most xs ≡ None → (n : ℕ) × (number_at most (xs ++ 0 ∷ []) ≡ Some (n, []))) → (t : Bool)
        → cond t (Some (x, xs)) (low_bits x (number_at most xs)) ≡ None
        → (n : ℕ) × (cond t (Some (x, xs ++ 0 ∷ [])) (low_bits x (number_at most (xs ++ 0 ∷ []))) ≡ Some (n, []))
    by_test goes true h = absurd cc
    by_test goes false h =
        let ended = goes (low_bits_none (number_at most xs) h) in (x - 128 + 128 * ended.0, ap (low_bits x) ended.1)

varint_ends : (bytes : List ℕ) → length bytes < 10 → varint_at bytes ≡ None
    → (n : ℕ) × (varint_at (bytes ++ 0 ∷ []) ≡ Some (n, []))
unfolding varint_at
varint_ends bytes few e =
    let ended = number_ends 10 bytes few (not_found (number_at 10 bytes) e) in (ended.0 % 2 ^ 64, ap in_64_bits ended.1)
  where
    not_found : (read : Option (ℕ × List ℕ)) → in_64_bits read ≡ None → read ≡ None
    not_found None h = refl
    not_found (Some found) h = absurd cc

-- the bytes are cut with another ending than this one
record EndsNotSo (limits : FrameLimits) (p n : ℕ) (bytes : List ℕ) (e : Ending) : Type 0 where
  records : List (List ℕ)
  ending : Ending
  cut : IsCut Delimited limits p n bytes records ending
  other : ending ≢ e

-- a length and just as many bytes aren't damaged
sized_ends : (limits : FrameLimits) (p n : ℕ) (bytes : List ℕ) (size : ℕ) (later : List ℕ) → 0 < length bytes
    → n < limits.records → varint_at bytes ≡ Some (size, later) → length later ≡ size
    → EndsNotSo limits p n bytes (Damaged p)
unfolding frame_standing length_standing sized_standing
sized_ends limits p n bytes size later some few read same =
    by (nat_lt limits.record_bytes size) (nat_lt limits.input_bytes (p + (used + size))) stood
  where
    used : ℕ
    used = length bytes - length later

    there : nat_le size (length later) ≡ true
    there = le-leb _ _ (omega (arith, same))

    stood : standing Delimited limits p n bytes
        ≡ by_limits (nat_lt limits.record_bytes size) (nat_lt limits.input_bytes (p + (used + size))) true p
        (record_of (take size later) (used + size))
    stood = by_frame Delimited limits p n bytes some few ∙ rw (read, there) refl

    none_left : length (drop (used + size) bytes) ≡ 0
    none_left = let short = varint_shorter bytes size later read in
        omega (arith, length-drop (used + size) bytes, short, same)

    ends_here : (q m : ℕ) (rest : List ℕ) → length rest ≡ 0 → IsCut Delimited limits q m rest [] Whole
    ends_here q m [] e = cut_end Delimited limits q m [] [] Whole (nothing_stands Delimited limits q m [] refl) refl
    ends_here q m (b ∷ rest) e = absurd (omega arith)

    by : (long past : Bool)
        → standing Delimited limits p n bytes ≡ by_limits long past true p (record_of (take size later) (used + size))
        → EndsNotSo limits p n bytes (Damaged p)
    by true past is = record {
      records = [];
      ending = Limit p;
      cut = cut_stopped Delimited limits p n bytes (Limit p) is;
      other = λ e. cc;
    }
    by false true is = record {
      records = [];
      ending = Limit p;
      cut = cut_stopped Delimited limits p n bytes (Limit p) is;
      other = λ e. cc;
    }
    by false false is = record {
      records = take size later ∷ [];
      ending = Whole;
      cut = cut_record Delimited limits p n bytes (take size later) (used + size) [] Whole is
          (ends_here (p + (used + size)) (n + 1) _ none_left);
      other = λ e. cc;
    }

-- after the beginning of a record bytes can come with which it isn't damaged
record GoesOn (limits : FrameLimits) (p n : ℕ) (bytes : List ℕ) : Type 0 where
  more : List ℕ
  ends : EndsNotSo limits p n (bytes ++ more) (Damaged p)

begun_goes_on : (limits : FrameLimits) (p n : ℕ) (bytes : List ℕ) → 0 < length bytes → n < limits.records
    → length_standing limits p bytes (varint_at bytes) ≡ unfinished → GoesOn limits p n bytes
unfolding length_standing sized_standing
begun_goes_on limits p n bytes some few stood = by (varint_at bytes) refl stood
  where
    longer : (more : List ℕ) → 0 < length (bytes ++ more)
    longer more = omega (arith, length-append bytes more, some)

    all_there : (more : List ℕ) (size : ℕ) (later : List ℕ) → varint_at (bytes ++ more) ≡ Some (size, later)
        → length later ≡ size → GoesOn limits p n bytes
    all_there more size later read same = record {
      more = more;
      ends = sized_ends limits p n (bytes ++ more) size later (longer more) few read same;
    }

    by : (read : Option (ℕ × List ℕ)) → varint_at bytes ≡ read → length_standing limits p bytes read ≡ unfinished
        → GoesOn limits p n bytes
    by None is open_still =
        let ended = varint_ends bytes (begun (ltb (length bytes) 10) refl open_still) is in
        let zeros : List ℕ = replicate ended.0 0 in
        all_there ((0 ∷ []) ++ zeros) ended.0 zeros
        (ap varint_at (sym (append_assoc bytes (0 ∷ []) zeros))
        ∙ varint_stays (bytes ++ 0 ∷ []) zeros ended.0 [] ended.1) (length-replicate {A = ℕ} ended.0 0)
      where
        begun : (t : Bool) → ltb (length bytes) 10 ≡ t → cond t unfinished (stopped (Damaged p)) ≡ unfinished
            → length bytes < 10
        begun true e h = ltb-true _ _ e
        begun false e h = absurd cc
    by (Some read) is open_still =
        let zeros : List ℕ = replicate (read.0 - length read.1) 0 in
        let few_there = only_part open_still in
        all_there zeros read.0 (read.1 ++ zeros) (varint_stays bytes zeros read.0 read.1 is)
        (length-append read.1 zeros ∙ omega (arith, length-replicate {A = ℕ} (read.0 - length read.1) 0, few_there))
      where
        only_part : sized_standing limits p (length bytes - length read.1) read.0 read.1 ≡ unfinished
            → length read.1 ≤ read.0
        only_part e = part (nat_lt limits.record_bytes read.0)
            (nat_lt limits.input_bytes (p + (length bytes - length read.1 + read.0)))
            (nat_le read.0 (length read.1)) refl e
          where
            part : (long past there : Bool) → nat_le read.0 (length read.1) ≡ there
                → by_limits long past there p (record_of (take read.0 read.1) (length bytes - length read.1 + read.0))
                ≡ unfinished → length read.1 ≤ read.0
            part true past there test h = absurd cc
            part false true there test h = absurd cc
            part false false true test h = absurd cc
            part false false false test h = let less : length read.1 < read.0 = leb-false _ _ test in
                omega (arith, less)

-- how a file ends after the beginning of a record: whole, or damaged where it could go on otherwise
data EndsOpen (frame : Frame) (limits : FrameLimits) (p n : ℕ) (bytes : List ℕ) : Type 0 where
  ends_whole : (rs : List (List ℕ)) → at_end frame p bytes ≡ (rs, Whole) → EndsOpen frame limits p n bytes
  ends_damaged : frame ≡ Delimited → at_end frame p bytes ≡ ([], Damaged p) → GoesOn limits p n bytes
      → EndsOpen frame limits p n bytes

ends_open : (frame : Frame) (limits : FrameLimits) (p n : ℕ) (bytes : List ℕ)
    → standing frame limits p n bytes ≡ unfinished → EndsOpen frame limits p n bytes
unfolding standing frame_standing
ends_open frame limits p n [] stood = ends_whole [] refl
ends_open Lines limits p n (b ∷ bytes) stood = ends_whole ((b ∷ bytes) ∷ []) refl
ends_open Delimited limits p n (b ∷ bytes) stood = by (ltb n limits.records) refl stood
  where
    by : (t : Bool) → ltb n limits.records ≡ t
        → cond t (length_standing limits p (b ∷ bytes) (varint_at (b ∷ bytes))) (stopped (Limit p)) ≡ unfinished
        → EndsOpen Delimited limits p n (b ∷ bytes)
    by true e h = ends_damaged refl refl (begun_goes_on limits p n (b ∷ bytes) (omega arith) (ltb-true _ _ e) h)
    by false e h = absurd cc

-- where the ending isn't known, the bytes that were read fix none
pub fixes_none : (p n : ℕ) (frame : Frame) (limits : FrameLimits) (framer : FramerData) (fed : List ℕ)
    (given : List (List ℕ)) → HasReadBehind p n frame limits framer fed given → framer.ended ≡ None → (e : Ending)
    → EndsSo p n frame limits fed e → ⊥
fixes_none p n frame limits framer fed given h none e all =
    by (ends_open c.frame c.limits c.place c.count framer.pending stood)
  where
    c : Cutter
    c = framer.cutter

    stood : standing c.frame c.limits c.place c.count framer.pending ≡ unfinished
    stood = h.nothing_whole none

    -- what is cut after the bytes has the ending that all files have
    same_ending : (more : List ℕ) (rs : List (List ℕ)) (end : Ending)
        → IsCut c.frame c.limits c.place c.count (framer.pending ++ more) rs end → e ≡ end
    same_ending more rs end cut =
        let on : IsCutBy framer more rs end = rw none cut in
        (cut_once frame limits p n (fed ++ more) (all more).0 (given ++ rs) e end
        (all more).1 (h.goes_on more rs end on)).1

    at_its_end : (rs : List (List ℕ)) (end : Ending) → at_end c.frame c.place framer.pending ≡ (rs, end) → e ≡ end
    at_its_end rs end is = same_ending [] rs end
        (rw (append-nil framer.pending) (cut_end c.frame c.limits c.place c.count framer.pending rs end stood is))

    too_long : List ℕ
    too_long = replicate (limits.input_bytes + 1) 0

    how_long : length too_long ≡ limits.input_bytes + 1
    how_long = length-replicate {A = ℕ} (limits.input_bytes + 1) 0

    by : EndsOpen c.frame c.limits c.place c.count framer.pending → ⊥
    by (ends_whole rs is) =
        let here = at_its_end rs Whole is in
        let cut : IsCut frame limits p n (fed ++ too_long) (all too_long).0 Whole =
        subst (λ end. IsCut frame limits p n (fed ++ too_long) (all too_long).0 end) here (all too_long).1 in
        let inside = whole_inside frame limits p n (fed ++ too_long) (all too_long).0 h.within cut in
        omega (arith, inside, length-append fed too_long, how_long)
    by (ends_damaged frames is goes) =
        let here = at_its_end [] (Damaged c.place) is in
        let ends = goes.ends in
        let there : e ≡ ends.ending = same_ending goes.more ends.records ends.ending
        (subst (λ frame. IsCut frame c.limits c.place c.count (framer.pending ++ goes.more) ends.records ends.ending)
        (sym frames) ends.cut) in
        ends.other (sym there ∙ here)
