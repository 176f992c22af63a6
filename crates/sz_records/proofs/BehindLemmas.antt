-- What stands in a file behind some of its records.
use Rattle.std.proofs.Common.{◌≡◌, ℕ, zero, suc, ◌+◌, ◌-◌, ◌<◌, ◌≤◌, List, [], ◌∷◌, length, drop, refl, subst, sym, ap, ◌∙◌, arith, length-drop}
use Rattle.std.proofs.lemmas.List.{drop-drop, drop_all}
use Rattle.sz_types.specs.declared.frame.Frame.{Frame}
use Rattle.sz_types.specs.declared.frame.Frame.TheVariants.{Lines, Delimited}
use Rattle.sz_records.specs.declared.ending.Ending.{Ending}
use Rattle.sz_records.specs.declared.ending.Ending.TheVariants.{Whole}
use Rattle.sz_records.specs.declared.limits.FrameLimits.{FrameLimits}
use Rattle.sz_records.specs.Cutting.{Standing, record_of, stopped, unfinished, at_end, BeginsWith, standing, IsCut, place_after}
use Rattle.sz_records.specs.Behind.{RestIsCutSo}
use Rattle.sz_records.proofs.StandingLemmas.{nothing_stands, lines_within}
use Rattle.sz_records.proofs.CutLemmas.{cut_end, place_now, place_passed, place_ended, same_places}
use Rattle.sz_records.proofs.CutLaws.{records_are_few}
use Rattle.sz_records.proofs.OpenLemmas.{record_inside}

-- So many records of what stands behind byte p and n records lead to this place, of which each takes a byte at least,
-- and from there on all goes on as it is cut
pub record GoesOnAt (frame : Frame) (limits : FrameLimits) (p n : ℕ) (bytes : List ℕ) (records : List (List ℕ))
    (e : Ending) (count place : ℕ)
    : Type 0 where
  pub rises : p ≤ place
  pub each : p + count ≤ place
  pub within : place ≤ p + length bytes
  pub in_input : p ≤ limits.input_bytes → place ≤ limits.input_bytes
  pub rest : IsCut frame limits place (n + count) (drop (place - p) bytes) (drop count records) e
  pub later : (more : ℕ) → place_after frame limits p n bytes (count + more)
      ≡ place_after frame limits place (n + count) (drop (place - p) bytes) more

-- the place where they end does
abbrev pub GoesOnBehind : Frame → FrameLimits → ℕ → ℕ → List ℕ → List (List ℕ) → Ending → ℕ → Type 0
GoesOnBehind frame limits p n bytes records e count =
    GoesOnAt frame limits p n bytes records e count (place_after frame limits p n bytes count)

-- no record leads on
goes_on_here : (frame : Frame) (limits : FrameLimits) (p n : ℕ) (bytes : List ℕ) (rs : List (List ℕ)) (e : Ending)
    → IsCut frame limits p n bytes rs e → GoesOnAt frame limits p n bytes rs e 0 p
goes_on_here frame limits p n bytes rs e cut =
    let counts : n + 0 ≡ n = omega arith in
    let bytes_are : drop (p - p) bytes ≡ bytes =
    ap (λ (k : ℕ). drop k bytes) (let none : p - p ≡ 0 = omega arith in none) in
    record {
      rises = omega arith;
      each = omega arith;
      within = omega arith;
      in_input = λ low. low;
      rest = rw (counts, bytes_are) cut;
      later = λ more. (let same : 0 + more ≡ more = omega arith in
          rw (counts, bytes_are) (ap (place_after frame limits p n bytes) same));
    }

-- one record, and then others
goes_on_later : (frame : Frame) (limits : FrameLimits) (p n : ℕ) (bytes r : List ℕ) (size : ℕ) (rs : List (List ℕ))
    (e : Ending) (count place : ℕ) → standing frame limits p n bytes ≡ record_of r size
    → GoesOnAt frame limits (p + size) (n + 1) (drop size bytes) rs e count place
    → GoesOnAt frame limits p n bytes (r ∷ rs) e (suc count) place
goes_on_later frame limits p n bytes r size rs e count place stood h =
    let inside = record_inside frame limits p n bytes r size stood in
    let counts : n + suc count ≡ n + 1 + count = omega arith in
    let bytes_are : drop (place - p) bytes ≡ drop (place - (p + size)) (drop size bytes) =
    ap (λ (k : ℕ). drop k bytes) (let from : place - p ≡ size + (place - (p + size)) = omega (arith, h.rises) in from)
    ∙ sym (drop-drop (place - (p + size)) size bytes) in
    record {
      rises = omega (arith, h.rises);
      each = omega (arith, h.each, inside.some);
      within = omega (arith, h.within, length-drop size bytes, inside.in_bytes);
      in_input = λ low. h.in_input inside.in_input;
      rest = rw (counts, bytes_are) h.rest;
      later = λ more. (
          let next : suc count + more ≡ suc (count + more) = omega arith in
          rw (counts, bytes_are) (ap (place_after frame limits p n bytes) next
          ∙ place_passed frame limits p n bytes r size (count + more) stood ∙ h.later more));
    }

-- no record is left after the end
none_left : (frame : Frame) (limits : FrameLimits) (p n more : ℕ) → place_after frame limits p n [] more ≡ p
none_left frame limits p n zero = place_now frame limits p n []
none_left frame limits p n (suc more) =
    place_ended frame limits p n [] more (nothing_stands frame limits p n [] refl)
    ∙ (let end : p + 0 ≡ p = omega arith in end)

-- a last line leads to the end
goes_on_nowhere : (limits : FrameLimits) (p n : ℕ) (bytes : List ℕ) → standing Lines limits p n bytes ≡ unfinished
    → 0 < length bytes → GoesOnAt Lines limits p n bytes (bytes ∷ []) Whole 1 (p + length bytes)
goes_on_nowhere limits p n bytes stood some =
    let none : drop (p + length bytes - p) bytes ≡ [] = drop_all (p + length bytes - p) bytes (omega arith) in
    record {
      rises = omega arith;
      each = omega (arith, some);
      within = omega arith;
      in_input = λ low. lines_within limits p n bytes low stood;
      rest = rw none (cut_end Lines limits (p + length bytes) (n + 1) [] [] Whole
          (nothing_stands Lines limits (p + length bytes) (n + 1) [] refl) refl);
      later = λ more. (
          let next : 1 + more ≡ suc more = omega arith in
          rw none (ap (place_after Lines limits p n bytes) next ∙ place_ended Lines limits p n bytes more stood
          ∙ sym (none_left Lines limits (p + length bytes) (n + 1) more)));
    }

-- the last record of all is a line
goes_on_last : (frame : Frame) (limits : FrameLimits) (p n : ℕ) (bytes r : List ℕ) (rs : List (List ℕ))
    (e : Ending) (count : ℕ)
    → standing frame limits p n bytes ≡ unfinished → at_end frame p bytes ≡ (r ∷ rs, e) → count ≤ length rs
    → GoesOnAt frame limits p n bytes (r ∷ rs) e (suc count) (p + length bytes)
goes_on_last frame limits p n [] r rs e count stood ended few =
    absurd (no_record frame (ap (λ (x : List (List ℕ) × Ending). x.0) ended))
  where
    no_record : (frame : Frame) → (at_end frame p []).0 ≡ r ∷ rs → ⊥
    no_record Lines e = cc
    no_record Delimited e = cc
goes_on_last Delimited limits p n (b ∷ bytes) r rs e count stood ended few =
    absurd (let no : [] ≡ r ∷ rs = ap (λ (x : List (List ℕ) × Ending). x.0) ended in cc)
goes_on_last Lines limits p n (b ∷ bytes) r rs e count stood ended few =
    let one : (b ∷ bytes) ∷ [] ≡ r ∷ rs = ap (λ (x : List (List ℕ) × Ending). x.0) ended in
    let whole : Whole ≡ e = ap (λ (x : List (List ℕ) × Ending). x.1) ended in
    let first : 1 ≡ suc count = omega (arith, few, ap length one) in
    let here : GoesOnAt Lines limits p n (b ∷ bytes) ((b ∷ bytes) ∷ []) Whole 1 (p + length (b ∷ bytes)) =
    goes_on_nowhere limits p n (b ∷ bytes) stood (omega arith) in
    subst (λ rs. GoesOnAt Lines limits p n (b ∷ bytes) rs e (suc count) (p + length (b ∷ bytes))) one
    (subst (λ e. GoesOnAt Lines limits p n (b ∷ bytes) ((b ∷ bytes) ∷ []) e (suc count) (p + length (b ∷ bytes))) whole
    (subst (λ k. GoesOnAt Lines limits p n (b ∷ bytes) ((b ∷ bytes) ∷ []) Whole k (p + length (b ∷ bytes))) first here))

-- behind so many records of a cut all goes on as it is cut
pub goes_on_behind : (frame : Frame) (limits : FrameLimits) (p n : ℕ) (bytes : List ℕ) (rs : List (List ℕ))
    (e : Ending) (count : ℕ) → IsCut frame limits p n bytes rs e → count ≤ length rs
    → GoesOnBehind frame limits p n bytes rs e count
unfolding IsCut
goes_on_behind frame limits p n bytes rs e zero cut few =
    subst (GoesOnAt frame limits p n bytes rs e 0) (sym (place_now frame limits p n bytes))
    (goes_on_here frame limits p n bytes rs e cut)
goes_on_behind frame limits p n bytes [] e (suc count) cut few = absurd (omega (arith, few))
goes_on_behind frame limits p n bytes (r ∷ rs) e (suc count) cut few =
    by (standing frame limits p n bytes) refl
    (λ size rest. goes_on_behind frame limits (p + size) (n + 1) (drop size bytes) rs e count rest
    (omega (arith, few))) cut
  where
    by : (s : Standing) → standing frame limits p n bytes ≡ s
        → ((size : ℕ) → IsCut frame limits (p + size) (n + 1) (drop size bytes) rs e
        → GoesOnBehind frame limits (p + size) (n + 1) (drop size bytes) rs e count)
        → BeginsWith frame p bytes (λ size. IsCut frame limits (p + size) (n + 1) (drop size bytes) rs e) r rs e s
        → GoesOnBehind frame limits p n bytes (r ∷ rs) e (suc count)
    by (record_of t size) stood goes k =
        let same : record_of t size ≡ record_of r size = ap (λ (l : List ℕ). record_of l size) (sym k.0) in
        subst (GoesOnAt frame limits p n bytes (r ∷ rs) e (suc count))
        (sym (place_passed frame limits p n bytes t size count stood))
        (goes_on_later frame limits p n bytes r size rs e count _ (stood ∙ same) (goes size k.1))
    by (stopped why) stood goes k = absurd k
    by unfinished stood goes k =
        subst (GoesOnAt frame limits p n bytes (r ∷ rs) e (suc count))
        (sym (place_ended frame limits p n bytes count stood))
        (goes_on_last frame limits p n bytes r rs e count stood k (omega (arith, few)))

-- where records end lies within the bytes and the input, and further on with each of them
pub place_within : (frame : Frame) (limits : FrameLimits) (p n : ℕ) (bytes : List ℕ) (rs : List (List ℕ))
    (e : Ending) (count : ℕ) → IsCut frame limits p n bytes rs e → count ≤ length rs
    → place_after frame limits p n bytes count ≤ p + length bytes
place_within frame limits p n bytes rs e count cut few =
    (goes_on_behind frame limits p n bytes rs e count cut few).within

pub place_low : (frame : Frame) (limits : FrameLimits) (p n : ℕ) (bytes : List ℕ) (rs : List (List ℕ))
    (e : Ending) (count : ℕ) → IsCut frame limits p n bytes rs e → p ≤ limits.input_bytes → count ≤ length rs
    → place_after frame limits p n bytes count ≤ limits.input_bytes
place_low frame limits p n bytes rs e count cut low few =
    (goes_on_behind frame limits p n bytes rs e count cut few).in_input low

pub place_rises : (frame : Frame) (limits : FrameLimits) (p n : ℕ) (bytes : List ℕ) (rs : List (List ℕ))
    (e : Ending) (count : ℕ) → IsCut frame limits p n bytes rs e → 0 < count → count ≤ length rs
    → p < place_after frame limits p n bytes count
place_rises frame limits p n bytes rs e count cut some few =
    let h = goes_on_behind frame limits p n bytes rs e count cut few in omega (arith, h.each, some)

-- behind each record the rest of a file is cut as the file is
pub the_rest_is_cut_so : RestIsCutSo
the_rest_is_cut_so frame limits file rs e count cut few = record {
  each = omega (arith, h.each);
  within = omega (arith, h.within);
  in_input = h.in_input (omega arith);
  in_records = let all = records_are_few frame limits 0 0 file rs e (omega arith) cut in omega (arith, all, few);
  rest = subst (λ k. IsCut frame limits place k (drop place file) (drop count rs) e) counts
      (subst (λ l. IsCut frame limits place (0 + count) l (drop count rs) e) bytes_are h.rest);
  later = later;
  ends = λ i more. same_places (place_after frame limits place count (drop place file))
      (place_after frame limits 0 0 file) i (count + i) more
      (λ k. sym (later (i + k))
      ∙ ap (place_after frame limits 0 0 file) (let same : count + (i + k) ≡ count + i + k = omega arith in same));
}
  where
    h : GoesOnBehind frame limits 0 0 file rs e count
    h = goes_on_behind frame limits 0 0 file rs e count cut few

    place : ℕ
    place = place_after frame limits 0 0 file count

    counts : 0 + count ≡ count
    counts = omega arith

    bytes_are : drop (place - 0) file ≡ drop place file
    bytes_are = ap (λ (k : ℕ). drop k file) (let same : place - 0 ≡ place = omega arith in same)

    later : (more : ℕ) → place_after frame limits 0 0 file (count + more)
        ≡ place_after frame limits place count (drop place file) more
    later more =
        h.later more
        ∙ ap (λ (k : ℕ). place_after frame limits place k (drop (place - 0) file) more) counts
        ∙ ap (λ (l : List ℕ). place_after frame limits place count l more) bytes_are
