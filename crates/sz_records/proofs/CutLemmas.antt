-- How the cut of a file goes on, step by step.
use Rattle.std.proofs.Common.{◌≡◌, ℕ, zero, suc, ◌+◌, List, [], ◌∷◌, ◌++◌, length, drop, refl, sym, ap, ◌∙◌, arith, append_assoc, length-append, length-drop}
use Rattle.std.specs.Prelude.{Result, Ok, Err, OnErr}
use Rattle.std.proofs.lemmas.List.{append-nil, drop-append-le, drop-drop}
use Rattle.sz_types.specs.declared.frame.Frame.{Frame}
use Rattle.sz_records.specs.declared.ending.Ending.{Ending}
use Rattle.sz_records.specs.declared.limits.FrameLimits.{FrameLimits}
use Rattle.sz_records.specs.declared.cutter.Cutter.{Cutter}
use Rattle.sz_records.specs.Cutting.{record_of, stopped, unfinished, at_end, standing, IsCut, place_after, places_of}
use Rattle.sz_records.specs.Ends.{RecordsData}
use Rattle.sz_records.specs.Steps.{IsCutOn, place_on, IsPassed, Grew, CutsFront}
use Rattle.sz_records.proofs.StayLemmas.{record_stays}

-- a record in front of a cut
pub cut_record : (frame : Frame) (limits : FrameLimits) (p n : ℕ) (bytes : List ℕ) (r : List ℕ) (size : ℕ)
    (rs : List (List ℕ)) (e : Ending) → standing frame limits p n bytes ≡ record_of r size
    → IsCut frame limits (p + size) (n + 1) (drop size bytes) rs e → IsCut frame limits p n bytes (r ∷ rs) e
unfolding IsCut
cut_record frame limits p n bytes r size rs e stood h = rw stood (refl, h)

-- the cut where nothing more stands but the ending
pub cut_stopped : (frame : Frame) (limits : FrameLimits) (p n : ℕ) (bytes : List ℕ) (e : Ending)
    → standing frame limits p n bytes ≡ stopped e → IsCut frame limits p n bytes [] e
unfolding IsCut
cut_stopped frame limits p n bytes e stood = rw stood refl

-- the cut where the file ends in the beginning of a record
pub cut_end : (frame : Frame) (limits : FrameLimits) (p n : ℕ) (bytes : List ℕ) (rs : List (List ℕ)) (e : Ending)
    → standing frame limits p n bytes ≡ unfinished → at_end frame p bytes ≡ (rs, e) → IsCut frame limits p n bytes rs e
unfolding IsCut
cut_end frame limits p n bytes [] e stood h = rw stood h
cut_end frame limits p n bytes (r ∷ rs) e stood h = rw stood h

-- where further records end: none, after a record, and at the end
pub place_now : (frame : Frame) (limits : FrameLimits) (p n : ℕ) (bytes : List ℕ)
    → place_after frame limits p n bytes 0 ≡ p
unfolding place_after
place_now frame limits p n bytes = refl

pub place_passed : (frame : Frame) (limits : FrameLimits) (p n : ℕ) (bytes : List ℕ) (r : List ℕ) (size count : ℕ)
    → standing frame limits p n bytes ≡ record_of r size
    → place_after frame limits p n bytes (suc count)
    ≡ place_after frame limits (p + size) (n + 1) (drop size bytes) count
unfolding place_after
place_passed frame limits p n bytes r size count stood = rw stood refl

pub place_ended : (frame : Frame) (limits : FrameLimits) (p n : ℕ) (bytes : List ℕ) (count : ℕ)
    → standing frame limits p n bytes ≡ unfinished → place_after frame limits p n bytes (suc count) ≡ p + length bytes
unfolding place_after
place_ended frame limits p n bytes count stood = rw stood refl

-- one place more
places_more : (place : ℕ → ℕ) (i count : ℕ)
    → places_of place i (suc count) ≡ places_of place i count ++ place (suc (i + count)) ∷ []
places_more place i zero = ap (λ (j : ℕ). place (suc j) ∷ []) (let e : i ≡ i + zero = omega arith in e)
places_more place i (suc count) =
    ap (λ (l : List ℕ). place (suc i) ∷ l) (places_more place (suc i) count
    ∙ ap (λ (j : ℕ). places_of place (suc i) count ++ place (suc j) ∷ [])
    (let e : suc i + count ≡ i + suc count = omega arith in e))

-- places by two counts
pub same_places : (place other : ℕ → ℕ) (i j count : ℕ) → ((k : ℕ) → place (i + k) ≡ other (j + k))
    → places_of place i count ≡ places_of other j count
same_places place other i j zero same = refl
same_places place other i j (suc count) same =
    let next : (k : ℕ) → place (suc i + k) ≡ other (suc j + k) =
    λ k. (let a : suc i + k ≡ i + suc k = omega arith in let b : j + suc k ≡ suc j + k = omega arith in
    ap place a ∙ same (suc k) ∙ ap other b) in
    let a : suc i ≡ i + 1 = omega arith in
    let b : j + 1 ≡ suc j = omega arith in
    let here : place (suc i) ≡ other (suc j) = ap place a ∙ same 1 ∙ ap other b in
    ap (λ (p : ℕ). p ∷ places_of place (suc i) count) here
    ∙ ap (λ (l : List ℕ). other (suc j) ∷ l) (same_places place other (suc i) (suc j) count next)

-- nothing is cut off so far
pub begins : (cutter : Cutter) (bytes : List ℕ) (into : RecordsData) → CutsFront cutter cutter bytes bytes into into
begins cutter bytes into = record {
  of = record { frame = refl; limits = refl };
  given = [];
  gained = sym (append-nil into.items);
  ends = λ more. sym (append-nil into.ends);
  passed = refl;
  goes_on = λ more rs e h. h;
  later = λ more count. ap (place_on cutter (bytes ++ more)) (let e : 0 + count ≡ count = omega arith in e);
}

pub passes_on : {old now new : Cutter} {bytes : List ℕ} (at size : ℕ) {before mid after : RecordsData}
    → CutsFront old now bytes (drop at bytes) before mid → IsPassed now new (drop at bytes) mid after size
    → CutsFront old new bytes (drop (at + size) bytes) before after
passes_on {old} {now} {new} {bytes} at size {before} {mid} {after} s p = record {
  of = record { frame = p.of.frame ∙ s.of.frame; limits = p.of.limits ∙ s.of.limits };
  given = s.given ++ p.kept ∷ [];
  gained = ap (λ (x : RecordsData). x.items) p.gained ∙ ap (λ (x : List (List ℕ)). x ++ p.kept ∷ []) s.gained
      ∙ append_assoc before.items s.given (p.kept ∷ []);
  ends = λ more. (
      let place = place_on old (bytes ++ more) in
      let here : place (suc (0 + length s.given)) ≡ new.place =
      ap place (let e : suc (0 + length s.given) ≡ length s.given + 1 = omega arith in e)
      ∙ s.later more 1
      ∙ place_passed now.frame now.limits now.place now.count (drop at bytes ++ more) p.kept size 0 (stays more)
      ∙ place_now now.frame now.limits (now.place + size) (now.count + 1) (drop size (drop at bytes ++ more))
      ∙ sym p.place in
      let places : places_of place 0 (length (s.given ++ p.kept ∷ [])) ≡ places_of place 0 (length s.given)
      ++ new.place ∷ [] =
      ap (places_of place 0) one_longer ∙ places_more place 0 (length s.given)
      ∙ ap (λ (e : ℕ). places_of place 0 (length s.given) ++ e ∷ []) here in
      ap (λ (x : RecordsData). x.ends) p.gained
      ∙ ap (λ (x : List ℕ). x ++ new.place ∷ []) (s.ends more)
      ∙ append_assoc before.ends (places_of place 0 (length s.given)) (new.place ∷ [])
      ∙ ap (λ (x : List ℕ). before.ends ++ x) (sym places));
  passed = omega (arith, s.passed, p.place, p.within, length-drop at bytes, length-drop (at + size) bytes);
  goes_on = λ more rs e h. (
      let h' = rw (p.of.frame, p.of.limits, p.place, p.count, left_later more) at h in
      let one : IsCutOn now (drop at bytes ++ more) (p.kept ∷ rs) e =
      cut_record now.frame now.limits now.place now.count (drop at bytes ++ more) p.kept size rs e (stays more) h' in
      let all : IsCutOn old (bytes ++ more) (s.given ++ p.kept ∷ rs) e = s.goes_on more (p.kept ∷ rs) e one in
      rw (append_assoc s.given (p.kept ∷ []) rs) all);
  later = λ more count. (
      let longer : length (s.given ++ p.kept ∷ []) + count ≡ length s.given + suc count = omega (arith, one_longer) in
      ap (place_on old (bytes ++ more)) longer
      ∙ s.later more (suc count)
      ∙ place_passed now.frame now.limits now.place now.count (drop at bytes ++ more) p.kept size count (stays more)
      ∙ rw (p.of.frame, p.of.limits, p.place, p.count, left_later more) refl);
}
  where
    one_longer : length (s.given ++ p.kept ∷ []) ≡ suc (length s.given)
    one_longer = omega (arith, length-append s.given (p.kept ∷ []))

    stays : (more : List ℕ)
        → standing now.frame now.limits now.place now.count (drop at bytes ++ more) ≡ record_of p.kept size
    stays more = record_stays now.frame now.limits now.place now.count (drop at bytes) more p.kept size p.stood

    left_later : (more : List ℕ) → drop (at + size) bytes ++ more ≡ drop size (drop at bytes ++ more)
    left_later more = ap (λ (x : List ℕ). x ++ more) (sym (drop-drop size at bytes))
        ∙ sym (drop-append-le size (drop at bytes) more p.within)

-- records were added all along
pub has_grown : {old now : Cutter} {bytes left : List ℕ} {before mid after : RecordsData}
    → CutsFront old now bytes left before mid → after ≡ mid → Grew before after
has_grown {old} {now} {bytes} {left} {before} {mid} {after} s e = record {
  added = record { items = s.given; ends = places_of (place_on old (bytes ++ [])) 0 (length s.given) };
  items = ap (λ (x : RecordsData). x.items) e ∙ s.gained;
  ends = ap (λ (x : RecordsData). x.ends) e ∙ s.ends [];
}

-- a fact holds at an error, if it holds at all
pub err_always : {T E P : Type 0} (r : Result T E) → P → OnErr r P
err_always (Ok x) p = tt
err_always (Err e) p = p
