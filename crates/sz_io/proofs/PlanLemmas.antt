-- The plans of files: which calls were made on them, and which fail.
use Rattle.std.proofs.Common.{◌≡◌, ◌≢◌, ℕ, ◌+◌, ◌-◌, ◌^◌, min, ◌<◌, ◌==◌, suc, zero, Bool, true, false, if◌then◌else◌, List, [], ◌∷◌, ◌++◌, length}
use Rattle.std.proofs.Common.{Result, Ok, Err, IsErr, IsTrue, is_err, ◌↔◌, Option, Some, None, option_and_then, refl, sym, ap, ◌∙◌, arith}
use Rattle.std.proofs.lemmas.Bool.{eqb-true, eqb-false}
use Rattle.std.proofs.Math.ListN.{set}
use Rattle.std.specs.List.{slice_get}
use Rattle.std.specs.Option.{option_map, option_map_or}
use Rattle.sz_io.specs.declared.named_file.NamedFile.{NamedFile}
use Rattle.sz_io.specs.declared.named_file.Place.{Place}
use Rattle.sz_io.specs.NamedFiles.{file_plan, plan_at, after_call, fails_next, is_next_listed, CallsOneFile}
use Rattle.sz_io.specs.Rose.{faults_after}
use Rattle.sz_io.specs.Placed.{ArePlaced}
use Rattle.sz_io.proofs.Gets.{slice_get-push_old, slice_get-push_new, slice_get-push_other}

plan_at-push_old : (files : List NamedFile) (file : NamedFile) (i : ℕ) → i < length files
    → plan_at (files ++ file ∷ []) i ≡ plan_at files i
plan_at-push_old files file i inside = ap (option_map file_plan) (slice_get-push_old files i file inside)

-- a new file has its own plan
pub plan_at-push_new : (files : List NamedFile) (file : NamedFile)
    → plan_at (files ++ file ∷ []) (length files) ≡ Some (file_plan file)
plan_at-push_new files file = ap (option_map file_plan) (slice_get-push_new files file)

-- there is no plan after the files
pub plan_at-end : (files : List NamedFile) → plan_at files (length files) ≡ None
plan_at-end [] = refl
plan_at-end (f ∷ fs) = plan_at-end fs

-- no other file has another plan
pub plan_at-push_other : (files : List NamedFile) (file : NamedFile) (i : ℕ) → i ≢ length files
    → plan_at (files ++ file ∷ []) i ≡ plan_at files i
plan_at-push_other files file i apart = ap (option_map file_plan) (slice_get-push_other files i file apart)

-- an opened file has the plan that it had, after a push that may have failed
pub plan-pushed : (files new : List NamedFile) (opened : List Place) (file : NamedFile) → ArePlaced files opened
    → (b : Bool) (number : ℕ) → new ≡ (if b then files ++ file ∷ [] else files)
    → option_and_then (plan_at new) (option_map (λ place. place.file) (slice_get opened number))
    ≡ option_and_then (plan_at files) (option_map (λ place. place.file) (slice_get opened number))
plan-pushed files new opened file placed false number same =
    ap (λ l. option_and_then (plan_at l) (option_map (λ place. place.file) (slice_get opened number))) same
plan-pushed files new opened file placed true number same =
    ap (λ l. option_and_then (plan_at l) (option_map (λ place. place.file) (slice_get opened number))) same
    ∙ at (slice_get opened number) refl where
      at : (o : Option Place) → slice_get opened number ≡ o
          → option_and_then (plan_at (files ++ file ∷ [])) (option_map (λ place. place.file) o)
          ≡ option_and_then (plan_at files) (option_map (λ place. place.file) o)
      at None there = refl
      at (Some place) there = plan_at-push_old files file place.file (placed number place there).known

-- a file that is there has a plan, which says whether its next call fails
pub plan_known : (files : List NamedFile) (i : ℕ) → i < length files
    → option_map_or fails_next (plan_at files i) true ≡ is_next_listed files i
plan_known [] i inside = absurd (omega arith)
plan_known (f ∷ fs) zero inside = refl
plan_known (f ∷ fs) (suc i) inside = plan_known fs i (omega arith)

-- one fault more in a file, up to the end of the count
pub faults_counted : (misses old new : ℕ) (failed : Bool) → new ≡ old + (if failed then 1 else 0)
    → min (misses + new) (2 ^ 64 - 1) ≡ faults_after (min (misses + old) (2 ^ 64 - 1)) failed
faults_counted misses old new true more = omega (arith, more)
faults_counted misses old new false same = omega (arith, same)

-- a call on the file at a place, which is the file that it was made on
module _ (old new : List NamedFile) (i : ℕ) (file : Option ℕ) (found : Some i ≡ file)
    (called : CallsOneFile old new i) where
  pub file_fails : i < length old
      → option_map_or fails_next (option_and_then (plan_at old) file) true ≡ is_next_listed old i
  file_fails inside = ap (λ f. option_map_or fails_next (option_and_then (plan_at old) f) true) (sym found)
      ∙ plan_known old i inside

  pub file_counted : option_and_then (plan_at new) file ≡ option_map after_call (option_and_then (plan_at old) file)
  file_counted =
      ap (option_and_then (plan_at new)) (sym found) ∙ called.counted
      ∙ ap (λ f. option_map after_call (option_and_then (plan_at old) f)) found

  pub file_others : (other : ℕ) → Some other ≢ file → plan_at new other ≡ plan_at old other
  file_others other apart = called.others_same other (λ e. apart (ap Some e ∙ found))

-- one file more was opened: the next number stands for it, and every other number for what it stood for
pub following-push : (opened : List Place) (place : Place) (number next : ℕ) (file : Option ℕ)
    → Some place.file ≡ file → next ≡ length opened
    → option_map (λ p. p.file) (slice_get (opened ++ place ∷ []) number)
    ≡ (if number == next then file else option_map (λ p. p.file) (slice_get opened number))
following-push opened place number next file same end = at (number == next) refl where
  at : (b : Bool) → (number == next) ≡ b → option_map (λ p. p.file) (slice_get (opened ++ place ∷ []) number)
      ≡ (if number == next then file else option_map (λ p. p.file) (slice_get opened number))
  at true here =
      let e : number ≡ length opened = eqb-true number next here ∙ end in
      let got : slice_get (opened ++ place ∷ []) number ≡ Some place =
      ap (slice_get (opened ++ place ∷ [])) e ∙ slice_get-push_new opened place in
      rw (here, got) same
  at false apart =
      let got : slice_get (opened ++ place ∷ []) number ≡ slice_get opened number =
      slice_get-push_other opened number place (λ e. eqb-false number next apart (e ∙ sym end)) in
      rw (apart, got) refl

-- a place that moved in its file: every number stands for the file that it stood for
pub following-set : (opened : List Place) (k number : ℕ) (place moved : Place) → slice_get opened k ≡ Some place
    → moved.file ≡ place.file → option_map (λ p. p.file) (slice_get (set opened k moved) number)
    ≡ option_map (λ p. p.file) (slice_get opened number)
following-set [] k number place moved there same = refl
following-set (p ∷ ps) zero zero place moved there same = let e : p ≡ place = cc in
    ap Some (same ∙ ap (λ q. q.file) (sym e))
following-set (p ∷ ps) zero (suc number) place moved there same = refl
following-set (p ∷ ps) (suc k) zero place moved there same = refl
following-set (p ∷ ps) (suc k) (suc number) place moved there same = following-set ps k number place moved there same

-- an answer that fails exactly where a test holds tells the test
pub listed_so : {T E : Type 0} (result : Result T E) (b : Bool) → (IsErr result ↔ IsTrue b) → is_err result ≡ b
listed_so (Ok value) true same = same.1 refl
listed_so (Ok value) false same = refl
listed_so (Err error) true same = refl
listed_so (Err error) false same = sym (same.0 refl)
