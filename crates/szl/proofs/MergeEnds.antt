-- Merging files ends in some way, whatever their bytes are, and in one way only.
use Rattle.std.proofs.Common.{◌≡◌, ◌≢◌, ℕ, suc, ◌+◌, ◌^◌, ◌≤◌, inl, inr, nat_lt, Bool, true, false, List, [], ◌∷◌, ◌++◌, length, refl, arith}
use Rattle.std.proofs.Common.{ltb-true, ltb-false, length-append}
use Rattle.std.specs.List.{AllByRecursion}
use Rattle.sz_save_format.specs.Saved.{SavedState, CanBeSaved}
use Rattle.sz_merge.specs.Together.{CanBeTogether}
use Rattle.sz_merge.specs.Files.{Follows}
use Rattle.sz_merge.proofs.ForCallers.{can_more, few_saved, Step, joins, is_bad, is_other, is_past, step_of, IsSmall, together_of}
use Rattle.szl.specs.declared.status.Status.TheVariants as status
use Rattle.szl.specs.Merging as ends
use Rattle.szl.specs.Merging.{Merged, EndsAt, MergesFrom, EveryListIsMerged, outcome_of_merge, most_saved_bytes}
use Rattle.szl.specs.MergeAnswers.{IsOfFile}

small_of : (state : SavedState) → IsOfFile state → IsSmall (2 ^ 40) state
small_of state h = record { can = h.saves.can; few = few_saved h.bytes state (2 ^ 40) h.saves h.short }

all_small : (states : List SavedState) → AllByRecursion IsOfFile states → AllByRecursion (IsSmall (2 ^ 40)) states
all_small [] h = tt
all_small (s ∷ states) h = (small_of s h.0, all_small states h.1)

all_can : (states : List SavedState) → AllByRecursion IsOfFile states → AllByRecursion CanBeSaved states
all_can [] h = tt
all_can (s ∷ states) h = (h.0.saves.can, all_can states h.1)

pub one_more : (states : List SavedState) (s : SavedState) → AllByRecursion IsOfFile states → IsOfFile s → AllByRecursion IsOfFile (states ++ s ∷ [])
one_more [] s h of = (of, tt)
one_more (t ∷ states) s h of = (h.0, one_more states s h.1 of)

pub longer : (states : List SavedState) (s : SavedState) → length (states ++ s ∷ []) ≡ suc (length states)
longer states s = let both = length-append states (s ∷ []) in omega (arith, both)

-- the files end so, after those of the states
pub record HasEnd (before : List SavedState) (files : List (List ℕ)) : Type 0 where
  pub end : Merged
  pub merges : MergesFrom before files end

-- the files after one that can be joined end in some way
abbrev EndsLater : List SavedState → List ℕ → List (List ℕ) → Type 0
EndsLater before bytes files =
    (state : SavedState) → length bytes ≤ most_saved_bytes → Follows before bytes state → HasEnd (before ++ state ∷ []) files

pub ends_of : (before : List SavedState) (files : List (List ℕ)) → CanBeTogether before → AllByRecursion IsOfFile before → 1 ≤ length before + length files
    → length before + length files ≤ 64 → HasEnd before files
ends_of [] [] can each some most = absurd (omega (arith, some))
ends_of (first ∷ more) [] can each some most =
    let all = together_of first more can (all_small (first ∷ more) each) (omega (arith, most)) in
    record { end = ends.together all.all; merges = all.are }
ends_of before (bytes ∷ files) can each some most =
    by_length (λ state short f. ends_of (before ++ state ∷ []) files (can_more before state can f.same f.low)
    (one_more before state each (record { bytes = bytes; short = short; saves = f.saves }))
    (omega (arith, longer before state)) (omega (arith, most, longer before state)))
    (nat_lt most_saved_bytes (length bytes)) refl
  where
    number : ℕ
    number = suc (length before)

    by_step : EndsLater before bytes files → length bytes ≤ most_saved_bytes → Step before bytes → HasEnd before (bytes ∷ files)
    by_step later short (joins state f) =
        let rest = later state short f in record { end = rest.end; merges = inr (state, (short, f), rest.merges) }
    by_step later short (is_bad h) = record { end = ends.bad number; merges = inl (refl, short, h) }
    by_step later short (is_other h) = record { end = ends.other number; merges = inl (refl, short, h) }
    by_step later short (is_past h) = record { end = ends.past number; merges = inl (refl, short, h) }

    by_length : EndsLater before bytes files → (b : Bool) → nat_lt most_saved_bytes (length bytes) ≡ b → HasEnd before (bytes ∷ files)
    by_length later true is = record { end = ends.too_long number; merges = inl (refl, ltb-true most_saved_bytes (length bytes) is) }
    by_length later false is = by_step later (ltb-false most_saved_bytes (length bytes) is) (step_of before bytes (all_can before each))

-- at least one file more is opened, where there is one more
module _ (count : ℕ) (save : Bool) where
  at_end : (before : List SavedState) (bytes : List ℕ) (end : Merged) → EndsAt (suc (length before)) before bytes end
      → suc (length before) ≤ (outcome_of_merge count save end).opens
  at_end before bytes (ends.together all) h = absurd h
  at_end before bytes (ends.too_long file) h = omega (arith, h.0)
  at_end before bytes (ends.bad file) h = omega (arith, h.0)
  at_end before bytes (ends.other file) h = omega (arith, h.0)
  at_end before bytes (ends.past file) h = omega (arith, h.0)

  opens_all : (before : List SavedState) (end : Merged) → MergesFrom before [] end → length before ≤ count
      → length before ≤ (outcome_of_merge count save end).opens
  opens_all before (ends.together all) h within = within
  opens_all before (ends.too_long file) h within = absurd h
  opens_all before (ends.bad file) h within = absurd h
  opens_all before (ends.other file) h within = absurd h
  opens_all before (ends.past file) h within = absurd h

  pub opens_more : (before : List SavedState) (files : List (List ℕ)) (end : Merged) → MergesFrom before files end → length before + length files ≤ count
      → length before ≤ (outcome_of_merge count save end).opens
  opens_more before [] end h within = opens_all before end h (omega (arith, within))
  opens_more before (bytes ∷ files) end (inl h) within = omega (arith, at_end before bytes end h)
  opens_more before (bytes ∷ files) end (inr h) within =
      let later = opens_more (before ++ h.0 ∷ []) files end h.2 (omega (arith, longer before h.0, within)) in omega (arith, longer before h.0, later)

  pub opens_one_more : (before : List SavedState) (bytes : List ℕ) (files : List (List ℕ)) (end : Merged) → MergesFrom before (bytes ∷ files) end
      → length before + suc (length files) ≤ count → suc (length before) ≤ (outcome_of_merge count save end).opens
  opens_one_more before bytes files end (inl h) within = at_end before bytes end h
  opens_one_more before bytes files end (inr h) within =
      let later = opens_more (before ++ h.0 ∷ []) files end h.2 (omega (arith, longer before h.0, within)) in omega (arith, longer before h.0, later)

  -- merging is no bad command line
  pub no_bad_words : (end : Merged) → (outcome_of_merge count save end).status ≢ status.Usage
  no_bad_words (ends.together all) = λ e. cc
  no_bad_words (ends.too_long file) = λ e. cc
  no_bad_words (ends.bad file) = λ e. cc
  no_bad_words (ends.other file) = λ e. cc
  no_bad_words (ends.past file) = λ e. cc

-- each list of 1 to 64 files is merged
pub every_list_is_merged : EveryListIsMerged
every_list_is_merged files some most =
    let found = ends_of [] files (record { same = tt; low = omega arith }) tt (omega (arith, some)) (omega (arith, most)) in
    record { merged = found.end; is = found.merges }
