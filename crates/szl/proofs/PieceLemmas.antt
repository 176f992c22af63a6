-- Files of the records of one run in pieces: merging them joins them all, to what is saved of all the records.
use Rattle.std.proofs.Common.{◌≡◌, ◌∙◌, ℕ, suc, ◌+◌, ◌^◌, ◌≤◌, inl, inr, List, [], ◌∷◌, ◌++◌, length, map, refl, sym, ap, subst, arith}
use Rattle.std.proofs.Common.{append-nil, append_assoc, IsPermutation}
use Rattle.std.proofs.lemmas.List.Sorted.{IsPermutation-refl, IsPermutation-trans, IsPermutation-append_left, IsPermutation-append_right}
use Rattle.std.proofs.lemmas.List.Sorted.{IsPermutation-append_comm}
use Rattle.std.specs.List.{AllByRecursion}
use Rattle.sz_types.specs.Tables.{Declaration}
use Rattle.sz_tabs.specs.Data.{EmitDatum}
use Rattle.sz_tabs.proofs.ForCallers.{in_any_order}
use Rattle.sz_print.specs.Tables.{lists_text, tables_text}
use Rattle.sz_save_format.specs.Saved.{SavedState, Saves}
use Rattle.sz_save_format.specs.Laws.{IsOneSpelling}
use Rattle.sz_merge.specs.Runs.{Run, saved_of, together, AreJoined, JoinsRuns, HasTextOfOne}
use Rattle.sz_merge.specs.Laws.{IsOneTogether}
use Rattle.sz_merge.specs.Together.{AreTogether, bounds_of, HasSameTables, HaveTables}
use Rattle.szl.specs.Merging as ends
use Rattle.szl.specs.Merging.{Merged, MergesFrom, IsJoined, most_saved_bytes}
use Rattle.szl.proofs.MergeOnce.{no_end}

-- a file, and what it was saved of
pub record Piece : Type 0 where
  pub bytes : List ℕ
  pub run : Run

-- the files
abbrev pub bytes_of : List Piece → List (List ℕ)
bytes_of pieces = map (λ (p : Piece). p.bytes) pieces

-- what they were saved of
abbrev pub runs_of : List Piece → List Run
runs_of pieces = map (λ (p : Piece). p.run) pieces

bounds_of_both : (ss ts : List SavedState) → bounds_of (ss ++ ts) ≡ bounds_of ss + bounds_of ts
bounds_of_both [] ts = omega arith
bounds_of_both (s ∷ ss) ts = omega (arith, bounds_of_both ss ts)

module _ (decls : List Declaration) where
  abbrev pub states_of : List Piece → List SavedState
  states_of pieces = map (saved_of decls) (runs_of pieces)

  -- the file is short, and that of what it was saved of
  pub record IsFile (p : Piece) : Type 0 where
    pub short : length p.bytes ≤ most_saved_bytes
    pub saves : Saves p.bytes (saved_of decls p.run)

  -- merging ends with what these states are together
  record EndsTogether (states : List SavedState) (end : Merged) : Type 0 where
    all : SavedState
    is : end ≡ ends.together all
    are : AreTogether states all

  -- merging ends with what is saved of one run, which has the text of its emits
  pub record EndsAsOne (whole : Run) (end : Merged) : Type 0 where
    pub is : end ≡ ends.together (saved_of decls whole)
    pub text : lists_text decls (saved_of decls whole).tables ≡ tables_text decls whole.emits

  same_tables : (before : List SavedState) (run : Run) → HaveTables decls before → HasSameTables before (saved_of decls run)
  same_tables [] run h = tt
  same_tables (first ∷ more) run h = sym h.0

  one_more : (before : List SavedState) (s : SavedState) → HaveTables decls before → s.decls ≡ decls → HaveTables decls (before ++ s ∷ [])
  one_more [] s h is = (is, tt)
  one_more (first ∷ more) s h is = (h.0, one_more more s h.1 is)

  module _ (spelling : IsOneSpelling) (one : IsOneTogether) where
    at_end : (before : List SavedState) (end : Merged) → MergesFrom before [] end → EndsTogether before end
    at_end before (ends.together all) h = record { all = all; is = refl; are = h }
    at_end before (ends.too_long file) h = absurd h
    at_end before (ends.bad file) h = absurd h
    at_end before (ends.other file) h = absurd h
    at_end before (ends.past file) h = absurd h

    joined_next : (before : List SavedState) (p : Piece) → HaveTables decls before → IsFile p → bounds_of before + p.run.bound ≤ 2 ^ 63
        → IsJoined before p.bytes (saved_of decls p.run)
    joined_next before p tables file low = (file.short, record { saves = file.saves; same = same_tables before p.run tables; low = low })

    -- each file is joined to those before it
    all_joined : (before : List SavedState) (pieces : List Piece) (end : Merged) → HaveTables decls before → AllByRecursion IsFile pieces
        → bounds_of before + (together (runs_of pieces)).bound ≤ 2 ^ 63 → MergesFrom before (bytes_of pieces) end
        → EndsTogether (before ++ states_of pieces) end
    all_joined before [] end tables files low h = subst (λ states. EndsTogether states end) (sym (append-nil before)) (at_end before end h)
    all_joined before (p ∷ pieces) end tables files low (inl h) =
        absurd (no_end spelling one (suc (length before)) before p.bytes end (saved_of decls p.run) h
        (joined_next before p tables files.0 (omega (arith, low))))
    all_joined before (p ∷ pieces) end tables files low (inr h) =
        let s = saved_of decls p.run in
        let same = spelling p.bytes h.0 s h.1.1.saves files.0.saves in
        let later = subst (λ t. MergesFrom (before ++ t ∷ []) (bytes_of pieces) end) same h.2 in
        let both = bounds_of_both before (s ∷ []) in
        subst (λ states. EndsTogether states end) (append_assoc before (s ∷ []) (states_of pieces))
        (all_joined (before ++ s ∷ []) pieces end (one_more before s tables refl) files.1 (omega (arith, low, both)) later)

    -- so merging ends with what is saved of a run that brings all that they bring
    pub merged_to_one : JoinsRuns → HasTextOfOne → (pieces : List Piece) (whole : Run) (end : Merged) → AllByRecursion IsFile pieces
        → (together (runs_of pieces)).bound ≡ whole.bound → IsPermutation (together (runs_of pieces)).emits whole.emits → whole.bound ≤ 2 ^ 63
        → MergesFrom [] (bytes_of pieces) end → EndsAsOne whole end
    merged_to_one joins texts pieces whole end files bound emits low h =
        let found = all_joined [] pieces end tt files (omega (arith, bound, low)) h in
        let are : AreJoined decls (runs_of pieces) whole found.are.joining =
        record { given = found.are.given; is = found.are.is; all = record { bound = bound; emits = emits } } in
        let left = joins decls (runs_of pieces) whole found.are.joining are in
        record {
          is = found.is ∙ ap ends.together (sym found.are.left ∙ left);
          text = ap (λ (s : SavedState). lists_text s.decls s.tables) (sym left) ∙ texts decls (runs_of pieces) whole found.are.joining are;
        }

-- ---- the order of the runs can't be seen

pub bounds_moved : (runs others : List Run) → IsPermutation runs others → (together runs).bound ≡ (together others).bound
bounds_moved =
    in_any_order (λ runs others. (together runs).bound ≡ (together others).bound) (λ runs. refl) (λ run runs others alike. ap (λ n. run.bound + n) alike)
    (λ run other runs. omega arith) (λ runs others more first second. first ∙ second)

turned_emits : (xs ys zs : List EmitDatum) → IsPermutation (xs ++ (ys ++ zs)) (ys ++ (xs ++ zs))
turned_emits xs ys zs =
    subst (λ (p : List EmitDatum × List EmitDatum). IsPermutation p.0 p.1) (λ i. (append_assoc xs ys zs i, append_assoc ys xs zs i))
    (IsPermutation-append_left zs (xs ++ ys) (ys ++ xs) (IsPermutation-append_comm xs ys))

pub emits_moved : (runs others : List Run) → IsPermutation runs others → IsPermutation (together runs).emits (together others).emits
emits_moved =
    in_any_order (λ runs others. IsPermutation (together runs).emits (together others).emits) (λ runs. IsPermutation-refl (together runs).emits)
    (λ run runs others alike. IsPermutation-append_right run.emits (together runs).emits (together others).emits alike)
    (λ run other runs. turned_emits run.emits other.emits (together runs).emits)
    (λ runs others more first second. IsPermutation-trans (together runs).emits (together others).emits (together more).emits first second)
