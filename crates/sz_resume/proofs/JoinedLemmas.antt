-- Saved states of rounds, joined one after the other.
use Rattle.std.proofs.Common.{◌≡◌, ◌≢◌, ◌∙◌, ◌+◌, ◌^◌, ◌≤◌, List, [], ◌∷◌, ◌++◌, map, refl, sym, ap, subst, arith, zero-add}
use Rattle.std.proofs.lemmas.List.{map-append}
use Rattle.std.proofs.lemmas.List.Sorted.{IsPermutation-refl}
use Rattle.std.proofs.lemmas.List.Sums.{sum_by-cons}
use Rattle.sz_types.specs.Tables.{Declaration}
use Rattle.sz_tabs.specs.Data.{EmitDatum}
use Rattle.sz_save_format.specs.Saved.{SavedState}
use Rattle.sz_save.specs.Saving.{state_of_emits}
use Rattle.sz_merge.specs.Runs.{Run, saved_of, together, JoinsRuns}
use Rattle.sz_journal.specs.declared.job.JobBytes.{JobBytes}
use Rattle.sz_journal.specs.declared.progress.Progress.{Progress}
use Rattle.sz_journal.specs.declared.round.RoundEntry.{RoundEntry}
use Rattle.sz_journal.specs.Rounds.{no_progress, Follow, AreRounds, all_bounds, progress_of}
use Rattle.sz_merge.specs.Together.{AreTogether, bounds_of, HaveTables}
use Rattle.sz_merge.specs.Groups.{AreOf, CanTake}
use Rattle.sz_resume.specs.Entries.{nothing, saved_in, AreSavedOf, all_parts, HoldsRounds}

have_tables : (job : JobBytes) (decls : List Declaration) (before : Progress) (rounds : List RoundEntry) → Follow job decls before rounds
    → HaveTables decls (map saved_in rounds)
have_tables job decls before [] h = tt
have_tables job decls before (r ∷ rounds) h = (h.0.same_decls, have_tables job decls (progress_of r) rounds h.1)

bounds_are : (rounds : List RoundEntry) → bounds_of (map saved_in rounds) ≡ all_bounds rounds
bounds_are [] = refl
bounds_are (r ∷ rounds) =
    ap (λ n. r.saved.bound + n) (bounds_are rounds) ∙ sym (sum_by-cons (λ (round : RoundEntry). round.saved.bound) r rounds)

-- the one that holds nothing can be joined to no others
pub can_begin : (decls : List Declaration) (groups : List SavedState) (none : SavedState) → none ≡ nothing decls → AreOf groups [] → CanTake groups none
can_begin decls groups none is are =
    let empty : none.bound ≡ 0 = ap (λ (t : SavedState). t.bound) is in
    record { before = []; are = are; can = record { same = tt; low = omega (arith, empty) } }

-- the tables of the next round can be joined to those of the rounds
pub can_take : {groups : List SavedState} (job : JobBytes) (decls : List Declaration) (rounds : List RoundEntry) (round : RoundEntry)
    → AreOf groups (nothing decls ∷ map saved_in rounds) → AreRounds job decls (rounds ++ round ∷ []) → CanTake groups round.saved
can_take job decls rounds round joined are =
    let saved = map-append saved_in rounds (round ∷ []) in
    let bounds : bounds_of (map saved_in rounds ++ round.saved ∷ []) ≡ all_bounds (rounds ++ round ∷ []) =
    ap bounds_of (sym saved) ∙ bounds_are (rounds ++ round ∷ []) in
    let low : all_bounds (rounds ++ round ∷ []) ≤ 2 ^ 63 = are.bounds in
    record {
      before = nothing decls ∷ map saved_in rounds;
      are = joined;
      can = record {
        same = subst (HaveTables decls) saved (have_tables job decls no_progress (rounds ++ round ∷ []) are.follow);
        low = omega (arith, bounds, low);
      };
    }

-- and then they are
pub joins_next : {groups : List SavedState} (decls : List Declaration) (rounds : List RoundEntry) (round : RoundEntry)
    → AreOf groups ((nothing decls ∷ map saved_in rounds) ++ round.saved ∷ []) → AreOf groups (nothing decls ∷ map saved_in (rounds ++ round ∷ []))
joins_next {groups = groups} decls rounds round are =
    subst (λ (l : List SavedState). AreOf groups (nothing decls ∷ l)) (sym (map-append saved_in rounds (round ∷ []))) are

-- there are some
pub some_joined : {groups states : List SavedState} {s : SavedState} → AreOf groups (s ∷ states) → groups ≢ []
some_joined {groups = []} are is = absurd (let none = are.gather in cc)
some_joined {groups = g ∷ gs} are is = absurd cc

-- ---- what they hold together

abbrev runs_of : List RoundEntry → List (List EmitDatum) → List Run
runs_of [] parts = []
runs_of (r ∷ rounds) [] = []
runs_of (r ∷ rounds) (p ∷ parts) = record { bound = r.saved.bound; emits = p } ∷ runs_of rounds parts

-- what is saved of the runs, and what they bring
record AreRuns (decls : List Declaration) (rounds : List RoundEntry) (parts : List (List EmitDatum)) : Type 0 where
  saved : map saved_in rounds ≡ map (saved_of decls) (runs_of rounds parts)
  bound : (together (runs_of rounds parts)).bound ≡ all_bounds rounds
  emits : (together (runs_of rounds parts)).emits ≡ all_parts parts

are_runs : (decls : List Declaration) (rounds : List RoundEntry) (parts : List (List EmitDatum)) → AreSavedOf decls rounds parts
    → AreRuns decls rounds parts
are_runs decls [] [] h = record { saved = refl; bound = refl; emits = refl }
are_runs decls [] (p ∷ parts) h = absurd h
are_runs decls (r ∷ rounds) [] h = absurd h
are_runs decls (r ∷ rounds) (p ∷ parts) h =
    let later = are_runs decls rounds parts h.1 in
    record {
      saved = λ i. h.0 i ∷ later.saved i;
      bound = ap (λ n. r.saved.bound + n) later.bound ∙ sym (sum_by-cons (λ (round : RoundEntry). round.saved.bound) r rounds);
      emits = ap (λ es. p ++ es) later.emits;
    }

-- they hold all parts
pub holds_rounds : JoinsRuns → (decls : List Declaration) (rounds : List RoundEntry) (all : SavedState)
    → AreTogether (nothing decls ∷ map saved_in rounds) all → HoldsRounds decls rounds all
holds_rounds joins decls rounds all one parts are =
    let none : Run = record { bound = 0; emits = [] } in
    let runs = none ∷ runs_of rounds parts in
    let of = are_runs decls rounds parts are in
    let states : nothing decls ∷ map saved_in rounds ≡ map (saved_of decls) runs = λ i. nothing decls ∷ of.saved i in
    sym one.left
    ∙ joins decls runs (together runs) one.joining (record {
      given = one.given ∙ states;
      is = one.is;
      all = record { bound = refl; emits = IsPermutation-refl (together runs).emits };
    })
    ∙ (λ i. state_of_emits (0 + of.bound i) decls (of.emits i)) ∙ ap (λ n. state_of_emits n decls (all_parts parts)) (zero-add (all_bounds rounds))
