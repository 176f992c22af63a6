-- What is saved of runs is, joined, what is saved of one run that brings all that they bring.
use Rattle.std.proofs.Common.{◌≡◌, ◌∙◌, ℕ, zero, suc, ◌+◌, Some, List, [], ◌∷◌, ◌++◌, length, map, refl, sym, ap, arith, append_assoc, append-nil}
use Rattle.std.specs.Prelude.{slice_get, slice_index_or}
use Rattle.sz_types.specs.Tables.{Declaration}
use Rattle.sz_tabs.specs.Data.{EmitDatum}
use Rattle.sz_total.specs.States.{TotalState, declarations, emit_count, shown}
use Rattle.sz_total.specs.Tables.{table_rows}
use Rattle.sz_total.specs.Totals.{StandsFor}
use Rattle.sz_print.specs.Laws.{ShowsItsEmits}
use Rattle.sz_print.specs.Tables.{lists_text, tables_text}
use Rattle.sz_save_format.specs.Saved.{SavedState, saved_bytes}
use Rattle.sz_save.specs.Saving.{tables_from}
use Rattle.sz_merge.specs.JoiningLaws.{Joining, given, joined, state_of, given_in, IsJoining, HoldInTurn, AddsEmits}
use Rattle.sz_merge.specs.Runs.{Run, saved_of, together, JoinsRuns, HasBytesOfOne, HasTextOfOne}

-- what is given on both sides is made of two lists
record IsSplit {A B : Type 0} (f : A → B) (all : List A) (xs ys : List B) : Type 0 where
  front : List A
  back : List A
  both : all ≡ front ++ back
  first : xs ≡ map f front
  second : ys ≡ map f back

split : {A B : Type 0} (f : A → B) (all : List A) (xs ys : List B) → xs ++ ys ≡ map f all → IsSplit f all xs ys
split f all [] ys is = record { front = []; back = all; both = refl; first = refl; second = is }
split f [] (x ∷ xs) ys is = absurd (cc)
split f (a ∷ all) (x ∷ xs) ys is =
    let later : xs ++ ys ≡ map f all = cc in
    let here : x ≡ f a = cc in
    let rest = split f all xs ys later in
    record {
      front = a ∷ rest.front;
      back = rest.back;
      both = ap (λ l. a ∷ l) rest.both;
      first = λ i. here i ∷ rest.first i;
      second = rest.second;
    }

-- what both lists of runs bring
bounds_of_both : (runs others : List Run)
    → (together (runs ++ others)).bound ≡ (together runs).bound + (together others).bound
bounds_of_both [] others = omega arith
bounds_of_both (run ∷ runs) others = let later = bounds_of_both runs others in omega (arith, later)

emits_of_both : (runs others : List Run)
    → (together (runs ++ others)).emits ≡ (together runs).emits ++ (together others).emits
emits_of_both [] others = refl
emits_of_both (run ∷ runs) others =
    ap (λ l. run.emits ++ l) (emits_of_both runs others)
    ∙ sym (append_assoc run.emits (together runs).emits (together others).emits)

-- what is left of what was saved of runs
record IsLeft (decls : List Declaration) (runs : List Run) (joining : Joining) : Type 0 where
  same : (state_of joining).decls ≡ decls
  bound : (state_of joining).bound ≡ (together runs).bound
  holds : HoldInTurn joining (together runs).emits

module _ (decls : List Declaration) where
  left_of_one : (s : SavedState) (runs : List Run) → s ∷ [] ≡ map (saved_of decls) runs → IsLeft decls runs (given s)
  left_of_one s [] is = absurd (cc)
  left_of_one s (run ∷ other ∷ runs) is = absurd (cc)
  left_of_one s (run ∷ []) is =
      let here : s ≡ saved_of decls run = cc in
      record {
        same = ap (λ (t : SavedState). t.decls) here;
        bound = ap (λ (t : SavedState). t.bound) here ∙ omega arith;
        holds = (λ i. (here i).tables) ∙ ap (tables_from 0 decls) (sym (append-nil run.emits))
            ∙ (λ i. tables_from 0 (sym here i).decls (run.emits ++ []));
      }

  left_of : (j : Joining) (runs : List Run) → IsJoining j → given_in j ≡ map (saved_of decls) runs → IsLeft decls runs j
  left_of (given s) runs h is = left_of_one s runs is
  left_of (joined f b s) runs h is =
      let parts = split (saved_of decls) runs (given_in f) (given_in b) is in
      let front = left_of f parts.front h.0 parts.first in
      let back = left_of b parts.back h.1 parts.second in
      let joins = h.2.joins in
      let bounds = bounds_of_both parts.front parts.back in
      record {
        same = joins.decls ∙ front.same;
        bound = joins.bound ∙ (λ i. front.bound i + back.bound i) ∙ sym bounds
            ∙ ap (λ l. (together l).bound) (sym parts.both);
        holds = (
          (together parts.front).emits,
          (together parts.back).emits,
          ap (λ l. (together l).emits) parts.both ∙ emits_of_both parts.front parts.back,
          front.holds,
          back.holds,
        );
      }

pub runs_join : AddsEmits → JoinsRuns
runs_join adds decls runs one joining are =
    let left = left_of decls joining runs are.is are.given in
    adds joining (saved_of decls one) (together runs).emits one.emits are.is (sym left.same)
    (sym (left.bound ∙ are.all.bound)) left.holds are.all.emits refl

pub bytes_of_one : AddsEmits → HasBytesOfOne
bytes_of_one adds decls runs one joining bytes others are saves also =
    saves.is ∙ ap saved_bytes (runs_join adds decls runs one joining are) ∙ sym also.is

-- ---- texts

-- the rows of a table of emits, by its number
tables_at : (number place : ℕ) (ds : List Declaration) (d : Declaration) (emits : List EmitDatum)
    → slice_get ds place ≡ Some d
    → slice_index_or (tables_from number ds emits) place [] ≡ table_rows (number + place) d emits
tables_at number place [] d emits there = absurd (cc)
tables_at number zero (e ∷ ds) d emits there =
    let here : e ≡ d = cc in
    let same : number ≡ number + 0 = omega arith in
    λ i. table_rows (same i) (here i) emits
tables_at number (suc place) (e ∷ ds) d emits there =
    let later : suc number + place ≡ number + suc place = omega arith in
    tables_at (suc number) place ds d emits there ∙ ap (λ n. table_rows n d emits) later

-- the text of the tables of emits
text_of_tables : ShowsItsEmits → (decls : List Declaration) (emits : List EmitDatum)
    → lists_text decls (tables_from 0 decls emits) ≡ tables_text decls emits
text_of_tables shows decls emits =
    let total : TotalState = record { tables = decls; count = length emits; rows = tables_from 0 decls emits } in
    let stands : StandsFor declarations emit_count shown total emits = record {
      rows = λ place d there.
          let same : 0 + place ≡ place = omega arith in
          tables_at 0 place decls d emits there ∙ ap (λ n. table_rows n d emits) same;
      counted = refl;
    } in
    shows total emits stands

pub text_of_one : AddsEmits → ShowsItsEmits → HasTextOfOne
text_of_one adds shows decls runs one joining are =
    ap (λ (s : SavedState). lists_text s.decls s.tables) (runs_join adds decls runs one joining are)
    ∙ text_of_tables shows decls one.emits
