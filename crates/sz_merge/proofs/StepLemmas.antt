-- Each file can be joined to those before it or can't, and files that can be joined are together one state.
use Rattle.std.proofs.Common.{◌≡◌, ◌∙◌, ℕ, ◌+◌, ◌*◌, ◌^◌, ◌<◌, ◌≤◌, ◌⊎◌, inl, inr, nat_lt, Bool, true, false, Option, Some, None, List, [], ◌∷◌}
use Rattle.std.proofs.Common.{length, zip, refl, sym, ap, subst, arith, ltb-true, ltb-false, ne_eqb, true≢false}
use Rattle.std.specs.Prelude.{bytes_eq}
use Rattle.std.specs.List.{AllByRecursion}
use Rattle.std.proofs.lemmas.Slice.Eq.{bytes_eq-Decides}
use Rattle.sz_types.specs.Tables.{Declaration}
use Rattle.sz_total.specs.Tables.{Indexed}
use Rattle.sz_save_format.specs.Saved.{SavedState, most_bound, saved_bytes, IsSavedTable, CanBeSaved, Saves}
use Rattle.sz_save_format.specs.Decoding.{counted_at}
use Rattle.sz_save_format.specs.DecodingRows.{head_at, table_at}
use Rattle.sz_save_format.proofs.SavedLemmas.{tables_save, nothing_saves, no_head, no_tables, no_end, one_spelling}
use Rattle.sz_save.specs.Walk.{joined_tables}
use Rattle.sz_save.proofs.JoinLemmas.{states_saved, states_join}
use Rattle.sz_merge.specs.JoiningLaws.{Gives}
use Rattle.sz_merge.specs.declared.error.MergeError.TheVariants.{BadTables, OtherTables, TablesLimit}
use Rattle.sz_merge.specs.Together.{AreTogether, bounds_of, HasSameTables, HaveTables, CanBeTogether}
use Rattle.sz_merge.specs.Files.{Follows, IsStopped}
use Rattle.sz_merge.proofs.TogetherLemmas.{led, bound_together, alone, joined_together}
use Rattle.sz_merge.proofs.CountLemmas.{HasFew, tables_few, few_counted}

-- ---- bytes are those of a saved state, or of none

abbrev pub IsSaved : List ℕ → Type 0
IsSaved bytes = (state : SavedState) × Saves bytes state

abbrev pub IsNotSaved : List ℕ → Type 0
IsNotSaved bytes = (state : SavedState) → Saves bytes state → ⊥

module _ (flat : List ℕ) where
  by_end : (bound : ℕ) (rest : List ℕ) → head_at flat ≡ Some (bound, rest)
      → (tables : List (Declaration × List Indexed)) (left : List ℕ)
      → counted_at (table_at bound) rest ≡ Some (tables, left) → IsSaved flat ⊎ IsNotSaved flat
  by_end bound rest head tables [] found = inl (_, tables_save flat bound rest tables [] head found refl)
  by_end bound rest head tables (b ∷ left) found =
      inr (nothing_saves flat
      (no_end flat bound rest tables (b ∷ left) head found (ne_eqb (length (b ∷ left)) 0 (λ is. omega (arith, is)))))

  by_tables : (bound : ℕ) (rest : List ℕ) → head_at flat ≡ Some (bound, rest)
      → (found : Option (List (Declaration × List Indexed) × List ℕ))
      → counted_at (table_at bound) rest ≡ found → IsSaved flat ⊎ IsNotSaved flat
  by_tables bound rest head None found = inr (nothing_saves flat (no_tables flat bound rest head found))
  by_tables bound rest head (Some p) found = by_end bound rest head p.0 p.1 found

  by_head : (found : Option (ℕ × List ℕ)) → head_at flat ≡ found → IsSaved flat ⊎ IsNotSaved flat
  by_head None found = inr (nothing_saves flat (no_head flat found))
  by_head (Some p) found = by_tables p.0 p.1 found (counted_at (table_at p.0) p.1) refl

  pub saved_or_not : IsSaved flat ⊎ IsNotSaved flat
  saved_or_not = by_head (head_at flat) refl

-- ---- declarations are the same or differ: tables without rows have bytes of their own

no_rows : List Declaration → List (List Indexed)
no_rows [] = []
no_rows (d ∷ ds) = [] ∷ no_rows ds

abbrev empty : List Declaration → SavedState
empty ds = record { bound = 0; decls = ds; tables = no_rows ds }

no_rows_long : (ds : List Declaration) → length (no_rows ds) ≡ length ds
unfolding no_rows
no_rows_long [] = refl
no_rows_long (d ∷ ds) = omega (arith, no_rows_long ds)

no_rows_saved : (bound : ℕ) (ds : List Declaration) (ts : List (List Indexed)) → length ts ≡ length ds
    → AllByRecursion (IsSavedTable bound) (zip ds ts) → AllByRecursion (IsSavedTable 0) (zip ds (no_rows ds))
unfolding no_rows
no_rows_saved bound [] ts long h = tt
no_rows_saved bound (d ∷ ds) [] long h = absurd (omega (arith, long))
no_rows_saved bound (d ∷ ds) (t ∷ ts) long h = (
  record {
    declaration = h.0.declaration;
    entries = record { few = omega arith; none = λ zero_bound. refl; each = tt; rising = refl };
  },
  no_rows_saved bound ds ts (omega (arith, long)) h.1,
)

empty_saved : (saved : SavedState) → CanBeSaved saved → CanBeSaved (empty saved.decls)
empty_saved saved can = record {
  bound = omega arith;
  few = can.few;
  as_many = no_rows_long saved.decls;
  each = no_rows_saved saved.bound saved.decls saved.tables can.as_many can.each;
}

same_or_not : (one other : SavedState) → CanBeSaved one → CanBeSaved other
    → (other.decls ≡ one.decls) ⊎ (other.decls ≡ one.decls → ⊥)
same_or_not one other can can_other = by_test (bytes_eq first second) refl
  where
    first : List ℕ
    first = saved_bytes (empty one.decls)

    second : List ℕ
    second = saved_bytes (empty other.decls)

    by_test : (b : Bool) → bytes_eq first second ≡ b → (other.decls ≡ one.decls) ⊎ (other.decls ≡ one.decls → ⊥)
    by_test true is =
        let same = (bytes_eq-Decides first second).0 is in
        inl (ap (λ (s : SavedState). s.decls) (one_spelling first (empty other.decls) (empty one.decls)
        (record { can = empty_saved other can_other; is = same }) (record { can = empty_saved one can; is = refl })))
    by_test false is =
        inr (λ same. true≢false
        (sym ((bytes_eq-Decides first second).1 (ap (λ ds. saved_bytes (empty ds)) (sym same))) ∙ is))

has_same_or_not : (before : List SavedState) (state : SavedState) → AllByRecursion CanBeSaved before → CanBeSaved state
    → HasSameTables before state ⊎ (HasSameTables before state → ⊥)
has_same_or_not [] state can can_state = inl tt
has_same_or_not (first ∷ more) state can can_state = same_or_not first state can.0 can_state

-- ---- a file can be joined, or can't for a cause

-- a file that can be joined to those before it, or the cause for which it can't
pub data Step (before : List SavedState) (bytes : List ℕ) : Type 0 where
  joins : (state : SavedState) → Follows before bytes state → Step before bytes
  is_bad : IsStopped before bytes BadTables → Step before bytes
  is_other : IsStopped before bytes OtherTables → Step before bytes
  is_past : IsStopped before bytes TablesLimit → Step before bytes

module _ (before : List SavedState) (bytes : List ℕ) where
  by_bound : (state : SavedState) → Saves bytes state → HasSameTables before state → (b : Bool)
      → nat_lt most_bound (bounds_of before + state.bound) ≡ b → Step before bytes
  by_bound state saves same true is =
      is_past (state, saves, (same, ltb-true most_bound (bounds_of before + state.bound) is))
  by_bound state saves same false is = joins state (record { saves = saves; same = same; low = not_above is })
    where
      not_above : nat_lt most_bound (bounds_of before + state.bound) ≡ false
          → bounds_of before + state.bound ≤ most_bound
      not_above none = ltb-false most_bound (bounds_of before + state.bound) none

  by_same : (state : SavedState) → Saves bytes state → HasSameTables before state ⊎ (HasSameTables before state → ⊥)
      → Step before bytes
  by_same state saves (inl same) = by_bound state saves same (nat_lt most_bound (bounds_of before + state.bound)) refl
  by_same state saves (inr differ) = is_other (state, saves, differ)

  by_saved : AllByRecursion CanBeSaved before → IsSaved bytes ⊎ IsNotSaved bytes → Step before bytes
  by_saved can (inl is) = by_same is.0 is.1 (has_same_or_not before is.0 can is.1.can)
  by_saved can (inr not_saved) = is_bad not_saved

  pub step_of : AllByRecursion CanBeSaved before → Step before bytes
  step_of can = by_saved can (saved_or_not bytes)

-- ---- states that can be joined are together one

-- the state can be saved, and has so few index lists and rows
pub record IsSmall (n : ℕ) (state : SavedState) : Type 0 where
  pub can : CanBeSaved state
  pub few : HasFew n state

-- two states joined
pub record HasBoth (one other : SavedState) (n : ℕ) : Type 0 where
  pub both : SavedState
  pub gives : Gives one other both
  pub few : HasFew n both

both_of : (one other : SavedState) (m n : ℕ) → other.decls ≡ one.decls → one.bound + other.bound ≤ 2 ^ 63
    → IsSmall m one → IsSmall n other → m + n < 2 ^ 64 → HasBoth one other (m + n)
both_of one other m n same low g h small =
    let tables = joined_tables one.decls one.tables other.tables in
    let bound = one.bound + other.bound in
    let few = tables_few m n one.decls one.tables other.tables g.few h.few in
    record {
      both = record { bound = bound; decls = one.decls; tables = tables };
      gives = record {
        joins = states_join one other same g.can h.can bound one.decls one.decls tables one.tables other.tables refl
            refl refl refl refl refl;
        can = states_saved one other same g.can h.can bound one.decls one.decls tables one.tables other.tables refl
            refl refl refl refl refl low (few_counted (m + n) tables small few);
      };
      few = few;
    }

-- states that are together one, with so few index lists and rows
pub record HasTogether (states : List SavedState) (n : ℕ) : Type 0 where
  pub all : SavedState
  pub are : AreTogether states all
  pub small : IsSmall n all

decls_together : (s : SavedState) (states : List SavedState) (all : SavedState) → AreTogether (s ∷ states) all
    → all.decls ≡ s.decls
decls_together s states all h =
    let first = led h.joining h.is in
    ap (λ (t : SavedState). t.decls) (sym h.left) ∙ sym first.decls
    ∙ ap (λ (t : SavedState). t.decls) (head_is (sym first.given ∙ h.given))
  where
    head_is : {f : SavedState} {more : List SavedState} → f ∷ more ≡ s ∷ states → f ≡ s
    head_is p = cc

further : (ds es : List Declaration) (states : List SavedState) → es ≡ ds → HaveTables ds states → HaveTables es states
further ds es states is = subst (λ l. HaveTables l states) (sym is)

pub together_of : (first : SavedState) (more : List SavedState) → CanBeTogether (first ∷ more)
    → AllByRecursion (IsSmall (2 ^ 40)) (first ∷ more)
    → length (first ∷ more) ≤ 64 → HasTogether (first ∷ more) (length (first ∷ more) * 2 ^ 40)
together_of first [] can small low = record {
  all = first;
  are = alone first small.0.can;
  small = subst (λ m. IsSmall m first) (omega arith) small.0;
}
together_of first (second ∷ more) can small low =
    let count = length (second ∷ more) in
    let product : 2 ^ 40 + count * 2 ^ 40 ≡ length (first ∷ second ∷ more) * 2 ^ 40 = omega arith in
    let rest = together_of second more
    (record { same = further first.decls second.decls more can.same.0 can.same.1; low = omega (arith, can.low) })
    small.1 (omega (arith, low)) in
    let bound = bound_together (second ∷ more) rest.all rest.are in
    let both =
    both_of first rest.all (2 ^ 40) (count * 2 ^ 40) (decls_together second more rest.all rest.are ∙ can.same.0)
    (omega (arith, bound, can.low)) small.0 rest.small
    (omega (arith, low)) in
    record {
      all = both.both;
      are = joined_together (first ∷ [])
          (second ∷ more) first rest.all both.both (alone first small.0.can) rest.are both.gives;
      small = record { can = both.gives.can; few = subst (λ m. HasFew m both.both) product both.few };
    }
