-- Index lists in parts: what is found under one among all is what is found in its part.
use Rattle.std.proofs.Common.{◌≡◌, ◌∙◌, ℕ, zero, suc, ◌≤◌, Bool, true, false, cond, ◌||◌, true≢false, Some, None, List, [], ◌∷◌}
use Rattle.std.proofs.Common.{◌++◌, map, length, refl, sym, ap, subst, arith, All, is_some}
use Rattle.std.specs.Option.{option_map_or}
use Rattle.std.specs.List.{AllByRecursion}
use Rattle.std.specs.Map.{keys_of, values_of, lookup}
use Rattle.std.specs.BTreeSet.{insert_key}
use Rattle.std.proofs.lemmas.List.{map-append, get_or_past}
use Rattle.std.proofs.lemmas.List.Elements.{All-nil, All-append}
use Rattle.std.proofs.lemmas.Map.Made.{is_some-lookup}
use Rattle.sz_types.specs.Tables.{Declaration}
use Rattle.sz_value.specs.Data.{Datum}
use Rattle.sz_tabs.specs.Rows.{compare_indexes}
use Rattle.sz_tabs.specs.Sorting.{distinct}
use Rattle.sz_tabs.proofs.ForCallers.{all_entered, distinct_of_both, distinct_of_either}
use Rattle.sz_total.specs.Aggregates.{shown_of}
use Rattle.sz_total.specs.Entries.{Entries, same_indexes, rows_found, rows_in_order, IsOfTable, AreOfTable}
use Rattle.sz_total.specs.Parts.{PartState, empty_part, part_at, part_of, entries_of, IsPlaced, ArePartsOf}
use Rattle.sz_total.specs.declared.aggregate.Aggregate.{Aggregate}
use Rattle.sz_total.proofs.TablesLemmas.{indexes_total, indexes_tie}
use Rattle.sz_total.proofs.ListLemmas.{same_laws, same_is, is_among, among_distinct, entered_there}
use Rattle.sz_total.proofs.JoiningLemmas.{absent}

-- what is found in entries with others after them, and with others in front
pub found_in_first : (test : List Datum → Bool) (xs ys : Entries) → lookup test ys ≡ None
    → lookup test (xs ++ ys) ≡ lookup test xs
found_in_first test [] ys none = none
found_in_first test (x ∷ xs) ys none = ap (cond (test x.0) (Some x.1)) (found_in_first test xs ys none)

pub found_in_later : (test : List Datum → Bool) (xs ys : Entries) → lookup test xs ≡ None
    → lookup test (xs ++ ys) ≡ lookup test ys
found_in_later test [] ys none = refl
found_in_later test (x ∷ xs) ys none = by_test (test x.0) none (found_in_later test xs ys)
  where
    by_test : (b : Bool) → cond b (Some x.1) (lookup test xs) ≡ None
        → (lookup test xs ≡ None → lookup test (xs ++ ys) ≡ lookup test ys)
        → cond b (Some x.1) (lookup test (xs ++ ys)) ≡ lookup test ys
    by_test true none later = absurd (cc)
    by_test false none later = later none

-- what no part has isn't found, and what one part alone has is found there
all_lack : (indexes : List Datum) (parts : List PartState)
    → ((at : ℕ) → lookup (same_indexes indexes) (part_at parts at).entries ≡ None)
    → lookup (same_indexes indexes) (entries_of parts) ≡ None
all_lack indexes [] lack = refl
all_lack indexes (p ∷ ps) lack =
    found_in_first (same_indexes indexes) p.entries (entries_of ps) (all_lack indexes ps (λ at. lack (suc at))) ∙ lack 0

found_at : (indexes : List Datum) (parts : List PartState) (at : ℕ)
    → ((i : ℕ) → (i ≡ at → ⊥) → lookup (same_indexes indexes) (part_at parts i).entries ≡ None)
    → lookup (same_indexes indexes) (entries_of parts) ≡ lookup (same_indexes indexes) (part_at parts at).entries
found_at indexes [] zero lack = refl
found_at indexes [] (suc at) lack = refl
found_at indexes (p ∷ ps) zero lack =
    found_in_first (same_indexes indexes) p.entries (entries_of ps)
    (all_lack indexes ps (λ i. lack (suc i) (λ same. omega (arith, same))))
found_at indexes (p ∷ ps) (suc at) lack =
    found_in_later (same_indexes indexes) p.entries (entries_of ps) (lack 0 (λ same. omega (arith, same)))
    ∙ found_at indexes ps at (λ i other. lack (suc i) (λ same. other (omega (arith, same))))

-- a part lacks what has another number
lacks_other : (count at : ℕ) (indexes : List Datum) (entries : Entries) → IsPlaced count at entries
    → (part_of count indexes ≡ at → ⊥) → lookup (same_indexes indexes) entries ≡ None
lacks_other count at indexes entries placed other = absent indexes entries (apart (keys_of entries) placed)
  where
    by_test : (key : List Datum) → part_of count key ≡ at → (b : Bool) → same_indexes indexes key ≡ b
        → same_indexes indexes key ≡ false
    by_test key is true same = absurd (other (ap (part_of count) (same_is indexes key same) ∙ is))
    by_test key is false same = same

    apart : (keys : List (List Datum)) → AllByRecursion (λ l. part_of count l ≡ at) keys
        → AllByRecursion (λ l. same_indexes indexes l ≡ false) keys
    apart [] placed = tt
    apart (k ∷ ks) placed = (by_test k placed.0 (same_indexes indexes k) refl, apart ks placed.1)

-- each index list is found in the part with its number
module _ (count : ℕ) (parts : List PartState) (placed : (at : ℕ) → IsPlaced count at (part_at parts at).entries)
    (indexes : List Datum) where
  pub found_in_part : lookup (same_indexes indexes) (entries_of parts)
      ≡ lookup (same_indexes indexes) (part_at parts (part_of count indexes)).entries
  found_in_part =
      found_at indexes parts (part_of count indexes)
      (λ i other. lacks_other count i indexes (part_at parts i).entries (placed i) (λ same. other (sym same)))

  pub rows_in_part : rows_found (entries_of parts) indexes
      ≡ rows_found (part_at parts (part_of count indexes)).entries indexes
  rows_in_part = ap (λ found. option_map_or shown_of found []) found_in_part

  pub among_in_part : is_among indexes (keys_of (entries_of parts))
      ≡ is_among indexes (keys_of (part_at parts (part_of count indexes)).entries)
  among_in_part =
      sym (is_some-lookup (same_indexes indexes) (entries_of parts)) ∙ ap is_some found_in_part
      ∙ is_some-lookup (same_indexes indexes) (part_at parts (part_of count indexes)).entries

-- lists that have the same index lists among them have the same distinct ones
or_true : (a b : Bool) → b ≡ true → (a || b) ≡ true
or_true true b is = refl
or_true false b is = is

each_among : (xs ys : List (List Datum))
    → ((indexes : List Datum) → is_among indexes ys ≡ true → is_among indexes xs ≡ true)
    → AllByRecursion (λ l. is_among l xs ≡ true) ys
each_among xs [] has = tt
each_among xs (y ∷ ys) has = (
  has y (ap (λ b. b || is_among y ys) (same_laws.refl y)),
  each_among xs ys (λ indexes there. has indexes (or_true (same_indexes indexes y) (is_among indexes ys) there)),
)

all_there : (xs ys : List (List Datum)) → AllByRecursion (λ l. is_among l xs ≡ true) ys
    → all_entered compare_indexes ys (distinct compare_indexes xs) ≡ distinct compare_indexes xs
all_there xs [] there = refl
all_there xs (y ∷ ys) there = ap (λ l. insert_key compare_indexes l y) (all_there xs ys there.1)
    ∙ entered_there xs y there.0

pub distinct_alike : (xs ys : List (List Datum)) → ((indexes : List Datum) → is_among indexes xs ≡ is_among indexes ys)
    → distinct compare_indexes xs ≡ distinct compare_indexes ys
distinct_alike xs ys same =
    sym (all_there xs ys (each_among xs ys (λ indexes there. same indexes ∙ there)))
    ∙ sym (distinct_of_either indexes_total indexes_tie xs ys) ∙ distinct_of_both indexes_total indexes_tie xs ys
    ∙ all_there ys xs (each_among ys xs (λ indexes there. sym (same indexes) ∙ there))

-- and the other way round
pub alike_distinct : (xs ys : List (List Datum)) → distinct compare_indexes xs ≡ distinct compare_indexes ys
    → (indexes : List Datum) → is_among indexes xs ≡ is_among indexes ys
alike_distinct xs ys same indexes = sym (among_distinct indexes xs) ∙ ap (is_among indexes) same
    ∙ among_distinct indexes ys

-- an index list is among those of two lists
or_assoc : (a b c : Bool) → (a || (b || c)) ≡ ((a || b) || c)
or_assoc true b c = refl
or_assoc false b c = refl

pub among_both : (indexes : List Datum) (xs ys : List (List Datum))
    → is_among indexes (xs ++ ys) ≡ (is_among indexes xs || is_among indexes ys)
among_both indexes [] ys = refl
among_both indexes (x ∷ xs) ys =
    ap (λ b. same_indexes indexes x || b) (among_both indexes xs ys)
    ∙ or_assoc (same_indexes indexes x) (is_among indexes xs) (is_among indexes ys)

-- what entries show is decided by their index lists and the rows under each
pub shown_alike : (xs ys : Entries)
    → ((indexes : List Datum) → is_among indexes (keys_of xs) ≡ is_among indexes (keys_of ys))
    → ((indexes : List Datum) → rows_found xs indexes ≡ rows_found ys indexes) → rows_in_order xs ≡ rows_in_order ys
shown_alike xs ys keys rows = (λ i.
    map (λ indexes. record { indexes = indexes; rows = rows indexes i })
    (distinct_alike (keys_of xs) (keys_of ys) keys i))

-- the numbers of index lists that are among those of a part, and a part with index lists of its number alone
pub number_among : (count at : ℕ) (keys : List (List Datum)) → AllByRecursion (λ l. part_of count l ≡ at) keys
    → (indexes : List Datum) → is_among indexes keys ≡ true → part_of count indexes ≡ at
number_among count at [] placed indexes there = absurd (true≢false (sym there))
number_among count at (k ∷ ks) placed indexes there =
    by_test (same_indexes indexes k) refl there (number_among count at ks placed.1 indexes)
  where
    by_test : (b : Bool) → same_indexes indexes k ≡ b → (b || is_among indexes ks) ≡ true
        → (is_among indexes ks ≡ true → part_of count indexes ≡ at) → part_of count indexes ≡ at
    by_test true same there later = ap (part_of count) (same_is indexes k same) ∙ placed.0
    by_test false same there later = later there

pub placed_by : (count at : ℕ) (keys : List (List Datum))
    → ((indexes : List Datum) → is_among indexes keys ≡ true → part_of count indexes ≡ at)
    → AllByRecursion (λ l. part_of count l ≡ at) keys
placed_by count at [] numbers = tt
placed_by count at (k ∷ ks) numbers = (
  numbers k (ap (λ b. b || is_among k ks) (same_laws.refl k)),
  placed_by count at ks
      (λ indexes there. numbers indexes (or_true (same_indexes indexes k) (is_among indexes ks) there)),
)

-- all aggregators are of the table where those of each part are
pub all_of_table : (table : Declaration) (count : ℕ) (parts : List PartState) → ArePartsOf table count parts
    → AreOfTable table count (entries_of parts)
all_of_table table count [] are = All-nil (IsOfTable table count)
all_of_table table count (p ∷ ps) are =
    subst (All (IsOfTable table count))
    (sym (map-append (λ (e : List Datum × Aggregate). e.1) p.entries (entries_of ps)))
    (All-append (IsOfTable table count) (values_of p.entries) (values_of (entries_of ps)) (are 0)
    (all_of_table table count ps (λ at. are (suc at))))

-- there is nothing in a part that isn't there
pub nothing_past : (parts : List PartState) (at : ℕ) → length parts ≤ at → part_at parts at ≡ empty_part
nothing_past parts at past = get_or_past parts at empty_part past
