-- What an aggregator of members stands for after its calls.
use Rattle.std.proofs.Common.{◌≡◌, ◌∙◌, inl, inr, ℕ, ℤ, ◌+◌, ◌≤◌, ◌<◌, true, false, Option, None, List, [], ◌∷◌, ◌++◌, map, length, refl, sym, ap, subst}
use Rattle.std.proofs.Common.{arith, append_assoc, append-nil, ltb-false}
use Rattle.std.specs.List.{IsDistinct}
use Rattle.std.specs.Map.{keys_of}
use Rattle.std.proofs.lemmas.List.{length-append, length-replicate}
use Rattle.std.proofs.lemmas.List.Sorted.{length_permutation}
use Rattle.sz_types.specs.Tables.{Declaration}
use Rattle.sz_types.specs.declared.table.TableKind.TheVariants.{Set}
use Rattle.sz_value.specs.Data.{Datum}
use Rattle.sz_value.specs.Order.{compare}
use Rattle.sz_value.specs.Seen.{seen}
use Rattle.sz_value.specs.declared.value.Value.{Value}
use Rattle.sz_tabs.specs.Data.{Weighted}
use Rattle.sz_tabs.specs.Aggregating.{weighted, Gains as Gained, Joins}
use Rattle.sz_tabs.specs.Rows.{rows_of, values_of, rows_by, set_rows, value_row}
use Rattle.sz_tabs.specs.Sorting.{sorted, distinct}
use Rattle.sz_tabs.proofs.ForCallers.{rows_decide, rows_join, rows_in_any_order}
use Rattle.sz_members.specs.Data.{Counted, times, emits_of, rows_of_members}
use Rattle.sz_members.specs.Repeats.{value_eq, emits_tallied, AllCame, AreFew, full_by, is_full, CountsAgain, Gains}
use Rattle.sz_members.specs.Kept.{IsOfMembers}
use Rattle.sz_members.proofs.RepeatsLemmas.{emits_after, came_after}
use Rattle.sz_members.proofs.FullLemmas.{full_shows, values_of_both}

-- counted again, kept as new, and passed over by a full set
module _ (table : Declaration) (value : Datum) (n : ℕ) (old new : List (Value × ℕ)) where
  pub gains_again : CountsAgain value n old new → Gains table value n old new
  gains_again again = record {
    rows = λ came. sym (rows_in_any_order table _ _ again.emits);
    came = again.came;
    few = λ few set. omega (arith, few set, again.values);
    count = omega (
      arith,
      length_permutation _ _ again.emits,
      length-append (emits_tallied old) (times n value),
      length-replicate n (weighted value None),
    );
  }

  -- no more are shown of a full set
  pub gains_full : IsDistinct value_eq (keys_of old) → is_full table (length old) ≡ true → new ≡ old
      → Gains table value n old new
  gains_full unique full same = subst (λ es. Gains table value n old es) (sym same) (record {
    rows = λ came.
        ap (rows_of table) (sym (append-nil (emits_tallied old))) ∙ full_shows table old [] unique came full
        ∙ sym (full_shows table old (times n value) unique came full);
    came = λ came. came;
    few = λ few. few;
    count = omega arith;
  })

not_long : (table : Declaration) (values : ℕ) → is_full table values ≡ false → table.kind ≡ Set → values ≤ table.limit
not_long table values few set = ltb-false table.limit values (sym (ap (λ k. full_by k table.limit values) set) ∙ few)

pub gains_new : (table : Declaration) (v : Value) (n : ℕ) (old new : List (Value × ℕ)) → 0 < n
    → is_full table (length old) ≡ false → new ≡ old ++ (v, n) ∷ [] → Gains table (seen v) n old new
gains_new table v n old new some few after = subst (λ es. Gains table (seen v) n old es) (sym after) (record {
  rows = λ came. ap (rows_of table) (emits_after old v n);
  came = came_after old v n some;
  few = λ before set. omega (arith, not_long table (length old) few set, length-append old ((v, n) ∷ []));
  count =
      omega (
        arith,
        ap length (emits_after old v n),
        length-append (emits_tallied old) (times n (seen v)),
        length-replicate n (weighted (seen v) None),
      );
})

-- the emits of the first values and of all others are those of what is kept now and of what is left
pub record IsUpTo (table : Declaration) (first others tally rest : List (Value × ℕ)) : Type 0 where
  pub rows : rows_of table (emits_tallied tally ++ emits_tallied rest)
      ≡ rows_of table (emits_tallied first ++ emits_tallied others)
  pub came : AllCame tally
  pub left : AllCame rest
  pub few : AreFew table (length tally)
  pub count : length (emits_tallied tally) + length (emits_tallied rest)
      ≤ length (emits_tallied first) + length (emits_tallied others)

pub emits_left : (table : Declaration) (first others tally rest : List (Value × ℕ)) (v : Value) (n : ℕ)
    → IsUpTo table first others tally ((v, n) ∷ rest)
    → length (emits_tallied tally) + n ≤ length (emits_tallied first) + length (emits_tallied others)
emits_left table first others tally rest v n before =
    omega (
      arith,
      before.count,
      length-append (times n (seen v)) (emits_tallied rest),
      length-replicate n (weighted (seen v) None),
    )

pub up_to_more : (table : Declaration) (first others tally now rest : List (Value × ℕ)) (v : Value) (n : ℕ)
    → IsUpTo table first others tally ((v, n) ∷ rest) → Gains table (seen v) n tally now
    → IsUpTo table first others now rest
up_to_more table first others tally now rest v n before gained = record {
  rows =
      rows_decide table (emits_tallied now) (emits_tallied tally ++ times n (seen v)) (emits_tallied rest)
      (gained.rows before.came)
      ∙ ap (rows_of table) (append_assoc (emits_tallied tally) (times n (seen v)) (emits_tallied rest)) ∙ before.rows;
  came = gained.came before.came;
  left = before.left.1;
  few = gained.few before.few;
  count =
      omega (
        arith,
        gained.count,
        before.count,
        length-append (times n (seen v)) (emits_tallied rest),
        length-replicate n (weighted (seen v) None),
      );
}

abbrev declaration_of : Counted → Declaration
declaration_of m = m.table

abbrev count_of : Counted → ℕ
count_of m = m.count

-- the rows of members look at no weight
unweighted : (table : Declaration) (front : List Weighted) (value : Datum) (weight : Option ℤ) → IsOfMembers table.kind
    → rows_of table (front ++ weighted value None ∷ []) ≡ rows_of table (front ++ weighted value weight ∷ [])
unweighted table front value weight kind =
    by_values table (front ++ weighted value None ∷ []) (front ++ weighted value weight ∷ []) kind
    (values_of_both front (weighted value None ∷ []) ∙ sym (values_of_both front (weighted value weight ∷ [])))
  where
    by_values : (table : Declaration) (vs ws : List Weighted) → IsOfMembers table.kind → values_of vs ≡ values_of ws
        → rows_of table vs ≡ rows_of table ws
    by_values table vs ws (inl is) same =
        subst (λ k. rows_by k table.limit vs ≡ rows_by k table.limit ws) (sym is)
        (ap (λ l. set_rows table.limit (distinct compare l)) same)
    by_values table vs ws (inr is) same =
        subst (λ k. rows_by k table.limit vs ≡ rows_by k table.limit ws) (sym is)
        (ap (λ l. map value_row (sorted compare l)) same)

-- what the type's models see after an emit, and after a merge: mine is the old one, and yours the other
pub members_gained : (mine old : Counted) → mine ≡ old → IsOfMembers mine.table.kind
    → (new : List (Datum × ℕ)) (room : ℕ) (value : Datum) (weight : Option ℤ)
    → rows_of mine.table (emits_of new) ≡ rows_of mine.table (emits_of mine.kept ++ times 1 value)
    → Gained declaration_of count_of rows_of_members old
    (record { table = mine.table; count = mine.count + 1; kept = new; room = room })
    (weighted value weight)
members_gained mine old is kind new room value weight kept =
    subst
    (λ m. Gained declaration_of count_of rows_of_members m
    (record { table = mine.table; count = mine.count + 1; kept = new; room = room })
    (weighted value weight)) is
    (record {
      same_table = refl;
      one_more = refl;
      appended = λ emits stands. record {
        rows =
            kept ∙ unweighted mine.table (emits_of mine.kept) value weight kind
            ∙ rows_decide mine.table (emits_of mine.kept) emits (weighted value weight ∷ []) stands.rows;
        counted = ap (λ n. n + 1) stands.counted ∙ sym (length-append emits (weighted value weight ∷ []));
      };
    })

pub members_joined : (mine yours old other : Counted) → mine ≡ old → yours ≡ other
    → (new : List (Datum × ℕ)) (room : ℕ) → other.table ≡ old.table
    → rows_of mine.table (emits_of new) ≡ rows_of mine.table (emits_of mine.kept ++ emits_of yours.kept)
    → Joins declaration_of count_of rows_of_members old other
    (record { table = mine.table; count = mine.count + yours.count; kept = new; room = room })
members_joined mine yours old other is your_is new room same kept =
    subst (λ m. Joins declaration_of count_of rows_of_members m other joined) is
    (subst (λ o. Joins declaration_of count_of rows_of_members mine o joined) your_is (record {
      same_table = refl;
      both_counts = refl;
      joined = λ front after stands beside. record {
        rows =
            kept
            ∙ rows_join mine.table (emits_of mine.kept) front (emits_of yours.kept) after stands.rows
            (subst (λ t. rows_of t (emits_of yours.kept) ≡ rows_of t after) one_table beside.rows);
        counted = (λ i. stands.counted i + beside.counted i) ∙ sym (length-append front after);
      };
    }))
  where
    joined : Counted
    joined = record { table = mine.table; count = mine.count + yours.count; kept = new; room = room }

    one_table : yours.table ≡ mine.table
    one_table = ap declaration_of your_is ∙ same ∙ sym (ap declaration_of is)
