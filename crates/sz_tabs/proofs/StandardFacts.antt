-- Worked examples of the rows of tables, each checked by computing both sides.
use Rattle.std.specs.Prelude.{◌≡◌, ℕ, ℤ, pos, negsuc, Some, None, List, [], ◌∷◌, map, codes, refl}
use Rattle.sz_types.specs.declared.table.TableKind.TheVariants.{Sum, Maximum, Minimum, Set, Collection}
use Rattle.sz_value.specs.Data.{Datum, int, str, tuple, no_data, datum}
use Rattle.sz_tabs.specs.Data.{EmitDatum, Weighted, sums, RowDatum}
use Rattle.sz_tabs.specs.Rows.{brought_to, value_row, weighted_row, overflow_row, rows_by}

-- values without weights, texts, and a row of sums
abbrev plain : List Datum → List Weighted
plain values = map (λ value. record { value = value; weight = None }) values

abbrev text : List ℕ → Datum
text letters = str letters

abbrev sum_row : List ℤ → RowDatum
sum_row numbers = record { shown = sums numbers; weight = None }

abbrev ranked : Datum → ℤ → Weighted
ranked value weight = record { value = value; weight = Some weight }

-- 3 and -1: their sum, that of their squares, and no row where nothing was emitted
total : rows_by Sum 0 (plain (int (pos 3) ∷ int (negsuc 0) ∷ [])) ≡ sum_row (pos 2 ∷ []) ∷ []
total = refl

squares : rows_by Sum 0 (plain (int (pos 9) ∷ int (pos 1) ∷ [])) ≡ sum_row (pos 10 ∷ []) ∷ []
squares = refl

nothing : rows_by Sum 0 [] ≡ []
nothing = refl

-- twice the greatest number of 64 bits
wide : rows_by Sum 0 (plain (int (pos 9223372036854775807) ∷ int (pos 9223372036854775807) ∷ []))
    ≡ sum_row (pos 18446744073709551614 ∷ []) ∷ []
wide = refl

-- a sum of tuples goes by component
by_component : rows_by Sum 0 (plain
    (tuple (datum (int (pos 1)) (datum (int (pos 5)) no_data))
    ∷ tuple (datum (int (pos 2)) (datum (int (negsuc 6)) no_data)) ∷ []))
    ≡ sum_row (pos 3 ∷ negsuc 1 ∷ []) ∷ []
by_component = refl

-- the two best of "b", "a" and "a" of one weight: repeats count, and the lesser value comes first
best : rows_by Maximum 2
    (ranked (text (codes "b")) (pos 5) ∷ ranked (text (codes "a")) (pos 5) ∷ ranked (text (codes "a")) (pos 5) ∷ [])
    ≡ weighted_row (ranked (text (codes "a")) (pos 5)) ∷ weighted_row (ranked (text (codes "a")) (pos 5)) ∷ []
best = refl

-- by weight, the greatest first, and the least first
slow : rows_by Maximum 3 (ranked (text (codes "fr")) (pos 305) ∷ ranked (text (codes "de")) (pos 819)
    ∷ ranked (text (codes "us")) (pos 472) ∷ []) ≡ map weighted_row (ranked (text (codes "de")) (pos 819)
    ∷ ranked (text (codes "us")) (pos 472) ∷ ranked (text (codes "fr")) (pos 305) ∷ [])
slow = refl

fast : rows_by Minimum 2 (ranked (text (codes "fr")) (pos 305) ∷ ranked (text (codes "de")) (pos 819)
    ∷ ranked (text (codes "us")) (negsuc 0) ∷ [])
    ≡ map weighted_row (ranked (text (codes "us")) (negsuc 0) ∷ ranked (text (codes "fr")) (pos 305) ∷ [])
fast = refl

-- "a", "b" and "a" in a set that can hold two, and with "c" as well
two : rows_by Set 2 (plain (text (codes "a") ∷ text (codes "b") ∷ text (codes "a") ∷ []))
    ≡ map value_row (text (codes "a") ∷ text (codes "b") ∷ [])
two = refl

full : rows_by Set 2 (plain (text (codes "a") ∷ text (codes "b") ∷ text (codes "a") ∷ text (codes "c") ∷ []))
    ≡ overflow_row ∷ []
full = refl

hours : rows_by Set 24 (plain (int (pos 17) ∷ int (pos 3) ∷ int (pos 17) ∷ []))
    ≡ map value_row (int (pos 3) ∷ int (pos 17) ∷ [])
hours = refl

-- all values, in order
all : rows_by Collection 0 (plain (text (codes "c") ∷ text (codes "a") ∷ text (codes "a") ∷ []))
    ≡ map value_row (text (codes "a") ∷ text (codes "a") ∷ text (codes "c") ∷ [])
all = refl

negative : rows_by Collection 0 (plain (int (negsuc 0) ∷ int (negsuc 2) ∷ []))
    ≡ map value_row (int (negsuc 2) ∷ int (negsuc 0) ∷ [])
negative = refl

-- a hit from "us" in hour 1, one from nowhere in hour 0, and one more from "us": what goes to "us" and 1
abbrev hit : List ℕ → ℕ → EmitDatum
hit country hour = record {
  table = 0;
  indexes = text country ∷ int (pos hour) ∷ [];
  value = int (pos 1);
  weight = None;
}

hits : rows_by Sum 0 (brought_to 0 (text (codes "us") ∷ int (pos 1) ∷ [])
    (hit (codes "us") 1 ∷ hit (codes "") 0 ∷ hit (codes "us") 1 ∷ []))
    ≡ sum_row (pos 2 ∷ []) ∷ []
hits = refl
