-- Laws that tie the definitions to lists and sums.
use Rattle.std.specs.Prelude.{◌≡◌, ◌≢◌, ◌+◌, List, Some}
use Rattle.std.specs.List.{sum_by}
use Rattle.std.specs.Cmp.Lexicographic.{slice_cmp}
use Rattle.sz_value.specs.Data.{Datum, array, tuple, mapping, data_of, entries_of}
use Rattle.sz_value.specs.Order.{compare, compare_pairs}
use Rattle.sz_value.specs.Weight.{full_weight}
use Rattle.sz_value.specs.Maps.{value_at, with_pair}

-- arrays and tuples compare as lists do, by the first parts that differ, and maps as lists of pairs
pub record ComparesByParts : Type 0 where
  pub arrays : (ds es : List Datum) → compare (array (data_of ds)) (array (data_of es)) ≡ slice_cmp compare ds es
  pub tuples : (ds es : List Datum) → compare (tuple (data_of ds)) (tuple (data_of es)) ≡ slice_cmp compare ds es
  pub maps : (ps qs : List (Datum × Datum))
      → compare (mapping (entries_of ps)) (mapping (entries_of qs)) ≡ slice_cmp compare_pairs ps qs

-- what is made of parts weighs 1 more than all of them, and the parts of a map are its keys and its values
pub record WeighsItsParts : Type 0 where
  pub arrays : (ds : List Datum) → full_weight (array (data_of ds)) ≡ 1 + sum_by full_weight ds
  pub tuples : (ds : List Datum) → full_weight (tuple (data_of ds)) ≡ 1 + sum_by full_weight ds
  pub maps : (ps : List (Datum × Datum))
      → full_weight (mapping (entries_of ps)) ≡ 1 + sum_by (λ p. full_weight p.0 + full_weight p.1) ps

-- pairs with the value at the key have it there, keep what they have at each other key, and forget an earlier one
pub record SetsItsKey (key value : Datum) (pairs : List (Datum × Datum)) : Type 0 where
  pub here : value_at key (with_pair key value pairs) ≡ Some value
  pub others : (other : Datum) → other ≢ key → value_at other (with_pair key value pairs) ≡ value_at other pairs
  pub last_stands : (later : Datum) → with_pair key later (with_pair key value pairs) ≡ with_pair key later pairs
