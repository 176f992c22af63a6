-- What is made of parts compares and weighs by its parts.
use Rattle.std.proofs.Common.{◌≡◌, ◌+◌, List, [], ◌∷◌, refl, ap, ◌∙◌, arith}
use Rattle.std.specs.List.{sum_by}
use Rattle.std.specs.Cmp.Lexicographic.{slice_cmp}
use Rattle.std.specs.Ordering.{ordering_then}
use Rattle.std.specs.declared.cmp.Ordering.{Ordering}
use Rattle.std.specs.declared.cmp.Ordering.TheVariants.{Less, Equal, Greater}
use Rattle.std.proofs.lemmas.List.Sums.{sum_by-cons}
use Rattle.sz_value.specs.Data.{Datum, data_of, entries_of}
use Rattle.sz_value.specs.Order.{compare, compare_data, compare_entries, compare_pairs}
use Rattle.sz_value.specs.Weight.{full_weight, data_weight, entries_weight}

-- parts compare as lists do
pub compare_data-slice_cmp : (ds es : List Datum) → compare_data (data_of ds) (data_of es) ≡ slice_cmp compare ds es
compare_data-slice_cmp [] [] = refl
compare_data-slice_cmp [] (e ∷ es) = refl
compare_data-slice_cmp (d ∷ ds) [] = refl
compare_data-slice_cmp (d ∷ ds) (e ∷ es) = ap (ordering_then (compare d e)) (compare_data-slice_cmp ds es)

-- one comparison after another
pub then_assoc : (a b c : Ordering) → ordering_then a (ordering_then b c) ≡ ordering_then (ordering_then a b) c
then_assoc Less b c = refl
then_assoc Equal b c = refl
then_assoc Greater b c = refl

-- pairs compare as lists of pairs do
pub compare_entries-slice_cmp : (ps qs : List (Datum × Datum))
    → compare_entries (entries_of ps) (entries_of qs) ≡ slice_cmp compare_pairs ps qs
compare_entries-slice_cmp [] [] = refl
compare_entries-slice_cmp [] (q ∷ qs) = refl
compare_entries-slice_cmp (p ∷ ps) [] = refl
compare_entries-slice_cmp (p ∷ ps) (q ∷ qs) =
    then_assoc (compare p.0 q.0) (compare p.1 q.1) (compare_entries (entries_of ps) (entries_of qs))
    ∙ ap (ordering_then (compare_pairs p q)) (compare_entries-slice_cmp ps qs)

-- parts weigh the sum of their weights
pub data_weight-sum_by : (ds : List Datum) → data_weight (data_of ds) ≡ sum_by full_weight ds
data_weight-sum_by [] = refl
data_weight-sum_by (d ∷ ds) = omega (arith, data_weight-sum_by ds, sum_by-cons full_weight d ds)

-- pairs weigh the sum of the weights of their keys and values
pub entries_weight-sum_by : (ps : List (Datum × Datum))
    → entries_weight (entries_of ps) ≡ sum_by (λ p. full_weight p.0 + full_weight p.1) ps
entries_weight-sum_by [] = refl
entries_weight-sum_by (p ∷ ps) =
    omega (arith, entries_weight-sum_by ps, sum_by-cons (λ q. full_weight q.0 + full_weight q.1) p ps)
