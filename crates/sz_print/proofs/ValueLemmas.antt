-- The text of a value's parts, part by part.
use Rattle.std.proofs.Common.{◌≡◌, ℕ, zero, suc, ◌+◌, ◌<◌, ◌≤◌, get_or, Some, List, [], ◌∷◌, ◌++◌, length, map, refl, ap, arith, false, true≢false}
use Rattle.std.specs.Prelude.{◌==◌, codes}
use Rattle.std.specs.List.{slice_get, flat_map}
use Rattle.std.proofs.lemmas.Option.{none-some, same_Some}
use Rattle.sz_value.specs.Code.{datum_nodes, parts_nodes, pairs_nodes}
use Rattle.sz_value.specs.Data.{Datum, data_of, entries_of}
use Rattle.sz_value.specs.Seen.{seen}
use Rattle.sz_value.specs.declared.value.Value.{Value}
use Rattle.sz_print.specs.Joined.{joined}
use Rattle.sz_print.specs.Text.{value_text, parts_text, further_text, map_text, further_pairs_text, pair_text}

further_is : (vs : List Value)
    → flat_map (λ v. codes ", " ++ value_text (seen v)) vs ≡ further_text (data_of (map seen vs))
further_is [] = refl
further_is (v ∷ vs) = ap (λ l. (codes ", " ++ value_text (seen v)) ++ l) (further_is vs)

-- the joined parts in braces are the text of the parts
pub parts_are : (vs : List Value)
    → 123 ∷ joined (λ v. value_text (seen v)) vs ++ 125 ∷ [] ≡ parts_text (data_of (map seen vs))
parts_are [] = refl
parts_are (v ∷ vs) = ap (λ l. 123 ∷ (value_text (seen v) ++ l) ++ 125 ∷ []) (further_is vs)

further_pairs_are : (ps : List (Datum × Datum))
    → flat_map (λ p. codes ", " ++ pair_text p) ps ≡ further_pairs_text (entries_of ps)
further_pairs_are [] = refl
further_pairs_are (p ∷ ps) = ap (λ l. (codes ", " ++ pair_text p) ++ l) (further_pairs_are ps)

-- the same of pairs, if there is one
pub pairs_are : (ps : List (Datum × Datum)) → (length ps == 0) ≡ false
    → 123 ∷ joined pair_text ps ++ 125 ∷ [] ≡ map_text (entries_of ps)
pairs_are [] some = absurd (true≢false some)
pairs_are (p ∷ ps) some = ap (λ l. 123 ∷ (pair_text p ++ l) ++ 125 ∷ []) (further_pairs_are ps)

-- a part of a list has fewer nodes
pub part_nodes : (vs : List Value) (i : ℕ) (v : Value) → i < length vs → v ≡ get_or vs i v
    → datum_nodes (seen v) ≤ parts_nodes (map seen vs)
part_nodes [] i v within is = absurd (omega (arith, within))
part_nodes (w ∷ vs) zero v within is = omega (arith, ap (λ u. datum_nodes (seen u)) is)
part_nodes (w ∷ vs) (suc i) v within is = omega (arith, part_nodes vs i v (omega (arith, within)) is)

pub pair_nodes : (ps : List (Datum × Datum)) (i : ℕ) (p : Datum × Datum) → slice_get ps i ≡ Some p
    → datum_nodes p.0 + datum_nodes p.1 ≤ pairs_nodes ps
pair_nodes [] i p is = absurd (none-some p is)
pair_nodes (q ∷ ps) zero p is =
    let one = same_Some q p is in
    omega (arith, ap (λ r. datum_nodes r.0) one, ap (λ r. datum_nodes r.1) one)
pair_nodes (q ∷ ps) (suc i) p is = omega (arith, pair_nodes ps i p is)
