-- What the calls that append need and give.
use Rattle.std.proofs.Common.{◌≡◌, ◌∙◌, ℕ, zero, suc, ◌+◌, ◌<◌, ◌≤◌, get_or, take, Some, Result, Ok, Err, List, [], ◌∷◌, ◌++◌, length, map, All, sym, ap, subst, append_assoc, arith}
use Rattle.std.specs.Prelude.{OnOk}
use Rattle.std.specs.List.{slice_get, AllByRecursion}
use Rattle.std.proofs.lemmas.List.{take_more, map-append}
use Rattle.std.proofs.lemmas.List.Elements.{All-from_recursion}
use Rattle.std.proofs.lemmas.Option.{none-some, same_Some, slice_get_within, get_or_from_slice_get}
use Rattle.sz_value.specs.Code.{datum_nodes, parts_nodes, pairs_nodes}
use Rattle.sz_value.specs.Data.{Datum, array, tuple, mapping, data_of, parts_of, entries_of, pairs_of}
use Rattle.sz_value.specs.Order.{KeysRise}
use Rattle.sz_value.specs.Seen.{seen}
use Rattle.sz_value.specs.declared.value.Value.{Value}
use Rattle.sz_flat.specs.Spelling.{length_bytes, spelling, spelled_parts, spelled_pairs, IsShort, HasShortLengths, HaveShortLengths, PairsHaveShortLengths, HaveSpellings, PairsHaveSpellings}
use Rattle.sz_flat.specs.Reading.{values, pair, all_of, Adds}
use Rattle.sz_flat.proofs.FrontLemmas.{parts_again, pairs_again, parts_spelled, pairs_spelled}

short_one_by_one : (vs : List Value) → HaveShortLengths (data_of (map seen vs))
    → AllByRecursion (λ v. HasShortLengths (seen v)) vs
short_one_by_one [] all = tt
short_one_by_one (v ∷ vs) all = (all.0, short_one_by_one vs all.1)

-- each part of a list is short
pub short_parts : (vs : List Value) (ds : List Datum) → map seen vs ≡ ds → HaveShortLengths (data_of ds)
    → All (λ v. HasShortLengths (seen v)) vs
short_parts vs ds are all =
    All-from_recursion (λ v. HasShortLengths (seen v)) vs
    (short_one_by_one vs (subst (λ l. HaveShortLengths (data_of l)) (sym are) all))

-- what was appended after the byte of a kind
module _ (old now new : List ℕ) (kind : ℕ) where
  pub list_added : (count : ℕ) (ds : List Datum) → now ≡ old ++ kind ∷ length_bytes count
      → Adds (all_of values count) now new ds → new ≡ old ++ (kind ∷ length_bytes count ++ spelled_parts (data_of ds))
  list_added count ds counted h =
      h.is ∙ (λ i. counted i ++ parts_spelled ds i)
      ∙ append_assoc old (kind ∷ length_bytes count) (spelled_parts (data_of ds))

  pub map_added : (count : ℕ) (ps : List (Datum × Datum)) → now ≡ old ++ kind ∷ length_bytes count
      → Adds (all_of pair count) now new ps
      → new ≡ old ++ (kind ∷ length_bytes count ++ spelled_pairs (entries_of ps))
  map_added count ps counted h =
      h.is ∙ (λ i. counted i ++ pairs_spelled ps i)
      ∙ append_assoc old (kind ∷ length_bytes count) (spelled_pairs (entries_of ps))

-- what two facts of an answer make
pub on_both : {T E A B C : Type 0} (r : Result T E) → (A → B → C) → OnOk r A → OnOk r B → OnOk r C
on_both (Ok x) f a b = f a b
on_both (Err e) f a b = tt

pub on_one : {T E A B : Type 0} (r : Result T E) → (A → B) → OnOk r A → OnOk r B
on_one (Ok x) f a = f a
on_one (Err e) f a = tt

-- a list whose length can be spelled
pub few_parts : (ds : List Datum) → IsShort (length (parts_of (data_of ds))) → IsShort (length ds)
few_parts ds few = subst IsShort (ap length (parts_again ds)) few

pub few_pairs : (ps : List (Datum × Datum)) → IsShort (length (pairs_of (entries_of ps))) → IsShort (length ps)
few_pairs ps few = subst IsShort (ap length (pairs_again ps)) few

module _ (old new : List ℕ) where
  pub array_added : (ds : List Datum) → IsShort (length ds) → HaveSpellings (data_of ds)
      → new ≡ old ++ (6 ∷ length_bytes (length ds) ++ spelled_parts (data_of ds))
      → Adds values old new (array (data_of ds))
  array_added ds few has is =
      let long = sym (ap length (parts_again ds)) in
      record {
        has = (subst IsShort long few, has);
        is = is ∙ (λ i. old ++ (6 ∷ length_bytes (long i) ++ spelled_parts (data_of ds)));
      }

  pub tuple_added : (ds : List Datum) → IsShort (length ds) → HaveSpellings (data_of ds)
      → new ≡ old ++ (7 ∷ length_bytes (length ds) ++ spelled_parts (data_of ds))
      → Adds values old new (tuple (data_of ds))
  tuple_added ds few has is =
      let long = sym (ap length (parts_again ds)) in
      record {
        has = (subst IsShort long few, has);
        is = is ∙ (λ i. old ++ (7 ∷ length_bytes (long i) ++ spelled_parts (data_of ds)));
      }

  pub mapping_added : (ps : List (Datum × Datum)) → IsShort (length ps) → KeysRise ps
      → PairsHaveSpellings (entries_of ps)
      → new ≡ old ++ (8 ∷ length_bytes (length ps) ++ spelled_pairs (entries_of ps))
      → Adds values old new (mapping (entries_of ps))
  mapping_added ps few rise has is =
      let long = sym (ap length (pairs_again ps)) in
      record {
        has = (subst IsShort long few, subst KeysRise (sym (pairs_again ps)) rise, has);
        is = is ∙ (λ i. old ++ (8 ∷ length_bytes (long i) ++ spelled_pairs (entries_of ps)));
      }

-- a key and then its value
pub pair_added : (old now new : List ℕ) (k v : Datum) → Adds values old now k → Adds values now new v
    → Adds pair old new (k, v)
pair_added old now new k v h g = record {
  has = (h.has, g.has);
  is = g.is ∙ ap (λ l. l ++ spelling v) h.is ∙ append_assoc old (spelling k) (spelling v);
}

-- no part has more nodes than all
pub part_nodes : (vs : List Value) (i : ℕ) (v : Value) → i < length vs → v ≡ get_or vs i v
    → datum_nodes (seen v) ≤ parts_nodes (map seen vs)
part_nodes [] i v there is = absurd (omega (arith, there))
part_nodes (w ∷ vs) zero v there is = omega (arith, ap (λ u. datum_nodes (seen u)) is)
part_nodes (w ∷ vs) (suc i) v there is = omega (arith, part_nodes vs i v (omega (arith, there)) is)

pub taken_more : {X Y : Type 0} (f : X → Y) (xs : List X) (i : ℕ) (x : X) → i < length xs → x ≡ get_or xs i x
    → map f (take (i + 1) xs) ≡ map f (take i xs) ++ f x ∷ []
taken_more f xs i x there is =
    ap (map f) (take_more xs i x there ∙ ap (λ y. take i xs ++ y ∷ []) (sym is)) ∙ map-append f (take i xs) (x ∷ [])

-- a pair of a list: its nodes, what is short of it, and the front up to it
module _ (p : Datum × Datum) where
  pub pair_nodes : (ps : List (Datum × Datum)) (i : ℕ) → slice_get ps i ≡ Some p
      → datum_nodes p.0 + datum_nodes p.1 ≤ pairs_nodes ps
  pair_nodes [] i is = absurd (none-some p is)
  pair_nodes (q ∷ ps) zero is =
      let one = same_Some q p is in
      omega (arith, ap (λ r. datum_nodes r.0) one, ap (λ r. datum_nodes r.1) one)
  pair_nodes (q ∷ ps) (suc i) is = omega (arith, pair_nodes ps i is)

  pub short_pair : (ps : List (Datum × Datum)) (i : ℕ) → slice_get ps i ≡ Some p → PairsHaveShortLengths (entries_of ps)
      → HasShortLengths p.0 × HasShortLengths p.1
  short_pair [] i is all = absurd (none-some p is)
  short_pair (q ∷ ps) zero is all =
      subst (λ r. HasShortLengths r.0 × HasShortLengths r.1) (same_Some q p is) (all.0, all.1)
  short_pair (q ∷ ps) (suc i) is all = short_pair ps i is all.2

  pub pair_taken : (ps : List (Datum × Datum)) (i : ℕ) → slice_get ps i ≡ Some p → take (i + 1) ps ≡ take i ps ++ p ∷ []
  pair_taken ps i is = take_more ps i p (slice_get_within ps i p is)
      ∙ ap (λ q. take i ps ++ q ∷ []) (get_or_from_slice_get ps i p p is)
