-- Stores that change one part.
use Rattle.std.proofs.Common.{◌≡◌, ◌∙◌, ℕ, ◌≤◌, List, [], ◌∷◌, length, set, slice_get, Option, Some, None, refl, sym, ap, pos, negsuc}
use Rattle.std.specs.Option.{option_map}
use Rattle.std.specs.Ordering.{match_ordering}
use Rattle.std.specs.declared.cmp.Ordering.{Ordering}
use Rattle.std.specs.declared.cmp.Ordering.TheVariants.{Less, Equal, Greater}
use Rattle.std.proofs.lemmas.List.{set-set}
use Rattle.std.proofs.lemmas.Option.{slice_get_past}
use Rattle.sz_value.specs.Data.{Datum, truth, int, time, str, bytes, array, mapping, tuple, pairs_of, entries_of}
use Rattle.sz_value.specs.Order.{compare}
use Rattle.sz_value.specs.Total.{compare_itself}
use Rattle.sz_value.specs.Maps.{with_pair, value_at}
use Rattle.sz_world_rules.specs.Slots.{Slot}
use Rattle.sz_world_rules.specs.Stores.{with_part, with_change, to_element}
use Rattle.sz_builtin.proofs.Parts.{pairs_back}

-- the part is there, and so is what it becomes
pub part_there : (ds : List Datum) (n : ℕ) (change : Slot → Option Datum) (d e f : Datum) → slice_get ds n ≡ Some d
    → change (Some d) ≡ Some e → with_part ds n change ≡ Some (set (set ds n f) n e)
part_there ds n change d e f is becomes = rw is (rw becomes (ap (λ l. Some l) (sym (set-set ds n f e))))

-- there is no such part
pub no_part : (ds : List Datum) (n : ℕ) (change : Slot → Option Datum) → length ds ≤ n → with_part ds n change ≡ None
no_part ds n change past = rw (slice_get_past ds n past) refl

-- the part doesn't become anything
pub no_change : (ds : List Datum) (n : ℕ) (change : Slot → Option Datum) (d : Datum) → slice_get ds n ≡ Some d
    → change (Some d) ≡ None → with_part ds n change ≡ None
no_change ds n change d is becomes = rw is (rw becomes refl)

-- a pair in front of others, or at its place among them
abbrev put : Datum → Datum → Datum × Datum → List (Datum × Datum) → List (Datum × Datum) → Ordering
    → List (Datum × Datum)
put k v p ps rest o = match_ordering o ((k, v) ∷ p ∷ ps) ((p.0, v) ∷ ps) (p ∷ rest)

put_by : (k d e : Datum) (p : Datum × Datum) (ps : List (Datum × Datum))
    → with_pair k e (with_pair k d ps) ≡ with_pair k e ps → (o : Ordering) → compare k p.0 ≡ o
    → with_pair k e (put k d p ps (with_pair k d ps) o) ≡ put k e p ps (with_pair k e ps) o
put_by k d e p ps rest Less is = ap (put k e (k, d) (p ∷ ps) (with_pair k e (p ∷ ps))) (compare_itself k k refl)
put_by k d e p ps rest Equal is = ap (put k e (p.0, d) ps (with_pair k e ps)) is
put_by k d e p ps rest Greater is =
    ap (put k e p (with_pair k d ps) (with_pair k e (with_pair k d ps))) is ∙ ap (λ l. p ∷ l) rest

-- of two values that are put at a key the last one stands
pub last_stands : (k d e : Datum) (ps : List (Datum × Datum)) → with_pair k e (with_pair k d ps) ≡ with_pair k e ps
last_stands k d e [] = ap (put k e (k, d) [] ((k, e) ∷ [])) (compare_itself k k refl)
last_stands k d e (p ∷ ps) = put_by k d e p ps (last_stands k d e ps) (compare k p.0) refl

-- what a change to one value makes of a map
pub map_changes : (key : Datum) (ps : List (Datum × Datum)) (change : Slot → Option Datum)
    → with_change (to_element key) (mapping (entries_of ps)) change
    ≡ option_map (λ d. mapping (entries_of (with_pair key d ps))) (change (value_at key ps))
map_changes key ps change = by key
  where
    qs : List (Datum × Datum)
    qs = pairs_of (entries_of ps)

    back : (k : Datum) → option_map (λ d. mapping (entries_of (with_pair k d qs))) (change (value_at k qs))
        ≡ option_map (λ d. mapping (entries_of (with_pair k d ps))) (change (value_at k ps))
    back k = ap (λ l. option_map (λ d. mapping (entries_of (with_pair k d l))) (change (value_at k l))) (pairs_back ps)

    by : (k : Datum) → with_change (to_element k) (mapping (entries_of ps)) change
        ≡ option_map (λ d. mapping (entries_of (with_pair k d ps))) (change (value_at k ps))
    by (int (pos n)) = back (int (pos n))
    by (int (negsuc n)) = back (int (negsuc n))
    by (truth b) = back (truth b)
    by (time t) = back (time t)
    by (str t) = back (str t)
    by (bytes t) = back (bytes t)
    by (array ds) = back (array ds)
    by (mapping es) = back (mapping es)
    by (tuple ds) = back (tuple ds)
