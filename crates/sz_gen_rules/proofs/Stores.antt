-- What a store makes of a value has the value's type.
use Rattle.std.proofs.Common.{◌≡◌, ℕ, zero, suc, pos, negsuc, List, [], ◌∷◌, map, Bool, true, false, ◌&&◌, cond, Option, Some, None, IfSome, refl, sym, subst}
use Rattle.std.specs.Prelude.{slice_get, slice_set}
use Rattle.std.specs.Option.{option_map}
use Rattle.std.specs.BTreeMap.{is_at}
use Rattle.sz_value.specs.Order.{compare}
use Rattle.sz_types.specs.Data.{Shape, FieldShapes, no_fields, with_field, field}
use Rattle.sz_value.specs.Data.{Datum, int, array, tuple, mapping, Data, no_data, datum, Entries, no_entries, entry, data_of, entries_of, parts_of, pairs_of}
use Rattle.sz_value.specs.Maps.{value_at, with_pair}
use Rattle.sz_types.specs.Types.{has_type, all_have, parts_fit, pairs_have}
use Rattle.sz_core.specs.Typing.{field_types}
use Rattle.sz_world_rules.specs.Slots.{Slot, all_defined}
use Rattle.sz_world_rules.specs.Typed.{Fits, AllFit}
use Rattle.sz_world_rules.specs.Stores.{Step, by_index, by_field, to_element, to_part, ways_of, with_part, with_change, replaced, Stored, Holds, Undefined, Outside, unless_outside, store_of, stored}
use Rattle.sz_instr.specs.Covering.{LeadsTo}
use Rattle.sz_builtin.proofs.TypeLemmas.{both, both_in}
use Rattle.sz_gen_rules.proofs.Types.{PairsFit, put_fits}

-- a change that keeps a type
abbrev Keeps : (Slot → Option Datum) → Shape → Type 0
Keeps change t = (x : Slot) → Fits x t → Fits (change x) t

with_part_some : (ds : List Datum) (n : ℕ) (change : Slot → Option Datum) (d : Datum) → slice_get ds n ≡ Some d
    → with_part ds n change ≡ option_map (λ e. slice_set ds n e) (change (Some d))
with_part_some ds n change d h = simp (h)

with_part_none : (ds : List Datum) (n : ℕ) (change : Slot → Option Datum) → slice_get ds n ≡ None
    → with_part ds n change ≡ None
with_part_none ds n change h = simp (h)

-- ---- arrays

part_of : (ds : Data) (n : ℕ) (t : Shape) (d : Datum) → all_have ds t ≡ true → slice_get (parts_of ds) n ≡ Some d
    → has_type d t ≡ true
part_of no_data n t d h is = absurd cc
part_of (datum e ds) zero t d h is = let same : e ≡ d = cc in
    subst (λ c. has_type c t ≡ true) same (both (has_type e t) (all_have ds t) h).0
part_of (datum e ds) (suc n) t d h is = part_of ds n t d (both (has_type e t) (all_have ds t) h).1 is

set_has : (ds : Data) (n : ℕ) (t : Shape) (d : Datum) → all_have ds t ≡ true → has_type d t ≡ true
    → all_have (data_of (slice_set (parts_of ds) n d)) t ≡ true
set_has no_data n t d h k = refl
set_has (datum e ds) zero t d h k = both_in k (back ds t (both (has_type e t) (all_have ds t) h).1)
  where
    back : (ds : Data) (t : Shape) → all_have ds t ≡ true → all_have (data_of (parts_of ds)) t ≡ true
    back no_data t h = refl
    back (datum e ds) t h = let p = both (has_type e t) (all_have ds t) h in both_in p.0 (back ds t p.1)
set_has (datum e ds) (suc n) t d h k = let p = both (has_type e t) (all_have ds t) h in
    both_in p.0 (set_has ds n t d p.1 k)

array_changed : (ds : Data) (n : ℕ) (t : Shape) (change : Slot → Option Datum) → all_have ds t ≡ true → Keeps change t
    → Fits (option_map (λ es. array (data_of es)) (with_part (parts_of ds) n change)) (Shape.array t)
array_changed ds n t change h keeps = at (slice_get (parts_of ds) n) refl
  where
    put : (r : Option Datum) → Fits r t → Fits
        (option_map (λ es. array (data_of es)) (option_map (λ e. slice_set (parts_of ds) n e) r)) (Shape.array t)
    put None k = tt
    put (Some e) k = set_has ds n t e h k

    at : (m : Option Datum) → slice_get (parts_of ds) n ≡ m
        → Fits (option_map (λ es. array (data_of es)) (with_part (parts_of ds) n change)) (Shape.array t)
    at None is = subst (λ o. Fits (option_map (λ es. array (data_of es)) o) (Shape.array t))
        (sym (with_part_none (parts_of ds) n change is)) tt
    at (Some d) is =
        subst (λ o. Fits (option_map (λ es. array (data_of es)) o) (Shape.array t))
        (sym (with_part_some (parts_of ds) n change d is))
        (put (change (Some d)) (keeps (Some d) (part_of ds n t d h is)))

-- ---- tuples and messages

field_of : (ds : Data) (fs : FieldShapes) (n : ℕ) (t : Shape) (d : Datum) → parts_fit ds fs ≡ true
    → slice_get (field_types fs) n ≡ Some t → slice_get (parts_of ds) n ≡ Some d → has_type d t ≡ true
field_of no_data fs n t d h r is = absurd cc
field_of (datum e ds) no_fields n t d h r is = absurd cc
field_of (datum e ds) (with_field (field name u number code) fs) zero t d h r is =
    let same : e ≡ d = cc in let same1 : u ≡ t = cc in
    subst (λ c. has_type c t ≡ true) same
    (subst (λ v. has_type e v ≡ true) same1 (both (has_type e u) (parts_fit ds fs) h).0)
field_of (datum e ds) (with_field (field name u number code) fs) (suc n) t d h r is =
    field_of ds fs n t d (both (has_type e u) (parts_fit ds fs) h).1 r is

set_fits : (ds : Data) (fs : FieldShapes) (n : ℕ) (t : Shape) (d : Datum) → parts_fit ds fs ≡ true
    → slice_get (field_types fs) n ≡ Some t
    → has_type d t ≡ true → parts_fit (data_of (slice_set (parts_of ds) n d)) fs ≡ true
set_fits no_data fs n t d h r k = h
set_fits (datum e ds) no_fields n t d h r k = absurd cc
set_fits (datum e ds) (with_field (field name u number code) fs) zero t d h r k =
    let same : t ≡ u = cc in
    both_in (subst (λ v. has_type d v ≡ true) same k) (back ds fs (both (has_type e u) (parts_fit ds fs) h).1)
  where
    back : (ds : Data) (fs : FieldShapes) → parts_fit ds fs ≡ true → parts_fit (data_of (parts_of ds)) fs ≡ true
    back no_data fs h = h
    back (datum e ds) no_fields h = absurd cc
    back (datum e ds) (with_field (field name u number code) fs) h =
        let p = both (has_type e u) (parts_fit ds fs) h in both_in p.0 (back ds fs p.1)
set_fits (datum e ds) (with_field (field name u number code) fs) (suc n) t d h r k =
    let p = both (has_type e u) (parts_fit ds fs) h in both_in p.0 (set_fits ds fs n t d p.1 r k)

tuple_changed : (ds : Data) (fs : FieldShapes) (n : ℕ) (t : Shape) (change : Slot → Option Datum)
    → parts_fit ds fs ≡ true → slice_get (field_types fs) n ≡ Some t → Keeps change t
    → Fits (option_map (λ es. tuple (data_of es)) (with_part (parts_of ds) n change)) (Shape.tuple fs)
tuple_changed ds fs n t change h r keeps = at (slice_get (parts_of ds) n) refl
  where
    put : (o : Option Datum) → Fits o t → Fits
        (option_map (λ es. tuple (data_of es)) (option_map (λ e. slice_set (parts_of ds) n e) o)) (Shape.tuple fs)
    put None k = tt
    put (Some e) k = set_fits ds fs n t e h r k

    at : (m : Option Datum) → slice_get (parts_of ds) n ≡ m
        → Fits (option_map (λ es. tuple (data_of es)) (with_part (parts_of ds) n change)) (Shape.tuple fs)
    at None is = subst (λ o. Fits (option_map (λ es. tuple (data_of es)) o) (Shape.tuple fs))
        (sym (with_part_none (parts_of ds) n change is)) tt
    at (Some d) is =
        subst (λ o. Fits (option_map (λ es. tuple (data_of es)) o) (Shape.tuple fs))
        (sym (with_part_some (parts_of ds) n change d is))
        (put (change (Some d)) (keeps (Some d) (field_of ds fs n t d h r is)))

-- a value of a tuple type is one of the message type of its fields
as_message : (o : Option (List Datum)) (fs : FieldShapes)
    → Fits (option_map (λ es. tuple (data_of es)) o) (Shape.tuple fs)
    → Fits (option_map (λ es. tuple (data_of es)) o) (Shape.proto fs)
as_message None fs h = h
as_message (Some es) fs h = h

-- ---- maps

value_has : (key : Datum) (es : Entries) (k v : Shape) → pairs_have es k v ≡ true → Fits (value_at key (pairs_of es)) v
value_has key no_entries k v h = tt
value_has key (entry l w es) k v h =
    let p = both (has_type l k && has_type w v) (pairs_have es k v) h in
    at (is_at (compare key) l) (both (has_type l k) (has_type w v) p.0).1 (value_has key es k v p.1)
  where
    at : (here : Bool) → has_type w v ≡ true → Fits (value_at key (pairs_of es)) v
        → Fits (cond here (Some w) (value_at key (pairs_of es))) v
    at true h k = h
    at false h k = k

entries_back : (es : Entries) (k v : Shape) → pairs_have es k v ≡ true → PairsFit (pairs_of es) k v
entries_back no_entries k v h = refl
entries_back (entry l w es) k v h =
    let p = both (has_type l k && has_type w v) (pairs_have es k v) h in both_in p.0 (entries_back es k v p.1)

map_changed : (key : Datum) (es : Entries) (k v : Shape) (o : Option Datum) → has_type key k ≡ true
    → pairs_have es k v ≡ true → Fits o v
    → Fits (option_map (λ d. mapping (entries_of (with_pair key d (pairs_of es)))) o) (Shape.mapping k v)
map_changed key es k v None hk h fits = tt
map_changed key es k v (Some d) hk h fits = put_fits (pairs_of es) key d k v hk fits (entries_back es k v h)

-- ---- one step

array_step : (d o : Datum) (t : Shape) (change : Slot → Option Datum) → has_type d Shape.int ≡ true
    → has_type o (Shape.array t) ≡ true → Keeps change t → Fits (with_change (to_element d) o change) (Shape.array t)
array_step (int (pos n)) (array ds) t change hd ho keeps = array_changed ds n t change ho keeps
array_step (int (negsuc n)) (array ds) t change hd ho keeps = tt
array_step d o t change hd ho keeps = absurd cc

map_way : (key : Datum) (es : Entries) (change : Slot → Option Datum)
    → with_change (to_element key) (mapping es) change
    ≡ option_map (λ d. mapping (entries_of (with_pair key d (pairs_of es))))
    (change (value_at key (pairs_of es)))
map_way (int (pos n)) es change = refl
map_way key es change = refl

map_step : (d o : Datum) (k v : Shape) (change : Slot → Option Datum) → has_type d k ≡ true
    → has_type o (Shape.mapping k v) ≡ true → Keeps change v
    → Fits (with_change (to_element d) o change) (Shape.mapping k v)
map_step d (mapping es) k v change hd ho keeps =
    subst (λ o. Fits o (Shape.mapping k v)) (sym (map_way d es change))
    (map_changed d es k v (change (value_at d (pairs_of es))) hd ho
    (keeps (value_at d (pairs_of es)) (value_has d es k v ho)))
map_step d o k v change hd ho keeps = absurd cc

tuple_step : (o : Datum) (fs : FieldShapes) (n : ℕ) (t : Shape) (change : Slot → Option Datum)
    → has_type o (Shape.tuple fs) ≡ true → slice_get (field_types fs) n ≡ Some t → Keeps change t
    → Fits (with_change (to_part n) o change) (Shape.tuple fs)
tuple_step (tuple ds) fs n t change ho r keeps = tuple_changed ds fs n t change ho r keeps
tuple_step o fs n t change ho r keeps = absurd cc

message_step : (o : Datum) (fs : FieldShapes) (n : ℕ) (t : Shape) (change : Slot → Option Datum)
    → has_type o (Shape.proto fs) ≡ true → slice_get (field_types fs) n ≡ Some t → Keeps change t
    → Fits (with_change (to_part n) o change) (Shape.proto fs)
message_step (tuple ds) fs n t change ho r keeps =
    as_message (with_part (parts_of ds) n change) fs (tuple_changed ds fs n t change ho r keeps)
message_step o fs n t change ho r keeps = absurd cc

-- ---- paths

replaced_fits : (path : List Step) (t u : Shape) (is : List Shape) (ds : List Datum) (new : Datum) (old : Slot)
    → LeadsTo t path is u → AllFit (map (λ d. Some d) ds) is → has_type new u ≡ true → Fits old t
    → Fits (replaced (ways_of path ds) new old) t
replaced_fits [] t u is ds new old lead fit hn ho = subst (λ v. has_type new v ≡ true) lead.1 hn
replaced_fits (by_index ∷ path) (Shape.array t) u (i ∷ is) [] new old lead fit hn ho = absurd fit
replaced_fits (by_index ∷ path) (Shape.mapping k v) u (i ∷ is) [] new old lead fit hn ho = absurd fit
replaced_fits (by_index ∷ path) (Shape.array t) u (i ∷ is) (d ∷ ds) new None lead fit hn ho = tt
replaced_fits (by_index ∷ path) (Shape.array t) u (i ∷ is) (d ∷ ds) new (Some o) lead fit hn ho =
    array_step d o t (replaced (ways_of path ds) new) (subst (λ v. has_type d v ≡ true) lead.0 fit.0) ho
    (λ x h. replaced_fits path t u is ds new x lead.1 fit.1 hn h)
replaced_fits (by_index ∷ path) (Shape.mapping k v) u (i ∷ is) (d ∷ ds) new None lead fit hn ho = tt
replaced_fits (by_index ∷ path) (Shape.mapping k v) u (i ∷ is) (d ∷ ds) new (Some o) lead fit hn ho =
    map_step d o k v (replaced (ways_of path ds) new) (subst (λ v. has_type d v ≡ true) lead.0 fit.0) ho
    (λ x h. replaced_fits path v u is ds new x lead.1 fit.1 hn h)
replaced_fits (by_field n ∷ path) (Shape.tuple fs) u is ds new None lead fit hn ho = tt
replaced_fits (by_field n ∷ path) (Shape.tuple fs) u is ds new (Some o) lead fit hn ho =
    tuple_step o fs n lead.0 (replaced (ways_of path ds) new) ho lead.1
    (λ x h. replaced_fits path lead.0 u is ds new x lead.2 fit hn h)
replaced_fits (by_field n ∷ path) (Shape.proto fs) u is ds new None lead fit hn ho = tt
replaced_fits (by_field n ∷ path) (Shape.proto fs) u is ds new (Some o) lead fit hn ho =
    message_step o fs n lead.0 (replaced (ways_of path ds) new) ho lead.1
    (λ x h. replaced_fits path lead.0 u is ds new x lead.2 fit hn h)
replaced_fits (step ∷ path) t u is ds new old lead fit hn ho = absurd lead

-- what comes of a store has this type
abbrev pub StoreFits : Stored → Shape → Type 0
StoreFits (Holds d) t = has_type d t ≡ true
StoreFits Undefined t = Unit {0}
StoreFits Outside t = Unit {0}

inside_fits : (o : Option Datum) (t : Shape) → Fits o t → StoreFits (unless_outside o) t
inside_fits None t h = tt
inside_fits (Some d) t h = h

defined_fit : (xs : List Slot) (ts : List Shape) → AllFit xs ts
    → IfSome (all_defined xs) (λ ds. AllFit (map (λ d. Some d) ds) ts)
defined_fit [] [] h = tt
defined_fit [] (t ∷ ts) h = absurd h
defined_fit (x ∷ xs) [] h = absurd h
defined_fit (None ∷ xs) (t ∷ ts) h = tt
defined_fit (Some d ∷ xs) (t ∷ ts) h = more (all_defined xs) (defined_fit xs ts h.1)
  where
    more : (o : Option (List Datum)) → IfSome o (λ ds. AllFit (map (λ d. Some d) ds) ts)
        → IfSome (option_map (λ ds. d ∷ ds) o) (λ ds. AllFit (map (λ d. Some d) ds) (t ∷ ts))
    more None k = tt
    more (Some ds) k = (h.0, k)

pub stored_fits : (path : List Step) (t u : Shape) (is : List Shape) (old new : Slot) (indexes : List Slot)
    → LeadsTo t path is u → Fits old t → AllFit indexes is → Fits new u → StoreFits (stored old path indexes new) t
stored_fits path t u is old new indexes lead ho hi hn = at (all_defined indexes) new (defined_fit indexes is hi) hn
  where
    at : (o : Option (List Datum)) (new : Slot) → IfSome o (λ ds. AllFit (map (λ d. Some d) ds) is) → Fits new u
        → StoreFits (store_of old path o new) t
    at None new k h = tt
    at (Some ds) None k h = tt
    at (Some ds) (Some d) k h =
        inside_fits (replaced (ways_of path ds) d old) t (replaced_fits path t u is ds d old lead k h ho)
