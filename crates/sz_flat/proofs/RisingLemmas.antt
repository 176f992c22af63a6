-- Keys that rise: when one more comes at their end, and that a map made of rising keys has just those.
use Rattle.std.proofs.Common.{◌≡◌, ◌∙◌, ℕ, zero, suc, ◌+◌, ◌-◌, ◌<◌, ◌≤◌, List, [], ◌∷◌, ◌++◌, length, map, get_or, take, true, true≢false, refl, sym, ap, subst, append_assoc, arith}
use Rattle.std.specs.List.{AllByRecursion}
use Rattle.std.specs.List.Sorted.{IsStrictlySortedBy}
use Rattle.std.specs.Map.{keys_of}
use Rattle.std.specs.Ordering.{match_ordering, ordering_reverse, is_lt}
use Rattle.std.specs.declared.cmp.Ordering.{Ordering}
use Rattle.std.specs.declared.cmp.Ordering.TheVariants.{Less, Equal, Greater}
use Rattle.std.proofs.lemmas.List.{append-nil, take_more, map-append}
use Rattle.sz_value.specs.Data.{Datum}
use Rattle.sz_value.specs.Order.{compare, KeysRise}
use Rattle.sz_value.specs.Total.{compare_total}
use Rattle.sz_value.specs.Maps.{with_pair, with_pairs}
use Rattle.sz_value.specs.Seen.{seen, seen_pair}
use Rattle.sz_value.specs.declared.value.Pair.{Pair}

abbrev Pairs : Type 0
Pairs = List (Datum × Datum)

less_than_last : (acc : Pairs) (p : Datum × Datum) (ps : Pairs) → KeysRise (acc ++ p ∷ ps)
    → AllByRecursion (λ k. compare k p.0 ≡ Less) (keys_of acc)
unfolding IsStrictlySortedBy
less_than_last [] p ps rise = tt
less_than_last (a ∷ acc) p ps rise = (first acc rise.0, less_than_last acc p ps rise.1)
  where
    first : (bs : Pairs) → AllByRecursion (λ k. compare a.0 k ≡ Less) (keys_of (bs ++ p ∷ ps)) → compare a.0 p.0 ≡ Less
    first [] all = all.0
    first (b ∷ bs) all = first bs all.1

-- a pair whose key is above all goes after them
put_last : (acc : Pairs) (p : Datum × Datum) → AllByRecursion (λ k. compare k p.0 ≡ Less) (keys_of acc)
    → with_pair p.0 p.1 acc ≡ acc ++ p ∷ []
put_last [] p all = refl
put_last (a ∷ acc) p all =
    let above : compare p.0 a.0 ≡ Greater = compare_total.antisymm p.0 a.0 ∙ ap ordering_reverse all.0 in
    ap (λ o. match_ordering o (p ∷ a ∷ acc) ((a.0, p.1) ∷ acc) (a ∷ with_pair p.0 p.1 acc)) above
    ∙ ap (λ l. a ∷ l) (put_last acc p all.1)

put_all : (ps acc : Pairs) → KeysRise (acc ++ ps) → with_pairs acc ps ≡ acc ++ ps
put_all [] acc rise = sym (append-nil acc)
put_all (p ∷ ps) acc rise =
    let one = put_last acc p (less_than_last acc p ps rise) in
    ap (λ l. with_pairs l ps) one ∙ put_all ps (acc ++ p ∷ [])
    (subst KeysRise (sym (append_assoc acc (p ∷ []) ps)) rise) ∙ append_assoc acc (p ∷ []) ps

-- pairs whose keys rise are just those of the map that is made of them
pub made_of_rising : (ps : Pairs) → KeysRise ps → with_pairs [] ps ≡ ps
made_of_rising ps rise = put_all ps [] rise

-- a key that is above the last is above all
rise_more : (acc : Pairs) (p q : Datum × Datum) → KeysRise (acc ++ p ∷ []) → compare p.0 q.0 ≡ Less
    → KeysRise (acc ++ p ∷ q ∷ [])
unfolding IsStrictlySortedBy
rise_more [] p q rise less = ((less, tt), (tt, tt))
rise_more (a ∷ acc) p q rise less = (all_more acc rise.0, rise_more acc p q rise.1 less)
  where
    all_more : (bs : Pairs) → AllByRecursion (λ k. compare a.0 k ≡ Less) (keys_of (bs ++ p ∷ []))
        → AllByRecursion (λ k. compare a.0 k ≡ Less) (keys_of (bs ++ p ∷ q ∷ []))
    all_more [] all = (all.0, (compare_total.trans a.0 p.0 q.0 all.0 less, tt))
    all_more (b ∷ bs) all = (all.0, all_more bs all.1)

taken : (ps : List Pair) (i : ℕ) (p : Pair) → i < length ps → p ≡ get_or ps i p
    → map seen_pair (take (i + 1) ps) ≡ map seen_pair (take i ps) ++ seen_pair p ∷ []
taken ps i p there is =
    ap (map seen_pair) (take_more ps i p there ∙ ap (λ q. take i ps ++ q ∷ []) (sym is))
    ∙ map-append seen_pair (take i ps) (p ∷ [])

-- the first key rises by itself
pub rise_one : (ps : List Pair) → KeysRise (map seen_pair (take 1 ps))
unfolding IsStrictlySortedBy
rise_one [] = tt
rise_one (p ∷ ps) = (tt, tt)

-- one key more
pub rise_next : (ps : List Pair) (i : ℕ) (p q : Pair) → 1 ≤ i → i < length ps → p ≡ get_or ps (i - 1) p
    → q ≡ get_or ps i q → KeysRise (map seen_pair (take i ps))
    → compare (seen p.key) (seen q.key) ≡ Less → KeysRise (map seen_pair (take (i + 1) ps))
rise_next ps zero p q some there first second rise less = absurd (omega (arith, some))
rise_next ps (suc j) p q some there first second rise less =
    let turned : suc j ≡ j + 1 = omega arith in
    let back : suc j - 1 ≡ j = omega arith in
    let before : map seen_pair (take (suc j) ps) ≡ map seen_pair (take j ps) ++ seen_pair p ∷ [] =
    ap (λ n. map seen_pair (take n ps)) turned
    ∙ taken ps j p (omega (arith, there)) (subst (λ k. p ≡ get_or ps k p) back first) in
    let more = rise_more (map seen_pair (take j ps)) (seen_pair p) (seen_pair q) (subst KeysRise before rise) less in
    let after : map seen_pair (take (suc j + 1) ps) ≡ map seen_pair (take j ps) ++ seen_pair p ∷ seen_pair q ∷ [] =
    taken ps (suc j) q there second ∙ ap (λ l. l ++ seen_pair q ∷ []) before
    ∙ append_assoc (map seen_pair (take j ps)) (seen_pair p ∷ []) (seen_pair q ∷ []) in
    subst KeysRise (sym after) more

-- of rising keys each is less than the next
less_there : (ps : List Pair) (j : ℕ) (p q : Pair) → suc j < length ps → p ≡ get_or ps j p → q ≡ get_or ps (suc j) q
    → KeysRise (map seen_pair ps) → compare (seen p.key) (seen q.key) ≡ Less
unfolding IsStrictlySortedBy
less_there [] j p q there first second rise = absurd (omega (arith, there))
less_there (x ∷ []) j p q there first second rise = absurd (omega (arith, there))
less_there (x ∷ y ∷ ps) zero p q there first second rise =
    (λ i. compare (seen (first i).key) (seen (second i).key)) ∙ rise.0.0
less_there (x ∷ y ∷ ps) (suc j) p q there first second rise =
    less_there (y ∷ ps) j p q (omega (arith, there)) first second rise.1

pub less_at : (ps : List Pair) (i : ℕ) (p q : Pair) → 1 ≤ i → i < length ps → p ≡ get_or ps (i - 1) p
    → q ≡ get_or ps i q → KeysRise (map seen_pair ps) → compare (seen p.key) (seen q.key) ≡ Less
less_at ps zero p q some there first second rise = absurd (omega (arith, some))
less_at ps (suc j) p q some there first second rise =
    let back : suc j - 1 ≡ j = omega arith in
    less_there ps j p q there (subst (λ k. p ≡ get_or ps k p) back first) second rise

-- what a test for less tells
pub is_less : (o : Ordering) → is_lt o ≡ true → o ≡ Less
is_less Less is = refl
is_less Equal is = absurd (true≢false (sym is))
is_less Greater is = absurd (true≢false (sym is))

-- the keys of the same pairs compare alike
pub compared : (p r q s : Pair) → p ≡ r → q ≡ s → compare (seen p.key) (seen q.key) ≡ compare (seen r.key) (seen s.key)
compared p r q s one other = λ i. compare (seen (one i).key) (seen (other i).key)
