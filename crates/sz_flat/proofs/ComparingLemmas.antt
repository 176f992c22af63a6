-- What is found of spellings that are walked at once, from what is found of their parts.
use Rattle.std.proofs.Common.{◌≡◌, ◌∙◌, ◌≢◌, ℕ, ◌*◌, ◌+◌, ◌-◌, ◌<◌, ◌≤◌, ◌==◌, Result, Ok, Err, List, [], ◌∷◌, ◌++◌, length}
use Rattle.std.proofs.Common.{length-append, true, true≢false, refl, sym, ap, subst, append_assoc, arith}
use Rattle.std.specs.Borrow.{Bor}
use Rattle.std.specs.Cmp.{nat_cmp_is}
use Rattle.std.specs.Cmp.Lexicographic.{slice_cmp}
use Rattle.std.specs.Ordering.{nat_cmp, bool_cmp, ordering_then, is_eq, Ordering-set}
use Rattle.std.specs.declared.cmp.Ordering.{Ordering}
use Rattle.std.specs.declared.cmp.Ordering.TheVariants.{Less, Equal, Greater}
use Rattle.std.proofs.Math.Logic.{∥∥₁_elim}
use Rattle.std.proofs.lemmas.Bool.{eqb-true}
use Rattle.sz_value.specs.Data.{Datum, truth}
use Rattle.sz_value.specs.Data.{Data, no_data, datum, data_of, parts_of, Entries, no_entries, entry, pairs_of}
use Rattle.sz_value.specs.Order.{compare, compare_data, compare_entries}
use Rattle.sz_flat.specs.Spelling.{length_bytes, spelling, spelled_parts, spelled_pairs, HaveSpellings, PairsHaveSpellings}
use Rattle.sz_flat.specs.Lists.{SpellsAll, Spelled}
use Rattle.sz_flat.specs.Kept.{some_bytes}
use Rattle.sz_flat.specs.Reading.{Language, values, lengths, Stands}
use Rattle.sz_flat.specs.Comparing.{truths, parts, maps, Finds, ComparesBoth, Compares, Orders}
use Rattle.sz_flat.proofs.SpellingLemmas.{same_length}
use Rattle.sz_flat.proofs.FrontLemmas.{IsUnique}
use Rattle.sz_flat.proofs.ReadingLemmas.{head, tail, no_bytes, other_kind}

abbrev Found : Type 0
Found = Result (Bor (List ℕ) × Bor (List ℕ)) Ordering

-- what isn't equal has nothing after it
differ : (order : Ordering) (a b r s : List ℕ) (found : Found) → order ≢ Equal → Finds order a b found
    → Finds order r s found
differ order a b r s (Ok rests) apart h = absurd (apart h.0)
differ order a b r s (Err o) apart h = h

-- the first that isn't equal decides
decided : (first later found : Ordering) → first ≡ found → found ≢ Equal → ordering_then first later ≡ found
decided Less later found is apart = is
decided Equal later found is apart = absurd (apart (sym is))
decided Greater later found is apart = is

Less≢Equal : Less ≢ Equal
Less≢Equal e = true≢false (sym (ap is_eq e))

Greater≢Equal : Greater ≢ Equal
Greater≢Equal e = true≢false (sym (ap is_eq e))

module _ {Y : Type 0} (language : Language Y) (cmp : Y → Y → Ordering) (one other : List ℕ) (found : Found) where
  -- what stands in front was read
  pub both_read : IsUnique language → (x y : Y) (after behind : List ℕ) → Stands language one x after
      → Stands language other y behind → Finds (cmp x y) after behind found → Compares language cmp one other found
  both_read unique x y after behind h k finds x' y' after' behind' h' k' =
      let first = unique x x' after after' h.has h'.has (sym h.is ∙ h'.is) in
      let second = unique y y' behind behind' k.has k'.has (sym k.is ∙ k'.is) in
      subst (λ (q : Y × List ℕ). Finds (cmp x' q.0) after' q.1 found) (λ i. (second.0 i, second.1 i))
      (subst (λ (p : Y × List ℕ). Finds (cmp p.0 y) p.1 behind found) (λ i. (first.0 i, first.1 i)) finds)

-- the values of each kind
module _ (one other : List ℕ) (found : Found) where
  pub truths_found : Compares truths bool_cmp one other found → Compares values compare (1 ∷ one) (1 ∷ other) found
  truths_found f (truth b) (truth c) r s h k =
      f b c r s (record { has = tt; is = ap tail h.is }) (record { has = tt; is = ap tail k.is })
  truths_found f (truth b) e r s h k = absurd (let byte = ap head k.is in omega (arith, byte))
  truths_found f d e r s h k = absurd (let byte = ap head h.is in omega (arith, byte))

-- where no value stands in front, anything may be found
pub no_first : (one other : List ℕ) (found : Found) → length one < 1 → Compares values compare one other found
no_first one other found none x y after behind h k = absurd (no_bytes one none x after h)

pub no_second : (one other : List ℕ) (found : Found) → length other < 1 → Compares values compare one other found
no_second one other found none x y after behind h k = absurd (no_bytes other none y behind k)

pub other_kinds : (m : ℕ) (one other : List ℕ) (found : Found) → (1 ≤ m → m ≤ 8 → ⊥)
    → Compares values compare (m ∷ one) other found
other_kinds m one other found apart x y after behind h k = absurd (other_kind m one apart x after h)

-- the keys and values of a map in turn
abbrev turns_of : Entries → Data
turns_of no_entries = no_data
turns_of (entry k v es) = datum k (datum v (turns_of es))

turns_long : (es : Entries) → length (parts_of (turns_of es)) ≡ 2 * length (pairs_of es)
turns_long no_entries = refl
turns_long (entry k v es) = let later = turns_long es in omega (arith, later)

turns_have : (es : Entries) → PairsHaveSpellings es → HaveSpellings (turns_of es)
turns_have no_entries h = tt
turns_have (entry k v es) h = (h.0, (h.1, turns_have es h.2))

turns_spelled : (es : Entries) → spelled_pairs es ≡ spelled_parts (turns_of es)
turns_spelled no_entries = refl
turns_spelled (entry k v es) = ap (λ l. spelling k ++ (spelling v ++ l)) (turns_spelled es)

turns_compare : (ps qs : Entries) → compare_data (turns_of ps) (turns_of qs) ≡ compare_entries ps qs
turns_compare no_entries no_entries = refl
turns_compare no_entries (entry l w qs) = refl
turns_compare (entry k v ps) no_entries = refl
turns_compare (entry k v ps) (entry l w qs) =
    ap (λ o. ordering_then (compare k l) (ordering_then (compare v w) o)) (turns_compare ps qs)

map_stands : (flat : List ℕ) (count : ℕ) (more : List ℕ) → Stands lengths flat count more
    → (es : Entries) (after : List ℕ) → Stands maps flat es after
    → Stands (parts (2 * count)) more (turns_of es) after
map_stands flat count more h es after k =
    let same = same_length count (length (pairs_of es)) more (spelled_pairs es ++ after) h.has k.has.0
    (sym h.is ∙ k.is ∙ append_assoc (length_bytes (length (pairs_of es))) (spelled_pairs es) after) in
    record {
      has = (turns_long es ∙ ap (λ n. 2 * n) (sym same.0), turns_have es k.has.1);
      is = same.1 ∙ ap (λ l. l ++ after) (turns_spelled es);
    }

pub pairs_found : (one other : List ℕ) (m n : ℕ) (more others : List ℕ) (found : Found) → Stands lengths one m more
    → Stands lengths other n others → ComparesBoth (parts (2 * m)) (parts (2 * n)) compare_data more others found
    → Compares maps compare_entries one other found
pairs_found one other m n more others found h k f ps qs r s x y =
    subst (λ o. Finds o r s found) (turns_compare ps qs)
    (f (turns_of ps) (turns_of qs) r s (map_stands one m more h ps r x) (map_stands other n others k qs s y))

-- what is found of the first of several
front_parts : (m n : ℕ) (one other : List ℕ) (found : Found) (d e : Datum) (ds es : Data) (r s : List ℕ)
    → Compares values compare one other found
    → Stands (parts m) one (datum d ds) r → Stands (parts n) other (datum e es) s
    → Finds (compare d e) (spelled_parts ds ++ r) (spelled_parts es ++ s) found
front_parts m n one other found d e ds es r s front h k =
    front d e (spelled_parts ds ++ r) (spelled_parts es ++ s)
    (record { has = h.has.1.0; is = h.is ∙ append_assoc (spelling d) (spelled_parts ds) r })
    (record { has = k.has.1.0; is = k.is ∙ append_assoc (spelling e) (spelled_parts es) s })

-- the first of several, and the others
module _ (m n : ℕ) (one other : List ℕ) (some : 0 < m) (others : 0 < n) where
  first_differs : (o : Ordering) → Compares values compare one other (Err o)
      → ComparesBoth (parts m) (parts n) compare_data one other (Err o)
  first_differs o front no_data es r s h k = absurd (let none = h.has.0 in omega (arith, none, some))
  first_differs o front (datum d ds) no_data r s h k = absurd (let none = k.has.0 in omega (arith, none, others))
  first_differs o front (datum d ds) (datum e es) r s h k =
      let f = front_parts m n one other (Err o) d e ds es r s front h k in
      (decided (compare d e) (compare_data ds es) o f.0 f.1, f.1)

  first_equal : (rests : Bor (List ℕ) × Bor (List ℕ)) (found : Found) → Compares values compare one other (Ok rests)
      → ComparesBoth (parts (m - 1)) (parts (n - 1)) compare_data rests.0.now rests.1.now found
      → ComparesBoth (parts m) (parts n) compare_data one other found
  first_equal rests found front f no_data es r s h k = absurd (let none = h.has.0 in omega (arith, none, some))
  first_equal rests found front f (datum d ds) no_data r s h k =
      absurd (let none = k.has.0 in omega (arith, none, others))
  first_equal rests found front f (datum d ds) (datum e es) r s h k =
      let same = front_parts m n one other (Ok rests) d e ds es r s front h k in
      let long = h.has.0 in
      let wide = k.has.0 in
      subst (λ o. Finds (ordering_then o (compare_data ds es)) r s found) (sym same.0)
      (f ds es r s (record { has = (omega (arith, long), h.has.1.1); is = same.1 })
      (record { has = (omega (arith, wide), k.has.1.1); is = same.2 }))

-- after some parts that are equal, what is found of the others is found of all
pub record IsLeft (m n i : ℕ) (one other rest other_rest : List ℕ) : Type 0 where
  pub first : i ≤ m
  pub second : i ≤ n
  pub less : length rest ≤ length one
  pub leads : (found : Found) → ComparesBoth (parts (m - i)) (parts (n - i)) compare_data rest other_rest found
      → ComparesBoth (parts m) (parts n) compare_data one other found

counted : (m n j k : ℕ) (one other : List ℕ) (found : Found) → m ≡ j → n ≡ k
    → ComparesBoth (parts m) (parts n) compare_data one other found
    → ComparesBoth (parts j) (parts k) compare_data one other found
counted m n j k one other found first second f =
    subst (λ c. ComparesBoth (parts j) (parts c) compare_data one other found) second
    (subst (λ c. ComparesBoth (parts c) (parts n) compare_data one other found) first f)

module _ (m n i : ℕ) (one other rest others : List ℕ) (h : IsLeft m n i one other rest others) where
  pub left_equal : i < m → i < n → (rests : Bor (List ℕ) × Bor (List ℕ))
      → Compares values compare rest others (Ok rests)
      → length rests.0.now < length rest → IsLeft m n (i + 1) one other rests.0.now rests.1.now
  left_equal some more rests front less =
      let old = h.less in
      record {
        first = omega (arith, some);
        second = omega (arith, more);
        less = omega (arith, less, old);
        leads = λ found f. h.leads found
            (first_equal (m - i) (n - i) rest others (omega (arith, some)) (omega (arith, more)) rests found front
            (counted (m - (i + 1)) (n - (i + 1)) ((m - i) - 1) ((n - i) - 1) rests.0.now rests.1.now found
            (omega arith) (omega arith) f));
      }

  pub left_differ : i < m → i < n → (o : Ordering) → Compares values compare rest others (Err o)
      → ComparesBoth (parts m) (parts n) compare_data one other (Err o)
  left_differ some more o front =
      h.leads (Err o) (first_differs (m - i) (n - i) rest others (omega (arith, some)) (omega (arith, more)) o front)

-- what is found of the first values
front_values : (one other : List ℕ) (found : Found) (x y : Datum) (xs ys : List Datum)
    → Compares values compare one other found → SpellsAll one (x ∷ xs)
    → SpellsAll other (y ∷ ys) → Finds (compare x y) (spelled_parts (data_of xs)) (spelled_parts (data_of ys)) found
front_values one other found x y xs ys front h k =
    front x y (spelled_parts (data_of xs)) (spelled_parts (data_of ys)) (record { has = h.spelled.0; is = h.is })
    (record { has = k.spelled.0; is = k.is })

-- values up to the end of the bytes
module _ (one other : List ℕ) (some : 1 ≤ length one) (others : 1 ≤ length other) where
  pub order_differs : (o : Ordering) → Compares values compare one other (Err o) → Orders one other o
  order_differs o front [] ys h k = absurd (let none = ap length h.is in omega (arith, none, some))
  order_differs o front (x ∷ xs) [] h k = absurd (let none = ap length k.is in omega (arith, none, others))
  order_differs o front (x ∷ xs) (y ∷ ys) h k =
      let f = front_values one other (Err o) x y xs ys front h k in
      sym (decided (compare x y) (slice_cmp compare xs ys) o f.0 f.1)

  pub order_equal : (rests : Bor (List ℕ) × Bor (List ℕ)) (o : Ordering) → Compares values compare one other (Ok rests)
      → Orders rests.0.now rests.1.now o → Orders one other o
  order_equal rests o front f [] ys h k = absurd (let none = ap length h.is in omega (arith, none, some))
  order_equal rests o front f (x ∷ xs) [] h k = absurd (let none = ap length k.is in omega (arith, none, others))
  order_equal rests o front f (x ∷ xs) (y ∷ ys) h k =
      let same = front_values one other (Ok rests) x y xs ys front h k in
      f xs ys (record { spelled = h.spelled.1; is = same.1 }) (record { spelled = k.spelled.1; is = same.2 })
      ∙ sym (ap (λ p. ordering_then p (slice_cmp compare xs ys)) same.0)

some_spelled : (flat : List ℕ) (x : Datum) (xs : List Datum) → SpellsAll flat (x ∷ xs) → 0 < length flat
some_spelled flat x xs h =
    let long = ap length h.is in let some = some_bytes x in
    omega (arith, long, some, length-append (spelling x) (spelled_parts (data_of xs)))

-- at the end there are no bytes
pub none_after : (flat : List ℕ) → (length flat == 0) ≡ true → 0 < length flat → ⊥
none_after flat is some = let none = eqb-true (length flat) 0 is in omega (arith, none, some)

-- at the end of one of them, that which goes on is the greater one
pub order_ends : (one other : List ℕ) → (0 < length one → 0 < length other → ⊥)
    → Orders one other (nat_cmp (length one) (length other))
order_ends one other end [] [] h k = λ i. nat_cmp (length (h.is i)) (length (k.is i))
order_ends one other end [] (y ∷ ys) h k =
    let none = ap length h.is in
    sym
    (nat_cmp_is (length one) (length other) Less (let some = some_spelled other y ys k in omega (arith, none, some)))
order_ends one other end (x ∷ xs) [] h k =
    let none = ap length k.is in
    sym
    (nat_cmp_is (length one) (length other) Greater (let some = some_spelled one x xs h in omega (arith, none, some)))
order_ends one other end (x ∷ xs) (y ∷ ys) h k = absurd (end (some_spelled one x xs h) (some_spelled other y ys k))

-- the values that are kept compare so
pub kept_order : (one other : List ℕ) (x : Spelled one) (y : Spelled other) (found : Ordering)
    → Orders one other found → found ≡ slice_cmp compare x.0 y.0
kept_order one other x y found f =
    ∥∥₁_elim x.1 (Ordering-set found (slice_cmp compare x.0 y.0))
    (λ h. ∥∥₁_elim y.1 (Ordering-set found (slice_cmp compare x.0 y.0)) (λ k. f x.0 y.0 h k))
