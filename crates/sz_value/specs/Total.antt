-- The order of values is total, and only a value itself compares with it as equal.
use Rattle.std.specs.Prelude.{◌≡◌, ℕ, zero, suc, ◌+◌, ◌≤◌, ℤ, Bool, false, true, List, [], ◌∷◌}
use Rattle.std.specs.Ordering.{nat_cmp, int_cmp, bool_cmp, ordering_then, ordering_reverse, then_cmp, on, is_eq}
use Rattle.std.specs.declared.cmp.Ordering.{Ordering}
use Rattle.std.specs.declared.cmp.Ordering.TheVariants.{Less, Equal, Greater}
use Rattle.std.specs.Cmp.{IsTotalOrder, nat_cmp_total, int_cmp_total, bool_cmp_total, then_total, on_total, signed_Decides, tied_itself}
use Rattle.std.specs.Cmp.Lexicographic.{slice_cmp, lists_total, nat_list_cmp_total, texts_ties, bytes_decides}
use Rattle.std.proofs.Common.{refl, sym, ap, ◌∙◌, subst, true≢false, pos, arith}
use Rattle.sz_value.specs.Data.{Datum, truth, int, time, str, bytes, array, tuple, mapping, Data, no_data, datum, Entries, no_entries, entry, parts_of}
use Rattle.sz_value.specs.Code.{datum_nodes, data_nodes, entries_nodes}
use Rattle.sz_value.specs.Order.{compare, compare_data, compare_entries, kind}

-- the truth value of one that is it, else false
abbrev flag : Datum → Bool
flag (truth b) = b
flag _ = false

-- the number of a number or a time, else 0
abbrev number : Datum → ℤ
number (int n) = n
number (time n) = n
number _ = pos 0

-- the bytes of a text or a byte string, else none
abbrev letters : Datum → List ℕ
letters (str s) = s
letters (bytes s) = s
letters _ = []

-- keys and values in turn
abbrev turns_of : Entries → List Datum
turns_of no_entries = []
turns_of (entry k v es) = k ∷ v ∷ turns_of es

-- the parts of an array or a tuple, the keys and values of a map, else none
abbrev parts : Datum → List Datum
parts (array ds) = parts_of ds
parts (tuple ds) = parts_of ds
parts (mapping es) = turns_of es
parts _ = []

-- the order as a chain, down to a depth: by kind, truth value, number, bytes, and then by parts
abbrev level : ℕ → Datum → Datum → Ordering
level zero = λ d e. Equal
level (suc n) =
    then_cmp (on kind nat_cmp)
    (then_cmp (on flag bool_cmp)
    (then_cmp (on number int_cmp)
    (then_cmp (on letters (slice_cmp nat_cmp)) (on parts (slice_cmp (level n))))))

level_total : (n : ℕ) → IsTotalOrder (level n)
level_total zero = record { antisymm = λ x y. refl; trans = λ x y z p q. p; congr = λ x y z p. refl }
level_total (suc n) =
    then_total (on_total kind nat_cmp_total)
    (then_total (on_total flag bool_cmp_total)
    (then_total (on_total number int_cmp_total)
    (then_total (on_total letters nat_list_cmp_total) (on_total parts (lists_total (level_total n))))))

then_equal : (found : Ordering) → ordering_then found Equal ≡ found
then_equal Less = refl
then_equal Equal = refl
then_equal Greater = refl

one_le-nodes : (d : Datum) → 1 ≤ datum_nodes d
one_le-nodes (truth b) = omega arith
one_le-nodes (int n) = omega arith
one_le-nodes (time n) = omega arith
one_le-nodes (str s) = omega arith
one_le-nodes (bytes s) = omega arith
one_le-nodes (array ds) = omega arith
one_le-nodes (tuple ds) = omega arith
one_le-nodes (mapping es) = omega arith

mutual
  level_is : (n : ℕ) (d e : Datum) → datum_nodes d ≤ n + 1 → level (suc n) d e ≡ compare d e
  level_is n (truth b) (truth c) fits = then_equal (bool_cmp b c)
  level_is n (int l) (int m) fits = then_equal (int_cmp l m)
  level_is n (time l) (time m) fits = then_equal (int_cmp l m)
  level_is n (str s) (str t) fits = then_equal (slice_cmp nat_cmp s t)
  level_is n (bytes s) (bytes t) fits = then_equal (slice_cmp nat_cmp s t)
  level_is n (array ds) (array es) fits = data_level_is n ds es (omega arith)
  level_is n (tuple ds) (tuple es) fits = data_level_is n ds es (omega arith)
  level_is n (mapping ps) (mapping qs) fits = entries_level_is n ps qs (omega arith)
  level_is n d e fits = refl

  data_level_is : (n : ℕ) (ds es : Data) → data_nodes ds ≤ n
      → slice_cmp (level n) (parts_of ds) (parts_of es) ≡ compare_data ds es
  data_level_is n no_data no_data fits = refl
  data_level_is n no_data (datum e es) fits = refl
  data_level_is n (datum d ds) no_data fits = refl
  data_level_is zero (datum d ds) (datum e es) fits = absurd (omega (arith, one_le-nodes d))
  data_level_is (suc n) (datum d ds) (datum e es) fits =
      λ i. ordering_then (level_is n d e (omega arith) i) (data_level_is (suc n) ds es (omega arith) i)

  entries_level_is : (n : ℕ) (ps qs : Entries) → entries_nodes ps ≤ n
      → slice_cmp (level n) (turns_of ps) (turns_of qs) ≡ compare_entries ps qs
  entries_level_is n no_entries no_entries fits = refl
  entries_level_is n no_entries (entry l w qs) fits = refl
  entries_level_is n (entry k v ps) no_entries fits = refl
  entries_level_is zero (entry k v ps) (entry l w qs) fits = absurd (omega (arith, one_le-nodes k))
  entries_level_is (suc n) (entry k v ps) (entry l w qs) fits =
      λ i. ordering_then (level_is n k l (omega arith) i)
      (ordering_then (level_is n v w (omega arith) i) (entries_level_is (suc n) ps qs (omega arith) i))

-- the order of values is total
pub compare_total : IsTotalOrder compare
compare_total = record {
  antisymm = λ x y.
      let n = datum_nodes x + datum_nodes y in
      sym (level_is n x y (omega arith)) ∙ (level_total (suc n)).antisymm x y
      ∙ ap ordering_reverse (level_is n y x (omega arith));
  trans = λ x y z p q.
      let n = datum_nodes x + datum_nodes y in
      sym (level_is n x z (omega arith))
      ∙ (level_total (suc n)).trans x y z (level_is n x y (omega arith) ∙ p) (level_is n y z (omega arith) ∙ q);
  congr = λ x y z p.
      let n = datum_nodes x + datum_nodes y in
      sym (level_is n x z (omega arith)) ∙ (level_total (suc n)).congr x y z (level_is n x y (omega arith) ∙ p)
      ∙ level_is n y z (omega arith);
}

bool_ties : (b c : Bool) → bool_cmp b c ≡ Equal → b ≡ c
bool_ties false false tied = refl
bool_ties false true tied = absurd (true≢false (sym (ap is_eq tied)))
bool_ties true false tied = absurd (true≢false (sym (ap is_eq tied)))
bool_ties true true tied = refl

int_ties : (m n : ℤ) → int_cmp m n ≡ Equal → m ≡ n
int_ties m n tied = (signed_Decides m n).0 (ap is_eq tied)

letters_tie : (s t : List ℕ) → slice_cmp nat_cmp s t ≡ Equal → s ≡ t
letters_tie s t tied = (bytes_decides s t).0 (texts_ties s t ∙ ap is_eq tied)

-- what is told apart by neither of two orders
pub both_equal : (a b : Ordering) → ordering_then a b ≡ Equal → (a ≡ Equal) × (b ≡ Equal)
both_equal Less b tied = absurd (true≢false (sym (ap is_eq tied)))
both_equal Equal b tied = (refl, tied)
both_equal Greater b tied = absurd (true≢false (sym (ap is_eq tied)))

mutual
  -- what compares as equal is the same
  pub compare_ties : (d e : Datum) → compare d e ≡ Equal → d ≡ e
  compare_ties (truth b) (truth c) tied = ap truth (bool_ties b c tied)
  compare_ties (int m) (int n) tied = ap int (int_ties m n tied)
  compare_ties (time m) (time n) tied = ap time (int_ties m n tied)
  compare_ties (str s) (str t) tied = ap str (letters_tie s t tied)
  compare_ties (bytes s) (bytes t) tied = ap bytes (letters_tie s t tied)
  compare_ties (array ds) (array es) tied = ap array (data_ties ds es tied)
  compare_ties (tuple ds) (tuple es) tied = ap tuple (data_ties ds es tied)
  compare_ties (mapping ps) (mapping qs) tied = ap mapping (entries_ties ps qs tied)
  compare_ties d e tied = absurd (true≢false (sym (ap is_eq tied)))

  data_ties : (ds es : Data) → compare_data ds es ≡ Equal → ds ≡ es
  data_ties no_data no_data tied = refl
  data_ties no_data (datum e es) tied = absurd (true≢false (sym (ap is_eq tied)))
  data_ties (datum d ds) no_data tied = absurd (true≢false (sym (ap is_eq tied)))
  data_ties (datum d ds) (datum e es) tied =
      let equal = both_equal (compare d e) (compare_data ds es) tied in
      λ i. datum (compare_ties d e equal.0 i) (data_ties ds es equal.1 i)

  entries_ties : (ps qs : Entries) → compare_entries ps qs ≡ Equal → ps ≡ qs
  entries_ties no_entries no_entries tied = refl
  entries_ties no_entries (entry l w qs) tied = absurd (true≢false (sym (ap is_eq tied)))
  entries_ties (entry k v ps) no_entries tied = absurd (true≢false (sym (ap is_eq tied)))
  entries_ties (entry k v ps) (entry l w qs) tied =
      let equal = both_equal (compare k l) (ordering_then (compare v w) (compare_entries ps qs)) tied in
      let after = both_equal (compare v w) (compare_entries ps qs) equal.1 in
      λ i. entry (compare_ties k l equal.0 i) (compare_ties v w after.0 i) (entries_ties ps qs after.1 i)

-- a value compares as equal with itself
pub compare_itself : (d e : Datum) → d ≡ e → compare d e ≡ Equal
compare_itself d e same = subst (λ f. compare d f ≡ Equal) same (tied_itself compare_total d)
