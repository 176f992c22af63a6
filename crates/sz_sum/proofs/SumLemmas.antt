-- What a sum stands for after its calls.
use Rattle.std.proofs.Common.{◌≡◌, ◌∙◌, ℕ, zero, suc, ◌+◌, ◌*◌, ◌^◌, ◌<◌, ◌≤◌, ℤ, pos, ◌+ℤ◌, None, cond, lt-ltb, List, [], ◌∷◌, ◌++◌, length, replicate, refl, sym, ap, subst, arith}
use Rattle.std.proofs.lemmas.Int.{ints}
use Rattle.std.proofs.lemmas.List.{length-append, map-append}
use Rattle.sz_types.specs.Tables.{Declaration}
use Rattle.sz_types.specs.declared.table.TableKind.TheVariants.{Sum}
use Rattle.sz_value.specs.Data.{Datum}
use Rattle.sz_tabs.specs.Data.{Weighted, Shown, RowDatum, sums}
use Rattle.sz_tabs.specs.Bounds.{IsWithin, AreWithin}
use Rattle.sz_tabs.specs.Aggregating.{StandsFor, Gains, Joins}
use Rattle.sz_tabs.specs.Rows.{plus, components_of, values_of, sums_of, sum_rows, rows_by, rows_of}
use Rattle.sz_tabs.proofs.ForCallers.{within_plus, plus_comm, sums_of_one_more, sums_of_both}
use Rattle.sz_sum.specs.Data.{Summed, rows_of_sum, width}
use Rattle.sz_sum.specs.Kept.{IsKept}
use Rattle.sz_sum.proofs.GrownLemmas.{length_kept}

abbrev declaration_of : Summed → Declaration
declaration_of s = s.table

abbrev count_of : Summed → ℕ
count_of s = s.count

zero_within : (n : ℤ) → IsWithin 0 n → (m : ℤ) → n +ℤ m ≡ m
zero_within n h m = omega (arith, ints, h.low, h.high)

-- nothing has been added yet
from_nothing : (ms ns : List ℤ) → AreWithin 0 ms → length ns ≡ length ms → plus ms ns ≡ ns
from_nothing [] ns h same = refl
from_nothing (m ∷ ms) [] h same = absurd (omega (arith, same))
from_nothing (m ∷ ms) (n ∷ ns) h same = λ i. zero_within m h.0 n i ∷ from_nothing ms ns h.1 (omega (arith, same)) i

fresh : (count : ℕ) (ns : List ℤ) → count ≡ 0 → AreWithin (2 ^ 63 * count) ns → AreWithin 0 ns
fresh count ns is h = subst (λ c. AreWithin (2 ^ 63 * c) ns) is h

zeros_within : (a n : ℕ) → AreWithin a (replicate n (pos 0))
zeros_within a zero = tt
zeros_within a (suc n) = (record { low = omega (arith, ints); high = omega (arith, ints) }, zeros_within a n)

length_zeros : (n : ℕ) → length (replicate n (pos 0)) ≡ n
length_zeros zero = refl
length_zeros (suc n) = ap suc (length_zeros n)

-- a new one
pub kept_new : (table : Declaration) (numbers : List ℤ) → table.kind ≡ Sum
    → numbers ≡ replicate (width table.element) (pos 0) → IsKept table 0 numbers
kept_new table numbers kind are = record {
  kind = kind;
  wide = ap length are ∙ length_zeros (width table.element);
  few = omega arith;
  within = subst (AreWithin 0) (sym are) (zeros_within 0 (width table.element));
}

-- one emit more, and the emits of both sides
pub kept_more : (table : Declaration) (count : ℕ) (old new ns : List ℤ) → IsKept table count old → count < 2 ^ 63
    → length ns ≡ width table.element → AreWithin (2 ^ 63) ns → new ≡ plus old ns → IsKept table (count + 1) new
kept_more table count old new ns h room wide fits added = record {
  kind = h.kind;
  wide = ap length added ∙ length_kept old ns (omega (arith, wide, h.wide)) ∙ h.wide;
  few = omega (arith, room);
  within =
      let sum = within_plus (2 ^ 63 * count) (2 ^ 63) old ns h.within fits in
      let same : 2 ^ 63 * count + 2 ^ 63 ≡ 2 ^ 63 * (count + 1) = omega arith in
      subst (λ most. AreWithin most new) same (subst (AreWithin (2 ^ 63 * count + 2 ^ 63)) (sym added) sum);
}

pub kept_both : (table : Declaration) (count : ℕ) (old : List ℤ) (other : Summed) (new : List ℤ)
    → IsKept table count old → IsKept other.table other.count other.numbers
    → other.table ≡ table → count + other.count ≤ 2 ^ 63 → new ≡ plus old other.numbers
    → IsKept table (count + other.count) new
kept_both table count old other new h k same room added = record {
  kind = h.kind;
  wide = ap length added
      ∙ length_kept old other.numbers (omega (arith, h.wide, k.wide, ap (λ t. width t.element) same)) ∙ h.wide;
  few = room;
  within =
      let sum = within_plus (2 ^ 63 * count) (2 ^ 63 * other.count) old other.numbers h.within k.within in
      let same : 2 ^ 63 * count + 2 ^ 63 * other.count ≡ 2 ^ 63 * (count + other.count) = omega arith in
      subst (λ most. AreWithin most new) same
      (subst (AreWithin (2 ^ 63 * count + 2 ^ 63 * other.count)) (sym added) sum);
}

abbrev row : List ℤ → List RowDatum
row ns = record { shown = sums ns; weight = None } ∷ []

-- the sums in a row, and in the first of some rows
abbrev sums_in : Shown → List ℤ
sums_in (sums ns) = ns
sums_in _ = []

abbrev sums_first : List RowDatum → List ℤ
sums_first [] = []
sums_first (r ∷ rs) = sums_in r.shown

-- what the rows of a table of sums tell of the sums
row_tells : (ms ns : List ℤ) → row ms ≡ row ns → ms ≡ ns
row_tells ms ns h = ap sums_first h

rows_are : (table : Declaration) (emits : List Weighted) → table.kind ≡ Sum
    → rows_of table emits ≡ sum_rows (values_of emits)
rows_are table emits kind = ap (λ k. rows_by k table.limit emits) kind

shown_after : (s : Summed) (n : ℕ) → s.count ≡ suc n → rows_of_sum s ≡ row s.numbers
shown_after s n is = ap (λ b. cond b (row s.numbers) []) (lt-ltb 0 s.count (omega (arith, is)))

-- after some emits the numbers are their sums
summed_up : (s : Summed) (w : Weighted) (ws : List Weighted) → s.table.kind ≡ Sum
    → StandsFor declaration_of count_of rows_of_sum s (w ∷ ws) → s.numbers ≡ sums_of (values_of (w ∷ ws))
summed_up s w ws kind stands =
    row_tells s.numbers (sums_of (values_of (w ∷ ws)))
    (sym (shown_after s (length ws) stands.counted) ∙ stands.rows ∙ rows_are s.table (w ∷ ws) kind)

values_of_both : (us vs : List Weighted) → values_of (us ++ vs) ≡ values_of us ++ values_of vs
values_of_both us vs = map-append (λ w. w.value) us vs

-- the row of emits in front of others
row_of_more : (us : List Datum) (v : Datum) (vs : List Datum) → sum_rows (us ++ v ∷ vs) ≡ row (sums_of (us ++ v ∷ vs))
row_of_more [] v vs = refl
row_of_more (u ∷ us) v vs = refl

-- the numbers with one emit more are the sums of all
numbers_after : (old : Summed) (e : Weighted) (emits : List Weighted) → IsKept old.table old.count old.numbers
    → length (components_of e.value) ≡ width old.table.element → StandsFor declaration_of count_of rows_of_sum old emits
    → plus old.numbers (components_of e.value) ≡ plus (sums_of (values_of emits)) (components_of e.value)
numbers_after old e [] h wide stands =
    from_nothing old.numbers (components_of e.value) (fresh old.count old.numbers stands.counted h.within)
    (wide ∙ sym h.wide)
numbers_after old e (w ∷ ws) h wide stands =
    ap (λ ns. plus ns (components_of e.value)) (summed_up old w ws h.kind stands)

pub sum_gains : (old new : Summed) (e : Weighted) → IsKept old.table old.count old.numbers → new.table ≡ old.table
    → new.count ≡ old.count + 1 → length (components_of e.value) ≡ width old.table.element
    → new.numbers ≡ plus old.numbers (components_of e.value) → Gains declaration_of count_of rows_of_sum old new e
sum_gains old new e h same one_more wide added = record {
  same_table = same;
  one_more = one_more;
  appended = λ emits stands. record {
    rows =
        shown_after new old.count (one_more ∙ omega arith) ∙ ap row (added ∙ numbers_after old e emits h wide stands
        ∙ sym (sums_of_one_more (values_of emits) e.value)) ∙ sym (row_of_more (values_of emits) e.value [])
        ∙ ap sum_rows (sym (values_of_both emits (e ∷ [])))
        ∙ sym (rows_are new.table (emits ++ e ∷ []) (ap (λ t. t.kind) same ∙ h.kind));
    counted = one_more ∙ ap (λ n. n + 1) stands.counted ∙ sym (length-append emits (e ∷ []));
  };
}

after_nothing : {X : Type 0} (xs : List X) → xs ++ [] ≡ xs
after_nothing [] = refl
after_nothing (x ∷ xs) = ap (λ l. x ∷ l) (after_nothing xs)

-- the rows of the emits of both sides
rows_of_both : (old other new : Summed) (front back : List Weighted) → IsKept old.table old.count old.numbers
    → IsKept other.table other.count other.numbers → length other.numbers ≡ length old.numbers
    → new.count ≡ old.count + other.count
    → new.numbers ≡ plus old.numbers other.numbers → StandsFor declaration_of count_of rows_of_sum old front
    → StandsFor declaration_of count_of rows_of_sum other back → rows_of_sum new ≡ sum_rows (values_of (front ++ back))
rows_of_both old other new [] [] h k wide counts added stands beside =
    ap (λ c. rows_of_sum (record { table = new.table; count = c; numbers = new.numbers }))
    (counts ∙ (λ i. stands.counted i + beside.counted i))
rows_of_both old other new [] (b ∷ bs) h k wide counts added stands beside =
    shown_after new (length bs) (counts ∙ (λ i. stands.counted i + beside.counted i) ∙ omega arith) ∙ ap row (added
    ∙ from_nothing old.numbers other.numbers (fresh old.count old.numbers stands.counted h.within) wide
    ∙ summed_up other b bs k.kind beside)
rows_of_both old other new (f ∷ fs) [] h k wide counts added stands beside =
    shown_after new (length fs) (counts ∙ (λ i. stands.counted i + beside.counted i) ∙ omega arith) ∙ ap row (added
    ∙ plus_comm old.numbers other.numbers
    ∙ from_nothing other.numbers old.numbers (fresh other.count other.numbers beside.counted k.within) (sym wide)
    ∙ summed_up old f fs h.kind stands) ∙ ap (λ l. sum_rows (values_of l)) (sym (after_nothing (f ∷ fs)))
rows_of_both old other new (f ∷ fs) (b ∷ bs) h k wide counts added stands beside =
    shown_after new (length fs + length (b ∷ bs)) (counts ∙ (λ i. stands.counted i + beside.counted i) ∙ omega arith)
    ∙ ap row (added ∙ (λ i. plus (summed_up old f fs h.kind stands i) (summed_up other b bs k.kind beside i))
    ∙ sym (sums_of_both (values_of (f ∷ fs)) (values_of (b ∷ bs))))
    ∙ ap sum_rows (sym (values_of_both (f ∷ fs) (b ∷ bs)))

pub sum_joins : (old other new : Summed) → IsKept old.table old.count old.numbers
    → IsKept other.table other.count other.numbers → other.table ≡ old.table → new.table ≡ old.table
    → new.count ≡ old.count + other.count → new.numbers ≡ plus old.numbers other.numbers
    → Joins declaration_of count_of rows_of_sum old other new
sum_joins old other new h k one_table same counts added = record {
  same_table = same;
  both_counts = counts;
  joined = λ front back stands beside. record {
    rows =
        rows_of_both old other new front back h k
        (k.wide ∙ ap (λ t. width t.element) one_table ∙ sym h.wide) counts added stands beside
        ∙ sym (rows_are new.table (front ++ back) (ap (λ t. t.kind) same ∙ h.kind));
    counted = counts ∙ (λ i. stands.counted i + beside.counted i) ∙ sym (length-append front back);
  };
}
