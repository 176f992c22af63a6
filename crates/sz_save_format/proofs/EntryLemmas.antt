-- What tables hold in front of bytes: values behind the number of their bytes, rows, index lists, and all entries of
-- a table.
use Rattle.std.proofs.Common.{◌≡◌, ◌∙◌, ℕ, ℤ, ◌<◌, ◌≤◌, ◌^◌, ◌*◌, ◌+◌, ◌-◌, ◌/◌, ◌%◌, ◌==◌, nat_le, unsigned_abs, Bool, true, false, true≢false, not, ◌&&◌, ◌||◌, ◌⊎◌, inl, inr, ⊎_elim, if◌then◌else◌, Option, Some, None, List, [], ◌∷◌, ◌++◌, length, take, drop, flat_map, refl, sym, ap, subst, append_assoc, append-nil, arith, take_at, drop_at, take-append-drop, length-take-le, length-append, leb-true, le-leb, eqb-true, eq-eqb}
use Rattle.std.specs.Int.{w128, cast_signed, cast_unsigned}
use Rattle.std.specs.Int.RustNames.{FitsSigned}
use Rattle.std.specs.List.{AllByRecursion}
use Rattle.std.proofs.lemmas.Bool.{and_parts, and_from}
use Rattle.std.proofs.lemmas.Int.{of_z-to_z, to_z-of_z, ints, fits_signed_from_abs}
use Rattle.std.proofs.lemmas.List.{nil_from_length}
use Rattle.sz_types.specs.Data.{Shape}
use Rattle.sz_types.specs.Tables.{Declaration}
use Rattle.sz_types.specs.declared.table.TableKind.{TableKind}
use Rattle.sz_types.specs.declared.table.TableKind.TheVariants.{Sum, Maximum, Minimum, Set, Collection}
use Rattle.sz_value.specs.Data.{Datum}
use Rattle.sz_flat.specs.Spelling.{length_bytes, spelling, IsShort}
use Rattle.sz_tabs.specs.Data.{Shown, one, sums, overflow, RowDatum}
use Rattle.sz_tabs.specs.Rows.{overflow_row}
use Rattle.sz_total.specs.Tables.{Indexed}
use Rattle.sz_save_format.specs.Entries.{count_bytes, IsCount, wide_bytes, sum_bytes, value_bytes, rank_bytes, row_bytes, is_overflow, overflows, front_bytes, entry_bytes, entries_bytes, components, row_may_follow, entry_may_follow, in_order}
use Rattle.sz_save_format.specs.Entries.{IsSavedValue, AreSavedValues, AreSavedSums, ShowsSavedValue, IsSavedRank, IsSavedRow, AreSavedRows, AreSumRows, HaveRows, IsSavedEntry, AreSavedEntries}
use Rattle.sz_save_format.specs.Decoding.{Decoder, and_then, only, byte_at, put_first, counted_at}
use Rattle.sz_save_format.specs.DecodingRows.{value_at, whole, sized_at, indexes_at, wide_at, sum_at, long_counted_at, sum_row_at, rank_at, row_at, are_rows, rows_in, few_rows_at, many_rows_at, set_at, kind_rows_at, entry_at, are_entries, entries_at}
use Rattle.sz_save_format.proofs.FrontLemmas.{Finds, then_some, only_some, only_true, found_is, found_first, first_again, first_there, byte_some, if_some, put_first_some, carried, two_parts, counted_by, counted_finds, both_finds}
use Rattle.sz_save_format.proofs.NameLemmas.{length_finds, count_finds}
use Rattle.sz_save_format.proofs.ValueLemmas.{number_finds, value_finds}

-- ---- values behind the number of their bytes

abbrev all_of : Shape → ℕ → List ℕ → Option (Datum × List ℕ)
all_of t n rest = only (nat_le n (length rest)) (whole (value_at t (take n rest)) (drop n rest))

sized_sound : (t : Shape) (flat : List ℕ) (d : Datum) (rest : List ℕ) → sized_at t flat ≡ Some (d, rest)
    → IsSavedValue t d × (flat ≡ value_bytes d ++ rest)
unfolding sized_at
sized_sound t flat d rest e =
    let a = found_first count_finds flat (all_of t) (d, rest) e in
    let n = a.0 in
    let mid = a.1 in
    let b = only_some (nat_le n (length mid)) (whole (value_at t (take n mid)) (drop n mid)) (d, rest) a.4 in
    let c =
    then_some (value_at t (take n mid)) (λ x left. only (length left == 0) (Some (x, drop n mid))) (d, rest) b.1 in
    let f = only_some (length c.1 == 0) (Some (c.0, drop n mid)) (d, rest) c.3 in
    let is = (value_finds t).sound (take n mid) c.0 c.1 c.2 in
    let none = nil_from_length c.1 (eqb-true (length c.1) 0 f.0) in
    let front : take n mid ≡ spelling c.0 = is.1 ∙ (λ i. spelling c.0 ++ none i) ∙ append-nil (spelling c.0) in
    let long : n ≡ length (spelling c.0) = sym (length-take-le n mid (leb-true n (length mid) b.0)) ∙ ap length front in
    carried (IsSavedValue t) value_bytes flat c.0 d
    (drop n mid) rest f.1 (record { has = is.0.0; typed = is.0.1; long = subst IsCount long a.2 })
    (two_parts flat (count_bytes n) mid (spelling c.0)
    (drop n mid) a.3 (sym (take-append-drop n mid) ∙ (λ i. front i ++ drop n mid))
    ∙ (λ i. (count_bytes (long i) ++ spelling c.0) ++ drop n mid))

sized_again : (t : Shape) (d : Datum) (rest : List ℕ) → IsSavedValue t d
    → sized_at t (value_bytes d ++ rest) ≡ Some (d, rest)
unfolding sized_at
sized_again t d rest h =
    let n = length (spelling d) in
    let mid = spelling d ++ rest in
    let few : n ≤ length mid = let both = length-append (spelling d) rest in omega (arith, both) in
    first_there count_finds n (value_bytes d ++ rest) mid
    (all_of t) h.long (append_assoc (count_bytes n) (spelling d) rest)
    ∙ only_true (nat_le n (length mid)) (whole (value_at t (take n mid)) (drop n mid)) (le-leb n (length mid) few)
    ∙ (λ i. whole (value_at t (take_at (spelling d) rest n refl i)) (drop_at (spelling d) rest n refl i))
    ∙ ap (λ l. whole (value_at t l) rest) (sym (append-nil (spelling d)))
    ∙ ap (λ o. whole o rest) ((value_finds t).again d [] (h.has, h.typed))

pub sized_finds : (t : Shape) → Finds (IsSavedValue t) value_bytes (sized_at t)
sized_finds t = record { sound = sized_sound t; again = sized_again t }

-- ---- index lists

indexes_sound : (ts : List Shape) (flat : List ℕ) (ds : List Datum) (rest : List ℕ)
    → indexes_at ts flat ≡ Some (ds, rest) → AreSavedValues ts ds × (flat ≡ flat_map value_bytes ds ++ rest)
unfolding indexes_at
indexes_sound [] flat ds rest e =
    let same = found_is [] ds flat rest e in
    (subst (AreSavedValues []) same.0 tt, (λ i. flat_map value_bytes (same.0 i) ++ same.1 i))
indexes_sound (t ∷ ts) flat ds rest e =
    let a = found_first (sized_finds t) flat (λ d mid. put_first d (indexes_at ts mid)) (ds, rest) e in
    let later = put_first_some (sized_finds t) a.0 (indexes_at ts a.1) ds rest a.4 in
    let more = indexes_sound ts a.1 later.0 rest later.1 in (
      subst (AreSavedValues (t ∷ ts)) later.2 (a.2, more.0),
      two_parts flat (value_bytes a.0) a.1 (flat_map value_bytes later.0) rest a.3 more.1
          ∙ (λ i. flat_map value_bytes (later.2 i) ++ rest),
    )

indexes_again : (ts : List Shape) (ds : List Datum) (rest : List ℕ) → AreSavedValues ts ds
    → indexes_at ts (flat_map value_bytes ds ++ rest) ≡ Some (ds, rest)
unfolding indexes_at
indexes_again [] [] rest h = refl
indexes_again [] (d ∷ ds) rest h = absurd h
indexes_again (t ∷ ts) [] rest h = absurd h
indexes_again (t ∷ ts) (d ∷ ds) rest h =
    first_there (sized_finds t) d (flat_map value_bytes (d ∷ ds) ++ rest) (flat_map value_bytes ds ++ rest)
    (λ x mid. put_first x (indexes_at ts mid)) h.0 (append_assoc (value_bytes d) (flat_map value_bytes ds) rest)
    ∙ ap (put_first d) (indexes_again ts ds rest h.1)

indexes_finds : (ts : List Shape) → Finds (AreSavedValues ts) (flat_map value_bytes) (indexes_at ts)
indexes_finds ts = record { sound = indexes_sound ts; again = indexes_again ts }

-- ---- sums

wide_sound : (flat : List ℕ) (n : ℕ) (rest : List ℕ) → wide_at flat ≡ Some (n, rest)
    → (n < 2 ^ 128) × (flat ≡ wide_bytes n ++ rest)
unfolding wide_at
wide_sound flat n rest e =
    let a =
    found_first (both_finds count_finds count_finds) flat (λ p mid. Some (p.0 * 2 ^ 64 + p.1, mid)) (n, rest) e in
    let high = a.0.0 in
    let low = a.0.1 in
    let few = a.2.0 in
    let below = a.2.1 in
    carried (λ m. m < 2 ^ 128) wide_bytes flat (high * 2 ^ 64 + low) n a.1 rest a.4 (omega (arith, few, below))
    (a.3 ∙ (λ i. (count_bytes (high_again high low below i) ++ count_bytes (low_again high low below i)) ++ a.1))
  where
    high_again : (high low : ℕ) → low < 2 ^ 64 → high ≡ (high * 2 ^ 64 + low) / 2 ^ 64
    high_again high low below = omega (arith, below)

    low_again : (high low : ℕ) → low < 2 ^ 64 → low ≡ (high * 2 ^ 64 + low) % 2 ^ 64
    low_again high low below = omega (arith, below)

wide_again : (n : ℕ) (rest : List ℕ) → n < 2 ^ 128 → wide_at (wide_bytes n ++ rest) ≡ Some (n, rest)
unfolding wide_at
wide_again n rest few =
    let joined : n / 2 ^ 64 * 2 ^ 64 + n % 2 ^ 64 ≡ n = omega arith in
    first_again (both_finds count_finds count_finds) (n / 2 ^ 64, n % 2 ^ 64) rest
    (λ p mid. Some (p.0 * 2 ^ 64 + p.1, mid)) (omega (arith, few), omega arith)
    ∙ (λ i. Some (joined i, rest))

wide_finds : Finds (λ n. n < 2 ^ 128) wide_bytes wide_at
wide_finds = record { sound = wide_sound; again = wide_again }

unsigned_fits : (z : ℤ) → FitsSigned w128 z → cast_unsigned w128 z < 2 ^ 128
unsigned_fits z h = omega (arith, ints, h.sfits)

module _ (most : ℕ) (low : most ≤ 2 ^ 126) where
  sum_sound : (flat : List ℕ) (z : ℤ) (rest : List ℕ) → sum_at most flat ≡ Some (z, rest)
      → (unsigned_abs z ≤ most) × (flat ≡ sum_bytes z ++ rest)
  unfolding sum_at
  sum_sound flat z rest e =
      let a = found_first wide_finds flat (λ n mid.
      only (nat_le (unsigned_abs (cast_signed w128 n)) most) (Some (cast_signed w128 n, mid))) (z, rest) e in
      let found = cast_signed w128 a.0 in
      let b = only_some (nat_le (unsigned_abs found) most) (Some (found, a.1)) (z, rest) a.4 in
      carried (λ n. unsigned_abs n ≤ most) sum_bytes flat found z a.1 rest b.1 (leb-true (unsigned_abs found) most b.0)
      (a.3 ∙ (λ i. wide_bytes (sym (of_z-to_z w128 a.0 a.2) i) ++ a.1))

  sum_again : (z : ℤ) (rest : List ℕ) → unsigned_abs z ≤ most → sum_at most (sum_bytes z ++ rest) ≡ Some (z, rest)
  unfolding sum_at
  sum_again z rest h =
      let fits = fits_signed_from_abs w128 z (omega (arith, h, low)) in
      let back = to_z-of_z w128 z fits in
      first_again wide_finds (cast_unsigned w128 z) rest
      (λ n mid. only (nat_le (unsigned_abs (cast_signed w128 n)) most) (Some (cast_signed w128 n, mid)))
      (unsigned_fits z fits)
      ∙ (λ i. only (nat_le (unsigned_abs (back i)) most) (Some (back i, rest)))
      ∙ only_true (nat_le (unsigned_abs z) most) (Some (z, rest)) (le-leb (unsigned_abs z) most h)

  sum_finds : Finds (λ n. unsigned_abs n ≤ most) sum_bytes (sum_at most)
  sum_finds = record { sound = sum_sound; again = sum_again }

-- ---- counts in 8 bytes

long_counted_finds : {X : Type 0} {has : X → Type 0} {bytes : X → List ℕ} {read : Decoder X} → Finds has bytes read
    → Finds (λ xs. IsCount (length xs) × AllByRecursion has xs) (λ xs. count_bytes (length xs) ++ flat_map bytes xs)
    (long_counted_at read)
unfolding long_counted_at
long_counted_finds finds = counted_by count_finds finds

-- ---- rows

-- a row of sums
abbrev sum_row : List ℤ → RowDatum
sum_row ns = record { shown = sums ns; weight = None }

module _ (bound : ℕ) (element : Shape) (low : bound ≤ 2 ^ 63) where
  below : bound * 2 ^ 63 ≤ 2 ^ 126
  below = omega (arith, low)

  sum_row_sound : (flat : List ℕ) (rows : List RowDatum) (rest : List ℕ)
      → sum_row_at (bound * 2 ^ 63) (components element) flat ≡ Some (rows, rest)
      → AreSumRows bound element rows × (flat ≡ flat_map row_bytes rows ++ rest)
  unfolding sum_row_at
  sum_row_sound flat rows rest e =
      let a = found_first (counted_finds length_finds (sum_finds (bound * 2 ^ 63) below)) flat
      (λ ns mid. only (length ns == components element) (Some (sum_row ns ∷ [], mid))) (rows, rest) e in
      let b = only_some (length a.0 == components element) (Some (sum_row a.0 ∷ [], a.1)) (rows, rest) a.4 in
      let all = length_bytes (length a.0) ++ flat_map sum_bytes a.0 in
      carried (AreSumRows bound element) (flat_map row_bytes) flat (sum_row a.0 ∷ []) rows a.1 rest b.1
      (record { sums = (a.2.0, eqb-true (length a.0) (components element) b.0, a.2.1); weight = tt })
      (a.3 ∙ ap (λ l. l ++ a.1) (sym (append-nil (all ++ []) ∙ append-nil all)))

  sum_row_there : (shown : Shown) (weight : Option ℤ) (rest : List ℕ) → AreSavedSums bound element shown
      → IsSavedRank false weight → sum_row_at (bound * 2 ^ 63) (components element)
      (flat_map row_bytes (record { shown = shown; weight = weight } ∷ []) ++ rest)
      ≡ Some (record { shown = shown; weight = weight } ∷ [], rest)
  unfolding sum_row_at
  sum_row_there (sums ns) None rest h w =
      let all = length_bytes (length ns) ++ flat_map sum_bytes ns in
      first_there (counted_finds length_finds (sum_finds (bound * 2 ^ 63) below)) ns
      (flat_map row_bytes (sum_row ns ∷ []) ++ rest) rest (λ ms mid. only (length ms == components element)
      (Some (sum_row ms ∷ [], mid))) (h.0, h.2) (ap (λ l. l ++ rest) (append-nil (all ++ []) ∙ append-nil all))
      ∙ only_true (length ns == components element) (Some (sum_row ns ∷ [], rest))
      (eq-eqb (length ns) (components element) h.1)
  sum_row_there (sums ns) (Some n) rest h w = absurd w
  sum_row_there (one value) weight rest h w = absurd h
  sum_row_there overflow weight rest h w = absurd h

  sum_row_again : (rows : List RowDatum) (rest : List ℕ) → AreSumRows bound element rows
      → sum_row_at (bound * 2 ^ 63) (components element) (flat_map row_bytes rows ++ rest) ≡ Some (rows, rest)
  sum_row_again [] rest h = absurd h
  sum_row_again (row ∷ []) rest h = sum_row_there row.shown row.weight rest h.sums h.weight
  sum_row_again (row ∷ other ∷ rows) rest h = absurd h

  sum_row_finds : Finds (AreSumRows bound element) (flat_map row_bytes)
      (sum_row_at (bound * 2 ^ 63) (components element))
  sum_row_finds = record { sound = sum_row_sound; again = sum_row_again }

rank_sound : (ranked : Bool) (flat : List ℕ) (w : Option ℤ) (rest : List ℕ) → rank_at ranked flat ≡ Some (w, rest)
    → IsSavedRank ranked w × (flat ≡ rank_bytes w ++ rest)
unfolding rank_at
rank_sound false flat w rest e = carried (IsSavedRank false) rank_bytes flat None w flat rest e tt refl
rank_sound true flat w rest e =
    let a = found_first number_finds flat (λ n mid. Some (Some n, mid)) (w, rest) e in
    carried (IsSavedRank true) rank_bytes flat (Some a.0) w a.1 rest a.4 a.2 a.3

rank_again : (ranked : Bool) (w : Option ℤ) (rest : List ℕ) → IsSavedRank ranked w
    → rank_at ranked (rank_bytes w ++ rest) ≡ Some (w, rest)
unfolding rank_at
rank_again false None rest h = refl
rank_again false (Some n) rest h = absurd h
rank_again true None rest h = absurd h
rank_again true (Some n) rest h = first_again number_finds n rest (λ m mid. Some (Some m, mid)) h

rank_finds : (ranked : Bool) → Finds (IsSavedRank ranked) rank_bytes (rank_at ranked)
rank_finds ranked = record { sound = rank_sound ranked; again = rank_again ranked }

-- a row of a value
abbrev value_row : Datum → Option ℤ → RowDatum
value_row value weight = record { shown = one value; weight = weight }

module _ (ranked : Bool) (element : Shape) where
  row_sound : (flat : List ℕ) (row : RowDatum) (rest : List ℕ) → row_at ranked element flat ≡ Some (row, rest)
      → IsSavedRow ranked element row × (flat ≡ row_bytes row ++ rest)
  unfolding row_at
  row_sound flat row rest e =
      let a = found_first (sized_finds element) flat (λ value mid.
      and_then (rank_at ranked mid) (λ weight more. Some (value_row value weight, more))) (row, rest) e in
      let b = found_first (rank_finds ranked) a.1 (λ weight more. Some (value_row a.0 weight, more)) (row, rest) a.4 in
      carried (IsSavedRow ranked element) row_bytes flat
      (value_row a.0 b.0) row b.1 rest b.4 (record { value = a.2; weight = b.2 })
      (two_parts flat (value_bytes a.0) a.1 (rank_bytes b.0) b.1 a.3 b.3)

  row_there : (shown : Shown) (weight : Option ℤ) (rest : List ℕ) → ShowsSavedValue element shown
      → IsSavedRank ranked weight
      → row_at ranked element (row_bytes (record { shown = shown; weight = weight }) ++ rest)
      ≡ Some (record { shown = shown; weight = weight }, rest)
  unfolding row_at
  row_there (one d) weight rest h w =
      first_there (sized_finds element) d (row_bytes (value_row d weight) ++ rest) (rank_bytes weight ++ rest)
      (λ value mid. and_then (rank_at ranked mid) (λ w more. Some (value_row value w, more))) h
      (append_assoc (value_bytes d) (rank_bytes weight) rest)
      ∙ first_again (rank_finds ranked) weight rest (λ w more. Some (value_row d w, more)) w
  row_there (sums ns) weight rest h w = absurd h
  row_there overflow weight rest h w = absurd h

  row_finds : Finds (IsSavedRow ranked element) row_bytes (row_at ranked element)
  row_finds = record { sound = row_sound; again = λ row rest h. row_there row.shown row.weight rest h.value h.weight }

-- rows that were counted are those of a table where the test says so
module _ (kind : TableKind) (ranked : Bool) (most : ℕ) (element : Shape) (short : ℕ → Type 0)
    (bytes : List RowDatum → List ℕ) (read : Decoder (List RowDatum))
    (fits : (n : ℕ) → n ≤ most → short n)
    (finds : Finds (λ rows. short (length rows) × AllByRecursion (IsSavedRow ranked element) rows) bytes read) where
  rows_sound : (flat : List ℕ) (rows : List RowDatum) (rest : List ℕ)
      → rows_in kind most (read flat) ≡ Some (rows, rest)
      → AreSavedRows kind ranked most element rows × (flat ≡ bytes rows ++ rest)
  rows_sound flat rows rest e =
      let a = found_first finds flat (λ rs mid. only (are_rows kind most rs) (Some (rs, mid))) (rows, rest) e in
      let b = only_some (are_rows kind most a.0) (Some (a.0, a.1)) (rows, rest) a.4 in
      let first =
      and_parts (nat_le 1 (length a.0)) (nat_le (length a.0) most && in_order (row_may_follow kind) a.0) b.0 in
      let second = and_parts (nat_le (length a.0) most) (in_order (row_may_follow kind) a.0) first.1 in
      carried (AreSavedRows kind ranked most element) bytes flat a.0 rows a.1 rest b.1
      (record {
        some = leb-true 1 (length a.0) first.0;
        few = leb-true (length a.0) most second.0;
        each = a.2.1;
        ordered = second.1;
      }) a.3

  rows_again : (rows : List RowDatum) (rest : List ℕ) → AreSavedRows kind ranked most element rows
      → rows_in kind most (read (bytes rows ++ rest)) ≡ Some (rows, rest)
  rows_again rows rest h =
      first_again finds rows rest (λ rs mid. only (are_rows kind most rs) (Some (rs, mid)))
      (fits (length rows) h.few, h.each) ∙ only_true (are_rows kind most rows) (Some (rows, rest))
      (and_from (nat_le 1 (length rows)) (nat_le (length rows) most && in_order (row_may_follow kind) rows)
      (le-leb 1 (length rows) h.some) (and_from (nat_le (length rows) most) (in_order (row_may_follow kind) rows)
      (le-leb (length rows) most h.few) h.ordered))

  rows_finds : Finds (AreSavedRows kind ranked most element) bytes (λ flat. rows_in kind most (read flat))
  rows_finds = record { sound = rows_sound; again = rows_again }

-- the bytes of rows behind their number in 4 bytes
abbrev few_bytes : List RowDatum → List ℕ
few_bytes rows = length_bytes (length rows) ++ flat_map row_bytes rows

few_rows_finds : (kind : TableKind) (ranked : Bool) (most : ℕ) (element : Shape) → IsShort most
    → Finds (AreSavedRows kind ranked most element) few_bytes (few_rows_at kind ranked most element)
unfolding few_rows_at
few_rows_finds kind ranked most element short =
    rows_finds kind ranked most element IsShort few_bytes (counted_at (row_at ranked element))
    (λ n low. omega (arith, low, short)) (counted_finds length_finds (row_finds ranked element))

many_rows_finds : (kind : TableKind) (ranked : Bool) (element : Shape)
    → Finds (AreSavedRows kind ranked (2 ^ 64 - 1) element)
    (λ rows. count_bytes (length rows) ++ flat_map row_bytes rows) (many_rows_at kind ranked (2 ^ 64 - 1) element)
unfolding many_rows_at
many_rows_finds kind ranked element =
    rows_finds kind ranked (2 ^ 64 - 1) element IsCount (λ rows. count_bytes (length rows) ++ flat_map row_bytes rows)
    (long_counted_at (row_at ranked element))
    (λ n low. omega (arith, low)) (long_counted_finds (row_finds ranked element))

-- ---- sets

-- rows of values say of no set that it has too many
no_overflow : (element : Shape) (shown : Shown) → ShowsSavedValue element shown → is_overflow shown ≡ false
no_overflow element (one d) h = refl
no_overflow element (sums ns) h = refl
no_overflow element overflow h = absurd h

none_overflow : (most : ℕ) (element : Shape) (rows : List RowDatum) → AreSavedRows Set false most element rows
    → overflows rows ≡ false
none_overflow most element [] h = absurd (let some = h.some in omega (arith, some))
none_overflow most element (row ∷ rows) h = no_overflow element row.shown h.each.0.value

module _ (limit : ℕ) (element : Shape) (short : IsShort limit) where
  -- what a set has under an index list
  abbrev IsSet : List RowDatum → Type 0
  IsSet rows = (rows ≡ overflow_row ∷ []) ⊎ AreSavedRows Set false limit element rows

  abbrev set_bytes : List RowDatum → List ℕ
  set_bytes rows = front_bytes Set rows ++ flat_map row_bytes rows

  value_bytes_are : (rows : List RowDatum) → AreSavedRows Set false limit element rows
      → set_bytes rows ≡ 0 ∷ few_bytes rows
  value_bytes_are rows h = ap (λ b. (if b then 1 ∷ [] else 0 ∷ length_bytes (length rows)) ++ flat_map row_bytes rows)
      (none_overflow limit element rows h)

  abbrev behind : ℕ → List ℕ → Option (List RowDatum × List ℕ)
  behind b rest =
      if b == 0 then few_rows_at Set false limit element rest else only (b == 1) (Some (overflow_row ∷ [], rest))

  set_sound : (flat : List ℕ) (rows : List RowDatum) (rest : List ℕ) → set_at limit element flat ≡ Some (rows, rest)
      → IsSet rows × (flat ≡ set_bytes rows ++ rest)
  unfolding set_at
  set_sound flat rows rest e =
      let a = then_some (byte_at flat) behind (rows, rest) e in
      let byte = byte_some flat a.0 a.1 a.2 in
      ⊎_elim
      (λ h.
      let is = (few_rows_finds Set false limit element short).sound a.1 rows rest h.1 in
      (inr is.0, byte ∙ (λ i. eqb-true a.0 0 h.0 i ∷ is.1 i) ∙ ap (λ l. l ++ rest) (sym (value_bytes_are rows is.0))))
      (λ h.
      let b = only_some (a.0 == 1) (Some (overflow_row ∷ [], a.1)) (rows, rest) h.1 in
      carried IsSet set_bytes flat (overflow_row ∷ []) rows a.1 rest b.1 (inl refl)
      (byte ∙ (λ i. eqb-true a.0 1 b.0 i ∷ a.1))) (if_some (a.0 == 0) (few_rows_at Set false limit element a.1)
      (only (a.0 == 1) (Some (overflow_row ∷ [], a.1))) (rows, rest) a.3)

  set_again : (rows : List RowDatum) (rest : List ℕ) → IsSet rows
      → set_at limit element (set_bytes rows ++ rest) ≡ Some (rows, rest)
  unfolding set_at
  set_again rows rest h =
      ⊎_elim
      (λ is. subst (λ rs. set_at limit element (set_bytes rs ++ rest) ≡ Some (rs, rest)) (sym is) refl)
      (λ are. ap (λ l. set_at limit element (l ++ rest)) (value_bytes_are rows are)
      ∙ (few_rows_finds Set false limit element short).again rows rest are)
      h

  set_finds : Finds IsSet set_bytes (set_at limit element)
  set_finds = record { sound = set_sound; again = set_again }

-- ---- the rows of each kind, entries, and all of a table

kind_rows_finds : (kind : TableKind) (bound limit : ℕ) (element : Shape) → bound ≤ 2 ^ 63 → IsShort limit
    → Finds (HaveRows kind bound limit element) (λ rows. front_bytes kind rows ++ flat_map row_bytes rows)
    (kind_rows_at kind bound limit element)
unfolding kind_rows_at
kind_rows_finds Sum bound limit element low short = sum_row_finds bound element low
kind_rows_finds Maximum bound limit element low short = few_rows_finds Maximum true limit element short
kind_rows_finds Minimum bound limit element low short = few_rows_finds Minimum true limit element short
kind_rows_finds Set bound limit element low short = set_finds limit element short
kind_rows_finds Collection bound limit element low short = many_rows_finds Collection false element

module _ (bound : ℕ) (table : Declaration) (low : bound ≤ 2 ^ 63) (short : IsShort table.limit) where
  abbrev rows_behind : List Datum → List ℕ → Option (Indexed × List ℕ)
  rows_behind indexes rest =
      and_then (kind_rows_at table.kind bound table.limit table.element rest)
      (λ rows more. Some (record { indexes = indexes; rows = rows }, more))

  abbrev rest_bytes : List RowDatum → List ℕ
  rest_bytes rows = front_bytes table.kind rows ++ flat_map row_bytes rows

  entry_sound : (flat : List ℕ) (entry : Indexed) (rest : List ℕ) → entry_at bound table flat ≡ Some (entry, rest)
      → IsSavedEntry bound table entry × (flat ≡ entry_bytes table.kind entry ++ rest)
  unfolding entry_at
  entry_sound flat entry rest e =
      let a = found_first (indexes_finds table.indexes) flat rows_behind (entry, rest) e in
      let b = found_first (kind_rows_finds table.kind bound table.limit table.element low short) a.1
      (λ rows more. Some (record { indexes = a.0; rows = rows }, more)) (entry, rest) a.4 in
      carried (IsSavedEntry bound table) (entry_bytes table.kind) flat
      (record { indexes = a.0; rows = b.0 }) entry b.1 rest b.4 (record { indexes = a.2; rows = b.2 })
      (two_parts flat (flat_map value_bytes a.0) a.1 (rest_bytes b.0) b.1 a.3 b.3)

  entry_again : (entry : Indexed) (rest : List ℕ) → IsSavedEntry bound table entry
      → entry_at bound table (entry_bytes table.kind entry ++ rest) ≡ Some (entry, rest)
  unfolding entry_at
  entry_again entry rest h =
      first_there (indexes_finds table.indexes) entry.indexes (entry_bytes table.kind entry ++ rest)
      (rest_bytes entry.rows ++ rest) rows_behind h.indexes
      (append_assoc (flat_map value_bytes entry.indexes) (rest_bytes entry.rows) rest)
      ∙ first_again (kind_rows_finds table.kind bound table.limit table.element low short) entry.rows rest
      (λ rows more. Some (record { indexes = entry.indexes; rows = rows }, more)) h.rows

  pub entry_finds : Finds (IsSavedEntry bound table) (entry_bytes table.kind) (entry_at bound table)
  entry_finds = record { sound = entry_sound; again = entry_again }

  none_at_zero : (b z : Bool) (entries : List Indexed) → (bound == 0) ≡ b → (length entries == 0) ≡ z
      → (not b || z) ≡ true → bound ≡ 0 → entries ≡ []
  none_at_zero true true entries is empty test nothing = nil_from_length entries (eqb-true (length entries) 0 empty)
  none_at_zero true false entries is empty test nothing = absurd (true≢false (sym test))
  none_at_zero false z entries is empty test nothing = absurd (true≢false (sym (eq-eqb bound 0 nothing) ∙ is))

  zero_or_some : (b : Bool) (entries : List Indexed) → (bound == 0) ≡ b → (bound ≡ 0 → entries ≡ [])
      → (not b || length entries == 0) ≡ true
  zero_or_some true entries is none = eq-eqb (length entries) 0 (ap length (none (eqb-true bound 0 is)))
  zero_or_some false entries is none = refl

  entries_sound : (flat : List ℕ) (entries : List Indexed) (rest : List ℕ)
      → entries_at bound table flat ≡ Some (entries, rest)
      → AreSavedEntries bound table entries × (flat ≡ entries_bytes table.kind entries ++ rest)
  unfolding entries_at
  entries_sound flat entries rest e =
      let a = found_first (long_counted_finds entry_finds) flat
      (λ es mid. only (are_entries bound es) (Some (es, mid))) (entries, rest) e in
      let b = only_some (are_entries bound a.0) (Some (a.0, a.1)) (entries, rest) a.4 in
      let both = and_parts (not (bound == 0) || length a.0 == 0) (in_order entry_may_follow a.0) b.0 in
      carried (AreSavedEntries bound table) (entries_bytes table.kind) flat a.0 entries a.1 rest b.1
      (record {
        few = a.2.0;
        none = none_at_zero (bound == 0) (length a.0 == 0) a.0 refl refl both.0;
        each = a.2.1;
        rising = both.1;
      }) a.3

  entries_again : (entries : List Indexed) (rest : List ℕ) → AreSavedEntries bound table entries
      → entries_at bound table (entries_bytes table.kind entries ++ rest) ≡ Some (entries, rest)
  unfolding entries_at
  entries_again entries rest h =
      first_again (long_counted_finds entry_finds) entries rest
      (λ es mid. only (are_entries bound es) (Some (es, mid))) (h.few, h.each)
      ∙ only_true (are_entries bound entries) (Some (entries, rest))
      (and_from (not (bound == 0) || length entries == 0) (in_order entry_may_follow entries)
      (zero_or_some (bound == 0) entries refl h.none) h.rising)

  pub entries_finds : Finds (AreSavedEntries bound table) (entries_bytes table.kind) (entries_at bound table)
  entries_finds = record { sound = entries_sound; again = entries_again }
