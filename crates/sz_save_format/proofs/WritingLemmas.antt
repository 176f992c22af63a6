-- What is appended, part by part.
use Rattle.std.proofs.Common.{◌≡◌, ◌∙◌, ℕ, ℤ, zero, suc, ◌<◌, ◌≤◌, ◌+◌, ◌/◌, ◌%◌, ◌^◌, Bool, true, false, List, [], ◌∷◌, ◌++◌, All, length, map, zip, flat_map, get_or, take, drop, ⊎_elim, refl, sym, ap, subst, append_assoc, append-nil, arith, take_all}
use Rattle.std.specs.Int.{w64, to_be_bytes}
use Rattle.std.specs.List.{AllByRecursion}
use Rattle.std.specs.Int.{w128, cast_unsigned}
use Rattle.std.proofs.lemmas.List.{take_more}
use Rattle.std.proofs.lemmas.List.Concat.{flat_map-append}
use Rattle.std.proofs.lemmas.List.Elements.{All-from_recursion}
use Rattle.sz_types.specs.Data.{Shape, FieldShape, fields_of}
use Rattle.sz_types.specs.Tables.{Declaration}
use Rattle.sz_types.specs.declared.table.TableKind.{TableKind}
use Rattle.sz_types.specs.declared.table.TableKind.TheVariants.{Sum, Maximum, Minimum, Set, Collection}
use Rattle.sz_value.specs.Data.{Datum, data_of}
use Rattle.sz_flat.specs.Spelling.{length_bytes, HasSpelling, HasShortLengths, HaveShortLengths}
use Rattle.sz_flat.proofs.ForCallers.{short_spelling}
use Rattle.sz_tabs.specs.Data.{Shown, one, sums, overflow, RowDatum}
use Rattle.sz_total.specs.Tables.{Indexed}
use Rattle.sz_save_format.specs.Types.{type_bytes}
use Rattle.sz_save_format.specs.Entries.{count_bytes, wide_bytes, sum_bytes, ShowsSavedValue, IsSavedRow, AreSavedValues, AreSumRows, AreSavedSums, HaveRows, IsSavedEntry}
use Rattle.sz_save_format.specs.Fields.{field_bytes}
use Rattle.sz_save_format.specs.Saved.{SavedState, table_bytes, IsSavedTable, CanBeSaved}
use Rattle.sz_save_format.specs.Short.{ShowsShort, HasShortRow, HasShortEntry}
use Rattle.sz_save_format.proofs.TypeLemmas.{count_of, bytes_of}

-- the low four bytes of a count are those of a length
pub low_bytes : (n : ℕ) → drop 4 (to_be_bytes w64 n) ≡ length_bytes n
low_bytes n = refl

-- the bytes of a type with fields
pub tuple_bytes : (fs : List FieldShape)
    → type_bytes (Shape.tuple (fields_of fs)) ≡ 7 ∷ (length_bytes (length fs) ++ flat_map (field_bytes false) fs)
tuple_bytes fs = λ i. 7 ∷ (length_bytes (count_of fs i) ++ bytes_of false fs i)

pub proto_bytes : (fs : List FieldShape)
    → type_bytes (Shape.proto (fields_of fs)) ≡ 9 ∷ (length_bytes (length fs) ++ flat_map (field_bytes true) fs)
proto_bytes fs = λ i. 9 ∷ (length_bytes (count_of fs i) ++ bytes_of true fs i)

-- what can be saved has short lengths
short_value : (d : Datum) → HasSpelling d → HasShortLengths d
short_value d h = short_spelling _ d (record { spelled = h; is = refl })

short_values : (ts : List Shape) (ds : List Datum) → AreSavedValues ts ds → HaveShortLengths (data_of ds)
short_values [] [] h = tt
short_values [] (d ∷ ds) h = absurd h
short_values (t ∷ ts) [] h = absurd h
short_values (t ∷ ts) (d ∷ ds) h = (short_value d h.0.has, short_values ts ds h.1)

short_shown : (element : Shape) (shown : Shown) → ShowsSavedValue element shown → ShowsShort shown
short_shown element (one d) h = short_value d h.has
short_shown element (sums ns) h = absurd h
short_shown element overflow h = absurd h

short_sums : (bound : ℕ) (element : Shape) (shown : Shown) → AreSavedSums bound element shown → ShowsShort shown
short_sums bound element (one d) h = absurd h
short_sums bound element (sums ns) h = tt
short_sums bound element overflow h = tt

rows_short : (ranked : Bool) (element : Shape) (rows : List RowDatum)
    → AllByRecursion (IsSavedRow ranked element) rows → AllByRecursion HasShortRow rows
rows_short ranked element [] h = tt
rows_short ranked element (row ∷ rows) h = (short_shown element row.shown h.0.value, rows_short ranked element rows h.1)

sum_rows_short : (bound : ℕ) (element : Shape) (rows : List RowDatum) → AreSumRows bound element rows
    → AllByRecursion HasShortRow rows
sum_rows_short bound element [] h = absurd h
sum_rows_short bound element (row ∷ []) h = (short_sums bound element row.shown h.sums, tt)
sum_rows_short bound element (row ∷ other ∷ rows) h = absurd h

kind_rows_short : (kind : TableKind) (bound limit : ℕ) (element : Shape) (rows : List RowDatum)
    → HaveRows kind bound limit element rows → AllByRecursion HasShortRow rows
kind_rows_short Sum bound limit element rows h = sum_rows_short bound element rows h
kind_rows_short Maximum bound limit element rows h = rows_short true element rows h.each
kind_rows_short Minimum bound limit element rows h = rows_short true element rows h.each
kind_rows_short Set bound limit element rows h =
    ⊎_elim (λ is. subst (AllByRecursion HasShortRow) (sym is) (tt, tt))
    (λ are. rows_short false element rows are.each) h
kind_rows_short Collection bound limit element rows h = rows_short false element rows h.each

entries_short : (bound : ℕ) (table : Declaration) (entries : List Indexed)
    → AllByRecursion (IsSavedEntry bound table) entries → AllByRecursion HasShortEntry entries
entries_short bound table [] h = tt
entries_short bound table (e ∷ entries) h = (
  record {
    indexes = short_values table.indexes e.indexes h.0.indexes;
    rows = All-from_recursion HasShortRow e.rows
        (kind_rows_short table.kind bound table.limit table.element e.rows h.0.rows);
  },
  entries_short bound table entries h.1,
)

tables_short : (bound : ℕ) (ds : List Declaration) (ts : List (List Indexed)) → length ts ≡ length ds
    → AllByRecursion (IsSavedTable bound) (zip ds ts) → AllByRecursion (All HasShortEntry) ts
tables_short bound [] [] long h = tt
tables_short bound [] (t ∷ ts) long h = absurd (omega (arith, long))
tables_short bound (d ∷ ds) [] long h = absurd (omega (arith, long))
tables_short bound (d ∷ ds) (t ∷ ts) long h = (
  All-from_recursion HasShortEntry t (entries_short bound d t h.0.entries.each),
  tables_short bound ds ts (omega (arith, long)) h.1,
)

pub saved_short : (saved : SavedState) → CanBeSaved saved → All (All HasShortEntry) saved.tables
saved_short saved h = All-from_recursion (All HasShortEntry) saved.tables
    (tables_short saved.bound saved.decls saved.tables h.as_many h.each)

-- tables one by one
module _ (ds : List Declaration) (ts : List (List Indexed)) (i : ℕ) (d : Declaration) (t : List Indexed) where
  pub zip_take : i < length ds → i < length ts → d ≡ get_or ds i d → t ≡ get_or ts i t
      → take (i + 1) (zip ds ts) ≡ take i (zip ds ts) ++ (d, t) ∷ []
  zip_take less below is there = by ds ts i less below is there
    where
      by : (es : List Declaration) (us : List (List Indexed)) (j : ℕ) → j < length es → j < length us
          → d ≡ get_or es j d → t ≡ get_or us j t → take (j + 1) (zip es us) ≡ take j (zip es us) ++ (d, t) ∷ []
      by [] us j less below is there = absurd (omega (arith, less))
      by (e ∷ es) [] j less below is there = absurd (omega (arith, below))
      by (e ∷ es) (u ∷ us) zero less below is there = λ i. (sym is i, sym there i) ∷ []
      by (e ∷ es) (u ∷ us) (suc j) less below is there =
          let next : suc j + 1 ≡ suc (j + 1) = omega arith in
          ap (λ n. take n (zip (e ∷ es) (u ∷ us))) next
          ∙ ap (λ l. (e, u) ∷ l) (by es us j (omega (arith, less)) (omega (arith, below)) is there)

-- one thing more at the end
pub one_appended : {X : Type 0} (f : X → List ℕ) (xs : List X) (i : ℕ) (x : X) (first now next : List ℕ)
    → i < length xs → x ≡ get_or xs i x
    → now ≡ first ++ flat_map f (take i xs) → next ≡ now ++ f x → next ≡ first ++ flat_map f (take (i + 1) xs)
one_appended f xs i x first now next less is so_far with_one =
    let taken : take (i + 1) xs ≡ take i xs ++ x ∷ [] =
    take_more xs i x less ∙ ap (λ y. take i xs ++ y ∷ []) (sym is) in
    let joined : flat_map f (take i xs ++ x ∷ []) ≡ flat_map f (take i xs) ++ f x =
    flat_map-append f (take i xs) (x ∷ []) ∙ ap (λ l. flat_map f (take i xs) ++ l) (append-nil (f x)) in
    with_one ∙ ap (λ l. l ++ f x) so_far ∙ append_assoc first (flat_map f (take i xs)) (f x)
    ∙ ap (λ l. first ++ l) (sym joined ∙ ap (flat_map f) (sym taken))

pub sum_put : (old now new : List ℕ) (bits : ℕ) (sum : ℤ) → bits ≡ cast_unsigned w128 sum
    → now ≡ old ++ count_bytes (bits / 2 ^ 64) → new ≡ now ++ count_bytes (bits % 2 ^ 64) → new ≡ old ++ sum_bytes sum
sum_put old now new bits sum is high low =
    low ∙ ap (λ l. l ++ count_bytes (bits % 2 ^ 64)) high
    ∙ append_assoc old (count_bytes (bits / 2 ^ 64)) (count_bytes (bits % 2 ^ 64))
    ∙ ap (λ n. old ++ wide_bytes n) is

pub fields_put : (numbered : Bool) (kind : ℕ) (old now new : List ℕ) (fs : List FieldShape) (n : ℕ) (t : Shape)
    → n ≡ length fs
    → type_bytes t ≡ kind ∷ (length_bytes (length fs) ++ flat_map (field_bytes numbered) fs) → now ≡ old ++ kind ∷ []
    → new ≡ now ++ (length_bytes n ++ flat_map (field_bytes numbered) fs) → new ≡ old ++ type_bytes t
fields_put numbered kind old now new fs n t many are begun written =
    let rest = length_bytes n ++ flat_map (field_bytes numbered) fs in
    written ∙ ap (λ l. l ++ rest) begun ∙ append_assoc old (kind ∷ []) rest
    ∙ ap (λ l. old ++ l) ((λ i. kind ∷ (length_bytes (many i) ++ flat_map (field_bytes numbered) fs)) ∙ sym are)

pub seen_at : {A B : Type 0} (f : A → B) (xs : List A) (i : ℕ) (x : A) → x ≡ get_or xs i x
    → f x ≡ get_or (map f xs) i (f x)
seen_at f [] i x is = refl
seen_at f (y ∷ xs) zero x is = ap f is
seen_at f (y ∷ xs) (suc i) x is = seen_at f xs i x is

pub table_appended : (ds : List Declaration) (ts : List (List Indexed)) (i : ℕ) (d : Declaration) (t : List Indexed)
    (first now next : List ℕ) → i < length ds → i < length ts → d ≡ get_or ds i d → t ≡ get_or ts i t
    → now ≡ first ++ flat_map table_bytes (take i (zip ds ts))
    → next ≡ now ++ table_bytes (d, t) → next ≡ first ++ flat_map table_bytes (take (i + 1) (zip ds ts))
table_appended ds ts i d t first now next less below is there so_far with_one =
    let front = take i (zip ds ts) in
    let joined : flat_map table_bytes (front ++ (d, t) ∷ []) ≡ flat_map table_bytes front ++ table_bytes (d, t) =
    flat_map-append table_bytes front ((d, t) ∷ [])
    ∙ ap (λ l. flat_map table_bytes front ++ l) (append-nil (table_bytes (d, t))) in
    with_one ∙ ap (λ l. l ++ table_bytes (d, t)) so_far
    ∙ append_assoc first (flat_map table_bytes front) (table_bytes (d, t))
    ∙ ap (λ l. first ++ l) (sym joined ∙ ap (flat_map table_bytes) (sym (zip_take ds ts i d t less below is there)))

zip_short : (ds : List Declaration) (ts : List (List Indexed)) → length (zip ds ts) ≤ length ds
zip_short [] ts = omega arith
zip_short (d ∷ ds) [] = omega arith
zip_short (d ∷ ds) (t ∷ ts) = let later = zip_short ds ts in omega (arith, later)

pub tables_end : (ds : List Declaration) (ts : List (List Indexed)) (i : ℕ) (first now : List ℕ) → length ds ≤ i
    → now ≡ first ++ flat_map table_bytes (take i (zip ds ts)) → now ≡ first ++ flat_map table_bytes (zip ds ts)
tables_end ds ts i first now last so_far =
    let short = zip_short ds ts in
    so_far ∙ ap (λ l. first ++ flat_map table_bytes l) (take_all i (zip ds ts) (omega (arith, last, short)))
