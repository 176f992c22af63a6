-- Values in front of bytes: what is found is a value of the type, and each such value is found.
use Rattle.std.proofs.Common.{◌≡◌, ◌∙◌, ℕ, ℤ, ◌<◌, ◌^◌, ◌==◌, Bool, true, false, true≢false, ◌&&◌, if◌then◌else◌, ⊎_elim, Some, List, [], ◌∷◌, ◌++◌, length, flat_map, refl, sym, ap, subst, append_assoc, arith, eqb-true, eq-eqb, is_lt, Less}
use Rattle.std.specs.Int.{w64, cast_signed, cast_unsigned, to_be_bytes}
use Rattle.std.specs.Int.RustNames.{FitsSigned}
use Rattle.std.specs.List.{AllByRecursion}
use Rattle.std.specs.List.Sorted.{IsStrictlySortedBy}
use Rattle.std.specs.Map.{keys_of}
use Rattle.std.specs.Str.{is_utf8}
use Rattle.std.proofs.lemmas.Bool.{and_parts, and_from}
use Rattle.std.proofs.lemmas.Int.{of_z-to_z, to_z-of_z, ints}
use Rattle.std.proofs.lemmas.Str.{IsUtf8-from_is_utf8, is_utf8-from_IsUtf8}
use borrow.Author.Gap.{read_sfits}
use Rattle.sz_types.specs.Data.{Shape, FieldShapes, no_fields, with_field, field}
use Rattle.sz_value.specs.Data.{Datum, truth, int, time, str, bytes, array, tuple, mapping, Data, no_data, datum, data_of, parts_of, Entries, no_entries, entry, entries_of, pairs_of}
use Rattle.sz_value.specs.Order.{compare, KeysRise}
use Rattle.sz_value.specs.Total.{compare_total}
use Rattle.sz_types.specs.Types.{has_type, all_have, parts_fit, pairs_have}
use Rattle.sz_flat.specs.Spelling.{length_bytes, number_bytes, spelling, spelled_parts, spelled_pairs, IsShort, HasSpelling, HaveSpellings, PairsHaveSpellings}
use Rattle.sz_flat.proofs.FrontLemmas.{parts_again, pairs_again, data_again, entries_again}
use Rattle.sz_flat.proofs.RisingLemmas.{is_less}
use Rattle.sz_save_format.specs.Types.{field_count}
use Rattle.sz_save_format.specs.Entries.{in_order}
use Rattle.sz_save_format.specs.Decoding.{Decoder, and_then, only, byte_at, tag_at, tagged, put_first, string_at}
use Rattle.sz_save_format.specs.DecodingRows.{number_at, truth_at, text_at, key_may_follow, array_at, mapping_at, tuple_at, value_at, parts_at}
use Rattle.sz_save_format.proofs.FrontLemmas.{Finds, none_some, then_some, only_some, only_true, found_is, found_first, first_again, first_there, byte_some, if_some, put_first_some, carried, two_parts, counted_finds, both_finds}
use Rattle.sz_save_format.proofs.NameLemmas.{length_finds, count_finds, string_finds}

unsigned_fits : (z : ℤ) → FitsSigned w64 z → cast_unsigned w64 z < 2 ^ 64
unsigned_fits z h = omega (arith, ints, h.sfits)

number_sound : (flat : List ℕ) (z : ℤ) (rest : List ℕ) → number_at flat ≡ Some (z, rest)
    → FitsSigned w64 z × (flat ≡ number_bytes z ++ rest)
unfolding number_at
number_sound flat z rest e =
    let first = found_first count_finds flat (λ n mid. Some (cast_signed w64 n, mid)) (z, rest) e in
    carried (FitsSigned w64) number_bytes flat (cast_signed w64 first.0) z first.1 rest first.4 (read_sfits w64 first.0)
    (first.3 ∙ (λ i. to_be_bytes w64 (sym (of_z-to_z w64 first.0 first.2) i) ++ first.1))

number_again : (z : ℤ) (rest : List ℕ) → FitsSigned w64 z → number_at (number_bytes z ++ rest) ≡ Some (z, rest)
unfolding number_at
number_again z rest h =
    first_again count_finds (cast_unsigned w64 z) rest (λ n mid. Some (cast_signed w64 n, mid)) (unsigned_fits z h)
    ∙ (λ i. Some (to_z-of_z w64 z h i, rest))

pub number_finds : Finds (FitsSigned w64) number_bytes number_at
number_finds = record { sound = number_sound; again = number_again }

-- a value has the type and a spelling
abbrev pub HasTyped : Shape → Datum → Type 0
HasTyped t d = HasSpelling d × (has_type d t ≡ true)

tag_told : (kind : ℕ) (flat : List ℕ) (x : ℕ) (rest : List ℕ) → tag_at kind flat ≡ Some (x, rest) → flat ≡ kind ∷ rest
tag_told kind [] x rest e = absurd (none_some e)
tag_told kind (b ∷ flat) x rest e =
    let parts = only_some (b == kind) (Some (0, flat)) (x, rest) e in
    let same = found_is 0 x flat rest parts.1 in
    λ i. eqb-true b kind parts.0 i ∷ same.1 i

tagged_some : {X : Type 0} (kind : ℕ) (read : Decoder X) (flat : List ℕ) (x : X × List ℕ)
    → tagged kind read flat ≡ Some x → (behind : List ℕ) × (flat ≡ kind ∷ behind) × (read behind ≡ Some x)
tagged_some kind read flat x e = let a = then_some (tag_at kind flat) (λ _ rest. read rest) x e in
    (a.1, tag_told kind flat a.0 a.1 a.2, a.3)

-- the bytes of parts and of pairs are those of the lists
parts_bytes : (ds : List Datum) → flat_map spelling ds ≡ spelled_parts (data_of ds)
parts_bytes [] = refl
parts_bytes (d ∷ ds) = ap (λ l. spelling d ++ l) (parts_bytes ds)

abbrev pair_bytes : Datum × Datum → List ℕ
pair_bytes p = spelling p.0 ++ spelling p.1

pairs_bytes : (ps : List (Datum × Datum)) → flat_map pair_bytes ps ≡ spelled_pairs (entries_of ps)
pairs_bytes [] = refl
pairs_bytes (p ∷ ps) =
    append_assoc (spelling p.0) (spelling p.1) (flat_map pair_bytes ps)
    ∙ ap (λ l. spelling p.0 ++ (spelling p.1 ++ l)) (pairs_bytes ps)

-- parts of one type
all_typed : (t : Shape) (ds : List Datum) → AllByRecursion (HasTyped t) ds
    → HaveSpellings (data_of ds) × (all_have (data_of ds) t ≡ true)
all_typed t [] h = (tt, refl)
all_typed t (d ∷ ds) h =
    let later = all_typed t ds h.1 in
    ((h.0.0, later.0), and_from (has_type d t) (all_have (data_of ds) t) h.0.1 later.1)

typed_all : (t : Shape) (ds : Data) → HaveSpellings ds → all_have ds t ≡ true
    → AllByRecursion (HasTyped t) (parts_of ds)
typed_all t no_data h typed = tt
typed_all t (datum d ds) h typed =
    let both = and_parts (has_type d t) (all_have ds t) typed in
    ((h.0, both.0), typed_all t ds h.1 both.1)

-- keys of one type and values of another
abbrev HasTypedPair : Shape → Shape → Datum × Datum → Type 0
HasTypedPair k v p = HasTyped k p.0 × HasTyped v p.1

pairs_typed : (k v : Shape) (ps : List (Datum × Datum)) → AllByRecursion (HasTypedPair k v) ps
    → PairsHaveSpellings (entries_of ps) × (pairs_have (entries_of ps) k v ≡ true)
pairs_typed k v [] h = (tt, refl)
pairs_typed k v (p ∷ ps) h =
    let later = pairs_typed k v ps h.1 in (
      (h.0.0.0, h.0.1.0, later.0),
      and_from (has_type p.0 k && has_type p.1 v) (pairs_have (entries_of ps) k v)
          (and_from (has_type p.0 k) (has_type p.1 v) h.0.0.1 h.0.1.1) later.1,
    )

typed_pairs : (k v : Shape) (es : Entries) → PairsHaveSpellings es → pairs_have es k v ≡ true
    → AllByRecursion (HasTypedPair k v) (pairs_of es)
typed_pairs k v no_entries h typed = tt
typed_pairs k v (entry a b es) h typed =
    let first = and_parts (has_type a k && has_type b v) (pairs_have es k v) typed in
    let second = and_parts (has_type a k) (has_type b v) first.0 in
    (((h.0, second.0), (h.1, second.1)), typed_pairs k v es h.2 first.1)

-- as many parts as fields
fit_count : (ds : Data) (fields : FieldShapes) → parts_fit ds fields ≡ true → length (parts_of ds) ≡ field_count fields
fit_count no_data no_fields fit = refl
fit_count no_data (with_field f fields) fit = absurd (true≢false (sym fit))
fit_count (datum d ds) no_fields fit = absurd (true≢false (sym fit))
fit_count (datum d ds) (with_field (field name t number code) fields) fit =
    let both = and_parts (has_type d t) (parts_fit ds fields) fit in
    let later = fit_count ds fields both.1 in omega (arith, later)

-- keys rise just where each is above the one before it
all_above : (p q : Datum) (ps : List (Datum × Datum)) → compare p q ≡ Less
    → AllByRecursion (λ k. compare q k ≡ Less) (keys_of ps) → AllByRecursion (λ k. compare p k ≡ Less) (keys_of ps)
all_above p q [] less all = tt
all_above p q (r ∷ ps) less all = (compare_total.trans p q r.0 less all.0, all_above p q ps less all.1)

pub ordered_rise : (ps : List (Datum × Datum)) → in_order key_may_follow ps ≡ true → KeysRise ps
unfolding IsStrictlySortedBy
ordered_rise [] h = tt
ordered_rise (p ∷ []) h = (tt, tt)
ordered_rise (p ∷ q ∷ ps) h =
    let parts = and_parts (is_lt (compare p.0 q.0)) (in_order key_may_follow (q ∷ ps)) h in
    let less = is_less (compare p.0 q.0) parts.0 in
    let later = ordered_rise (q ∷ ps) parts.1 in
    ((less, all_above p.0 q.0 ps less later.0), later)

rise_ordered : (ps : List (Datum × Datum)) → KeysRise ps → in_order key_may_follow ps ≡ true
unfolding IsStrictlySortedBy
rise_ordered [] rise = refl
rise_ordered (p ∷ []) rise = refl
rise_ordered (p ∷ q ∷ ps) rise =
    and_from (is_lt (compare p.0 q.0)) (in_order key_may_follow (q ∷ ps)) (ap is_lt rise.0.0)
    (rise_ordered (q ∷ ps) rise.1)

-- a truth value behind its kind
truth_sound : (flat : List ℕ) (d : Datum) (rest : List ℕ) → truth_at flat ≡ Some (d, rest)
    → (b : Bool) × (flat ≡ (if b then 1 else 0) ∷ rest) × (truth b ≡ d)
unfolding truth_at
truth_sound flat d rest e =
    let first = then_some (byte_at flat)
    (λ b mid. if b == 0 then Some (truth false, mid) else only (b == 1) (Some (truth true, mid))) (d, rest) e in
    let byte = byte_some flat first.0 first.1 first.2 in
    ⊎_elim
    (λ h. let same = found_is (truth false) d first.1 rest h.1 in
    (false, byte ∙ (λ i. eqb-true first.0 0 h.0 i ∷ same.1 i), same.0))
    (λ h.
    let parts = only_some (first.0 == 1) (Some (truth true, first.1)) (d, rest) h.1 in
    let same = found_is (truth true) d first.1 rest parts.1 in
    (true, byte ∙ (λ i. eqb-true first.0 1 parts.0 i ∷ same.1 i), same.0))
    (if_some (first.0 == 0) (Some (truth false, first.1)) (only (first.0 == 1) (Some (truth true, first.1)))
    (d, rest) first.3)

-- the parts of a tuple
abbrev HaveTyped : FieldShapes → List Datum → Type 0
HaveTyped fields ds = HaveSpellings (data_of ds) × (parts_fit (data_of ds) fields ≡ true)

module _ (t : Shape) (elements : Finds (HasTyped t) spelling (value_at t)) where
  array_sound : (flat : List ℕ) (d : Datum) (rest : List ℕ) → tagged 6 (array_at (value_at t)) flat ≡ Some (d, rest)
      → HasTyped (Shape.array t) d × (flat ≡ spelling d ++ rest)
  unfolding array_at
  array_sound flat d rest e =
      let a = tagged_some 6 (array_at (value_at t)) flat (d, rest) e in
      let b = found_first (counted_finds length_finds elements) a.0 (λ ds more. Some (array (data_of ds), more))
      (d, rest) a.2 in
      let typed = all_typed t b.0 b.2.1 in
      let long = ap length (sym (parts_again b.0)) in
      carried (HasTyped (Shape.array t)) spelling flat
      (array (data_of b.0)) d b.1 rest b.4 ((subst IsShort long b.2.0, typed.0), typed.1)
      (a.1 ∙ (λ i. 6 ∷ b.3 i) ∙ (λ i. 6 ∷ (length_bytes (long i) ++ parts_bytes b.0 i) ++ b.1))

  array_again : (ds : Data) (rest : List ℕ) → HasTyped (Shape.array t) (array ds)
      → array_at (value_at t) ((length_bytes (length (parts_of ds)) ++ spelled_parts ds) ++ rest)
      ≡ Some (array ds, rest)
  unfolding array_at
  array_again ds rest h =
      let again = data_again ds in
      first_there (counted_finds length_finds elements) (parts_of ds)
      ((length_bytes (length (parts_of ds)) ++ spelled_parts ds) ++ rest) rest
      (λ es more. Some (array (data_of es), more)) (h.0.0, typed_all t ds h.0.1 h.1)
      (λ i. (length_bytes (length (parts_of ds))
      ++ (ap spelled_parts (sym again) ∙ sym (parts_bytes (parts_of ds))) i) ++ rest)
      ∙ (λ i. Some (array (again i), rest))

module _ (fields : FieldShapes)
    (parts : Finds (HaveTyped fields) (λ ds. spelled_parts (data_of ds)) (parts_at fields)) where
  tuple_sound : (flat : List ℕ) (d : Datum) (rest : List ℕ)
      → tagged 7 (tuple_at (field_count fields) (parts_at fields)) flat ≡ Some (d, rest)
      → (HasSpelling d × (has_type d (Shape.tuple fields) ≡ true) × (has_type d (Shape.proto fields) ≡ true))
      × (flat ≡ spelling d ++ rest)
  unfolding tuple_at
  tuple_sound flat d rest e =
      let a = tagged_some 7 (tuple_at (field_count fields) (parts_at fields)) flat (d, rest) e in
      let b = found_first length_finds a.0 (λ n mid. only (n == field_count fields)
      (and_then (parts_at fields mid) (λ ds more. Some (tuple (data_of ds), more)))) (d, rest) a.2 in
      let c = only_some (b.0 == field_count fields)
      (and_then (parts_at fields b.1) (λ ds more. Some (tuple (data_of ds), more))) (d, rest) b.4 in
      let f = found_first parts b.1 (λ ds more. Some (tuple (data_of ds), more)) (d, rest) c.1 in
      let long : b.0 ≡ length (parts_of (data_of f.0)) =
      eqb-true b.0 (field_count fields) c.0 ∙ sym (fit_count (data_of f.0) fields f.2.1) in
      carried (λ x. HasSpelling x × (has_type x (Shape.tuple fields) ≡ true)
      × (has_type x (Shape.proto fields) ≡ true)) spelling flat (tuple (data_of f.0)) d f.1 rest f.4
      ((subst IsShort long b.2, f.2.0), f.2.1, f.2.1)
      (a.1 ∙ (λ i. 7 ∷ two_parts a.0 (length_bytes b.0) b.1 (spelled_parts (data_of f.0)) f.1 b.3 f.3 i)
      ∙ (λ i. 7 ∷ (length_bytes (long i) ++ spelled_parts (data_of f.0)) ++ f.1))

  tuple_again : (ds : Data) (rest : List ℕ) → HasSpelling (tuple ds) → parts_fit ds fields ≡ true
      → tuple_at (field_count fields) (parts_at fields)
      ((length_bytes (length (parts_of ds)) ++ spelled_parts ds) ++ rest) ≡ Some (tuple ds, rest)
  unfolding tuple_at
  tuple_again ds rest h fit =
      let again = data_again ds in
      let long = length (parts_of ds) in
      first_there length_finds long ((length_bytes long ++ spelled_parts ds) ++ rest) (spelled_parts ds ++ rest)
      (λ n mid. only (n == field_count fields)
      (and_then (parts_at fields mid) (λ es more. Some (tuple (data_of es), more)))) h.0
      (append_assoc (length_bytes long) (spelled_parts ds) rest)
      ∙ only_true (long == field_count fields)
      (and_then (parts_at fields (spelled_parts ds ++ rest)) (λ es more. Some (tuple (data_of es), more)))
      (eq-eqb long (field_count fields) (fit_count ds fields fit))
      ∙ first_there parts (parts_of ds) (spelled_parts ds ++ rest) rest (λ es more. Some (tuple (data_of es), more))
      (subst HaveSpellings (sym again) h.1, ap (λ x. parts_fit x fields) again ∙ fit)
      (ap (λ x. spelled_parts x ++ rest) (sym again)) ∙ (λ i. Some (tuple (again i), rest))

module _ (k v : Shape) (keys : Finds (HasTyped k) spelling (value_at k))
    (values : Finds (HasTyped v) spelling (value_at v)) where
  mapping_sound : (flat : List ℕ) (d : Datum) (rest : List ℕ)
      → tagged 8 (mapping_at (value_at k) (value_at v)) flat ≡ Some (d, rest)
      → HasTyped (Shape.mapping k v) d × (flat ≡ spelling d ++ rest)
  unfolding mapping_at
  mapping_sound flat d rest e =
      let a = tagged_some 8 (mapping_at (value_at k) (value_at v)) flat (d, rest) e in
      let b = found_first (counted_finds length_finds (both_finds keys values)) a.0
      (λ ps more. only (in_order key_may_follow ps) (Some (mapping (entries_of ps), more))) (d, rest) a.2 in
      let c = only_some (in_order key_may_follow b.0) (Some (mapping (entries_of b.0), b.1)) (d, rest) b.4 in
      let typed = pairs_typed k v b.0 b.2.1 in
      let again = sym (pairs_again b.0) in
      carried (HasTyped (Shape.mapping k v)) spelling flat (mapping (entries_of b.0)) d b.1 rest c.1
      ((subst IsShort (ap length again) b.2.0, subst KeysRise again (ordered_rise b.0 c.0), typed.0), typed.1)
      (a.1 ∙ (λ i. 8 ∷ b.3 i) ∙ (λ i. 8 ∷ (length_bytes (length (again i)) ++ pairs_bytes b.0 i) ++ b.1))

  mapping_again : (es : Entries) (rest : List ℕ) → HasTyped (Shape.mapping k v) (mapping es)
      → mapping_at (value_at k) (value_at v) ((length_bytes (length (pairs_of es)) ++ spelled_pairs es) ++ rest)
      ≡ Some (mapping es, rest)
  unfolding mapping_at
  mapping_again es rest h =
      let again = entries_again es in
      first_there (counted_finds length_finds (both_finds keys values)) (pairs_of es)
      ((length_bytes (length (pairs_of es)) ++ spelled_pairs es) ++ rest) rest
      (λ ps more. only (in_order key_may_follow ps) (Some (mapping (entries_of ps), more)))
      (h.0.0, typed_pairs k v es h.0.2 h.1) (λ i. (length_bytes (length (pairs_of es))
      ++ (ap spelled_pairs (sym again) ∙ sym (pairs_bytes (pairs_of es))) i) ++ rest)
      ∙ only_true (in_order key_may_follow (pairs_of es)) (Some (mapping (entries_of (pairs_of es)), rest))
      (rise_ordered (pairs_of es) h.0.1) ∙ (λ i. Some (mapping (again i), rest))

truth_again : (b : Bool) (rest : List ℕ) → tagged 1 truth_at (spelling (truth b) ++ rest) ≡ Some (truth b, rest)
unfolding truth_at
truth_again true rest = refl
truth_again false rest = refl

text_sound : (behind flat : List ℕ) (d : Datum) (rest : List ℕ) → flat ≡ 4 ∷ behind → text_at behind ≡ Some (d, rest)
    → HasTyped Shape.str d × (flat ≡ spelling d ++ rest)
unfolding text_at
text_sound behind flat d rest is e =
    let b = found_first string_finds behind (λ s more. only (is_utf8 s) (Some (str s, more))) (d, rest) e in
    let c = only_some (is_utf8 b.0) (Some (str b.0, b.1)) (d, rest) b.4 in
    carried (HasTyped Shape.str) spelling flat (str b.0) d b.1 rest c.1 ((b.2, IsUtf8-from_is_utf8 b.0 c.0), refl)
    (is ∙ (λ i. 4 ∷ b.3 i))

text_again : (s rest : List ℕ) → HasSpelling (str s) → tagged 4 text_at (spelling (str s) ++ rest) ≡ Some (str s, rest)
unfolding text_at
text_again s rest h =
    first_again string_finds s rest (λ t more. only (is_utf8 t) (Some (str t, more))) h.0
    ∙ only_true (is_utf8 s) (Some (str s, rest)) (is_utf8-from_IsUtf8 s h.1)

mutual
  unfolding value_at

  value_sound : (t : Shape) (flat : List ℕ) (d : Datum) (rest : List ℕ) → value_at t flat ≡ Some (d, rest)
      → HasTyped t d × (flat ≡ spelling d ++ rest)
  value_sound Shape.truth flat d rest e =
      let a = tagged_some 1 truth_at flat (d, rest) e in
      let b = truth_sound a.0 d rest a.2 in
      (subst (HasTyped Shape.truth) b.2 (tt, refl), a.1 ∙ (λ i. 1 ∷ b.1 i) ∙ (λ i. spelling (b.2 i) ++ rest))
  value_sound Shape.int flat d rest e =
      let a = tagged_some 2 (λ l. and_then (number_at l) (λ n more. Some (int n, more))) flat (d, rest) e in
      let b = found_first number_finds a.0 (λ n more. Some (int n, more)) (d, rest) a.2 in
      carried (HasTyped Shape.int) spelling flat (int b.0) d b.1 rest b.4 (b.2, refl) (a.1 ∙ (λ i. 2 ∷ b.3 i))
  value_sound Shape.time flat d rest e =
      let a = tagged_some 3 (λ l. and_then (number_at l) (λ n more. Some (time n, more))) flat (d, rest) e in
      let b = found_first number_finds a.0 (λ n more. Some (time n, more)) (d, rest) a.2 in
      carried (HasTyped Shape.time) spelling flat (time b.0) d b.1 rest b.4 (b.2, refl) (a.1 ∙ (λ i. 3 ∷ b.3 i))
  value_sound Shape.str flat d rest e =
      let a = tagged_some 4 text_at flat (d, rest) e in
      text_sound a.0 flat d rest a.1 a.2
  value_sound Shape.bytes flat d rest e =
      let a = tagged_some 5 (λ l. and_then (string_at l) (λ s more. Some (bytes s, more))) flat (d, rest) e in
      let b = found_first string_finds a.0 (λ s more. Some (bytes s, more)) (d, rest) a.2 in
      carried (HasTyped Shape.bytes) spelling flat (bytes b.0) d b.1 rest b.4 (b.2, refl) (a.1 ∙ (λ i. 5 ∷ b.3 i))
  value_sound (Shape.array t) flat d rest e =
      array_sound t (record { sound = value_sound t; again = value_again t }) flat d rest e
  value_sound (Shape.mapping k v) flat d rest e =
      mapping_sound k v (record { sound = value_sound k; again = value_again k })
      (record { sound = value_sound v; again = value_again v }) flat d rest e
  value_sound (Shape.tuple fields) flat d rest e =
      let is = tuple_sound fields (record { sound = parts_sound fields; again = parts_there fields }) flat d rest e in
      ((is.0.0, is.0.1), is.1)
  value_sound (Shape.proto fields) flat d rest e =
      let is = tuple_sound fields (record { sound = parts_sound fields; again = parts_there fields }) flat d rest e in
      ((is.0.0, is.0.2), is.1)

  value_again : (t : Shape) (d : Datum) (rest : List ℕ) → HasTyped t d
      → value_at t (spelling d ++ rest) ≡ Some (d, rest)
  value_again Shape.truth (truth b) rest h = truth_again b rest
  value_again Shape.int (int n) rest h = first_again number_finds n rest (λ n more. Some (int n, more)) h.0
  value_again Shape.time (time n) rest h = first_again number_finds n rest (λ n more. Some (time n, more)) h.0
  value_again Shape.str (str s) rest h = text_again s rest h.0
  value_again Shape.bytes (bytes s) rest h = first_again string_finds s rest (λ s more. Some (bytes s, more)) h.0
  value_again (Shape.array t) (array ds) rest h =
      array_again t (record { sound = value_sound t; again = value_again t }) ds rest h
  value_again (Shape.mapping k v) (mapping es) rest h =
      mapping_again k v (record { sound = value_sound k; again = value_again k })
      (record { sound = value_sound v; again = value_again v }) es rest h
  value_again (Shape.tuple fields) (tuple ds) rest h =
      tuple_again fields (record { sound = parts_sound fields; again = parts_there fields }) ds rest h.0 h.1
  value_again (Shape.proto fields) (tuple ds) rest h =
      tuple_again fields (record { sound = parts_sound fields; again = parts_there fields }) ds rest h.0 h.1
  value_again t d rest h = absurd (true≢false (sym h.1))

  parts_sound : (fields : FieldShapes) (flat : List ℕ) (ds : List Datum) (rest : List ℕ)
      → parts_at fields flat ≡ Some (ds, rest) → HaveTyped fields ds × (flat ≡ spelled_parts (data_of ds) ++ rest)
  parts_sound no_fields flat ds rest e =
      let same = found_is [] ds flat rest e in
      (subst (HaveTyped no_fields) same.0 (tt, refl), λ i. spelled_parts (data_of (same.0 i)) ++ same.1 i)
  parts_sound (with_field (field name t number code) fields) flat ds rest e =
      let first = then_some (value_at t flat) (λ d mid. put_first d (parts_at fields mid)) (ds, rest) e in
      let one = value_sound t flat first.0 first.1 first.2 in
      let later = put_first_some (record { sound = value_sound t; again = value_again t }) first.0
      (parts_at fields first.1) ds rest first.3 in
      let more = parts_sound fields first.1 later.0 rest later.1 in (
        subst (HaveTyped (with_field (field name t number code) fields)) later.2
            ((one.0.0, more.0.0), and_from (has_type first.0 t) (parts_fit (data_of later.0) fields) one.0.1 more.0.1),
        two_parts flat (spelling first.0) first.1 (spelled_parts (data_of later.0)) rest one.1 more.1
            ∙ (λ i. spelled_parts (data_of (later.2 i)) ++ rest),
      )

  parts_there : (fields : FieldShapes) (ds : List Datum) (rest : List ℕ) → HaveTyped fields ds
      → parts_at fields (spelled_parts (data_of ds) ++ rest) ≡ Some (ds, rest)
  parts_there no_fields [] rest h = refl
  parts_there no_fields (d ∷ ds) rest h = absurd (true≢false (sym h.1))
  parts_there (with_field f fields) [] rest h = absurd (true≢false (sym h.1))
  parts_there (with_field (field name t number code) fields) (d ∷ ds) rest h =
      let both = and_parts (has_type d t) (parts_fit (data_of ds) fields) h.1 in
      ap (λ l. and_then (value_at t l) (λ x mid. put_first x (parts_at fields mid)))
      (append_assoc (spelling d) (spelled_parts (data_of ds)) rest)
      ∙ ap (λ o. and_then o (λ x mid. put_first x (parts_at fields mid)))
      (value_again t d (spelled_parts (data_of ds) ++ rest) (h.0.0, both.0))
      ∙ ap (put_first d) (parts_there fields ds rest (h.0.1, both.1))

-- values of a type
pub value_finds : (t : Shape) → Finds (HasTyped t) spelling (value_at t)
value_finds t = record { sound = value_sound t; again = value_again t }
