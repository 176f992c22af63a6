-- Files that are joined to what is kept while they are read, table by table.
use Rattle.std.proofs.Common.{◌≡◌, ◌∙◌, ℕ, zero, suc, ◌+◌, ◌-◌, ◌*◌, ◌^◌, ◌<◌, ◌≤◌, ◌==◌, false, Option, Some, None, List, [], ◌∷◌, ◌++◌, length, map, zip, take, drop, slice_get, refl, sym, ap, subst, arith, append_assoc, append-nil, take_all}
use Rattle.std.specs.List.{AllByRecursion}
use Rattle.std.proofs.lemmas.List.{length-append, length-map, length-take-le, length-drop, map-append}
use Rattle.sz_types.specs.Data.{Shape}
use Rattle.sz_types.specs.Tables.{Declaration}
use Rattle.sz_types.specs.declared.table.TableKind.{TableKind}
use Rattle.sz_types.specs.declared.table.TableKind.TheVariants.{Sum, Maximum, Minimum, Set, Collection}
use Rattle.sz_total.specs.Tables.{Indexed}
use Rattle.sz_save_format.specs.Entries.{components, HaveRows}
use Rattle.sz_save_format.specs.Saved.{SavedState, IsSavedTable, CanBeSaved, Saves}
use Rattle.sz_save_format.specs.declared.error.SavedError.{SavedError}
use Rattle.sz_save_format.specs.declared.error.SavedError.TheVariants as reading
use Rattle.sz_save_format.specs.Decoding.{and_then, only, put_first, many_at, length_at, counted_at, declaration_at, Stops}
use Rattle.sz_save_format.specs.DecodingRows.{head_at, entries_at, table_at, state_with, saved_at}
use Rattle.sz_save_format.proofs.FrontLemmas.{none_some, some_is, found_is, then_some, only_some, after, many_goes, many_stops, many_ends}
use Rattle.sz_save_format.proofs.LoopLemmas.{counted_begins, counted_lacks}
use Rattle.sz_save_format.proofs.SavedLemmas.{lists_save, saved_again, nothing_saves, no_head, no_tables, no_end, zip_more}
use Rattle.sz_save.specs.declared.stopped.ReadJoinError.{ReadJoinError}
use Rattle.sz_save.specs.declared.stopped.ReadJoinError.TheVariants.{NotSaved, Other, NoMemory}
use Rattle.sz_save.specs.Stopped.{error_of_reading}
use Rattle.sz_save.specs.Joined.{Joins}
use Rattle.sz_save.specs.Walk.{joined_tables, AreCounted}
use Rattle.sz_save.specs.Reading.{KeepSums, CanTakeMore, CanTakeAll, ReadsJoined, ReadsTable, IsOtherTable, StopsTable, ReadsTables, IsOtherTables, StopsTables, StopsRead, JoinsRead}
use Rattle.sz_save.proofs.JoinLemmas.{all_sums, have_rows, states_saved, states_join, counted_push}
use Rattle.sz_save.proofs.ReadingLemmas.{many_long}

-- ---- one table

module _ (bound : ℕ) (flat : List ℕ) where
  abbrev pair_with : Declaration → List Indexed → List ℕ → Option ((Declaration × List Indexed) × List ℕ)
  pair_with table entries more = Some ((table, entries), more)

  abbrev table_behind : Declaration → List ℕ → Option ((Declaration × List Indexed) × List ℕ)
  table_behind table rest = and_then (entries_at bound table rest) (pair_with table)

  no_declaration : declaration_at flat ≡ None → table_at bound flat ≡ None
  unfolding table_at
  no_declaration none = ap (λ o. and_then o table_behind) none

  pub declaration_stops : (table : Declaration) (e : SavedError) → Stops (declaration_at flat) e
      → StopsTable bound table flat (error_of_reading e)
  declaration_stops table reading.NotSaved stop = no_declaration stop
  declaration_stops table reading.NoMemory stop = tt

  module _ (table : Declaration) (rest : List ℕ) (head : declaration_at flat ≡ Some (table, rest)) where
    no_entries : entries_at bound table rest ≡ None → table_at bound flat ≡ None
    unfolding table_at
    no_entries none = ap (λ o. and_then o table_behind) head ∙ ap (λ o. and_then o (pair_with table)) none

    pub entries_stop : (other : Declaration) (e : SavedError) → table ≡ other → Stops (entries_at bound other rest) e
        → StopsTable bound other flat (error_of_reading e)
    entries_stop other reading.NotSaved same stop = no_entries (ap (λ d. entries_at bound d rest) same ∙ stop)
    entries_stop other reading.NoMemory same stop = tt

    table_found : (entries : List Indexed) (more : List ℕ) → entries_at bound table rest ≡ Some (entries, more)
        → table_at bound flat ≡ Some ((table, entries), more)
    unfolding table_at
    table_found entries more found = ap (λ o. and_then o table_behind) head
        ∙ ap (λ o. and_then o (pair_with table)) found

    pub table_reads : (other : Declaration) (kept joined : List Indexed) (more : List ℕ) → table ≡ other
        → ReadsJoined bound other kept rest joined more → ReadsTable bound other kept flat joined more
    table_reads other kept joined more same h = record {
      entries = h.entries;
      found = table_found h.entries more (ap (λ d. entries_at bound d rest) same ∙ h.found)
          ∙ (λ i. Some ((same i, h.entries), more));
      is = h.is;
      counted = h.counted;
    }

    pub other_table : (other : Declaration) → (table ≡ other → ⊥) → IsOtherTable bound other flat
    unfolding table_at
    other_table other differ read more found same =
        let first = then_some (declaration_at flat) table_behind (read, more) found in
        let second = then_some (entries_at bound first.0 first.1) (pair_with first.0) (read, more) first.3 in
        let is = (found_is first.0 table first.1 rest (sym first.2 ∙ head)).0 in
        let pair = (found_is (first.0, second.0) read second.1 more second.3).0 in
        differ (sym is ∙ (λ i. (pair i).0) ∙ same)

-- ---- lists, by places

drop_here : {X : Type 0} (xs : List X) (i : ℕ) (x : X) → slice_get xs i ≡ Some x → drop i xs ≡ x ∷ drop (i + 1) xs
drop_here [] i x is = absurd (cc)
drop_here (y ∷ ys) zero x is = let same : y ≡ x = cc in ap (λ z. z ∷ ys) same
drop_here (y ∷ ys) (suc i) x is =
    let next : suc i + 1 ≡ suc (i + 1) = omega arith in
    drop_here ys i x is ∙ ap (λ l. x ∷ l) (sym (ap (λ n. drop n (y ∷ ys)) next))

take_here : {X : Type 0} (xs : List X) (i : ℕ) (x : X) → slice_get xs i ≡ Some x → take (i + 1) xs ≡ take i xs ++ x ∷ []
take_here [] i x is = absurd (cc)
take_here (y ∷ ys) zero x is = let same : y ≡ x = cc in ap (λ z. z ∷ []) same
take_here (y ∷ ys) (suc i) x is =
    let next : suc i + 1 ≡ suc (i + 1) = omega arith in
    ap (λ n. take n (y ∷ ys)) next ∙ ap (λ l. y ∷ l) (take_here ys i x is)

get_behind : {X : Type 0} (xs : List X) (y : X) (ys : List X) (i : ℕ) → length xs ≡ i
    → slice_get (xs ++ y ∷ ys) i ≡ Some y
get_behind [] y ys zero long = refl
get_behind [] y ys (suc i) long = absurd (omega (arith, long))
get_behind (x ∷ xs) y ys zero long = absurd (omega (arith, long))
get_behind (x ∷ xs) y ys (suc i) long = get_behind xs y ys i (omega (arith, long))

zip_long : {X Y : Type 0} (xs : List X) (ys : List Y) → length ys ≡ length xs → length (zip xs ys) ≡ length xs
zip_long [] ys long = refl
zip_long (x ∷ xs) [] long = absurd (omega (arith, long))
zip_long (x ∷ xs) (y ∷ ys) long = let more = zip_long xs ys (omega (arith, long)) in omega (arith, more)

-- ---- all tables

abbrev decl_of : Declaration × List Indexed → Declaration
decl_of t = t.0

-- where tables have these declarations, the one at a place has the one there
decl_there : (front : List (Declaration × List Indexed)) (here : Declaration × List Indexed)
    (behind tables : List (Declaration × List Indexed)) (ds : List Declaration) (i : ℕ) (d : Declaration)
    → front ++ here ∷ behind ≡ tables → map decl_of tables ≡ ds → length front ≡ i → slice_get ds i ≡ Some d
    → here.0 ≡ d
decl_there front here behind tables ds i d are same long at =
    let there = get_behind (map decl_of front) here.0 (map decl_of behind) i (length-map front decl_of ∙ long) in
    let all = sym (map-append decl_of front (here ∷ behind)) ∙ ap (map decl_of) are ∙ same in
    some_is here.0 d (sym there ∙ ap (λ l. slice_get l i) all ∙ at)

module _ (bound : ℕ) (flat : List ℕ) (ds : List Declaration) (kept : List (List Indexed)) where
  -- the tables so far were read, and joined to what is kept
  pub record TablesSoFar (i : ℕ) (rest : List ℕ) (joined left : List (List Indexed)) : Type 0 where
    pub done : List (List Indexed)
    pub read : counted_at (table_at bound) flat
        ≡ after (zip (take i ds) done) (many_at (table_at bound) (length ds - i) rest)
    pub walk : (more : List (List Indexed))
        → joined_tables ds kept (done ++ more) ≡ joined ++ joined_tables (drop i ds) left more
    pub counted : AllByRecursion AreCounted joined
    pub can : CanTakeAll bound (drop i ds) left
    pub long : length done ≡ i
    pub within : i ≤ length ds

  pub tables_begin : (count : ℕ) (rest : List ℕ) (joined left : List (List Indexed))
      → length_at flat ≡ Some (count, rest) → count ≡ length ds → joined ≡ []
      → left ≡ kept → CanTakeAll bound ds kept → TablesSoFar 0 rest joined left
  tables_begin count rest joined left head many none all can = record {
    done = [];
    read = counted_begins (table_at bound) flat (length ds) rest (head ∙ ap (λ n. Some (n, rest)) many);
    walk = λ more. λ i. sym none i ++ joined_tables ds (sym all i) more;
    counted = subst (AllByRecursion AreCounted) (sym none) tt;
    can = subst (CanTakeAll bound ds) (sym all) can;
    long = refl;
    within = omega arith;
  }

  pub length_stops : (e : SavedError) → Stops (length_at flat) e → StopsTables bound ds flat (error_of_reading e)
  length_stops reading.NotSaved stop = counted_lacks (table_at bound) flat stop
  length_stops reading.NoMemory stop = tt

  -- the number of tables differs
  pub other_count : (count : ℕ) (rest : List ℕ) → length_at flat ≡ Some (count, rest) → (count ≡ length ds → ⊥)
      → IsOtherTables bound ds flat
  unfolding counted_at
  other_count count rest head differ tables more found same =
      let many = many_long (table_at bound) count rest tables more
      (sym (ap (λ o. and_then o (λ n mid. many_at (table_at bound) n mid)) head) ∙ found) in
      differ (sym many ∙ sym (length-map tables decl_of) ∙ ap length same)

  module _ (i : ℕ) (rest : List ℕ) (joined left : List (List Indexed)) (far : TablesSoFar i rest joined left) where
    module _ (less : i < length ds) (d : Declaration) (here : slice_get ds i ≡ Some d) where
      pub table_stops : (e : ReadJoinError) → StopsTable bound d rest e → StopsTables bound ds flat e
      table_stops NotSaved stop =
          many_stops (table_at bound) (counted_at (table_at bound) flat) (zip (take i ds) far.done) rest
          (length ds) i less stop far.read
      table_stops Other stop =
          λ tables end found same. by_rest (many_at (table_at bound) (length ds - i) rest) refl tables end found same
        where
          front : List (Declaration × List Indexed)
          front = zip (take i ds) far.done

          front_long : length front ≡ i
          front_long =
              let long = length-take-le i ds far.within in
              zip_long (take i ds) far.done (far.long ∙ sym long) ∙ long

          one_left : length ds - i ≡ suc (length ds - (i + 1))
          one_left = omega (arith, less)

          by_first : (p : List (Declaration × List Indexed) × List ℕ)
              → many_at (table_at bound) (length ds - i) rest ≡ Some p → (tables : List (Declaration × List Indexed))
              → front ++ p.0 ≡ tables → map decl_of tables ≡ ds → ⊥
          by_first p is tables are same =
              let step = sym (ap (λ n. many_at (table_at bound) n rest) one_left) ∙ is in
              let first = then_some (table_at bound rest)
              (λ x mid. put_first x (many_at (table_at bound) (length ds - (i + 1)) mid)) p step in
              let later = first_of first.0 (many_at (table_at bound) (length ds - (i + 1)) first.1) p first.3 in
              stop first.0 first.1 first.2 (decl_there front first.0 later.0 tables ds i d
              (ap (λ l. front ++ l) later.1 ∙ are) same front_long here)
            where
              first_of : {X : Type 0} (x : X) (o : Option (List X × List ℕ)) (q : List X × List ℕ)
                  → put_first x o ≡ Some q → (zs : List X) × (x ∷ zs ≡ q.0)
              first_of x None q f = absurd (none_some f)
              first_of x (Some g) q f = (g.0, (λ j. (some_is (x ∷ g.0, g.1) q f j).0))

          by_rest : (o : Option (List (Declaration × List Indexed) × List ℕ))
              → many_at (table_at bound) (length ds - i) rest ≡ o → (tables : List (Declaration × List Indexed))
              (end : List ℕ) → counted_at (table_at bound) flat ≡ Some (tables, end)
              → map decl_of tables ≡ ds → ⊥
          by_rest None is tables end found same = none_some (sym (far.read ∙ ap (after front) is) ∙ found)
          by_rest (Some p) is tables end found same =
              by_first p is tables
              (found_is (front ++ p.0) tables p.1 end (sym (far.read ∙ ap (after front) is) ∙ found)).0 same
      table_stops NoMemory stop = tt

      module _ (t : List Indexed) (behind : List (List Indexed)) (split : left ≡ t ∷ behind) where
        cans : CanTakeMore bound d t × CanTakeAll bound (drop (i + 1) ds) behind
        cans = subst (λ l. CanTakeAll bound (d ∷ drop (i + 1) ds) l) split
            (subst (λ l. CanTakeAll bound l left) (drop_here ds i d here) far.can)

        pub table_takes : CanTakeMore bound d t
        table_takes = cans.0

        pub tables_go : (both : List Indexed) (more_rest : List ℕ) (now : List (List Indexed))
            → ReadsTable bound d t rest both more_rest → now ≡ joined ++ both ∷ []
            → TablesSoFar (i + 1) more_rest now behind
        tables_go both more_rest now h pushed =
            let long = length-take-le i ds far.within in
            record {
              done = far.done ++ h.entries ∷ [];
              read = many_goes (table_at bound) (counted_at (table_at bound) flat) (zip (take i ds) far.done) rest
                  (length ds) i (d, h.entries) more_rest less h.found far.read
                  ∙ ap (λ l. after l (many_at (table_at bound) (length ds - (i + 1)) more_rest))
                  (sym (zip_more (take i ds) far.done d h.entries (far.long ∙ sym long))
                  ∙ ap (λ l. zip l (far.done ++ h.entries ∷ [])) (sym (take_here ds i d here)));
              walk = λ more. ap (joined_tables ds kept) (append_assoc far.done (h.entries ∷ []) more)
                  ∙ far.walk (h.entries ∷ more)
                  ∙ (λ k. joined ++ joined_tables (drop_here ds i d here k) (split k) (h.entries ∷ more))
                  ∙ ap (λ b. joined ++ b ∷ joined_tables (drop (i + 1) ds) behind more) (sym h.is)
                  ∙ sym (append_assoc joined (both ∷ []) (joined_tables (drop (i + 1) ds) behind more))
                  ∙ ap (λ l. l ++ joined_tables (drop (i + 1) ds) behind more) (sym pushed);
              counted = subst (AllByRecursion AreCounted) (sym pushed) (counted_push joined both far.counted h.counted);
              can = cans.1;
              long = let both_long = length-append far.done (h.entries ∷ []) in omega (arith, both_long, far.long);
              within = omega (arith, less);
            }

    pub tables_there : i < length ds → 1 ≤ length left
    tables_there less = at (drop i ds) left far.can (length-drop i ds)
      where
        at : (es : List Declaration) (ts : List (List Indexed)) → CanTakeAll bound es ts
            → length es ≡ length ds - i → 1 ≤ length ts
        at [] [] can long = absurd (omega (arith, long, less))
        at [] (t ∷ ts) can long = absurd can
        at (e ∷ es) [] can long = absurd can
        at (e ∷ es) (t ∷ ts) can long = omega arith

    pub tables_end : length ds ≤ i → ReadsTables bound ds kept flat joined rest
    tables_end last =
        let all : take i ds ≡ ds = take_all i ds last in
        let none : drop i ds ≡ [] = nothing ds i last in
        record {
          tables = far.done;
          as_many = omega (arith, last, far.long, far.within);
          found = many_ends (table_at bound) (counted_at (table_at bound) flat) (zip (take i ds) far.done) rest
              (length ds) i last far.read ∙ (λ k. Some (zip (all k) far.done, rest));
          is = append_nil joined ∙ (λ k. joined ++ joined_tables (sym none k) left []) ∙ sym (far.walk [])
              ∙ ap (joined_tables ds kept) (append-nil far.done);
          counted = far.counted;
        }
      where
        nothing : {X : Type 0} (xs : List X) (n : ℕ) → length xs ≤ n → drop n xs ≡ []
        nothing [] zero le = refl
        nothing [] (suc n) le = refl
        nothing (x ∷ xs) zero le = absurd (omega (arith, le))
        nothing (x ∷ xs) (suc n) le = nothing xs n (omega (arith, le))

        append_nil : {X : Type 0} (xs : List X) → xs ≡ xs ++ []
        append_nil xs = sym (append-nil xs)

-- ---- whole files

keep_sums : (kind : TableKind) (first limit : ℕ) (element : Shape) (es : List Indexed)
    → AllByRecursion (λ e. HaveRows kind first limit element e.rows) es
    → KeepSums kind (components element) (first * 2 ^ 63) es
keep_sums Sum first limit element es h = all_sums first limit element es h
keep_sums Maximum first limit element es h = tt
keep_sums Minimum first limit element es h = tt
keep_sums Set first limit element es h = tt
keep_sums Collection first limit element es h = tt

all_can : (first bound : ℕ) (ds : List Declaration) (ts : List (List Indexed)) → first + bound ≤ 2 ^ 63
    → length ts ≡ length ds → AllByRecursion (IsSavedTable first) (zip ds ts) → CanTakeAll bound ds ts
all_can first bound [] [] low long h = tt
all_can first bound [] (t ∷ ts) low long h = absurd (omega (arith, long))
all_can first bound (d ∷ ds) [] low long h = absurd (omega (arith, long))
all_can first bound (d ∷ ds) (t ∷ ts) low long h = (
  record {
    low = omega (arith, low);
    short = h.0.declaration.limit;
    most = first * 2 ^ 63;
    sums = keep_sums d.kind first d.limit d.element t (have_rows first d t h.0.entries.each);
    few = omega (arith, low);
  },
  all_can first bound ds ts low (omega (arith, long)) h.1,
)

pub kept_can : (one : SavedState) (bound : ℕ) (ds : List Declaration) (ts : List (List Indexed)) → CanBeSaved one
    → one.bound + bound ≤ 2 ^ 63 → ds ≡ one.decls → ts ≡ one.tables → CanTakeAll bound ds ts
kept_can one bound ds ts can low decls tables =
    subst (λ l. CanTakeAll bound l ts) (sym decls) (subst (CanTakeAll bound one.decls) (sym tables)
    (all_can one.bound bound one.decls one.tables low can.as_many can.each))

module _ (one : SavedState) (flat : List ℕ) where
  pub head_stops : (e : SavedError) → Stops (head_at flat) e → StopsRead one flat (error_of_reading e)
  head_stops reading.NotSaved stop = nothing_saves flat (no_head flat stop)
  head_stops reading.NoMemory stop = tt

  module _ (bound : ℕ) (rest : List ℕ) (head : head_at flat ≡ Some (bound, rest)) where
    abbrev end_of : List (Declaration × List Indexed) → List ℕ → Option (SavedState × List ℕ)
    end_of tables left = only (length left == 0) (Some (state_with bound tables, left))

    abbrev tables_of_head : ℕ → List ℕ → Option (SavedState × List ℕ)
    tables_of_head n mid =
        and_then (counted_at (table_at n) mid)
        (λ tables left. only (length left == 0) (Some (state_with n tables, left)))

    -- what is saved has its tables there
    read_of : (state : SavedState) → Saves flat state
        → (tables : List (Declaration × List Indexed)) × (left : List ℕ)
        × (counted_at (table_at bound) rest ≡ Some (tables, left)) × (state.decls ≡ map (λ t. t.0) tables)
    unfolding saved_at
    read_of state h =
        let all : saved_at flat ≡ Some (state, []) = ap saved_at h.is ∙ saved_again state h.can in
        let behind = sym (ap (λ o. and_then o tables_of_head) head) ∙ all in
        let tables = then_some (counted_at (table_at bound) rest) end_of (state, []) behind in
        let last = only_some (length tables.1 == 0) (Some (state_with bound tables.0, tables.1)) (state, []) tables.3 in
        let same = (found_is (state_with bound tables.0) state tables.1 [] last.1).0 in
        (tables.0, tables.1, tables.2, sym (ap (λ (s : SavedState). s.decls) same))

    pub tables_stop : (ds : List Declaration) (e : ReadJoinError) → ds ≡ one.decls → StopsTables bound ds rest e
        → StopsRead one flat e
    tables_stop ds NotSaved decls stop = nothing_saves flat (no_tables flat bound rest head stop)
    tables_stop ds Other decls stop = λ state saves same.
        let tables = read_of state saves in
        stop tables.0 tables.1 tables.2 (sym tables.3 ∙ same ∙ sym decls)
    tables_stop ds NoMemory decls stop = tt

    module _ (ds : List Declaration) (ts joined : List (List Indexed)) (left : List ℕ)
        (reads : ReadsTables bound ds ts rest joined left) where
      pub end_stops : (length left == 0) ≡ false → StopsRead one flat NotSaved
      end_stops more = nothing_saves flat (no_end flat bound rest (zip ds reads.tables) left head reads.found more)

      module _ (n : ℕ) (can : CanBeSaved one) (low : one.bound + bound ≤ 2 ^ 63) (decls : ds ≡ one.decls)
          (tables : ts ≡ one.tables) (sum : n ≡ one.bound + bound)
          (none : left ≡ []) where
        abbrev other : SavedState
        other = record { bound = bound; decls = ds; tables = reads.tables }

        saves : Saves flat other
        saves = lists_save flat bound rest ds reads.tables left head reads.found reads.as_many none

        pub read_saved_both : CanBeSaved (record { bound = n; decls = ds; tables = joined })
        read_saved_both = states_saved one other decls can saves.can n ds ds joined ts reads.tables sum decls
            reads.is decls tables refl low reads.counted

        pub read_joins : (both : SavedState) → both ≡ record { bound = n; decls = ds; tables = joined }
            → JoinsRead one flat both
        read_joins both is = record {
          state = other;
          saves = saves;
          behind = rest;
          head = head;
          joins = subst (Joins one other) (sym is)
              (states_join one other decls can saves.can n ds ds joined ts reads.tables sum decls
              reads.is decls tables refl);
          can = subst CanBeSaved (sym is) read_saved_both;
        }
