-- Whole files: what is found is what is saved, and what can be saved is found.
use Rattle.std.proofs.Common.{◌≡◌, ◌∙◌, ℕ, ◌≤◌, ◌^◌, ◌==◌, nat_le, false, ◌&&◌, Option, Some, None, List, [], ◌∷◌, ◌++◌, length, take, drop, map, zip, flat_map, bytes_eq, refl, sym, ap, subst, append_assoc, append-nil, arith, take-append-drop, leb-true, le-leb, length-append}
use Rattle.std.specs.List.{AllByRecursion}
use Rattle.std.proofs.lemmas.Bool.{and_parts, and_from}
use Rattle.std.proofs.lemmas.Slice.Eq.{bytes_eq-Decides}
use Rattle.sz_types.specs.Tables.{Declaration}
use Rattle.sz_flat.specs.Spelling.{length_bytes, IsShort}
use Rattle.sz_total.specs.Tables.{Indexed}
use Rattle.sz_save_format.specs.Declarations.{declaration_bytes}
use Rattle.sz_save_format.specs.Entries.{count_bytes, entries_bytes}
use Rattle.sz_save_format.specs.Saved.{SavedState, most_bound, mark, table_bytes, tables_of, saved_bytes, IsSavedTable, CanBeSaved, Saves}
use Rattle.sz_save_format.specs.Laws.{IsOneSpelling}
use Rattle.sz_save_format.specs.Decoding.{and_then, only, counted_at}
use Rattle.sz_save_format.specs.DecodingRows.{count_at, entries_at, table_at, mark_at, head_at, state_with, saved_at}
use Rattle.sz_save_format.proofs.FrontLemmas.{Finds, none_some, then_some, only_some, only_true, found_is, found_first, first_again, first_there, carried, two_parts, counted_finds}
use Rattle.sz_save_format.proofs.NameLemmas.{length_finds, count_finds}
use Rattle.sz_save_format.proofs.DeclarationLemmas.{declaration_finds}
use Rattle.sz_save_format.proofs.EntryLemmas.{entries_finds}

module _ (bound : ℕ) (low : bound ≤ 2 ^ 63) where
  abbrev entries_behind : Declaration → List ℕ → Option ((Declaration × List Indexed) × List ℕ)
  entries_behind table rest = and_then (entries_at bound table rest) (λ entries more. Some ((table, entries), more))

  table_sound : (flat : List ℕ) (table : Declaration × List Indexed) (rest : List ℕ)
      → table_at bound flat ≡ Some (table, rest) → IsSavedTable bound table × (flat ≡ table_bytes table ++ rest)
  unfolding table_at
  table_sound flat table rest e =
      let a = found_first declaration_finds flat entries_behind (table, rest) e in
      let b = found_first (entries_finds bound a.0 low a.2.limit) a.1 (λ entries more. Some ((a.0, entries), more))
      (table, rest) a.4 in
      carried (IsSavedTable bound) table_bytes flat
      (a.0, b.0) table b.1 rest b.4 (record { declaration = a.2; entries = b.2 })
      (two_parts flat (declaration_bytes a.0) a.1 (entries_bytes a.0.kind b.0) b.1 a.3 b.3)

  table_again : (table : Declaration × List Indexed) (rest : List ℕ) → IsSavedTable bound table
      → table_at bound (table_bytes table ++ rest) ≡ Some (table, rest)
  unfolding table_at
  table_again table rest h =
      first_there declaration_finds table.0 (table_bytes table ++ rest)
      (entries_bytes table.0.kind table.1 ++ rest) entries_behind h.declaration
      (append_assoc (declaration_bytes table.0) (entries_bytes table.0.kind table.1) rest)
      ∙ first_again (entries_finds bound table.0 low h.declaration.limit) table.1 rest
      (λ entries more. Some ((table.0, entries), more)) h.entries

  pub table_finds : Finds (IsSavedTable bound) table_bytes (table_at bound)
  table_finds = record { sound = table_sound; again = table_again }

mark_found : (flat : List ℕ) (x : ℕ) (rest : List ℕ) → mark_at flat ≡ Some (x, rest) → flat ≡ mark ++ rest
unfolding mark_at
mark_found flat x rest e =
    let parts = only_some (nat_le 8 (length flat) && bytes_eq (take 8 flat) mark) (Some (0, drop 8 flat)) (x, rest) e in
    let both = and_parts (nat_le 8 (length flat)) (bytes_eq (take 8 flat) mark) parts.0 in
    let same = found_is 0 x (drop 8 flat) rest parts.1 in
    sym (take-append-drop 8 flat) ∙ (λ i. (bytes_eq-Decides (take 8 flat) mark).0 both.1 i ++ same.1 i)

mark_again : (rest : List ℕ) → mark_at (mark ++ rest) ≡ Some (0, rest)
unfolding mark_at
mark_again rest = only_true (nat_le 8 (length (mark ++ rest)) && bytes_eq (take 8 (mark ++ rest)) mark) (Some (0, rest))
    (and_from (nat_le 8 (length (mark ++ rest))) (bytes_eq mark mark)
    (le-leb 8 (length (mark ++ rest)) (let both = length-append mark rest in omega (arith, both)))
    ((bytes_eq-Decides mark mark).1 refl))

-- declarations and tables as pairs, and back
zip_again : (tables : List (Declaration × List Indexed)) → zip (map (λ t. t.0) tables) (map (λ t. t.1) tables) ≡ tables
zip_again [] = refl
zip_again (t ∷ tables) = ap (λ l. t ∷ l) (zip_again tables)

firsts : (ds : List Declaration) (ts : List (List Indexed)) → length ts ≡ length ds → map (λ t. t.0) (zip ds ts) ≡ ds
firsts [] ts long = refl
firsts (d ∷ ds) [] long = absurd (omega (arith, long))
firsts (d ∷ ds) (t ∷ ts) long = ap (λ l. d ∷ l) (firsts ds ts (omega (arith, long)))

seconds : (ds : List Declaration) (ts : List (List Indexed)) → length ts ≡ length ds → map (λ t. t.1) (zip ds ts) ≡ ts
seconds [] [] long = refl
seconds [] (t ∷ ts) long = absurd (omega (arith, long))
seconds (d ∷ ds) [] long = absurd (omega (arith, long))
seconds (d ∷ ds) (t ∷ ts) long = ap (λ l. t ∷ l) (seconds ds ts (omega (arith, long)))

as_many_firsts : (tables : List (Declaration × List Indexed)) → length (map (λ t. t.0) tables) ≡ length tables
as_many_firsts [] = refl
as_many_firsts (t ∷ tables) = omega (arith, as_many_firsts tables)

as_many_seconds : (tables : List (Declaration × List Indexed)) → length (map (λ t. t.1) tables) ≡ length tables
as_many_seconds [] = refl
as_many_seconds (t ∷ tables) = omega (arith, as_many_seconds tables)

-- what stands behind the count of the bound, behind the mark, behind the tables, and behind the bound
abbrev bound_behind : ℕ → List ℕ → Option (ℕ × List ℕ)
bound_behind bound rest = only (nat_le bound most_bound) (Some (bound, rest))

abbrev mark_behind : ℕ → List ℕ → Option (ℕ × List ℕ)
mark_behind x rest = and_then (count_at rest) bound_behind

abbrev state_behind : ℕ → List (Declaration × List Indexed) → List ℕ → Option (SavedState × List ℕ)
state_behind bound tables rest = only (length rest == 0) (Some (state_with bound tables, rest))

abbrev tables_behind : ℕ → List ℕ → Option (SavedState × List ℕ)
tables_behind bound rest = and_then (counted_at (table_at bound) rest) (state_behind bound)

head_found : (flat : List ℕ) (bound : ℕ) (rest : List ℕ) → head_at flat ≡ Some (bound, rest)
    → (bound ≤ 2 ^ 63) × (flat ≡ mark ++ (count_bytes bound ++ rest))
unfolding head_at
head_found flat bound rest e =
    let a = then_some (mark_at flat) mark_behind (bound, rest) e in
    let b = found_first count_finds a.1 bound_behind (bound, rest) a.3 in
    let c = only_some (nat_le b.0 most_bound) (Some (b.0, b.1)) (bound, rest) b.4 in
    let is = carried (λ n. n ≤ 2 ^ 63) count_bytes a.1 b.0 bound b.1 rest c.1 (leb-true b.0 most_bound c.0) b.3 in
    (is.0, mark_found flat a.0 a.1 a.2 ∙ ap (λ l. mark ++ l) is.1)

head_again : (bound : ℕ) (rest : List ℕ) → bound ≤ 2 ^ 63
    → head_at (mark ++ (count_bytes bound ++ rest)) ≡ Some (bound, rest)
unfolding head_at
head_again bound rest low =
    ap (λ o. and_then o mark_behind) (mark_again (count_bytes bound ++ rest))
    ∙ first_again count_finds bound rest bound_behind (omega (arith, low))
    ∙ only_true (nat_le bound most_bound) (Some (bound, rest)) (le-leb bound most_bound low)

-- what is read behind the bound, all of it, is saved so
pub tables_save : (flat : List ℕ) (bound : ℕ) (rest : List ℕ) (tables : List (Declaration × List Indexed))
    (left : List ℕ) → head_at flat ≡ Some (bound, rest)
    → counted_at (table_at bound) rest ≡ Some (tables, left) → left ≡ [] → Saves flat (state_with bound tables)
tables_save flat bound rest tables left e f none =
    let head = head_found flat bound rest e in
    let found = (counted_finds length_finds (table_finds bound head.0)).sound rest tables left f in
    let again = sym (zip_again tables) in
    let many = sym (as_many_firsts tables) in
    record {
      can = record {
        bound = head.0;
        few = subst IsShort many found.0.0;
        as_many = as_many_seconds tables ∙ many;
        each = subst (AllByRecursion (IsSavedTable bound)) again found.0.1;
      };
      is =
          head.1 ∙ (λ i. mark ++ (count_bytes bound ++ found.1 i))
          ∙ (λ i. mark ++ (count_bytes bound ++ ((length_bytes (many i) ++ flat_map table_bytes (again i)) ++ none i)))
          ∙ (λ i. mark ++ (count_bytes bound
          ++ append-nil (length_bytes (length (map (λ (t : Declaration × List Indexed). t.0) tables))
          ++ flat_map table_bytes (tables_of (state_with bound tables))) i));
    }

-- what can be saved is found
pub saved_again : (saved : SavedState) → CanBeSaved saved → saved_at (saved_bytes saved) ≡ Some (saved, [])
unfolding saved_at
saved_again saved h =
    let bound = saved.bound in
    let tables = tables_of saved in
    let firsts_are = firsts saved.decls saved.tables h.as_many in
    let seconds_are = seconds saved.decls saved.tables h.as_many in
    let many : length tables ≡ length saved.decls = sym (as_many_firsts tables) ∙ ap length firsts_are in
    let behind = length_bytes (length saved.decls) ++ flat_map table_bytes tables in
    ap (λ o. and_then o tables_behind) (head_again bound behind h.bound)
    ∙ first_there (counted_finds length_finds (table_finds bound h.bound)) tables behind [] (state_behind bound)
    (subst IsShort (sym many) h.few, h.each)
    ((λ i. length_bytes (sym many i) ++ flat_map table_bytes tables)
    ∙ sym (append-nil (length_bytes (length tables) ++ flat_map table_bytes tables)))
    ∙ (λ i. Some (record { bound = bound; decls = firsts_are i; tables = seconds_are i }, []))

-- the same of declarations and rows that stand apart
pub lists_save : (flat : List ℕ) (bound : ℕ) (rest : List ℕ) (ds : List Declaration) (ts : List (List Indexed))
    (left : List ℕ) → head_at flat ≡ Some (bound, rest)
    → counted_at (table_at bound) rest ≡ Some (zip ds ts, left) → length ts ≡ length ds → left ≡ []
    → Saves flat (record { bound = bound; decls = ds; tables = ts })
lists_save flat bound rest ds ts left e f long none =
    subst (Saves flat) (λ i. record { bound = bound; decls = firsts ds ts long i; tables = seconds ds ts long i })
    (tables_save flat bound rest (zip ds ts) left e f none)

-- where the bound, the tables or the end is missing, nothing is found
pub no_head : (flat : List ℕ) → head_at flat ≡ None → saved_at flat ≡ None
unfolding saved_at
no_head flat none = ap (λ o. and_then o tables_behind) none

pub no_tables : (flat : List ℕ) (bound : ℕ) (rest : List ℕ) → head_at flat ≡ Some (bound, rest)
    → counted_at (table_at bound) rest ≡ None → saved_at flat ≡ None
unfolding saved_at
no_tables flat bound rest e none = ap (λ o. and_then o tables_behind) e ∙ ap (λ o. and_then o (state_behind bound)) none

pub no_end : (flat : List ℕ) (bound : ℕ) (rest : List ℕ) (tables : List (Declaration × List Indexed)) (left : List ℕ)
    → head_at flat ≡ Some (bound, rest)
    → counted_at (table_at bound) rest ≡ Some (tables, left) → (length left == 0) ≡ false → saved_at flat ≡ None
unfolding saved_at
no_end flat bound rest tables left e f more =
    ap (λ o. and_then o tables_behind) e ∙ ap (λ o. and_then o (state_behind bound)) f
    ∙ ap (λ b. only b (Some (state_with bound tables, left))) more

-- tables in the order in which they are read
pub zip_more : (ds : List Declaration) (ts : List (List Indexed)) (d : Declaration) (t : List Indexed)
    → length ts ≡ length ds → zip (ds ++ d ∷ []) (ts ++ t ∷ []) ≡ zip ds ts ++ (d, t) ∷ []
zip_more [] [] d t long = refl
zip_more [] (u ∷ ts) d t long = absurd (omega (arith, long))
zip_more (e ∷ ds) [] d t long = absurd (omega (arith, long))
zip_more (e ∷ ds) (u ∷ ts) d t long = ap (λ l. (e, u) ∷ l) (zip_more ds ts d t (omega (arith, long)))

-- bytes in which nothing was found are saved as nothing
pub nothing_saves : (flat : List ℕ) → saved_at flat ≡ None → (saved : SavedState) → Saves flat saved → ⊥
nothing_saves flat none saved h = none_some (sym none ∙ ap saved_at h.is ∙ saved_again saved h.can)

-- no bytes are saved as two states
pub one_spelling : IsOneSpelling
one_spelling flat first second h k =
    (found_is first second [] []
    (sym (saved_again first h.can) ∙ ap saved_at (sym h.is ∙ k.is) ∙ saved_again second k.can)).0
