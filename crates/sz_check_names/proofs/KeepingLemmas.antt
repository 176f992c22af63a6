-- Laws of how what is known is kept.
use Rattle.std.proofs.Common.{◌≡◌, ℕ, zero, suc, ◌-◌, ◌<◌, ◌≤◌, Bool, true, false, not, ◌&&◌, ◌||◌, nat_le, List, [], ◌∷◌, ◌++◌, length, filter, slice_get}
use Rattle.std.proofs.Common.{Option, None, Some, option_map, is_some, unwrap_or, bytes_eq, refl, sym, ap, subst, ◌∙◌, ◌↔◌, IsTrue, IfOk, OnOk, OnErr}
use Rattle.std.proofs.Common.{Result, Ok, Err, true≢false, if◌then◌else◌, arith}
use Rattle.std.specs.Option.{option_or, option_map_or}
use Rattle.std.specs.declared.alloc.AllocError.{AllocError}
use Rattle.std.proofs.lemmas.Bool.{le-leb, lt-leb, leb-true, cond-true, cond-false}
use Rattle.std.proofs.lemmas.Option.{none-some, same_Some, slice_get_within}
use Rattle.std.proofs.lemmas.List.{length_push}
use Rattle.sz_types.specs.Data.{Shape}
use Rattle.sz_scope.specs.Blocks as scopes
use Rattle.sz_scope.specs.Blocks.{Declaration, found, found_in, is_declared, with_declared}
use Rattle.sz_scope.specs.Sight.{is_of_record, is_table, sees, blocks_where, seen_blocks}
use Rattle.sz_scope.specs.declared.meaning.Meaning.{Meaning as Place}
use Rattle.sz_scope.specs.declared.error.ScopeError.{ScopeError}
use Rattle.sz_scope.specs.declared.error.ScopeError.TheVariants.{Twice, NoMemory}
use Rattle.sz_scope.specs.declared.sight.Sight.{Sight}
use Rattle.sz_scope.specs.declared.sight.Sight.TheVariants as sights
use Rattle.sz_check_names.specs.declared.site.Site.{Site}
use Rattle.sz_check_names.specs.declared.site.Site.TheVariants as sites
use Rattle.sz_check_names.specs.declared.meaning.Meaning.{Meaning as Kept}
use Rattle.sz_check_names.specs.declared.meaning.Meaning.TheVariants as stored
use Rattle.sz_check_rules.specs.Names.{Meaning, Named, Block, has, meaning_in, only, scoped, is_seen_by_functions, is_seen_by_statics}
use Rattle.sz_check_rules.specs.Names as names
use Rattle.sz_check_rules.proofs.TruthLemmas.{and_false}
use Rattle.sz_check_names.specs.Knowledge.{meaning_of, Knowledge, blocks_of, blocks_for, in_function}
use Rattle.sz_check_names.specs.Keeping.{floor_of, seen_from, sits_in, sight_for, place_of, placed, is_new, kept_at, meaning_by, block_by, blocks_by}
use Rattle.sz_check_names.specs.Keeping.{knowledge_of, with_name, with_type, IsPlaced, ArePlacedIn, ArePlaced, IsTyped, AreTyped, IsKept}

-- what is kept under a name, whose place is in the list
record IsEntry (meanings : List Kept) (what : Place) : Type 0 where
  pub place : ℕ
  pub kept : Kept
  pub here : kept_at meanings (place_of what) ≡ Some kept
  pub is : placed place kept ≡ what

entry_of : (meanings : List Kept) (what : Place) → IsPlaced meanings what → IsEntry meanings what
entry_of meanings what p = by (kept_at meanings (place_of what)) refl p
  where
    by : (o : Option Kept) → kept_at meanings (place_of what) ≡ o
        → option_map (placed (unwrap_or (place_of what) 0)) o ≡ Some what → IsEntry meanings what
    by None e q = absurd (none-some what q)
    by (Some m) e q = record { place = unwrap_or (place_of what) 0; kept = m; here = e; is = same_Some _ _ q }

-- who sees what is kept: the blocks say the same as the meanings
module _ (types : List Shape) (meanings : List Kept) where
  means : (what : Place) (h : IsEntry meanings what) → meaning_by types meanings what ≡ meaning_of types h.kept
  means what h = ap (λ o. option_map_or (meaning_of types) o names.input) h.here

  kind_is : (place : ℕ) (m : Kept) → (is_of_record (placed place m) ≡ is_of_record (scoped (meaning_of types m)))
      × (is_table (placed place m) ≡ is_table (scoped (meaning_of types m)))
  kind_is place (stored.Variable v t) = (refl, refl)
  kind_is place (stored.Quantified v t) = (refl, refl)
  kind_is place (stored.Static v t) = (refl, refl)
  kind_is place (stored.«Type» t) = (refl, refl)
  kind_is place (stored.Table v t) = (refl, refl)
  kind_is place (stored.Function v t) = (refl, refl)
  kind_is place (stored.Predeclared b) = (refl, refl)
  kind_is place stored.Input = (refl, refl)

  of_routine : (sight : Sight) (count depth : ℕ) (place : ℕ) (m : Kept) → sits_in sight count ≡ true
      → sees sight depth (placed place m) ≡ (nat_le (floor_of sight) depth || is_seen_by_functions (meaning_of types m))
  of_routine sights.Record count depth place m s =
      sym (ap (λ b. b || is_seen_by_functions (meaning_of types m)) (le-leb 0 depth (omega arith)))
  of_routine (sights.Function outside) count depth place m s =
      ap (λ b. nat_le outside depth || not b) (kind_is place m).0
  of_routine sights.Static count depth place m s = absurd (true≢false (sym s))

  of_static : (depth : ℕ) (place : ℕ) (m : Kept)
      → sees sights.Static depth (placed place m) ≡ is_seen_by_statics (meaning_of types m)
  of_static depth place m = λ i. not ((kind_is place m).1 i) && not ((kind_is place m).0 i)

  routine_sees : (sight : Sight) (count depth : ℕ) (what : Place) → sits_in sight count ≡ true → IsPlaced meanings what
      → sees sight depth what ≡ (nat_le (floor_of sight) depth || is_seen_by_functions (meaning_by types meanings what))
  routine_sees sight count depth what s p =
      let h = entry_of meanings what p in
      ap (sees sight depth) (sym h.is) ∙ of_routine sight count depth h.place h.kept s
      ∙ ap (λ m. nat_le (floor_of sight) depth || is_seen_by_functions m) (sym (means what h))

  static_sees : (depth : ℕ) (what : Place) → IsPlaced meanings what
      → sees sights.Static depth what ≡ is_seen_by_statics (meaning_by types meanings what)
  static_sees depth what p =
      let h = entry_of meanings what p in
      ap (sees sights.Static depth) (sym h.is) ∙ of_static depth h.place h.kept
      ∙ ap is_seen_by_statics (sym (means what h))

  -- a block of which a part is seen, by a test of what the blocks keep that is a test of what it means
  part_by : (test : Place → Bool) (kept : Meaning → Bool)
      → ((what : Place) → IsPlaced meanings what → test what ≡ kept (meaning_by types meanings what))
      → (block : scopes.Block) → ArePlacedIn meanings block
      → block_by types meanings (filter (λ (d : Declaration). test d.what) block)
      ≡ filter (λ (n : Named). kept n.meaning) (block_by types meanings block)
  part_by test kept same [] h = refl
  part_by test kept same (d ∷ block) h =
      by (test d.what) (kept (meaning_by types meanings d.what)) (same d.what h.0) (part_by test kept same block h.1)
    where
      front : Named
      front = record { name = d.name; meaning = meaning_by types meanings d.what }

      by : (b c : Bool) → b ≡ c
          → block_by types meanings (filter (λ (d : Declaration). test d.what) block)
          ≡ filter (λ (n : Named). kept n.meaning) (block_by types meanings block)
          → block_by types meanings (if b then d ∷ filter (λ (d : Declaration). test d.what) block
          else filter (λ (d : Declaration). test d.what) block)
          ≡ (if c then front ∷ filter (λ (n : Named). kept n.meaning) (block_by types meanings block)
          else filter (λ (n : Named). kept n.meaning) (block_by types meanings block))
      by true true e rest = ap (λ (l : Block). front ∷ l) rest
      by false false e rest = rest
      by true false e rest = absurd (true≢false e)
      by false true e rest = absurd (true≢false (sym e))

  -- what is found means what the meanings say
  pub found_means : (name : List ℕ) (blocks : List scopes.Block)
      → option_map (meaning_by types meanings) (found name blocks)
      ≡ names.meaning_of name (blocks_by types meanings blocks)
  found_means name [] = refl
  found_means name (block ∷ blocks) =
      joined (found_in name block) (found name blocks) (in_block block) (found_means name blocks)
    where
      in_block : (block : scopes.Block) → option_map (meaning_by types meanings) (found_in name block)
          ≡ meaning_in name (block_by types meanings block)
      in_block [] = refl
      in_block (d ∷ block) = by (bytes_eq name d.name) (in_block block)
        where
          by : (b : Bool) → option_map (meaning_by types meanings) (found_in name block)
              ≡ meaning_in name (block_by types meanings block)
              → option_map (meaning_by types meanings) (if b then Some d.what else found_in name block)
              ≡ (if b then Some (meaning_by types meanings d.what) else meaning_in name (block_by types meanings block))
          by true rest = refl
          by false rest = rest

      joined : (o p : Option Place)
          → option_map (meaning_by types meanings) o ≡ meaning_in name (block_by types meanings block)
          → option_map (meaning_by types meanings) p ≡ names.meaning_of name (blocks_by types meanings blocks)
          → option_map (meaning_by types meanings) (option_or o p)
          ≡ option_or (meaning_in name (block_by types meanings block))
          (names.meaning_of name (blocks_by types meanings blocks))
      joined (Some w) p e f = ap (λ q. option_or q (names.meaning_of name (blocks_by types meanings blocks))) e
      joined None p e f = f ∙ ap (λ q. option_or q (names.meaning_of name (blocks_by types meanings blocks))) e

  length_by : (blocks : List scopes.Block) → length (blocks_by types meanings blocks) ≡ length blocks
  length_by [] = refl
  length_by (block ∷ blocks) = ap (λ n. suc n) (length_by blocks)

  placed_where : (test : ℕ → Place → Bool) (blocks : List scopes.Block) → ArePlaced meanings blocks
      → ArePlaced meanings (blocks_where test blocks)
  placed_where test [] h = tt
  placed_where test (block ∷ blocks) h = (part block h.0, placed_where test blocks h.1)
    where
      part : (block : scopes.Block) → ArePlacedIn meanings block
          → ArePlacedIn meanings (filter (λ (d : Declaration). test (length blocks) d.what) block)
      part [] h = tt
      part (d ∷ block) h = by (test (length blocks) d.what) (part block h.1)
        where
          by : (b : Bool) → ArePlacedIn meanings (filter (λ (d : Declaration). test (length blocks) d.what) block)
              → ArePlacedIn meanings
              (if b then d ∷ filter (λ (d : Declaration). test (length blocks) d.what) block else filter
              (λ (d : Declaration). test (length blocks) d.what) block)
          by true rest = (h.0, rest)
          by false rest = rest

  found_is_placed : (name : List ℕ) (blocks : List scopes.Block) → ArePlaced meanings blocks → (what : Place)
      → found name blocks ≡ Some what → IsPlaced meanings what
  found_is_placed name [] h what p = absurd (none-some what p)
  found_is_placed name (block ∷ blocks) h what p =
      by (found_in name block) (in_block block h.0) (found_is_placed name blocks h.1) p
    where
      in_block : (block : scopes.Block) → ArePlacedIn meanings block → (what : Place)
          → found_in name block ≡ Some what → IsPlaced meanings what
      in_block [] h what p = absurd (none-some what p)
      in_block (d ∷ block) h what p = this (bytes_eq name d.name) (in_block block h.1) p
        where
          this : (b : Bool) → ((what : Place) → found_in name block ≡ Some what → IsPlaced meanings what)
              → (if b then Some d.what else found_in name block) ≡ Some what → IsPlaced meanings what
          this true rest p = subst (IsPlaced meanings) (same_Some d.what what p) h.0
          this false rest p = rest what p

      by : (o : Option Place) → ((what : Place) → o ≡ Some what → IsPlaced meanings what)
          → ((what : Place) → found name blocks ≡ Some what → IsPlaced meanings what)
          → option_or o (found name blocks) ≡ Some what → IsPlaced meanings what
      by (Some w) here there p = here what p
      by None here there p = there what p

-- what a test that is as strict leaves of a part is what it leaves of the whole
part_of_part : (test : Meaning → Bool) → ((m : Meaning) → is_seen_by_functions m ≡ false → test m ≡ false)
    → (block : Block)
    → filter (λ (n : Named). test n.meaning) (filter (λ (n : Named). is_seen_by_functions n.meaning) block)
    ≡ filter (λ (n : Named). test n.meaning) block
part_of_part test strict [] = refl
part_of_part test strict (n ∷ block) =
    by (is_seen_by_functions n.meaning) (strict n.meaning) (part_of_part test strict block)
  where
    part : Block
    part = filter (λ (n : Named). is_seen_by_functions n.meaning) block

    by : (b : Bool) → (b ≡ false → test n.meaning ≡ false)
        → filter (λ (n : Named). test n.meaning) part ≡ filter (λ (n : Named). test n.meaning) block
        → filter (λ (n : Named). test n.meaning) (if b then n ∷ part else part)
        ≡ filter (λ (n : Named). test n.meaning) (n ∷ block)
    by true less rest = ap (λ (l : Block). if test n.meaning then n ∷ l else l) rest
    by false less rest = rest ∙ sym
        (cond-false (test n.meaning) (n ∷ filter (λ (n : Named). test n.meaning) block)
        (filter (λ (n : Named). test n.meaning) block) (less refl))

only_seen : (test : Meaning → Bool) → ((m : Meaning) → is_seen_by_functions m ≡ false → test m ≡ false)
    → (sight : Sight) (blocks : List Block) → only test (seen_from sight blocks) ≡ only test blocks
only_seen test strict sight [] = refl
only_seen test strict sight (block ∷ blocks) =
    λ i. by (nat_le (floor_of sight) (length blocks)) i ∷ only_seen test strict sight blocks i
  where
    by : (b : Bool) → filter (λ (n : Named). test n.meaning)
        (if b then block else filter (λ (n : Named). is_seen_by_functions n.meaning) block)
        ≡ filter (λ (n : Named). test n.meaning) block
    by true = refl
    by false = part_of_part test strict block

statics_see_less : (m : Meaning) → is_seen_by_functions m ≡ false → is_seen_by_statics m ≡ false
statics_see_less m e = ap (λ b. not (is_table (scoped m)) && b) e ∙ and_false (not (is_table (scoped m)))

-- a routine sits no deeper than it may
sits_floor : (sight : Sight) (count : ℕ) → sits_in sight count ≡ true → floor_of sight ≤ count
sits_floor sights.Record count s = omega arith
sits_floor (sights.Function outside) count s = leb-true outside count s
sits_floor sights.Static count s = absurd (true≢false (sym s))

module _ (types : List Shape) (meanings : List Kept) where
  seen_by_routine : (sight : Sight) (count : ℕ) → sits_in sight count ≡ true → (blocks : List scopes.Block)
      → ArePlaced meanings blocks
      → blocks_by types meanings (seen_blocks sight blocks) ≡ seen_from sight (blocks_by types meanings blocks)
  seen_by_routine sight count s [] h = refl
  seen_by_routine sight count s (block ∷ blocks) h = λ i. in_block i ∷ seen_by_routine sight count s blocks h.1 i
    where
      whole : (b : Bool) (block : Block) → filter (λ (n : Named). b || is_seen_by_functions n.meaning) block
          ≡ (if b then block else filter (λ (n : Named). is_seen_by_functions n.meaning) block)
      whole true [] = refl
      whole true (n ∷ block) = ap (λ (l : Block). n ∷ l) (whole true block)
      whole false block = refl

      in_block : block_by types meanings (filter (λ (d : Declaration). sees sight (length blocks) d.what) block)
          ≡ (if nat_le (floor_of sight) (length (blocks_by types meanings blocks)) then block_by types meanings block
          else filter (λ (n : Named). is_seen_by_functions n.meaning) (block_by types meanings block))
      in_block =
          part_by types meanings (sees sight (length blocks))
          (λ m. nat_le (floor_of sight) (length blocks) || is_seen_by_functions m)
          (λ what p. routine_sees types meanings sight count (length blocks) what s p) block h.0
          ∙ whole (nat_le (floor_of sight) (length blocks)) (block_by types meanings block)
          ∙ ap (λ n. if nat_le (floor_of sight) n then block_by types meanings block
          else filter (λ (n : Named). is_seen_by_functions n.meaning) (block_by types meanings block))
          (sym (length_by types meanings blocks))

  seen_by_static : (blocks : List scopes.Block) → ArePlaced meanings blocks
      → blocks_by types meanings (seen_blocks sights.Static blocks)
      ≡ only is_seen_by_statics (blocks_by types meanings blocks)
  seen_by_static [] h = refl
  seen_by_static (block ∷ blocks) h =
      λ i. part_by types meanings (sees sights.Static (length blocks)) is_seen_by_statics
      (λ what p. static_sees types meanings (length blocks) what p) block h.0 i
      ∷ seen_by_static blocks h.1 i

  seen_by_statement : (sight : Sight) (locals : List Shape) (blocks : List scopes.Block)
      → IsKept types meanings blocks sight → blocks_by types meanings (seen_blocks sight blocks)
      ≡ blocks_of (knowledge_of (blocks_by types meanings blocks) sight types locals)
  seen_by_statement sight locals [] k = absurd (omega (arith, k.some))
  seen_by_statement sight locals (block ∷ blocks) k =
      seen_by_routine sight (length (block ∷ blocks) - 1) k.sits (block ∷ blocks) k.placed
      ∙ ap (λ (b : Block). b ∷ seen_from sight (blocks_by types meanings blocks))
      (cond-true (nat_le (floor_of sight) (length (blocks_by types meanings blocks))) (block_by types meanings block)
      (filter (λ (n : Named). is_seen_by_functions n.meaning) (block_by types meanings block))
      (le-leb (floor_of sight) (length (blocks_by types meanings blocks)) within))
    where
      within : floor_of sight ≤ length (blocks_by types meanings blocks)
      within = omega (arith, sits_floor sight (length (block ∷ blocks) - 1) k.sits, length_by types meanings blocks)

  blocks_seen : (sight : Sight) (locals : List Shape) (site : Site) (blocks : List scopes.Block)
      → IsKept types meanings blocks sight → blocks_by types meanings (seen_blocks (sight_for sight site) blocks)
      ≡ blocks_for (knowledge_of (blocks_by types meanings blocks) sight types locals) site
  blocks_seen sight locals site [] k = absurd (omega (arith, k.some))
  blocks_seen sight locals sites.Statement blocks k = seen_by_statement sight locals blocks k
  blocks_seen sight locals sites.Condition blocks k = seen_by_statement sight locals blocks k
  blocks_seen sight locals sites.Static (block ∷ blocks) k =
      seen_by_static (block ∷ blocks) k.placed
      ∙ ap
      (λ (bs : List Block). filter (λ (n : Named). is_seen_by_statics n.meaning) (block_by types meanings block) ∷ bs)
      (sym (only_seen is_seen_by_statics statics_see_less sight (blocks_by types meanings blocks)))

  -- what is found by the list of meanings is what the name stands for
  pub find_is : (name : List ℕ) (locals : List Shape) (site : Site) (blocks : List scopes.Block) (sight : Sight)
      → IsKept types meanings blocks sight
      → (o : Option Place) → o ≡ found name (seen_blocks (sight_for sight site) blocks)
      → option_map (meaning_by types meanings) o
      ≡ names.meaning_of name (blocks_for (knowledge_of (blocks_by types meanings blocks) sight types locals) site)
  find_is name locals site blocks sight k o p =
      ap (option_map (meaning_by types meanings)) p
      ∙ found_means types meanings name (seen_blocks (sight_for sight site) blocks)
      ∙ ap (names.meaning_of name) (blocks_seen sight locals site blocks k)

  pub found_placed : (name : List ℕ) (from : Sight) (blocks : List scopes.Block) (sight : Sight)
      → IsKept types meanings blocks sight
      → (what : Place) → Some what ≡ found name (seen_blocks from blocks) → IsPlaced meanings what
  found_placed name from blocks sight k what p =
      found_is_placed types meanings name (seen_blocks from blocks)
      (placed_where types meanings (sees from) blocks k.placed) what (sym p)

  -- the place of what is found is in the list
  pub place_within : (what : Place) → IsPlaced meanings what → (place : ℕ) → place_of what ≡ Some place
      → place < length meanings
  place_within what p place e = slice_get_within meanings place h.kept (ap (kept_at meanings) (sym e) ∙ h.here)
    where
      h : IsEntry meanings what
      h = entry_of meanings what p

  -- and what is kept there is what it means
  pub place_means : (what : Place) (place : ℕ) (m : Kept) → place_of what ≡ Some place
      → slice_get meanings place ≡ Some m → meaning_of types m ≡ meaning_by types meanings what
  place_means what place m e q =
      ap (λ o. option_map_or (meaning_of types) o names.input) (sym (ap (kept_at meanings) e ∙ q))

  -- what has no place is the record
  pub record_means : (what : Place) → place_of what ≡ None → names.input ≡ meaning_by types meanings what
  record_means what e = ap (λ o. option_map_or (meaning_of types) (kept_at meanings o) names.input) (sym e)

-- elements of a list with one more at its end
get_stays : {X : Type 0} (xs : List X) (y x : X) (i : ℕ) → slice_get xs i ≡ Some x → slice_get (xs ++ y ∷ []) i ≡ Some x
get_stays [] y x i p = absurd (none-some x p)
get_stays (z ∷ xs) y x zero p = p
get_stays (z ∷ xs) y x (suc i) p = get_stays xs y x i p

get_before : {X : Type 0} (xs : List X) (y : X) (i : ℕ) → i < length xs → slice_get (xs ++ y ∷ []) i ≡ slice_get xs i
get_before [] y i h = absurd (omega (arith, h))
get_before (x ∷ xs) y zero h = refl
get_before (x ∷ xs) y (suc i) h = get_before xs y i (omega (arith, h))

pub get_last : {X : Type 0} (xs : List X) (y : X) → slice_get (xs ++ y ∷ []) (length xs) ≡ Some y
get_last [] y = refl
get_last (x ∷ xs) y = get_last xs y

-- a meaning more
module _ (types : List Shape) (meanings : List Kept) (m : Kept) where
  kept_stays : (at : Option ℕ) (k : Kept) → kept_at meanings at ≡ Some k → kept_at (meanings ++ m ∷ []) at ≡ Some k
  kept_stays None k p = p
  kept_stays (Some n) k p = get_stays meanings m k n p

  placed_stays : (what : Place) → IsPlaced meanings what → IsPlaced (meanings ++ m ∷ []) what
  placed_stays what p =
      let h = entry_of meanings what p in
      ap (option_map (placed (unwrap_or (place_of what) 0))) (kept_stays (place_of what) h.kept h.here ∙ sym h.here) ∙ p

  means_stays : (what : Place) → IsPlaced meanings what
      → meaning_by types (meanings ++ m ∷ []) what ≡ meaning_by types meanings what
  means_stays what p =
      let h = entry_of meanings what p in
      ap (λ o. option_map_or (meaning_of types) o names.input) (kept_stays (place_of what) h.kept h.here ∙ sym h.here)

  block_stays : (block : scopes.Block) → ArePlacedIn meanings block
      → block_by types (meanings ++ m ∷ []) block ≡ block_by types meanings block
  block_stays [] h = refl
  block_stays (d ∷ block) h =
      λ i. record { name = d.name; meaning = means_stays d.what h.0 i } ∷ block_stays block h.1 i

  blocks_stay : (blocks : List scopes.Block) → ArePlaced meanings blocks
      → blocks_by types (meanings ++ m ∷ []) blocks ≡ blocks_by types meanings blocks
  blocks_stay [] h = refl
  blocks_stay (block ∷ blocks) h = λ i. block_stays block h.0 i ∷ blocks_stay blocks h.1 i

  all_stay : (blocks : List scopes.Block) → ArePlaced meanings blocks → ArePlaced (meanings ++ m ∷ []) blocks
  all_stay [] h = tt
  all_stay (block ∷ blocks) h = (part block h.0, all_stay blocks h.1)
    where
      part : (block : scopes.Block) → ArePlacedIn meanings block → ArePlacedIn (meanings ++ m ∷ []) block
      part [] h = tt
      part (d ∷ block) h = (placed_stays d.what h.0, part block h.1)

  all_typed : (count : ℕ) (ms : List Kept) → AreTyped count ms → IsTyped count m → AreTyped count (ms ++ m ∷ [])
  all_typed count [] h t = (t, tt)
  all_typed count (k ∷ ms) h t = (h.0, all_typed count ms h.1 t)

  -- a meaning that no name has yet
  pub kept_more : (blocks : List scopes.Block) (sight : Sight) → IsKept types meanings blocks sight
      → IsTyped (length types) m → IsKept types (meanings ++ m ∷ []) blocks sight
  kept_more blocks sight k t = record {
    placed = all_stay blocks k.placed;
    typed = all_typed (length types) meanings k.typed t;
    some = k.some;
    sits = k.sits;
  }

  pub stays_known : (blocks : List scopes.Block) (sight : Sight) (locals : List Shape)
      → IsKept types meanings blocks sight → knowledge_of (blocks_by types (meanings ++ m ∷ []) blocks) sight types
      locals ≡ knowledge_of (blocks_by types meanings blocks) sight types locals
  stays_known blocks sight locals k =
      ap (λ (bs : List Block). knowledge_of bs sight types locals) (blocks_stay blocks k.placed)

placed_last : (meanings : List Kept) (m : Kept) → IsPlaced (meanings ++ m ∷ []) (placed (length meanings) m)
placed_last meanings (stored.Variable v t) =
    ap (option_map (placed (length meanings))) (get_last meanings (stored.Variable v t))
placed_last meanings (stored.Quantified v t) =
    ap (option_map (placed (length meanings))) (get_last meanings (stored.Quantified v t))
placed_last meanings (stored.Static v t) =
    ap (option_map (placed (length meanings))) (get_last meanings (stored.Static v t))
placed_last meanings (stored.«Type» t) =
    ap (option_map (placed (length meanings))) (get_last meanings (stored.«Type» t))
placed_last meanings (stored.Table v t) =
    ap (option_map (placed (length meanings))) (get_last meanings (stored.Table v t))
placed_last meanings (stored.Function v t) =
    ap (option_map (placed (length meanings))) (get_last meanings (stored.Function v t))
placed_last meanings (stored.Predeclared b) =
    ap (option_map (placed (length meanings))) (get_last meanings (stored.Predeclared b))
placed_last meanings stored.Input = refl

means_last : (types : List Shape) (meanings : List Kept) (m : Kept)
    → meaning_by types (meanings ++ m ∷ []) (placed (length meanings) m) ≡ meaning_of types m
means_last types meanings (stored.Variable v t) =
    ap (λ o. option_map_or (meaning_of types) o names.input) (get_last meanings (stored.Variable v t))
means_last types meanings (stored.Quantified v t) =
    ap (λ o. option_map_or (meaning_of types) o names.input) (get_last meanings (stored.Quantified v t))
means_last types meanings (stored.Static v t) =
    ap (λ o. option_map_or (meaning_of types) o names.input) (get_last meanings (stored.Static v t))
means_last types meanings (stored.«Type» t) =
    ap (λ o. option_map_or (meaning_of types) o names.input) (get_last meanings (stored.«Type» t))
means_last types meanings (stored.Table v t) =
    ap (λ o. option_map_or (meaning_of types) o names.input) (get_last meanings (stored.Table v t))
means_last types meanings (stored.Function v t) =
    ap (λ o. option_map_or (meaning_of types) o names.input) (get_last meanings (stored.Function v t))
means_last types meanings (stored.Predeclared b) =
    ap (λ o. option_map_or (meaning_of types) o names.input) (get_last meanings (stored.Predeclared b))
means_last types meanings stored.Input = refl

module _ (types : List Shape) (meanings : List Kept) (m : Kept) (name : List ℕ) where
  -- a name more in the innermost block
  pub kept_put : (blocks : List scopes.Block) (sight : Sight) → IsKept types meanings blocks sight
      → IsTyped (length types) m → IsKept types (meanings ++ m ∷ [])
      (with_declared (record { name = name; what = placed (length meanings) m }) blocks) sight
  kept_put [] sight k t = absurd (omega (arith, k.some))
  kept_put (block ∷ blocks) sight k t =
      let more = kept_more types meanings m (block ∷ blocks) sight k t in
      record {
        placed = ((placed_last meanings m, more.placed.0), more.placed.1);
        typed = more.typed;
        some = omega arith;
        sits = k.sits;
      }

  pub put_known : (blocks : List scopes.Block) (sight : Sight) (locals : List Shape)
      → IsKept types meanings blocks sight → knowledge_of (blocks_by types (meanings ++ m ∷ [])
      (with_declared (record { name = name; what = placed (length meanings) m }) blocks))
      sight types locals
      ≡ with_name name (meaning_of types m) (knowledge_of (blocks_by types meanings blocks) sight types locals)
  put_known [] sight locals k = absurd (omega (arith, k.some))
  put_known (block ∷ blocks) sight locals k =
      λ i. knowledge_of
      ((record { name = name; meaning = means_last types meanings m i } ∷ block_stays types meanings m block
      k.placed.0 i) ∷ blocks_stay types meanings m blocks k.placed.1 i) sight types locals

-- whether the innermost block has a name
pub has_is : (types : List Shape) (meanings : List Kept) (name : List ℕ) (blocks : List scopes.Block) (sight : Sight)
    (locals : List Shape)
    → is_declared name blocks ≡ has name (knowledge_of (blocks_by types meanings blocks) sight types locals).innermost
has_is types meanings name [] sight locals = refl
has_is types meanings name (block ∷ blocks) sight locals = in_block block
  where
    in_block : (block : scopes.Block) → is_some (found_in name block) ≡ has name (block_by types meanings block)
    in_block [] = refl
    in_block (d ∷ block) = by (bytes_eq name d.name) (in_block block)
      where
        by : (b : Bool) → is_some (found_in name block) ≡ has name (block_by types meanings block)
            → is_some (if b then Some d.what else found_in name block) ≡ (b || has name (block_by types meanings block))
        by true rest = refl
        by false rest = rest

-- a type that is kept at a place has one of so many numbers
pub typed_at : (count : ℕ) (ms : List Kept) (at : Option ℕ) (m : Kept) → AreTyped count ms → kept_at ms at ≡ Some m
    → IsTyped count m
typed_at count ms None m h p = subst (IsTyped count) (same_Some stored.Input m p) tt
typed_at count [] (Some n) m h p = absurd (none-some m p)
typed_at count (k ∷ ms) (Some zero) m h p = subst (IsTyped count) (same_Some k m p) h.0
typed_at count (k ∷ ms) (Some (suc n)) m h p = typed_at count ms (Some n) m h.1 p

-- a type more
module _ (types : List Shape) (t : Shape) (meanings : List Kept) where
  meaning_same : (m : Kept) → IsTyped (length types) m → meaning_of (types ++ t ∷ []) m ≡ meaning_of types m
  meaning_same (stored.Variable n s) h = refl
  meaning_same (stored.Quantified n s) h = refl
  meaning_same (stored.Static n s) h = refl
  meaning_same (stored.«Type» n) h = ap (λ o. names.type_name (unwrap_or o Shape.truth)) (get_before types t n h)
  meaning_same (stored.Table n d) h = refl
  meaning_same (stored.Function n s) h = refl
  meaning_same (stored.Predeclared b) h = refl
  meaning_same stored.Input h = refl

  means_same : (what : Place) → IsPlaced meanings what → AreTyped (length types) meanings
      → meaning_by (types ++ t ∷ []) meanings what ≡ meaning_by types meanings what
  means_same what p typed =
      let h = entry_of meanings what p in
      ap (λ o. option_map_or (meaning_of (types ++ t ∷ [])) o names.input) h.here
      ∙ meaning_same h.kept (typed_at (length types) meanings (place_of what) h.kept typed h.here)
      ∙ sym (ap (λ o. option_map_or (meaning_of types) o names.input) h.here)

  blocks_same : (blocks : List scopes.Block) → ArePlaced meanings blocks → AreTyped (length types) meanings
      → blocks_by (types ++ t ∷ []) meanings blocks ≡ blocks_by types meanings blocks
  blocks_same [] h typed = refl
  blocks_same (block ∷ blocks) h typed = λ i. part block h.0 i ∷ blocks_same blocks h.1 typed i
    where
      part : (block : scopes.Block) → ArePlacedIn meanings block
          → block_by (types ++ t ∷ []) meanings block ≡ block_by types meanings block
      part [] h = refl
      part (d ∷ block) h = λ i. record { name = d.name; meaning = means_same d.what h.0 typed i } ∷ part block h.1 i

  typed_weaker : (ms : List Kept) → AreTyped (length types) ms → AreTyped (length (types ++ t ∷ [])) ms
  typed_weaker [] h = tt
  typed_weaker (m ∷ ms) h = (one m h.0, typed_weaker ms h.1)
    where
      one : (m : Kept) → IsTyped (length types) m → IsTyped (length (types ++ t ∷ [])) m
      one (stored.Variable n s) h = tt
      one (stored.Quantified n s) h = tt
      one (stored.Static n s) h = tt
      one (stored.«Type» n) h = omega (arith, h, length_push types t)
      one (stored.Table n d) h = tt
      one (stored.Function n s) h = tt
      one (stored.Predeclared b) h = tt
      one stored.Input h = tt

  pub kept_typed : (blocks : List scopes.Block) (sight : Sight) → IsKept types meanings blocks sight
      → IsKept (types ++ t ∷ []) meanings blocks sight
  kept_typed blocks sight k = record {
    placed = k.placed;
    typed = typed_weaker meanings k.typed;
    some = k.some;
    sits = k.sits;
  }

  pub typed_known : (blocks : List scopes.Block) (sight : Sight) (locals : List Shape)
      → IsKept types meanings blocks sight
      → knowledge_of (blocks_by (types ++ t ∷ []) meanings blocks) sight (types ++ t ∷ []) locals
      ≡ with_type t (knowledge_of (blocks_by types meanings blocks) sight types locals)
  typed_known blocks sight locals k =
      ap (λ (bs : List Block). knowledge_of bs sight (types ++ t ∷ []) locals) (blocks_same blocks k.placed k.typed)
      ∙ by (blocks_by types meanings blocks)
    where
      by : (bs : List Block)
          → knowledge_of bs sight (types ++ t ∷ []) locals ≡ with_type t (knowledge_of bs sight types locals)
      by [] = refl
      by (b ∷ bs) = refl

module _ (types more : List Shape) (t : Shape) (meanings : List Kept) (blocks : List scopes.Block) (sight : Sight)
    (k : IsKept types meanings blocks sight)
    (result : Result ℕ AllocError) (ok : IfOk result (λ n. more ≡ types ++ t ∷ []))
    (err : OnErr result (more ≡ types)) where
  -- where there was memory for it
  pub kept_added : IsKept more meanings blocks sight
  kept_added = by result ok err
    where
      by : (r : Result ℕ AllocError) → IfOk r (λ n. more ≡ types ++ t ∷ []) → OnErr r (more ≡ types)
          → IsKept more meanings blocks sight
      by (Ok n) p q = subst (λ ts. IsKept ts meanings blocks sight) (sym p) (kept_typed types t meanings blocks sight k)
      by (Err e) p q = subst (λ ts. IsKept ts meanings blocks sight) (sym q) k

  pub added_known : (locals : List Shape) (before : Knowledge)
      → knowledge_of (blocks_by types meanings blocks) sight types locals ≡ before
      → IfOk result (λ n. knowledge_of (blocks_by more meanings blocks) sight more locals ≡ with_type t before)
  added_known locals before view = by result ok
    where
      by : (r : Result ℕ AllocError) → IfOk r (λ n. more ≡ types ++ t ∷ [])
          → IfOk r (λ n. knowledge_of (blocks_by more meanings blocks) sight more locals ≡ with_type t before)
      by (Ok n) p = (λ i. knowledge_of (blocks_by (p i) meanings blocks) sight (p i) locals)
          ∙ typed_known types t meanings blocks sight locals k ∙ ap (with_type t) view
      by (Err e) p = tt

-- a name was new unless it is said to be there twice
pub new_is : (result : Result (Unit {0}) ScopeError) (b : Bool) → (result ≡ Err Twice) ↔ IsTrue b
    → IfOk (is_new result) (λ new. new ≡ not b)
new_is (Ok u) false w = refl
new_is (Ok u) true w = absurd (ok_err (w.1 refl))
  where
    ok_err : Ok u ≡ Err Twice → ⊥
    ok_err p = cc
new_is (Err Twice) b w = ap not (sym (w.0 refl))
new_is (Err NoMemory) b w = tt

-- a name is put in the innermost block, or the block has it
module _ (types : List Shape) (meanings others : List Kept) (m : Kept) (name : List ℕ)
    (blocks new : List scopes.Block) (sight : Sight) (place : ℕ) (what : Place)
    (k : IsKept types meanings blocks sight) (typed : IsTyped (length types) m) (pushed : others ≡ meanings ++ m ∷ [])
    (at : place ≡ length meanings) (is : what ≡ placed place m)
    (result : Result Unit ScopeError)
    (ok : OnOk result (new ≡ with_declared (record { name = name; what = what }) blocks))
    (err : OnErr result (new ≡ blocks)) where
  declared : List scopes.Block
  declared = with_declared (record { name = name; what = placed (length meanings) m }) blocks

  what_is : what ≡ placed (length meanings) m
  what_is = is ∙ ap (λ n. placed n m) at

  pub kept_by_put : IsKept types others new sight
  unfolding declared
  kept_by_put = subst (λ ms. IsKept types ms new sight) (sym pushed) (by result ok err)
    where
      by : (r : Result Unit ScopeError) → OnOk r (new ≡ with_declared (record { name = name; what = what }) blocks)
          → OnErr r (new ≡ blocks) → IsKept types (meanings ++ m ∷ []) new sight
      by (Ok u) p q = subst (λ bs. IsKept types (meanings ++ m ∷ []) bs sight)
          (sym (p ∙ ap (λ w. with_declared (record { name = name; what = w }) blocks) what_is))
          (kept_put types meanings m name blocks sight k typed)
      by (Err e) p q = subst (λ bs. IsKept types (meanings ++ m ∷ []) bs sight) (sym q)
          (kept_more types meanings m blocks sight k typed)

  module _ (locals : List Shape) (before : Knowledge)
      (view : knowledge_of (blocks_by types meanings blocks) sight types locals ≡ before)
      (twice : (result ≡ Err Twice) ↔ IsTrue (is_declared name blocks)) where
    stays : new ≡ blocks → knowledge_of (blocks_by types others new) sight types locals ≡ before
    stays q = (λ i. knowledge_of (blocks_by types (pushed i) (q i)) sight types locals)
        ∙ stays_known types meanings m blocks sight locals k ∙ view

    has_it : is_declared name blocks ≡ has name before.innermost
    has_it = has_is types meanings name blocks sight locals ∙ ap (λ h. has name h.innermost) view

    pub put_new : IfOk (is_new result) (λ new. new ≡ not (has name before.innermost))
    put_new =
        subst (λ b. IfOk (is_new result) (λ new. new ≡ not b)) has_it (new_is result (is_declared name blocks) twice)

    pub put_ok : IfOk (is_new result)
        (λ new_one. knowledge_of (blocks_by types others new) sight types locals
        ≡ (if new_one then with_name name (meaning_of types m) before else before))
    put_ok = by result ok err
      where
        by : (r : Result Unit ScopeError) → OnOk r (new ≡ with_declared (record { name = name; what = what }) blocks)
            → OnErr r (new ≡ blocks)
            → IfOk (is_new r) (λ new_one. knowledge_of (blocks_by types others new) sight types locals
            ≡ (if new_one then with_name name (meaning_of types m) before else before))
        by (Ok u) p q =
            (λ i. knowledge_of (blocks_by types (pushed i)
            ((p ∙ ap (λ w. with_declared (record { name = name; what = w }) blocks) what_is) i))
            sight types locals)
            ∙ put_known types meanings m name blocks sight locals k ∙ ap (with_name name (meaning_of types m)) view
        by (Err Twice) p q = stays q
        by (Err NoMemory) p q = tt

    pub put_err : OnErr (is_new result) (knowledge_of (blocks_by types others new) sight types locals ≡ before)
    put_err = by result err
      where
        by : (r : Result Unit ScopeError) → OnErr r (new ≡ blocks)
            → OnErr (is_new r) (knowledge_of (blocks_by types others new) sight types locals ≡ before)
        by (Ok u) q = tt
        by (Err Twice) q = tt
        by (Err NoMemory) q = stays q

-- a function's block, in which the routine outside is seen as functions see it
seen_outside : (outside : ℕ) (blocks : List Block) → length blocks ≤ outside
    → seen_from (sights.Function outside) blocks ≡ only is_seen_by_functions blocks
seen_outside outside [] l = refl
seen_outside outside (block ∷ blocks) l =
    λ i. cond-false (nat_le outside (length blocks)) block
    (filter (λ (n : Named). is_seen_by_functions n.meaning) block)
    (lt-leb outside (length blocks) (omega (arith, l))) i
    ∷ seen_outside outside blocks (omega (arith, l)) i

pub function_known : (types : List Shape) (meanings : List Kept) (blocks : List scopes.Block) (sight : Sight)
    (locals : List Shape) → IsKept types meanings blocks sight
    → knowledge_of (blocks_by types meanings ([] ∷ blocks)) (sights.Function (length blocks)) types []
    ≡ in_function (knowledge_of (blocks_by types meanings blocks) sight types locals)
function_known types meanings [] sight locals k = absurd (omega (arith, k.some))
function_known types meanings (block ∷ blocks) sight locals k = λ i. record {
  innermost = [];
  outside = record {
    seen = seen i;
    all = blocks_by types meanings (block ∷ blocks);
    own = own i;
    sight = sights.Function (suc (sym (length_by types meanings blocks) i));
    types = types;
  };
  locals = [];
}
  where
    own : suc (length (blocks_by types meanings blocks)) - suc (length blocks) ≡ 0
    own = omega (arith, length_by types meanings blocks)

    seen : seen_from (sights.Function (suc (length blocks))) (blocks_by types meanings (block ∷ blocks))
        ≡ only is_seen_by_functions (block_by types meanings block ∷ seen_from sight (blocks_by types meanings blocks))
    seen = seen_outside (suc (length blocks)) (blocks_by types meanings (block ∷ blocks))
        (omega (arith, length_by types meanings blocks)) ∙ ap (λ (bs : List Block).
        filter (λ (n : Named). is_seen_by_functions n.meaning) (block_by types meanings block) ∷ bs)
        (sym (only_seen is_seen_by_functions (λ m e. e) sight (blocks_by types meanings blocks)))

-- the types that are known
pub types_are : (types : List Shape) (meanings : List Kept) (blocks : List scopes.Block) (sight : Sight)
    (locals : List Shape) (before : Knowledge)
    → knowledge_of (blocks_by types meanings blocks) sight types locals ≡ before → types ≡ before.outside.types
types_are types meanings blocks sight locals before view = by (blocks_by types meanings blocks)
    ∙ ap (λ h. h.outside.types) view
  where
    by : (bs : List Block) → types ≡ (knowledge_of bs sight types locals).outside.types
    by [] = refl
    by (b ∷ bs) = refl
