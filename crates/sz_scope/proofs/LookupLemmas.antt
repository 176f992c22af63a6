-- Laws of how a name is looked up in what is sound.
use Rattle.std.proofs.Common.{◌≡◌, ℕ, suc, ◌<◌, Bool, true, false, ◌==◌, List, [], ◌∷◌, length, reverse, slice_get, get_or, set, ◌++◌, Option, None, Some, option_map, is_some, unwrap_or, refl, sym, ap, subst, ◌∙◌, arith}
use Rattle.std.proofs.lemmas.List.{reverse-reverse, length-reverse, reverse-append}
use Rattle.std.proofs.lemmas.Option.{none-some, same_Some, slice_get_read}
use Rattle.sz_scope.specs.declared.meaning.Meaning.{Meaning}
use Rattle.sz_scope.specs.declared.entry.Entry.{Entry}
use Rattle.sz_scope.specs.Blocks.{Block, found, is_declared, with_declared}
use Rattle.sz_scope.specs.Sight.{blocks_where}
use Rattle.sz_scope.specs.Names.{place_of, name_at}
use Rattle.sz_scope.specs.Chain.{latest, first_where, IsSound, blocks_of}
use Rattle.sz_scope.proofs.NamesLemmas.{at_place}
use Rattle.sz_scope.proofs.ChainLemmas.{latest_within, first_none, get_oldest}
use Rattle.sz_scope.proofs.BlocksLemmas.{block_declared, blocks_whole}
use Rattle.sz_scope.proofs.SoundLemmas.{sound_declared}
use Rattle.sz_scope.proofs.FoundLemmas.{answer_is, answer_none, at_depth, found_at, found_nowhere}

module _ (names : List (List ℕ)) (newest : List (Option ℕ)) (all : List Entry) (depth : ℕ)
    (sound : IsSound names newest (reverse all) depth)
    (name : List ℕ) where
  -- a name that has a place has a newest entry
  pub place_within : (place : ℕ) → place_of name names ≡ Some place → place < length newest
  place_within place p = omega (arith, (at_place name names place p).0, sound.room)

  -- and it is what stands there
  pub newest_is_latest : (place : ℕ) → place_of name names ≡ Some place → (at : Option ℕ)
      → slice_get newest place ≡ Some at → at ≡ latest place (reverse all)
  newest_is_latest place p at q =
      same_Some at (latest place (reverse all)) (sym q ∙ sound.indexed place (place_within place p))

  -- it is one of the entries
  pub newest_within : (place : ℕ) → place_of name names ≡ Some place → (at : Option ℕ)
      → slice_get newest place ≡ Some at → (i : ℕ) → at ≡ Some i → i < length all
  newest_within place p at q i is =
      omega (arith, latest_within place (reverse all) i (sym (newest_is_latest place p at q) ∙ is), length-reverse all)

module _ (names : List (List ℕ)) (name : List ℕ) (newest : List (Option ℕ)) (all : List Entry) (depth : ℕ)
    (sound : IsSound names newest (reverse all) (suc depth))
    (at : Option ℕ) (answer : Bool)
    (some : (i : ℕ) → at ≡ Some i → option_map (λ (e : Entry). e.depth == depth) (slice_get all i) ≡ Some answer)
    (none : at ≡ None → answer ≡ false) where
  -- a name that has a place is in the innermost block exactly where its newest entry is
  twice_known : (place : ℕ) → place_of name names ≡ Some place → at ≡ latest place (reverse all)
      → answer ≡ is_declared name (blocks_of names (reverse all) (suc depth))
  twice_known place p q =
      by at refl ∙ ap is_some (sym (answer_is names name (λ d w. d == depth) place p (reverse all) sound.named))
    where
      by : (o : Option ℕ) → at ≡ o → answer ≡ is_some (first_where (λ d w. d == depth) place (reverse all))
      by None e = none e ∙ ap is_some (sym (first_none (λ d w. d == depth) place (reverse all) (sym q ∙ e)))
      by (Some i) e = entry (slice_get all i) refl
        where
          entry : (o : Option Entry) → slice_get all i ≡ o
              → answer ≡ is_some (first_where (λ d w. d == depth) place (reverse all))
          entry None g =
              absurd (none-some answer (sym (ap (option_map (λ (e : Entry). e.depth == depth)) g) ∙ some i e))
          entry (Some found) g =
              same_Some answer (found.depth == depth)
              (sym (some i e) ∙ ap (option_map (λ (e : Entry). e.depth == depth)) g)
              ∙ sym (at_depth place depth i found (reverse all) sound.nested (sym q ∙ e)
              (get_oldest (reverse all) i found (ap (λ l. slice_get l i) (reverse-reverse all) ∙ g)))

  -- so it is of any name
  pub twice_is : (known : Option ℕ) → known ≡ place_of name names
      → ((place : ℕ) → known ≡ Some place → slice_get newest place ≡ Some at)
      → (known ≡ None → at ≡ None) → answer ≡ is_declared name (blocks_of names (reverse all) (suc depth))
  twice_is None p there absent =
      none (absent refl)
      ∙ ap is_some (sym (answer_none names name (λ d w. d == depth) (sym p) (reverse all) sound.named))
  twice_is (Some place) p there absent =
      twice_known place (sym p)
      (newest_is_latest names newest all (suc depth) sound name place (sym p) at (there place refl))

-- a name that has a place is declared in the innermost block
module _ (names : List (List ℕ)) (name : List ℕ) (newest : List (Option ℕ)) (all : List Entry) (whole : ℕ)
    (sound : IsSound names newest (reverse all) whole)
    (place : ℕ) (is : place_of name names ≡ Some place) (depth : ℕ) (counted : whole ≡ suc depth) (what : Meaning)
    (hidden : Option ℕ) (there : slice_get newest place ≡ Some hidden) (others : List (Option ℕ)) (more : List Entry)
    (noted : others ≡ set newest place (Some (length all)))
    (appended : more ≡ all ++ record { name = place; depth = depth; what = what; hidden = hidden } ∷ []) where
  abbrev entry : Entry
  entry = record { name = place; depth = depth; what = what; hidden = hidden }

  has_name : name_at names place ≡ name
  has_name = ap (λ o. unwrap_or o []) (at_place name names place is).1

  turned : reverse more ≡ entry ∷ reverse all
  turned = ap reverse appended ∙ reverse-append all (entry ∷ [])

  pub sound_after : IsSound names others (reverse more) whole
  sound_after =
      subst (λ n. IsSound names others (reverse more) n) (sym counted)
      (subst (λ es. IsSound names others es (suc depth)) (sym turned)
      (subst (λ l. IsSound names l (entry ∷ reverse all) (suc depth))
      (ap (λ n. set newest place (Some n)) (length-reverse all) ∙ sym noted)
      (sound_declared names newest entry (reverse all) depth
      (subst (IsSound names newest (reverse all)) counted sound) refl
      (ap (λ n. place_of n names) has_name ∙ is)
      (newest_is_latest names newest all whole sound name place is hidden there))))

  pub blocks_after : blocks_of names (reverse more) whole
      ≡ with_declared (record { name = name; what = what }) (blocks_of names (reverse all) whole)
  blocks_after =
      ap (λ es. blocks_of names es whole) turned
      ∙ ap (blocks_of names (entry ∷ reverse all)) counted
      ∙ block_declared names entry (reverse all) depth refl
      ∙ (λ i. with_declared (record { name = has_name i; what = what }) (blocks_of names (reverse all) (sym counted i)))

-- there is room for what stands at the place of a name
pub place_known : (entries : List Entry)
    (name : List ℕ) {names : List (List ℕ)} {newest : List (Option ℕ)} {depth : ℕ} {place : ℕ}
    → IsSound names newest (reverse entries) depth → Some place ≡ place_of name names → place < length newest
place_known entries name {names} {newest} {depth} {place} sound is =
    place_within names newest entries depth sound name place (sym is)

-- what stands at the place of a name: its newest entry, one of them all
pub record IsLookup (newest : List (Option ℕ)) (entries all : List Entry) (place : ℕ) (at : Option ℕ) : Type 0 where
  pub known : place < length newest
  pub latest : at ≡ latest place (reverse all)
  pub within : (i : ℕ) → at ≡ Some i → i < length all
  pub same : all ≡ entries

-- what is read there, and a slice of the entries
pub lookup : (entries : List Entry) (name : List ℕ) {names : List (List ℕ)} {newest : List (Option ℕ)} {depth : ℕ}
    {place : ℕ} {at : Option ℕ} {all : List Entry}
    → IsSound names newest (reverse entries) depth → Some place ≡ place_of name names
    → at ≡ get_or newest place at → all ≡ entries → IsLookup newest entries all place at
lookup entries name {names} {newest} {depth} {place} {at} {all} sound is read same =
    let known = place_known entries name sound is in
    let there = slice_get_read newest (length newest) place at refl known read in
    record {
      known = known;
      latest = newest_is_latest names newest entries depth sound name place (sym is) at there
          ∙ ap (λ l. latest place (reverse l)) (sym same);
      within = λ i p. omega
          (arith, newest_within names newest entries depth sound name place (sym is) at there i p, ap length same);
      same = same;
    }

-- what the newest entry means that passes a test is what is found in the blocks
pub looked_up : (entries : List Entry) (name : List ℕ) {names : List (List ℕ)} {newest : List (Option ℕ)} {depth : ℕ}
    {place : ℕ} {at : Option ℕ} {all : List Entry}
    → (test : ℕ → Meaning → Bool) → IsSound names newest (reverse entries) depth → Some place ≡ place_of name names
    → IsLookup newest entries all place at
    → first_where test place (reverse all) ≡ found name (blocks_where test (blocks_of names (reverse entries) depth))
looked_up entries name {names} {newest} {depth} {place} test sound is look =
    ap (λ l. first_where test place (reverse l)) look.same
    ∙ sym (found_at names name test (reverse entries) depth sound.nested sound.named place (sym is))

-- a name without a place isn't found
pub not_found : (entries : List Entry) (name : List ℕ) {names : List (List ℕ)} {newest : List (Option ℕ)} {depth : ℕ}
    → (test : ℕ → Meaning → Bool) → IsSound names newest (reverse entries) depth → None ≡ place_of name names
    → None ≡ found name (blocks_where test (blocks_of names (reverse entries) depth))
not_found entries name {names} {newest} {depth} test sound is =
    sym (found_nowhere names name test (reverse entries) depth sound.nested sound.named (sym is))

-- where nothing is left out, blocks are as they were
pub found_plain : (name : List ℕ) (blocks : List Block)
    → found name (blocks_where (λ d w. true) blocks) ≡ found name blocks
found_plain name blocks = ap (found name) (blocks_whole blocks)
