-- Laws of what is always true of names and entries.
use Rattle.std.proofs.Common.{◌≡◌, ℕ, zero, suc, ◌+◌, ◌<◌, ◌≤◌, ◌⊎◌, inl, inr, nat_lt, ◌==◌, List, [], ◌∷◌, ◌++◌, length, reverse, slice_get, set, Option, None, Some, refl, sym, ap, subst, ◌∙◌, if◌then◌else◌, arith}
use Rattle.std.proofs.lemmas.Bool.{cases_lt, cases_eq, eq-eqb, ne_eqb, cond-true, cond-false, lt-ltb, le-ltb}
use Rattle.std.proofs.lemmas.List.{length-set, length_push}
use Rattle.sz_scope.specs.declared.entry.Entry.{Entry}
use Rattle.sz_scope.specs.Names.{place_of, name_at}
use Rattle.sz_scope.specs.Chain.{latest, without_deeper, IsLinked, IsNested, IsNamed, IsWithin, IsIndexed, IsSound, HasRoomOf, KeepsSound, blocks_of}
use Rattle.sz_scope.proofs.NamesLemmas.{at_place, place_stays, name_at_stays}
use Rattle.sz_scope.proofs.ChainLemmas.{nested_weaker}
use Rattle.sz_scope.proofs.BlocksLemmas.{blocks_stay, blocks_without, block_opened}

module _ {X : Type 0} where
  -- the elements of a list with one more at its end
  get_before : (xs : List X) (y : X) (i : ℕ) → i < length xs → slice_get (xs ++ y ∷ []) i ≡ slice_get xs i
  get_before [] y i h = absurd (omega (arith, h))
  get_before (x ∷ xs) y zero h = refl
  get_before (x ∷ xs) y (suc i) h = get_before xs y i (omega (arith, h))

  get_at_end : (xs : List X) (y : X) → slice_get (xs ++ y ∷ []) (length xs) ≡ Some y
  get_at_end [] y = refl
  get_at_end (x ∷ xs) y = get_at_end xs y

  -- the elements of a list with one replaced
  get_set_same : (xs : List X) (i : ℕ) (y : X) → i < length xs → slice_get (set xs i y) i ≡ Some y
  get_set_same [] i y h = absurd (omega (arith, h))
  get_set_same (x ∷ xs) zero y h = refl
  get_set_same (x ∷ xs) (suc i) y h = get_set_same xs i y (omega (arith, h))

  get_set_other : (xs : List X) (i j : ℕ) (y : X) → (i ≡ j → ⊥) → slice_get (set xs i y) j ≡ slice_get xs j
  get_set_other [] i j y n = refl
  get_set_other (x ∷ xs) zero zero y n = absurd (n refl)
  get_set_other (x ∷ xs) zero (suc j) y n = refl
  get_set_other (x ∷ xs) (suc i) zero y n = refl
  get_set_other (x ∷ xs) (suc i) (suc j) y n = get_set_other xs i j y (λ p. n (ap (λ k. suc k) p))

-- the names of entries are among all names
pub within_names : (names : List (List ℕ)) (count : ℕ) (entries : List Entry) → length names ≤ count
    → IsNamed names entries → IsWithin count entries
within_names names count [] l h = tt
within_names names count (entry ∷ entries) l h = (
  omega (arith, l, (at_place (name_at names entry.name) names entry.name h.0).0),
  within_names names count entries l h.1,
)

-- no entry has a name past these
latest_past : (count name : ℕ) (entries : List Entry) → IsWithin count entries → count ≤ name
    → latest name entries ≡ None
latest_past count name [] h l = refl
latest_past count name (entry ∷ entries) h l =
    cond-false (entry.name == name) (Some (length entries)) (latest name entries)
    (ne_eqb entry.name name (λ p. omega (arith, p, l, h.0))) ∙ latest_past count name entries h.1 l

-- one more name that has no entry
pub indexed_more : (newest : List (Option ℕ)) (entries : List Entry) → IsWithin (length newest) entries
    → IsIndexed newest entries → IsIndexed (newest ++ None ∷ []) entries
indexed_more newest entries within indexed name h = by (cases_lt name (length newest))
  where
    by : (name < length newest) ⊎ (length newest ≤ name)
        → slice_get (newest ++ None ∷ []) name ≡ Some (latest name entries)
    by (inl l) = get_before newest None name l ∙ indexed name l
    by (inr l) =
        let last : length newest ≡ name = omega (arith, l, h, length_push newest None) in
        subst (λ n. slice_get (newest ++ None ∷ []) n ≡ Some None) last (get_at_end newest None)
        ∙ ap (λ o. Some o) (sym (latest_past (length newest) name entries within l))

-- one more entry
pub indexed_push : (newest : List (Option ℕ)) (entry : Entry) (entries : List Entry) → IsIndexed newest entries
    → IsIndexed (set newest entry.name (Some (length entries))) (entry ∷ entries)
indexed_push newest entry entries indexed name h = by (cases_eq entry.name name)
  where
    within : name < length newest
    within = omega (arith, h, length-set newest entry.name (Some (length entries)))

    by : (entry.name ≡ name) ⊎ (entry.name ≡ name → ⊥)
        → slice_get (set newest entry.name (Some (length entries))) name
        ≡ Some (if entry.name == name then Some (length entries) else latest name entries)
    by (inl p) =
        subst (λ n. slice_get (set newest n (Some (length entries))) name ≡ Some (Some (length entries))) (sym p)
        (get_set_same newest name (Some (length entries)) within)
        ∙ ap (λ o. Some o) (sym
        (cond-true (entry.name == name) (Some (length entries)) (latest name entries) (eq-eqb entry.name name p)))
    by (inr n) =
        get_set_other newest entry.name name (Some (length entries)) n ∙ indexed name within
        ∙ ap (λ o. Some o) (sym
        (cond-false (entry.name == name) (Some (length entries)) (latest name entries) (ne_eqb entry.name name n)))

-- room for one more name
pub room_more : (newest : List (Option ℕ)) → HasRoomOf newest (newest ++ None ∷ [])
room_more newest = record {
  room = omega (arith, length_push newest None);
  indexed = λ entries. indexed_more newest entries;
}

-- more room keeps all that is sound
pub keeps_room : (names : List (List ℕ)) (newest others : List (Option ℕ)) → HasRoomOf newest others
    → KeepsSound names names newest others
keeps_room names newest others h = record {
  sound = λ entries depth s. record {
    room = omega (arith, s.room, h.room);
    named = s.named;
    indexed = h.indexed entries (within_names names (length newest) entries s.room s.named) s.indexed;
    linked = s.linked;
    nested = s.nested;
  };
  blocks = λ entries depth s. refl;
}

-- so does a name that is added, if there is room for it
pub keeps_added : (names : List (List ℕ)) (name : List ℕ) (newest others : List (Option ℕ)) → HasRoomOf newest others
    → (length names ≤ length newest → length names < length others)
    → KeepsSound names (names ++ name ∷ []) newest others
keeps_added names name newest others h room = record {
  sound = λ entries depth s. record {
    room = omega (arith, room s.room, length_push names name);
    named = named entries s.named;
    indexed = h.indexed entries (within_names names (length newest) entries s.room s.named) s.indexed;
    linked = s.linked;
    nested = s.nested;
  };
  blocks = λ entries depth s. blocks_stay names name entries s.named depth;
}
  where
    named : (entries : List Entry) → IsNamed names entries → IsNamed (names ++ name ∷ []) entries
    named [] h = h
    named (entry ∷ entries) h =
        let at = at_place (name_at names entry.name) names entry.name h.0 in (
          ap (λ n. place_of n (names ++ name ∷ [])) (name_at_stays name names entry.name at.0)
              ∙ place_stays (name_at names entry.name) name names entry.name h.0,
          named entries h.1,
        )

-- an entry that is added in the innermost block
pub sound_declared : (names : List (List ℕ)) (newest : List (Option ℕ)) (entry : Entry)
    (entries : List Entry) (depth : ℕ) → IsSound names newest entries (suc depth)
    → entry.depth ≡ depth → place_of (name_at names entry.name) names ≡ Some entry.name
    → entry.hidden ≡ latest entry.name entries
    → IsSound names (set newest entry.name (Some (length entries))) (entry ∷ entries) (suc depth)
sound_declared names newest entry entries depth s deep named hidden = record {
  room = omega (arith, s.room, length-set newest entry.name (Some (length entries)));
  named = (named, s.named);
  indexed = indexed_push newest entry entries s.indexed;
  linked = (hidden, s.linked);
  nested = (omega (arith, deep), subst (λ d. IsNested (suc d) entries) (sym deep) s.nested);
}

-- the entries of the innermost block that are taken out
module _ (names : List (List ℕ)) (depth : ℕ) where
  record IsLeft (entries left : List Entry) : Type 0 where
    pub named : IsNamed names left
    pub linked : IsLinked left
    pub nested : IsNested depth left
    pub blocks : blocks_of names left depth ≡ blocks_of names entries depth

  left : (entries : List Entry) → IsNamed names entries → IsLinked entries → IsNested (suc depth) entries
      → IsLeft entries (without_deeper depth entries)
  left [] named linked nested = record { named = tt; linked = tt; nested = tt; blocks = refl }
  left (entry ∷ entries) named linked nested =
      by (cases_lt entry.depth depth)
      (λ l. left entries named.1 linked.1
      (nested_weaker entries (suc entry.depth) (suc depth) (omega (arith, nested.0)) nested.1))
    where
      by : (entry.depth < depth) ⊎ (depth ≤ entry.depth)
          → (depth ≤ entry.depth → IsLeft entries (without_deeper depth entries))
          → IsLeft (entry ∷ entries) (without_deeper depth (entry ∷ entries))
      by (inl l) rest =
          subst (IsLeft (entry ∷ entries))
          (sym (cond-true (nat_lt entry.depth depth) (entry ∷ entries) (without_deeper depth entries)
          (lt-ltb entry.depth depth l)))
          (record { named = named; linked = linked; nested = (l, nested.1); blocks = refl })
      by (inr l) rest =
          let r = rest l in
          subst (IsLeft (entry ∷ entries))
          (sym (cond-false (nat_lt entry.depth depth) (entry ∷ entries) (without_deeper depth entries)
          (le-ltb entry.depth depth l)))
          (record {
            named = r.named;
            linked = r.linked;
            nested = r.nested;
            blocks = r.blocks ∙ sym (blocks_without names entries entry depth l);
          })

  -- what is left is sound
  pub sound_closed : (newest others : List (Option ℕ)) (entries : List Entry)
      → IsSound names newest entries (suc depth) → length others ≡ length newest
      → IsIndexed others (without_deeper depth entries) → IsSound names others (without_deeper depth entries) depth
  sound_closed newest others entries s same indexed =
      let r = left entries s.named s.linked s.nested in
      record {
        room = omega (arith, s.room, same);
        named = r.named;
        indexed = indexed;
        linked = r.linked;
        nested = r.nested;
      }

  -- and the outer blocks are as they were
  pub blocks_closed : (newest : List (Option ℕ)) (entries : List Entry) → IsSound names newest entries (suc depth)
      → blocks_of names (without_deeper depth entries) depth ≡ blocks_of names entries depth
  blocks_closed newest entries s = (left entries s.named s.linked s.nested).blocks

-- the entries that are left to take out: those taken out so far were deep enough
pub record IsClosing (depth : ℕ) (old : List Entry) (total : ℕ) (entries : List Entry)
    (newest : List (Option ℕ)) : Type 0 where
  pub rest : without_deeper depth (reverse entries) ≡ without_deeper depth (reverse old)
  pub count : length newest ≡ total
  pub within : IsWithin total (reverse entries)
  pub linked : IsLinked (reverse entries)
  pub indexed : IsIndexed newest (reverse entries)

-- a block that is opened
module _ (names : List (List ℕ)) (newest : List (Option ℕ)) (entries : List Entry) (depth : ℕ)
    (sound : IsSound names newest entries depth) where
  more : suc depth ≡ depth + 1
  more = omega arith

  pub sound_opened : IsSound names newest entries (depth + 1)
  sound_opened = record {
    room = sound.room;
    named = sound.named;
    indexed = sound.indexed;
    linked = sound.linked;
    nested = nested_weaker entries depth (depth + 1) (omega arith) sound.nested;
  }

  pub blocks_opened : blocks_of names entries (depth + 1) ≡ [] ∷ blocks_of names entries depth
  blocks_opened = ap (blocks_of names entries) (sym more) ∙ block_opened names entries depth sound.nested
