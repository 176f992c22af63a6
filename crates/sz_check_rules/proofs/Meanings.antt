-- What holds of each meaning that a list of blocks has.
use Rattle.std.proofs.Common.{◌≡◌, ℕ, Bool, true, false, List, [], ◌∷◌, ◌++◌, Option, Some, None, refl}
use Rattle.std.specs.Prelude.{filter, IfSome, bytes_eq, if◌then◌else◌}
use Rattle.std.specs.Option.{option_or}
use Rattle.sz_tree.specs.Names.{Ident}
use Rattle.sz_check_rules.specs.Names.{Block, Named, Meaning, meaning_in, meaning_of, look_up, declare, only}
use Rattle.sz_check_rules.proofs.Holds.{Holds, ok_holds, err_holds, if_holds, option_holds, some_has}

module _ (P : Meaning → Type 0) where
  -- P holds of each meaning in the block, and in the blocks
  abbrev pub MeansIn : Block → Type 0
  MeansIn [] = Unit {0}
  MeansIn (n ∷ block) = P n.meaning × MeansIn block

  abbrev pub Mean : List Block → Type 0
  Mean [] = Unit {0}
  Mean (block ∷ blocks) = MeansIn block × Mean blocks

  found_next : (b : Bool) (m : Meaning) (o : Option Meaning) → P m → IfSome o P → IfSome (if b then Some m else o) P
  found_next true m o p h = p
  found_next false m o p h = h

  -- what a name stands for in a block, and in blocks, has the property
  pub found_in : (name : List ℕ) (block : Block) → MeansIn block → IfSome (meaning_in name block) P
  found_in name [] h = tt
  found_in name (n ∷ block) h =
      found_next (bytes_eq name n.name) n.meaning (meaning_in name block) h.0 (found_in name block h.1)

  either : (x y : Option Meaning) → IfSome x P → IfSome y P → IfSome (option_or x y) P
  either (Some x) y h k = h
  either None y h k = k

  pub found : (name : List ℕ) (blocks : List Block) → Mean blocks → IfSome (meaning_of name blocks) P
  found name [] h = tt
  found name (block ∷ blocks) h =
      either (meaning_in name block) (meaning_of name blocks) (found_in name block h.0) (found name blocks h.1)

  -- what a name stands for has the property
  pub looked_up : (n : Ident) (blocks : List Block) → Mean blocks → Holds (look_up n blocks) P
  looked_up n blocks h =
      option_holds _ (λ e. if_holds _ (λ left_out. err_holds _ _) (λ unknown. err_holds _ _))
      (λ m e. ok_holds _ m (some_has P (found n.text blocks h) e))

  -- a declared name may have it too
  pub declared : (n : Ident) (m : Meaning) (blocks : List Block) → P m → Mean blocks → Holds (declare n m blocks) Mean
  declared n m [] p h = ok_holds Mean _ ((p, tt), tt)
  declared n m (block ∷ blocks) p h = if_holds _ (λ twice. err_holds _ _) (λ free. ok_holds Mean _ ((p, h.0), h.1))

-- of those that are kept, what is kept has another property
module _ (keep : Meaning → Bool) (P Q : Meaning → Type 0) (kept : (m : Meaning) → keep m ≡ true → P m → Q m) where
  pub kept_in : (block : Block) → MeansIn P block → MeansIn Q (filter (λ (n : Named). keep n.meaning) block)
  kept_in [] h = tt
  kept_in (n ∷ block) h = next (keep n.meaning) (λ e. kept n.meaning e h.0) (kept_in block h.1)
    where
      next : (b : Bool) → (b ≡ true → Q n.meaning) → MeansIn Q (filter (λ (m : Named). keep m.meaning) block)
          → MeansIn Q (if b then n ∷ filter (λ (m : Named). keep m.meaning) block
          else filter (λ (m : Named). keep m.meaning) block)
      next true q rest = (q refl, rest)
      next false q rest = rest

  pub kept_only : (blocks : List Block) → Mean P blocks → Mean Q (only keep blocks)
  kept_only [] h = tt
  kept_only (block ∷ blocks) h = (kept_in block h.0, kept_only blocks h.1)

-- what follows of one meaning follows of all
module _ (P Q : Meaning → Type 0) (follows : (m : Meaning) → P m → Q m) where
  follows_in : (block : Block) → MeansIn P block → MeansIn Q block
  follows_in [] h = tt
  follows_in (n ∷ block) h = (follows n.meaning h.0, follows_in block h.1)

  pub all_follow : (blocks : List Block) → Mean P blocks → Mean Q blocks
  all_follow [] h = tt
  all_follow (block ∷ blocks) h = (follows_in block h.0, all_follow blocks h.1)

-- one more at the end of a block
module _ (P : Meaning → Type 0) where
  pub means_with : (block : Block) (n : Named) → MeansIn P block → P n.meaning → MeansIn P (block ++ n ∷ [])
  means_with [] n h p = (p, tt)
  means_with (m ∷ block) n h p = (h.0, means_with block n h.1 p)
