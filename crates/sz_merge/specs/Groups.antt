-- Files that were joined in groups.
use Rattle.std.specs.Prelude.{◌≡◌, ℕ, List, [], ◌∷◌, ◌++◌, map}
use Rattle.sz_save_format.specs.Saved.{SavedState}
use Rattle.sz_merge.specs.declared.groups.Group.{Group}
use Rattle.sz_merge.specs.Together.{AreTogether, CanBeTogether, bounds_of}
use Rattle.sz_merge.specs.Files.{Follows}

-- what each group holds
abbrev pub held_by : List Group → List SavedState
held_by groups = map (λ (group : Group). group.saved) groups

-- each group is what some of the states are together, from the first state on
abbrev pub Gather : List SavedState → List SavedState → Type 0
Gather [] states = states ≡ []
Gather (group ∷ groups) states =
    (front : List SavedState) × (back : List SavedState) × (states ≡ front ++ back) × AreTogether front group
    × Gather groups back

-- the groups are of these states, which can all be joined
pub record AreOf (groups states : List SavedState) : Type 0 where
  pub gather : Gather groups states
  pub can : CanBeTogether states

-- the file of these bytes was added to those of the states before it
pub record Adds (before : List SavedState) (bytes : List ℕ) (groups : List SavedState) : Type 0 where
  pub state : SavedState
  pub follows : Follows before bytes state
  pub now : AreOf groups (before ++ state ∷ [])

-- the groups are of the same states as before, and can be joined
pub record Regroups (before now : List SavedState) : Type 0 where
  pub gather : (states : List SavedState) → Gather before states → Gather now states
  pub bounds : bounds_of now ≡ bounds_of before
  pub can : CanBeTogether now

-- the groups can be joined, and their bounds are together this one
pub record HasBound (groups : List SavedState) (bound : ℕ) : Type 0 where
  pub can : CanBeTogether groups
  pub is : bound ≡ bounds_of groups

-- this state can be joined to those that the groups are of
pub record CanTake (groups : List SavedState) (saved : SavedState) : Type 0 where
  pub before : List SavedState
  pub are : AreOf groups before
  pub can : CanBeTogether (before ++ saved ∷ [])
