-- Which types slots have: an undefined one has every type.
use Rattle.std.specs.Prelude.{◌≡◌, List, [], ◌∷◌, true, IfSome}
use Rattle.sz_types.specs.Data.{Shape}
use Rattle.sz_types.specs.Types.{has_type}
use Rattle.sz_world_rules.specs.Slots.{Slot}

-- the slot has the type: it is undefined, or its value has it
abbrev pub Fits : Slot → Shape → Type 0
Fits x t = IfSome x (λ d. has_type d t ≡ true)

-- the slots have the types beside them, and there are as many slots as types
abbrev pub AllFit : List Slot → List Shape → Type 0
AllFit [] [] = Unit {0}
AllFit (x ∷ xs) (t ∷ ts) = Fits x t × AllFit xs ts
AllFit _ _ = ⊥
