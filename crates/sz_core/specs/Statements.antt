-- Checked statements. Each has the place of its first token where a run can end there.
use Rattle.std.specs.Prelude.{ℕ, Bool, Option, List, [], ◌∷◌}
use Rattle.sz_types.specs.declared.place.Place.{Place}
use Rattle.sz_core.specs.Nodes.{Node, Nodes}

-- a step from a value into it: to the element under an index or key, or to the part at a place, counted from 0
pub data Step : Type 0 where
  at_index : Node → Step
  at_field : ℕ → Step

-- how many of its candidates a variable of `when` speaks of
pub data Quantity : Type 0 where
  some : Quantity
  each : Quantity
  all : Quantity

-- a variable of `when`: how it is quantified, its number, what its candidates are made of, and whether they are the
-- bounds of slices of it and not its indexes or keys
pub record Quantified : Type 0 where
  pub quantity : Quantity
  pub local : ℕ
  pub base : Node
  pub slice : Bool

mutual
  -- a statement
  pub data Stm : Type 0 where
    block : Stms → Stm
    -- the variable is undefined from here on
    clear : (local : ℕ) → Stm
    -- the variable has this value from here on
    keep : Place → (local : ℕ) → Node → Stm
    -- the value goes into the variable, or where the steps lead in it
    store : Place → (local : ℕ) → List Step → Node → Stm
    evaluate : Place → Node → Stm
    branch : Place → Node → Stm → Stm → Stm
    while : Place → Node → Stm → Stm
    do_while : Place → Stm → Node → Stm
    -- a test, which is true where it is missing; what is done between turns; what is done in each turn
    for_loop : Place → Option Node → Stm → Stm → Stm
    break : Stm
    continue : Stm
    return_value : Place → Node → Stm
    end_record : Place → Stm
    emit : Place → (table : ℕ) → Nodes → Node → Option Node → Stm
    -- the variables in order, the condition, and what is done where it holds
    when : Place → List Quantified → Node → Stm → Stm

  -- statements, one after the other
  pub data Stms : Type 0 where
    no_stms : Stms
    with_stm : Stm → Stms → Stms

-- the same as a list
abbrev pub stms_of : List Stm → Stms
stms_of [] = no_stms
stms_of (s ∷ ss) = with_stm s (stms_of ss)

-- nothing is done
abbrev pub nothing : Stm
nothing = block no_stms
