-- What is known in front of a statement, while a program is judged.
use Rattle.std.specs.Prelude.{List, [], ◌∷◌, ◌++◌, length, Ok}
use Rattle.sz_types.specs.Data.{Shape}
use Rattle.sz_tree.specs.Names.{Ident}
use Rattle.sz_check_rules.specs.Refusals.{Judged, ◌>>=◌}
use Rattle.sz_check_rules.specs.Names.{Block}
use Rattle.sz_check_rules.specs.Names as names

-- what is known in front of a statement: the blocks, and the types of the routine's variables so far, by number
pub record Scene : Type 0 where
  pub blocks : List Block
  pub locals : List Shape

-- the scene with an empty block more
abbrev pub opened : Scene → Scene
opened s = record s { blocks = [] ∷ s.blocks }

-- the scene with a variable more, which has the next number
abbrev pub with_variable : Ident → Shape → Scene → Judged Scene
with_variable n t s = do
  blocks ← names.declare n (names.variable (length s.locals) t) s.blocks
  Ok (record { blocks = blocks; locals = s.locals ++ t ∷ [] })

-- the scene with a variable more that a `when` quantifies, which has the next number of all variables
abbrev pub with_quantified : Ident → Shape → Scene → Judged Scene
with_quantified n t s = do
  blocks ← names.declare n (names.quantified (length s.locals) t) s.blocks
  Ok (record { blocks = blocks; locals = s.locals ++ t ∷ [] })
