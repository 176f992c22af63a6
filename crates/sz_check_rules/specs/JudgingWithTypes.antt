-- The checked program that a tree is, or its first refusal, where types are known by names that the program doesn't
-- declare.
use Rattle.std.specs.Prelude.{ℕ, List, [], ◌∷◌, ◌++◌, Ok}
use Rattle.sz_types.specs.Data.{Shape}
use Rattle.sz_tree.specs.Statements.{Stms}
use Rattle.sz_core.specs.Programs.{Core}
use Rattle.sz_check_rules.specs.Refusals.{Judged, ◌>>=◌}
use Rattle.sz_check_rules.specs.Names.{Block, Named, predeclared_names}
use Rattle.sz_check_rules.specs.Names as names
use Rattle.sz_check_rules.specs.JudgingPrograms.{TopScene, judge_all, known_at_first}

-- a type with its name
abbrev pub NamedShape : Type 0
NamedShape = List ℕ × Shape

-- the name stands for the type
abbrev pub named_type : NamedShape → Named
named_type t = record { name = t.0; meaning = names.type_name t.1 }

-- the block of these types; as in each block, the last stands in front
abbrev pub block_of_types : List NamedShape → Block
block_of_types [] = []
block_of_types (t ∷ types) = block_of_types types ++ named_type t ∷ []

-- what is known at first: the types' names, in a block between the predeclared names and the program's own
abbrev pub known_with : List NamedShape → TopScene
known_with types = record known_at_first {
  scene = record { blocks = [] ∷ block_of_types types ∷ predeclared_names ∷ []; locals = [] };
}

-- the program, or its first refusal, where this is known at first
abbrev pub judge_from : TopScene → Stms → Judged Core
judge_from k ss = do
  found ← judge_all k ss
  Ok (record { items = found.items; locals = found.known.scene.locals })

-- the same where these types are known by these names
abbrev pub judge_program_with : List NamedShape → Stms → Judged Core
judge_program_with types ss = judge_from (known_with types) ss
