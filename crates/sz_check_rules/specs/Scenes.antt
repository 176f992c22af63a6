-- What is known after a statement, and the expressions in one, while a program is judged.
use Rattle.std.specs.Prelude.{true, Option, Some, None, Ok}
use Rattle.sz_types.specs.Data.{Shape}
use Rattle.sz_tree.specs.Expressions.{Exp}
use Rattle.sz_core.specs.Nodes.{Node}
use Rattle.sz_core.specs.Statements as core
use Rattle.sz_check_rules.specs.Refusals.{Judged, ◌>>=◌}
use Rattle.sz_check_rules.specs.Scene.{Scene}
use Rattle.sz_check_rules.specs.JudgingExpressions.{judge_exp}

-- a checked statement, and what is known after it
pub record Later : Type 0 where
  pub scene : Scene
  pub stm : core.Stm

-- checked statements, and what is known after them
pub record AllAfter : Type 0 where
  pub scene : Scene
  pub stms : core.Stms

-- the scene after a block that was opened in the first: the variables inside keep their numbers, and are seen no more
abbrev pub closed : Scene → Scene → Scene
closed outside inside = record { blocks = outside.blocks; locals = inside.locals }

-- an expression in a statement
abbrev pub judge : Scene → Option Shape → Exp → Judged Node
judge s asked e = judge_exp s.blocks true asked e

-- an expression that may be missing
abbrev pub judge_if_some : Scene → Option Shape → Option Exp → Judged (Option Node)
judge_if_some s asked None = Ok None
judge_if_some s asked (Some e) = do
  n ← judge s asked e
  Ok (Some n)
