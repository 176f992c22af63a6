-- Declarations of functions, by their parts.
use Rattle.std.specs.Prelude.{List, [], ◌∷◌, ◌++◌, length, Ok}
use Rattle.sz_types.specs.Data.{Shape}
use Rattle.sz_tree.specs.Names.{Ident}
use Rattle.sz_tree.specs.Statements.{Stms as Trees}
use Rattle.sz_tree.specs.Types.{Typ, Params, param}
use Rattle.sz_core.specs.Statements.{Stms}
use Rattle.sz_core.specs.Programs.{Signature}
use Rattle.sz_core.specs.Programs as items
use Rattle.sz_check_rules.specs.Refusals.{Judged, ◌>>=◌}
use Rattle.sz_check_rules.specs.Names.{Block, only, is_seen_by_functions}
use Rattle.sz_check_rules.specs.Names as names
use Rattle.sz_check_rules.specs.JudgingTypes.{judge_type}
use Rattle.sz_check_rules.specs.Scene.{Scene, with_variable}
use Rattle.sz_check_rules.specs.EmittingTrees.{emits_by, stms_emit}
use Rattle.sz_check_rules.specs.JudgingStatements.{judge_stms}
use Rattle.sz_check_rules.specs.JudgingPrograms.{TopScene, Found, blocks_of, with_blocks, judge_parameters, in_function}

-- what a function sees at first, with these blocks round it
abbrev pub front_of : List Block → Scene
front_of blocks = record { blocks = [] ∷ only is_seen_by_functions blocks; locals = [] }

-- the parameters and the result of a function, and whether it emits by its text
abbrev pub judge_header : List Block → Ident → Params → Typ → Trees → Judged Signature
judge_header blocks n ps t ss = do
  front ← judge_parameters (front_of blocks) ps
  u ← judge_type front.blocks t
  Ok (record { parameters = front.locals; result = u; emits = stms_emit (emits_by front.blocks) (n.text ∷ []) ss })

-- parameters whose types are known
unfoldable pub declare_parameters : Scene → Params → List Shape → Judged Scene
declare_parameters s (param n t ps) (u ∷ us) = do
  next ← with_variable n u s
  declare_parameters next ps us
declare_parameters s ps us = Ok s

-- the types of a function's variables by number, and its statements
pub record Body : Type 0 where
  pub locals : List Shape
  pub statements : Stms

-- the statements of a function, with these blocks round it, which have its own name
abbrev pub judge_body : List Block → Params → Signature → Trees → Judged Body
judge_body blocks ps s ss = do
  front ← declare_parameters (front_of blocks) ps s.parameters
  body ← judge_stms (in_function s.result) front ss
  Ok (record { locals = body.scene.locals; statements = body.stms })

-- what the statements of a function make of it, with its own name among these blocks
abbrev pub finished : TopScene → List Block → Signature → Body → Found
finished k own signature body = record {
  known = record (with_blocks k own) { functions = k.functions ++ signature ∷ [] };
  items = items.function (record { signature = signature; locals = body.locals; body = body.statements }) ∷ [];
}

-- a function, by its parts
abbrev pub judge_function_by_parts : TopScene → Ident → Params → Typ → Trees → Judged Found
judge_function_by_parts k n ps t ss = do
  signature ← judge_header (blocks_of k) n ps t ss
  own ← names.declare n (names.function (length k.functions) signature) (blocks_of k)
  body ← judge_body own ps signature ss
  Ok (finished k own signature body)
