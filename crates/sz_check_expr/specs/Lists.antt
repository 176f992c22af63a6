-- Keys and values, one by one.
use Rattle.std.specs.Prelude.{List, Bool, Option, Ok}
use Rattle.sz_types.specs.Data.{Shape}
use Rattle.sz_tree.specs.Expressions.{Exp}
use Rattle.sz_core.specs.Nodes.{Node, Pairings, with_pairing}
use Rattle.sz_check_rules.specs.Refusals.{Judged, ◌>>=◌}
use Rattle.sz_check_rules.specs.Names.{Block}
use Rattle.sz_check_rules.specs.JudgingExpressions.{judge_exp}

-- a key and its value in front of others
abbrev pub with_pair : Node × Node → Pairings → Pairings
with_pair p ps = with_pairing p.0 p.1 ps

-- a key and its value, of which these two types are asked
abbrev pub judge_pair : List Block → Bool → Option Shape → Option Shape → Exp × Exp → Judged (Node × Node)
judge_pair blocks may_emit k v p = do
  n ← judge_exp blocks may_emit k p.0
  m ← judge_exp blocks may_emit v p.1
  Ok (n, m)
