-- What the statements of a program are: the checked program, or the first refusal.
use Rattle.std.specs.Prelude.{List, Result}
use Rattle.sz_tree.specs.Statements.{Stms}
use Rattle.sz_core.specs.Programs.{Core}
use Rattle.sz_check_rules.specs.JudgingWithTypes.{judge_program_with}
use Rattle.sz_check.specs.RoundTypes.{named_shapes}
use Rattle.sz_protofile.specs.Types.{TypeShape}
use Rattle.sz_refusals.specs.declared.refusal.Refusal.{Refusal}
use Rattle.sz_refusals.specs.Refusing.{judged_so}

-- the checked program that statements are where these types are known, or their first refusal
unfoldable pub checked : List TypeShape → Stms → Result Core Refusal
checked types statements = judged_so (judge_program_with (named_shapes types) statements)
