-- What contracts see of what is known after a statement.
use Rattle.std.specs.Prelude.{ℕ, pos, List, map, Option}
use Rattle.std.specs.Borrow.{Bor}
use Rattle.sz_types.specs.Data.{Shape}
use Rattle.sz_types.specs.Rows.{sum_row, difference_row}
use Rattle.sz_types.specs.SeenTables.{seen_table}
use Rattle.sz_types.specs.declared.place.Place.{Place}
use Rattle.sz_types.specs.declared.table.TableDecl.{TableDecl}
use Rattle.sz_types.specs.declared.operator.BinOp.{BinOp}
use Rattle.sz_types.specs.declared.operator.BinOp.TheVariants.{Add}
use Rattle.sz_tree.specs.Expressions.{Exp}
use Rattle.sz_tree.specs.Statements.{SimpleForm, Stm as Tree}
use Rattle.std.specs.Option.{option_map}
use Rattle.sz_value.specs.Data.{Datum}
use Rattle.sz_core.specs.Nodes.{Node, node, nodes_of}
use Rattle.sz_core.specs.Nodes as forms
use Rattle.sz_core.specs.Statements.{Stm, with_stm, stms_of}
use Rattle.sz_core.specs.declared.stmt.CoreStmt.{CoreStmt}
use Rattle.sz_core.specs.View.{stm_of, node_of}
use Rattle.sz_check.specs.declared.emitted.Parts.{Parts}
use Rattle.sz_check.specs.declared.stmt.Around.{Around as Standing}
use Rattle.sz_check_rules.specs.Refusals.{Judged, ◌>>=◌}
use Rattle.sz_check_rules.specs.Scene.{Scene, opened}
use Rattle.sz_check_rules.specs.Scenes.{Later, AllAfter}
use Rattle.sz_check_rules.specs.JudgingSimple.{Numbered, Emitted, done}
use Rattle.sz_check_rules.specs.JudgingStatements.{Around, in_block, in_loop, out_of_loops, branch_of, turns_of, judge_stm}
use Rattle.sz_check_rules.specs.Quantifying.{Variable, in_bound}
use Rattle.sz_check_expr.specs.Asking.{asked_of}
use Rattle.sz_check_names.specs.Knowledge.{Knowledge, scene_of}

-- a checked statement, and what is known after it
abbrev pub after_of : Knowledge → CoreStmt → Later
after_of k s = record { scene = scene_of k; stm = stm_of s }

-- a table by its number
abbrev pub numbered_of : ℕ × Bor TableDecl → Numbered
numbered_of t = record { number = t.0; declaration = seen_table t.1.now }

-- the row of `name + 1`, or of `name - 1`
abbrev pub change_row : BinOp → Shape → Shape → Option Shape
change_row Add = sum_row
change_row _ = difference_row

-- the operands of `name + 1`, and the whole, all at one place
abbrev pub one_at : Place → Node
one_at p = node p Shape.int (forms.constant (Datum.int (pos 1)))

abbrev pub variable_at : Place → ℕ → Shape → Node
variable_at p k t = node p t (forms.local k)

abbrev pub changed_at : Place → BinOp → ℕ → Shape → Shape → Node
changed_at p o k t u = node p u (forms.binary o (variable_at p k t) (one_at p))

-- checked statements, and what is known after them
abbrev pub all_after_of : Knowledge → List CoreStmt → AllAfter
all_after_of k ss = record { scene = scene_of k; stms = stms_of (map stm_of ss) }

-- a statement in front of others
abbrev pub in_front : Stm → AllAfter → AllAfter
in_front s b = record { scene = b.scene; stms = with_stm s b.stms }

-- where a statement stands
abbrev pub around_of : Standing → Around
around_of a = record { result = asked_of a.result; loop = a.in_loop }

-- a part statement, which is judged in a block of its own
abbrev pub judge_inside : Around → Scene → Tree → Judged Later
judge_inside a s t = in_block s (judge_stm a (opened s) t)

-- the statement inside a `when`
abbrev pub judge_bound_body : Around → Scene → List Variable → Tree → Judged Later
judge_bound_body a s vs t = in_bound s vs (λ inner. judge_inside (out_of_loops a) inner t)

-- what an `if` does after its part: the other part, and then the branch over the test
abbrev pub judge_else : Around → Scene → Place → Exp → Node → Stm → Tree → Judged Later
judge_else a s p c n taken t = do
  other ← judge_inside a s t
  done other.scene (branch_of p c n taken other.stm)

-- what a `for` does after its first part
abbrev pub judge_turns : Around → Scene → Place → Option Exp → Option SimpleForm → Tree → Judged Later
judge_turns a s p c between t = turns_of s p c between (λ start. judge_inside (in_loop a) start t)

-- what contracts see of the parts of an emit
abbrev pub emitted_of : Parts → Emitted
emitted_of x = record {
  indexes = nodes_of (map node_of x.indexes.items);
  value = node_of x.value;
  weight = option_map node_of x.weight;
}
