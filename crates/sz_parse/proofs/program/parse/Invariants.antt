use Rattle.std.proofs.Common.{◌≤◌, length}
use Rattle.std.specs.Prelude.{map}
use Rattle.sz_lex.specs.Lexed.{lexeme_of}
use Rattle.sz_tree.specs.Statements.{stms_of, stm_heights}
use Rattle.sz_tree.specs.View.{stm_of}
use Rattle.sz_parse_expr.specs.declared.limit.TheConstants.{MAX_HEIGHT}
use Rattle.sz_parse.specs.Statements.{ReadsStms}
use Rattle.sz_parse_expr.specs.Reading.{utf8_in}
use Rattle.sz_parse_expr.proofs.ExpressionAlike.{Agree}
use Rattle.sz_parse.proofs.program.parse.Given as goal

-- the statements so far stand before the rest, whose tokens are UTF-8
abbrev pub invariant-loop-rest : goal.invariant-loop-rest
invariant-loop-rest l = record {
  reads : ReadsStms (lexeme_of l.fn.tokens.text) (stms_of (map stm_of l.statements.items)) l.fn.tokens.tokens l.rest;
  low : stm_heights (stms_of (map stm_of l.statements.items)) ≤ MAX_HEIGHT;
  agree : Agree (utf8_in l.fn.tokens.text) (lexeme_of l.fn.tokens.text) l.rest;
}

abbrev pub decreases-loop-rest : goal.decreases-loop-rest
decreases-loop-rest l = length l.rest
