use Rattle.std.proofs.Common.{◌≡◌, [], ◌∷◌, ◌++◌, refl, sym, arith}
use Rattle.std.specs.Prelude.{map}
use Rattle.sz_lex.specs.Lexed.{lexeme_of}
use Rattle.sz_tree.specs.Statements.{stms_of, stm_heights}
use Rattle.sz_tree.specs.View.{stm_of}
use Rattle.sz_parse_expr.specs.declared.limit.TheConstants.{MAX_HEIGHT}
use Rattle.sz_parse.specs.Statements.{ReadsStm}
use Rattle.sz_parse_expr.specs.Reading.{utf8_in}
use Rattle.sz_parse_expr.proofs.ExpressionRows.{map_push}
use Rattle.sz_parse.proofs.Whole.{one_tree, one_place, not_both}
use Rattle.sz_parse.proofs.StatementAlike.{some_alike, none_alike}
use Rattle.sz_parse.proofs.ProgramTurns.{goes, stuck_at, spelled_all, tokens_agree}
use Rattle.sz_parse.proofs.program.parse.Goals as goal

pub loop-rest-init : goal.loop-rest-init
unfolding ReadsStm stm_heights
loop-rest-init c =
    let made : map stm_of c.new-statements.result.items ≡ [] = rw c.new-statements.ensures.items refl in
    record {
      reads = rw made (sym c.as_slice-rest.ensures.value);
      low = rw made (omega arith);
      agree = rw c.as_slice-rest.ensures.value (tokens_agree _ _ c.as_slice-rest.ensures.read);
    }

pub loop-rest-smaller : goal.loop-rest-smaller
loop-rest-smaller c =
    (goes (lexeme_of c.args.tokens.now.text) c.args.tokens.now.tokens c.loop-rest.rest.now c.in-Ok.after.now
    (map stm_of c.loop-rest.statements.items)
    (stm_of c.in-Ok.tree) c.loop-rest.invariant.reads c.loop-rest.invariant.low
    (some_alike _ _ _ _ _ c.loop-rest.invariant.agree (rw (← c.text-text.ensures.value) c.in-Ok.ensures.read)).0).fewer

pub loop-rest-preserved : goal.loop-rest-preserved
loop-rest-preserved c =
    let made : map stm_of c.push.new.self.items ≡ map stm_of c.loop-rest.statements.items ++ stm_of c.in-Ok.tree ∷ [] =
    rw c.in_ok-push-in-Ok.ensures.items (map_push stm_of c.loop-rest.statements.items c.in-Ok.tree) in
    let r =
    some_alike (utf8_in c.args.tokens.now.text) (lexeme_of c.args.tokens.now.text) MAX_HEIGHT c.loop-rest.rest.now
    (stm_of c.in-Ok.tree, c.in-Ok.after.now) c.loop-rest.invariant.agree
    (rw (← c.text-text.ensures.value) c.in-Ok.ensures.read) in
    let g = goes (lexeme_of c.args.tokens.now.text) c.args.tokens.now.tokens c.loop-rest.rest.now c.in-Ok.after.now
    (map stm_of c.loop-rest.statements.items)
    (stm_of c.in-Ok.tree) c.loop-rest.invariant.reads c.loop-rest.invariant.low r.0 in
    record { reads = rw made g.reads; low = rw made g.low; agree = r.1 }

pub returns-in-Err-Syntax-clause-refused : goal.returns-in-Err-Syntax-clause-refused
returns-in-Err-Syntax-clause-refused c =
    stuck_at c.args.tokens.now (stms_of (map stm_of c.loop-rest.statements.items)) c.loop-rest.rest.now _
    (omega arith) c.loop-rest.invariant.reads c.loop-rest.invariant.low
    (none_alike _ _ _ _ c.loop-rest.invariant.agree
    (rw (← c.text-text.ensures.value) (rw c.in-Err-Syntax.field-0-is at c.in-Err-Syntax.ensures.read)))

pub returns-in-Err-Syntax-clause-only_found : goal.returns-in-Err-Syntax-clause-only_found
returns-in-Err-Syntax-clause-only_found c = λ ss h. not_both _ ss _ h (returns-in-Err-Syntax-clause-refused c)

pub returns-in-Err-Syntax-clause-only_refused : goal.returns-in-Err-Syntax-clause-only_refused
returns-in-Err-Syntax-clause-only_refused c = λ p h. one_place _ _ p (returns-in-Err-Syntax-clause-refused c) h

pub returns-clause-found : goal.returns-clause-found
returns-clause-found c = spelled_all _ _ _ c.loop-rest.invariant.reads c.loop-rest.invariant.low c.in_default.len_below

pub returns-clause-only_found : goal.returns-clause-only_found
returns-clause-only_found c = λ ss h.
    one_tree _ _ ss (spelled_all _ _ _ c.loop-rest.invariant.reads c.loop-rest.invariant.low c.in_default.len_below) h

pub returns-clause-only_refused : goal.returns-clause-only_refused
returns-clause-only_refused c = λ p h.
    not_both _ _ p (spelled_all _ _ _ c.loop-rest.invariant.reads c.loop-rest.invariant.low c.in_default.len_below) h
