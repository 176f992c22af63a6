use Rattle.sz_protofile_lex.specs.Lexemes.{lexeme_of}
use Rattle.sz_protofile.proofs.LineLemmas.{line_shorter}
use Rattle.sz_protofile.proofs.LoopLemmas.{starts, inside_at, stuck, stuck_after, ends_after, goes_on}
use Rattle.sz_protofile.proofs.file.lines_of.Goals as goal

pub loop-rest-init : goal.loop-rest-init
loop-rest-init c = record { at = rw c.new-lines.ensures.items (starts (lexeme_of c.args.text.now) c.args.tokens.now _) }

pub loop-rest-smaller : goal.loop-rest-smaller
loop-rest-smaller c = line_shorter (lexeme_of c.args.text.now)
    c.loop-rest.depth c.loop-rest.rest.now c.in-Ok.after.now c.in-Ok.line c.in-Ok.ensures.read

pub loop-rest-preserved : goal.loop-rest-preserved
loop-rest-preserved c = record {
  at = rw (c.in_ok-push-in-Ok.ensures.items, c.depth_after-depth.ensures.value)
      (goes_on (lexeme_of c.args.text.now) c.args.tokens.now c.loop-rest.lines.items c.loop-rest.depth
      c.loop-rest.rest.now c.in-Ok.after.now c.place_in-place.result
      c.loop-rest.place c.in-Ok.line c.loop-rest.invariant.at
      (rw c.place_in-place.ensures.value (inside_at (lexeme_of c.args.text.now)
      c.args.tokens.now c.loop-rest.lines.items c.loop-rest.depth c.loop-rest.rest.now c.loop-rest.place _
      c.in-len1-up.len_at_least c.loop-rest.invariant.at))
      c.in-Ok.ensures.read);
}

pub returns-in-Err-Unfit-clause-refused : goal.returns-in-Err-Unfit-clause-refused
returns-in-Err-Unfit-clause-refused c =
    stuck (lexeme_of c.args.text.now) c.args.tokens.now c.loop-rest.depth c.loop-rest.rest.now c.place_in-place.result
    (rw c.place_in-place.ensures.value (inside_at (lexeme_of c.args.text.now)
    c.args.tokens.now c.loop-rest.lines.items c.loop-rest.depth c.loop-rest.rest.now c.loop-rest.place _
    c.in-len1-up.len_at_least c.loop-rest.invariant.at))
    (rw c.in-Err-Unfit.field-0-is at c.in-Err-Unfit.ensures.read)

pub returns-then-depth-gt0-clause-refused : goal.returns-then-depth-gt0-clause-refused
returns-then-depth-gt0-clause-refused c =
    stuck_after (lexeme_of c.args.text.now)
    c.args.tokens.now c.loop-rest.lines.items c.loop-rest.depth c.loop-rest.rest.now c.loop-rest.place
    c.in_default.len_below c.loop-rest.invariant.at c.if-depth-gt0.true

pub returns-clause-found : goal.returns-clause-found
returns-clause-found c =
    ends_after (lexeme_of c.args.text.now)
    c.args.tokens.now c.loop-rest.lines.items c.loop-rest.depth c.loop-rest.rest.now c.loop-rest.place
    c.in_default.len_below c.loop-rest.invariant.at c.if-depth-gt0.false
