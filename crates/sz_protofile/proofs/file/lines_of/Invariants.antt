use Rattle.std.proofs.Common.{length}
use Rattle.sz_protofile_lex.specs.Lexemes.{lexeme_of}
use Rattle.sz_protofile.proofs.LoopLemmas.{IsAt}
use Rattle.sz_protofile.proofs.file.lines_of.Given as goal

-- the lines so far stand before the rest
abbrev pub invariant-loop-rest : goal.invariant-loop-rest
invariant-loop-rest l = record { at : IsAt (lexeme_of l.fn.text) l.fn.tokens l.lines.items l.depth l.rest l.place }

abbrev pub decreases-loop-rest : goal.decreases-loop-rest
decreases-loop-rest l = length l.rest
