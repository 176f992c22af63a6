-- Reading what stands after the first parts of an expression: the same steps as in the reader of
-- the whole, from the middle on.
use Rattle.std.specs.Prelude.{List, Some}
use Rattle.sz_lex.specs.declared.token.Token.{Token}
use Rattle.sz_lex.specs.declared.sign.Sign.TheVariants as signs
use Rattle.sz_tree.specs.Expressions.{Exp, place_of, slice}
use Rattle.sz_parse_expr.specs.Reading.{Read, ◌>>=◌, after_sign}
use Rattle.sz_parse_expr.specs.ReadingExpressions.{Sub}

-- a slice of e from i, after its colon
abbrev pub slice_at : Sub → Exp → Exp → List Token → Read Exp
slice_at sub e i ts = sub 5 ts >>= λ j. after_sign signs.CloseBracket j.1 >>= λ r. Some (slice (place_of e) e i j.0, r)
