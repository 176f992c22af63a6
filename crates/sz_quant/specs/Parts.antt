-- The parts of an expression.
use Rattle.std.specs.Prelude.{List, [], ◌∷◌, ◌++◌}
use Rattle.sz_tree.specs.Expressions.{Exp, literal, named, call, def, paren, convert, list, mapping, index, slice, field, unary, binary, Exps, end, more, Pairs, no_pairs, pair}

abbrev mutual
  -- the parts of an expression in reading order: by their first tokens, and each before its own parts
  pub parts : Exp → List Exp
  parts (literal p l) = literal p l ∷ []
  parts (named n) = named n ∷ []
  parts (call n es) = call n es ∷ parts_of es
  parts (def p e) = def p e ∷ parts e
  parts (paren p e) = paren p e ∷ parts e
  parts (convert p b e) = convert p b e ∷ parts e
  parts (list p es) = list p es ∷ parts_of es
  parts (mapping p ps) = mapping p ps ∷ parts_in ps
  parts (index p e i) = index p e i ∷ parts e ++ parts i
  parts (slice p e i j) = slice p e i j ∷ parts e ++ parts i ++ parts j
  parts (field p e n) = field p e n ∷ parts e
  parts (unary p o e) = unary p o e ∷ parts e
  parts (binary p o l r) = binary p o l r ∷ parts l ++ parts r

  -- the parts of expressions, one after the other
  pub parts_of : Exps → List Exp
  parts_of end = []
  parts_of (more e es) = parts e ++ parts_of es

  -- the parts of keys and values, one after the other
  pub parts_in : Pairs → List Exp
  parts_in no_pairs = []
  parts_in (pair k v ps) = parts k ++ parts v ++ parts_in ps
