-- Reading tables and quantifiers. Each rule is over readers of its parts.
use Rattle.std.specs.Prelude.{ℤ, List, [], ◌∷◌, Option, Some, None}
use Rattle.sz_lex.specs.declared.token.Token.{Token}
use Rattle.sz_lex.specs.declared.token.Kind.{Kind}
use Rattle.sz_lex.specs.declared.token.Kind.TheVariants as kinds
use Rattle.sz_lex.specs.declared.sign.Sign.TheVariants as signs
use Rattle.sz_lex.specs.declared.word.Word.{Word}
use Rattle.sz_lex.specs.declared.word.Word.TheVariants as words
use Rattle.sz_tree.specs.declared.stmt.Quantity.{Quantity}
use Rattle.sz_tree.specs.declared.stmt.Quantity.TheVariants as quantities
use Rattle.sz_tree.specs.Names.{Ident}
use Rattle.sz_tree.specs.Statements.{ElemForm, TableForm, QuantifierForm}
use Rattle.sz_parse_expr.specs.Tokens.{Spelling}
use Rattle.sz_parse_expr.specs.Reading.{Read, ◌>>=◌, choose, after_sign, after_word, name_at, all_at}
use Rattle.sz_parse_expr.specs.ReadingTypes.{SubType, number_at, elem_at}

-- the parts of a table
unfoldable pub argument_at : List Token → Read (Option ℤ)
argument_at ts =
    choose (after_sign signs.OpenParen ts) (Some (None, ts))
    (λ a. number_at a >>= λ n. after_sign signs.CloseParen n.1 >>= λ r. Some (Some n.0, r))

unfoldable pub table_index_at : Spelling → SubType → List Token → Read ElemForm
table_index_at text ty ts = elem_at text ty ts >>= λ e. after_sign signs.CloseBracket e.1 >>= λ r. Some (e.0, r)

unfoldable pub table_index_step : Spelling → SubType → List Token → Option (Read ElemForm)
table_index_step text ty ts = choose (after_sign signs.OpenBracket ts) None (λ a. Some (table_index_at text ty a))

unfoldable pub table_weight_at : Spelling → SubType → List Token → Read (Option ElemForm)
table_weight_at text ty ts =
    choose (after_word words.Weight ts) (Some (None, ts)) (λ a. elem_at text ty a >>= λ e. Some (Some e.0, e.1))

-- what a table keeps, and its weight
unfoldable pub table_parts_at : Spelling → SubType → List Token → Read (ElemForm × Option ElemForm)
table_parts_at text ty ts = after_word words.Of ts >>= λ o. elem_at text ty o >>= λ e. table_weight_at text ty e.1
    >>= λ w. Some ((e.0, w.0), w.1)

-- what stands after `table`, up to the semicolon
unfoldable pub table_at : Spelling → SubType → List Token → Read TableForm
table_at text ty ts =
    name_at text ts >>= λ k. argument_at k.1 >>= λ a. all_at (table_index_step text ty) a.1
    >>= λ i. after_word words.Of i.1 >>= λ o.
    elem_at text ty o >>= λ e. table_weight_at text ty e.1 >>= λ w. after_sign signs.Semicolon w.1 >>= λ r.
    Some (record { kind = k.0; argument = a.0; indexes = i.0; of = e.0; weight = w.0 }, r)

-- a comma and a name
unfoldable pub name_step : Spelling → List Token → Option (Read Ident)
name_step text ts = choose (after_sign signs.Comma ts) None (λ a. Some (name_at text a))

unfoldable pub names_later : Spelling → Ident → List Token → Read (List Ident)
names_later text n ts = all_at (name_step text) ts >>= λ y. Some (n ∷ y.0, y.1)

unfoldable pub names_at : Spelling → List Token → Read (List Ident)
names_at text ts = name_at text ts >>= λ n. names_later text n.0 n.1

abbrev pub quantity_of : Word → Option Quantity
quantity_of words.Some = Some quantities.Some
quantity_of words.Each = Some quantities.Each
quantity_of words.All = Some quantities.All
quantity_of _ = None

abbrev pub quantity_here : Kind → List Token → Read Quantity
quantity_here (kinds.Word w) ts = quantity_of w >>= λ q. Some (q, ts)
quantity_here _ ts = None

-- how many values a quantifier speaks of
unfoldable pub quantity_at : List Token → Read Quantity
quantity_at [] = None
quantity_at (t ∷ ts) = quantity_here t.kind ts

-- a quantifier with its semicolon
unfoldable pub quantifier_at : Spelling → SubType → List Token → Read QuantifierForm
quantifier_at text ty ts =
    names_at text ts >>= λ n. after_sign signs.Colon n.1 >>= λ a. quantity_at a >>= λ q. ty q.1
    >>= λ t. after_sign signs.Semicolon t.1 >>= λ r. Some (record { names = n.0; quantity = q.0; of = t.0 }, r)

-- a name and a comma or a colon after it
unfoldable pub begins_quantifier : Spelling → List Token → Option (List Token)
begins_quantifier text ts = name_at text ts
    >>= λ n. choose (after_sign signs.Comma n.1) (after_sign signs.Colon n.1) (λ r. Some r)

unfoldable pub quantifier_step : Spelling → SubType → List Token → Option (Read QuantifierForm)
quantifier_step text ty ts = choose (begins_quantifier text ts) None (λ _. Some (quantifier_at text ty ts))

unfoldable pub quantifiers_after : Spelling → SubType → QuantifierForm → List Token → Read (List QuantifierForm)
quantifiers_after text ty q ts = all_at (quantifier_step text ty) ts >>= λ y. Some (q ∷ y.0, y.1)

unfoldable pub quantifiers_at : Spelling → SubType → List Token → Read (List QuantifierForm)
quantifiers_at text ty ts = quantifier_at text ty ts >>= λ q. quantifiers_after text ty q.0 q.1
