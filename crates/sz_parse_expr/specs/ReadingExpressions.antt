-- Reading expressions. Each rule is over a reader of its parts, which reads trees of at most some height,
-- each no looser than its argument.
use Rattle.std.specs.Prelude.{ℕ, zero, suc, List, [], ◌∷◌, Option, Some, None, Bool, true, false, nat_le, ◌==◌, if◌then◌else◌}
use Rattle.sz_types.specs.declared.place.Place.{Place}
use Rattle.sz_lex.specs.declared.token.Token.{Token}
use Rattle.sz_lex.specs.declared.token.Kind.{Kind}
use Rattle.sz_lex.specs.declared.token.Kind.TheVariants as kinds
use Rattle.sz_lex.specs.declared.sign.Sign.{Sign}
use Rattle.sz_lex.specs.declared.sign.Sign.TheVariants as signs
use Rattle.sz_lex.specs.declared.word.Word.{Word}
use Rattle.sz_lex.specs.declared.word.Word.TheVariants as words
use Rattle.sz_lex.specs.declared.escape.Quoted.TheVariants as quoteds
use Rattle.sz_tree.specs.declared.operator.UnaryOp.{UnaryOp}
use Rattle.sz_tree.specs.declared.operator.UnaryOp.TheVariants as unaries
use Rattle.sz_tree.specs.declared.operator.BinaryOp.{BinaryOp}
use Rattle.sz_tree.specs.declared.operator.BinaryOp.TheVariants as ops
use Rattle.sz_tree.specs.declared.types.BasicType.{BasicType}
use Rattle.sz_tree.specs.declared.types.BasicType.TheVariants as basics
use Rattle.sz_tree.specs.Names.{Ident}
use Rattle.sz_tree.specs.Expressions.{number, string, bytes, character, boolean, Exp, literal, named, call, def, paren, convert, list}
use Rattle.sz_tree.specs.Expressions.{mapping, index, slice, field, unary, binary, Exps, exps_of, pairs_of, place_of, loose_of, left_loose}
use Rattle.sz_tree.specs.Expressions.{loose, height}
use Rattle.sz_parse_expr.specs.Tokens.{Spelling}
use Rattle.sz_parse_expr.specs.Reading.{Read, ◌>>=◌, choose, guard, after_sign, ident_of, name_at, decoded, all_at}

-- the operators that a sign stands for
abbrev pub sign_unary : Sign → Option UnaryOp
sign_unary signs.Minus = Some unaries.Negate
sign_unary signs.Plus = Some unaries.Plus
sign_unary signs.Not = Some unaries.Not
sign_unary signs.Tilde = Some unaries.Complement
sign_unary _ = None

abbrev pub unary_of : Kind → Option UnaryOp
unary_of (kinds.Sign s) = sign_unary s
unary_of _ = None

abbrev pub sign_binary : Sign → Option BinaryOp
sign_binary signs.OrOr = Some ops.Or
sign_binary signs.AndAnd = Some ops.And
sign_binary signs.EqualEqual = Some ops.Equal
sign_binary signs.NotEqual = Some ops.NotEqual
sign_binary signs.Less = Some ops.Less
sign_binary signs.LessEqual = Some ops.LessEqual
sign_binary signs.Greater = Some ops.Greater
sign_binary signs.GreaterEqual = Some ops.GreaterEqual
sign_binary signs.Plus = Some ops.Add
sign_binary signs.Minus = Some ops.Subtract
sign_binary signs.Or = Some ops.BitOr
sign_binary signs.Caret = Some ops.BitXor
sign_binary signs.Star = Some ops.Multiply
sign_binary signs.Slash = Some ops.Divide
sign_binary signs.Percent = Some ops.Remainder
sign_binary signs.ShiftLeft = Some ops.ShiftLeft
sign_binary signs.ShiftRight = Some ops.ShiftRight
sign_binary signs.And = Some ops.BitAnd
sign_binary _ = None

abbrev pub binary_of : Kind → Option BinaryOp
binary_of (kinds.Sign s) = sign_binary s
binary_of _ = None

abbrev pub operator_here : ℕ → Option BinaryOp → List Token → Read BinaryOp
operator_here l (Some o) ts = if loose_of o == l then Some (o, ts) else None
operator_here l None ts = None

-- an operator that binds as loosely as this
unfoldable pub operator_at : ℕ → List Token → Read BinaryOp
operator_at l [] = None
operator_at l (t ∷ ts) = operator_here l (binary_of t.kind) ts

-- the type that a conversion's word names
abbrev pub conversion_of : Word → Option BasicType
conversion_of words.Int = Some basics.Int
conversion_of words.String = Some basics.String
conversion_of words.Bytes = Some basics.Bytes
conversion_of words.Time = Some basics.Time
conversion_of _ = None

-- Below, sub reads trees that are at most d high, each no looser than its first argument; 5 is the loosest.
abbrev pub Sub : Type 0
Sub = ℕ → List Token → Read Exp

-- a comma and an expression
unfoldable pub comma_step : Sub → List Token → Option (Read Exp)
comma_step sub ts = choose (after_sign signs.Comma ts) None (λ a. Some (sub 5 a))

-- a key and its value
unfoldable pub pair_at : Sub → List Token → Read (Exp × Exp)
pair_at sub ts = sub 5 ts >>= λ k. after_sign signs.Colon k.1 >>= λ b. sub 5 b >>= λ v. Some ((k.0, v.0), v.1)

-- a comma, a key and its value
unfoldable pub pair_step : Sub → List Token → Option (Read (Exp × Exp))
pair_step sub ts = choose (after_sign signs.Comma ts) None (λ a. Some (pair_at sub a))

-- e and the expressions after it
unfoldable pub items_after : Sub → Exp → List Token → Read (List Exp)
items_after sub e ts = all_at (comma_step sub) ts >>= λ y. Some (e ∷ y.0, y.1)

-- a pair and those after it
unfoldable pub pairs_after : Sub → Exp × Exp → List Token → Read (List (Exp × Exp))
pairs_after sub p ts = all_at (pair_step sub) ts >>= λ y. Some (p ∷ y.0, y.1)

-- the arguments of a call, up to the closing parenthesis
unfoldable pub args_at : Sub → List Token → Read (List Exp)
args_at sub ts =
    choose (after_sign signs.CloseParen ts) (sub 5 ts >>= λ x. items_after sub x.0 x.1) (λ _. Some ([], ts))

-- the same with the closing parenthesis
unfoldable pub call_at : Sub → List Token → Read Exps
call_at sub ts = args_at sub ts >>= λ y. after_sign signs.CloseParen y.1 >>= λ r. Some (exps_of y.0, r)

-- what a name begins; a call is at least 2 high
unfoldable pub named_at : Sub → ℕ → Ident → List Token → Read Exp
named_at sub d n ts = choose (after_sign signs.OpenParen ts) (Some (named n, ts))
    (λ a. guard (nat_le 1 d) (call_at sub a >>= λ y. Some (call n y.0, y.1)))

-- an expression and a closing parenthesis
unfoldable pub closed_at : Sub → List Token → Read Exp
closed_at sub ts = sub 5 ts >>= λ x. after_sign signs.CloseParen x.1 >>= λ r. Some (x.0, r)

-- an expression in parentheses
unfoldable pub condition_at : Sub → List Token → Read Exp
condition_at sub ts = after_sign signs.OpenParen ts >>= λ a. closed_at sub a

unfoldable pub paren_at : Sub → Place → List Token → Read Exp
paren_at sub p ts = closed_at sub ts >>= λ x. Some (paren p x.0, x.1)

unfoldable pub def_at : Sub → Place → List Token → Read Exp
def_at sub p ts = condition_at sub ts >>= λ x. Some (def p x.0, x.1)

unfoldable pub convert_at : Sub → Place → BasicType → List Token → Read Exp
convert_at sub p b ts = condition_at sub ts >>= λ x. Some (convert p b x.0, x.1)

-- the rest of a list, and of a map
unfoldable pub list_at : Sub → Place → Exp → List Token → Read Exp
list_at sub p e ts = items_after sub e ts >>= λ y. after_sign signs.CloseBrace y.1
    >>= λ r. Some (list p (exps_of y.0), r)

unfoldable pub map_at : Sub → Place → Exp × Exp → List Token → Read Exp
map_at sub p kv ts = pairs_after sub kv ts >>= λ y. after_sign signs.CloseBrace y.1
    >>= λ r. Some (mapping p (pairs_of y.0), r)

-- a list or a map, after its opening brace
unfoldable pub composite_at : Sub → Place → List Token → Read Exp
composite_at sub p ts =
    choose (after_sign signs.CloseBrace ts)
    (choose (after_sign signs.Colon ts)
    (sub 5 ts >>= λ x. choose (after_sign signs.Colon x.1)
    (list_at sub p x.0 x.1)
    (λ a. sub 5 a >>= λ v. map_at sub p (x.0, v.0) v.1))
    (λ a. after_sign signs.CloseBrace a >>= λ r. Some (mapping p (pairs_of []), r)))
    (λ r. Some (list p (exps_of []), r))

abbrev pub bracketed : Sub → Place → Sign → List Token → Read Exp
bracketed sub p signs.OpenParen ts = paren_at sub p ts
bracketed sub p signs.OpenBrace ts = composite_at sub p ts
bracketed sub p _ ts = None

abbrev pub converted : Sub → Place → Option BasicType → List Token → Read Exp
converted sub p (Some b) ts = convert_at sub p b ts
converted sub p None ts = None

abbrev pub worded : Sub → Place → Word → List Token → Read Exp
worded sub p words.True ts = Some (literal p (boolean true), ts)
worded sub p words.False ts = Some (literal p (boolean false), ts)
worded sub p words.Def ts = def_at sub p ts
worded sub p w ts = converted sub p (conversion_of w) ts

-- what a token begins
abbrev pub primary_here : Spelling → Sub → ℕ → Token → Kind → List Token → Read Exp
primary_here text sub d t (kinds.Number n) ts = Some (literal t.place (number n), ts)
primary_here text sub d t (kinds.Character c) ts = Some (literal t.place (character c), ts)
primary_here text sub d t kinds.Str ts = decoded quoteds.Str (text t) >>= λ v. Some (literal t.place (string v), ts)
primary_here text sub d t kinds.Bytes ts = decoded quoteds.Bytes (text t) >>= λ v. Some (literal t.place (bytes v), ts)
primary_here text sub d t kinds.Name ts = named_at sub d (ident_of text t) ts
primary_here text sub d t (kinds.Sign s) ts = bracketed sub t.place s ts
primary_here text sub d t (kinds.Word w) ts = worded sub t.place w ts

-- an index or a slice, after its opening bracket
unfoldable pub bracket_at : Sub → Exp → List Token → Read Exp
bracket_at sub e ts =
    sub 5 ts >>= λ i. choose (after_sign signs.Colon i.1)
    (after_sign signs.CloseBracket i.1 >>= λ r. Some (index (place_of e) e i.0, r))
    (λ b. sub 5 b >>= λ j. after_sign signs.CloseBracket j.1 >>= λ r. Some (slice (place_of e) e i.0 j.0, r))

-- a field, after its dot
unfoldable pub field_at : Spelling → Exp → List Token → Read Exp
field_at text e ts = name_at text ts >>= λ n. Some (field (place_of e) e n.0, n.1)

-- an index, a slice or a field of e; nothing where none begins
unfoldable pub part_step : Spelling → Sub → Exp → List Token → Option (Read Exp)
part_step text sub e ts =
    choose (after_sign signs.OpenBracket ts) (choose (after_sign signs.Dot ts) None (λ a. Some (field_at text e a)))
    (λ a. Some (bracket_at sub e a))

-- an index, a slice or a field of e if one stands there, and whether one does
unfoldable pub part_at : Spelling → Sub → ℕ → Exp → List Token → Read (Exp × Bool)
part_at text sub d e ts = choose (part_step text sub e ts) (Some ((e, false), ts))
    (λ r. guard (nat_le (height e) d) (r >>= λ x. Some ((x.0, true), x.1)))

-- what stands after e, in so many turns at most
unfoldable pub tail_at : Spelling → Sub → ℕ → ℕ → Exp → List Token → Read Exp
tail_at text sub d zero e ts = Some (e, ts)
tail_at text sub d (suc k) e ts = choose (part_step text sub e ts) (Some (e, ts))
    (λ r. guard (nat_le (height e) d) (r >>= λ x. tail_at text sub d k x.0 x.1))

unfoldable pub unary_at : Sub → Place → UnaryOp → List Token → Read Exp
unary_at sub p o ts = sub 0 ts >>= λ x. Some (unary p o x.0, x.1)

unfoldable pub postfix_at : Spelling → Sub → ℕ → List Token → Read Exp
postfix_at text sub d [] = None
postfix_at text sub d (t ∷ ts) = primary_here text sub d t t.kind ts >>= λ x. tail_at text sub d (suc d) x.0 x.1

unfoldable pub prefix_at : Spelling → Sub → ℕ → List Token → Read Exp
prefix_at text sub d [] = None
prefix_at text sub d (t ∷ ts) =
    choose (unary_of t.kind) (postfix_at text sub d (t ∷ ts)) (λ o. unary_at sub t.place o ts)

-- the operators of one level after e, in so many turns at most
unfoldable pub chain_at : Sub → ℕ → ℕ → ℕ → Exp → List Token → Read Exp
chain_at sub d l zero e ts = Some (e, ts)
chain_at sub d l (suc k) e ts =
    choose (operator_at (suc l) ts) (Some (e, ts))
    (λ o. guard (nat_le (loose e) (left_loose o.0))
    (guard (nat_le (height e) d) (sub l o.1 >>= λ x. chain_at sub d l k (binary (place_of e) o.0 e x.0) x.1)))

unfoldable pub level_at : Spelling → Sub → ℕ → ℕ → List Token → Read Exp
level_at text sub d zero ts = prefix_at text sub d ts
level_at text sub d (suc l) ts = level_at text sub d l ts >>= λ x. chain_at sub d l (suc d) x.0 x.1

-- an expression of at most this height, no looser than this
unfoldable pub expr_at : Spelling → ℕ → Sub
expr_at text zero l ts = None
expr_at text (suc d) l ts = level_at text (expr_at text d) d l ts
