-- Reading statements. Each rule is over readers of its parts.
use Rattle.std.specs.Prelude.{ℕ, zero, suc, List, [], ◌∷◌, Option, Some, None, nat_le}
use Rattle.sz_types.specs.declared.place.Place.{Place}
use Rattle.sz_lex.specs.declared.token.Token.{Token}
use Rattle.sz_lex.specs.declared.token.Kind.{Kind}
use Rattle.sz_lex.specs.declared.token.Kind.TheVariants as kinds
use Rattle.sz_lex.specs.declared.sign.Sign.{Sign}
use Rattle.sz_lex.specs.declared.sign.Sign.TheVariants as signs
use Rattle.sz_lex.specs.declared.word.Word.{Word}
use Rattle.sz_lex.specs.declared.word.Word.TheVariants as words
use Rattle.sz_tree.specs.Names.{Ident}
use Rattle.sz_tree.specs.Expressions.{Exp, exps_of}
use Rattle.sz_tree.specs.Types.{Typ, params_of}
use Rattle.sz_tree.specs.Statements.{StepForm, at_index, at_field, SimpleForm, assign, increment, decrement, call_of, FirstForm}
use Rattle.sz_tree.specs.Statements.{first_declare, first_define, first_simple, Stm, empty, block}
use Rattle.sz_tree.specs.Statements.{declare, define, static, typedef, table, function, simple, if_only, if_else, while, do_while, for_loop}
use Rattle.sz_tree.specs.Statements.{break, continue, return, emit, when, stms_of}
use Rattle.sz_parse_expr.specs.Tokens.{Spelling}
use Rattle.sz_parse_expr.specs.Reading.{Read, ◌>>=◌, choose, guard, after_sign, after_word, ident_of, name_at, all_at}
use Rattle.sz_parse_expr.specs.ReadingExpressions.{Sub, call_at, condition_at, expr_at}
use Rattle.sz_parse_expr.specs.ReadingTypes.{SubType, label_at, params_at, type_at}
use Rattle.sz_parse.specs.ReadingTables.{table_at, quantifiers_at}

-- what was read, with this sign after it
unfoldable pub closed_by : {A : Type 0} → Sign → Read A → Read A
closed_by s read = read >>= λ x. after_sign s x.1 >>= λ r. Some (x.0, r)

-- what read gives, unless this sign stands there
unfoldable pub unless_at : {A : Type 0} → Sign → (List Token → Read A) → List Token → Read (Option A)
unless_at s read ts = choose (after_sign s ts) (read ts >>= λ x. Some (Some x.0, x.1)) (λ _. Some (None, ts))

-- an expression after an equals sign, and after `weight`, if one is there
unfoldable pub init_at : Sub → List Token → Read (Option Exp)
init_at sub ts = choose (after_sign signs.Assign ts) (Some (None, ts)) (λ a. sub 5 a >>= λ x. Some (Some x.0, x.1))

unfoldable pub weight_at : Sub → List Token → Read (Option Exp)
weight_at sub ts = choose (after_word words.Weight ts) (Some (None, ts)) (λ a. sub 5 a >>= λ x. Some (Some x.0, x.1))

-- the expression after a sign
unfoldable pub after_at : Sub → Sign → List Token → Read Exp
after_at sub s ts = after_sign s ts >>= λ a. sub 5 a

-- an expression and a closing bracket
unfoldable pub index_at : Sub → List Token → Read Exp
index_at sub ts = sub 5 ts >>= λ x. after_sign signs.CloseBracket x.1 >>= λ r. Some (x.0, r)

unfoldable pub index_step : Sub → List Token → Option (Read Exp)
index_step sub ts = choose (after_sign signs.OpenBracket ts) None (λ a. Some (index_at sub a))

-- a step of a path
unfoldable pub path_step : Spelling → Sub → List Token → Option (Read StepForm)
path_step text sub ts =
    choose (after_sign signs.OpenBracket ts)
    (choose (after_sign signs.Dot ts) None (λ a. Some (name_at text a >>= λ n. Some (at_field n.0, n.1))))
    (λ a. Some (index_at sub a >>= λ x. Some (at_index x.0, x.1)))

-- what follows the bracket or dot with which a step of a path begins
unfoldable pub begins_step : List Token → Option (List Token)
begins_step ts = choose (after_sign signs.OpenBracket ts) (after_sign signs.Dot ts) (λ r. Some r)

-- a step of a path, which must be there
unfoldable pub step_item : Spelling → Sub → List Token → Read StepForm
step_item text sub ts =
    choose (after_sign signs.OpenBracket ts) (after_sign signs.Dot ts >>= λ a. name_at text a >>= λ n. Some (at_field n.0, n.1))
    (λ a. index_at sub a >>= λ x. Some (at_index x.0, x.1))

-- an assignment, a step up or down, or a call, after its name; d is how high its parts may be
unfoldable pub assign_at : Spelling → Sub → Ident → List Token → Read SimpleForm
assign_at text sub n ts =
    all_at (path_step text sub) ts >>= λ y. after_sign signs.Assign y.1 >>= λ a. sub 5 a
    >>= λ x. Some (assign (record { name = n; steps = y.0 }) x.0, x.1)

unfoldable pub simple_after : Spelling → Sub → ℕ → Ident → List Token → Read SimpleForm
simple_after text sub d n ts =
    choose (after_sign signs.Increment ts) (choose (after_sign signs.Decrement ts) (choose (after_sign signs.OpenParen ts)
    (assign_at text sub n ts)
    (λ a. guard (nat_le 1 d) (call_at sub a >>= λ y. Some (call_of n y.0, y.1))))
    (λ r. guard (nat_le 2 d) (Some (decrement n, r))))
    (λ r. guard (nat_le 2 d) (Some (increment n, r)))

-- a statement of at most this height that may stand as a step of a `for`
unfoldable pub simple_at : Spelling → ℕ → List Token → Read SimpleForm
simple_at text zero ts = None
simple_at text (suc d) ts = name_at text ts >>= λ n. simple_after text (expr_at text d) d n.0 n.1

-- the first part of a `for`, after its name
unfoldable pub first_after : Spelling → Sub → SubType → ℕ → Ident → List Token → Read FirstForm
first_after text sub ty d n ts =
    choose (after_sign signs.Colon ts) (choose (after_sign signs.Define ts)
    (simple_after text sub d n ts >>= λ s. Some (first_simple s.0, s.1))
    (λ a. sub 5 a >>= λ x. Some (first_define n x.0, x.1)))
    (λ a. ty a >>= λ t. after_sign signs.Assign t.1 >>= λ b. sub 5 b >>= λ x. Some (first_declare n t.0 x.0, x.1))

unfoldable pub first_at : Spelling → ℕ → List Token → Read FirstForm
first_at text zero ts = None
first_at text (suc d) ts = name_at text ts >>= λ n. first_after text (expr_at text d) (type_at text d) d n.0 n.1

-- readers of the parts of a statement
pub record Readers : Type 0 where
  pub expr : Sub
  pub type : SubType
  pub simple : List Token → Read SimpleForm
  pub first : List Token → Read FirstForm
  pub stm : List Token → Read Stm

-- the tokens, where neither a closing brace nor the end stands
unfoldable pub begins_stm : List Token → Option (List Token)
begins_stm [] = None
begins_stm (t ∷ ts) = choose (after_sign signs.CloseBrace (t ∷ ts)) (Some (t ∷ ts)) (λ _. None)

-- a statement there
unfoldable pub stm_step : (List Token → Read Stm) → List Token → Option (Read Stm)
stm_step st ts = choose (begins_stm ts) None (λ b. Some (st b))

-- statements up to a closing brace, and the brace
unfoldable pub body_at : (List Token → Read Stm) → List Token → Read (List Stm)
body_at st ts = all_at (stm_step st) ts >>= λ y. after_sign signs.CloseBrace y.1 >>= λ r. Some (y.0, r)

unfoldable pub block_at : (List Token → Read Stm) → Place → List Token → Read Stm
block_at st p ts = body_at st ts >>= λ y. Some (block p (stms_of y.0), y.1)

-- a statement with a semicolon after it
abbrev pub ended_at : Stm → List Token → Read Stm
ended_at s ts = after_sign signs.Semicolon ts >>= λ z. Some (s, z)

-- what a name and a colon begin
unfoldable pub declare_at : Readers → Ident → List Token → Read Stm
declare_at r n ts = r.type ts >>= λ t. init_at r.expr t.1 >>= λ e. after_sign signs.Semicolon e.1 >>= λ z. Some (declare n t.0 e.0, z)

unfoldable pub declared_at : Spelling → SubType → List Token → Read (List (Ident × Typ))
declared_at text ty ts = choose (after_sign signs.CloseParen ts) (params_at text ty ts) (λ _. Some ([], ts))

-- the parameters of a function, with the signs around them
unfoldable pub parameters_at : Spelling → SubType → List Token → Read (List (Ident × Typ))
parameters_at text ty ts =
    after_sign signs.OpenParen ts >>= λ a. declared_at text ty a >>= λ ps. after_sign signs.CloseParen ps.1
    >>= λ b. after_sign signs.Colon b >>= λ c. Some (ps.0, c)

unfoldable pub function_at : Spelling → Readers → Ident → List Token → Read Stm
function_at text r n ts =
    after_sign signs.OpenParen ts >>= λ a. declared_at text r.type a >>= λ ps. after_sign signs.CloseParen ps.1
    >>= λ b. after_sign signs.Colon b >>= λ c. r.type c >>= λ t. after_sign signs.OpenBrace t.1
    >>= λ f. body_at r.stm f >>= λ y. Some (function n (params_of ps.0) t.0 (stms_of y.0), y.1)

unfoldable pub table_stm_at : Spelling → Readers → Ident → List Token → Read Stm
table_stm_at text r n ts = table_at text r.type ts >>= λ t. Some (table n t.0, t.1)

unfoldable pub colon_at : Spelling → Readers → Ident → List Token → Read Stm
colon_at text r n ts =
    choose (after_word words.Table ts) (choose (after_word words.Function ts) (declare_at r n ts)
    (λ a. function_at text r n a)) (λ a. table_stm_at text r n a)

unfoldable pub define_at : Readers → Ident → List Token → Read Stm
define_at r n ts = r.expr 5 ts >>= λ x. after_sign signs.Semicolon x.1 >>= λ z. Some (define n x.0, z)

unfoldable pub simple_stm_at : Spelling → Readers → ℕ → Ident → List Token → Read Stm
simple_stm_at text r d n ts = simple_after text r.expr d n ts >>= λ s. after_sign signs.Semicolon s.1 >>= λ z. Some (simple s.0, z)

-- what a name begins
unfoldable pub named_stm_at : Spelling → Readers → ℕ → Ident → List Token → Read Stm
named_stm_at text r d n ts =
    choose (after_sign signs.Colon ts) (choose (after_sign signs.Define ts) (simple_stm_at text r d n ts)
    (λ a. define_at r n a)) (λ a. colon_at text r n a)

-- the statements after their first word
unfoldable pub static_at : Spelling → Readers → Place → List Token → Read Stm
static_at text r p ts =
    label_at text ts >>= λ n. r.type n.1 >>= λ t. after_sign signs.Assign t.1 >>= λ a. r.expr 5 a >>= λ x. after_sign signs.Semicolon x.1
    >>= λ z. Some (static p n.0 t.0 x.0, z)

unfoldable pub typedef_at : Spelling → Readers → Place → List Token → Read Stm
typedef_at text r p ts =
    name_at text ts >>= λ n. after_sign signs.Assign n.1 >>= λ a. r.type a >>= λ t. after_sign signs.Semicolon t.1
    >>= λ z. Some (typedef p n.0 t.0, z)

unfoldable pub if_at : Readers → Place → List Token → Read Stm
if_at r p ts =
    condition_at r.expr ts >>= λ c. r.stm c.1 >>= λ s. choose (after_word words.Else s.1)
    (Some (if_only p c.0 s.0, s.1))
    (λ g. r.stm g >>= λ t. Some (if_else p c.0 s.0 t.0, t.1))

unfoldable pub while_at : Readers → Place → List Token → Read Stm
while_at r p ts = condition_at r.expr ts >>= λ c. r.stm c.1 >>= λ s. Some (while p c.0 s.0, s.1)

unfoldable pub do_at : Readers → Place → List Token → Read Stm
do_at r p ts =
    r.stm ts >>= λ s. after_word words.While s.1 >>= λ a. condition_at r.expr a
    >>= λ c. after_sign signs.Semicolon c.1 >>= λ z. Some (do_while p s.0 c.0, z)

unfoldable pub for_at : Readers → Place → List Token → Read Stm
for_at r p ts =
    after_sign signs.OpenParen ts >>= λ a. unless_at signs.Semicolon r.first a >>= λ f. after_sign signs.Semicolon f.1
    >>= λ b. unless_at signs.Semicolon (r.expr 5) b >>= λ c.
    after_sign signs.Semicolon c.1 >>= λ g. unless_at signs.CloseParen r.simple g >>= λ t. after_sign signs.CloseParen t.1 >>= λ k. r.stm k
    >>= λ s. Some (for_loop p f.0 c.0 t.0 s.0, s.1)

unfoldable pub break_at : Place → List Token → Read Stm
break_at p ts = after_sign signs.Semicolon ts >>= λ z. Some (break p, z)

unfoldable pub continue_at : Place → List Token → Read Stm
continue_at p ts = after_sign signs.Semicolon ts >>= λ z. Some (continue p, z)

unfoldable pub return_at : Readers → Place → List Token → Read Stm
return_at r p ts = unless_at signs.Semicolon (r.expr 5) ts >>= λ e. after_sign signs.Semicolon e.1 >>= λ z. Some (return p e.0, z)

unfoldable pub emit_at : Spelling → Readers → Place → List Token → Read Stm
emit_at text r p ts =
    name_at text ts >>= λ n. all_at (index_step r.expr) n.1 >>= λ i. after_sign signs.Arrow i.1 >>= λ a. r.expr 5 a
    >>= λ x. weight_at r.expr x.1 >>= λ w.
    after_sign signs.Semicolon w.1 >>= λ z. Some (emit p n.0 (exps_of i.0) x.0 w.0, z)

unfoldable pub when_at : Spelling → Readers → Place → List Token → Read Stm
when_at text r p ts =
    after_sign signs.OpenParen ts >>= λ a. quantifiers_at text r.type a >>= λ q. r.expr 5 q.1
    >>= λ c. after_sign signs.CloseParen c.1 >>= λ b. r.stm b >>= λ s.
    Some (when p q.0 c.0 s.0, s.1)

abbrev pub stm_bracketed : Readers → Place → Sign → List Token → Read Stm
stm_bracketed r p signs.Semicolon ts = Some (empty p, ts)
stm_bracketed r p signs.OpenBrace ts = block_at r.stm p ts
stm_bracketed r p _ ts = None

abbrev pub stm_worded : Spelling → Readers → Place → Word → List Token → Read Stm
stm_worded text r p words.Static ts = static_at text r p ts
stm_worded text r p words.Type ts = typedef_at text r p ts
stm_worded text r p words.If ts = if_at r p ts
stm_worded text r p words.While ts = while_at r p ts
stm_worded text r p words.Do ts = do_at r p ts
stm_worded text r p words.For ts = for_at r p ts
stm_worded text r p words.Break ts = break_at p ts
stm_worded text r p words.Continue ts = continue_at p ts
stm_worded text r p words.Return ts = return_at r p ts
stm_worded text r p words.Emit ts = emit_at text r p ts
stm_worded text r p words.When ts = when_at text r p ts
stm_worded text r p _ ts = None

-- what a token begins
abbrev pub stm_here : Spelling → Readers → ℕ → Token → Kind → List Token → Read Stm
stm_here text r d t kinds.Name ts = named_stm_at text r d (ident_of text t) ts
stm_here text r d t (kinds.Sign s) ts = stm_bracketed r t.place s ts
stm_here text r d t (kinds.Word w) ts = stm_worded text r t.place w ts
stm_here text r d t _ ts = None

unfoldable pub step_at : Spelling → Readers → ℕ → List Token → Read Stm
step_at text r d [] = None
step_at text r d (t ∷ ts) = stm_here text r d t t.kind ts

-- a statement of at most this height
unfoldable pub stm_at : Spelling → ℕ → List Token → Read Stm
stm_at text zero ts = None
stm_at text (suc d) ts =
    step_at text (record {
      expr = expr_at text d;
      type = type_at text d;
      simple = simple_at text d;
      first = first_at text d;
      stm = stm_at text d;
    }) d ts

-- the readers of the parts of a statement whose parts are at most this high
abbrev pub readers_at : Spelling → ℕ → Readers
readers_at text d = record {
  expr = expr_at text d;
  type = type_at text d;
  simple = simple_at text d;
  first = first_at text d;
  stm = stm_at text d;
}
