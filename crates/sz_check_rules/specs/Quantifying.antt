-- The variables of a `when`: how they are declared, and what bounds them.
use Rattle.std.specs.Prelude.{ℕ, List, [], ◌∷◌, ◌++◌, length, map, Bool, true, false, if◌then◌else◌, Option, Some, None, Ok}
use Rattle.sz_types.specs.Data.{Shape}
use Rattle.sz_types.specs.Same.{alike}
use Rattle.sz_tree.specs.declared.stmt.Quantity.{Quantity}
use Rattle.sz_tree.specs.declared.stmt.Quantity.TheVariants as quantities
use Rattle.sz_tree.specs.Names.{Ident}
use Rattle.sz_tree.specs.Expressions.{Exp}
use Rattle.sz_tree.specs.Statements.{QuantifierForm}
use Rattle.sz_quant.specs.Fitting.{BoundForm, bounds_of}
use Rattle.sz_core.specs.Nodes.{Node, type_of}
use Rattle.sz_core.specs.Statements as core
use Rattle.sz_core.specs.Sound.{candidate_type}
use Rattle.sz_check_rules.specs.Refusals.{Judged, ◌>>=◌, unless, unbounded, all_must_be_last, wrong_type}
use Rattle.sz_check_rules.specs.Names.{Block}
use Rattle.sz_check_rules.specs.Names as names
use Rattle.sz_check_rules.specs.JudgingTypes.{judge_type}
use Rattle.sz_check_rules.specs.Scene.{Scene, opened, with_quantified}
use Rattle.sz_check_rules.specs.JudgingExpressions.{judge_exp}
use Rattle.sz_check_rules.specs.EmittingTrees.{is_seen_inside}
use Rattle.sz_check_rules.specs.Scenes.{Later, closed}

-- a variable of a `when`: its name, how it is quantified, its number and its type
pub record Variable : Type 0 where
  pub name : Ident
  pub quantity : Quantity
  pub local : ℕ
  pub type : Shape

-- the variables that are declared by now, and what is known after them
pub record Declared : Type 0 where
  pub scene : Scene
  pub variables : List Variable

-- these names as variables of one kind and type, after those that are declared by now
unfoldable pub judge_names : Quantity → Shape → List Ident → Declared → Judged Declared
judge_names q t [] d = Ok d
judge_names q t (n ∷ ns) d = do
  next ← with_quantified n t d.scene
  judge_names q t ns (record {
    scene = next;
    variables = d.variables ++ record { name = n; quantity = q; local = length d.scene.locals; type = t } ∷ [];
  })

-- the variables of one quantifier: its type, and then its names
abbrev pub judge_quantifier : QuantifierForm → Declared → Judged Declared
judge_quantifier q d = do
  t ← judge_type d.scene.blocks q.of
  judge_names q.quantity t q.names d

-- the variables of all quantifiers, in order
unfoldable pub judge_quantifiers : List QuantifierForm → Declared → Judged Declared
judge_quantifiers [] d = Ok d
judge_quantifiers (q ∷ qs) d = do
  next ← judge_quantifier q d
  judge_quantifiers qs next

-- no variable is declared yet, in a block of their own
abbrev pub none_declared : Scene → Declared
none_declared s = record { scene = opened s; variables = [] }

-- what is known after the condition of a `when`, its variables, and the condition
pub record Front : Type 0 where
  pub scene : Scene
  pub variables : List Variable
  pub condition : Node

-- the variables and the condition, in a block of their own; nothing that emits may be called in the condition
abbrev pub judge_front : Scene → List QuantifierForm → Exp → Judged Front
judge_front s qs c = do
  d ← judge_quantifiers qs (none_declared s)
  n ← judge_exp d.scene.blocks false None c
  Ok (record { scene = closed s d.scene; variables = d.variables; condition = n })

-- the blocks with a variable under its name
abbrev pub bind : Variable → List Block → Judged (List Block)
bind v blocks = names.declare v.name (names.quantified v.local v.type) blocks

-- the same of those variables that the statement inside sees
unfoldable pub bind_inside : List Variable → List Block → Judged (List Block)
bind_inside [] blocks = Ok blocks
bind_inside (v ∷ vs) blocks =
    if is_seen_inside v.quantity then (bind v blocks >>= bind_inside vs) else bind_inside vs blocks

-- what the statement inside sees, with the types of all variables by number
abbrev pub judge_bound : Scene → List Variable → Judged Scene
judge_bound s vs = do
  blocks ← bind_inside vs ([] ∷ s.blocks)
  Ok (record s { blocks = blocks })

-- the statement inside, which is judged where it sees these variables
abbrev pub in_bound : Scene → List Variable → (Scene → Judged Later) → Judged Later
in_bound s vs judging = do
  inner ← judge_bound s vs
  body ← judging inner
  Ok (record { scene = closed s body.scene; stm = body.stm })

-- the names of variables, in order
abbrev pub names_of : List Variable → List (List ℕ)
names_of = map (λ (v : Variable). v.name.text)

-- each variable has a bound
unfoldable pub all_bounded : List Variable → List (Option BoundForm) → Judged (List BoundForm)
all_bounded (v ∷ vs) (None ∷ bs) = unbounded v.name
all_bounded (v ∷ vs) (Some b ∷ bs) = do
  rest ← all_bounded vs bs
  Ok (b ∷ rest)
all_bounded vs bs = Ok []

-- whether a variable speaks of all candidates, after one that does or doesn't; one that doesn't may not stand after
-- one that does
abbrev pub may_follow : Variable → Bool → Judged Bool
may_follow v after =
    if is_seen_inside v.quantity then (if after then all_must_be_last v.name.place else Ok false) else Ok true

-- no variable of another kind stands after one that speaks of all candidates; whether the last one does
unfoldable pub all_last : List Variable → Bool → Judged Bool
all_last [] after = Ok after
all_last (v ∷ vs) after = may_follow v after >>= all_last vs

-- whether candidates of this type are of the other
abbrev pub are_of : Option Shape → Shape → Bool
are_of (Some u) t = alike u t
are_of None t = false

-- how a variable is quantified, in the checked tree
abbrev pub checked : Quantity → core.Quantity
checked quantities.«Some» = core.some
checked quantities.Each = core.each
checked quantities.All = core.all

-- a variable of the checked tree, and the blocks that have its name
pub record Based : Type 0 where
  pub variable : core.Quantified
  pub blocks : List Block

-- what a variable's candidates are made of, where the variables before it are seen. This was judged before, as a part
-- of the condition.
abbrev pub judge_base : List Block → Variable → BoundForm → Judged Based
judge_base blocks v b = do
  n ← judge_exp blocks false None b.base
  _ ← unless (are_of (candidate_type b.slice (type_of n)) v.type) (wrong_type v.name.place)
  next ← bind v blocks
  Ok (record {
    variable = record { quantity = checked v.quantity; local = v.local; base = n; slice = b.slice };
    blocks = next;
  })

-- the same of all variables, in order
unfoldable pub judge_bases : List Block → List Variable → List BoundForm → Judged (List core.Quantified)
judge_bases blocks [] bs = Ok []
judge_bases blocks (v ∷ vs) [] = unbounded v.name
judge_bases blocks (v ∷ vs) (b ∷ bs) = do
  first ← judge_base blocks v b
  rest ← judge_bases first.blocks vs bs
  Ok (first.variable ∷ rest)

-- the variables as they are in the checked tree, by their rules: each has a bound, and those that speak of all
-- candidates come last
abbrev pub quantify : Scene → List Variable → Exp → Judged (List core.Quantified)
quantify s vs c = do
  bs ← all_bounded vs (bounds_of (names_of vs) c)
  _ ← all_last vs false
  judge_bases ([] ∷ s.blocks) vs bs
