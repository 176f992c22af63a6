-- Statements are judged the same in two lists of blocks in which each name stands for the same.
use Rattle.std.proofs.Common.{◌≡◌, Bool, true, false, List, [], ◌∷◌, ◌++◌, length, Option, Some, None, refl, ap, subst}
use Rattle.std.specs.Prelude.{if◌then◌else◌, Ok, Err}
use Rattle.std.specs.Option.{option_or}
use Rattle.sz_types.specs.Data.{Shape}
use Rattle.sz_types.specs.Tables.{Declaration}
use Rattle.sz_types.specs.declared.place.Place.{Place}
use Rattle.sz_types.specs.declared.operator.BinOp.{BinOp}
use Rattle.sz_types.specs.declared.operator.BinOp.TheVariants.{Add, Sub}
use Rattle.sz_types.specs.Rows.{sum_row, difference_row}
use Rattle.sz_tree.specs.declared.stmt.Quantity.{Quantity}
use Rattle.sz_tree.specs.Names.{Ident}
use Rattle.sz_tree.specs.Expressions.{Exp, Exps}
use Rattle.sz_tree.specs.Expressions as exps
use Rattle.sz_tree.specs.Statements.{StepForm, PathForm, SimpleForm, FirstForm, QuantifierForm, Stm, Stms}
use Rattle.sz_tree.specs.Statements as trees
use Rattle.sz_tree.specs.Types.{Typ}
use Rattle.sz_core.specs.Nodes.{Node, type_of}
use Rattle.sz_core.specs.Statements as core
use Rattle.sz_check_rules.specs.Refusals.{Refusal, Judged, ◌>>=◌, declared_twice, unless}
use Rattle.sz_check_rules.specs.Names.{Block, Meaning, meaning_in, has, declare, variable, quantified}
use Rattle.sz_check_rules.specs.Agreeing.{agrees, in_turn, converted}
use Rattle.sz_check_rules.specs.JudgingOperators.{test}
use Rattle.sz_check_rules.specs.Scene.{Scene, with_variable, with_quantified}
use Rattle.sz_check_rules.specs.Scenes.{Later, AllAfter, judge_if_some}
use Rattle.sz_check_rules.specs.JudgingPaths.{Target, judge_path, judge_step, judge_steps, target_of, indexed, assignable}
use Rattle.sz_check_rules.specs.JudgingSimple.{judge_declaration, judge_initialised, judge_definition, judge_change, judge_simple, judge_first}
use Rattle.sz_check_rules.specs.JudgingSimple.{judge_between, judge_return, judge_emitted, judge_emit, emitted_fits, table_named, done}
use Rattle.sz_check_rules.specs.Quantifying.{Variable, Declared, Front, Based, judge_names, judge_quantifiers, judge_front, bind}
use Rattle.sz_check_rules.specs.Quantifying.{bind_inside, in_bound, all_bounded, all_last, names_of, judge_base, judge_bases, are_of}
use Rattle.sz_check_rules.specs.EmittingTrees.{is_seen_inside}
use Rattle.sz_check_rules.specs.JudgingStatements.{in_block, turns_of, judge_for, judge_quantified}
use Rattle.sz_quant.specs.Fitting.{BoundForm, bounds_of}
use Rattle.sz_core.specs.Sound.{candidate_type}
use Rattle.sz_check_rules.proofs.Holds.{good, bad}
use Rattle.sz_check_rules.proofs.SameNames.{Same, look_same, type_same, exp_same, exps_same}

-- ---- two judgements

-- both judge, and their results are in the relation, or both refuse for the same
abbrev BothSo : {A B : Type 0} → (A → B → Type 0) → Judged A → Judged B → Type 0
BothSo R (Ok x) (Ok y) = R x y
BothSo R (Err r) (Err q) = r ≡ q
BothSo R _ _ = ⊥

pub record Agree {A B : Type 0} (R : A → B → Type 0) (m : Judged A) (n : Judged B) : Type 0 where
  pub so : BothSo R m n

pub agree_ok : {A B : Type 0} (R : A → B → Type 0) (x : A) (y : B) → R x y → Agree R (good x) (good y)
agree_ok R x y h = record { so = h }

pub agree_err : {A B : Type 0} (R : A → B → Type 0) (r : Refusal) → Agree R (bad {A = A} r) (bad {A = B} r)
agree_err R r = record { so = refl }

-- so is what goes on after them
pub agree_bind : {A B C D : Type 0} {R : A → B → Type 0} {S : C → D → Type 0} {m : Judged A} {n : Judged B}
    {f : A → Judged C} {g : B → Judged D}
    → Agree R m n → ((x : A) (y : B) → R x y → Agree S (f x) (g y)) → Agree S (m >>= f) (n >>= g)
agree_bind {m = Ok x} {n = Ok y} h k = k x y h.so
agree_bind {m = Ok x} {n = Err q} h k = absurd h.so
agree_bind {m = Err r} {n = Ok y} h k = absurd h.so
agree_bind {m = Err r} {n = Err q} h k = record { so = h.so }

-- the same judgement
pub agree_same : {A C D : Type 0} {S : C → D → Type 0} {f : A → Judged C} {g : A → Judged D} (m : Judged A)
    → ((x : A) → Agree S (f x) (g x)) → Agree S (m >>= f) (m >>= g)
agree_same (Ok x) k = k x
agree_same (Err r) k = agree_err _ r

-- after the same judgement
pub same_bind : {A C D : Type 0} {S : C → D → Type 0} {m n : Judged A} {f : A → Judged C} {g : A → Judged D}
    → m ≡ n → ((x : A) → Agree S (f x) (g x)) → Agree S (m >>= f) (n >>= g)
same_bind {S = S} {m = m} {f = f} {g = g} e k = subst (λ j. Agree S (m >>= f) (j >>= g)) e (agree_same m k)

-- the same after the same
pub then_same : {A B : Type 0} {m n : Judged A} (f : A → Judged B) → m ≡ n → (m >>= f) ≡ (n >>= f)
then_same f e = ap (λ j. j >>= f) e

-- ---- scenes

-- the scene of these blocks and variables, and the result of a statement there
abbrev pub scene : List Block → List Shape → Scene
scene blocks locals = record { blocks = blocks; locals = locals }

abbrev pub later : List Block → List Shape → core.Stm → Later
later blocks locals m = record { scene = scene blocks locals; stm = m }

module _ (bs cs : List Block) where
  -- two results with these blocks, and else the same
  pub record Quiet (l k : Later) : Type 0 where
    pub locals : List Shape
    pub stm : core.Stm
    pub first : l ≡ later bs locals stm
    pub second : k ≡ later cs locals stm

  -- two scenes in which the same block stands in front of these
  pub record Fronts (s u : Scene) : Type 0 where
    pub front : Block
    pub locals : List Shape
    pub first : s ≡ scene (front ∷ bs) locals
    pub second : u ≡ scene (front ∷ cs) locals

  -- two results, so
  pub record Ahead (l k : Later) : Type 0 where
    pub front : Block
    pub locals : List Shape
    pub stm : core.Stm
    pub first : l ≡ later (front ∷ bs) locals stm
    pub second : k ≡ later (front ∷ cs) locals stm

  pub record AllAhead (l k : AllAfter) : Type 0 where
    pub front : Block
    pub locals : List Shape
    pub stms : core.Stms
    pub first : l ≡ record { scene = scene (front ∷ bs) locals; stms = stms }
    pub second : k ≡ record { scene = scene (front ∷ cs) locals; stms = stms }

  -- two lists of blocks, so
  pub record Heads (xs ys : List Block) : Type 0 where
    pub front : Block
    pub first : xs ≡ front ∷ bs
    pub second : ys ≡ front ∷ cs

-- the same block in front
pub same_ahead : (front : Block) (bs cs : List Block) → Same bs cs → Same (front ∷ bs) (front ∷ cs)
same_ahead front bs cs same name = ap (option_or (meaning_in name front)) (same name)

-- a name more in that block
pub declare_ahead : (bs cs : List Block) (front : Block) (n : Ident) (m : Meaning)
    → Agree (Heads bs cs) (declare n m (front ∷ bs)) (declare n m (front ∷ cs))
declare_ahead bs cs front n m = by (has n.text front)
  where
    by : (b : Bool) → Agree (Heads bs cs)
        (if b then declared_twice n else Ok ((record { name = n.text; meaning = m } ∷ front) ∷ bs))
        (if b then declared_twice n else Ok ((record { name = n.text; meaning = m } ∷ front) ∷ cs))
    by true = agree_err _ _
    by false = agree_ok (Heads bs cs) _ _
        (record { front = record { name = n.text; meaning = m } ∷ front; first = refl; second = refl })

pub variable_ahead : (bs cs : List Block) (front : Block) (locals : List Shape) (n : Ident) (t : Shape)
    → Agree (Fronts bs cs) (with_variable n t (scene (front ∷ bs) locals)) (with_variable n t (scene (front ∷ cs) locals))
variable_ahead bs cs front locals n t =
    agree_bind (declare_ahead bs cs front n (variable (length locals) t)) (λ xs ys r. rw (r.first, r.second) (
    agree_ok (Fronts bs cs) _ _ (record { front = r.front; locals = locals ++ t ∷ []; first = refl; second = refl })))

pub quantified_ahead : (bs cs : List Block) (front : Block) (locals : List Shape) (n : Ident) (t : Shape)
    → Agree (Fronts bs cs) (with_quantified n t (scene (front ∷ bs) locals)) (with_quantified n t (scene (front ∷ cs) locals))
quantified_ahead bs cs front locals n t =
    agree_bind (declare_ahead bs cs front n (quantified (length locals) t)) (λ xs ys r. rw (r.first, r.second) (
    agree_ok (Fronts bs cs) _ _ (record { front = r.front; locals = locals ++ t ∷ []; first = refl; second = refl })))

-- ---- statements without statements in them

module _ (bs cs : List Block) (same : Same bs cs) (locals : List Shape) where
  if_some_same : (asked : Option Shape) (e : Option Exp)
      → judge_if_some (scene bs locals) asked e ≡ judge_if_some (scene cs locals) asked e
  if_some_same asked None = refl
  if_some_same asked (Some e) = λ i. exp_same bs cs same true asked e i >>= λ n. Ok (Some n)

  step_same : (p : Place) (t : Target) (step : StepForm)
      → judge_step (scene bs locals) p t step ≡ judge_step (scene cs locals) p t step
  step_same p t (trees.at_index e) = λ i. exp_same bs cs same true None e i >>= λ n. indexed p t t.type e n
  step_same p t (trees.at_field f) = refl

  steps_same : (p : Place) (t : Target) (steps : List StepForm)
      → judge_steps (scene bs locals) p t steps ≡ judge_steps (scene cs locals) p t steps
  unfolding judge_steps
  steps_same p t [] = refl
  steps_same p t (step ∷ steps) = λ i. step_same p t step i >>= λ next. steps_same p next steps i

  path_same : (path : PathForm) → judge_path (scene bs locals) path ≡ judge_path (scene cs locals) path
  path_same path = λ i. look_same bs cs same path.name i >>= λ m. target_of path.name m
      >>= λ begin. steps_same path.name.place begin path.steps i >>= λ t. assignable path.name t

  change_same : (n : Ident) (o : BinOp) (row : Shape → Shape → Option Shape)
      → judge_change (scene bs locals) n o row ≡ judge_change (scene cs locals) n o row
  change_same n o row = then_same _ (path_same (record { name = n; steps = [] }))

  pub simple_same : (t : SimpleForm) → judge_simple (scene bs locals) t ≡ judge_simple (scene cs locals) t
  simple_same (trees.assign path e) = λ i. path_same path i >>= λ t. exp_same bs cs same true (Some t.type) e i
      >>= λ value. agrees (Some t.type) e value >>= λ u. Ok (core.store path.name.place t.local t.steps value)
  simple_same (trees.increment n) = change_same n Add sum_row
  simple_same (trees.decrement n) = change_same n Sub difference_row
  simple_same (trees.call_of n es) = λ i. exp_same bs cs same true None (exps.call n es) i >>= λ m. Ok (core.evaluate n.place m)

  between_same : (t : Option SimpleForm) → judge_between (scene bs locals) t ≡ judge_between (scene cs locals) t
  between_same None = refl
  between_same (Some t) = simple_same t

  pub return_same : (p : Place) (t : Option Shape) (e : Option Exp)
      → judge_return (scene bs locals) p t e ≡ judge_return (scene cs locals) p t e
  return_same p None None = refl
  return_same p None (Some e) = refl
  return_same p (Some t) None = refl
  return_same p (Some t) (Some e) = λ i. exp_same bs cs same true (Some t) e i >>= λ value. agrees (Some t) e value
      >>= λ u. Ok (core.return_value p value)

  pub emit_same : (p : Place) (n : Ident) (es : Exps) (e : Exp) (w : Option Exp)
      → judge_emit (scene bs locals) p n es e w ≡ judge_emit (scene cs locals) p n es e w
  emit_same p n es e w = λ i. look_same bs cs same n i >>= λ m. table_named n m >>= λ t. emitted t.declaration i
      >>= λ x. emitted_fits t.declaration p n.place es e w x >>= λ u. Ok (core.emit p t.number x.indexes x.value x.weight)
    where
      emitted : (d : Declaration) → judge_emitted (scene bs locals) d es e w ≡ judge_emitted (scene cs locals) d es e w
      emitted d = λ i. exps_same bs cs same true (in_turn d.indexes) es i
          >>= λ indexes. exp_same bs cs same true (Some d.element) e i >>= λ value. if_some_same d.weight w i
          >>= λ weight. Ok (record { indexes = indexes; value = value; weight = weight })

  pub done_same : (j k : Judged core.Stm) → j ≡ k → Agree (Quiet bs cs) (done (scene bs locals) j) (done (scene cs locals) k)
  done_same j k e =
      same_bind e (λ m. agree_ok (Quiet bs cs) _ _ (record { locals = locals; stm = m; first = refl; second = refl }))

-- ---- declarations

module _ (bs cs : List Block) (same : Same bs cs) (front : Block) (locals : List Shape) where
  -- a variable more after the same judgement
  ahead_with : (n : Ident) (t : Shape) (m : core.Stm)
      → Agree (Ahead bs cs)
      (with_variable n t (scene (front ∷ bs) locals) >>= λ after. good (record { scene = after; stm = m }))
      (with_variable n t (scene (front ∷ cs) locals) >>= λ after. good (record { scene = after; stm = m }))
  ahead_with n t m = agree_bind (variable_ahead bs cs front locals n t) (λ x y r. rw (r.first, r.second)
      (agree_ok (Ahead bs cs) _ _ (record { front = r.front; locals = r.locals; stm = m; first = refl; second = refl })))

  pub declaration_ahead : (n : Ident) (t : Typ)
      → Agree (Ahead bs cs) (judge_declaration (scene (front ∷ bs) locals) n t)
      (judge_declaration (scene (front ∷ cs) locals) n t)
  declaration_ahead n t =
      same_bind (type_same _ _ (same_ahead front bs cs same) t) (λ u. ahead_with n u (core.clear (length locals)))

  pub initialised_ahead : (n : Ident) (t : Typ) (e : Exp)
      → Agree (Ahead bs cs) (judge_initialised (scene (front ∷ bs) locals) n t e)
      (judge_initialised (scene (front ∷ cs) locals) n t e)
  initialised_ahead n t e = same_bind (type_same _ _ (same_ahead front bs cs same) t) (λ u.
      same_bind (exp_same _ _ (same_ahead front bs cs same) true (Some u) e) (λ m.
      agree_same (converted u e m) (λ value. ahead_with n u (core.keep n.place (length locals) value))))

  pub definition_ahead : (n : Ident) (e : Exp)
      → Agree (Ahead bs cs) (judge_definition (scene (front ∷ bs) locals) n e)
      (judge_definition (scene (front ∷ cs) locals) n e)
  definition_ahead n e = same_bind (exp_same _ _ (same_ahead front bs cs same) true None e) (λ value.
      ahead_with n (type_of value) (core.keep n.place (length locals) value))

  pub first_ahead : (f : Option FirstForm)
      → Agree (Ahead bs cs) (judge_first (scene (front ∷ bs) locals) f) (judge_first (scene (front ∷ cs) locals) f)
  first_ahead None = agree_ok (Ahead bs cs) _ _
      (record { front = front; locals = locals; stm = core.nothing; first = refl; second = refl })
  first_ahead (Some (trees.first_declare n t e)) = initialised_ahead n t e
  first_ahead (Some (trees.first_define n e)) = definition_ahead n e
  first_ahead (Some (trees.first_simple t)) =
      same_bind (simple_same (front ∷ bs) (front ∷ cs) (same_ahead front bs cs same) locals t) (λ m.
      agree_ok (Ahead bs cs) _ _ (record { front = front; locals = locals; stm = m; first = refl; second = refl }))

-- ---- statements around others

-- a part in a block of its own
pub inside_quiet : (bs cs : List Block) (locals : List Shape) (m n : Judged Later) → Agree (Ahead bs cs) m n
    → Agree (Quiet bs cs) (in_block (scene bs locals) m) (in_block (scene cs locals) n)
inside_quiet bs cs locals m n h = agree_bind h (λ x y r. rw (r.first, r.second)
    (agree_ok (Quiet bs cs) _ _ (record { locals = r.locals; stm = r.stm; first = refl; second = refl })))

module _ (bs cs : List Block) (same : Same bs cs) where
  turns_quiet : (locals : List Shape) (p : Place) (c : Option Exp) (between : Option SimpleForm)
      (judging : Scene → Judged Later) → Agree (Quiet bs cs) (judging (scene bs locals)) (judging (scene cs locals))
      → Agree (Quiet bs cs) (turns_of (scene bs locals) p c between judging) (turns_of (scene cs locals) p c between judging)
  turns_quiet locals p c between judging h = same_bind (if_some_same bs cs same locals None c) (λ n.
      same_bind (between_same bs cs same locals between) (λ step.
      agree_bind h (λ x y r. rw (r.first, r.second) (done_same bs cs same r.locals _ _ refl))))

pub for_quiet : (bs cs : List Block) (same : Same bs cs) (locals : List Shape) (p : Place) (f : Option FirstForm)
    (c : Option Exp) (between : Option SimpleForm) (judging : Scene → Judged Later)
    → ((front : Block) (ls : List Shape)
    → Agree (Quiet (front ∷ bs) (front ∷ cs)) (judging (scene (front ∷ bs) ls)) (judging (scene (front ∷ cs) ls)))
    → Agree (Quiet bs cs) (judge_for (scene bs locals) p f c between judging)
    (judge_for (scene cs locals) p f c between judging)
for_quiet bs cs same locals p f c between judging h =
    agree_bind (first_ahead bs cs same [] locals f) (λ x y r. rw (r.first, r.second)
    (agree_bind (turns_quiet (r.front ∷ bs) (r.front ∷ cs)
    (same_ahead r.front bs cs same) r.locals p c between judging (h r.front r.locals)) (λ v w q.
    rw (q.first, q.second) (agree_ok (Quiet bs cs) _ _
    (record { locals = q.locals; stm = core.block (core.stms_of (r.stm ∷ q.stm ∷ [])); first = refl; second = refl })))))

-- ---- the variables of a `when`

module _ (bs cs : List Block) where
  record DeclaredSo (d e : Declared) : Type 0 where
    pub front : Block
    pub locals : List Shape
    pub variables : List Variable
    pub first : d ≡ record { scene = scene (front ∷ bs) locals; variables = variables }
    pub second : e ≡ record { scene = scene (front ∷ cs) locals; variables = variables }

  record FrontSo (f g : Front) : Type 0 where
    pub locals : List Shape
    pub variables : List Variable
    pub condition : Node
    pub first : f ≡ record { scene = scene bs locals; variables = variables; condition = condition }
    pub second : g ≡ record { scene = scene cs locals; variables = variables; condition = condition }

  record BasedSo (b c : Based) : Type 0 where
    pub front : Block
    pub variable : core.Quantified
    pub first : b ≡ record { variable = variable; blocks = front ∷ bs }
    pub second : c ≡ record { variable = variable; blocks = front ∷ cs }

  names_so : (q : Quantity) (t : Shape) (ns : List Ident) (front : Block) (locals : List Shape) (vs : List Variable)
      → Agree DeclaredSo (judge_names q t ns (record { scene = scene (front ∷ bs) locals; variables = vs }))
      (judge_names q t ns (record { scene = scene (front ∷ cs) locals; variables = vs }))
  unfolding judge_names
  names_so q t [] front locals vs =
      agree_ok DeclaredSo _ _ (record { front = front; locals = locals; variables = vs; first = refl; second = refl })
  names_so q t (n ∷ ns) front locals vs = agree_bind (quantified_ahead bs cs front locals n t) (λ x y r. rw (r.first, r.second)
      (names_so q t ns r.front r.locals (vs ++ record { name = n; quantity = q; local = length locals; type = t } ∷ [])))

  module _ (same : Same bs cs) where
    quantifiers_so : (qs : List QuantifierForm) (front : Block) (locals : List Shape) (vs : List Variable)
        → Agree DeclaredSo (judge_quantifiers qs (record { scene = scene (front ∷ bs) locals; variables = vs }))
        (judge_quantifiers qs (record { scene = scene (front ∷ cs) locals; variables = vs }))
    unfolding judge_quantifiers
    quantifiers_so [] front locals vs = agree_ok DeclaredSo _ _
        (record { front = front; locals = locals; variables = vs; first = refl; second = refl })
    quantifiers_so (q ∷ qs) front locals vs = agree_bind
        (same_bind (type_same _ _ (same_ahead front bs cs same) q.of) (λ t. names_so q.quantity t q.names front locals vs))
        (λ x y r. rw (r.first, r.second) (quantifiers_so qs r.front r.locals r.variables))

    front_so : (locals : List Shape) (qs : List QuantifierForm) (c : Exp)
        → Agree FrontSo (judge_front (scene bs locals) qs c) (judge_front (scene cs locals) qs c)
    front_so locals qs c = agree_bind (quantifiers_so qs [] locals []) (λ x y r. rw (r.first, r.second)
        (same_bind (exp_same _ _ (same_ahead r.front bs cs same) false None c) (λ n.
        agree_ok FrontSo _ _
        (record { locals = r.locals; variables = r.variables; condition = n; first = refl; second = refl }))))

    base_so : (v : Variable) (b : BoundForm) (front : Block)
        → Agree BasedSo (judge_base (front ∷ bs) v b) (judge_base (front ∷ cs) v b)
    base_so v b front = same_bind (exp_same _ _ (same_ahead front bs cs same) false None b.base) (λ n.
        agree_same (unless (are_of (candidate_type b.slice (type_of n)) v.type) _) (λ u.
        agree_bind (declare_ahead bs cs front v.name (quantified v.local v.type)) (λ x y r. rw (r.first, r.second)
        (agree_ok BasedSo _ _ (record { front = r.front; variable = _; first = refl; second = refl })))))

    bases_so : (vs : List Variable) (ks : List BoundForm) (front : Block)
        → Agree (λ x y. x ≡ y) (judge_bases (front ∷ bs) vs ks) (judge_bases (front ∷ cs) vs ks)
    unfolding judge_bases
    bases_so [] ks front = agree_ok _ _ _ refl
    bases_so (v ∷ vs) [] front = agree_err _ _
    bases_so (v ∷ vs) (b ∷ ks) front = agree_bind (base_so v b front) (λ x y r. rw (r.first, r.second)
        (agree_bind (bases_so vs ks r.front) (λ xs ys e. rw e (agree_ok _ _ _ refl))))

  bound_so : (vs : List Variable) (front : Block)
      → Agree (Heads bs cs) (bind_inside vs (front ∷ bs)) (bind_inside vs (front ∷ cs))
  unfolding bind_inside
  bound_so [] front = agree_ok (Heads bs cs) _ _ (record { front = front; first = refl; second = refl })
  bound_so (v ∷ vs) front = by (is_seen_inside v.quantity) (λ next. bound_so vs next)
    where
      by : (b : Bool) → ((next : Block) → Agree (Heads bs cs) (bind_inside vs (next ∷ bs)) (bind_inside vs (next ∷ cs)))
          → Agree (Heads bs cs) (if b then (bind v (front ∷ bs) >>= bind_inside vs) else bind_inside vs (front ∷ bs))
          (if b then (bind v (front ∷ cs) >>= bind_inside vs) else bind_inside vs (front ∷ cs))
      by true rest = agree_bind (declare_ahead bs cs front v.name (quantified v.local v.type))
          (λ x y r. rw (r.first, r.second) (rest r.front))
      by false rest = rest front

in_bound_quiet : (bs cs : List Block) (locals : List Shape) (vs : List Variable) (judging : Scene → Judged Later)
    → ((front : Block) (ls : List Shape)
    → Agree (Quiet (front ∷ bs) (front ∷ cs)) (judging (scene (front ∷ bs) ls)) (judging (scene (front ∷ cs) ls)))
    → Agree (Quiet bs cs) (in_bound (scene bs locals) vs judging) (in_bound (scene cs locals) vs judging)
in_bound_quiet bs cs locals vs judging h = agree_bind {R = Fronts bs cs}
    (agree_bind (bound_so bs cs vs []) (λ x y r. rw (r.first, r.second)
    (agree_ok (Fronts bs cs) _ _ (record { front = r.front; locals = locals; first = refl; second = refl }))))
    (λ x y r. rw (r.first, r.second) (agree_bind (h r.front r.locals) (λ v w q. rw (q.first, q.second)
    (agree_ok (Quiet bs cs) _ _ (record { locals = q.locals; stm = q.stm; first = refl; second = refl })))))

-- a `when`, by how the statement inside is judged
abbrev pub when_by : Scene → Place → List QuantifierForm → Exp → (Scene → Judged Later) → Judged Later
when_by s p qs c judging =
    judge_front s qs c >>= λ front. in_bound front.scene front.variables judging
    >>= λ body. judge_quantified body.scene front.variables c front.condition
    >>= λ vs. Ok (record { scene = body.scene; stm = core.when p vs front.condition body.stm })

pub when_quiet : (bs cs : List Block) (same : Same bs cs) (locals : List Shape) (p : Place) (qs : List QuantifierForm) (c : Exp)
    (judging : Scene → Judged Later)
    → ((front : Block) (ls : List Shape)
    → Agree (Quiet (front ∷ bs) (front ∷ cs)) (judging (scene (front ∷ bs) ls)) (judging (scene (front ∷ cs) ls)))
    → Agree (Quiet bs cs) (when_by (scene bs locals) p qs c judging) (when_by (scene cs locals) p qs c judging)
when_quiet bs cs same locals p qs c judging h = agree_bind (front_so bs cs same locals qs c) (λ x y r. rw (r.first, r.second)
    (agree_bind (in_bound_quiet bs cs r.locals r.variables judging h) (λ v w q. rw (q.first, q.second)
    (agree_bind {R = λ ks ls. ks ≡ ls} (agree_same (test c r.condition) (λ u.
    agree_same (all_bounded r.variables (bounds_of (names_of r.variables) c)) (λ ks.
    agree_same (all_last r.variables false) (λ last. bases_so bs cs same r.variables ks [])))) (λ ks ls e. rw e
    (agree_ok (Quiet bs cs) _ _
    (record { locals = q.locals; stm = core.when p ls r.condition q.stm; first = refl; second = refl })))))))
