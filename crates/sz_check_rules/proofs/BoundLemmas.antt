-- What is seen where the variables of a `when` are bound.
use Rattle.std.proofs.Common.{◌≡◌, ℕ, zero, suc, ◌+◌, ◌≤◌, ◌<◌, Bool, true, false, List, [], ◌∷◌, ◌++◌, length, Option, Some, None, refl, sym, ap, ◌∙◌, subst}
use Rattle.std.proofs.Common.{arith}
use Rattle.std.proofs.Common.{true≢false, append_assoc, append-nil}
use Rattle.std.specs.Prelude.{◌&&◌, not, slice_get, slice_index_or, filter, if◌then◌else◌, Ok}
use Rattle.std.specs.List.{Contains}
use Rattle.std.proofs.lemmas.List.{length-append}
use Rattle.std.proofs.lemmas.List.Elements.{Contains-append_right}
use Rattle.sz_types.specs.Data.{Shape}
use Rattle.sz_types.proofs.ForCallers.{alike_equal}
use Rattle.sz_tree.specs.declared.stmt.Quantity.{Quantity}
use Rattle.sz_tree.specs.declared.stmt.Quantity.TheVariants as quantities
use Rattle.sz_tree.specs.Names.{Ident}
use Rattle.sz_tree.specs.Statements.{QuantifierForm}
use Rattle.sz_quant.specs.Fitting.{BoundForm}
use Rattle.sz_core.specs.Nodes.{Node, type_of}
use Rattle.sz_core.specs.Statements as core
use Rattle.sz_core.specs.Typing.{Sight, IsNode, HasOwnType}
use Rattle.sz_core.specs.Sound.{BeginsWith, candidate_type, with_all_bound, bound_inside, is_for_all, are_for_all, is_all_last, AreQuantified}
use Rattle.sz_check_rules.specs.Refusals.{◌>>=◌, all_must_be_last}
use Rattle.sz_check_rules.specs.Names.{Block, quantified, declare}
use Rattle.sz_check_rules.specs.JudgingTypes.{judge_type}
use Rattle.sz_check_rules.specs.Scene.{Scene, with_quantified}
use Rattle.sz_check_rules.specs.JudgingExpressions.{judge_exp}
use Rattle.sz_check_rules.specs.EmittingTrees.{is_seen_inside}
use Rattle.sz_check_rules.specs.Quantifying.{Variable, Declared, judge_names, judge_quantifier, judge_quantifiers, bind, bind_inside, all_last}
use Rattle.sz_check_rules.specs.Quantifying.{are_of, checked}
use Rattle.sz_check_rules.specs.Quantifying.{Based, judge_base, judge_bases}
use Rattle.sz_core.proofs.ForCallers.{some_has, formed_at}
use Rattle.sz_check_rules.proofs.Holds.{Holds, ok_holds, err_holds, bind_holds, known, weaker, unless_holds, both_hold}
use Rattle.sz_check_rules.proofs.Meanings.{declared}
use Rattle.sz_check_rules.proofs.Sights.{IsFormed, AreFormed, IsReadable, Fits, AllFit, IsWider, all_fit_wider}
use Rattle.sz_check_rules.proofs.TypeSound.{type_formed}
use Rattle.sz_check_rules.proofs.AgreeLemmas.{IsTyped}
use Rattle.sz_check_rules.proofs.ExpressionSound.{expression_typed}
use Rattle.sz_check_rules.proofs.OwnTypes.{takes_own}
use Rattle.sz_check_rules.proofs.SceneLemmas.{begins_itself, begins_more, begins_on, get_before, get_next, formed_more, AreBelow, below_more, is_none}

-- ---- a variable more

-- what is seen, with a variable that nothing assigns
abbrev pub with_fixed : ℕ → Sight → Sight
with_fixed n g = record g { seen = n ∷ g.seen; fixed = n ∷ g.fixed }

-- so with several, in order
abbrev pub bound : List Variable → Sight → Sight
bound [] g = g
bound (v ∷ vs) g = bound vs (with_fixed v.local g)

pub bound_locals : (vs : List Variable) (g : Sight) → (bound vs g).locals ≡ g.locals
bound_locals [] g = refl
bound_locals (v ∷ vs) g = bound_locals vs (with_fixed v.local g)

pub bound_emits : (vs : List Variable) (g : Sight) → (bound vs g).may_emit ≡ g.may_emit
bound_emits [] g = refl
bound_emits (v ∷ vs) g = bound_emits vs (with_fixed v.local g)

bound_append : (vs ws : List Variable) (g : Sight) → bound (vs ++ ws) g ≡ bound ws (bound vs g)
bound_append [] ws g = refl
bound_append (v ∷ vs) ws g = bound_append vs ws (with_fixed v.local g)

-- what can be assigned among what was seen can be so where a variable is bound that wasn't
still_free : (v : ℕ) (seen fixed : List ℕ) → (Contains seen v → ⊥) → (n : ℕ) → Contains seen n → Contains (v ∷ fixed) n → Contains fixed n
still_free v seen fixed fresh n s c = at c.0 c.1 c.2
  where
    at : (k : ℕ) → k < length (v ∷ fixed) → slice_index_or (v ∷ fixed) k n ≡ n → Contains fixed n
    at zero within is = absurd (fresh (subst (Contains seen) (sym is) s))
    at (suc k) within is = (k, omega (arith, within), is)

wider_bound : (v : ℕ) (g : Sight) → (Contains g.seen v → ⊥) → IsWider g (with_fixed v g)
wider_bound v g fresh = record {
  seen = λ k c. Contains-append_right (v ∷ []) g.seen k c;
  locals = λ k t e. e;
  statics = λ k t e. e;
  functions = λ k f e. e;
  tables = λ k d e. e;
  input = refl;
  free = still_free v g.seen g.fixed fresh;
}

-- a variable of these has its type
abbrev pub HasLocal : List Shape → Variable → Type 0
HasLocal locals v = slice_get locals v.local ≡ Some v.type

abbrev pub HaveLocals : List Shape → List Variable → Type 0
HaveLocals locals [] = Unit {0}
HaveLocals locals (v ∷ vs) = HasLocal locals v × HaveLocals locals vs

-- the numbers of the variables rise, from the first number on and below the second
abbrev pub Rise : ℕ → ℕ → List Variable → Type 0
Rise least most [] = least ≤ most
Rise least most (v ∷ vs) = (least ≤ v.local) × (v.local < most) × Rise (suc v.local) most vs

rise_from : (a b c : ℕ) (vs : List Variable) → a ≤ b → Rise b c vs → Rise a c vs
rise_from a b c [] h k = omega (arith, h, k)
rise_from a b c (v ∷ vs) h k = (omega (arith, h, k.0), k.1, k.2)

rise_length : (a b : ℕ) (vs : List Variable) → Rise a b vs → a ≤ b
rise_length a b [] h = h
rise_length a b (v ∷ vs) h = omega (arith, h.0, h.1)

rise_append : (a b c : ℕ) (vs ws : List Variable) → Rise a b vs → Rise b c ws → Rise a c (vs ++ ws)
rise_append a b c [] ws h k = rise_from a b c ws h k
rise_append a b c (v ∷ vs) ws h k =
    (h.0, omega (arith, h.1, rise_length b c ws k), rise_append (suc v.local) b c vs ws h.2 k)

have_append : (locals : List Shape) (vs ws : List Variable) → HaveLocals locals vs → HaveLocals locals ws → HaveLocals locals (vs ++ ws)
have_append locals [] ws h k = k
have_append locals (v ∷ vs) ws h k = (h.0, have_append locals vs ws h.1 k)

get_on : (a b : List Shape) (n : ℕ) (t : Shape) → BeginsWith a b → slice_get a n ≡ Some t → slice_get b n ≡ Some t
get_on a b n t h k = ap (λ (xs : List Shape). slice_get xs n) h.1 ∙ get_before a h.0 n t k

have_on : (a b : List Shape) (vs : List Variable) → BeginsWith a b → HaveLocals a vs → HaveLocals b vs
have_on a b [] h k = tt
have_on a b (v ∷ vs) h k = (get_on a b v.local v.type h k.0, have_on a b vs h k.1)

-- those that the statement inside sees
abbrev pub inside : List Variable → List Variable
inside vs = filter (λ (v : Variable). is_seen_inside v.quantity) vs

pub rise_inside : (a b : ℕ) (vs : List Variable) → Rise a b vs → Rise a b (inside vs)
rise_inside a b [] h = h
rise_inside a b (v ∷ vs) h = by (is_seen_inside v.quantity) (rise_inside (suc v.local) b vs h.2)
  where
    by : (c : Bool) → Rise (suc v.local) b (inside vs) → Rise a b (if c then v ∷ inside vs else inside vs)
    by true rest = (h.0, h.1, rest)
    by false rest = rise_from a (suc v.local) b (inside vs) (omega (arith, h.0)) rest

-- the numbers of what is bound are below the second
pub bound_below : (a b : ℕ) (vs : List Variable) (g : Sight) → Rise a b vs → AreBelow b g.seen → AreBelow b (bound vs g).seen
bound_below a b [] g h k = k
bound_below a b (v ∷ vs) g h k = bound_below (suc v.local) b vs (with_fixed v.local g) h.2 (h.1, k)

pub bound_fixed : (a b : ℕ) (vs : List Variable) (g : Sight) → Rise a b vs → AreBelow b g.fixed → AreBelow b (bound vs g).fixed
bound_fixed a b [] g h k = k
bound_fixed a b (v ∷ vs) g h k = bound_fixed (suc v.local) b vs (with_fixed v.local g) h.2 (h.1, k)

-- ---- variables under their names

-- a variable with a number that isn't seen yet
one_bound : (locals : List Shape) (g : Sight) (v : Variable) (blocks : List Block) → AreFormed locals
    → BeginsWith locals g.locals → HasLocal locals v
    → AreBelow v.local g.seen → AllFit g blocks → Holds (bind v blocks) (AllFit (with_fixed v.local g))
one_bound locals g v blocks formed begins here below fit =
    let more = with_fixed v.local g in
    let is : IsReadable more v.local v.type = record {
      seen = (0, omega arith, refl);
      here = get_on locals g.locals v.local v.type begins here;
      formed = some_has IsFormed (formed_at locals v.local formed) here;
    } in
    declared (Fits more) v.name (quantified v.local v.type) blocks is
    (all_fit_wider g more blocks (wider_bound v.local g (is_none v.local g.seen below)) fit)

-- those that the statement inside sees
pub inside_bound : (locals : List Shape) (a b : ℕ) (g : Sight) (vs : List Variable) (blocks : List Block)
    → AreFormed locals → BeginsWith locals g.locals → HaveLocals locals vs → Rise a b vs → AreBelow a g.seen
    → AllFit g blocks → Holds (bind_inside vs blocks) (AllFit (bound (inside vs) g))
unfolding bind_inside
inside_bound locals a b g [] blocks formed begins have rise below fit = ok_holds (AllFit g) blocks fit
inside_bound locals a b g (v ∷ vs) blocks formed begins have rise below fit =
    by (is_seen_inside v.quantity) (λ h bs. inside_bound locals (suc v.local) b h vs bs formed)
  where
    next_below : AreBelow (suc v.local) g.seen
    next_below = below_more a (suc v.local) g.seen (omega (arith, rise.0)) below

    by : (c : Bool)
        → ((h : Sight) (bs : List Block) → BeginsWith locals h.locals → HaveLocals locals vs → Rise (suc v.local) b vs
        → AreBelow (suc v.local) h.seen → AllFit h bs → Holds (bind_inside vs bs) (AllFit (bound (inside vs) h)))
        → Holds (if c then (bind v blocks >>= bind_inside vs) else bind_inside vs blocks)
        (AllFit (bound (if c then v ∷ inside vs else inside vs) g))
    by true rest = bind_holds (one_bound locals g v blocks formed begins have.0
        (below_more a v.local g.seen rise.0 below) fit) (λ next fits.
        rest (with_fixed v.local g) next begins have.1 rise.2 (omega arith, next_below) fits)
    by false rest = rest g blocks begins have.1 rise.2 next_below fit

-- ---- variables as they are declared

-- how variables were declared after others, where their types are well formed if something holds
pub record AreMade (P : Type 0) (d r : Declared) : Type 0 where
  pub news : List Variable
  pub variables : r.variables ≡ d.variables ++ news
  pub grows : BeginsWith d.scene.locals r.scene.locals
  pub rise : Rise (length d.scene.locals) (length r.scene.locals) news
  pub have : HaveLocals r.scene.locals news
  pub fits : P → (g : Sight) → AllFit g d.scene.blocks → AreFormed d.scene.locals → BeginsWith r.scene.locals g.locals
      → AreBelow (length d.scene.locals) g.seen → AllFit (bound news g) r.scene.blocks × AreFormed r.scene.locals

made_none : (P : Type 0) (d : Declared) → AreMade P d d
made_none P d = record {
  news = [];
  variables = sym (append-nil d.variables);
  grows = begins_itself d.scene.locals;
  rise = omega arith;
  have = tt;
  fits = λ p g fit formed begins below. (fit, formed);
}

made_on : (P : Type 0) (d e r : Declared) → AreMade P d e → AreMade P e r → AreMade P d r
made_on P d e r h k = record {
  news = h.news ++ k.news;
  variables = k.variables ∙ ap (λ vs. vs ++ k.news) h.variables ∙ append_assoc d.variables h.news k.news;
  grows = begins_on d.scene.locals e.scene.locals r.scene.locals h.grows k.grows;
  rise = rise_append (length d.scene.locals) (length e.scene.locals) (length r.scene.locals) h.news k.news h.rise k.rise;
  have = have_append r.scene.locals h.news k.news (have_on e.scene.locals r.scene.locals h.news k.grows h.have) k.have;
  fits = λ p g fit formed begins below.
      let first = h.fits p g fit formed (begins_on e.scene.locals r.scene.locals g.locals k.grows begins) below in
      let a = length d.scene.locals in
      let b = length e.scene.locals in
      let at = bound h.news g in
      let rest = k.fits p at first.0 first.1 (subst (BeginsWith r.scene.locals) (sym (bound_locals h.news g)) begins)
      (bound_below a b h.news g h.rise (below_more a b g.seen (rise_length a b h.news h.rise) below)) in
      (subst (λ x. AllFit x r.scene.blocks) (sym (bound_append h.news k.news g)) rest.0, rest.1);
}

-- a name more
abbrev with_name : Ident → Quantity → Shape → Scene → Declared → Declared
with_name n q t next d =
    record { scene = next; variables = d.variables ++ record { name = n; quantity = q; local = length d.scene.locals; type = t } ∷ [] }

name_made : (n : Ident) (q : Quantity) (t : Shape) (d : Declared)
    → Holds (with_quantified n t d.scene) (λ next. AreMade (IsFormed t) d (with_name n q t next d))
name_made n q t d = bind_holds (known (declare n (quantified (length d.scene.locals) t) d.scene.blocks)) (λ blocks is.
    let locals = d.scene.locals in
    let after : Scene = record { blocks = blocks; locals = locals ++ t ∷ [] } in
    let v : Variable = record { name = n; quantity = q; local = length locals; type = t } in
    let longer : length (locals ++ t ∷ []) ≡ length locals + 1 = length-append locals (t ∷ []) in
    let here : HasLocal (locals ++ t ∷ []) v = get_next locals (locals ++ t ∷ []) t (begins_itself (locals ++ t ∷ [])) in
    ok_holds (λ next. AreMade (IsFormed t) d (with_name n q t next d)) after (record {
      news = v ∷ [];
      variables = refl;
      grows = begins_more locals t;
      rise = (omega arith, omega (arith, longer), omega (arith, longer));
      have = (here, tt);
      fits = λ formed_t g fit formed begins below.
          let all = formed_more locals t formed formed_t in
          ((one_bound (locals ++ t ∷ []) g v d.scene.blocks all begins here below fit).holds blocks is, all);
    }))

names_made : (q : Quantity) (t : Shape) (ns : List Ident) (d : Declared) → Holds (judge_names q t ns d) (AreMade (IsFormed t) d)
unfolding judge_names
names_made q t [] d = ok_holds (AreMade (IsFormed t) d) d (made_none (IsFormed t) d)
names_made q t (n ∷ ns) d = bind_holds (name_made n q t d) (λ next first. weaker (names_made q t ns (with_name n q t next d)) (λ r rest.
    made_on (IsFormed t) d (with_name n q t next d) r first rest))

-- the variables of a quantifier, whose type is well formed
quantifier_made : (q : QuantifierForm) (d : Declared) → Holds (judge_quantifier q d) (AreMade (Unit {0}) d)
quantifier_made q d = bind_holds (known (judge_type d.scene.blocks q.of))
    (λ t typed. weaker (names_made q.quantity t q.names d) (λ r made. record {
      news = made.news;
      variables = made.variables;
      grows = made.grows;
      rise = made.rise;
      have = made.have;
      fits = λ u g fit. made.fits ((type_formed g d.scene.blocks fit q.of).holds t typed) g fit;
    }))

pub quantifiers_made : (qs : List QuantifierForm) (d : Declared) → Holds (judge_quantifiers qs d) (AreMade (Unit {0}) d)
unfolding judge_quantifiers
quantifiers_made [] d = ok_holds (AreMade (Unit {0}) d) d (made_none (Unit {0}) d)
quantifiers_made (q ∷ qs) d = bind_holds (quantifier_made q d) (λ next first. weaker (quantifiers_made qs next) (λ r rest.
    made_on (Unit {0}) d next r first rest))

-- ---- variables of the checked tree

-- how a variable is in the checked tree
abbrev made_of : Variable → BoundForm → Node → core.Quantified
made_of v b n = record { quantity = checked v.quantity; local = v.local; base = n; slice = b.slice }

-- the variables of the checked tree are these
abbrev pub AreThose : List Variable → List core.Quantified → Type 0
AreThose [] [] = Unit {0}
AreThose (v ∷ vs) (q ∷ qs) = (q.local ≡ v.local) × (q.quantity ≡ checked v.quantity) × AreThose vs qs
AreThose vs qs = ⊥

pub bound_those : (vs : List Variable) (qs : List core.Quantified) (g : Sight) → AreThose vs qs → bound vs g ≡ with_all_bound qs g
bound_those [] [] g h = refl
bound_those (v ∷ vs) (q ∷ qs) g h =
    bound_those vs qs (with_fixed v.local g) h.2 ∙ ap (λ n. with_all_bound qs (with_fixed n g)) (sym h.0)
bound_those [] (q ∷ qs) g h = absurd h
bound_those (v ∷ vs) [] g h = absurd h

seen_those : (v : Variable) (q : core.Quantified) → q.quantity ≡ checked v.quantity → is_for_all q ≡ not (is_seen_inside v.quantity)
seen_those v q h = ap (λ x. is_for_all (record { quantity = x; local = q.local; base = q.base; slice = q.slice })) h ∙ by v.quantity
  where
    by : (x : Quantity)
        → is_for_all (record { quantity = checked x; local = q.local; base = q.base; slice = q.slice }) ≡ not (is_seen_inside x)
    by quantities.«Some» = refl
    by quantities.Each = refl
    by quantities.All = refl

pub inside_those : (vs : List Variable) (qs : List core.Quantified) → AreThose vs qs → AreThose (inside vs) (bound_inside qs)
inside_those [] [] h = tt
inside_those (v ∷ vs) (q ∷ qs) h = by (is_seen_inside v.quantity) (is_for_all q) (seen_those v q h.1) (inside_those vs qs h.2)
  where
    by : (c d : Bool) → d ≡ not c → AreThose (inside vs) (bound_inside qs)
        → AreThose (if c then v ∷ inside vs else inside vs) (if not d then q ∷ bound_inside qs else bound_inside qs)
    by true false e rest = (h.0, h.1, rest)
    by false true e rest = rest
    by true true e rest = absurd (true≢false e)
    by false false e rest = absurd (true≢false (sym e))
inside_those [] (q ∷ qs) h = absurd h
inside_those (v ∷ vs) [] h = absurd h

-- no other variable stands after one that speaks of all candidates
abbrev last_of : Bool → List core.Quantified → Bool
last_of true qs = are_for_all qs
last_of false qs = is_all_last qs

pub last_those : (after : Bool) (vs : List Variable) (qs : List core.Quantified) → AreThose vs qs
    → Holds (all_last vs after) (λ b. last_of after qs ≡ true)
unfolding all_last
last_those true [] [] h = ok_holds _ true refl
last_those false [] [] h = ok_holds _ false refl
last_those after [] (q ∷ qs) h = absurd h
last_those after (v ∷ vs) [] h = absurd h
last_those after (v ∷ vs) (q ∷ qs) h = by (is_seen_inside v.quantity) after (seen_those v q h.1)
    (last_those true vs qs h.2) (last_those false vs qs h.2)
  where
    Goal : Bool → Bool → Type 0
    Goal after d = (if after then (d && are_for_all qs) else (if d then are_for_all qs else is_all_last qs)) ≡ true

    as_last : (after d : Bool) → is_for_all q ≡ d → Goal after d → last_of after (q ∷ qs) ≡ true
    as_last true d e g = ap (λ x. x && are_for_all qs) e ∙ g
    as_last false d e g = ap (λ x. if x then are_for_all qs else is_all_last qs) e ∙ g

    by : (c after : Bool) → is_for_all q ≡ not c
        → Holds (all_last vs true) (λ b. are_for_all qs ≡ true) → Holds (all_last vs false) (λ b. is_all_last qs ≡ true)
        → Holds ((if c then (if after then all_must_be_last v.name.place else Ok false) else Ok true) >>= all_last vs)
        (λ b. last_of after (q ∷ qs) ≡ true)
    by true true e all other = err_holds _ _
    by true false e all other = weaker other (λ b h. as_last false false e h)
    by false true e all other = weaker all (λ b h. as_last true true e h)
    by false false e all other = weaker all (λ b h. as_last false true e h)

-- candidates are of the type
are_those : (o : Option Shape) (t : Shape) → are_of o t ≡ true → o ≡ Some t
are_those (Some u) t h = ap Some (alike_equal u t h)
are_those None t h = absurd (true≢false (sym h))

-- what a variable's candidates are made of
record IsBased (g : Sight) (v : Variable) (b : BoundForm) (x : Based) : Type 0 where
  node : Node
  is : x.variable ≡ made_of v b node
  typed : IsNode g node
  own : HasOwnType node
  candidates : candidate_type b.slice (type_of node) ≡ Some v.type
  fits : AllFit (with_fixed v.local g) x.blocks

base_sound : (locals : List Shape) (g : Sight) (v : Variable) (b : BoundForm) (blocks : List Block) → g.may_emit ≡ false → AreFormed locals
    → BeginsWith locals g.locals → HasLocal locals v → AreBelow v.local g.seen → AllFit g blocks
    → Holds (judge_base blocks v b) (IsBased g v b)
base_sound locals g v b blocks quiet formed begins here below fit =
    let both = both_hold (subst (λ may. Holds (judge_exp blocks may None b.base) (IsTyped g)) quiet
    (expression_typed g blocks fit None b.base tt)) (takes_own blocks false b.base) in
    bind_holds both (λ n typed.
    bind_holds (unless_holds (are_of (candidate_type b.slice (type_of n)) v.type) _) (λ u fits.
    bind_holds (one_bound locals g v blocks formed begins here below fit) (λ next more.
    ok_holds (IsBased g v b) (record { variable = made_of v b n; blocks = next }) (record {
      node = n;
      is = refl;
      typed = typed.0.typed;
      own = typed.1;
      candidates = are_those (candidate_type b.slice (type_of n)) v.type fits;
      fits = more;
    }))))

-- the variables are as soundness asks
pub record AreBased (g : Sight) (vs : List Variable) (qs : List core.Quantified) : Type 0 where
  pub those : AreThose vs qs
  pub quantified : AreQuantified g qs

pub bases_sound : (locals : List Shape) (a b : ℕ) (g : Sight) (vs : List Variable) (bs : List BoundForm)
    (blocks : List Block) → g.may_emit ≡ false → AreFormed locals → BeginsWith locals g.locals → HaveLocals locals vs
    → Rise a b vs → AreBelow a g.seen → AllFit g blocks → Holds (judge_bases blocks vs bs) (AreBased g vs)
unfolding judge_bases
bases_sound locals a b g [] bs blocks quiet formed begins have rise below fit =
    ok_holds (AreBased g []) [] (record { those = tt; quantified = tt })
bases_sound locals a b g (v ∷ vs) [] blocks quiet formed begins have rise below fit = err_holds _ _
bases_sound locals a b g (v ∷ vs) (x ∷ xs) blocks quiet formed begins have rise below fit =
    let here = below_more a v.local g.seen rise.0 below in
    bind_holds (base_sound locals g v x blocks quiet formed begins have.0 here fit) (λ first is.
    bind_holds (bases_sound locals (suc v.local) b (with_fixed v.local g) vs xs first.blocks quiet formed begins have.1 rise.2
    (omega arith, below_more a (suc v.local) g.seen (omega (arith, rise.0)) below) is.fits) (λ rest are.
    let made = made_of v x is.node in
    ok_holds (AreBased g (v ∷ vs)) (first.variable ∷ rest) (subst (λ q. AreBased g (v ∷ vs) (q ∷ rest)) (sym is.is) (record {
      those = (refl, refl, are.those);
      quantified = (
        is.typed,
        is_none v.local g.seen here,
        (v.type, get_on locals g.locals v.local v.type begins have.0, is.candidates),
        is.own,
        are.quantified,
      );
    }))))
