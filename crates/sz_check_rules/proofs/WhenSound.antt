-- A `when` that is judged is sound, where the statement inside is.
use Rattle.std.proofs.Common.{◌≡◌, ◌≤◌, Bool, true, false, List, [], ◌∷◌, length, None, refl, sym, ◌∙◌, subst}
use Rattle.std.specs.Prelude.{Ok}
use Rattle.sz_types.specs.declared.place.Place.{Place}
use Rattle.sz_tree.specs.Expressions.{Exp}
use Rattle.sz_tree.specs.Statements.{QuantifierForm}
use Rattle.sz_quant.specs.Fitting.{BoundForm, bounds_of}
use Rattle.sz_core.specs.Nodes.{Node}
use Rattle.sz_core.specs.Statements as core
use Rattle.sz_core.specs.Typing.{Sight}
use Rattle.sz_core.specs.Sound.{BeginsWith, Around, IsTest, IsStm, in_condition, bound_inside, is_all_last, out_of_loops}
use Rattle.sz_check_rules.specs.Refusals.{Judged, ◌>>=◌}
use Rattle.sz_check_rules.specs.Names.{Block}
use Rattle.sz_check_rules.specs.Scene.{Scene}
use Rattle.sz_check_rules.specs.JudgingExpressions.{judge_exp}
use Rattle.sz_check_rules.specs.JudgingOperators.{test}
use Rattle.sz_check_rules.specs.Scenes.{Later, closed}
use Rattle.sz_check_rules.specs.Quantifying.{Variable, Declared, Front, none_declared, judge_front, bind_inside, in_bound, names_of}
use Rattle.sz_check_rules.specs.Quantifying.{all_bounded, all_last, judge_bases}
use Rattle.sz_check_rules.specs.JudgingStatements.{judge_quantified}
use Rattle.sz_check_rules.proofs.Holds.{Holds, good, ok_holds, bind_holds, known, weaker}
use Rattle.sz_check_rules.proofs.Sights.{AreFormed, AllFit, IsWider, all_fit_wider}
use Rattle.sz_check_rules.proofs.AgreeLemmas.{IsTyped}
use Rattle.sz_check_rules.proofs.NodeLemmas.{test_holds}
use Rattle.sz_check_rules.proofs.ExpressionSound.{expression_typed}
use Rattle.sz_check_rules.proofs.SceneLemmas.{Sees, sees_closed, begins_on, begins_length, below_more, IsLater, IsInside, IsSoundPart}
use Rattle.sz_check_rules.proofs.BoundLemmas.{bound, Rise, bound_locals, bound_emits, inside, rise_inside, bound_below, bound_fixed, inside_bound}
use Rattle.sz_check_rules.proofs.BoundLemmas.{AreMade}
use Rattle.sz_check_rules.proofs.BoundLemmas.{quantifiers_made, bound_those, inside_those, last_those, AreBased, bases_sound}

-- how the variables and the condition were judged
pub record IsFrontOf (s : Scene) (c : Exp) (front : Front) : Type 0 where
  pub declared : Declared
  pub made : AreMade (Unit {0}) (none_declared s) declared
  pub scene : front.scene ≡ closed s declared.scene
  pub variables : front.variables ≡ made.news
  pub judged : judge_exp declared.scene.blocks false None c ≡ good front.condition

pub front_sound : (s : Scene) (qs : List QuantifierForm) (c : Exp) → Holds (judge_front s qs c) (IsFrontOf s c)
front_sound s qs c = bind_holds (quantifiers_made qs (none_declared s))
    (λ d made. bind_holds (known (judge_exp d.scene.blocks false None c)) (λ n is.
    ok_holds (IsFrontOf s c) (record { scene = closed s d.scene; variables = d.variables; condition = n })
    (record { declared = d; made = made; scene = refl; variables = made.variables; judged = is })))

-- how the variables of the checked tree were judged, after the test of the condition
pub record IsQuantified (s : Scene) (vs : List Variable) (c : Exp) (n : Node) (qs : List core.Quantified) : Type 0 where
  test_is : Unit {0}
  tested : test c n ≡ good test_is
  bounds : List BoundForm
  after : Bool
  last : all_last vs false ≡ good after
  bases : judge_bases ([] ∷ s.blocks) vs bounds ≡ good qs

quantified_as : (s : Scene) (vs : List Variable) (c : Exp) (n : Node)
    → Holds (judge_quantified s vs c n) (IsQuantified s vs c n)
quantified_as s vs c n = bind_holds (known (test c n))
    (λ u tested. bind_holds (known (all_bounded vs (bounds_of (names_of vs) c))) (λ bs found.
    bind_holds (known (all_last vs false)) (λ after last. weaker (known (judge_bases ([] ∷ s.blocks) vs bs)) (λ qs is.
    record { test_is = u; tested = tested; bounds = bs; after = after; last = last; bases = is }))))

-- what is seen in a condition
condition_wider : (g : Sight) → IsWider g (in_condition g)
condition_wider g = record {
  seen = λ n c. c;
  locals = λ n t h. h;
  statics = λ n t h. h;
  functions = λ n f h. h;
  tables = λ n d h. h;
  input = refl;
  free = λ n c f. f;
}

-- a `when` whose parts are judged
module _ (a : Around) (s : Scene) (p : Place) (c : Exp) (front : Front) (blocks : List Block) (body : Later)
    (qs : List core.Quantified) (is : IsFrontOf s c front)
    (seen : bind_inside front.variables ([] ∷ front.scene.blocks) ≡ good blocks)
    (body_is : IsInside (out_of_loops a) (record { blocks = blocks; locals = front.scene.locals }) body)
    (quantified : IsQuantified (closed front.scene body.scene) front.variables c front.condition qs) where
  abbrev d : Declared
  d = is.declared

  abbrev news : List Variable
  news = is.made.news

  grows_to_body : BeginsWith d.scene.locals body.scene.locals
  grows_to_body = subst (λ (x : Scene). BeginsWith x.locals body.scene.locals) is.scene body_is.grows

  grows : BeginsWith s.locals body.scene.locals
  grows = begins_on s.locals d.scene.locals body.scene.locals is.made.grows grows_to_body

  module _ (g : Sight) (sees : Sees g s) (final : BeginsWith body.scene.locals g.locals) where
    final_front : BeginsWith d.scene.locals g.locals
    final_front = begins_on d.scene.locals body.scene.locals g.locals grows_to_body final

    abbrev quiet : Sight
    quiet = in_condition g

    quiet_fit : AllFit quiet ([] ∷ s.blocks)
    quiet_fit = (tt, all_fit_wider g quiet s.blocks (condition_wider g) sees.fit)

    -- what the condition sees
    at_condition : AllFit (bound news quiet) d.scene.blocks × AreFormed d.scene.locals
    at_condition = is.made.fits tt quiet quiet_fit sees.formed final_front sees.numbers

    condition_typed : IsTyped (bound news quiet) front.condition
    condition_typed =
        (subst (λ may. Holds (judge_exp d.scene.blocks may None c) (IsTyped (bound news quiet)))
        (bound_emits news quiet)
        (expression_typed (bound news quiet) d.scene.blocks at_condition.0 None c tt)).holds front.condition is.judged

    -- the variables of the checked tree
    based : AreBased quiet news qs
    based =
        (bases_sound d.scene.locals (length s.locals)
        (length d.scene.locals) quiet news quantified.bounds ([] ∷ s.blocks) refl at_condition.1 final_front
        is.made.have is.made.rise sees.numbers quiet_fit).holds qs
        (subst (λ vs. judge_bases ([] ∷ s.blocks) vs quantified.bounds ≡ good qs) is.variables
        (subst (λ (x : Scene). judge_bases ([] ∷ x.blocks) front.variables quantified.bounds ≡ good qs)
        is.scene quantified.bases))

    -- what the statement inside sees
    abbrev inner : Sight
    inner = bound (inside news) g

    inner_rise : Rise (length s.locals) (length d.scene.locals) (inside news)
    inner_rise = rise_inside (length s.locals) (length d.scene.locals) news is.made.rise

    longer : length s.locals ≤ length d.scene.locals
    longer = begins_length s.locals d.scene.locals is.made.grows

    inner_fit : AllFit inner blocks
    inner_fit =
        (inside_bound d.scene.locals (length s.locals) (length d.scene.locals) g news
        ([] ∷ s.blocks) at_condition.1 final_front is.made.have is.made.rise
        sees.numbers (tt, sees.fit)).holds blocks
        (subst (λ vs. bind_inside vs ([] ∷ s.blocks) ≡ good blocks) is.variables
        (subst (λ (x : Scene). bind_inside front.variables ([] ∷ x.blocks) ≡ good blocks) is.scene seen))

    inner_sees : Sees inner (record { blocks = blocks; locals = front.scene.locals })
    inner_sees =
        subst (λ (x : Scene). Sees inner (record { blocks = blocks; locals = x.locals })) (sym is.scene) (record {
          fit = inner_fit;
          formed = at_condition.1;
          emits = bound_emits (inside news) g ∙ sees.emits;
          numbers = bound_below (length s.locals) (length d.scene.locals) (inside news) g inner_rise
              (below_more (length s.locals) (length d.scene.locals) g.seen longer sees.numbers);
          fixed = bound_fixed (length s.locals) (length d.scene.locals) (inside news) g inner_rise
              (below_more (length s.locals) (length d.scene.locals) g.fixed longer sees.fixed);
        })

    here : IsSoundPart inner (out_of_loops a) body
    here = body_is.is_sound inner inner_sees
        (subst (BeginsWith body.scene.locals) (sym (bound_locals (inside news) g)) final)

    last : is_all_last qs ≡ true
    last = (last_those false news qs based.those).holds quantified.after
        (subst (λ vs. all_last vs false ≡ good quantified.after) is.variables quantified.last)

    when_here : IsStm g a (core.when p qs front.condition body.stm)
    unfolding IsStm
    when_here = (
      based.quantified,
      subst (λ x. IsTest x front.condition) (bound_those news qs quiet based.those) (
        condition_typed.typed,
        (test_holds (bound news quiet) c front.condition).holds quantified.test_is quantified.tested,
      ),
      last,
      subst (λ x. IsStm x (out_of_loops a) body.stm)
          (bound_those (inside news) (bound_inside qs) g (inside_those news qs based.those)) here.stm,
    )

    when_sees : Sees g (closed front.scene body.scene)
    when_sees = subst (λ (x : Scene). Sees g (closed x body.scene)) (sym is.scene)
        (sees_closed g s body.scene sees grows here.sees.formed)

  pub when_after : IsLater a s
      (record { scene = closed front.scene body.scene; stm = core.when p qs front.condition body.stm })
  when_after = record {
    grows = grows;
    is_sound = λ g sees final. record { stm = when_here g sees final; sees = when_sees g sees final };
  }

-- how the statement inside was judged
record IsBody (a : Around) (front : Front) (x : Later) : Type 0 where
  blocks : List Block
  seen : bind_inside front.variables ([] ∷ front.scene.blocks) ≡ good blocks
  inner : Later
  body : IsInside (out_of_loops a) (record { blocks = blocks; locals = front.scene.locals }) inner
  is : x ≡ record { scene = closed front.scene inner.scene; stm = inner.stm }

body_known : (a : Around) (front : Front) (judging : Scene → Judged Later)
    → ((inner : Scene) → Holds (judging inner) (IsInside (out_of_loops a) inner))
    → Holds (in_bound front.scene front.variables judging) (IsBody a front)
body_known a front judging h =
    bind_holds (bind_holds (known (bind_inside front.variables ([] ∷ front.scene.blocks))) (λ blocks seen.
    ok_holds (λ (x : Scene). (bs : List Block) × (bind_inside front.variables ([] ∷ front.scene.blocks) ≡ good bs)
    × (x ≡ record { blocks = bs; locals = front.scene.locals }))
    (record { blocks = blocks; locals = front.scene.locals }) (blocks, seen, refl))) (λ inner is.
    bind_holds (h inner) (λ body made.
    ok_holds (IsBody a front) (record { scene = closed front.scene body.scene; stm = body.stm }) (record {
      blocks = is.0;
      seen = is.1;
      inner = body;
      body = subst (λ (x : Scene). IsInside (out_of_loops a) x body) is.2 made;
      is = refl;
    })))

-- a `when`, over the judgement of the statement inside
pub when_sound : (a : Around) (s : Scene) (p : Place) (qs : List QuantifierForm) (c : Exp)
    (judging : Scene → Judged Later) → ((inner : Scene) → Holds (judging inner) (IsInside (out_of_loops a) inner))
    → Holds (judge_front s qs c >>= λ front. in_bound front.scene front.variables judging >>= λ body.
    judge_quantified body.scene front.variables c front.condition
    >>= λ vs. Ok (record { scene = body.scene; stm = core.when p vs front.condition body.stm })) (IsLater a s)
when_sound a s p qs c judging h =
    bind_holds (front_sound s qs c) (λ front is. bind_holds (body_known a front judging h) (λ body made.
    bind_holds (quantified_as body.scene front.variables c front.condition) (λ vs quantified.
    ok_holds (IsLater a s) (record { scene = body.scene; stm = core.when p vs front.condition body.stm })
    (subst (λ (x : Later). IsLater a s (record { scene = x.scene; stm = core.when p vs front.condition x.stm }))
    (sym made.is) (when_after a s p c front made.blocks made.inner vs is made.seen made.body
    (subst (λ (x : Later). IsQuantified x.scene front.variables c front.condition vs) made.is quantified))))))
