-- A `when` by its parts.
use Rattle.std.proofs.Common.{◌≡◌, ℕ, zero, suc, ◌<◌, true≢false, Bool, true, false, List, [], ◌∷◌, ◌++◌, length, map, get_or, Option, Some, None}
use Rattle.std.proofs.Common.{refl, sym, ap, ◌∙◌, subst, arith}
use Rattle.std.proofs.lemmas.Option.{same_Some, none-some}
use Rattle.std.specs.Prelude.{Result, Ok, Err, IfOk, slice_get}
use Rattle.std.specs.List.{position}
use Rattle.std.proofs.lemmas.List.Quantifiers.{position-Some}
use Rattle.std.specs.Option.{is_none}
use Rattle.sz_types.specs.Data.{Shape}
use Rattle.sz_tree.specs.Names.{Ident}
use Rattle.sz_tree.specs.Expressions.{Exp}
use Rattle.sz_tree.specs.Statements.{QuantifierForm, Stm as Tree}
use Rattle.sz_quant.specs.Fitting.{BoundForm, bounds_of}
use Rattle.sz_core.specs.Nodes.{Node}
use Rattle.sz_core.specs.Statements.{Stm}
use Rattle.sz_core.specs.Statements as core
use Rattle.sz_check_rules.specs.Refusals.{Judged, ◌>>=◌, refused_for, unbounded}
use Rattle.sz_check_rules.specs.declared.cause.Cause.{Cause}
use Rattle.sz_check_rules.specs.Names.{Block}
use Rattle.sz_check_names.specs.Knowledge.{Knowledge, blocks_of, outside_of, scene_of}
use Rattle.sz_check_names.specs.Outcome.{Stops, Judges}
use Rattle.sz_check_rules.specs.Scene.{Scene}
use Rattle.sz_check_names.specs.declared.error.JudgeError.{JudgeError}
use Rattle.sz_check_names.specs.declared.error.JudgeError.TheVariants as errors
use Rattle.sz_check_rules.specs.JudgingExpressions.{judge_exp}
use Rattle.sz_check_rules.specs.Scenes.{Later, closed}
use Rattle.sz_check_rules.specs.JudgingStatements.{Around, out_of_loops}
use Rattle.sz_check_rules.specs.Quantifying.{Variable, Declared, Front, judge_quantifiers, judge_front, bind_inside, judge_bound}
use Rattle.sz_check_rules.specs.Quantifying.{names_of, all_bounded, all_last, Based, judge_base, judge_bases, quantify}
use Rattle.sz_check.specs.Later.{judge_inside, judge_bound_body}
use Rattle.sz_check_names.proofs.TurnLemmas.{stops_then, goes_on, later_next, after_stops, after_ends}
use Rattle.sz_check_names.specs.Turns.{following, put_all}
use Rattle.sz_check.proofs.StatementParts.{inside_of}

-- ---- the variables and the condition

-- the condition after the variables
abbrev condition_of : Scene → Exp → Declared → Judged Front
condition_of s c d =
    judge_exp d.scene.blocks false None c
    >>= λ n. Ok (record { scene = closed s d.scene; variables = d.variables; condition = n })

module _ (k inner : Knowledge) (qs : List QuantifierForm) (c : Exp) (opening : inner ≡ inside_of k) where
  begin : (judge_quantifiers qs (record { scene = scene_of inner; variables = [] }) >>= condition_of (scene_of k) c)
      ≡ judge_front (scene_of k) qs c
  begin = ap (λ (u : Knowledge). judge_quantifiers qs (record { scene = scene_of u; variables = [] })
      >>= condition_of (scene_of k) c) opening

  pub front_stops : (e : JudgeError)
      → Stops e (judge_quantifiers qs (record { scene = scene_of inner; variables = [] }))
      → Stops e (judge_front (scene_of k) qs c)
  front_stops e h = stops_then e _ (condition_of (scene_of k) c) _ h begin

  pub condition_stops : (d : Declared) (e : JudgeError)
      → judge_quantifiers qs (record { scene = scene_of inner; variables = [] }) ≡ Ok d
      → Stops e (judge_exp d.scene.blocks false None c) → Stops e (judge_front (scene_of k) qs c)
  condition_stops d e made h = stops_then e (judge_exp d.scene.blocks false None c)
      (λ n. Ok (record { scene = closed (scene_of k) d.scene; variables = d.variables; condition = n })) _ h
      (goes_on _ (condition_of (scene_of k) c) _ d made begin)

  pub front_made : (done after : Knowledge) (vs : List Variable) (n : Node)
      → judge_quantifiers qs (record { scene = scene_of inner; variables = [] })
      ≡ Ok (record { scene = scene_of done; variables = vs })
      → judge_exp (blocks_of done) false None c ≡ Ok n → after ≡ record k { locals = done.locals }
      → judge_front (scene_of k) qs c ≡ Ok (record { scene = scene_of after; variables = vs; condition = n })
  front_made done after vs n made judged ending =
      sym (goes_on _ (condition_of (scene_of k) c) _ (record { scene = scene_of done; variables = vs }) made begin)
      ∙ ap (λ (j : Judged Node). j
      >>= λ n. Ok (record { scene = closed (scene_of k) (scene_of done); variables = vs; condition = n })) judged
      ∙ ap (λ (u : Knowledge). Ok (record { scene = scene_of u; variables = vs; condition = n })) (sym ending)

-- ---- the statement inside

-- the variables that it sees, in a block of their own
pub bound_is : (k inner following : Knowledge) (vs : List Variable) (r : Result Unit JudgeError) → inner ≡ inside_of k
    → Judges (λ u. blocks_of following) r (bind_inside vs (blocks_of inner))
    → IfOk r (λ u. following.locals ≡ inner.locals) → Judges (λ u. scene_of following) r (judge_bound (scene_of k) vs)
bound_is k inner following vs (Ok u) opening h locals =
    ap (λ (b : Knowledge). bind_inside vs (blocks_of b)
    >>= λ blocks. Ok (record { blocks = blocks; locals = k.locals })) (sym opening)
    ∙ ap (λ (j : Judged (List Block)). j >>= λ blocks. Ok (record { blocks = blocks; locals = k.locals })) h
    ∙ ap (λ (l : List Shape). Ok (record { blocks = blocks_of following; locals = l }))
    (sym (locals ∙ ap (λ (b : Knowledge). b.locals) opening))
bound_is k inner following vs (Err e) opening h locals =
    stops_then e (bind_inside vs (blocks_of inner)) (λ blocks. Ok (record { blocks = blocks; locals = k.locals })) _ h
    (ap (λ (b : Knowledge). bind_inside vs (blocks_of b)
    >>= λ blocks. Ok (record { blocks = blocks; locals = k.locals })) opening)

-- what is outside the block is what was known
pub bound_outside : (k inner following : Knowledge) (r : Result Unit JudgeError) → inner ≡ inside_of k
    → IfOk r (λ u. following.outside ≡ inner.outside) → IfOk r (λ u. following.outside ≡ outside_of k)
bound_outside k inner following (Ok u) opening h = h ∙ ap (λ (b : Knowledge). b.outside) opening
bound_outside k inner following (Err e) opening h = tt

abbrev body_end : Scene → Later → Judged Later
body_end s body = Ok (record { scene = closed s body.scene; stm = body.stm })

module _ (a in_body : Around) (k inner : Knowledge) (vs : List Variable) (t : Tree) (same : in_body ≡ out_of_loops a)
    (bound : judge_bound (scene_of k) vs ≡ Ok (scene_of inner)) where
  left : (judge_inside in_body (scene_of inner) t >>= body_end (scene_of k)) ≡ judge_bound_body a (scene_of k) vs t
  left = ap (λ (b : Around). judge_inside b (scene_of inner) t >>= body_end (scene_of k)) same
      ∙ sym (ap
      (λ (j : Judged Scene). j >>= λ inner. judge_inside (out_of_loops a) inner t >>= body_end (scene_of k)) bound)

  pub body_stops : (e : JudgeError) → Stops e (judge_inside in_body (scene_of inner) t)
      → Stops e (judge_bound_body a (scene_of k) vs t)
  body_stops e h = stops_then e (judge_inside in_body (scene_of inner) t) (body_end (scene_of k)) _ h left

  pub body_made : (following after : Knowledge) (x : Stm)
      → judge_inside in_body (scene_of inner) t ≡ Ok (record { scene = scene_of following; stm = x })
      → after ≡ record k { locals = following.locals }
      → judge_bound_body a (scene_of k) vs t ≡ Ok (record { scene = scene_of after; stm = x })
  body_made following after x h ending =
      sym left ∙ ap (λ (j : Judged Later). j >>= body_end (scene_of k)) h
      ∙ ap (λ (u : Knowledge). Ok (record { scene = scene_of u; stm = x })) (sym ending)

-- ---- the bounds

-- where a refusal is that of a name, it is that of what is the same
pub stops_as : {A : Type 0} (e : JudgeError) (cause : Cause) (n : Ident) (j : Judged A)
    → Stops {Y = Unit} e (refused_for cause n) → j ≡ refused_for cause n → Stops e j
stops_as errors.NoMemory cause n j h same = tt
stops_as (errors.Refused m p name) cause n j h same = same ∙ ap (λ (x : Judged Unit). as_refusal x) h
  where
    as_refusal : {A : Type 0} → Judged Unit → Judged A
    as_refusal (Ok u) = refused_for cause n
    as_refusal (Err r) = Err r

-- each variable has a bound
pub all_found : (c : Exp) (vs : List Variable) (bs : List BoundForm) → bounds_of (names_of vs) c ≡ map (λ b. Some b) bs
    → all_bounded vs (bounds_of (names_of vs) c) ≡ Ok bs
unfolding all_bounded
all_found c [] [] h = refl
all_found c [] (b ∷ bs) h = absurd cc
all_found c (v ∷ vs) [] h = absurd cc
all_found c (v ∷ vs) (b ∷ bs) h =
    ap (λ (l : List (Option BoundForm)). all_bounded (v ∷ vs) l) (λ i. first (h i) ∷ bounds_of (names_of vs) c)
    ∙ ap (λ (j : Judged (List BoundForm)). j >>= λ rest. Ok (b ∷ rest)) (all_found c vs bs (ap rest h))
  where
    first : List (Option BoundForm) → Option BoundForm
    first [] = None
    first (o ∷ os) = o

    rest : List (Option BoundForm) → List (Option BoundForm)
    rest [] = []
    rest (o ∷ os) = os

-- the first variable that has none is refused
lacks_at : (vs : List Variable) (os : List (Option BoundForm)) (v : Variable) (k : ℕ) → k < length os
    → is_none (get_or os k None) ≡ true → ((j : ℕ) → j < k → is_none (get_or os j None) ≡ false)
    → slice_get vs k ≡ Some v → all_bounded vs os ≡ unbounded v.name
unfolding all_bounded
lacks_at vs [] v k within none before g = absurd (omega (arith, within))
lacks_at [] (o ∷ os) v k within none before g = absurd (none-some v g)
lacks_at (w ∷ vs) (None ∷ os) v zero within none before g = ap (λ (x : Variable). unbounded x.name) (same_Some w v g)
lacks_at (w ∷ vs) (Some b ∷ os) v zero within none before g = absurd (true≢false (sym none))
lacks_at (w ∷ vs) (None ∷ os) v (suc k) within none before g = absurd (true≢false (before 0 (omega arith)))
lacks_at (w ∷ vs) (Some b ∷ os) v (suc k) within none before g =
    ap (λ (j : Judged (List BoundForm)). j >>= λ rest. Ok (b ∷ rest))
    (lacks_at vs os v k (omega (arith, within)) none (λ j l. before (suc j) (omega (arith, l))) g)

pub lacks : (vs : List Variable) (os : List (Option BoundForm)) (k : ℕ) (v : Variable) → position is_none os ≡ Some k
    → slice_get vs k ≡ Some v → all_bounded vs os ≡ unbounded v.name
lacks vs os k v h g =
    let first = position-Some is_none os k None h in
    lacks_at vs os v k first.0 first.1 first.2 g

bounds_length : (ns : List (List ℕ)) (c : Exp) → length (bounds_of ns c) ≡ length ns
bounds_length [] c = refl
bounds_length (n ∷ ns) c = ap (λ m. suc m) (bounds_length ns c)

count_names : {X : Type 0} (view : X → Variable) (vs : List X) → length (names_of (map view vs)) ≡ length vs
count_names view [] = refl
count_names view (v ∷ vs) = ap (λ m. suc m) (count_names view vs)

-- the number of the first variable that has none is one of them
pub lack_within : {X : Type 0} (view : X → Variable) (vs : List X) (c : Exp) (k : ℕ)
    → position is_none (bounds_of (names_of (map view vs)) c) ≡ Some k
    → k < length vs
lack_within view vs c k h =
    let first = position-Some is_none (bounds_of (names_of (map view vs)) c) k None h in
    omega (arith, first.0, bounds_length (names_of (map view vs)) c, count_names view vs)

-- ---- the variables of the checked tree

abbrev put : core.Quantified → List core.Quantified → List core.Quantified
put x xs = x ∷ xs

pub bases_go : (front : List core.Quantified) (blocks : List Block) (vs ws : List Variable) (bs cs : List BoundForm)
    (v : Variable) (b : BoundForm) (x : Based)
    (whole : Judged (List core.Quantified)) → vs ≡ v ∷ ws → bs ≡ b ∷ cs → judge_base blocks v b ≡ Ok x
    → following put front (judge_bases blocks vs bs) ≡ whole
    → following put (front ++ x.variable ∷ []) (judge_bases x.blocks ws cs) ≡ whole
unfolding judge_bases
bases_go front blocks vs ws bs cs v b x whole vs_is bs_is h so_far =
    sym (later_next put front x.variable (judge_bases x.blocks ws cs))
    ∙ ap (following put front) (ap (λ (j : Judged Based). j >>= λ first. judge_bases first.blocks ws cs
    >>= λ rest. Ok (put first.variable rest)) (sym h) ∙ (λ i. judge_bases blocks (sym vs_is i) (sym bs_is i)))
    ∙ so_far

pub bases_fail : (front : List core.Quantified) (blocks : List Block) (vs ws : List Variable) (bs cs : List BoundForm)
    (v : Variable) (b : BoundForm) (e : JudgeError) (whole : Judged (List core.Quantified)) → vs ≡ v ∷ ws
    → bs ≡ b ∷ cs → Stops e (judge_base blocks v b)
    → following put front (judge_bases blocks vs bs) ≡ whole → Stops e whole
unfolding judge_bases
bases_fail front blocks vs ws bs cs v b errors.NoMemory whole vs_is bs_is h so_far = tt
bases_fail front blocks vs ws bs cs v b (errors.Refused m p name) whole vs_is bs_is h so_far =
    sym so_far ∙ (λ i. following put front (judge_bases blocks (vs_is i) (bs_is i)))
    ∙ ap (λ (j : Judged Based).
    following put front (j >>= λ first. judge_bases first.blocks ws cs >>= λ rest. Ok (put first.variable rest))) h
    ∙ after_stops put front _

-- a variable more than there are bounds
pub bases_lack : (front : List core.Quantified) (blocks : List Block) (vs ws : List Variable)
    (bs : List BoundForm) (v : Variable) (whole : Judged (List core.Quantified)) → vs ≡ v ∷ ws → bs ≡ []
    → following put front (judge_bases blocks vs bs) ≡ whole → whole ≡ unbounded v.name
unfolding judge_bases
bases_lack front blocks vs ws bs v whole vs_is bs_is so_far =
    sym so_far ∙ (λ i. following put front (judge_bases blocks (vs_is i) (bs_is i))) ∙ after_stops put front _

put_bases : (front : List core.Quantified) → put_all put front [] ≡ front
put_bases [] = refl
put_bases (x ∷ front) = ap (put x) (put_bases front)

pub bases_end : (front : List core.Quantified) (blocks : List Block) (vs : List Variable) (bs : List BoundForm)
    (whole : Judged (List core.Quantified))
    → vs ≡ [] → following put front (judge_bases blocks vs bs) ≡ whole → whole ≡ Ok front
unfolding judge_bases
bases_end front blocks vs bs whole vs_is so_far =
    sym so_far ∙ ap (λ (l : List Variable). following put front (judge_bases blocks l bs)) vs_is
    ∙ after_ends put front [] ∙ ap (λ (l : _). Ok l) (put_bases front)

-- the rules of the variables, and then what their candidates are made of, in a block of their own
module _ (k inner : Knowledge) (vs : List Variable) (c : Exp) (bs : List BoundForm) (after : Bool)
    (opening : inner ≡ inside_of k)
    (found : all_bounded vs (bounds_of (names_of vs) c) ≡ Ok bs) (last : all_last vs false ≡ Ok after) where
  rules_then : judge_bases (blocks_of inner) vs bs ≡ quantify (scene_of k) vs c
  rules_then = ap (λ (u : Knowledge). judge_bases (blocks_of u) vs bs) opening
      ∙ goes_on (all_last vs false) (λ b. judge_bases ([] ∷ blocks_of k) vs bs) _ after last
      (goes_on (all_bounded vs (bounds_of (names_of vs) c))
      (λ bs. all_last vs false >>= λ b. judge_bases ([] ∷ blocks_of k) vs bs) _ bs found refl)

  pub quantify_stops : (e : JudgeError) → Stops e (judge_bases (blocks_of inner) vs bs)
      → Stops e (quantify (scene_of k) vs c)
  quantify_stops e h = subst (Stops e) rules_then h

  pub quantify_made : (qs : List core.Quantified) → judge_bases (blocks_of inner) vs bs ≡ Ok qs
      → quantify (scene_of k) vs c ≡ Ok qs
  quantify_made qs h = sym rules_then ∙ h
