-- Turns of the loops over steps, statements and parameters.
use Rattle.std.proofs.Common.{◌≡◌, ℕ, ◌+◌, ◌<◌, ◌≤◌, List, [], ◌∷◌, ◌++◌, length, get_or, drop, map, refl, sym, ap, ◌∙◌}
use Rattle.std.proofs.Math.Path.{fun_ext}
use Rattle.std.specs.Prelude.{Ok, Err}
use Rattle.sz_types.specs.Data.{Shape}
use Rattle.sz_types.specs.declared.place.Place.{Place}
use Rattle.sz_tree.specs.declared.stmt.Step.{Step}
use Rattle.sz_tree.specs.declared.stmt.Stmt.{Stmt}
use Rattle.sz_tree.specs.declared.types.Param.{Param}
use Rattle.sz_tree.specs.Statements.{stms_of}
use Rattle.sz_tree.specs.Types.{params_of}
use Rattle.sz_tree.specs.View.{step_of, stm_of, param_of, type_of}
use Rattle.sz_core.specs.Statements.{Stm}
use Rattle.sz_core.specs.Statements as core
use Rattle.sz_check_rules.specs.Refusals.{Judged, ◌>>=◌}
use Rattle.sz_check_rules.specs.Names as names
use Rattle.sz_check_rules.specs.JudgingTypes.{judge_type}
use Rattle.sz_check_rules.specs.Scene.{Scene, with_variable}
use Rattle.sz_check_rules.specs.Scenes.{Later, AllAfter}
use Rattle.sz_check_rules.specs.JudgingStatements.{Around, judge_stm, judge_stms}
use Rattle.sz_check_rules.specs.JudgingPaths.{Target, judge_steps}
use Rattle.sz_check_rules.specs.JudgingPrograms.{judge_parameters}
use Rattle.sz_check_names.specs.Turns.{following, put_all}
use Rattle.sz_check_rules.specs.JudgingPaths.{judge_step}
use Rattle.sz_check.specs.Later.{in_front}
use Rattle.sz_check_names.specs.Outcome.{Stops}
use Rattle.sz_check_names.specs.declared.error.JudgeError.{JudgeError}
use Rattle.sz_check_names.proofs.TurnLemmas.{later_next, after_ends, turn_fails, stops_then, goes_on}
use Rattle.sz_types.proofs.ForCallers.{rest_more, rest_none}

-- what goes on from a judgement that goes on from another
pub assoc : {A B C : Type 0} (j : Judged A) (f : A → Judged B) (g : B → Judged C)
    → (j >>= λ x. f x >>= g) ≡ ((j >>= f) >>= g)
assoc (Ok x) f g = refl
assoc (Err r) f g = refl

steps_turn : (s : Scene) (p : Place) (t : Target) (xs : List Step) (i : ℕ) (x : Step) → i < length xs
    → x ≡ get_or xs i x → judge_steps s p t (map step_of (drop i xs))
    ≡ (judge_step s p t (step_of x) >>= λ u. judge_steps s p u (map step_of (drop (i + 1) xs)))
unfolding judge_steps
steps_turn s p t xs i x within is = ap (judge_steps s p t) (rest_more step_of xs i x within is)

pub steps_fail : (s : Scene) (p : Place) (t : Target) (xs : List Step) (i : ℕ) (x : Step) (e : JudgeError)
    (whole : Judged Target) → i < length xs → x ≡ get_or xs i x
    → Stops e (judge_step s p t (step_of x)) → judge_steps s p t (map step_of (drop i xs)) ≡ whole → Stops e whole
steps_fail s p t xs i x e whole within is h so_far =
    stops_then e _ _ whole h (sym (steps_turn s p t xs i x within is) ∙ so_far)

pub steps_go : (s : Scene) (p : Place) (t u : Target) (xs : List Step) (i : ℕ) (x : Step) (whole : Judged Target)
    → i < length xs → x ≡ get_or xs i x
    → judge_step s p t (step_of x) ≡ Ok u → judge_steps s p t (map step_of (drop i xs)) ≡ whole
    → judge_steps s p u (map step_of (drop (i + 1) xs)) ≡ whole
steps_go s p t u xs i x whole within is h so_far =
    goes_on _ (λ u. judge_steps s p u (map step_of (drop (i + 1) xs))) whole u h
    (sym (steps_turn s p t xs i x within is) ∙ so_far)

pub steps_end : (s : Scene) (p : Place) (t : Target) (xs : List Step) (i : ℕ) (whole : Judged Target) → length xs ≤ i
    → judge_steps s p t (map step_of (drop i xs)) ≡ whole → whole ≡ Ok t
unfolding judge_steps
steps_end s p t xs i whole over so_far = sym so_far ∙ ap (judge_steps s p t) (rest_none step_of xs i over)

-- statements in front of none
put_stms : (s : Scene) (ss : List Stm)
    → put_all in_front ss (record { scene = s; stms = core.no_stms }) ≡ record { scene = s; stms = core.stms_of ss }
put_stms s [] = refl
put_stms s (t ∷ ss) = ap (in_front t) (put_stms s ss)

stms_turn : (a : Around) (s : Scene) (ts : List Stmt) (i : ℕ) (t : Stmt) → i < length ts → t ≡ get_or ts i t
    → judge_stms a s (stms_of (map stm_of (drop i ts)))
    ≡ (judge_stm a s (stm_of t) >>= λ first. judge_stms a first.scene (stms_of (map stm_of (drop (i + 1) ts)))
    >>= λ rest. Ok (in_front first.stm rest))
unfolding judge_stms
stms_turn a s ts i t within is = rw (rest_more stm_of ts i t within is) refl

pub stms_fail : (front : List Stm) (a : Around) (s : Scene) (ts : List Stmt) (i : ℕ) (t : Stmt) (e : JudgeError)
    (whole : Judged AllAfter) → i < length ts → t ≡ get_or ts i t
    → Stops e (judge_stm a s (stm_of t))
    → following in_front front (judge_stms a s (stms_of (map stm_of (drop i ts)))) ≡ whole → Stops e whole
stms_fail front a s ts i t e whole within is h so_far =
    turn_fails in_front front e _ _ _ whole (stms_turn a s ts i t within is) h so_far

pub stms_go : (front : List Stm) (a : Around) (s : Scene) (ts : List Stmt) (i : ℕ) (t : Stmt) (b : Later)
    (whole : Judged AllAfter) → i < length ts → t ≡ get_or ts i t
    → judge_stm a s (stm_of t) ≡ Ok b
    → following in_front front (judge_stms a s (stms_of (map stm_of (drop i ts)))) ≡ whole
    → following in_front (front ++ b.stm ∷ []) (judge_stms a b.scene (stms_of (map stm_of (drop (i + 1) ts)))) ≡ whole
stms_go front a s ts i t b whole within is h so_far =
    sym (later_next in_front front b.stm (judge_stms a b.scene (stms_of (map stm_of (drop (i + 1) ts)))))
    ∙ ap (following in_front front)
    (ap (λ (k : Judged Later). k >>= λ first. judge_stms a first.scene (stms_of (map stm_of (drop (i + 1) ts)))
    >>= λ rest. Ok (in_front first.stm rest)) (sym h) ∙ sym (stms_turn a s ts i t within is))
    ∙ so_far

pub stms_end : (front : List Stm) (a : Around) (s : Scene) (ts : List Stmt) (i : ℕ) (whole : Judged AllAfter)
    → length ts ≤ i → following in_front front (judge_stms a s (stms_of (map stm_of (drop i ts)))) ≡ whole
    → whole ≡ Ok (record { scene = s; stms = core.stms_of front })
unfolding judge_stms
stms_end front a s ts i whole over so_far =
    sym so_far
    ∙ ap (λ (rest : List _). following in_front front (judge_stms a s (stms_of rest))) (rest_none stm_of ts i over)
    ∙ after_ends in_front front (record { scene = s; stms = core.no_stms })
    ∙ ap (λ (b : AllAfter). Ok b) (put_stms s front)

params_turn : (s : Scene) (ps : List Param) (i : ℕ) (p : Param) → i < length ps → p ≡ get_or ps i p
    → judge_parameters s (params_of (map param_of (drop i ps)))
    ≡ (judge_type s.blocks (type_of p.of) >>= λ u. with_variable p.name u s
    >>= λ t. judge_parameters t (params_of (map param_of (drop (i + 1) ps))))
unfolding judge_parameters
params_turn s ps i p within is =
    rw (rest_more param_of ps i p within is)
    (ap (λ (f : Shape → Judged Scene). judge_type s.blocks (type_of p.of) >>= f) (fun_ext (λ u.
    assoc (names.declare p.name (names.variable (length s.locals) u) s.blocks)
    (λ blocks. Ok (record { blocks = blocks; locals = s.locals ++ u ∷ [] }))
    (λ t. judge_parameters t (params_of (map param_of (drop (i + 1) ps)))))))

pub param_type_fails : (s : Scene) (ps : List Param) (i : ℕ) (p : Param) (e : JudgeError) (whole : Judged Scene)
    → i < length ps → p ≡ get_or ps i p → Stops e (judge_type s.blocks (type_of p.of))
    → judge_parameters s (params_of (map param_of (drop i ps))) ≡ whole → Stops e whole
param_type_fails s ps i p e whole within is h so_far =
    stops_then e _ _ whole h (sym (params_turn s ps i p within is) ∙ so_far)

pub param_fails : (s : Scene) (ps : List Param) (i : ℕ) (p : Param) (u : Shape) (e : JudgeError)
    (whole : Judged Scene) → i < length ps → p ≡ get_or ps i p → judge_type s.blocks (type_of p.of) ≡ Ok u
    → Stops e (with_variable p.name u s) → judge_parameters s (params_of (map param_of (drop i ps))) ≡ whole
    → Stops e whole
param_fails s ps i p u e whole within is typed h so_far =
    stops_then e (with_variable p.name u s)
    (λ t. judge_parameters t (params_of (map param_of (drop (i + 1) ps)))) whole h
    (goes_on _ (λ u. with_variable p.name u s
    >>= λ t. judge_parameters t (params_of (map param_of (drop (i + 1) ps)))) whole u typed
    (sym (params_turn s ps i p within is) ∙ so_far))

pub params_go : (s t : Scene) (ps : List Param) (i : ℕ) (p : Param) (u : Shape) (whole : Judged Scene) → i < length ps
    → p ≡ get_or ps i p → judge_type s.blocks (type_of p.of) ≡ Ok u → with_variable p.name u s ≡ Ok t
    → judge_parameters s (params_of (map param_of (drop i ps))) ≡ whole
    → judge_parameters t (params_of (map param_of (drop (i + 1) ps))) ≡ whole
params_go s t ps i p u whole within is typed h so_far =
    goes_on (with_variable p.name u s) (λ t. judge_parameters t (params_of (map param_of (drop (i + 1) ps)))) whole t h
    (goes_on _ (λ u. with_variable p.name u s
    >>= λ t. judge_parameters t (params_of (map param_of (drop (i + 1) ps)))) whole u typed
    (sym (params_turn s ps i p within is) ∙ so_far))

pub params_end : (s : Scene) (ps : List Param) (i : ℕ) (whole : Judged Scene) → length ps ≤ i
    → judge_parameters s (params_of (map param_of (drop i ps))) ≡ whole → whole ≡ Ok s
unfolding judge_parameters
params_end s ps i whole over so_far =
    sym so_far ∙ ap (λ (rest : List _). judge_parameters s (params_of rest)) (rest_none param_of ps i over)
