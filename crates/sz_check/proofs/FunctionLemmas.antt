-- Declarations of functions, by their parts.
use Rattle.std.proofs.Common.{◌≡◌, ℕ, ◌+◌, ◌<◌, ◌≤◌, List, [], ◌∷◌, ◌++◌, length, get_or, drop, map, Bool, true, false}
use Rattle.std.proofs.Common.{refl, sym, ap, ◌∙◌, subst, append_assoc, arith}
use Rattle.std.proofs.Math.Path.{fun_ext}
use Rattle.std.proofs.lemmas.List.{append-nil, length-drop}
use Rattle.std.specs.Prelude.{Ok, Err, if◌then◌else◌, min}
use Rattle.sz_types.specs.Data.{Shape}
use Rattle.sz_types.specs.Seen.{seen}
use Rattle.sz_types.specs.declared.ty.Ty.{Ty}
use Rattle.sz_tree.specs.declared.types.Param.{Param}
use Rattle.sz_tree.specs.Names.{Ident}
use Rattle.sz_tree.specs.Statements.{Stms}
use Rattle.sz_tree.specs.Types.{Typ, Params, no_params, param, params_of}
use Rattle.sz_tree.specs.View.{param_of}
use Rattle.sz_core.specs.Programs.{Signature}
use Rattle.sz_check_rules.specs.Refusals.{Judged, ◌>>=◌, declared_twice}
use Rattle.sz_check_rules.specs.Names.{Named, Block, has, only, is_seen_by_functions}
use Rattle.sz_check_rules.specs.Names as names
use Rattle.sz_check_rules.specs.JudgingTypes.{judge_type}
use Rattle.sz_check_rules.specs.Scene.{Scene, with_variable}
use Rattle.sz_check_rules.specs.EmittingTrees.{emits_by, stms_emit}
use Rattle.sz_check_rules.specs.JudgingStatements.{judge_stms}
use Rattle.sz_check_rules.specs.JudgingPrograms.{TopScene, Found, blocks_of, judge_parameters, innermost_on, in_function, judge_function}
use Rattle.sz_check.specs.Functions.{front_of, judge_header, declare_parameters, Body, judge_body, finished, judge_function_by_parts}
use Rattle.sz_check_names.specs.Outcome.{Stops}
use Rattle.sz_check_names.specs.declared.error.JudgeError.{JudgeError}
use Rattle.sz_check_rules.proofs.Holds.{good, good_is}
use Rattle.sz_check_names.proofs.TurnLemmas.{stops_then, goes_on}
use Rattle.sz_types.proofs.ForCallers.{rest_more}
use Rattle.sz_check.proofs.StatementLoops.{assoc}

-- a scene with this innermost block
abbrev on : Block → List Block → List Shape → Scene
on b others locals = record { blocks = b ∷ others; locals = locals }

-- a scene with the innermost block of another, on others
abbrev moved : Scene → List Block → Scene
moved s others = record { blocks = innermost_on s.blocks others; locals = s.locals }

-- parameters that were judged are declared with the types that they were judged to have, whatever is round the
-- innermost block
record AreDeclared (ps : Params) (b : Block) (locals : List Shape) (front : Scene) : Type 0 where
  types : List Shape
  grown : front.locals ≡ locals ++ types
  declared : (others : List Block) → declare_parameters (on b others locals) ps types ≡ good (moved front others)

-- parameters, from the innermost block and the variables so far
abbrev AllDeclare : Params → Type 0
AllDeclare ps =
    (b : Block) (bs : List Block) (locals : List Shape) (front : Scene)
    → judge_parameters (on b bs locals) ps ≡ good front → AreDeclared ps b locals front

module _ (n : Ident) (t : Typ) (ps : Params) (rest : AllDeclare ps) (b : Block) (bs : List Block)
    (locals : List Shape) (front : Scene) where
  abbrev named : Shape → Named
  named u = record { name = n.text; meaning = names.variable (length locals) u }

  -- the parameters after one of this type
  abbrev following : Shape → List Block → Judged Scene
  following u blocks = judge_parameters (record { blocks = blocks; locals = locals ++ u ∷ [] }) ps

  by_test : (u : Shape) (c : Bool) → has n.text b ≡ c
      → ((if c then declared_twice n else good ((named u ∷ b) ∷ bs)) >>= following u) ≡ good front
      → AreDeclared (param n t ps) b locals front
  unfolding declare_parameters
  by_test u true e h = absurd cc
  by_test u false e h =
      let are = rest (named u ∷ b) bs (locals ++ u ∷ []) front h in
      record {
        types = u ∷ are.types;
        grown = are.grown ∙ append_assoc locals (u ∷ []) are.types;
        declared = λ others. rw e (are.declared others);
      }

  by_type : (j : Judged Shape)
      → (j >>= λ u. names.declare n (names.variable (length locals) u) (b ∷ bs) >>= following u) ≡ good front
      → AreDeclared (param n t ps) b locals front
  by_type (Ok u) h = by_test u (has n.text b) refl h
  by_type (Err r) h = absurd cc

all_declare : (ps : Params) → AllDeclare ps
unfolding judge_parameters declare_parameters
all_declare no_params b bs locals front h =
    subst (AreDeclared no_params b locals) (good_is h)
    (record { types = []; grown = sym (append-nil locals); declared = λ others. refl })
all_declare (param n t ps) b bs locals front h =
    by_type n t ps (all_declare ps) b bs locals front (judge_type (b ∷ bs) t) h

-- what was judged in front of a function's own name is declared after it
declared_again : (ps : Params) (blocks own : List Block) (front : Scene)
    → judge_parameters (front_of blocks) ps ≡ good front
    → declare_parameters (front_of own) ps front.locals ≡ good (moved front (only is_seen_by_functions own))
declared_again ps blocks own front h =
    let are = all_declare ps [] (only is_seen_by_functions blocks) [] front h in
    ap (declare_parameters (front_of own) ps) are.grown ∙ are.declared (only is_seen_by_functions own)

module _ (k : TopScene) (n : Ident) (ps : Params) (t : Typ) (ss : Stms) where
  -- the signature
  abbrev signature : Scene → Shape → Signature
  signature front u = record {
    parameters = front.locals;
    result = u;
    emits = stms_emit (emits_by front.blocks) (n.text ∷ []) ss;
  }

  -- what is after the parameters and the result: as it is judged, and by parts
  abbrev whole : Scene → Shape → Judged Found
  whole front u =
      names.declare n (names.function (length k.functions) (signature front u)) (blocks_of k) >>= λ own.
      judge_stms (in_function u) (moved front (only is_seen_by_functions own)) ss >>= λ body.
      Ok (finished k own (signature front u) (record { locals = body.scene.locals; statements = body.stms }))

  abbrev by_parts : Signature → Judged Found
  by_parts s =
      names.declare n (names.function (length k.functions) s) (blocks_of k) >>= λ own. judge_body own ps s ss
      >>= λ body. Ok (finished k own s body)

  whole_is : (front : Scene) (u : Shape) → judge_parameters (front_of (blocks_of k)) ps ≡ good front
      → whole front u ≡ by_parts (signature front u)
  whole_is front u h =
      ap (λ (f : List Block → Judged Found).
      names.declare n (names.function (length k.functions) (signature front u)) (blocks_of k) >>= f) (fun_ext (λ own.
      rw (declared_again ps (blocks_of k) own front h)
      (assoc (judge_stms (in_function u) (moved front (only is_seen_by_functions own)) ss)
      (λ body. Ok (record { locals = body.scene.locals; statements = body.stms }))
      (λ body. Ok (finished k own (signature front u) body)))))

  by_result : (front : Scene) → judge_parameters (front_of (blocks_of k)) ps ≡ good front → (j : Judged Shape)
      → (j >>= λ u. whole front u) ≡ ((j >>= λ u. Ok (signature front u)) >>= by_parts)
  by_result front h (Ok u) = whole_is front u h
  by_result front h (Err r) = refl

  by_front : (j : Judged Scene) → judge_parameters (front_of (blocks_of k)) ps ≡ j
      → (j >>= λ front. judge_type front.blocks t >>= λ u. whole front u)
      ≡ ((j >>= λ front. judge_type front.blocks t >>= λ u. Ok (signature front u)) >>= by_parts)
  by_front (Ok front) h = by_result front h (judge_type front.blocks t)
  by_front (Err r) h = refl

-- a function is judged by its parts
function_is : (k : TopScene) (n : Ident) (ps : Params) (t : Typ) (ss : Stms)
    → judge_function k n ps t ss ≡ judge_function_by_parts k n ps t ss
function_is k n ps t ss = by_front k n ps t ss (judge_parameters (front_of (blocks_of k)) ps) refl

-- ---- a function whose header is judged and whose own name is declared

module _ (k : TopScene) (n : Ident) (ps : Params) (t : Typ) (ss : Stms) (s : Signature) (number : ℕ)
    (blocks own : List Block) (header : judge_header (blocks_of k) n ps t ss ≡ Ok s)
    (next : number ≡ length k.functions) (same : blocks ≡ blocks_of k)
    (is : names.declare n (names.function number s) blocks ≡ Ok own) where
  -- its statements are left
  left : (judge_body own ps s ss >>= λ body. Ok (finished k own s body)) ≡ judge_function k n ps t ss
  left =
      let here : names.declare n (names.function (length k.functions) s) (blocks_of k) ≡ Ok own =
      subst (λ (bs : List Block). names.declare n (names.function (length k.functions) s) bs ≡ Ok own) same
      (subst (λ (m : ℕ). names.declare n (names.function m s) blocks ≡ Ok own) next is) in
      goes_on (names.declare n (names.function (length k.functions) s) (blocks_of k))
      (λ bs. judge_body bs ps s ss >>= λ body. Ok (finished k bs s body)) (judge_function k n ps t ss) own here
      (goes_on (judge_header (blocks_of k) n ps t ss) (by_parts k n ps t ss) (judge_function k n ps t ss) s header
      (sym (function_is k n ps t ss)))

  -- a refusal of its statements is that of the function
  pub body_fails : (e : JudgeError) → Stops e (judge_body own ps s ss) → Stops e (judge_function k n ps t ss)
  body_fails e h =
      stops_then e (judge_body own ps s ss) (λ body. Ok (finished k own s body)) (judge_function k n ps t ss) h left

  -- what its statements make of it is the function
  pub body_makes : (body : Body) → judge_body own ps s ss ≡ Ok body
      → judge_function k n ps t ss ≡ Ok (finished k own s body)
  body_makes body made = sym (goes_on (judge_body own ps s ss) (λ body. Ok (finished k own s body))
      (judge_function k n ps t ss) body made left)

-- what is made of a function goes by these
pub finished_same : (k j : TopScene) (own more : List Block) (s : Signature) (body : Body)
    → k.scene.locals ≡ j.scene.locals → k.tables ≡ j.tables
    → k.statics ≡ j.statics → k.functions ≡ j.functions → own ≡ more → finished k own s body ≡ finished j more s body
finished_same k j own more s body locals tables statics functions blocks i =
    finished (record {
      scene = record { blocks = []; locals = locals i };
      tables = tables i;
      statics = statics i;
      functions = functions i;
    }) (blocks i) s body

-- ---- turns of the loop over parameters whose types are known

module _ (s : Scene) (ps : List Param) (us : List Ty) (i : ℕ) where
  -- the parameters from here on
  abbrev rest : Scene → ℕ → Judged Scene
  rest t j = declare_parameters t (params_of (map param_of (drop j ps))) (map seen (drop j us))

  declare_turn : (p : Param) (u : Ty) → i < length ps → i < length us → p ≡ get_or ps i p → u ≡ get_or us i u
      → rest s i ≡ (with_variable p.name (seen u) s >>= λ t. rest t (i + 1))
  unfolding declare_parameters
  declare_turn p u within_ps within_us p_is u_is =
      rw (rest_more param_of ps i p within_ps p_is, rest_more seen us i u within_us u_is) refl

  -- a parameter that is refused stops all, with a copy of its type
  pub declare_fails : (p : Param) (u : Ty) (v : Shape) (e : JudgeError) (whole : Judged Scene) → i < length ps
      → i < length us → p ≡ get_or ps i p
      → u ≡ get_or us i u → v ≡ seen u → Stops e (with_variable p.name v s) → rest s i ≡ whole → Stops e whole
  declare_fails p u v e whole within_ps within_us p_is u_is same h so_far =
      stops_then e (with_variable p.name (seen u) s) (λ t. rest t (i + 1)) whole
      (subst (λ w. Stops e (with_variable p.name w s)) same h)
      (sym (declare_turn p u within_ps within_us p_is u_is) ∙ so_far)

  -- a parameter that is declared leaves the others
  pub declare_goes : (t : Scene) (p : Param) (u : Ty) (v : Shape) (whole : Judged Scene) → i < length ps
      → i < length us → p ≡ get_or ps i p
      → u ≡ get_or us i u → v ≡ seen u → with_variable p.name v s ≡ Ok t → rest s i ≡ whole → rest t (i + 1) ≡ whole
  declare_goes t p u v whole within_ps within_us p_is u_is same h so_far =
      goes_on (with_variable p.name (seen u) s) (λ t. rest t (i + 1)) whole t
      (subst (λ w. with_variable p.name w s ≡ Ok t) same h)
      (sym (declare_turn p u within_ps within_us p_is u_is) ∙ so_far)

  ended : (ps : List Param) (us : List Ty) → min (length ps) (length us) ≤ 0
      → declare_parameters s (params_of (map param_of ps)) (map seen us) ≡ Ok s
  unfolding declare_parameters
  ended [] us h = refl
  ended (p ∷ ps) [] h = refl
  ended (p ∷ ps) (u ∷ us) h = absurd (omega (arith, h))

  -- nothing is left
  pub declare_ends : (whole : Judged Scene) → min (length ps) (length us) ≤ i → rest s i ≡ whole → whole ≡ Ok s
  declare_ends whole over so_far =
      sym so_far ∙ ended (drop i ps) (drop i us) (omega (arith, over, length-drop i ps, length-drop i us))
