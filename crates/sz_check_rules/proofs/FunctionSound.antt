-- Functions that are judged are sound.
use Rattle.std.proofs.Common.{◌≡◌, ℕ, true, false, List, [], ◌∷◌, ◌++◌, length, true≢false, refl, sym, ap, ◌∙◌, subst, arith}
use Rattle.std.specs.Prelude.{◌&&◌}
use Rattle.std.specs.List.{Contains}
use Rattle.sz_types.specs.Data.{Shape}
use Rattle.sz_tree.specs.Names.{Ident}
use Rattle.sz_tree.specs.Types.{Typ, Params}
use Rattle.sz_tree.specs.Statements.{Stms}
use Rattle.sz_core.specs.Programs.{Signature, Function}
use Rattle.sz_core.specs.Programs as items
use Rattle.sz_core.specs.Emitting.{body_emits}
use Rattle.sz_core.specs.Typing.{Sight}
use Rattle.sz_core.specs.Sound.{BeginsWith, Declared, record_sight, first_numbers, IsFunction, AreItems}
use Rattle.sz_check_rules.specs.Names.{Block, Meaning, only, is_seen_by_functions}
use Rattle.sz_check_rules.specs.Names as names
use Rattle.sz_check_rules.specs.JudgingTypes.{judge_type}
use Rattle.sz_check_rules.specs.Scene.{Scene}
use Rattle.sz_check_rules.specs.Scenes.{AllAfter}
use Rattle.sz_check_rules.specs.EmittingTrees.{emits_by, stms_emit}
use Rattle.sz_check_rules.specs.JudgingStatements.{judge_stms}
use Rattle.sz_check_rules.specs.JudgingPrograms.{TopScene, blocks_of, with_blocks, innermost_on, in_function, judge_function}
use Rattle.sz_check_rules.proofs.Holds.{Holds, good, ok_holds, bind_holds, known, both_hold}
use Rattle.sz_check_rules.proofs.Meanings.{Mean, declared, kept_only, all_follow}
use Rattle.sz_check_rules.proofs.Sights.{IsFormed, AreFormed, IsCalled, Fits, AllFit}
use Rattle.sz_check_rules.proofs.TypeSound.{type_formed}
use Rattle.sz_check_rules.proofs.SceneLemmas.{Sees, begins_itself, get_before}
use Rattle.sz_check_rules.proofs.ItemLemmas.{IsKnown, AreParameters, parameters_hold, innermost_fit, first_are_seen, first_are_below}
use Rattle.sz_check_rules.proofs.StatementSound.{statements_sound}
use Rattle.sz_check_rules.proofs.StatementEmits.{statements_do}
use Rattle.sz_check_rules.proofs.FunctionEmits.{AreVariables, parameters_stand, AllExact, all_exact, agree_inside}
use Rattle.sz_check_rules.proofs.TopLemmas.{Knows, IsFoundAfter, with_function, more_functions, sees_on, last_is, declares}

-- what is seen in a function with these variables, of which so many are parameters
abbrev inside : Declared → Signature → List Shape → ℕ → Sight
inside d f locals count = record {
  locals = locals;
  seen = first_numbers count;
  fixed = [];
  statics = d.statics;
  functions = d.functions ++ f ∷ [];
  tables = d.tables;
  input = false;
  may_emit = true;
}

-- what a function sees is true of it
abbrev InFunction : Sight → Meaning → Type 0
InFunction h m = is_seen_by_functions m ≡ true → Fits h m

seen_by_function : (locals : List Shape) (seen : List ℕ) (d : Declared) (s : Signature) (variables : List Shape)
    (count : ℕ) (m : Meaning) → Fits (record_sight locals seen d) m → InFunction (inside d s variables count) m
seen_by_function locals seen d s variables count (names.variable n t) f is = absurd (true≢false (sym is))
seen_by_function locals seen d s variables count (names.quantified n t) f is = absurd (true≢false (sym is))
seen_by_function locals seen d s variables count (names.static n t) f is = record { here = f.here; formed = f.formed }
seen_by_function locals seen d s variables count (names.type_name t) f is = f
seen_by_function locals seen d s variables count (names.table n e) f is = record {
  here = f.here;
  indexes = f.indexes;
  element = f.element;
  weight = f.weight;
}
seen_by_function locals seen d s variables count (names.function n r) f is =
    record { here = get_before d.functions (s ∷ []) n r f.here; takes = f.takes; gives = f.gives }
seen_by_function locals seen d s variables count (names.predeclared b) f is = tt
seen_by_function locals seen d s variables count names.input f is = absurd (true≢false (sym is))

-- nothing is in a list of none
none_in : (n : ℕ) → Contains [] n → ⊥
none_in n c = absurd (omega (arith, c.1))

-- what is kept of the blocks is true of what the function sees
kept_fits : (h : Sight) (blocks : List Block) → Mean (InFunction h) blocks → AllFit h (only is_seen_by_functions blocks)
kept_fits h blocks fits = kept_only is_seen_by_functions (InFunction h) (Fits h) (λ m kept f. f kept) blocks fits

-- where a function's parameters begin
abbrev start : TopScene → Scene
start k = record { blocks = [] ∷ only is_seen_by_functions (blocks_of k); locals = [] }

-- its signature
abbrev signature_of : Ident → Stms → Scene → Shape → Signature
signature_of n ss front u = record {
  parameters = front.locals;
  result = u;
  emits = stms_emit (emits_by front.blocks) (n.text ∷ []) ss;
}

-- where its statements begin
abbrev within : Scene → List Block → Scene
within front own = record { blocks = innermost_on front.blocks (only is_seen_by_functions own); locals = front.locals }

-- how a function was judged
record IsJudged (k : TopScene) (n : Ident) (t : Typ) (ss : Stms) (front : Scene) (u : Shape) (own : List Block)
    (body : AllAfter) : Type 0 where
  parameters : AreParameters (start k) front
  stand : AreVariables (start k) front
  result : judge_type front.blocks t ≡ good u
  named : names.declare n (names.function (length k.functions) (signature_of n ss front u)) (blocks_of k) ≡ good own
  statements : judge_stms (in_function u) (within front own) ss ≡ good body

-- its types are well formed
record IsFormedFunction (front : Scene) (u : Shape) : Type 0 where
  takes : AreFormed front.locals
  gives : IsFormed u

module _ (k : TopScene) (n : Ident) (t : Typ) (ss : Stms) (front : Scene) (u : Shape) (own : List Block)
    (body : AllAfter)
    (is : IsJudged k n t ss front u own body) (locals : List Shape) (seen : List ℕ) (d : Declared)
    (knows : Knows locals seen d k) where
  abbrev sight : List Shape → Sight
  sight variables = inside d (signature_of n ss front u) variables (length front.locals)

  outside_fits : (variables : List Shape) → Mean (InFunction (sight variables)) (blocks_of k)
  outside_fits variables = all_follow (Fits (record_sight locals seen d)) (InFunction (sight variables))
      (seen_by_function locals seen d (signature_of n ss front u) variables (length front.locals))
      (blocks_of k) knows.sees.fit

  front_known : (variables : List Shape) → BeginsWith front.locals variables → IsKnown (sight variables) front
  front_known variables final =
      is.parameters.seen (sight variables) at_start final (first_are_seen (length front.locals))
    where
      at_start : IsKnown (sight variables) (start k)
      at_start = record {
        fit = (tt, kept_fits (sight variables) (blocks_of k) (outside_fits variables));
        formed = refl;
        free = none_in;
      }

  function_formed : IsFormedFunction front u
  function_formed =
      let first = front_known front.locals (begins_itself front.locals) in
      record {
        takes = first.formed;
        gives = (type_formed (sight front.locals) front.blocks first.fit t).holds u is.result;
      }

  own_fits : (variables : List Shape) → AllFit (sight variables) (only is_seen_by_functions own)
  own_fits variables = kept_fits (sight variables) own (with_itself.holds own is.named)
    where
      itself : IsCalled (sight variables) (length k.functions) (signature_of n ss front u)
      itself = record {
        here = last_is d.functions (signature_of n ss front u) (length k.functions) (ap length knows.functions);
        takes = function_formed.takes;
        gives = function_formed.gives;
      }

      with_itself : Holds
          (names.declare n (names.function (length k.functions) (signature_of n ss front u)) (blocks_of k))
          (Mean (InFunction (sight variables)))
      with_itself = declared (InFunction (sight variables)) n
          (names.function (length k.functions) (signature_of n ss front u)) (blocks_of k) (λ kept. itself)
          (outside_fits variables)

  -- its statements emit as their trees do
  body_agrees : stms_emit (emits_by front.blocks) (n.text ∷ []) ss ≡ body_emits k.functions body.stms
  body_agrees =
      sym ((statements_do k.functions (emits_by front.blocks) (n.text ∷ []) (in_function u) (within front own) ss
      (agree_inside k.functions n _ front (blocks_of k) own is.stand exact is.named)).holds body is.statements).stms
    where
      exact : AllExact k.functions (blocks_of k)
      exact = subst (λ fs. AllExact fs (blocks_of k)) (sym knows.functions)
          (all_exact (record_sight locals seen d) (blocks_of k) knows.sees.fit)

  function_is_sound : IsFunction d
      (record { signature = signature_of n ss front u; locals = body.scene.locals; body = body.stms })
  function_is_sound =
      let following =
      (statements_sound (in_function u) (within front own) ss function_formed.gives).holds body is.statements in
      let known_front = front_known body.scene.locals following.grows in
      let sees : Sees (sight body.scene.locals) (within front own) = record {
        fit = innermost_fit (sight body.scene.locals) front.blocks (only is_seen_by_functions own) known_front.fit
            (own_fits body.scene.locals);
        formed = known_front.formed;
        emits = refl;
        numbers = first_are_below (length front.locals);
        fixed = tt;
      } in
      let here = following.are_sound (sight body.scene.locals) sees (begins_itself body.scene.locals) in
      record {
        parameters = following.grows;
        types = λ i. function_formed.gives i && here.formed i;
        emits = body_agrees ∙ ap (λ fs. body_emits fs body.stms) knows.functions;
        body = here.stms;
      }

-- a function that is judged is sound
pub function_sound : (k : TopScene) (n : Ident) (ps : Params) (t : Typ) (ss : Stms)
    → Holds (judge_function k n ps t ss) (IsFoundAfter k)
unfolding AreItems
function_sound k n ps t ss =
    bind_holds (both_hold (parameters_hold (start k) ps) (parameters_stand (start k) ps)) (λ front parameters.
    bind_holds (known (judge_type front.blocks t)) (λ u is_type.
    bind_holds (known
    (names.declare n (names.function (length k.functions) (signature_of n ss front u)) (blocks_of k))) (λ own is_own.
    bind_holds (known (judge_stms (in_function u) (within front own) ss)) (λ body is_body.
    let signature = signature_of n ss front u in
    let item : Function = record { signature = signature; locals = body.scene.locals; body = body.stms } in
    let following : TopScene = record (with_blocks k own) { functions = k.functions ++ signature ∷ [] } in
    ok_holds (IsFoundAfter k) (record { known = following; items = items.function item ∷ [] }) (record {
      grows = begins_itself k.scene.locals;
      carries = λ locals seen d knows final.
          let is : IsJudged k n t ss front u own body = record {
            parameters = parameters.0;
            stand = parameters.1;
            result = is_type;
            named = is_own;
            statements = is_body;
          } in
          let h = record_sight locals seen (with_function signature d) in
          let formed = function_formed k n t ss front u own body is locals seen d knows in
          let called : IsCalled h (length k.functions) signature = record {
            here = last_is d.functions signature (length k.functions) (ap length knows.functions);
            takes = formed.takes;
            gives = formed.gives;
          } in
          record {
            seen_there = seen;
            there = with_function signature d;
            knows = record {
              sees = declares h n (names.function (length k.functions) signature) k own is_own called
                  (sees_on locals seen d (with_function signature d) k.scene (more_functions d signature) knows.sees);
              tables = knows.tables;
              statics = knows.statics;
              functions = ap (λ fs. fs ++ signature ∷ []) knows.functions;
            };
            items = λ rest are. (function_is_sound k n t ss front u own body is locals seen d knows, are);
          };
    })))))
