-- Which names call what emits inside a function, as its header knows it and as its statements do.
use Rattle.std.proofs.Common.{◌≡◌, ℕ, ◌++◌, Bool, true, false, List, [], ◌∷◌, length, Option, Some, None, refl, sym, ap, ◌∙◌, subst}
use Rattle.std.specs.Prelude.{◌&&◌, ◌||◌, not, slice_get, bytes_eq, if◌then◌else◌, IfSome}
use Rattle.std.specs.Option.{option_or}
use Rattle.sz_types.specs.Data.{Shape}
use Rattle.sz_tree.specs.Names.{Ident}
use Rattle.sz_tree.specs.Types.{Params, no_params, param}
use Rattle.sz_core.specs.Programs.{Signature}
use Rattle.sz_core.specs.Emitting.{is_emitting}
use Rattle.sz_core.specs.Typing.{Sight}
use Rattle.sz_check_rules.specs.Names.{Block, Meaning, Named, meaning_in, meaning_of, only, is_seen_by_functions}
use Rattle.sz_check_rules.specs.Names as names
use Rattle.sz_check_rules.specs.JudgingTypes.{judge_type}
use Rattle.sz_check_rules.specs.Scene.{Scene}
use Rattle.sz_check_rules.specs.EmittingTrees.{means_emitting, emits_by}
use Rattle.sz_check_rules.specs.JudgingPrograms.{judge_parameters, innermost_on}
use Rattle.sz_check_rules.proofs.Holds.{Holds, good, ok_holds, err_holds, bind_holds, known, weaker, if_holds}
use Rattle.sz_check_rules.proofs.Meanings.{MeansIn, Mean, found_in, found, all_follow, kept_only}
use Rattle.sz_check_rules.proofs.Sights.{Fits, AllFit}
use Rattle.sz_check_rules.proofs.ExpressionEmits.{by_signatures, Agrees}
use Rattle.sz_check_rules.proofs.TruthLemmas.{and_true, and_false}

-- ---- parameters

-- the name is that of a variable
abbrev IsVariable : Meaning → Type 0
IsVariable (names.variable k t) = Unit {0}
IsVariable _ = ⊥

-- the innermost block
abbrev innermost : List Block → Block
innermost [] = []
innermost (block ∷ blocks) = block

-- what is round it
abbrev round : List Block → List Block
round [] = []
round (block ∷ blocks) = blocks

-- after parameters there are variables alone in the innermost block, and round it is what was there
pub record AreVariables (s after : Scene) : Type 0 where
  pub inside : MeansIn IsVariable (innermost s.blocks) → MeansIn IsVariable (innermost after.blocks)
  pub outside : (block : Block) (blocks : List Block) → s.blocks ≡ block ∷ blocks
      → after.blocks ≡ innermost after.blocks ∷ blocks

variable_stands : (n : Ident) (k : ℕ) (t : Shape) (s : Scene) (locals : List Shape)
    → Holds (names.declare n (names.variable k t) s.blocks)
    (λ blocks. AreVariables s (record { blocks = blocks; locals = locals }))
variable_stands n k t s locals = by s.blocks refl
  where
    here : Named
    here = record { name = n.text; meaning = names.variable k t }

    Stands : List Block → Type 0
    Stands blocks = AreVariables s (record { blocks = blocks; locals = locals })

    by : (bs : List Block) → s.blocks ≡ bs → Holds (names.declare n (names.variable k t) bs) Stands
    by [] e =
        ok_holds Stands _ (record { inside = λ all. (tt, tt); outside = λ block blocks f. absurd (none (sym e ∙ f)) })
      where
        none : {x : Block} {xs : List Block} → ◌≡◌ {A = List Block} [] (x ∷ xs) → ⊥
        none h = cc
    by (b ∷ bs) e = if_holds _ (λ twice. err_holds _ _) (λ free. ok_holds Stands _ (record {
      inside = λ all. (tt, subst (λ (x : List Block). MeansIn IsVariable (innermost x)) e all);
      outside = λ block blocks f. ap (λ (x : List Block). (here ∷ b) ∷ round x) (sym e ∙ f);
    }))

stand_on : (s next after : Scene) → AreVariables s next → AreVariables next after → AreVariables s after
stand_on s next after h k = record {
  inside = λ all. k.inside (h.inside all);
  outside = λ block blocks e. k.outside (innermost next.blocks) blocks (h.outside block blocks e);
}

pub parameters_stand : (s : Scene) (ps : Params) → Holds (judge_parameters s ps) (AreVariables s)
unfolding judge_parameters
parameters_stand s no_params = ok_holds (AreVariables s) s (record {
  inside = λ all. all;
  outside = λ block blocks e. e ∙ ap (λ (x : List Block). innermost x ∷ blocks) (sym e);
})
parameters_stand s (param n t ps) = bind_holds (known (judge_type s.blocks t)) (λ u typed.
    bind_holds (variable_stands n (length s.locals) u s (s.locals ++ u ∷ [])) (λ blocks first.
    let next : Scene = record { blocks = blocks; locals = s.locals ++ u ∷ [] } in
    weaker (parameters_stand next ps) (λ after rest. stand_on s next after first rest)))

-- ---- what is outside

-- what a name stands for emits as the signatures say
abbrev IsExact : List Signature → Meaning → Type 0
IsExact fs m = means_emitting (Some m) ≡ by_signatures fs (Some m)

abbrev pub AllExact : List Signature → List Block → Type 0
AllExact fs blocks = Mean (IsExact fs) blocks

exact : (g : Sight) (m : Meaning) → Fits g m → IsExact g.functions m
exact g (names.variable n t) f = refl
exact g (names.quantified n t) f = refl
exact g (names.static n t) f = refl
exact g (names.type_name t) f = refl
exact g (names.table n d) f = refl
exact g (names.function n s) f = sym (ap is_emitting f.here)
exact g (names.predeclared b) f = refl
exact g names.input f = refl

pub all_exact : (g : Sight) (blocks : List Block) → AllFit g blocks → AllExact g.functions blocks
all_exact g blocks f = all_follow (Fits g) (IsExact g.functions) (exact g) blocks f

-- ---- inside

-- a name that stands for a variable, or for nothing, calls nothing
silent : (o : Option Meaning) → IfSome o IsVariable
    → (means_emitting o ≡ false) × ((fs : List Signature) → by_signatures fs o ≡ false)
silent None h = (refl, λ fs. refl)
silent (Some (names.variable k t)) h = (refl, λ fs. refl)
silent (Some (names.quantified k t)) h = absurd h
silent (Some (names.static k t)) h = absurd h
silent (Some (names.type_name t)) h = absurd h
silent (Some (names.table k d)) h = absurd h
silent (Some (names.function k s)) h = absurd h
silent (Some (names.predeclared b)) h = absurd h
silent (Some names.input) h = absurd h

same_if_some : (fs : List Signature) (o : Option Meaning) → IfSome o (IsExact fs)
    → means_emitting o ≡ by_signatures fs o
same_if_some fs None h = refl
same_if_some fs (Some m) h = h

-- the next function isn't among those before it
next_is_none : (fs : List Signature) → is_emitting (slice_get fs (length fs)) ≡ false
next_is_none [] = refl
next_is_none (f ∷ fs) = next_is_none fs

-- what the function's own name adds to what is kept of the blocks
own_name : (name : List ℕ) (fs : List Signature) (n : Ident) (s : Signature) (blocks own : List Block) (emits : Bool)
    → names.declare n (names.function (length fs) s) blocks ≡ good own
    → emits ≡ by_signatures fs (meaning_of name (only is_seen_by_functions blocks))
    → (emits && not (bytes_eq name n.text || false))
    ≡ by_signatures fs (meaning_of name (only is_seen_by_functions own))
own_name name fs n s blocks own emits h same = (declared blocks same).holds own h
  where
    Goal : List Block → Type 0
    Goal own = (emits && not (bytes_eq name n.text || false))
        ≡ by_signatures fs (meaning_of name (only is_seen_by_functions own))

    by : (c : Bool) (block : Option Meaning) (rest : Option Meaning) → emits ≡ by_signatures fs (option_or block rest)
        → (emits && not (c || false))
        ≡ by_signatures fs (option_or (if c then Some (names.function (length fs) s) else block) rest)
    by true block rest e = and_false emits ∙ sym (next_is_none fs)
    by false block rest e = and_true emits ∙ e

    declared : (blocks : List Block) → emits ≡ by_signatures fs (meaning_of name (only is_seen_by_functions blocks))
        → Holds (names.declare n (names.function (length fs) s) blocks) Goal
    declared [] e = ok_holds Goal _ (by (bytes_eq name n.text) None None e)
    declared (block ∷ blocks) e =
        if_holds _ (λ twice. err_holds _ _) (λ free. ok_holds Goal _ (by (bytes_eq name n.text) _ _ e))

-- names call what emits as the header knows it
pub agree_inside : (fs : List Signature) (n : Ident) (s : Signature) (front : Scene) (blocks own : List Block)
    → AreVariables (record { blocks = [] ∷ only is_seen_by_functions blocks; locals = [] }) front → AllExact fs blocks
    → names.declare n (names.function (length fs) s) blocks ≡ good own
    → Agrees fs (emits_by front.blocks) (n.text ∷ []) (innermost_on front.blocks (only is_seen_by_functions own))
agree_inside fs n s front blocks own stand exact named name =
    ap (λ (bs : List Block). emits_by bs name && not (bytes_eq name n.text || false)) front_is
    ∙ by (meaning_in name inner) (found_in IsVariable name inner (stand.inside tt))
    ∙ ap (λ (bs : List Block). by_signatures fs (meaning_of name (innermost_on bs (only is_seen_by_functions own))))
    (sym front_is)
  where
    inner : Block
    inner = innermost front.blocks

    front_is : front.blocks ≡ inner ∷ only is_seen_by_functions blocks
    front_is = stand.outside [] (only is_seen_by_functions blocks) refl

    outside : Option Meaning
    outside = meaning_of name (only is_seen_by_functions blocks)

    kept : Mean (IsExact fs) (only is_seen_by_functions blocks)
    kept = kept_only is_seen_by_functions (IsExact fs) (IsExact fs) (λ m is h. h) blocks exact

    by : (o : Option Meaning) → IfSome o IsVariable
        → (means_emitting (option_or o outside) && not (bytes_eq name n.text || false))
        ≡ by_signatures fs (option_or o (meaning_of name (only is_seen_by_functions own)))
    by None h = own_name name fs n s blocks own (means_emitting outside) named
        (same_if_some fs outside (found (IsExact fs) name (only is_seen_by_functions blocks) kept))
    by (Some m) h =
        let quiet = silent (Some m) h in
        ap (λ b. b && not (bytes_eq name n.text || false)) quiet.0 ∙ sym (quiet.1 fs)
