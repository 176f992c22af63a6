-- Parts of declarations at the top level: parameters, and the parts of tables.
use Rattle.std.proofs.Common.{◌≡◌, ◌≢◌, ℕ, zero, suc, ◌+◌, ◌<◌, Bool, true, false, List, [], ◌∷◌, ◌++◌, length, Option, Some, None, nat_eq, refl, sym, ap, ◌∙◌}
use Rattle.std.proofs.Common.{subst, arith}
use Rattle.std.specs.Prelude.{◌&&◌, IfSome}
use Rattle.std.specs.List.{Contains}
use Rattle.std.proofs.lemmas.Bool.{eqb-true, eqb-false}
use Rattle.std.proofs.lemmas.List.{length-append}
use Rattle.std.proofs.lemmas.List.Elements.{Contains-append_right}
use Rattle.sz_types.specs.Data.{Shape}
use Rattle.sz_types.specs.Tables.{Declaration}
use Rattle.sz_types.specs.declared.table.TableKind.{TableKind}
use Rattle.sz_tree.specs.Names.{Ident}
use Rattle.sz_tree.specs.Statements.{ElemForm}
use Rattle.sz_tree.specs.Types.{Typ, Params, no_params, param}
use Rattle.sz_core.specs.WellFormed.{is_allowed}
use Rattle.sz_core.specs.Typing.{Sight}
use Rattle.sz_core.specs.Sound.{BeginsWith, first_numbers}
use Rattle.sz_check_rules.specs.Names.{Block}
use Rattle.sz_check_rules.specs.Names as names
use Rattle.sz_check_rules.specs.JudgingTypes.{judge_type}
use Rattle.sz_check_rules.specs.Scene.{Scene}
use Rattle.sz_check_rules.specs.JudgingPrograms.{judge_elems, judge_weight, declaration_of, judge_parameters, innermost_on}
use Rattle.sz_check_rules.proofs.Holds.{Holds, good, ok_holds, err_holds, bind_holds, known, weaker, if_holds}
use Rattle.sz_check_rules.proofs.Meanings.{declared}
use Rattle.sz_check_rules.proofs.Sights.{IsFormed, AreFormed, IsVariable, Fits, AllFit}
use Rattle.sz_check_rules.proofs.TypeSound.{type_formed}
use Rattle.sz_check_rules.proofs.SceneLemmas.{begins_itself, begins_more, begins_on, begins_length, get_next, formed_more, AreBelow, below_more, HasVariable}

-- ---- tables

module _ (g : Sight) (blocks : List Block) (fit : AllFit g blocks) where
  -- the types of indexes and of weights are well formed
  pub elems_formed : (es : List ElemForm) → Holds (judge_elems blocks es) AreFormed
  unfolding judge_elems
  elems_formed [] = ok_holds AreFormed [] refl
  elems_formed (e ∷ es) = bind_holds (type_formed g blocks fit e.of) (λ t h. bind_holds (elems_formed es) (λ ts hs.
      ok_holds AreFormed (t ∷ ts) (λ i. h i && hs i)))

  pub weight_formed : (w : Option ElemForm) → Holds (judge_weight blocks w) (λ t. IfSome t IsFormed)
  weight_formed None = ok_holds (λ t. IfSome t IsFormed) None tt
  weight_formed (Some e) =
      bind_holds (type_formed g blocks fit e.of) (λ t h. ok_holds (λ t. IfSome t IsFormed) (Some t) h)

-- a declaration of these parts, which its kind allows
pub record IsDeclared (indexes : List Shape) (element : Shape) (weight : Option Shape) (d : Declaration) : Type 0 where
  pub allowed : is_allowed d ≡ true
  pub has_indexes : d.indexes ≡ indexes
  pub has_element : d.element ≡ element
  pub has_weight : d.weight ≡ weight

-- a declaration that is judged is of its parts, and allowed
pub declaration_holds : (n word : Ident) (kind : TableKind) (limit : Option ℕ) (indexes : List Shape)
    (element : Shape) (weight : Option Shape)
    → Holds (declaration_of n word kind limit indexes element weight) (IsDeclared indexes element weight)
declaration_holds n word kind None indexes element weight = err_holds _ _
declaration_holds n word kind (Some limit) indexes element weight =
    let d : Declaration = record {
      name = n.text;
      kind = kind;
      limit = limit;
      indexes = indexes;
      element = element;
      weight = weight;
    } in
    if_holds _ (λ allowed.
    ok_holds (IsDeclared indexes element weight) d
    (record { allowed = allowed; has_indexes = refl; has_element = refl; has_weight = refl }))
    (λ bad. err_holds _ _)

-- ---- parameters

-- what is known is seen
pub record IsKnown (g : Sight) (s : Scene) : Type 0 where
  pub fit : AllFit g s.blocks
  pub formed : AreFormed s.locals
  pub free : (n : ℕ) → Contains g.fixed n → ⊥

-- the first variables are seen, as many as these
abbrev pub AreSeen : Sight → List Shape → Type 0
AreSeen g ts = (n : ℕ) → n < length ts → Contains g.seen n

-- after parameters that were judged, what is known is seen where they are the first variables
pub record AreParameters (s after : Scene) : Type 0 where
  pub grows : BeginsWith s.locals after.locals
  pub seen : (g : Sight) → IsKnown g s → BeginsWith after.locals g.locals → AreSeen g after.locals → IsKnown g after

-- a parameter more in front
more_parameters : (s next after : Scene) (n : Ident) (t : Typ) (u : Shape) → judge_type s.blocks t ≡ good u
    → HasVariable n u s next → AreParameters next after → AreParameters s after
more_parameters s next after n t u is_type h rest =
    let growing : BeginsWith s.locals next.locals =
    subst (BeginsWith s.locals) (sym h.locals) (begins_more s.locals u) in
    let longer : length next.locals ≡ length s.locals + 1 = ap length h.locals ∙ length-append s.locals (u ∷ []) in
    record {
      grows = begins_on s.locals next.locals after.locals growing rest.grows;
      seen = λ g is final numbers.
          let formed = (type_formed g s.blocks is.fit t).holds u is_type in
          let here = begins_on next.locals after.locals g.locals rest.grows final in
          let variable : IsVariable g (length s.locals) u = record {
            readable = record {
              seen = numbers (length s.locals)
                  (omega (arith, longer, begins_length next.locals after.locals rest.grows));
              here = get_next s.locals g.locals u (subst (λ x. BeginsWith x g.locals) h.locals here);
              formed = formed;
            };
            free = is.free (length s.locals);
          } in
          let known_next : IsKnown g next = record {
            fit = (declared (Fits g) n (names.variable (length s.locals) u) s.blocks variable is.fit).holds
                next.blocks h.blocks;
            formed = subst AreFormed (sym h.locals) (formed_more s.locals u is.formed formed);
            free = is.free;
          } in
          rest.seen g known_next final numbers;
    }

-- parameters that are judged are the first variables
pub parameters_hold : (s : Scene) (ps : Params) → Holds (judge_parameters s ps) (AreParameters s)
unfolding judge_parameters
parameters_hold s no_params =
    ok_holds (AreParameters s) s (record { grows = begins_itself s.locals; seen = λ g is final numbers. is })
parameters_hold s (param n t ps) = bind_holds (known (judge_type s.blocks t)) (λ u is_type.
    bind_holds (known (names.declare n (names.variable (length s.locals) u) s.blocks)) (λ blocks is_blocks.
    let next : Scene = record { blocks = blocks; locals = s.locals ++ u ∷ [] } in
    weaker (parameters_hold next ps)
    (λ after rest. more_parameters s next after n t u is_type (record { locals = refl; blocks = is_blocks }) rest)))

-- the innermost block of the first, on others, says what both say
pub innermost_fit : (g : Sight) (inner outer : List Block) → AllFit g inner → AllFit g outer
    → AllFit g (innermost_on inner outer)
innermost_fit g [] outer h k = k
innermost_fit g (block ∷ blocks) outer h k = (h.0, k)

-- the first numbers are all below theirs
pub first_are_seen : (most n : ℕ) → n < most → Contains (first_numbers most) n
first_are_seen zero n h = absurd (omega (arith, h))
first_are_seen (suc most) n h = by_test (nat_eq n most) refl (first_are_seen most n)
  where
    by_test : (b : Bool) → nat_eq n most ≡ b → (n < most → Contains (first_numbers most) n)
        → Contains (first_numbers (suc most)) n
    by_test true e rest = subst (Contains (most ∷ first_numbers most)) (sym (eqb-true n most e)) (0, omega arith, refl)
    by_test false e rest =
        let differ : n ≢ most = eqb-false n most e in
        Contains-append_right (most ∷ []) (first_numbers most) n (rest (omega (arith, h, differ)))

-- and no other is among them
pub first_are_below : (most : ℕ) → AreBelow most (first_numbers most)
first_are_below zero = tt
first_are_below (suc most) =
    (omega arith, below_more most (suc most) (first_numbers most) (omega arith) (first_are_below most))
