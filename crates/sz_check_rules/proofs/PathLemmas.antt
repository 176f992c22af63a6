-- A path that is judged leads from its variable to a value of the path's type.
use Rattle.std.proofs.Common.{◌≡◌, true, false, List, [], ◌∷◌, ◌++◌, Option, Some, None, true≢false, refl, sym, ap, ◌∙◌, subst}
use Rattle.std.specs.Prelude.{pos, slice_get, IfSome}
use Rattle.std.specs.List.{Contains}
use Rattle.sz_types.specs.Data.{Shape}
use Rattle.sz_types.specs.Rows.{binary_row}
use Rattle.sz_types.specs.declared.place.Place.{Place}
use Rattle.sz_types.specs.declared.operator.BinOp.{BinOp}
use Rattle.sz_value.specs.Data.{Datum}
use Rattle.sz_tree.specs.Names.{Ident}
use Rattle.sz_tree.specs.Expressions.{Exp}
use Rattle.sz_tree.specs.Statements.{StepForm, PathForm}
use Rattle.sz_tree.specs.Statements as trees
use Rattle.sz_core.specs.Nodes.{Node, node}
use Rattle.sz_core.specs.Nodes as forms
use Rattle.sz_core.specs.Statements.{Step, at_index, at_field}
use Rattle.sz_core.specs.Statements as core
use Rattle.sz_core.specs.Typing.{Sight, field_types, HasOwnType, IsNode, IsForm}
use Rattle.sz_core.specs.Sound.{LeadTo, IsStm, Around}
use Rattle.sz_check_rules.specs.Refusals.{wrong_type}
use Rattle.sz_check_rules.specs.Names.{Meaning}
use Rattle.sz_check_rules.specs.Names as names
use Rattle.sz_check_rules.specs.Agreeing.{Found}
use Rattle.sz_check_rules.specs.Scene.{Scene}
use Rattle.sz_check_rules.specs.JudgingPaths.{Target, target_of, stepped, indexed, judge_step, judge_steps, judge_path}
use Rattle.sz_check_rules.specs.JudgingSimple.{judge_assignment, judge_change}
use Rattle.sz_check_rules.proofs.Holds.{Holds, good, by_option, ok_holds, err_holds, bind_holds, both_hold, unless_holds, option_holds, some_has}
use Rattle.sz_check_rules.proofs.Meanings.{looked_up}
use Rattle.sz_check_rules.proofs.Sights.{IsFormed, IsVariable, Fits}
use Rattle.sz_core.proofs.ForCallers.{element_formed, value_formed, int_formed, bytes_formed}
use Rattle.sz_check_rules.proofs.OwnTypes.{takes_own}
use Rattle.sz_check_rules.proofs.AgreeLemmas.{IsTyped, agrees_holds}
use Rattle.sz_check_rules.proofs.NodeLemmas.{IsPart, part_found, whole_holds}
use Rattle.sz_check_rules.proofs.SceneLemmas.{Sees, judged, IsSimple}

-- a step more
lead_on : (g : Sight) (steps : List Step) (r s u : Shape) (step : Step) → LeadTo g r steps s
    → LeadTo g s (step ∷ []) u → LeadTo g r (steps ++ step ∷ []) u
unfolding LeadTo
lead_on g [] r s u step h k = subst (λ x. LeadTo g x (step ∷ []) u) h k
lead_on g (at_index e ∷ steps) (Shape.array t) s u step h k = (h.0, h.1, lead_on g steps t s u step h.2 k)
lead_on g (at_index e ∷ steps) (Shape.mapping l v) s u step h k = (h.0, h.1, h.2, lead_on g steps v s u step h.3 k)
lead_on g (at_field n ∷ steps) (Shape.tuple fs) s u step h k = (h.0, h.1, lead_on g steps h.0 s u step h.2 k)
lead_on g (at_field n ∷ steps) (Shape.proto fs) s u step h k = (h.0, h.1, lead_on g steps h.0 s u step h.2 k)
lead_on g _ _ s u step h k = absurd h

-- a field leads to its value
field_leads : (g : Sight) (t : Shape) (x : Found) → IsPart t x → LeadTo g t (at_field x.place ∷ []) x.type
unfolding LeadTo
field_leads g (Shape.tuple fs) x h = (x.type, ap (λ gs. slice_get (field_types gs) x.place) (sym h.has) ∙ h.here, refl)
field_leads g (Shape.proto fs) x h = (x.type, ap (λ gs. slice_get (field_types gs) x.place) (sym h.has) ∙ h.here, refl)
field_leads g _ x h = absurd h.has

-- a variable that is seen, with its type, and the steps lead from it to a value of this type
pub record Leads (g : Sight) (t : Target) : Type 0 where
  pub seen : Contains g.seen t.local
  pub free : Contains g.fixed t.local → ⊥
  pub root : Shape
  pub here : slice_get g.locals t.local ≡ Some root
  pub leads : LeadTo g root t.steps t.type

-- where a path has come to
pub record IsTarget (g : Sight) (t : Target) : Type 0 where
  pub assigned : t.assignable ≡ true → Leads g t
  pub formed : IsFormed t.type

-- a step on
pub stepped_target : (g : Sight) (t : Target) (step : Step) (s u : Shape) → t.type ≡ s → IsTarget g t
    → LeadTo g s (step ∷ []) u → IsFormed u → IsTarget g (stepped t step u)
stepped_target g t step s u is h k formed = record {
  assigned = λ may. let l = h.assigned may in record {
    seen = l.seen;
    free = l.free;
    root = l.root;
    here = l.here;
    leads = lead_on g t.steps l.root s u step (subst (λ x. LeadTo g l.root t.steps x) is l.leads) k;
  };
  formed = formed;
}

-- a place that can't be assigned to
never_assigned : (g : Sight) (t : Target) → t.assignable ≡ false → IsFormed t.type → IsTarget g t
never_assigned g t no_more formed = record {
  assigned = λ may. absurd (true≢false (sym may ∙ no_more));
  formed = formed;
}

module _ (g : Sight) where
  -- where a path begins
  begins : (n : Ident) (m : Meaning) → Fits g m
      → Holds (target_of n m) (λ t. IsTarget g t × (t.assignable ≡ true → IsVariable g t.local t.type))
  unfolding LeadTo
  begins n (names.variable k t) h =
      let target : Target = record { local = k; steps = []; type = t; assignable = true } in
      ok_holds (λ t. IsTarget g t × (t.assignable ≡ true → IsVariable g t.local t.type)) target (
        record {
          assigned =
              λ may. record { seen = h.readable.seen; free = h.free; root = t; here = h.readable.here; leads = refl };
          formed = h.readable.formed;
        },
        λ may. h,
      )
  begins n (names.quantified k t) h =
      let target : Target = record { local = k; steps = []; type = t; assignable = false } in
      ok_holds (λ t. IsTarget g t × (t.assignable ≡ true → IsVariable g t.local t.type)) target
      (never_assigned g target refl h.formed, λ may. absurd (true≢false (sym may)))
  begins n (names.static k t) h =
      let target : Target = record { local = k; steps = []; type = t; assignable = false } in
      ok_holds (λ t. IsTarget g t × (t.assignable ≡ true → IsVariable g t.local t.type)) target
      (never_assigned g target refl h.formed, λ may. absurd (true≢false (sym may)))
  begins n (names.type_name t) h = err_holds _ _
  begins n (names.table k d) h = err_holds _ _
  begins n (names.function k s) h = err_holds _ _
  begins n (names.predeclared b) h = err_holds _ _
  begins n names.input h =
      let target : Target = record { local = 0; steps = []; type = Shape.bytes; assignable = false } in
      ok_holds (λ t. IsTarget g t × (t.assignable ≡ true → IsVariable g t.local t.type)) target
      (never_assigned g target refl bytes_formed, λ may. absurd (true≢false (sym may)))

  -- a step by an index
  indexed_target : (p : Place) (t : Target) (s : Shape) (e : Exp) (n : Node) → t.type ≡ s → IsTarget g t
      → IsTyped g n → HasOwnType n → Holds (indexed p t s e n) (IsTarget g)
  unfolding LeadTo
  indexed_target p t (Shape.array u) e n is h k own =
      bind_holds (whole_holds g e n) (λ v whole. ok_holds (IsTarget g) (stepped t (at_index n) u)
      (stepped_target g t (at_index n) (Shape.array u) u is h (k.typed, whole, refl)
      (element_formed u (subst IsFormed is h.formed))))
  indexed_target p t (Shape.mapping l v) e n is h k own =
      bind_holds (agrees_holds l e n) (λ w key. ok_holds (IsTarget g) (stepped t (at_index n) v)
      (stepped_target g t (at_index n) (Shape.mapping l v) v is h (k.typed, key, own, refl)
      (value_formed l v (subst IsFormed is h.formed))))
  indexed_target p t Shape.str e n is h k own =
      bind_holds (whole_holds g e n) (λ v whole. ok_holds _ _ (never_assigned g _ refl int_formed))
  indexed_target p t Shape.bytes e n is h k own =
      bind_holds (whole_holds g e n) (λ v whole. ok_holds _ _ (never_assigned g _ refl int_formed))
  indexed_target p t _ e n is h k own = err_holds _ _

  module _ (s : Scene) (sees : Sees g s) where
    step_target : (p : Place) (t : Target) (step : StepForm) → IsTarget g t → Holds (judge_step s p t step) (IsTarget g)
    step_target p t (trees.at_index e) h =
        bind_holds (both_hold (judged g s sees None e tt) (takes_own s.blocks true e)) (λ n k.
        indexed_target p t t.type e n refl h k.0 k.1)
    step_target p t (trees.at_field f) h = bind_holds (part_found g p t.type f h.formed) (λ x part.
        ok_holds (IsTarget g) (stepped t (at_field x.place) x.type)
        (stepped_target g t (at_field x.place) t.type x.type refl h (field_leads g t.type x part) part.formed))

    steps_target : (p : Place) (t : Target) (steps : List StepForm) → IsTarget g t
        → Holds (judge_steps s p t steps) (IsTarget g)
    unfolding judge_steps
    steps_target p t [] h = ok_holds (IsTarget g) t h
    steps_target p t (step ∷ steps) h = bind_holds (step_target p t step h) (λ next l. steps_target p next steps l)

    -- a whole path
    pub record IsPath (t : Target) : Type 0 where
      pub leads : Leads g t
      pub formed : IsFormed t.type

    -- a path that is judged leads to a value of its type
    pub path_leads : (path : PathForm) → Holds (judge_path s path) IsPath
    path_leads path = bind_holds (looked_up (Fits g) path.name s.blocks sees.fit)
        (λ m fits. bind_holds (begins path.name m fits) (λ begin h.
        bind_holds (steps_target path.name.place begin path.steps h.0) (λ t k. bind_holds (unless_holds _ _) (λ u may.
        ok_holds IsPath t (record { leads = k.assigned may; formed = k.formed })))))

    -- a path without steps is a variable
    root_path : (n : Ident) → Holds (judge_path s (record { name = n; steps = [] })) (λ t. IsVariable g t.local t.type)
    unfolding judge_steps
    root_path n =
        bind_holds (looked_up (Fits g) n s.blocks sees.fit) (λ m fits. bind_holds (begins n m fits) (λ begin h.
        bind_holds (unless_holds _ _) (λ u may. ok_holds (λ t. IsVariable g t.local t.type) begin (h.1 may))))

    -- an assignment that is judged is sound
    pub assignment_sound : (a : Around) (path : PathForm) (e : Exp) → Holds (judge_assignment s path e) (IsSimple g a)
    unfolding IsStm
    assignment_sound a path e =
        bind_holds (path_leads path) (λ t h. bind_holds (judged g s sees (Some t.type) e h.formed) (λ value k.
        bind_holds (agrees_holds t.type e value)
        (λ u same. ok_holds (IsSimple g a) (core.store path.name.place t.local t.steps value) (record {
          stm = (
            h.leads.seen,
            k.typed,
            (h.leads.root, h.leads.here, subst (λ x. LeadTo g h.leads.root t.steps x) (sym same) h.leads.leads),
            h.leads.free,
          );
          between = tt;
        }))))

    -- so is a change by one
    pub change_sound : (a : Around) (n : Ident) (o : BinOp) (row : Shape → Shape → Option Shape)
        → ((t : Shape) → binary_row o t Shape.int ≡ row t Shape.int)
        → ((t : Shape) → IfSome (row t Shape.int) (λ u. u ≡ t)) → Holds (judge_change s n o row) (IsSimple g a)
    unfolding IsStm IsNode IsForm LeadTo
    change_sound a n o row same keeps =
        let one = node n.place Shape.int (forms.constant (Datum.int (pos 1))) in
        let changed : Target → Shape → core.Stm =
        λ t u. core.store n.place t.local []
        (node n.place u (forms.binary o (node n.place t.type (forms.local t.local)) one)) in
        bind_holds {f = λ t. by_option (wrong_type n.place) (λ u. good (changed t u)) (row t.type Shape.int)}
        (root_path n) (λ t h.
        option_holds _ (λ none. err_holds _ _) (λ u is. ok_holds (IsSimple g a) (changed t u) (record {
          stm = (
            h.readable.seen,
            ((h.readable.seen, h.readable.here), refl, same t.type ∙ is, tt),
            (t.type, h.readable.here, some_has (λ v. v ≡ t.type) (keeps t.type) is),
            h.free,
          );
          between = tt;
        })))
