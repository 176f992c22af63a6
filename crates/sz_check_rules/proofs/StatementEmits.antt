-- A statement that is judged emits as its tree does.
use Rattle.std.proofs.Common.{◌≡◌, ℕ, Bool, true, false, List, [], ◌∷◌, ◌++◌, Option, Some, None, refl, sym, ap, ◌∙◌, subst}
use Rattle.std.specs.Prelude.{◌||◌, Ok, pos, if◌then◌else◌}
use Rattle.sz_types.specs.Data.{Shape}
use Rattle.sz_types.specs.declared.place.Place.{Place}
use Rattle.sz_types.specs.Rows.{sum_row, difference_row}
use Rattle.sz_types.specs.declared.operator.BinOp.{BinOp}
use Rattle.sz_types.specs.declared.operator.BinOp.TheVariants.{Add, Sub}
use Rattle.sz_value.specs.Data.{Datum}
use Rattle.sz_tree.specs.Names.{Ident}
use Rattle.sz_tree.specs.Types.{Typ}
use Rattle.sz_tree.specs.Expressions.{Exp, Exps, place_of}
use Rattle.sz_tree.specs.Expressions as exps
use Rattle.sz_tree.specs.Statements.{StepForm, PathForm, SimpleForm, assign, increment, decrement, call_of, FirstForm, first_declare, first_define}
use Rattle.sz_tree.specs.Statements.{first_simple}
use Rattle.sz_tree.specs.Statements.{Stm, empty, declare, define, static, typedef, table, function, simple, if_only, if_else, return, when}
use Rattle.sz_tree.specs.Statements.{Stms}
use Rattle.sz_tree.specs.Statements as trees
use Rattle.sz_core.specs.Nodes.{Node, node, type_of}
use Rattle.sz_core.specs.Nodes as forms
use Rattle.sz_core.specs.Statements as core
use Rattle.sz_core.specs.Statements.{Step, at_index, at_field}
use Rattle.sz_core.specs.Programs.{Signature}
use Rattle.sz_core.specs.Emitting.{node_emits, form_emits, steps_emit as steps_emit_core, test_emits, stm_emits as core_emits, stms_emit as all_emit}
use Rattle.sz_check_rules.specs.Refusals.{Judged, wrong_type}
use Rattle.sz_check_rules.specs.Names.{Meaning, look_up}
use Rattle.sz_check_rules.specs.Names as names
use Rattle.sz_check_rules.specs.JudgingTypes.{judge_type}
use Rattle.sz_check_rules.specs.Scene.{Scene, opened}
use Rattle.sz_types.specs.Same.{alike}
use Rattle.sz_types.specs.Conversions.{converts_to}
use Rattle.sz_check_rules.specs.Agreeing.{converted, agrees}
use Rattle.sz_check_rules.specs.JudgingParts.{whole, field_in}
use Rattle.sz_check_rules.specs.JudgingOperators.{test}
use Rattle.sz_check_rules.specs.Scenes.{Later, AllAfter, judge, judge_if_some, closed}
use Rattle.sz_check_rules.specs.EmittingTrees.{calls, exp_emits, exps_emit, part_emits, steps_emit, simple_emits, between_emits, first_emits, hidden_after_first}
use Rattle.sz_check_rules.specs.EmittingTrees.{hidden_after, turns_emit, stm_emits, stms_emit, quantified_names}
use Rattle.sz_check_rules.specs.Quantifying.{Front, none_declared}
use Rattle.sz_check_rules.specs.JudgingPaths.{Target, target_of, stepped, indexed, judge_step, judge_steps, judge_path}
use Rattle.sz_check_rules.specs.JudgingSimple.{judge_declaration, judge_initialised, judge_definition, judge_assignment, judge_change, judge_simple, judge_first}
use Rattle.sz_check_rules.specs.JudgingSimple.{judge_between, test_if_some, judge_return, table_named, judge_emitted, emitted_fits, judge_emit, done}
use Rattle.sz_check_rules.specs.JudgingStatements.{Around, in_block, in_loop, out_of_loops, judge_quantified, judge_stm, judge_stms}
use Rattle.sz_check_rules.proofs.Holds.{Holds, good, ok_holds, err_holds, bind_holds, known, weaker, both_hold, if_holds, by_option, option_holds}
use Rattle.sz_check_rules.proofs.ExpressionEmits.{Agrees, Gives, expression_gives}
use Rattle.sz_check_rules.proofs.NodeLemmas.{done_after}
use Rattle.sz_check_rules.proofs.HiddenLemmas.{inside_names, variable_hides, quantifiers_hide, bound_hide, variables_of}
use Rattle.sz_check_rules.proofs.TruthLemmas.{or_false, or_assoc}

-- one that holds nowhere, after two
or_only : (b c : Bool) → (b || c || false) ≡ (b || c)
or_only true c = refl
or_only false true = refl
or_only false false = refl

module _ (fs : List Signature) (emits : List ℕ → Bool) where
  -- the statement emits so
  abbrev pub Does : Bool → core.Stm → Type 0
  Does b m = core_emits fs m ≡ b

  -- so does the statement, and after it names call as they are known, where these are hidden
  pub record DoesAfter (b : Bool) (h : List (List ℕ)) (x : Later) : Type 0 where
    pub stm : core_emits fs x.stm ≡ b
    pub agrees : Agrees fs emits h x.scene.blocks

  -- the same of statements in order
  pub record AllDo (b : Bool) (x : AllAfter) : Type 0 where
    pub stms : all_emit fs x.stms ≡ b

  module _ (h : List (List ℕ)) (s : Scene) (same : Agrees fs emits h s.blocks) where
    -- an expression in a statement
    judged_gives : (asked : Option Shape) (e : Exp) → Holds (judge s asked e) (Gives fs (exp_emits emits h e))
    judged_gives asked e = expression_gives fs emits h s.blocks true same asked e

    part_gives : (asked : Option Shape) (e : Option Exp)
        → Holds (judge_if_some s asked e) (λ n. test_emits fs n ≡ part_emits emits h e)
    part_gives asked None = ok_holds (λ n. test_emits fs n ≡ false) None refl
    part_gives asked (Some e) =
        bind_holds (judged_gives asked e) (λ n is. ok_holds (λ m. test_emits fs m ≡ exp_emits emits h e) (Some n) is)

    converted_gives : (t : Shape) (e : Exp) (n : Node) → Holds (converted t e n) (Gives fs (node_emits fs n))
    unfolding node_emits form_emits
    converted_gives t e n = if_holds {n = if converts_to (type_of n) t then Ok (node (place_of e) t (forms.convert n))
        else wrong_type (place_of e)} (alike (type_of n) t) (λ equal. ok_holds (Gives fs (node_emits fs n)) n refl)
        (λ other. if_holds {n = wrong_type (place_of e)} (converts_to (type_of n) t)
        (λ row. ok_holds (Gives fs (node_emits fs n)) (node (place_of e) t (forms.convert n)) refl)
        (λ none. err_holds _ _))

    -- ---- declarations

    declaration_does : (n : Ident) (t : Typ) → Holds (judge_declaration s n t) (DoesAfter false (h ++ n.text ∷ []))
    unfolding core_emits
    declaration_does n t = bind_holds (known (judge_type s.blocks t))
        (λ u typed. bind_holds (variable_hides fs emits h n u s same) (λ after more.
        ok_holds (DoesAfter false (h ++ n.text ∷ [])) _ (record { stm = refl; agrees = more })))

    initialised_does : (n : Ident) (t : Typ) (e : Exp)
        → Holds (judge_initialised s n t e) (DoesAfter (exp_emits emits h e) (h ++ n.text ∷ []))
    unfolding core_emits
    initialised_does n t e =
        bind_holds (known (judge_type s.blocks t)) (λ u typed. bind_holds (judged_gives (Some u) e) (λ m is.
        bind_holds (converted_gives u e m)
        (λ value kept. bind_holds (variable_hides fs emits h n u s same) (λ after more.
        ok_holds (DoesAfter (exp_emits emits h e) (h ++ n.text ∷ [])) _ (record { stm = kept ∙ is; agrees = more })))))

    definition_does : (n : Ident) (e : Exp)
        → Holds (judge_definition s n e) (DoesAfter (exp_emits emits h e) (h ++ n.text ∷ []))
    unfolding core_emits
    definition_does n e = bind_holds (judged_gives None e)
        (λ value is. bind_holds (variable_hides fs emits h n (type_of value) s same) (λ after more.
        ok_holds (DoesAfter (exp_emits emits h e) (h ++ n.text ∷ [])) _ (record { stm = is; agrees = more })))

    -- ---- paths

    steps_more : (xs : List Step) (e : Node)
        → steps_emit_core fs (xs ++ at_index e ∷ []) ≡ (steps_emit_core fs xs || node_emits fs e)
    unfolding steps_emit_core
    steps_more [] e = or_false (node_emits fs e)
    steps_more (at_index d ∷ xs) e =
        ap (λ b. node_emits fs d || b) (steps_more xs e)
        ∙ sym (or_assoc (node_emits fs d) (steps_emit_core fs xs) (node_emits fs e))
    steps_more (at_field n ∷ xs) e = steps_more xs e

    fields_more : (xs : List Step) (n : ℕ) → steps_emit_core fs (xs ++ at_field n ∷ []) ≡ steps_emit_core fs xs
    unfolding steps_emit_core
    fields_more [] n = refl
    fields_more (at_index d ∷ xs) n = ap (λ b. node_emits fs d || b) (fields_more xs n)
    fields_more (at_field m ∷ xs) n = fields_more xs n

    -- the steps of a path emit so
    abbrev Leads : Bool → Target → Type 0
    Leads b t = steps_emit_core fs t.steps ≡ b

    abbrev LeadsTo : Target → Node → Target → Type 0
    LeadsTo t n = Leads (steps_emit_core fs t.steps || node_emits fs n)

    index_leads : (p : Place) (t : Target) (u : Shape) (e : Exp) (n : Node)
        → Holds (indexed p t u e n) (LeadsTo t n)
    index_leads p t (Shape.array u) e n =
        bind_holds (known (whole e n))
        (λ v is. ok_holds (LeadsTo t n) (stepped t (at_index n) u) (steps_more t.steps n))
    index_leads p t (Shape.mapping k v) e n =
        bind_holds (known (agrees (Some k) e n))
        (λ u is. ok_holds (LeadsTo t n) (stepped t (at_index n) v) (steps_more t.steps n))
    index_leads p t Shape.str e n =
        bind_holds (known (whole e n)) (λ v is. ok_holds (LeadsTo t n) _ (steps_more t.steps n))
    index_leads p t Shape.bytes e n =
        bind_holds (known (whole e n)) (λ v is. ok_holds (LeadsTo t n) _ (steps_more t.steps n))
    index_leads p t _ e n = err_holds _ _

    step_leads : (p : Place) (t : Target) (step : StepForm)
        → Holds (judge_step s p t step) (Leads (steps_emit_core fs t.steps || steps_emit emits h (step ∷ [])))
    unfolding steps_emit
    step_leads p t (trees.at_index e) =
        bind_holds (judged_gives None e) (λ n is. weaker (index_leads p t t.type e n) (λ next here.
        here ∙ (λ i. steps_emit_core fs t.steps || is i)
        ∙ ap (λ b. steps_emit_core fs t.steps || b) (sym (or_false (exp_emits emits h e)))))
    step_leads p t (trees.at_field f) = bind_holds (known (field_in p t.type f)) (λ x found.
        ok_holds (Leads (steps_emit_core fs t.steps || false)) (stepped t (at_field x.place) x.type)
        (fields_more t.steps x.place ∙ sym (or_false (steps_emit_core fs t.steps))))

    first_of_steps : (step : StepForm) (steps : List StepForm)
        → steps_emit emits h (step ∷ steps) ≡ (steps_emit emits h (step ∷ []) || steps_emit emits h steps)
    unfolding steps_emit
    first_of_steps (trees.at_index e) steps =
        ap (λ b. b || steps_emit emits h steps) (sym (or_false (exp_emits emits h e)))
    first_of_steps (trees.at_field f) steps = refl

    steps_lead : (p : Place) (t : Target) (steps : List StepForm)
        → Holds (judge_steps s p t steps) (Leads (steps_emit_core fs t.steps || steps_emit emits h steps))
    unfolding judge_steps steps_emit
    steps_lead p t [] =
        ok_holds (Leads (steps_emit_core fs t.steps || false)) t (sym (or_false (steps_emit_core fs t.steps)))
    steps_lead p t (step ∷ steps) =
        bind_holds (step_leads p t step) (λ next here. weaker (steps_lead p next steps) (λ r rest.
        rest ∙ ap (λ b. b || steps_emit emits h steps) here
        ∙ or_assoc (steps_emit_core fs t.steps) (steps_emit emits h (step ∷ [])) (steps_emit emits h steps)
        ∙ ap (λ b. steps_emit_core fs t.steps || b) (sym (first_of_steps step steps))))

    path_begins : (n : Ident) (m : Meaning) → Holds (target_of n m) (Leads false)
    unfolding steps_emit_core
    path_begins n (names.variable k t) = ok_holds (Leads false) _ refl
    path_begins n (names.quantified k t) = ok_holds (Leads false) _ refl
    path_begins n (names.static k t) = ok_holds (Leads false) _ refl
    path_begins n (names.type_name t) = err_holds _ _
    path_begins n (names.table k d) = err_holds _ _
    path_begins n (names.function k x) = err_holds _ _
    path_begins n (names.predeclared b) = err_holds _ _
    path_begins n names.input = ok_holds (Leads false) _ refl

    -- a path's steps emit as its tree does
    path_leads : (path : PathForm) → Holds (judge_path s path) (Leads (steps_emit emits h path.steps))
    path_leads path = bind_holds (known (look_up path.name s.blocks))
        (λ m found. bind_holds (path_begins path.name m) (λ begin none.
        bind_holds (steps_lead path.name.place begin path.steps) (λ t is. bind_holds (known _) (λ u may.
        ok_holds (Leads (steps_emit emits h path.steps)) t (is ∙ ap (λ b. b || steps_emit emits h path.steps) none)))))

    -- ---- assignments and calls

    assignment_does : (path : PathForm) (e : Exp)
        → Holds (judge_assignment s path e) (Does (steps_emit emits h path.steps || exp_emits emits h e))
    unfolding core_emits
    assignment_does path e =
        bind_holds (path_leads path) (λ t leads. bind_holds (judged_gives (Some t.type) e) (λ value is.
        bind_holds (known (agrees (Some t.type) e value)) (λ u fits.
        ok_holds (Does (steps_emit emits h path.steps || exp_emits emits h e))
        (core.store path.name.place t.local t.steps value) (λ i. leads i || is i))))

    change_does : (n : Ident) (o : BinOp) (row : Shape → Shape → Option Shape)
        → Holds (judge_change s n o row) (Does false)
    unfolding core_emits node_emits form_emits steps_emit_core
    change_does n o row =
        let one = node n.place Shape.int (forms.constant (Datum.int (pos 1))) in
        let changed : Target → Shape → core.Stm =
        λ t u. core.store n.place t.local []
        (node n.place u (forms.binary o (node n.place t.type (forms.local t.local)) one)) in
        bind_holds {f = λ t. by_option (wrong_type n.place) (λ u. good (changed t u)) (row t.type Shape.int)}
        (known (judge_path s (record { name = n; steps = [] }))) (λ t is.
        option_holds {r = wrong_type n.place} (row t.type Shape.int) (λ none. err_holds _ _)
        (λ u has. ok_holds (Does false) (changed t u) refl))

    pub simple_does : (t : SimpleForm) → Holds (judge_simple s t) (Does (simple_emits emits h t))
    unfolding core_emits exp_emits
    simple_does (assign path e) = assignment_does path e
    simple_does (increment n) = change_does n Add sum_row
    simple_does (decrement n) = change_does n Sub difference_row
    simple_does (call_of n es) = bind_holds (judged_gives None (exps.call n es)) (λ m is.
        ok_holds (Does (calls emits h n.text || exps_emit emits h es)) (core.evaluate n.place m) is)

    between_does : (t : Option SimpleForm) → Holds (judge_between s t) (Does (between_emits emits h t))
    unfolding core_emits all_emit
    between_does None = ok_holds (Does false) core.nothing refl
    between_does (Some t) = simple_does t

    -- a statement that declares nothing
    done_does : (b : Bool) (judging : Judged core.Stm) → Holds judging (Does b) → Holds (done s judging) (DoesAfter b h)
    done_does b judging is = bind_holds is
        (λ m does. ok_holds (DoesAfter b h) (record { scene = s; stm = m }) (record { stm = does; agrees = same }))

    first_does : (f : Option FirstForm)
        → Holds (judge_first s f) (DoesAfter (first_emits emits h f) (hidden_after_first h f))
    unfolding core_emits all_emit
    first_does None =
        ok_holds (DoesAfter false h) (record { scene = s; stm = core.nothing }) (record { stm = refl; agrees = same })
    first_does (Some (first_declare n t e)) = initialised_does n t e
    first_does (Some (first_define n e)) = definition_does n e
    first_does (Some (first_simple t)) = done_does _ _ (simple_does t)

    return_does : (p : Place) (result : Option Shape) (e : Option Exp)
        → Holds (judge_return s p result e) (Does (part_emits emits h e))
    unfolding core_emits
    return_does p None None = ok_holds (Does false) (core.end_record p) refl
    return_does p None (Some e) = err_holds _ _
    return_does p (Some t) None = err_holds _ _
    return_does p (Some t) (Some e) =
        bind_holds (judged_gives (Some t) e) (λ value is. bind_holds (known (agrees (Some t) e value)) (λ u fits.
        ok_holds (Does (exp_emits emits h e)) (core.return_value p value) is))

    emit_does : (p : Place) (n : Ident) (es : Exps) (e : Exp) (w : Option Exp)
        → Holds (judge_emit s p n es e w) (Does true)
    unfolding core_emits
    emit_does p n es e w =
        bind_holds (known (look_up n s.blocks)) (λ m found. bind_holds (known (table_named n m)) (λ t table.
        bind_holds (known (judge_emitted s t.declaration es e w))
        (λ x parts. bind_holds (known (emitted_fits t.declaration p n.place es e w x)) (λ u fits.
        ok_holds (Does true) (core.emit p t.number x.indexes x.value x.weight) refl))))

  -- a part statement, in a block of its own
  inside_does : (b : Bool) (h k : List (List ℕ)) (s : Scene) (judging : Judged Later) → Agrees fs emits h s.blocks
      → Holds judging (DoesAfter b k) → Holds (in_block s judging) (DoesAfter b h)
  inside_does b h k s judging agrees is = bind_holds is (λ x does.
      ok_holds (DoesAfter b h) (record { scene = closed s x.scene; stm = x.stm })
      (record { stm = does.stm; agrees = agrees }))

  mutual
    unfolding judge_stm judge_stms core_emits all_emit stm_emits stms_emit

    -- a statement that is judged emits as its tree does
    pub statement_does : (h : List (List ℕ)) (a : Around) (s : Scene) (t : Stm) → Agrees fs emits h s.blocks
        → Holds (judge_stm a s t) (DoesAfter (stm_emits emits h t) (hidden_after h t))
    statement_does h a s (empty p) g =
        ok_holds (DoesAfter false h) (record { scene = s; stm = core.nothing }) (record { stm = refl; agrees = g })
    statement_does h a s (trees.block p ss) g = bind_holds (statements_do h a (opened s) ss g) (λ b is.
        ok_holds (DoesAfter (stms_emit emits h ss) h) (record { scene = closed s b.scene; stm = core.block b.stms })
        (record { stm = is.stms; agrees = g }))
    statement_does h a s (declare n t None) g = declaration_does h s g n t
    statement_does h a s (declare n t (Some e)) g = initialised_does h s g n t e
    statement_does h a s (define n e) g = definition_does h s g n e
    statement_does h a s (static p n t e) g = err_holds _ _
    statement_does h a s (typedef p n t) g = err_holds _ _
    statement_does h a s (table n t) g = err_holds _ _
    statement_does h a s (function n ps t ss) g = err_holds _ _
    statement_does h a s (simple t) g = done_does h s g _ _ (simple_does h s g t)
    statement_does h a s (if_only p c t) g = bind_holds (judged_gives h s g None c) (λ n asked.
        bind_holds (inside_does _ h _ s _ g (statement_does h a (opened s) t g)) (λ taken is.
        done_after (DoesAfter (exp_emits emits h c || stm_emits emits h t) h)
        (test c n) taken.scene (core.branch p n taken.stm core.nothing) (λ u tested.
        record {
          stm = or_only (node_emits fs n) (core_emits fs taken.stm) ∙ (λ i. asked i || is.stm i);
          agrees = is.agrees;
        })))
    statement_does h a s (if_else p c t e) g = bind_holds (judged_gives h s g None c) (λ n asked.
        bind_holds (inside_does _ h _ s _ g (statement_does h a (opened s) t g)) (λ taken is.
        bind_holds (inside_does _ h _ taken.scene _ is.agrees (statement_does h a (opened taken.scene) e is.agrees))
        (λ other also. done_after (DoesAfter (exp_emits emits h c || stm_emits emits h t || stm_emits emits h e) h)
        (test c n) other.scene (core.branch p n taken.stm other.stm)
        (λ u tested. record { stm = λ i. asked i || is.stm i || also.stm i; agrees = also.agrees }))))
    statement_does h a s (trees.while p c t) g = bind_holds (judged_gives h s g None c) (λ n asked.
        bind_holds (inside_does _ h _ s _ g (statement_does h (in_loop a) (opened s) t g)) (λ body is.
        done_after (DoesAfter (exp_emits emits h c || stm_emits emits h t) h)
        (test c n) body.scene (core.while p n body.stm) (λ u tested.
        record { stm = λ i. asked i || is.stm i; agrees = is.agrees })))
    statement_does h a s (trees.do_while p t c) g =
        bind_holds (inside_does _ h _ s _ g (statement_does h (in_loop a) (opened s) t g)) (λ body is.
        bind_holds (judged_gives h body.scene is.agrees None c) (λ n asked.
        done_after (DoesAfter (stm_emits emits h t || exp_emits emits h c) h)
        (test c n) body.scene (core.do_while p body.stm n) (λ u tested.
        record { stm = λ i. is.stm i || asked i; agrees = is.agrees })))
    statement_does h a s (trees.for_loop p f c between t) g =
        bind_holds (first_does h (opened s) g f) (λ first start. bind_holds
        (bind_holds (part_gives (hidden_after_first h f) first.scene start.agrees None c) (λ n asked.
        bind_holds (between_does (hidden_after_first h f) first.scene start.agrees between) (λ step turn.
        bind_holds (inside_does _ (hidden_after_first h f) _ first.scene _ start.agrees
        (statement_does (hidden_after_first h f) (in_loop a) (opened first.scene) t start.agrees)) (λ body is.
        done_after (λ (turns : Later). core_emits fs turns.stm
        ≡ turns_emit emits (hidden_after_first h f) c between (stm_emits emits (hidden_after_first h f) t))
        (test_if_some c n) body.scene (core.for_loop p n step body.stm)
        (λ u tested. λ i. asked i || turn i || is.stm i))))) (λ turns does.
        ok_holds (DoesAfter (first_emits emits h f
        || turns_emit emits (hidden_after_first h f) c between (stm_emits emits (hidden_after_first h f) t)) h)
        (record { scene = closed s turns.scene; stm = core.block (core.stms_of (first.stm ∷ turns.stm ∷ [])) })
        (record {
          stm = (λ i. start.stm i || (does i || false)) ∙ ap (λ b. first_emits emits h f || b) (or_false _);
          agrees = g;
        })))
    statement_does h a s (trees.break p) g =
        done_does h s g _ _ (if_holds a.loop (λ loop. ok_holds (Does false) core.break refl) (λ none. err_holds _ _))
    statement_does h a s (trees.continue p) g =
        done_does h s g _ _ (if_holds a.loop (λ loop. ok_holds (Does false) core.continue refl) (λ none. err_holds _ _))
    statement_does h a s (return p e) g = done_does h s g _ _ (return_does h s g p a.result e)
    statement_does h a s (trees.emit p n es e w) g = done_does h s g _ _ (emit_does h s g p n es e w)
    statement_does h a s (when p qs c t) g =
        bind_holds (bind_holds (both_hold (quantifiers_hide fs emits h qs (none_declared s) g)
        (variables_of qs (none_declared s))) (λ d hidden.
        bind_holds
        (expression_gives fs emits (h ++ quantified_names false qs) d.scene.blocks false hidden.0 None c) (λ n asked.
        ok_holds (λ (f : Front). Gives fs (exp_emits emits (h ++ quantified_names false qs) c) f.condition
        × (inside_names f.variables ≡ quantified_names true qs)
        × (f.scene.blocks ≡ s.blocks)) _ (asked, hidden.1, refl)))) (λ front is.
        let here : Agrees fs emits h front.scene.blocks = subst (Agrees fs emits h) (sym is.2) g in
        bind_holds
        (bind_holds (bind_holds (bound_hide fs emits h front.variables ([] ∷ front.scene.blocks) here) (λ blocks more.
        ok_holds (λ (inner : Scene). Agrees fs emits (h ++ quantified_names true qs) inner.blocks)
        (record { blocks = blocks; locals = front.scene.locals })
        (subst (λ l. Agrees fs emits (h ++ l) blocks) is.1 more))) (λ inner more.
        bind_holds (inside_does _ (h ++ quantified_names true qs) _ inner _ more
        (statement_does (h ++ quantified_names true qs) (out_of_loops a) (opened inner) t more)) (λ body does.
        ok_holds (DoesAfter (stm_emits emits (h ++ quantified_names true qs) t) h)
        (record { scene = closed front.scene body.scene; stm = body.stm })
        (record { stm = does.stm; agrees = here })))) (λ body does.
        bind_holds (known (judge_quantified body.scene front.variables c front.condition)) (λ vs quantified.
        ok_holds (DoesAfter
        (exp_emits emits (h ++ quantified_names false qs) c || stm_emits emits (h ++ quantified_names true qs) t) h)
        (record { scene = body.scene; stm = core.when p vs front.condition body.stm })
        (record { stm = λ i. is.0 i || does.stm i; agrees = does.agrees }))))

    -- so do several
    pub statements_do : (h : List (List ℕ)) (a : Around) (s : Scene) (ts : Stms) → Agrees fs emits h s.blocks
        → Holds (judge_stms a s ts) (AllDo (stms_emit emits h ts))
    statements_do h a s trees.no_stms g =
        ok_holds (AllDo false) (record { scene = s; stms = core.no_stms }) (record { stms = refl })
    statements_do h a s (trees.stm t ts) g = bind_holds (statement_does h a s t g) (λ first is.
        bind_holds (statements_do (hidden_after h t) a first.scene ts is.agrees) (λ rest are.
        ok_holds (AllDo (stm_emits emits h t || stms_emit emits (hidden_after h t) ts))
        (record { scene = rest.scene; stms = core.with_stm first.stm rest.stms })
        (record { stms = λ i. is.stm i || are.stms i })))
