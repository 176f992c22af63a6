-- Types known round a program, and the same types declared by it first, are judged the same.
use Rattle.std.proofs.Common.{◌≡◌, ℕ, ◌+◌, Bool, true, false, List, [], ◌∷◌, ◌++◌, length, Option, Some, None, refl, sym, ap, subst, ◌∙◌}
use Rattle.std.specs.Prelude.{◌||◌, filter, if◌then◌else◌, Ok, Err, IfSome, IsFalse, bytes_eq, nat_lt}
use Rattle.std.specs.Option.{option_or}
use Rattle.std.proofs.lemmas.List.Folds.{list_any-append}
use Rattle.sz_types.specs.Data.{Shape}
use Rattle.sz_types.specs.declared.place.Place.{Place}
use Rattle.sz_tree.specs.Names.{Ident}
use Rattle.sz_tree.specs.Expressions.{Exp}
use Rattle.sz_tree.specs.Types.{Typ, Params, no_params, param}
use Rattle.sz_tree.specs.Statements.{ElemForm, TableForm, Stm, declare, define, static, typedef, table, function, Stms, no_stms, stm}
use Rattle.sz_core.specs.Nodes.{type_of}
use Rattle.sz_core.specs.Programs.{Signature, Item, Core}
use Rattle.sz_core.specs.Programs as items
use Rattle.sz_core.specs.Statements as core
use Rattle.sz_check_rules.specs.Refusals.{Judged, ◌>>=◌, declared_twice, unless, too_many}
use Rattle.sz_check_rules.specs.Names.{Block, Named, Meaning, meaning_in, meaning_of, has, only, is_seen_by_functions, is_seen_by_statics}
use Rattle.sz_check_rules.specs.Names as names
use Rattle.sz_check_rules.specs.Agreeing.{converted}
use Rattle.sz_check_rules.specs.Scene.{Scene, with_variable}
use Rattle.sz_check_rules.specs.Scenes.{Later}
use Rattle.sz_check_rules.specs.JudgingSimple.{judge_declaration, judge_initialised, judge_definition}
use Rattle.sz_check_rules.specs.EmittingTrees.{means_emitting, emits_by, stms_emit}
use Rattle.sz_check_rules.specs.JudgingStatements.{judge_stm, judge_stms}
use Rattle.sz_check_rules.specs.JudgingPrograms.{TopScene, Found, blocks_of, with_blocks, judge_elems, judge_weight, judge_types, judge_table_declaration}
use Rattle.sz_check_rules.specs.JudgingPrograms.{judge_table, judge_parameters, in_function, judge_function, judge_static, judge_typedef}
use Rattle.sz_check_rules.specs.JudgingPrograms.{judge_statement, judge_top, judge_all, kind_of, declaration_of, limit_of, most_tables}
use Rattle.sz_check_rules.proofs.Holds.{good, bad}
use Rattle.sz_check_rules.proofs.TruthLemmas.{or_false}
use Rattle.sz_check_rules.specs.TypeStatements.{declared_name}
use Rattle.sz_check_rules.specs.JudgingWithTypes.{judge_from}
use Rattle.sz_check_rules.proofs.SameNames.{Same, type_same, exp_same}
use Rattle.sz_check_rules.proofs.SameStatements.{Agree, agree_ok, agree_err, agree_bind, agree_same, same_bind, scene, later, Quiet, Fronts, same_ahead, declare_ahead}
use Rattle.sz_check_rules.proofs.SameInside.{is_declaration, stm_quiet, all_ahead}

-- ---- one block in front of another, and both as one

in_both : (name : List ℕ) (a b : Block) → meaning_in name (a ++ b) ≡ option_or (meaning_in name a) (meaning_in name b)
in_both name [] b = refl
in_both name (n ∷ a) b = by (bytes_eq name n.name) (in_both name a b)
  where
    by : (x : Bool) → meaning_in name (a ++ b) ≡ option_or (meaning_in name a) (meaning_in name b)
        → (if x then Some n.meaning else meaning_in name (a ++ b))
        ≡ option_or (if x then Some n.meaning else meaning_in name a) (meaning_in name b)
    by true rest = refl
    by false rest = rest

or_assoc : (x y z : Option Meaning) → option_or x (option_or y z) ≡ option_or (option_or x y) z
or_assoc (Some m) y z = refl
or_assoc None y z = refl

pub same_joined : (a b : Block) (rest : List Block) → Same (a ∷ b ∷ rest) ((a ++ b) ∷ rest)
same_joined a b rest name =
    or_assoc (meaning_in name a) (meaning_in name b) (meaning_of name rest)
    ∙ ap (λ m. option_or m (meaning_of name rest)) (sym (in_both name a b))

kept_joined : (keep : Named → Bool) (a b : Block) → filter keep a ++ filter keep b ≡ filter keep (a ++ b)
kept_joined keep [] b = refl
kept_joined keep (n ∷ a) b = by (keep n) (kept_joined keep a b)
  where
    by : (x : Bool) → filter keep a ++ filter keep b ≡ filter keep (a ++ b)
        → (if x then n ∷ filter keep a else filter keep a) ++ filter keep b
        ≡ (if x then n ∷ filter keep (a ++ b) else filter keep (a ++ b))
    by true rest = ap (λ l. n ∷ l) rest
    by false rest = rest

same_seen : (seen : Meaning → Bool) (a b : Block) (rest : List Block)
    → Same (only seen (a ∷ b ∷ rest)) (only seen ((a ++ b) ∷ rest))
same_seen seen a b rest = subst (λ (block : Block). Same (only seen (a ∷ b ∷ rest)) (block ∷ only seen rest))
    (kept_joined (λ n. seen n.meaning) a b)
    (same_joined (filter (λ n. seen n.meaning) a) (filter (λ n. seen n.meaning) b) (only seen rest))

-- ---- at the top level, with a block of types round it or behind what is declared there

module _ (T : Block) (outer : List Block) where
  abbrev pub round : Block → List Block
  round block = block ∷ T ∷ outer

  abbrev pub behind : Block → List Block
  behind block = (block ++ T) ∷ outer

  -- the same block stands there
  pub record Tops (xs ys : List Block) : Type 0 where
    pub block : Block
    pub first : xs ≡ round block
    pub second : ys ≡ behind block

  pub record ScenesSo (s u : Scene) : Type 0 where
    pub block : Block
    pub locals : List Shape
    pub first : s ≡ scene (round block) locals
    pub second : u ≡ scene (behind block) locals

  pub record LatersSo (l m : Later) : Type 0 where
    pub block : Block
    pub locals : List Shape
    pub stm : core.Stm
    pub first : l ≡ later (round block) locals stm
    pub second : m ≡ later (behind block) locals stm

  -- what is found is the same there
  pub record FoundSo (f g : Found) : Type 0 where
    pub known : TopScene
    pub block : Block
    pub items : List Item
    pub first : f ≡ record { known = with_blocks known (round block); items = items }
    pub second : g ≡ record { known = with_blocks known (behind block); items = items }

  -- a name that no type has
  declare_top : (n : Ident) (m : Meaning) (block : Block) → IsFalse (has n.text T)
      → Agree Tops (names.declare n m (round block)) (names.declare n m (behind block))
  declare_top n m block free = subst (λ b. Agree Tops
      (if has n.text block then declared_twice n else Ok (round (record { name = n.text; meaning = m } ∷ block)))
      (if b then declared_twice n else Ok (behind (record { name = n.text; meaning = m } ∷ block)))) (sym alike)
      (by (has n.text block))
    where
      alike : has n.text (block ++ T) ≡ has n.text block
      alike = list_any-append (λ (k : Named). bytes_eq n.text k.name) block T ∙ ap (λ b. has n.text block || b) free
          ∙ or_false (has n.text block)

      by : (b : Bool)
          → Agree Tops (if b then declared_twice n else Ok (round (record { name = n.text; meaning = m } ∷ block)))
          (if b then declared_twice n else Ok (behind (record { name = n.text; meaning = m } ∷ block)))
      by true = agree_err _ _
      by false = agree_ok Tops _ _
          (record { block = record { name = n.text; meaning = m } ∷ block; first = refl; second = refl })

  module _ (k : TopScene) (block : Block) where
    abbrev first : TopScene
    first = with_blocks k (round block)

    abbrev second : TopScene
    second = with_blocks k (behind block)

    same : Same (round block) (behind block)
    same = same_joined block T outer

    elems_same : (es : List ElemForm) → judge_elems (round block) es ≡ judge_elems (behind block) es
    unfolding judge_elems
    elems_same [] = refl
    elems_same (e ∷ es) = λ i. type_same (round block) (behind block) same e.of i >>= λ t. elems_same es i
        >>= λ ts. Ok (t ∷ ts)

    weight_same : (w : Option ElemForm) → judge_weight (round block) w ≡ judge_weight (behind block) w
    weight_same None = refl
    weight_same (Some e) = λ i. type_same (round block) (behind block) same e.of i >>= λ t. Ok (Some t)

    declaration_same : (n : Ident) (f : TableForm)
        → judge_table_declaration (round block) n f ≡ judge_table_declaration (behind block) n f
    declaration_same n f = λ i. kind_of f.kind >>= λ kind. types i
        >>= λ ts. declaration_of n f.kind kind (limit_of kind f.argument) ts.indexes ts.element ts.weight
      where
        types : judge_types (round block) f ≡ judge_types (behind block) f
        types = λ i. elems_same f.indexes i >>= λ indexes. type_same (round block) (behind block) same f.of.of i
            >>= λ element. weight_same f.weight i
            >>= λ weight. Ok (record { indexes = indexes; element = element; weight = weight })

    table_so : (n : Ident) (f : TableForm) → IsFalse (has n.text T)
        → Agree FoundSo (judge_table first n f) (judge_table second n f)
    table_so n f free = same_bind (declaration_same n f)
        (λ d. agree_same (unless (nat_lt k.tables most_tables) (too_many n.place)) (λ u.
        agree_bind (declare_top n (names.table k.tables d) block free)
        (λ x y r. rw (r.first, r.second) (agree_ok FoundSo _ _
        (record {
          known = record k { tables = 1 + k.tables };
          block = r.block;
          items = items.table d ∷ [];
          first = refl;
          second = refl;
        })))))

    static_so : (p : Place) (n : Ident) (t : Typ) (e : Exp) → IsFalse (has n.text T)
        → Agree FoundSo (judge_static first p n t e) (judge_static second p n t e)
    static_so p n t e free = same_bind (type_same (round block) (behind block) same t) (λ u.
        same_bind (exp_same _ _ (same_seen is_seen_by_statics block T outer) false (Some u) e)
        (λ m. agree_same (converted u e m) (λ value. agree_bind (declare_top n (names.static k.statics u) block free)
        (λ x y r. rw (r.first, r.second) (agree_ok FoundSo _ _
        (record {
          known = record k { statics = 1 + k.statics };
          block = r.block;
          items = items.static (record { place = p; type = u; value = value }) ∷ [];
          first = refl;
          second = refl;
        }))))))

    typedef_so : (n : Ident) (t : Typ) → IsFalse (has n.text T)
        → Agree FoundSo (judge_typedef first n t) (judge_typedef second n t)
    typedef_so n t free = same_bind (type_same (round block) (behind block) same t)
        (λ u. agree_bind (declare_top n (names.type_name u) block free) (λ x y r.
        rw (r.first, r.second)
        (agree_ok FoundSo _ _ (record { known = k; block = r.block; items = []; first = refl; second = refl }))))

    -- a variable of the record
    variable_so : (n : Ident) (t : Shape) (m : core.Stm) → IsFalse (has n.text T)
        → Agree LatersSo (with_variable n t first.scene >>= λ after. good (record { scene = after; stm = m }))
        (with_variable n t second.scene >>= λ after. good (record { scene = after; stm = m }))
    variable_so n t m free = agree_bind {R = ScenesSo}
        (agree_bind (declare_top n (names.variable (length k.scene.locals) t) block free)
        (λ x y r. rw (r.first, r.second) (agree_ok ScenesSo _ _
        (record { block = r.block; locals = k.scene.locals ++ t ∷ []; first = refl; second = refl }))))
        (λ x y r. rw (r.first, r.second)
        (agree_ok LatersSo _ _ (record { block = r.block; locals = r.locals; stm = m; first = refl; second = refl })))

    declaration_so : (n : Ident) (t : Typ) → IsFalse (has n.text T)
        → Agree LatersSo (judge_declaration first.scene n t) (judge_declaration second.scene n t)
    declaration_so n t free = same_bind (type_same (round block) (behind block) same t)
        (λ u. variable_so n u (core.clear (length k.scene.locals)) free)

    initialised_so : (n : Ident) (t : Typ) (e : Exp) → IsFalse (has n.text T)
        → Agree LatersSo (judge_initialised first.scene n t e) (judge_initialised second.scene n t e)
    initialised_so n t e free = same_bind (type_same (round block) (behind block) same t) (λ u.
        same_bind (exp_same (round block) (behind block) same true (Some u) e) (λ m.
        agree_same (converted u e m) (λ value. variable_so n u (core.keep n.place (length k.scene.locals) value) free)))

    definition_so : (n : Ident) (e : Exp) → IsFalse (has n.text T)
        → Agree LatersSo (judge_definition first.scene n e) (judge_definition second.scene n e)
    definition_so n e free = same_bind (exp_same (round block) (behind block) same true None e) (λ value.
        variable_so n (type_of value) (core.keep n.place (length k.scene.locals) value) free)

    -- a statement that runs for each record
    statement_so : (l m : Judged Later) → Agree LatersSo l m
        → Agree FoundSo
        (l >>= λ x. good (record { known = record first { scene = x.scene }; items = items.statement x.stm ∷ [] }))
        (m >>= λ x. good (record { known = record second { scene = x.scene }; items = items.statement x.stm ∷ [] }))
    statement_so l m h = agree_bind h (λ x y r. rw (r.first, r.second) (agree_ok FoundSo _ _ (record {
      known = record k { scene = scene [] r.locals };
      block = r.block;
      items = items.statement r.stm ∷ [];
      first = refl;
      second = refl;
    })))

    quiet_so : (s : Stm) → is_declaration s ≡ false → Agree FoundSo (judge_statement first s) (judge_statement second s)
    quiet_so s e = statement_so _ _ (weaker_so _ _
        (stm_quiet (record { result = None; loop = false }) (round block) (behind block) same k.scene.locals s e))
      where
        weaker_so : (l m : Judged Later) → Agree (Quiet (round block) (behind block)) l m → Agree LatersSo l m
        weaker_so (Ok x) (Ok y) h = agree_ok LatersSo x y
            (record { block = block; locals = h.so.locals; stm = h.so.stm; first = h.so.first; second = h.so.second })
        weaker_so (Ok x) (Err r) h = absurd h.so
        weaker_so (Err r) (Ok y) h = absurd h.so
        weaker_so (Err r) (Err q) h = record { so = h.so }

    -- ---- a function

    parameters_so : (ps : Params) (bs cs : List Block) → Same bs cs → (front : Block) (locals : List Shape)
        → Agree (Fronts bs cs) (judge_parameters (scene (front ∷ bs) locals) ps)
        (judge_parameters (scene (front ∷ cs) locals) ps)
    unfolding judge_parameters
    parameters_so no_params bs cs alike front locals =
        agree_ok (Fronts bs cs) _ _ (record { front = front; locals = locals; first = refl; second = refl })
    parameters_so (param n t ps) bs cs alike front locals =
        same_bind (type_same _ _ (same_ahead front bs cs alike) t) (λ u.
        agree_bind (declare_ahead bs cs front n (names.variable (length locals) u)) (λ x y r. rw (r.first, r.second)
        (parameters_so ps bs cs alike r.front (locals ++ u ∷ []))))

    -- what stands behind a function's parameters and result, where they and its emits are known
    abbrev rest_of_function : TopScene → Block → List Shape → Shape → Bool → Ident → Stms → Judged Found
    rest_of_function top front locals u emits n ss =
        let signature : Signature = record { parameters = locals; result = u; emits = emits } in
        names.declare n (names.function (length top.functions) signature) (blocks_of top) >>= λ own.
        judge_stms (in_function u) (record { blocks = front ∷ only is_seen_by_functions own; locals = locals }) ss
        >>= λ body.
        Ok (record {
          known = record (with_blocks top own) { functions = top.functions ++ signature ∷ [] };
          items = items.function (record { signature = signature; locals = body.scene.locals; body = body.stms }) ∷ [];
        })

    rest_so : (front : Block) (locals : List Shape) (u : Shape) (emits : Bool) (n : Ident) (ss : Stms)
        → IsFalse (has n.text T) → Agree FoundSo (rest_of_function first front locals u emits n ss)
        (rest_of_function second front locals u emits n ss)
    rest_so front locals u emits n ss free =
        let signature : Signature = record { parameters = locals; result = u; emits = emits } in
        agree_bind (declare_top n (names.function (length k.functions) signature) block free)
        (λ x y r. rw (r.first, r.second) (agree_bind (all_ahead (in_function u) _ _
        (same_seen is_seen_by_functions r.block T outer) front locals ss) (λ v w q. rw (q.first, q.second)
        (agree_ok FoundSo _ _ (record {
          known = record k { functions = k.functions ++ signature ∷ [] };
          block = r.block;
          items = items.function (record { signature = signature; locals = q.locals; body = q.stms }) ∷ [];
          first = refl;
          second = refl;
        })))))

    function_so : (n : Ident) (ps : Params) (t : Typ) (ss : Stms) → IsFalse (has n.text T)
        → Agree FoundSo (judge_function first n ps t ss) (judge_function second n ps t ss)
    function_so n ps t ss free =
        let xs = only is_seen_by_functions (round block) in
        let ys = only is_seen_by_functions (behind block) in
        let seen = same_seen is_seen_by_functions block T outer in
        agree_bind (parameters_so ps xs ys seen [] []) (λ x y r. rw (r.first, r.second)
        (same_bind (type_same (r.front ∷ xs) (r.front ∷ ys) (same_ahead r.front xs ys seen) t) (λ u.
        let emits : stms_emit (emits_by (r.front ∷ xs)) (n.text ∷ []) ss
        ≡ stms_emit (emits_by (r.front ∷ ys)) (n.text ∷ []) ss =
        λ i. stms_emit (λ name. means_emitting (same_ahead r.front xs ys seen name i)) (n.text ∷ []) ss in
        rw emits (rest_so r.front r.locals u (stms_emit (emits_by (r.front ∷ ys)) (n.text ∷ []) ss) n ss free))))

    -- a statement at the top level that declares no type's name
    top_so : (s : Stm) → IfSome (declared_name s) (λ name. IsFalse (has name T))
        → Agree FoundSo (judge_top first s) (judge_top second s)
    unfolding judge_stm
    top_so (static p n t e) free = static_so p n t e free
    top_so (typedef p n t) free = typedef_so n t free
    top_so (table n f) free = table_so n f free
    top_so (function n ps t ss) free = function_so n ps t ss free
    top_so (declare n t None) free = statement_so _ _ (declaration_so n t free)
    top_so (declare n t (Some e)) free = statement_so _ _ (initialised_so n t e free)
    top_so (define n e) free = statement_so _ _ (definition_so n e free)
    top_so s free = quiet_so s refl

  -- statements at the top level that declare none
  abbrev pub AllFree : Stms → Type 0
  AllFree no_stms = Unit {0}
  AllFree (stm s ss) = IfSome (declared_name s) (λ name. IsFalse (has name T)) × AllFree ss

  pub all_so : (k : TopScene) (block : Block) (ss : Stms) → AllFree ss
      → Agree FoundSo (judge_all (with_blocks k (round block)) ss) (judge_all (with_blocks k (behind block)) ss)
  unfolding judge_all
  all_so k block no_stms free =
      agree_ok FoundSo _ _ (record { known = k; block = block; items = []; first = refl; second = refl })
  all_so k block (stm s ss) free = agree_bind (top_so k block s free.0) (λ x y r. rw (r.first, r.second)
      (agree_bind (all_so r.known r.block ss free.1) (λ v w q. rw (q.first, q.second)
      (agree_ok FoundSo _ _
      (record { known = q.known; block = q.block; items = r.items ++ q.items; first = refl; second = refl })))))

  -- so are the programs
  pub programs_so : (k : TopScene) (block : Block) (ss : Stms) → AllFree ss
      → judge_from (with_blocks k (round block)) ss ≡ judge_from (with_blocks k (behind block)) ss
  programs_so k block ss free = equal _ _ (agree_bind {S = λ (p q : Core). p ≡ q} (all_so k block ss free) (λ x y r.
      rw (r.first, r.second) (agree_ok _ _ _ refl)))
    where
      equal : (m n : Judged Core) → Agree (λ (p q : Core). p ≡ q) m n → m ≡ n
      equal (Ok x) (Ok y) h = ap good h.so
      equal (Ok x) (Err r) h = absurd h.so
      equal (Err r) (Ok y) h = absurd h.so
      equal (Err r) (Err q) h = ap bad h.so
