-- Names that variables hide.
use Rattle.std.proofs.Common.{◌≡◌, ℕ, length, Bool, true, false, List, [], ◌∷◌, ◌++◌, Some, None, refl, sym, ap, ◌∙◌, subst, append_assoc, append-nil}
use Rattle.std.specs.Prelude.{◌&&◌, ◌||◌, not, if◌then◌else◌, bytes_eq}
use Rattle.std.specs.Option.{option_or}
use Rattle.std.proofs.lemmas.List.Folds.{list_any-append}
use Rattle.sz_types.specs.Data.{Shape}
use Rattle.sz_tree.specs.declared.stmt.Quantity.{Quantity}
use Rattle.sz_tree.specs.Names.{Ident}
use Rattle.sz_tree.specs.Statements.{QuantifierForm}
use Rattle.sz_core.specs.Programs.{Signature}
use Rattle.sz_check_rules.specs.Refusals.{◌>>=◌, has_name}
use Rattle.sz_check_rules.specs.Names.{Block, Meaning, meaning_in, meaning_of, declare}
use Rattle.sz_check_rules.specs.Names as names
use Rattle.sz_check_rules.specs.JudgingTypes.{judge_type}
use Rattle.sz_check_rules.specs.Scene.{Scene, with_variable, with_quantified}
use Rattle.sz_check_rules.specs.EmittingTrees.{calls, is_seen_inside, texts_of, quantified_names}
use Rattle.sz_check_rules.specs.Quantifying.{Variable, Declared, judge_names, judge_quantifiers, bind, bind_inside}
use Rattle.sz_check_rules.proofs.Holds.{Holds, ok_holds, err_holds, bind_holds, known, weaker, if_holds}
use Rattle.sz_check_rules.proofs.ExpressionEmits.{by_signatures, Agrees}
use Rattle.sz_check_rules.proofs.TruthLemmas.{and_true, and_false, or_false}

-- ---- truth values

-- neither of two
and_neither : (a b c : Bool) → (a && not (b || c)) ≡ (a && not b && not c)
and_neither true true c = refl
and_neither true false c = refl
and_neither false b c = refl

-- a name more is hidden
calls_more : (emits : List ℕ → Bool) (h : List (List ℕ)) (name x : List ℕ)
    → calls emits (h ++ x ∷ []) name ≡ (calls emits h name && not (bytes_eq name x))
calls_more emits h name x =
    ap (λ b. emits name && not b) (list_any-append (bytes_eq name) h (x ∷ []))
    ∙ and_neither (emits name) (has_name name h) (bytes_eq name x || false)
    ∙ ap (λ b. calls emits h name && not b) (or_false (bytes_eq name x))

-- the names of the variables that the statement inside sees
abbrev pub inside_names : List Variable → List (List ℕ)
inside_names [] = []
inside_names (v ∷ vs) = if is_seen_inside v.quantity then v.name.text ∷ inside_names vs else inside_names vs

module _ (fs : List Signature) (emits : List ℕ → Bool) where
  -- a variable that is declared hides its name
  pub hides : (h : List (List ℕ)) (n : Ident) (m : Meaning) (blocks : List Block) → by_signatures fs (Some m) ≡ false
      → Agrees fs emits h blocks → Holds (declare n m blocks) (Agrees fs emits (h ++ n.text ∷ []))
  hides h n m [] silent agrees = ok_holds (Agrees fs emits (h ++ n.text ∷ [])) _
      (λ name. calls_more emits h name n.text ∙ by name (bytes_eq name n.text))
    where
      by : (name : List ℕ) (b : Bool)
          → (calls emits h name && not b) ≡ by_signatures fs (option_or (if b then Some m else None) None)
      by name true = and_false (calls emits h name) ∙ sym silent
      by name false = and_true (calls emits h name) ∙ agrees name
  hides h n m (block ∷ blocks) silent agrees =
      if_holds _ (λ twice. err_holds _ _) (λ free. ok_holds (Agrees fs emits (h ++ n.text ∷ [])) _
      (λ name. calls_more emits h name n.text ∙ by name (bytes_eq name n.text)))
    where
      by : (name : List ℕ) (b : Bool)
          → (calls emits h name && not b)
          ≡ by_signatures fs (option_or (if b then Some m else meaning_in name block) (meaning_of name blocks))
      by name true = and_false (calls emits h name) ∙ sym silent
      by name false = and_true (calls emits h name) ∙ agrees name

  -- so does a variable of a scene
  pub variable_hides : (h : List (List ℕ)) (n : Ident) (t : Shape) (s : Scene) → Agrees fs emits h s.blocks
      → Holds (with_variable n t s) (λ after. Agrees fs emits (h ++ n.text ∷ []) after.blocks)
  variable_hides h n t s agrees = bind_holds (hides h n (names.variable _ t) s.blocks refl agrees) (λ blocks more.
      ok_holds (λ (after : Scene). Agrees fs emits (h ++ n.text ∷ []) after.blocks) _ more)

  -- ---- the variables of a `when`

  names_hide : (h : List (List ℕ)) (q : Quantity) (t : Shape) (ns : List Ident) (d : Declared)
      → Agrees fs emits h d.scene.blocks
      → Holds (judge_names q t ns d) (λ r. Agrees fs emits (h ++ texts_of ns) r.scene.blocks)
  unfolding judge_names
  names_hide h q t [] d agrees = ok_holds (λ (r : Declared). Agrees fs emits (h ++ []) r.scene.blocks) d
      (subst (λ l. Agrees fs emits l d.scene.blocks) (sym (append-nil h)) agrees)
  names_hide h q t (n ∷ ns) d agrees =
      bind_holds (bind_holds (hides h n (names.quantified _ t) d.scene.blocks refl agrees) (λ blocks more.
      ok_holds (λ (after : Scene). Agrees fs emits (h ++ n.text ∷ []) after.blocks) _ more)) (λ next more.
      weaker (names_hide (h ++ n.text ∷ []) q t ns _ more)
      (λ r rest. subst (λ l. Agrees fs emits l r.scene.blocks) (append_assoc h (n.text ∷ []) (texts_of ns)) rest))

  pub quantifiers_hide : (h : List (List ℕ)) (qs : List QuantifierForm) (d : Declared)
      → Agrees fs emits h d.scene.blocks
      → Holds (judge_quantifiers qs d) (λ r. Agrees fs emits (h ++ quantified_names false qs) r.scene.blocks)
  unfolding judge_quantifiers
  quantifiers_hide h [] d agrees = ok_holds (λ (r : Declared). Agrees fs emits (h ++ []) r.scene.blocks) d
      (subst (λ l. Agrees fs emits l d.scene.blocks) (sym (append-nil h)) agrees)
  quantifiers_hide h (q ∷ qs) d agrees =
      bind_holds (bind_holds (known (judge_type d.scene.blocks q.of))
      (λ t typed. names_hide h q.quantity t q.names d agrees)) (λ next more.
      weaker (quantifiers_hide (h ++ texts_of q.names) qs next more)
      (λ r rest. subst (λ l. Agrees fs emits l r.scene.blocks)
      (append_assoc h (texts_of q.names) (quantified_names false qs)) rest))

  pub bound_hide : (h : List (List ℕ)) (vs : List Variable) (blocks : List Block) → Agrees fs emits h blocks
      → Holds (bind_inside vs blocks) (Agrees fs emits (h ++ inside_names vs))
  unfolding bind_inside
  bound_hide h [] blocks agrees =
      ok_holds (Agrees fs emits (h ++ [])) blocks (subst (λ l. Agrees fs emits l blocks) (sym (append-nil h)) agrees)
  bound_hide h (v ∷ vs) blocks agrees = by (is_seen_inside v.quantity) (λ bs k a. bound_hide k vs bs a)
    where
      by : (b : Bool) → ((bs : List Block) → (k : List (List ℕ)) → Agrees fs emits k bs
          → Holds (bind_inside vs bs) (Agrees fs emits (k ++ inside_names vs)))
          → Holds (if b then (bind v blocks >>= bind_inside vs) else bind_inside vs blocks)
          (Agrees fs emits (h ++ (if b then v.name.text ∷ inside_names vs else inside_names vs)))
      by true rest = bind_holds (hides h v.name (names.quantified v.local v.type) blocks refl agrees) (λ next more.
          weaker (rest next (h ++ v.name.text ∷ []) more)
          (λ bs done. subst (λ l. Agrees fs emits l bs) (append_assoc h (v.name.text ∷ []) (inside_names vs)) done))
      by false rest = rest blocks h agrees

-- what the statement inside sees of variables after others
inside_append : (vs ws : List Variable) → inside_names (vs ++ ws) ≡ inside_names vs ++ inside_names ws
inside_append [] ws = refl
inside_append (v ∷ vs) ws = by (is_seen_inside v.quantity) (inside_append vs ws)
  where
    by : (b : Bool) → inside_names (vs ++ ws) ≡ inside_names vs ++ inside_names ws
        → (if b then v.name.text ∷ inside_names (vs ++ ws) else inside_names (vs ++ ws))
        ≡ (if b then v.name.text ∷ inside_names vs else inside_names vs) ++ inside_names ws
    by true rest = ap (λ l. v.name.text ∷ l) rest
    by false rest = rest

-- the names of a quantifier's variables
abbrev names_inside : Quantity → List Ident → List (List ℕ)
names_inside q ns = if is_seen_inside q then texts_of ns else []

names_inside_more : (b : Bool) (front : List (List ℕ)) (x : List ℕ) (xs : List (List ℕ))
    → (front ++ (if b then x ∷ [] else [])) ++ (if b then xs else []) ≡ front ++ (if b then x ∷ xs else [])
names_inside_more true front x xs = append_assoc front (x ∷ []) xs
names_inside_more false front x xs = append_assoc front [] []

variables_of_names : (q : Quantity) (t : Shape) (ns : List Ident) (d : Declared)
    → Holds (judge_names q t ns d) (λ r. inside_names r.variables ≡ inside_names d.variables ++ names_inside q ns)
unfolding judge_names
variables_of_names q t [] d = ok_holds (λ (r : Declared). inside_names r.variables
    ≡ inside_names d.variables ++ names_inside q []) d (none (is_seen_inside q))
  where
    none : (b : Bool) → inside_names d.variables ≡ inside_names d.variables ++ (if b then [] else [])
    none true = sym (append-nil (inside_names d.variables))
    none false = sym (append-nil (inside_names d.variables))
variables_of_names q t (n ∷ ns) d = bind_holds (known (with_quantified n t d.scene)) (λ next is.
    let v : Variable = record { name = n; quantity = q; local = length d.scene.locals; type = t } in
    weaker (variables_of_names q t ns _) (λ r rest.
    rest ∙ ap (λ l. l ++ names_inside q ns) (inside_append d.variables (v ∷ []))
    ∙ names_inside_more (is_seen_inside q) (inside_names d.variables) n.text (texts_of ns)))

pub variables_of : (qs : List QuantifierForm) (d : Declared)
    → Holds (judge_quantifiers qs d)
    (λ r. inside_names r.variables ≡ inside_names d.variables ++ quantified_names true qs)
unfolding judge_quantifiers
variables_of [] d = ok_holds (λ (r : Declared). inside_names r.variables ≡ inside_names d.variables ++ []) d
    (sym (append-nil (inside_names d.variables)))
variables_of (q ∷ qs) d =
    bind_holds (bind_holds (known (judge_type d.scene.blocks q.of))
    (λ t typed. variables_of_names q.quantity t q.names d)) (λ next first.
    weaker (variables_of qs next) (λ r rest.
    rest ∙ ap (λ l. l ++ quantified_names true qs) first
    ∙ append_assoc (inside_names d.variables) (names_inside q.quantity q.names) (quantified_names true qs)))
