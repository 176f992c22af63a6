-- Turns of the loops that look for an emit.
use Rattle.std.proofs.Common.{◌≡◌, ℕ, zero, suc, ◌+◌, ◌<◌, ◌≤◌, Bool, true, false, List, [], ◌∷◌, ◌++◌, length, get_or, drop, map, refl, sym, ap, ◌∙◌}
use Rattle.std.proofs.Common.{append_assoc, append-nil, Option, Some, None}
use Rattle.std.specs.Prelude.{◌||◌, take}
use Rattle.std.specs.Borrow.{Bor}
use Rattle.std.specs.Global.{Vec}
use Rattle.sz_types.specs.declared.place.Place.{Place}
use Rattle.sz_tree.specs.Names.{Ident}
use Rattle.sz_tree.specs.declared.expr.Expr.{Expr}
use Rattle.sz_tree.specs.declared.expr.Pair.{Pair}
use Rattle.sz_tree.specs.declared.name.Name.{Name}
use Rattle.sz_tree.specs.declared.stmt.Step.{Step as TreeStep}
use Rattle.sz_tree.specs.declared.stmt.Stmt.{Stmt}
use Rattle.sz_tree.specs.Expressions.{call, list, mapping, exps_of, pairs_of}
use Rattle.sz_tree.specs.Statements.{StepForm, at_index, at_field, FirstForm, first_declare, first_define, first_simple, Stm, block, declare, define, stms_of}
use Rattle.sz_tree.specs.View.{tree_of, pair_of, step_of, stm_of}
use Rattle.sz_check_rules.specs.EmittingTrees.{calls, exp_emits, exps_emit, pairs_emit, steps_emit, stm_emits, stms_emit, hidden_after}
use Rattle.sz_check_rules.specs.EmittingTrees.{hidden_after_first}
use Rattle.sz_check_emits.specs.Hidden.{hidden_of}
use Rattle.sz_types.proofs.ForCallers.{rest_more, rest_none}
use Rattle.sz_check_rules.proofs.TruthLemmas.{or_false, or_assoc}

module _ (emits : List ℕ → Bool) (h : List (List ℕ)) where
  pub exps_turn : (es : List Expr) (i : ℕ) (e : Expr) → i < length es → e ≡ get_or es i e
      → exps_emit emits h (exps_of (map tree_of (drop i es)))
      ≡ (exp_emits emits h (tree_of e) || exps_emit emits h (exps_of (map tree_of (drop (i + 1) es))))
  unfolding exps_emit
  exps_turn es i e within is = rw (rest_more tree_of es i e within is) refl

  pub exps_over : (es : List Expr) (i : ℕ) → length es ≤ i
      → exps_emit emits h (exps_of (map tree_of (drop i es))) ≡ false
  unfolding exps_emit
  exps_over es i over = rw (rest_none tree_of es i over) refl

  pub pairs_turn : (ps : List Pair) (i : ℕ) (p : Pair) → i < length ps → p ≡ get_or ps i p
      → pairs_emit emits h (pairs_of (map pair_of (drop i ps)))
      ≡ (exp_emits emits h (tree_of p.key) || exp_emits emits h (tree_of p.value)
      || pairs_emit emits h (pairs_of (map pair_of (drop (i + 1) ps))))
  unfolding pairs_emit
  pairs_turn ps i p within is = rw (rest_more pair_of ps i p within is) refl

  pub pairs_over : (ps : List Pair) (i : ℕ) → length ps ≤ i
      → pairs_emit emits h (pairs_of (map pair_of (drop i ps))) ≡ false
  unfolding pairs_emit
  pairs_over ps i over = rw (rest_none pair_of ps i over) refl

  step_front : (x : StepForm) (xs : List StepForm)
      → steps_emit emits h (x ∷ xs) ≡ (steps_emit emits h (x ∷ []) || steps_emit emits h xs)
  unfolding steps_emit
  step_front (at_index e) xs = ap (λ b. b || steps_emit emits h xs) (sym (or_false (exp_emits emits h e)))
  step_front (at_field n) xs = refl

  pub steps_turn : (xs : List TreeStep) (i : ℕ) (x : TreeStep) → i < length xs → x ≡ get_or xs i x
      → steps_emit emits h (map step_of (drop i xs))
      ≡ (steps_emit emits h (step_of x ∷ []) || steps_emit emits h (map step_of (drop (i + 1) xs)))
  steps_turn xs i x within is = ap (steps_emit emits h) (rest_more step_of xs i x within is)
      ∙ step_front (step_of x) (map step_of (drop (i + 1) xs))

  pub steps_over : (xs : List TreeStep) (i : ℕ) → length xs ≤ i → steps_emit emits h (map step_of (drop i xs)) ≡ false
  unfolding steps_emit
  steps_over xs i over = ap (steps_emit emits h) (rest_none step_of xs i over)

-- ---- expressions whose parts stand in a vector

module _ (emits : List ℕ → Bool) (h : List (List ℕ)) where
  -- a call whose name calls nothing that emits: its arguments decide
  pub call_emits : (e : Expr) (n : Ident) (v : Vec Expr) (es : List Expr) (itself : Bool)
      → tree_of e ≡ call n (exps_of (map tree_of v.items)) → es ≡ v.items → itself ≡ calls emits h n.text
      → itself ≡ false → exps_emit emits h (exps_of (map tree_of es)) ≡ exp_emits emits h (tree_of e)
  unfolding exp_emits
  call_emits e n v es itself is items known silent =
      ap (λ (xs : List Expr). exps_emit emits h (exps_of (map tree_of xs))) items
      ∙ sym (ap (exp_emits emits h) is
      ∙ ap (λ (b : Bool). b || exps_emit emits h (exps_of (map tree_of v.items))) (sym known ∙ silent))

  pub list_emits : (e : Expr) (p : Place) (v : Vec Expr) (es : List Expr)
      → tree_of e ≡ list p (exps_of (map tree_of v.items)) → es ≡ v.items
      → exps_emit emits h (exps_of (map tree_of es)) ≡ exp_emits emits h (tree_of e)
  unfolding exp_emits
  list_emits e p v es is items = ap (λ (xs : List Expr). exps_emit emits h (exps_of (map tree_of xs))) items
      ∙ sym (ap (exp_emits emits h) is)

  pub map_emits : (e : Expr) (p : Place) (v : Vec Pair) (ps : List Pair)
      → tree_of e ≡ mapping p (pairs_of (map pair_of v.items)) → ps ≡ v.items
      → pairs_emit emits h (pairs_of (map pair_of ps)) ≡ exp_emits emits h (tree_of e)
  unfolding exp_emits
  map_emits e p v ps is items = ap (λ (xs : List Pair). pairs_emit emits h (pairs_of (map pair_of xs))) items
      ∙ sym (ap (exp_emits emits h) is)

  -- a block
  pub block_emits : (s : Stmt) (p : Place) (v : Vec Stmt) (ss : List Stmt)
      → stm_of s ≡ block p (stms_of (map stm_of v.items)) → ss ≡ v.items
      → stms_emit emits h (stms_of (map stm_of ss)) ≡ stm_emits emits h (stm_of s)
  unfolding stm_emits
  block_emits s p v ss is items = ap (λ (xs : List Stmt). stms_emit emits h (stms_of (map stm_of xs))) items
      ∙ sym (ap (stm_emits emits h) is)

-- ---- names that are hidden by now

-- the front of what is hidden
pub front_taken : (front more : List (List ℕ)) (n : ℕ) → n ≡ length front → take n (front ++ more) ≡ front
front_taken front more n is = ap (λ (m : ℕ). take m (front ++ more)) is ∙ at front
  where
    at : (front : List (List ℕ)) → take (length front) (front ++ more) ≡ front
    at [] = refl
    at (x ∷ xs) = ap (λ (l : List (List ℕ)). x ∷ l) (at xs)

-- a statement leaves what was hidden in front
pub after_front : (h : List (List ℕ)) (s : Stm) → (more : List (List ℕ)) × (hidden_after h s ≡ h ++ more)
after_front h (declare n t e) = (n.text ∷ [], refl)
after_front h (define n e) = (n.text ∷ [], refl)
after_front h _ = ([], sym (append-nil h))

pub first_front : (h : List (List ℕ)) (f : Option FirstForm)
    → (more : List (List ℕ)) × (hidden_after_first h f ≡ h ++ more)
first_front h (Some (first_declare n t e)) = (n.text ∷ [], refl)
first_front h (Some (first_define n e)) = (n.text ∷ [], refl)
first_front h (Some (first_simple s)) = ([], sym (append-nil h))
first_front h None = ([], sym (append-nil h))

-- where the first holds, so does the whole; where it doesn't, the rest decides
pub holds_whole : (b c whole : Bool) → (b || c) ≡ whole → b ≡ true → true ≡ whole
holds_whole b c whole same h = ap (λ d. d || c) (sym h) ∙ same

pub rest_decides : (b c whole : Bool) → (b || c) ≡ whole → b ≡ false → c ≡ whole
rest_decides b c whole same h = ap (λ d. d || c) (sym h) ∙ same

-- where the first holds, one of both does; where it doesn't, the second decides
pub first_holds : (b c : Bool) → b ≡ true → (b || c) ≡ true
first_holds b c h = ap (λ d. d || c) h

pub second_decides : (b c d : Bool) → b ≡ false → c ≡ d → (b || c) ≡ d
second_decides b c d h same = ap (λ e. e || c) h ∙ same

-- ---- what is hidden by names that are lent

hidden_taken : (n : ℕ) (xs : List (Bor Name)) → hidden_of (take n xs) ≡ take n (hidden_of xs)
hidden_taken n [] = nothing n
  where
    nothing : (n : ℕ) → hidden_of (take n []) ≡ take n []
    nothing zero = refl
    nothing (suc n) = refl
hidden_taken zero (x ∷ xs) = refl
hidden_taken (suc n) (x ∷ xs) = ap (λ (l : List (List ℕ)). x.now.text ∷ l) (hidden_taken n xs)

hidden_length : (xs : List (Bor Name)) → length (hidden_of xs) ≡ length xs
hidden_length [] = refl
hidden_length (x ∷ xs) = ap (λ n. suc n) (hidden_length xs)

-- as many names as there were are those that there were, if they are still in front
pub kept_front : (old mid : List (Bor Name)) (count : ℕ) (more : List (List ℕ)) → count ≡ length old
    → hidden_of mid ≡ hidden_of old ++ more → hidden_of (take count mid) ≡ hidden_of old
kept_front old mid count more counted is =
    hidden_taken count mid ∙ ap (take count) is
    ∙ front_taken (hidden_of old) more count (counted ∙ sym (hidden_length old))

pub kept_taken : (old mid : List (Bor Name)) (count : ℕ) → count ≡ length old
    → take (length old) (hidden_of mid) ≡ hidden_of old → hidden_of (take count mid) ≡ hidden_of old
kept_taken old mid count counted is = hidden_taken count mid ∙ ap (λ n. take n (hidden_of mid)) counted ∙ is

-- the names are those that there were after a statement, a `for` and a `when` too
pub kept_later : (old mid : List (Bor Name)) (count : ℕ) (s : Stm) → count ≡ length old
    → hidden_of mid ≡ hidden_after (hidden_of old) s → hidden_of (take count mid) ≡ hidden_of old
kept_later old mid count s counted is =
    let front = after_front (hidden_of old) s in
    kept_front old mid count front.0 counted (is ∙ front.1)

pub kept_after_for : (old start mid : List (Bor Name)) (count : ℕ) (f : Option FirstForm) → count ≡ length old
    → hidden_of start ≡ hidden_after_first (hidden_of old) f → hidden_of mid ≡ hidden_of start
    → hidden_of (take count mid) ≡ hidden_of old
kept_after_for old start mid count f counted is same =
    let front = first_front (hidden_of old) f in
    kept_front old mid count front.0 counted (same ∙ is ∙ front.1)

-- names that are hidden for the condition of a `when`, and then others for the statement inside
module _ (old first cut second : List (Bor Name)) (count : ℕ) (names inside : List (List ℕ))
    (counted : count ≡ length old)
    (is : hidden_of first ≡ hidden_of old ++ names) (cut_is : cut ≡ take count first)
    (later : hidden_of second ≡ hidden_of cut ++ inside) where
  pub hidden_inside : hidden_of second ≡ hidden_of old ++ inside
  hidden_inside = later
      ∙ ap (λ (l : List (List ℕ)). l ++ inside) (ap hidden_of cut_is ∙ kept_front old first count names counted is)

  pub kept_after_when : (after : List (Bor Name)) → hidden_of after ≡ hidden_of second
      → hidden_of (take count after) ≡ hidden_of old
  kept_after_when after same = kept_front old after count inside counted (same ∙ hidden_inside)

-- ---- turns of the loop over statements

module _ (emits : List ℕ → Bool) (h : List (List ℕ)) (ts : List Stmt) (i : ℕ) where
  stms_turn : (t : Stmt) → i < length ts → t ≡ get_or ts i t
      → stms_emit emits h (stms_of (map stm_of (drop i ts)))
      ≡ (stm_emits emits h (stm_of t)
      || stms_emit emits (hidden_after h (stm_of t)) (stms_of (map stm_of (drop (i + 1) ts))))
  unfolding stms_emit
  stms_turn t within is = rw (rest_more stm_of ts i t within is) refl

  pub stms_go : (t : Stmt) (found here whole : Bool) (k : List (List ℕ)) → i < length ts → t ≡ get_or ts i t
      → here ≡ stm_emits emits h (stm_of t)
      → k ≡ hidden_after h (stm_of t) → (found || stms_emit emits h (stms_of (map stm_of (drop i ts)))) ≡ whole
      → (found || here || stms_emit emits k (stms_of (map stm_of (drop (i + 1) ts)))) ≡ whole
  stms_go t found here whole k within is here_is k_is so_far =
      (λ j. found || here_is j || stms_emit emits (k_is j) (stms_of (map stm_of (drop (i + 1) ts))))
      ∙ or_assoc found (stm_emits emits h (stm_of t))
      (stms_emit emits (hidden_after h (stm_of t)) (stms_of (map stm_of (drop (i + 1) ts))))
      ∙ ap (λ b. found || b) (sym (stms_turn t within is)) ∙ so_far

  pub stms_end : (found whole : Bool) → length ts ≤ i
      → (found || stms_emit emits h (stms_of (map stm_of (drop i ts)))) ≡ whole → found ≡ whole
  unfolding stms_emit
  stms_end found whole over so_far =
      sym (or_false found)
      ∙ ap (λ (l : List Stm). found || stms_emit emits h (stms_of l)) (sym (rest_none stm_of ts i over)) ∙ so_far

-- more is hidden after a statement
pub front_grows : (old h k more : List (List ℕ)) (s : Stm) → h ≡ old ++ more → k ≡ hidden_after h s
    → (rest : List (List ℕ)) × (k ≡ old ++ rest)
front_grows old h k more s is following =
    let next = after_front h s in
    (more ++ next.0, following ∙ next.1 ∙ ap (λ (l : List (List ℕ)). l ++ next.0) is ∙ append_assoc old more next.0)
