-- Turns of the loops that carry what is known from one element to the next.
use Rattle.std.proofs.Common.{◌≡◌, ℕ, ◌+◌, ◌<◌, ◌≤◌, Bool, true, false, List, [], ◌∷◌, ◌++◌, length, get_or, drop, refl, sym, ap, ◌∙◌, subst}
use Rattle.std.specs.Prelude.{Ok, Err, if◌then◌else◌}
use Rattle.std.proofs.lemmas.List.{drop_more}
use Rattle.std.proofs.Math.ListN.{drop_of_length-le}
use Rattle.sz_types.specs.Data.{Shape}
use Rattle.sz_tree.specs.declared.stmt.Quantity.{Quantity}
use Rattle.sz_tree.specs.Names.{Ident}
use Rattle.sz_check_rules.specs.Refusals.{Judged, ◌>>=◌}
use Rattle.sz_check_rules.specs.Names.{Block}
use Rattle.sz_check_rules.specs.Scene.{Scene, with_quantified}
use Rattle.sz_check_names.specs.Outcome.{Stops}
use Rattle.sz_check_names.specs.declared.error.JudgeError.{JudgeError}
use Rattle.sz_check_rules.specs.EmittingTrees.{is_seen_inside}
use Rattle.sz_check_rules.specs.Quantifying.{Variable, Declared, judge_names, judge_quantifier, judge_quantifiers, bind, bind_inside, may_follow, all_last}
use Rattle.sz_check_names.proofs.TurnLemmas.{stops_then, goes_on}
use Rattle.sz_check.proofs.StatementLoops.{assoc}

-- the elements from a place on
pub rest_is : {A : Type 0} (xs : List A) (i : ℕ) (x : A) → i < length xs → x ≡ get_or xs i x
    → drop i xs ≡ x ∷ drop (i + 1) xs
rest_is xs i x within is = drop_more xs i x within ∙ ap (λ (y : _). y ∷ drop (i + 1) xs) (sym is)

pub nothing_left : {A : Type 0} (xs : List A) (i : ℕ) → length xs ≤ i → drop i xs ≡ []
nothing_left xs i over = drop_of_length-le xs over

-- a judgement that goes from one element to the next
pub record Goes {A S : Type 0} (step : A → S → Judged S) (whole : List A → S → Judged S) : Type 0 where
  pub more : (x : A) (xs : List A) (s : S) → whole (x ∷ xs) s ≡ (step x s >>= whole xs)
  pub none : (s : S) → whole [] s ≡ Ok s

module _ {A S : Type 0} {step : A → S → Judged S} {whole : List A → S → Judged S} (goes : Goes step whole) where
  -- an element that is refused stops all
  pub fold_fails : (xs rest : List A) (x : A) (s : S) (e : JudgeError) (all : Judged S) → xs ≡ x ∷ rest
      → Stops e (step x s) → whole xs s ≡ all → Stops e all
  fold_fails xs rest x s e all is h so_far =
      stops_then e (step x s) (whole rest) all h
      (sym (goes.more x rest s) ∙ ap (λ (l : List A). whole l s) (sym is) ∙ so_far)

  -- one that is judged leaves the others
  pub fold_goes : (xs rest : List A) (x : A) (s u : S) (all : Judged S) → xs ≡ x ∷ rest → step x s ≡ Ok u
      → whole xs s ≡ all → whole rest u ≡ all
  fold_goes xs rest x s u all is h so_far =
      goes_on (step x s) (whole rest) all u h
      (sym (goes.more x rest s) ∙ ap (λ (l : List A). whole l s) (sym is) ∙ so_far)

  -- nothing is left
  pub fold_ends : (xs : List A) (s : S) (all : Judged S) → xs ≡ [] → whole xs s ≡ all → all ≡ Ok s
  fold_ends xs s all is so_far = sym so_far ∙ ap (λ (l : List A). whole l s) is ∙ goes.none s

-- the names of a quantifier
pub names_go : (q : Quantity) (t : Shape) → Goes (λ n. judge_names q t (n ∷ [])) (judge_names q t)
unfolding judge_names
names_go q t = record {
  more = λ n ns d.
      assoc (with_quantified n t d.scene)
      (λ next. Ok (record {
        scene = next;
        variables = d.variables ++ record { name = n; quantity = q; local = length d.scene.locals; type = t } ∷ [];
      }))
      (judge_names q t ns);
  none = λ d. refl;
}

-- one name, which is refused or declared; its type may have another spelling
pub name_stops : (q : Quantity) (t u : Shape) (n : Ident) (d : Declared) (e : JudgeError) → u ≡ t
    → Stops e (with_quantified n u d.scene) → Stops e (judge_names q t (n ∷ []) d)
unfolding judge_names
name_stops q t u n d e same h =
    let v : Variable = record { name = n; quantity = q; local = length d.scene.locals; type = t } in
    stops_then e (with_quantified n t d.scene)
    (λ next. Ok (record { scene = next; variables = d.variables ++ v ∷ [] })) _
    (subst (λ x. Stops e (with_quantified n x d.scene)) same h) refl

pub name_goes : (q : Quantity) (t u : Shape) (n : Ident) (d : Declared) (next : Scene) (v : Variable)
    (vs : List Variable) → u ≡ t → with_quantified n u d.scene ≡ Ok next → v ≡ record {
      name = n;
      quantity = q;
      local = length d.scene.locals;
      type = t;
    }
    → vs ≡ d.variables ++ v ∷ [] → judge_names q t (n ∷ []) d ≡ Ok (record { scene = next; variables = vs })
unfolding judge_names
name_goes q t u n d next v vs same h v_is vs_is =
    let w : Variable = record { name = n; quantity = q; local = length d.scene.locals; type = t } in
    ap (λ (j : Judged Scene). j >>= λ x. Ok (record { scene = x; variables = d.variables ++ w ∷ [] }))
    (ap (λ x. with_quantified n x d.scene) (sym same) ∙ h)
    ∙ ap (λ (l : List Variable). Ok (record { scene = next; variables = l }))
    (ap (λ x. d.variables ++ x ∷ []) (sym v_is) ∙ sym vs_is)

-- quantifiers
pub quantifiers_go : Goes judge_quantifier judge_quantifiers
unfolding judge_quantifiers
quantifiers_go = record { more = λ q qs d. refl; none = λ d. refl }

-- the variables that the statement inside sees
inside_more : (v : Variable) (vs : List Variable) (blocks : List Block) (b : Bool)
    → (if b then (bind v blocks >>= bind_inside vs) else bind_inside vs blocks)
    ≡ ((if b then (bind v blocks >>= bind_inside []) else bind_inside [] blocks) >>= bind_inside vs)
unfolding bind_inside
inside_more v vs blocks true = assoc (bind v blocks) (bind_inside []) (bind_inside vs)
inside_more v vs blocks false = refl

pub inside_go : Goes (λ v. bind_inside (v ∷ [])) bind_inside
unfolding bind_inside
inside_go = record { more = λ v vs blocks. inside_more v vs blocks (is_seen_inside v.quantity); none = λ blocks. refl }

-- one variable
as_it_is : {A : Type 0} (j : Judged A) → (j >>= λ x. Ok x) ≡ j
as_it_is (Ok x) = refl
as_it_is (Err r) = refl

pub one_inside : (v : Variable) (blocks : List Block) → is_seen_inside v.quantity ≡ true
    → bind_inside (v ∷ []) blocks ≡ bind v blocks
unfolding bind_inside
one_inside v blocks h =
    ap (λ (b : Bool). if b then (bind v blocks >>= λ x. Ok x) else Ok blocks) h ∙ as_it_is (bind v blocks)

pub not_inside : (v : Variable) (blocks : List Block) → is_seen_inside v.quantity ≡ false
    → bind_inside (v ∷ []) blocks ≡ Ok blocks
unfolding bind_inside
not_inside v blocks h = ap (λ (b : Bool). if b then (bind v blocks >>= λ x. Ok x) else Ok blocks) h

-- the variables that speak of all candidates
pub last_go : Goes may_follow all_last
unfolding all_last
last_go = record { more = λ v vs after. refl; none = λ after. refl }
