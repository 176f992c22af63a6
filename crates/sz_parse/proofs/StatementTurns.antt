-- The loops of the statements, turn by turn.
use Rattle.std.proofs.Common.{◌≡◌, ℕ, suc, ◌+◌, List, [], ◌∷◌, ◌++◌, Option, Some, None, refl, ap, arith}
use Rattle.sz_lex.specs.declared.token.Token.{Token}
use Rattle.sz_lex.specs.declared.sign.Sign.TheVariants as signs
use Rattle.sz_tree.specs.Names.{Ident}
use Rattle.sz_tree.specs.Statements.{StepForm, at_index, at_field, QuantifierForm, Stm}
use Rattle.sz_parse_expr.specs.Tokens.{Spelling}
use Rattle.sz_parse_expr.specs.Reading.{Read, bind, choose, after_sign, name_at, all_at, with_items}
use Rattle.sz_parse_expr.specs.ReadingExpressions.{Sub}
use Rattle.sz_parse_expr.specs.ReadingTypes.{SubType}
use Rattle.sz_parse.specs.ReadingTables.{table_index_at, table_index_step}
use Rattle.sz_parse.specs.ReadingStatements.{index_at, index_step, begins_step, step_item, path_step}
use Rattle.sz_parse.specs.ReadingTables.{name_step, names_later, begins_quantifier, quantifier_at, quantifier_step, quantifiers_after}
use Rattle.sz_parse.specs.ReadingStatements.{begins_stm, stm_step, step_at, stm_at, readers_at}
use Rattle.sz_parse_expr.proofs.Steps.{choose_some, choose_none}

same_read : {A : Type 0} (read : Read (List A)) → bind read (λ y. Some ([] ++ y.0, y.1)) ≡ read
unfolding bind
same_read (Some y) = refl
same_read None = refl

-- nothing before the items
pub all_start : {A : Type 0} (step : List Token → Option (Read A)) (ts : List Token)
    → with_items [] (all_at step ts) ≡ all_at step ts
unfolding with_items
all_start step ts = same_read (all_at step ts)

-- what stands after one of two tokens
pick_here : {A : Type 0} (f g : List Token → Option A) (o p : Option (List Token)) (r : List Token)
    → choose o p (λ r. Some r) ≡ Some r
    → choose o (choose p None (λ a. Some (f a))) (λ a. Some (g a)) ≡ Some (choose o (bind p f) g)
unfolding choose bind
pick_here f g (Some x) p r e = refl
pick_here f g None (Some y) r e = refl
pick_here f g None None r e = absurd cc

pick_gone : {A : Type 0} (f g : List Token → Option A) (o p : Option (List Token)) → choose o p (λ r. Some r) ≡ None
    → choose o (choose p None (λ a. Some (f a))) (λ a. Some (g a)) ≡ None
unfolding choose
pick_gone f g (Some x) p e = absurd cc
pick_gone f g None (Some y) e = absurd cc
pick_gone f g None None e = refl

pub index_here : (sub : Sub) (ts after : List Token) → after_sign signs.OpenBracket ts ≡ Some after
    → index_step sub ts ≡ Some (index_at sub after)
unfolding index_step
index_here sub ts after c = choose_some _ _ _ _ _ c refl

pub index_gone : (sub : Sub) (ts : List Token) → after_sign signs.OpenBracket ts ≡ None → index_step sub ts ≡ None
unfolding index_step
index_gone sub ts c = choose_none _ _ _ _ c refl

pub no_index_at_end : (sub : Sub) → index_step sub [] ≡ None
unfolding index_step after_sign choose
no_index_at_end sub = refl

module _ (text : Spelling) (sub : Sub) where
  abbrev field_part : List Token → Read StepForm
  field_part a = bind (name_at text a) (λ n. Some (at_field n.0, n.1))

  abbrev index_part : List Token → Read StepForm
  index_part a = bind (index_at sub a) (λ x. Some (at_index x.0, x.1))

  pub step_here : (ts r : List Token) → begins_step ts ≡ Some r → path_step text sub ts ≡ Some (step_item text sub ts)
  unfolding begins_step path_step step_item
  step_here ts r e = pick_here field_part index_part (after_sign signs.OpenBracket ts) (after_sign signs.Dot ts) r e

  pub step_gone : (ts : List Token) → begins_step ts ≡ None → path_step text sub ts ≡ None
  unfolding begins_step path_step
  step_gone ts e = pick_gone field_part index_part (after_sign signs.OpenBracket ts) (after_sign signs.Dot ts) e

  pub no_step_at_end : path_step text sub [] ≡ None
  unfolding path_step after_sign choose
  no_step_at_end = refl

module _ (text : Spelling) (ty : SubType) where
  pub table_index_here : (ts after : List Token) → after_sign signs.OpenBracket ts ≡ Some after
      → table_index_step text ty ts ≡ Some (table_index_at text ty after)
  unfolding table_index_step
  table_index_here ts after c = choose_some _ _ _ _ _ c refl

  pub table_index_gone : (ts : List Token) → after_sign signs.OpenBracket ts ≡ None → table_index_step text ty ts ≡ None
  unfolding table_index_step
  table_index_gone ts c = choose_none _ _ _ _ c refl

  pub no_table_index_at_end : table_index_step text ty [] ≡ None
  unfolding table_index_step after_sign choose
  no_table_index_at_end = refl

  pub quantifier_here : (ts r : List Token) → begins_quantifier text ts ≡ Some r
      → quantifier_step text ty ts ≡ Some (quantifier_at text ty ts)
  unfolding quantifier_step
  quantifier_here ts r c = choose_some _ _ _ _ _ c refl

  pub quantifier_gone : (ts : List Token) → begins_quantifier text ts ≡ None → quantifier_step text ty ts ≡ None
  unfolding quantifier_step
  quantifier_gone ts c = choose_none _ _ _ _ c refl

  pub no_quantifier_at_end : quantifier_step text ty [] ≡ None
  unfolding quantifier_step begins_quantifier name_at choose bind
  no_quantifier_at_end = refl

  pub quantifiers_start : (q : QuantifierForm) (ts : List Token)
      → with_items (q ∷ []) (all_at (quantifier_step text ty) ts) ≡ quantifiers_after text ty q ts
  unfolding with_items quantifiers_after
  quantifiers_start q ts = refl

module _ (text : Spelling) where
  pub name_here : (ts after : List Token) → after_sign signs.Comma ts ≡ Some after
      → name_step text ts ≡ Some (name_at text after)
  unfolding name_step
  name_here ts after c = choose_some _ _ _ _ _ c refl

  pub name_gone : (ts : List Token) → after_sign signs.Comma ts ≡ None → name_step text ts ≡ None
  unfolding name_step
  name_gone ts c = choose_none _ _ _ _ c refl

  pub no_name_at_end : name_step text [] ≡ None
  unfolding name_step after_sign choose
  no_name_at_end = refl

  pub names_start : (n : Ident) (ts : List Token)
      → with_items (n ∷ []) (all_at (name_step text) ts) ≡ names_later text n ts
  unfolding with_items names_later
  names_start n ts = refl

pub stm_begun : (ts b : List Token) → begins_stm ts ≡ Some b → b ≡ ts
unfolding begins_stm choose
stm_begun [] b e = absurd cc
stm_begun (t ∷ ts) b e = go (after_sign signs.CloseBrace (t ∷ ts)) e
  where
    go : (o : Option (List Token)) → choose o (Some (t ∷ ts)) (λ _. None) ≡ Some b → b ≡ t ∷ ts
    go (Some x) e = absurd cc
    go None e = cc

pub stm_is_here : (st : List Token → Read Stm) (ts b : List Token) → begins_stm ts ≡ Some b
    → stm_step st ts ≡ Some (st ts)
unfolding stm_step
stm_is_here st ts b e = choose_some _ _ _ _ _ e (ap (λ (u : List Token). Some (st u)) (stm_begun ts b e))

pub stm_gone : (st : List Token → Read Stm) (ts : List Token) → begins_stm ts ≡ None → stm_step st ts ≡ None
unfolding stm_step
stm_gone st ts c = choose_none _ _ _ _ c refl

pub no_stm_at_end : (st : List Token → Read Stm) → stm_step st [] ≡ None
unfolding stm_step begins_stm choose
no_stm_at_end st = refl

-- a statement of some height is what a token begins, with parts that are one level lower
pub stm_deeper : (text : Spelling) (d n : ℕ) (ts : List Token) → n ≡ d + 1
    → stm_at text n ts ≡ step_at text (readers_at text d) d ts
unfolding stm_at
stm_deeper text d n ts is = let up : n ≡ suc d = omega (arith, is) in ap (λ k. stm_at text k ts) up
