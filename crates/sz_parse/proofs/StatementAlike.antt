-- Two spellings that agree on each token of a list spell the same statements, and so the same is read.
use Rattle.std.proofs.Common.{◌≡◌, ℕ, List, [], ◌∷◌, Option, Some, None, refl}
use Rattle.sz_lex.specs.declared.token.Token.{Token}
use Rattle.sz_lex.specs.declared.sign.Sign.{Sign}
use Rattle.sz_tree.specs.Types.{no_params, param}
use Rattle.sz_tree.specs.Statements.{at_index, at_field, assign, increment, decrement, call_of, first_declare, first_define, first_simple}
use Rattle.sz_tree.specs.Statements.{Stm, empty, block, declare, define, static, typedef, table, function, simple, if_only, if_else, while}
use Rattle.sz_tree.specs.Statements.{do_while, for_loop, break, continue, return, emit, when, Stms, no_stms, stm}
use Rattle.sz_parse_expr.specs.Tokens.{Spelling, Many}
use Rattle.sz_parse_expr.specs.Expressions.{Reads}
use Rattle.sz_parse.specs.Statements.{Perhaps, ReadsArgument, ReadsAfter, ReadsWeight, ReadsIndex, ReadsStep, ReadsSimple, ReadsFirst, ReadsTableIndex}
use Rattle.sz_parse.specs.Statements.{ReadsTableWeight, ReadsTable, ReadsNextName, ReadsNames, ReadsQuantifier, ReadsQuantifiers}
use Rattle.sz_parse.specs.Statements.{ReadsDeclared, ReadsCondition, ReadsStm, ReadsStms}
use Rattle.sz_parse.specs.ReadingStatements.{stm_at}
use Rattle.sz_parse_expr.proofs.ExpressionAlike.{Agree, Alike, agree_back, on_end, on_at, on_is, on_name, exp_alike, args_alike}
use Rattle.sz_parse_expr.proofs.TypeAlike.{type_alike, params_alike, elem_alike}
use Rattle.sz_parse.proofs.StatementSound.{stm_sound}
use Rattle.sz_parse.proofs.StatementComplete.{stm_complete}

module _ (f g : Spelling) where
  perhaps_alike : {A : Type 0} (R S : A → List Token → List Token → Type 0) → Alike f g R S
      → Alike f g (Perhaps R) (Perhaps S)
  perhaps_alike R S on None ts rest h a = (h, on_end f g ts rest h a)
  perhaps_alike R S on (Some x) ts rest h a = on x ts rest h a

  many_alike : {A : Type 0} (R S : A → List Token → List Token → Type 0) → Alike f g R S → Alike f g (Many R) (Many S)
  unfolding Many
  many_alike R S on [] ts rest h a = (h, on_end f g ts rest h a)
  many_alike R S on (x ∷ xs) ts rest h a =
      let y = on x ts _ h.1 a in
      let z = many_alike R S on xs _ rest h.2 y.1 in
      ((h.0, y.0, z.0), z.1)

  argument_alike : Alike f g ReadsArgument ReadsArgument
  argument_alike n ts rest h a = (h, on_is f g h.4 (on_is f g h.3 (on_is f g h.2 a)))

  after_alike : (s : Sign) → Alike f g (ReadsAfter f s) (ReadsAfter g s)
  after_alike s e ts rest h a =
      let x = exp_alike f g e _ _ h.2 (on_is f g h.1 a) in
      ((h.0, h.1, x.0), x.1)

  weight_alike : Alike f g (ReadsWeight f) (ReadsWeight g)
  weight_alike e ts rest h a =
      let x = exp_alike f g e _ _ h.2 (on_is f g h.1 a) in
      ((h.0, h.1, x.0), x.1)

  index_alike : Alike f g (ReadsIndex f) (ReadsIndex g)
  index_alike e ts rest h a =
      let x = exp_alike f g e _ _ h.3 (on_is f g h.2 a) in
      ((h.0, h.1, h.2, x.0, h.4), on_is f g h.4 x.1)

  condition_alike : Alike f g (ReadsCondition f) (ReadsCondition g)
  condition_alike e ts rest h a =
      let x = exp_alike f g e _ _ h.3 (on_is f g h.2 a) in
      ((h.0, h.1, h.2, x.0, h.4), on_is f g h.4 x.1)

  step_alike : Alike f g (ReadsStep f) (ReadsStep g)
  step_alike (at_index e) ts rest h a = index_alike e ts rest h a
  step_alike (at_field n) ts rest h a =
      let m = on_name f g h.2 (on_is f g h.1 a) in
      ((h.0, h.1, m.0), m.1)

  simple_alike : Alike f g (ReadsSimple f) (ReadsSimple g)
  unfolding ReadsSimple
  simple_alike (assign p e) ts rest h a =
      let m = on_name f g h.3 a in
      let s = many_alike (ReadsStep f) (ReadsStep g) step_alike p.steps _ _ h.4 m.1 in
      let x = exp_alike f g e _ _ h.6 (on_is f g h.5 s.1) in
      ((h.0, h.1, h.2, m.0, s.0, h.5, x.0), x.1)
  simple_alike (increment n) ts rest h a =
      let m = on_name f g h.1 a in
      ((h.0, m.0, h.2), on_is f g h.2 m.1)
  simple_alike (decrement n) ts rest h a =
      let m = on_name f g h.1 a in
      ((h.0, m.0, h.2), on_is f g h.2 m.1)
  simple_alike (call_of n es) ts rest h a =
      let m = on_name f g h.3 a in
      let x = args_alike f g es _ _ h.5 (on_is f g h.4 m.1) in
      ((h.0, h.1, h.2, m.0, h.4, x.0, h.6), on_is f g h.6 x.1)

  first_alike : Alike f g (ReadsFirst f) (ReadsFirst g)
  unfolding ReadsFirst
  first_alike (first_declare n t e) ts rest h a =
      let m = on_name f g h.4 a in
      let x = type_alike f g t _ _ h.6 (on_is f g h.5 m.1) in
      let y = exp_alike f g e _ _ h.8 (on_is f g h.7 x.1) in
      ((h.0, h.1, h.2, h.3, m.0, h.5, x.0, h.7, y.0), y.1)
  first_alike (first_define n e) ts rest h a =
      let m = on_name f g h.2 a in
      let x = exp_alike f g e _ _ h.4 (on_is f g h.3 m.1) in
      ((h.0, h.1, m.0, h.3, x.0), x.1)
  first_alike (first_simple s) ts rest h a = simple_alike s ts rest h a

  table_index_alike : Alike f g (ReadsTableIndex f) (ReadsTableIndex g)
  table_index_alike e ts rest h a =
      let x = elem_alike f g e _ _ h.3 (on_is f g h.2 a) in
      ((h.0, h.1, h.2, x.0, h.4), on_is f g h.4 x.1)

  table_weight_alike : Alike f g (ReadsTableWeight f) (ReadsTableWeight g)
  table_weight_alike e ts rest h a =
      let x = elem_alike f g e _ _ h.2 (on_is f g h.1 a) in
      ((h.0, h.1, x.0), x.1)

  table_alike : Alike f g (ReadsTable f) (ReadsTable g)
  unfolding ReadsTable
  table_alike t ts rest h a =
      let m = on_name f g h.6 a in
      let n = perhaps_alike ReadsArgument ReadsArgument argument_alike t.argument _ _ h.7 m.1 in
      let i = many_alike (ReadsTableIndex f) (ReadsTableIndex g) table_index_alike t.indexes _ _ h.8 n.1 in
      let x = elem_alike f g t.of _ _ h.10 (on_is f g h.9 i.1) in
      let w = perhaps_alike (ReadsTableWeight f) (ReadsTableWeight g) table_weight_alike t.weight _ _ h.11 x.1 in
      ((h.0, h.1, h.2, h.3, h.4, h.5, m.0, n.0, i.0, h.9, x.0, w.0, h.12), on_is f g h.12 w.1)

  next_name_alike : Alike f g (ReadsNextName f) (ReadsNextName g)
  next_name_alike n ts rest h a =
      let m = on_name f g h.2 (on_is f g h.1 a) in
      ((h.0, h.1, m.0), m.1)

  names_alike : Alike f g (ReadsNames f) (ReadsNames g)
  names_alike [] ts rest h a = absurd h
  names_alike (n ∷ ns) ts rest h a =
      let m = on_name f g h.1 a in
      let s = many_alike (ReadsNextName f) (ReadsNextName g) next_name_alike ns _ _ h.2 m.1 in
      ((h.0, m.0, s.0), s.1)

  quantifier_alike : Alike f g (ReadsQuantifier f) (ReadsQuantifier g)
  unfolding ReadsQuantifier
  quantifier_alike q ts rest h a =
      let m = names_alike q.names _ _ h.4 a in
      let x = type_alike f g q.of _ _ h.7 (on_is f g h.6 (on_is f g h.5 m.1)) in
      ((h.0, h.1, h.2, h.3, m.0, h.5, h.6, x.0, h.8), on_is f g h.8 x.1)

  quantifiers_alike : Alike f g (ReadsQuantifiers f) (ReadsQuantifiers g)
  quantifiers_alike [] ts rest h a = absurd h
  quantifiers_alike (q ∷ qs) ts rest h a =
      let x = quantifier_alike q _ _ h.1 a in
      let y = many_alike (ReadsQuantifier f) (ReadsQuantifier g) quantifier_alike qs _ _ h.2 x.1 in
      ((h.0, x.0, y.0), y.1)

  declared_alike : Alike f g (ReadsDeclared f) (ReadsDeclared g)
  declared_alike no_params ts rest h a = (h, on_end f g ts rest h a)
  declared_alike (param n t ps) ts rest h a = params_alike f g (param n t ps) ts rest h a

  mutual
    unfolding ReadsStm

    pub stm_alike : (s : Stm) (ts rest : List Token) → ReadsStm f s ts rest → Agree f g ts
        → ReadsStm g s ts rest × Agree f g rest
    stm_alike (empty p) ts rest h a = (h, on_at f g h a)
    stm_alike (block p ss) ts rest h a =
        let x = stms_alike ss _ _ h.3 (on_at f g h.2 a) in
        ((h.0, h.1, h.2, x.0, h.4), on_is f g h.4 x.1)
    stm_alike (declare n t e) ts rest h a =
        let m = on_name f g h.4 a in
        let x = type_alike f g t _ _ h.6 (on_is f g h.5 m.1) in
        let y = perhaps_alike (ReadsAfter f _) (ReadsAfter g _) (after_alike _) e _ _ h.7 x.1 in
        ((h.0, h.1, h.2, h.3, m.0, h.5, x.0, y.0, h.8), on_is f g h.8 y.1)
    stm_alike (define n e) ts rest h a =
        let m = on_name f g h.3 a in
        let x = exp_alike f g e _ _ h.5 (on_is f g h.4 m.1) in
        ((h.0, h.1, h.2, m.0, h.4, x.0, h.6), on_is f g h.6 x.1)
    stm_alike (static p n t e) ts rest h a =
        let m = on_name f g h.7 (on_at f g h.6 a) in
        let x = type_alike f g t _ _ h.9 (on_is f g h.8 m.1) in
        let y = exp_alike f g e _ _ h.11 (on_is f g h.10 x.1) in
        ((h.0, h.1, h.2, h.3, h.4, h.5, h.6, m.0, h.8, x.0, h.10, y.0, h.12), on_is f g h.12 y.1)
    stm_alike (typedef p n t) ts rest h a =
        let m = on_name f g h.5 (on_at f g h.4 a) in
        let x = type_alike f g t _ _ h.7 (on_is f g h.6 m.1) in
        ((h.0, h.1, h.2, h.3, h.4, m.0, h.6, x.0, h.8), on_is f g h.8 x.1)
    stm_alike (table n t) ts rest h a =
        let m = on_name f g h.3 a in
        let x = table_alike t _ _ h.6 (on_is f g h.5 (on_is f g h.4 m.1)) in
        ((h.0, h.1, h.2, m.0, h.4, h.5, x.0), x.1)
    stm_alike (function n ps t ss) ts rest h a =
        let m = on_name f g h.10 a in
        let d = declared_alike ps _ _ h.14 (on_is f g h.13 (on_is f g h.12 (on_is f g h.11 m.1))) in
        let x = type_alike f g t _ _ h.17 (on_is f g h.16 (on_is f g h.15 d.1)) in
        let y = stms_alike ss _ _ h.19 (on_is f g h.18 x.1) in (
          (
            h.0,
            h.1,
            h.2,
            h.3,
            h.4,
            h.5,
            h.6,
            h.7,
            h.8,
            h.9,
            m.0,
            h.11,
            h.12,
            h.13,
            d.0,
            h.15,
            h.16,
            x.0,
            h.18,
            y.0,
            h.20,
          ),
          on_is f g h.20 y.1,
        )
    stm_alike (simple s) ts rest h a =
        let x = simple_alike s _ _ h.1 a in
        ((h.0, x.0, h.2), on_is f g h.2 x.1)
    stm_alike (if_only p c s) ts rest h a =
        let x = condition_alike c _ _ h.3 (on_at f g h.2 a) in
        let y = stm_alike s _ _ h.4 x.1 in
        ((h.0, h.1, h.2, x.0, y.0, h.5), y.1)
    stm_alike (if_else p c s t) ts rest h a =
        let x = condition_alike c _ _ h.5 (on_at f g h.4 a) in
        let y = stm_alike s _ _ h.6 x.1 in
        let z = stm_alike t _ _ h.8 (on_is f g h.7 y.1) in
        ((h.0, h.1, h.2, h.3, h.4, x.0, y.0, h.7, z.0), z.1)
    stm_alike (while p c s) ts rest h a =
        let x = condition_alike c _ _ h.3 (on_at f g h.2 a) in
        let y = stm_alike s _ _ h.4 x.1 in
        ((h.0, h.1, h.2, x.0, y.0), y.1)
    stm_alike (do_while p s c) ts rest h a =
        let x = stm_alike s _ _ h.5 (on_at f g h.4 a) in
        let y = condition_alike c _ _ h.7 (on_is f g h.6 x.1) in
        ((h.0, h.1, h.2, h.3, h.4, x.0, h.6, y.0, h.8), on_is f g h.8 y.1)
    stm_alike (for_loop p first c t s) ts rest h a =
        let x =
        perhaps_alike (ReadsFirst f) (ReadsFirst g) first_alike first _ _ h.10 (on_is f g h.9 (on_at f g h.8 a)) in
        let y = perhaps_alike (Reads f) (Reads g) (exp_alike f g) c _ _ h.12 (on_is f g h.11 x.1) in
        let z = perhaps_alike (ReadsSimple f) (ReadsSimple g) simple_alike t _ _ h.14 (on_is f g h.13 y.1) in
        let w = stm_alike s _ _ h.16 (on_is f g h.15 z.1) in
        ((h.0, h.1, h.2, h.3, h.4, h.5, h.6, h.7, h.8, h.9, x.0, h.11, y.0, h.13, z.0, h.15, w.0), w.1)
    stm_alike (break p) ts rest h a = (h, on_is f g h.2 (on_at f g h.1 a))
    stm_alike (continue p) ts rest h a = (h, on_is f g h.2 (on_at f g h.1 a))
    stm_alike (return p e) ts rest h a =
        let x = perhaps_alike (Reads f) (Reads g) (exp_alike f g) e _ _ h.3 (on_at f g h.2 a) in
        ((h.0, h.1, h.2, x.0, h.4), on_is f g h.4 x.1)
    stm_alike (emit p n es e w) ts rest h a =
        let m = on_name f g h.9 (on_at f g h.8 a) in
        let i = many_alike (ReadsIndex f) (ReadsIndex g) index_alike h.0 _ _ h.10 m.1 in
        let x = exp_alike f g e _ _ h.12 (on_is f g h.11 i.1) in
        let y = perhaps_alike (ReadsWeight f) (ReadsWeight g) weight_alike w _ _ h.13 x.1 in
        ((h.0, h.1, h.2, h.3, h.4, h.5, h.6, h.7, h.8, m.0, i.0, h.11, x.0, y.0, h.14), on_is f g h.14 y.1)
    stm_alike (when p qs c s) ts rest h a =
        let q = quantifiers_alike qs _ _ h.7 (on_is f g h.6 (on_at f g h.5 a)) in
        let x = exp_alike f g c _ _ h.8 q.1 in
        let y = stm_alike s _ _ h.10 (on_is f g h.9 x.1) in
        ((h.0, h.1, h.2, h.3, h.4, h.5, h.6, q.0, x.0, h.9, y.0), y.1)

    stms_alike : (ss : Stms) (ts rest : List Token) → ReadsStms f ss ts rest → Agree f g ts
        → ReadsStms g ss ts rest × Agree f g rest
    stms_alike no_stms ts rest h a = (h, on_end f g ts rest h a)
    stms_alike (stm s ss) ts rest h a =
        let x = stm_alike s _ _ h.1 a in
        let y = stms_alike ss _ _ h.2 x.1 in
        ((h.0, x.0, y.0), y.1)

-- a statement that is read by the one spelling is read by the other, and they agree on what follows
pub some_alike : (f g : Spelling) (d : ℕ) (ts : List Token) (x : Stm × List Token) → Agree f g ts
    → stm_at f d ts ≡ Some x → (stm_at g d ts ≡ Some x) × Agree f g x.1
some_alike f g d ts x a e =
    let r = (stm_sound f d ts).holds x e in
    let s = stm_alike f g x.0 ts x.1 r.0 a in
    (stm_complete g d x.0 ts x.1 s.0 r.1, s.1)

-- where the one reads no statement, the other reads none
pub none_alike : (f g : Spelling) (d : ℕ) (ts : List Token) → Agree f g ts → stm_at f d ts ≡ None → stm_at g d ts ≡ None
none_alike f g d ts a e = go (stm_at g d ts) refl
  where
    go : (o : Option (Stm × List Token)) → stm_at g d ts ≡ o → stm_at g d ts ≡ None
    go None i = i
    go (Some x) i = absurd (let j = (some_alike g f d ts x (agree_back f g ts a) i).0 in cc)
