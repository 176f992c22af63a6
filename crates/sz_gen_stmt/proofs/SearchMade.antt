-- How the code of `when` is put together.
use Rattle.std.proofs.Common.{◌≡◌, ◌∙◌, ℕ, zero, suc, ◌+◌, List, [], ◌∷◌, ◌++◌, length, map, true, false, refl, sym, ap, subst, arith}
use Rattle.sz_types.specs.declared.place.Place.{Place}
use Rattle.sz_value.specs.Data.{truth}
use Rattle.sz_core.specs.Nodes.{Node}
use Rattle.sz_core.specs.Statements.{Stm, Quantity, some, each, all, Quantified}
use Rattle.sz_instr.specs.declared.instr.Instr.TheVariants.{Jump, Push, Discard, Enter, Next, Leave, Meets}
use Rattle.sz_instr.specs.declared.line.Line.{Line}
use Rattle.sz_gen_expr.specs.declared.builder.Builder.{Builder}
use Rattle.sz_gen_rules.specs.Tables.{Tables, HasConstant, constant_number}
use Rattle.sz_gen_rules.specs.ExpressionCode.{expression_code}
use Rattle.sz_gen_rules.specs.Named.{HasNames}
use Rattle.sz_gen_expr.specs.Building.{Appends, AppendsLine, AppendsNode, Lands, Nothing}
use Rattle.sz_gen_expr.proofs.Builds.{grows_on, landed_grows, after, renamed}
use Rattle.sz_gen_rules.specs.FreeLines.{no_place, free, goes}
use Rattle.sz_gen_rules.specs.StatementCode as codes
use Rattle.sz_gen_rules.specs.StatementCode.{in_search, discards, variable_code_of, statement_code}
use Rattle.sz_gen_rules.specs.SearchCode.{VariableCode, some_code, each_code, all_code, holds_code, variable_code, search_code}
use Rattle.sz_gen_rules.specs.NamedStatements.{QuantityHasNames, FlagsHaveNames, BasesHaveNames, StmHasNames}
use Rattle.sz_gen_stmt.specs.Making.{AppendsStm, AppendsCandidates, AppendsSearch, AppendsHolds}
use Rattle.sz_gen_stmt.proofs.SearchPatches.{some_lines, each_lines, all_lines, when_lines}

-- a variable for some candidate
pub some_made : {old m2 m3 m4 new : Builder} {named1 named2 : Tables → Type 0} (v : Tables → VariableCode)
    (rest : Tables → ℕ → ℕ → List Line) (place : Place) (top fail : ℕ)
    → Appends old m2 (λ tables at. (v tables).base at ++ free (Enter (v tables).slice) ∷ []) named1
    → top ≡ length m2.lines → AppendsLine m2 m3 (λ tables. Next (v tables).local fail) 1 place Nothing
    → Appends m3 m4 (λ tables at. rest tables top at) named2 → AppendsLine m4 new (λ tables. Leave) 0 no_place Nothing
    → Appends old new (λ tables at. some_code place (v tables) (rest tables) fail at)
    (λ tables. named1 tables × named2 tables)
some_made {old} {m2} {m3} {m4} {new} v rest place top fail h2 k1 h3 h4 h5 =
    let g4 = h5.grows in
    let g3 = grows_on h4.grows g4 in
    let g2 = grows_on h3.grows g3 in
    record {
      grows = grows_on h2.grows g2;
      lines = λ tables g. some_lines old.lines (v tables)
          (rest tables) m2.lines m3.lines m4.lines new.lines place top fail
          (h2.lines tables (grows_on g2 g)) k1 (h3.lines tables (grows_on g3 g)) (h4.lines tables (grows_on g4 g))
          (h5.lines tables g);
      names = λ tables g. (h2.names tables (grows_on g2 g), h4.names tables (grows_on g4 g));
      functions = h5.functions ∙ h4.functions ∙ h3.functions ∙ h2.functions;
      statics = h5.statics ∙ h4.statics ∙ h3.statics ∙ h2.statics;
    }

-- a variable for each candidate
pub each_made : {old m2 m3 m4 m5 m6 m7 m8 m9 new : Builder} {named1 named2 : Tables → Type 0}
    (v : Tables → VariableCode) (rest : Tables → ℕ → ℕ → List Line) (place : Place) (top fail : ℕ)
    → Appends old m2 (λ tables at. (v tables).base at ++ free (Enter (v tables).slice) ∷ []) named1
    → AppendsLine m2 m3 (λ tables. Push (constant_number tables (truth false))) 0 no_place
    (λ tables. HasConstant tables (truth false))
    → top ≡ length m3.lines → AppendsLine m3 m4 (λ tables. Next (v tables).local 0) 1 place Nothing
    → Appends m4 m5 (λ tables at. rest tables top at) named2 → AppendsLine m5 m6 (λ tables. Discard) 0 no_place Nothing
    → AppendsLine m6 m7 (λ tables. Push (constant_number tables (truth true))) 0 no_place
    (λ tables. HasConstant tables (truth true)) → AppendsLine m7 m8 (λ tables. Jump top) 0 no_place Nothing
    → Lands m8 m9 top → AppendsLine m9 new (λ tables. Meets fail) 0 no_place Nothing
    → Appends old new (λ tables at. each_code place tables (v tables) (rest tables) fail at)
    (λ tables. named1 tables × (HasConstant tables (truth false) × HasConstant tables (truth true)) × named2 tables)
each_made {old} {m2} {m3} {m4} {m5} {m6} {m7} {m8} {m9} {new} v rest place top fail h2 h3 k1 h4 h5 h6 h7 h8 l1 h9 =
    let g8 = grows_on (landed_grows l1) h9.grows in
    let g7 = grows_on h8.grows g8 in
    let g6 = grows_on h7.grows g7 in
    let g5 = grows_on h6.grows g6 in
    let g4 = grows_on h5.grows g5 in
    let g3 = grows_on h4.grows g4 in
    let g2 = grows_on h3.grows g3 in
    record {
      grows = grows_on h2.grows g2;
      lines = λ tables g. each_lines tables old.lines (v tables) (rest tables)
          m2.lines m3.lines m4.lines m5.lines m6.lines m7.lines m8.lines m9.lines new.lines place top fail
          (h2.lines tables (grows_on g2 g)) (h3.lines tables (grows_on g3 g)) k1 (h4.lines tables (grows_on g4 g))
          (h5.lines tables (grows_on g5 g)) (h6.lines tables (grows_on g6 g)) (h7.lines tables (grows_on g7 g))
          (h8.lines tables (grows_on g8 g)) l1.lines (h9.lines tables g);
      names = λ tables g. (
        h2.names tables (grows_on g2 g),
        (h3.names tables (grows_on g3 g), h7.names tables (grows_on g7 g)),
        h5.names tables (grows_on g5 g),
      );
      functions = h9.functions ∙ l1.functions ∙ h8.functions ∙ h7.functions ∙ h6.functions ∙ h5.functions
          ∙ h4.functions ∙ h3.functions ∙ h2.functions;
      statics = h9.statics ∙ l1.statics ∙ h8.statics ∙ h7.statics ∙ h6.statics ∙ h5.statics ∙ h4.statics
          ∙ h3.statics ∙ h2.statics;
    }

-- a variable for all candidates
pub all_made : {old m2 m3 m4 m5 m6 m7 m8 m9 new : Builder} {named1 named2 : Tables → Type 0} (v : Tables → VariableCode)
    (rest : Tables → ℕ → ℕ → List Line) (place : Place) (entry away top fail : ℕ)
    → Appends old m2 (λ tables at. (v tables).base at ++ free (Enter (v tables).slice) ∷ []) named1
    → entry ≡ length m2.lines → AppendsLine m2 m3 (λ tables. Jump 0) 0 no_place Nothing
    → away ≡ length m3.lines → AppendsLine m3 m4 (λ tables. Leave) 0 no_place Nothing
    → AppendsLine m4 m5 (λ tables. Jump fail) 0 no_place Nothing → Lands m5 m6 entry → top ≡ length m6.lines
    → AppendsLine m6 m7 (λ tables. Next (v tables).local 0) 1 place Nothing
    → Appends m7 m8 (λ tables at. rest tables away at) named2
    → AppendsLine m8 m9 (λ tables. Jump top) 0 no_place Nothing → Lands m9 new top
    → Appends old new (λ tables at. all_code place (v tables) (rest tables) fail at)
    (λ tables. named1 tables × named2 tables)
all_made {old} {m2} {m3} {m4} {m5} {m6} {m7} {m8} {m9} {new} v rest place entry away top fail h2 k1 h3 k2 h4 h5 l1
    k3 h6 h7 h8 l2 =
    let g9 = landed_grows l2 in
    let g8 = grows_on h8.grows g9 in
    let g7 = grows_on h7.grows g8 in
    let g5 = grows_on (landed_grows l1) (grows_on h6.grows g7) in
    let g4 = grows_on h5.grows g5 in
    let g3 = grows_on h4.grows g4 in
    let g2 = grows_on h3.grows g3 in
    record {
      grows = grows_on h2.grows g2;
      lines = λ tables g. all_lines old.lines (v tables) (rest tables)
          m2.lines m3.lines m4.lines m5.lines m6.lines m7.lines m8.lines m9.lines new.lines place entry away top fail
          (h2.lines tables (grows_on g2 g)) k1 (h3.lines tables (grows_on g3 g)) k2 (h4.lines tables (grows_on g4 g))
          (h5.lines tables (grows_on g5 g)) l1.lines k3 (h6.lines tables (grows_on g7 g))
          (h7.lines tables (grows_on g8 g)) (h8.lines tables (grows_on g9 g))
          l2.lines;
      names = λ tables g. (h2.names tables (grows_on g2 g), h7.names tables (grows_on g8 g));
      functions = l2.functions ∙ h8.functions ∙ h7.functions ∙ h6.functions ∙ l1.functions ∙ h5.functions
          ∙ h4.functions ∙ h3.functions ∙ h2.functions;
      statics = l2.statics ∙ h8.statics ∙ h7.statics ∙ h6.statics ∙ l1.statics ∙ h5.statics ∙ h4.statics
          ∙ h3.statics ∙ h2.statics;
    }

-- the whole statement
pub when_made : {old m1 m2 m3 m4 new : Builder} {named : Tables → Type 0} (search : Tables → ℕ → ℕ → List Line)
    (entry past : ℕ) → entry ≡ length old.lines → AppendsLine old m1 (λ tables. Jump 0) 0 no_place Nothing
    → past ≡ length m1.lines → AppendsLine m1 m2 (λ tables. Jump 0) 0 no_place Nothing → Lands m2 m3 entry
    → Appends m3 m4 (λ tables at. search tables past at) named → Lands m4 new past
    → Appends old new (λ tables at. goes (at + 2) ∷ goes (at + 2 + length (search tables (at + 1) (at + 2)))
    ∷ search tables (at + 1) (at + 2)) named
when_made {old} {m1} {m2} {m3} {m4} {new} search entry past k0 h1 k1 h2 l1 h3 l2 =
    let g4 = landed_grows l2 in
    let g2 = grows_on (landed_grows l1) (grows_on h3.grows g4) in
    let g1 = grows_on h2.grows g2 in
    record {
      grows = grows_on h1.grows g1;
      lines = λ tables g. when_lines old.lines (search tables) m1.lines m2.lines m3.lines m4.lines new.lines entry past
          k0 (h1.lines tables (grows_on g1 g)) k1
          (h2.lines tables (grows_on g2 g)) l1.lines (h3.lines tables (grows_on g4 g)) l2.lines;
      names = λ tables g. h3.names tables (grows_on g4 g);
      functions = l2.functions ∙ h3.functions ∙ l1.functions ∙ h2.functions ∙ h1.functions;
      statics = l2.statics ∙ h3.statics ∙ l1.statics ∙ h2.statics ∙ h1.statics;
    }

-- ---- searches

module _ (place : Place) (condition : Node) (body : Stm) (out : codes.Exits) (fail : ℕ) where
  -- no variable is left: the condition, and the statement inside
  pub none_searched : {old m1 m2 new : Builder} → AppendsNode old m1 condition
      → AppendsLine m1 m2 (λ tables. Meets fail) 0 no_place Nothing
      → AppendsStm m2 new body out → AppendsSearch old new place [] condition body out fail
  none_searched h1 h2 h3 = renamed (λ tables n. (tt, tt, n.0, n.1.1)) (after h1 (after h2 h3))

  -- a variable that is quantified so
  of_quantity : {old new : Builder} (v : Quantified) (more : List Quantified) (q : Quantity) → v.quantity ≡ q
      → Appends old new (λ tables at. variable_code tables place (expression_code tables condition)
      (λ flags. statement_code tables body (in_search out flags)) q (variable_code_of tables v)
      (search_code tables place (expression_code tables condition)
      (λ flags. statement_code tables body (in_search out flags)) (map (variable_code_of tables) more) out.flags)
      (search_code tables place (expression_code tables condition)
      (λ flags. statement_code tables body (in_search out flags))
      (map (variable_code_of tables) more) (suc out.flags))
      (holds_code place (expression_code tables condition) (map (variable_code_of tables) (v ∷ more)))
      out.flags fail at) (λ tables. (HasNames tables v.base × BasesHaveNames tables more)
      × QuantityHasNames tables q (FlagsHaveNames tables more) × HasNames tables condition × StmHasNames tables body)
      → AppendsSearch old new place (v ∷ more) condition body out fail
  of_quantity {old} {new} v more q is h =
      subst (λ r. Appends old new
      (λ tables at. variable_code tables place (expression_code tables condition)
      (λ flags. statement_code tables body (in_search out flags)) r (variable_code_of tables v)
      (search_code tables place (expression_code tables condition)
      (λ flags. statement_code tables body (in_search out flags)) (map (variable_code_of tables) more) out.flags)
      (search_code tables place (expression_code tables condition)
      (λ flags. statement_code tables body (in_search out flags))
      (map (variable_code_of tables) more) (suc out.flags))
      (holds_code place (expression_code tables condition) (map (variable_code_of tables) (v ∷ more)))
      out.flags fail at) (λ tables. (HasNames tables v.base × BasesHaveNames tables more)
      × QuantityHasNames tables r (FlagsHaveNames tables more)
      × HasNames tables condition × StmHasNames tables body)) (sym is) h

  pub some_searched : {old m2 m3 m4 new : Builder} (v : Quantified) (more : List Quantified) (top : ℕ)
      → v.quantity ≡ some → AppendsCandidates old m2 v
      → top ≡ length m2.lines → AppendsLine m2 m3 (λ tables. Next v.local fail) 1 place Nothing
      → AppendsSearch m3 m4 place more condition body out top → AppendsLine m4 new (λ tables. Leave) 0 no_place Nothing
      → AppendsSearch old new place (v ∷ more) condition body out fail
  some_searched v more top is h2 k1 h3 h4 h5 = of_quantity v more some is
      (renamed (λ tables n. ((n.0, n.1.0), n.1.1, n.1.2, n.1.3))
      (some_made (λ tables. variable_code_of tables v)
      (λ tables f at. search_code tables place (expression_code tables condition)
      (λ flags. statement_code tables body (in_search out flags))
      (map (variable_code_of tables) more) out.flags f at) place top fail h2 k1 h3 h4 h5))

  pub each_searched : {old m2 m3 m4 m5 m6 m7 m8 m9 new : Builder} (v : Quantified) (more : List Quantified) (top : ℕ)
      → v.quantity ≡ each → AppendsCandidates old m2 v
      → AppendsLine m2 m3 (λ tables. Push (constant_number tables (truth false))) 0 no_place
      (λ tables. HasConstant tables (truth false))
      → top ≡ length m3.lines → AppendsLine m3 m4 (λ tables. Next v.local 0) 1 place Nothing
      → AppendsSearch m4 m5 place more condition body (record out { flags = suc out.flags }) top
      → AppendsLine m5 m6 (λ tables. Discard) 0 no_place Nothing
      → AppendsLine m6 m7 (λ tables. Push (constant_number tables (truth true))) 0 no_place
      (λ tables. HasConstant tables (truth true)) → AppendsLine m7 m8 (λ tables. Jump top) 0 no_place Nothing
      → Lands m8 m9 top → AppendsLine m9 new (λ tables. Meets fail) 0 no_place Nothing
      → AppendsSearch old new place (v ∷ more) condition body out fail
  each_searched v more top is h2 h3 k1 h4 h5 h6 h7 h8 l1 h9 = of_quantity v more each is
      (renamed (λ tables n. ((n.0, n.2.0), (n.1.0, n.1.1, n.2.1), n.2.2, n.2.3))
      (each_made (λ tables. variable_code_of tables v)
      (λ tables f at. search_code tables place (expression_code tables condition)
      (λ flags. statement_code tables body (in_search out flags))
      (map (variable_code_of tables) more) (suc out.flags) f at) place top fail h2 h3 k1 h4 h5 h6 h7 h8 l1 h9))

  pub all_searched : {old m1 new : Builder} (v : Quantified) (more : List Quantified) → v.quantity ≡ all
      → AppendsHolds old m1 place (v ∷ more) condition fail → AppendsStm m1 new body out
      → AppendsSearch old new place (v ∷ more) condition body out fail
  all_searched v more is h1 h2 = of_quantity v more all is (renamed (λ tables n. (n.0.0, tt, n.0.1, n.1)) (after h1 h2))

-- ---- flags that are taken off the stack

discards_after : (n : ℕ) → discards n ++ free Discard ∷ [] ≡ discards (suc n)
discards_after zero = refl
discards_after (suc n) = ap (λ l. free Discard ∷ l) (discards_after n)

pub discards_more : {old m new : Builder} (n : ℕ) → Appends old m (λ tables at. discards n) Nothing
    → AppendsLine m new (λ tables. Discard) 0 no_place Nothing → Appends old new (λ tables at. discards (n + 1)) Nothing
discards_more {old} {m} {new} n h k =
    let one : suc n ≡ n + 1 = omega arith in
    renamed (λ tables u. tt) (subst (λ l. Appends old new (λ tables at. l)
    (λ tables. Nothing tables × Nothing tables)) (discards_after n ∙ ap discards one) (after h k))
