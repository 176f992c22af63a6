-- The code of the expressions in a statement does what they mean, wherever the statement's code stands.
use Rattle.std.proofs.Common.{◌≡◌, ℕ, suc, ◌+◌, List, [], ◌∷◌, length, map, refl, ap, arith}
use Rattle.sz_types.specs.Data.{Shape}
use Rattle.sz_core.specs.Nodes.{Node, Nodes, no_nodes, with_node, type_of, types_of}
use Rattle.sz_core.specs.Statements.{Step, at_index, at_field}
use Rattle.sz_core.specs.Typing.{Sight, IsNode, AreNodes}
use Rattle.sz_core.specs.Sound.{LeadTo}
use Rattle.sz_instr.specs.declared.code.Code.{Code}
use Rattle.sz_world_rules.specs.Typed.{AllFit}
use Rattle.sz_mean.specs.Expressions.{Setting, eval, eval_all, eval_indexes}
use Rattle.sz_mean.specs.Statements.{bare}
use Rattle.sz_instr.specs.States.{State, After}
use Rattle.sz_instr.specs.Rows.{step_of, indexes_in}
use Rattle.sz_instr.specs.Covering.{LeadsTo}
use Rattle.sz_instr.specs.Runs.{ComesTo}
use Rattle.sz_gen_rules.specs.Tables.{tables_in}
use Rattle.sz_gen_rules.specs.ExpressionCode.{expression_code, expressions_code, indexes_code, count_of}
use Rattle.sz_gen_rules.specs.Named.{HasNames, HaveNames, StepsHaveNames}
use Rattle.sz_gen_rules.specs.Runs.{AfterEval, AfterAll, CallsBelow, Ready, HasAt}
use Rattle.sz_gen_rules.proofs.Expressions.{eval_runs, all_run}
use Rattle.sz_gen_rules.proofs.Indexes.{index_types, AreIndexes, indexes_run}
use Rattle.sz_gen_rules.specs.StatementCode.{bare_step}
use Rattle.sz_gen_rules.specs.Backward.{seeing, IsFixed}
use Rattle.sz_gen_rules.proofs.Slots.{fit_at}

-- steps that lead on lead on in the machine, by indexes of their types
pub leads_on : (g : Sight) (t : Shape) (steps : List Step) (u : Shape) → LeadTo g t steps u
    → LeadsTo t (map step_of (map bare_step steps)) (index_types steps) u
unfolding LeadTo
leads_on g t [] u h = (refl, h)
leads_on g (Shape.array t) (at_index e ∷ steps) u h = (h.1, leads_on g t steps u h.2)
leads_on g (Shape.mapping k v) (at_index e ∷ steps) u h = (h.1, leads_on g v steps u h.3)
leads_on g (Shape.tuple fs) (at_field n ∷ steps) u h = (h.0, h.1, leads_on g h.0 steps u h.2)
leads_on g (Shape.proto fs) (at_field n ∷ steps) u h = (h.0, h.1, leads_on g h.0 steps u h.2)
leads_on g t (step ∷ steps) u h = absurd h

-- the steps of code are those of the meaning
pub steps_same : (steps : List Step) → map step_of (map bare_step steps) ≡ map bare steps
steps_same [] = refl
steps_same (at_index e ∷ steps) = ap (λ l. bare (at_index e) ∷ l) (steps_same steps)
steps_same (at_field n ∷ steps) = ap (λ l. bare (at_field n) ∷ l) (steps_same steps)

pub indexes_counted : (steps : List Step) → indexes_in (map bare_step steps) ≡ length (index_types steps)
indexes_counted [] = refl
indexes_counted (at_index e ∷ steps) = ap suc (indexes_counted steps)
indexes_counted (at_field n ∷ steps) = indexes_counted steps

pub nodes_counted : (es : Nodes) → count_of es ≡ length (types_of es)
nodes_counted no_nodes = refl
nodes_counted (with_node e es) = ap suc (nodes_counted es)

-- what an expression sees is there
ready_with : (g : Sight) (set : Setting) (room : ℕ) (seen : Sight) (s : State) → AllFit s.locals g.locals
    → IsFixed g set room s.callers s.statics s.input → Ready (seeing g seen) set room s
ready_with g set room seen s fit fixed = record {
  locals_typed = λ n t is. fit_at s.locals g.locals n t fit is;
  statics_typed = fixed.statics_typed;
  statics_same = fixed.statics_same;
  input_seen = fixed.input_seen;
  room_left = fixed.room_left;
}

module _ (code : Code) (g : Sight) (set : Setting) (room : ℕ)
    (below : (limit : ℕ) → CallsBelow code g.functions set.statics room limit set.calls)
    (seen : Sight) where
  -- an expression
  pub expression_runs : (e : Node) (s : State) (end : ℕ) (x : After) → IsNode (seeing g seen) e
      → HasNames (tables_in code) e → AllFit s.locals g.locals → IsFixed g set room s.callers s.statics s.input
      → HasAt code.lines s.at (expression_code (tables_in code) e s.at)
      → s.at + length (expression_code (tables_in code) e s.at) ≡ end
      → AfterEval code (type_of e) s end x (eval set s.locals e s.world) → ComesTo code s x
  expression_runs e s end x sound names fit fixed has en h =
      eval_runs code (seeing g seen) set room s.world.left (below s.world.left) e s end x sound names
      (ready_with g set room seen s fit fixed) (omega arith) has en h

  -- several
  pub nodes_run : (es : Nodes) (s : State) (end : ℕ) (x : After) → AreNodes (seeing g seen) es
      → HaveNames (tables_in code) es → AllFit s.locals g.locals → IsFixed g set room s.callers s.statics s.input
      → HasAt code.lines s.at (expressions_code (tables_in code) es s.at)
      → s.at + length (expressions_code (tables_in code) es s.at) ≡ end
      → AfterAll code (types_of es) s end x (eval_all set s.locals es s.world) → ComesTo code s x
  nodes_run es s end x sound names fit fixed has en h =
      all_run code (seeing g seen) set room s.world.left (below s.world.left) es s end x sound names
      (ready_with g set room seen s fit fixed) (omega arith) has en h

  -- the indexes among steps
  pub steps_run : (steps : List Step) (s : State) (end : ℕ) (x : After) → AreIndexes (seeing g seen) steps
      → StepsHaveNames (tables_in code) steps → AllFit s.locals g.locals
      → IsFixed g set room s.callers s.statics s.input
      → HasAt code.lines s.at (indexes_code (tables_in code) steps s.at)
      → s.at + length (indexes_code (tables_in code) steps s.at) ≡ end
      → AfterAll code (index_types steps) s end x (eval_indexes set s.locals steps s.world) → ComesTo code s x
  steps_run steps s end x sound names fit fixed has en h =
      indexes_run code (seeing g seen) set room s.world.left (below s.world.left) steps s end x sound names
      (ready_with g set room seen s fit fixed) (omega arith) has en h
