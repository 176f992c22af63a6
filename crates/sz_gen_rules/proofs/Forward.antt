-- From what holds backward of the code of an expression to what the run comes to.
use Rattle.std.proofs.Common.{ℕ, ◌∷◌, refl, arith}
use Rattle.sz_types.specs.Data.{Shape}
use Rattle.sz_core.specs.Nodes.{type_of}
use Rattle.sz_instr.specs.declared.code.Code.{Code}
use Rattle.sz_world_rules.specs.World.{Given, Gives, Stops}
use Rattle.sz_world_rules.specs.Slots.{Slot}
use Rattle.sz_mean.specs.Expressions.{eval}
use Rattle.sz_instr.specs.States.{State, After, Goes, Faults}
use Rattle.sz_instr.specs.Runs.{ComesTo}
use Rattle.sz_gen_rules.specs.Runs.{AfterEval, Leaves, CodeDoesWhatIsMeant}
use Rattle.sz_gen_rules.proofs.Expressions.{eval_runs}

forward : (code : Code) (t : Shape) (s : State) (end : ℕ) (r : Given Slot)
    → ((x : After) → AfterEval code t s end x r → ComesTo code s x) → Leaves code s end r
forward code t s end (Gives slot w) comes = comes (Goes (record s { at = end; stack = slot ∷ s.stack; world = w }))
    (λ kept. record { steps = 0; runs = refl })
forward code t s end (Stops fault) comes = comes (Faults fault) refl

pub code_does_what_is_meant : CodeDoesWhatIsMeant
code_does_what_is_meant = record {
  runs = λ code g setting room e s below sound named ready has.
      forward code (type_of e) s _ (eval setting s.locals e s.world)
      (λ x h. eval_runs code g setting room s.world.left below e s _ x sound named ready (omega arith) has refl h);
}
