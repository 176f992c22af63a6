-- The runs of the example end, with just the ticks that they take.
use Rattle.std.proofs.Common.{◌≡◌, ℕ, List, [], ◌∷◌, true, pos, Some, None, refl, sym, subst, arith}
use Rattle.sz_value.specs.Data.{int}
use Rattle.sz_instr.specs.WellFormed.{is_well_formed, most_locals}
use Rattle.sz_instr.specs.declared.code.Code.{Code}
use Rattle.sz_world_rules.specs.World.{World, Done}
use Rattle.sz_instr.specs.States.{Halts}
use Rattle.sz_machine.specs.Ends.{RunEnds, StaticsRunEnds}
use Rattle.sz_machine_tests.specs.Example.{example}

formed_example : is_well_formed example ≡ true
unfolding is_well_formed most_locals
formed_example = refl

-- the example is well formed
pub formed : (code : Code) → code ≡ example → is_well_formed code ≡ true
formed code is = subst (λ c. is_well_formed c ≡ true) (sym is) formed_example

abbrev none_left : World
none_left = record { left = 0; emits = [] }

static_ends : StaticsRunEnds example 2
static_ends = record {
  outcome = Done (Some (int (pos 5)) ∷ []);
  ends = (
    Halts none_left (Some (int (pos 5)) ∷ []),
    record {
      steps = 3;
      runs = (_, ((omega arith), refl), (_, ((omega arith, tt, refl), refl), (_, (tt, refl), refl)));
    },
    refl,
  );
}

-- the run of its static ends with two ticks
pub statics_end : (code : Code) → code ≡ example → StaticsRunEnds code 2
statics_end code is = subst (λ c. StaticsRunEnds c 2) (sym is) static_ends

record_ends : (input : List ℕ) → RunEnds example input (Some (int (pos 5)) ∷ []) 3
record_ends input = record {
  outcome = Done (record { table = 0; indexes = []; value = int (pos 5); weight = None } ∷ []);
  ends = record {
    end = Halts (record {
      left = 0;
      emits = record { table = 0; indexes = []; value = int (pos 5); weight = None } ∷ [];
    }) (Some (int (pos 5)) ∷ []);
    comes = record {
      steps = 3;
      runs = (_, ((omega arith), refl), (_, ((omega arith, (tt, refl, tt), tt), refl), (_, (tt, refl), refl)));
    };
    is = refl;
  };
}

-- the run for a record ends with three ticks
pub run_ends : (code : Code) (input : List ℕ) → code ≡ example → RunEnds code input (Some (int (pos 5)) ∷ []) 3
run_ends code input is = subst (λ c. RunEnds c input (Some (int (pos 5)) ∷ []) 3) (sym is) (record_ends input)
