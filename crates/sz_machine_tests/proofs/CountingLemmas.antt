-- The run of the code that counts lines ends, and takes no ticks.
use Rattle.std.proofs.Common.{◌≡◌, ℕ, List, [], ◌∷◌, true, pos, None, refl, sym, subst, arith}
use Rattle.sz_types.specs.Data.{Shape}
use Rattle.sz_value.specs.Data.{int}
use Rattle.sz_tabs.specs.Data.{EmitDatum}
use Rattle.sz_instr.specs.WellFormed.{is_well_formed, most_locals}
use Rattle.sz_instr.specs.declared.code.Code.{Code}
use Rattle.sz_world_rules.specs.World.{World, Done}
use Rattle.sz_instr.specs.States.{Halts}
use Rattle.sz_machine.specs.Ends.{RunEnds}
use Rattle.sz_machine_tests.specs.Counting.{counting}

formed_counting : is_well_formed counting ≡ true
unfolding is_well_formed most_locals
formed_counting = refl

-- the code is well formed
pub formed : (code : Code) → code ≡ counting → is_well_formed code ≡ true
formed code is = subst (λ c. is_well_formed c ≡ true) (sym is) formed_counting

abbrev counted : ℕ → EmitDatum
counted row = record { table = 1; indexes = int (pos row) ∷ []; value = int (pos 1); weight = None }

abbrev last_world : World
last_world = record { left = 1; emits = counted 1 ∷ counted 2 ∷ counted 3 ∷ counted 4 ∷ [] }

counting_ends : (input : List ℕ) → RunEnds counting input [] 1
counting_ends input = record {
  outcome = Done last_world.emits;
  ends = record {
    end = Halts last_world [];
    comes = record {
      steps = 17;
      runs = (
        _,
        ((omega arith), refl),
        (
          _,
          ((omega arith), refl),
          (
            _,
            ((Shape.int, Shape.int, Shape.int, refl, refl, refl), refl),
            (
              _,
              ((omega arith, (tt, tt, tt), (refl, refl, refl)), refl),
              (
                _,
                ((omega arith), refl),
                (
                  _,
                  ((omega arith), refl),
                  (
                    _,
                    ((Shape.int, Shape.int, Shape.int, refl, refl, refl), refl),
                    (
                      _,
                      ((refl, refl, refl), refl),
                      (
                        _,
                        ((omega arith), refl),
                        (
                          _,
                          ((omega arith), refl),
                          (
                            _,
                            ((Shape.int, Shape.int, Shape.int, refl, refl, refl), refl),
                            (
                              _,
                              ((tt, (refl, refl, refl)), refl),
                              (
                                _,
                                ((omega arith), refl),
                                (
                                  _,
                                  ((omega arith), refl),
                                  (
                                    _,
                                    ((Shape.int, Shape.int, Shape.int, refl, refl, refl), refl),
                                    (
                                      _,
                                      (
                                        (
                                          omega arith,
                                          (omega arith, (Shape.int, Shape.int, [], (refl, refl), tt, tt, tt)),
                                          (refl, refl, refl),
                                        ),
                                        refl,
                                      ),
                                      (
                                        _,
                                        (tt, refl),
                                        refl,
                                      ),
                                    ),
                                  ),
                                ),
                              ),
                            ),
                          ),
                        ),
                      ),
                    ),
                  ),
                ),
              ),
            ),
          ),
        ),
      );
    };
    is = refl;
  };
}

-- the run for a record ends
pub run_ends : (code : Code) (input : List ℕ) → code ≡ counting → RunEnds code input [] 1
run_ends code input is = subst (λ c. RunEnds c input [] 1) (sym is) (counting_ends input)
