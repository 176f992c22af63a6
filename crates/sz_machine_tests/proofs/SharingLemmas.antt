-- The run of the code of two locals that hold one array ends, with just the ticks that it takes.
use Rattle.std.proofs.Common.{◌≡◌, ℕ, List, [], ◌∷◌, true, pos, None, refl, sym, subst, arith}
use Rattle.sz_types.specs.Data.{Shape}
use Rattle.sz_value.specs.Data.{int}
use Rattle.sz_instr.specs.WellFormed.{is_well_formed, most_locals}
use Rattle.sz_instr.specs.declared.code.Code.{Code}
use Rattle.sz_world_rules.specs.World.{World, Done}
use Rattle.sz_instr.specs.States.{Halts}
use Rattle.sz_machine.specs.Ends.{RunEnds}
use Rattle.sz_machine_tests.specs.Sharing.{sharing}

formed_sharing : is_well_formed sharing ≡ true
unfolding is_well_formed most_locals
formed_sharing = refl

-- the code is well formed
pub formed : (code : Code) → code ≡ sharing → is_well_formed code ≡ true
formed code is = subst (λ c. is_well_formed c ≡ true) (sym is) formed_sharing

abbrev last_world : World
last_world = record {
  left = 0;
  emits =
      record { table = 0; indexes = []; value = int (pos 5); weight = None }
      ∷ record { table = 0; indexes = []; value = int (pos 7); weight = None }
      ∷ record { table = 0; indexes = []; value = int (pos 2); weight = None }
      ∷ record { table = 0; indexes = []; value = int (pos 640); weight = None } ∷ [];
}

sharing_ends : (input : List ℕ) → RunEnds sharing input [] 6
sharing_ends input = record {
  outcome = Done last_world.emits;
  ends = record {
    end = Halts last_world [];
    comes = record {
      steps = 25;
      runs = (
        _,
        ((omega arith), refl),
        (
          _,
          ((omega arith), refl),
          (
            _,
            (
              (
                omega arith,
                (omega arith, (Shape.array Shape.int, Shape.array Shape.int, [], (refl, refl), tt, tt, refl)),
                tt,
              ),
              refl,
            ),
            (
              _,
              ((omega arith), refl),
              (
                _,
                (
                  (
                    omega arith,
                    (omega arith, (Shape.array Shape.int, Shape.array Shape.int, [], (refl, refl), tt, tt, refl)),
                    tt,
                  ),
                  refl,
                ),
                (
                  _,
                  ((omega arith), refl),
                  (
                    _,
                    ((omega arith), refl),
                    (
                      _,
                      (
                        (
                          omega arith,
                          (
                            omega arith,
                            (
                              Shape.array Shape.int,
                              Shape.int,
                              (Shape.int ∷ []),
                              (refl, (refl, refl)),
                              refl,
                              (refl, tt),
                              refl,
                            ),
                          ),
                          tt,
                        ),
                        refl,
                      ),
                      (
                        _,
                        ((omega arith), refl),
                        (
                          _,
                          ((omega arith), refl),
                          (
                            _,
                            ((Shape.array Shape.int, Shape.int, Shape.int, refl, refl, refl), refl),
                            (
                              _,
                              ((omega arith, (tt, refl, tt), tt), refl),
                              (
                                _,
                                ((omega arith), refl),
                                (
                                  _,
                                  ((omega arith), refl),
                                  (
                                    _,
                                    ((Shape.array Shape.int, Shape.int, Shape.int, refl, refl, refl), refl),
                                    (
                                      _,
                                      ((omega arith, (tt, refl, tt), tt), refl),
                                      (
                                        _,
                                        ((omega arith), refl),
                                        (
                                          _,
                                          ((omega arith), refl),
                                          (
                                            _,
                                            ((Shape.int, Shape.int, Shape.int, refl, refl, refl), refl),
                                            (
                                              _,
                                              ((omega arith, (tt, refl, tt), tt), refl),
                                              (
                                                _,
                                                ((omega arith), refl),
                                                (
                                                  _,
                                                  ((omega arith), refl),
                                                  (
                                                    _,
                                                    ((Shape.int, Shape.int, Shape.int, refl, refl, refl), refl),
                                                    (
                                                      _,
                                                      ((omega arith, (tt, refl, tt), tt), refl),
                                                      (
                                                        _,
                                                        ((tt), refl),
                                                        refl,
                                                      ),
                                                    ),
                                                  ),
                                                ),
                                              ),
                                            ),
                                          ),
                                        ),
                                      ),
                                    ),
                                  ),
                                ),
                              ),
                            ),
                          ),
                        ),
                      ),
                    ),
                  ),
                ),
              ),
            ),
          ),
        ),
      );
    };
    is = refl;
  };
}

-- the run for a record ends with six ticks
pub run_ends : (code : Code) (input : List ℕ) → code ≡ sharing → RunEnds code input [] 6
run_ends code input is = subst (λ c. RunEnds c input [] 6) (sym is) (sharing_ends input)
