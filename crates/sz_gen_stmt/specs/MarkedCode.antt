-- How the logic stores programs with their marks: what the model of compiled code has to give.
use Rattle.std.specs.Prelude.{Bool}
use Rattle.std.proofs.Common.{refl}
use Rattle.std.specs.Coded.{Coded, code_by, coded_bool, coded×}
use Rattle.sz_core.specs.Programs.{Core}
use Rattle.sz_core.specs.ProgramCode.{core_code}
use Rattle.sz_mean.specs.Marked.{Marked}

-- how a program with its mark is stored
abbrev pub marked_code : Coded Marked
marked_code = code_by (Core × Bool) (coded× core_code coded_bool)
    (λ m. (m.core, m.ignoring))
    (λ p. record { core = p.0; ignoring = p.1 })
    (λ m. refl)
