-- Lines that take no ticks and never fault.
use Rattle.std.specs.Prelude.{ℕ}
use Rattle.sz_types.specs.declared.place.Place.{Place}
use Rattle.sz_instr.specs.declared.instr.Instr.{Instr}
use Rattle.sz_instr.specs.declared.instr.Instr.TheVariants.{Jump}
use Rattle.sz_instr.specs.declared.line.Line.{Line}
use Rattle.sz_gen_rules.specs.Tables.{line}

-- the place of such a line, which nobody asks for
abbrev pub no_place : Place
no_place = record { line = 1; column = 1 }

-- a line that takes no ticks
abbrev pub free : Instr → Line
free instr = line instr 0 no_place

-- a jump
abbrev pub goes : ℕ → Line
goes to = free (Jump to)
