-- What a line asks of a run in place, and what is around it.
use Rattle.std.specs.Prelude.{◌≡◌, ℕ, List, Option, Some, None, Bool, true, false}
use Rattle.sz_instr.specs.declared.instr.Instr.{Instr}
use Rattle.sz_instr.specs.declared.instr.Instr.TheVariants.{Static, Input, KeepStatic, Next as NextCandidate}
use Rattle.sz_instr.specs.declared.instr.Instr.TheVariants.{Unary, Decode, MakeArray, MakeTuple, MakeMap}
use Rattle.sz_instr.specs.declared.instr.Instr.TheVariants.{Def, Call, Return, Discard, Enter, Leave, Meets, Fails}
use Rattle.sz_instr.specs.declared.code.Code.{Code}
use Rattle.sz_value.specs.Data.{Datum}
use Rattle.sz_world_rules.specs.Slots.{Slot}
use Rattle.sz_instr.specs.Covering.{Covers}
use Rattle.sz_instr.specs.Runs.{candidate_charge}
use Rattle.sz_machine_rows.specs.declared.run_state.RunState.{RunState}
use Rattle.sz_machine_rows.specs.declared.run_state.Onward.{Onward}
use Rattle.sz_machine_rows.specs.declared.run_state.Onward.TheVariants.{On}
use Rattle.sz_machine_rows.specs.Acting.{Around, state_of}

-- around the run for a record
abbrev pub in_record : ℕ → List Slot → Slot → Around
in_record at statics input = record { at = at; statics = statics; input = input }

-- the place of the next line, and the record
abbrev pub IsAt : ℕ → Slot → Around → Type 0
IsAt at input a = (a.at ≡ at) × (a.input ≡ input)

-- around the run of a static
abbrev pub in_static : ℕ → List Slot → Around
in_static at statics = record { at = at; statics = statics; input = None }

-- its row covers the run in place with something around it
pub record IsCovered (code : Code) (instr : Instr) (h : RunState) : Type 0 where
  pub around : Around
  pub covers : Covers code instr (state_of h around)

-- the instruction takes a candidate
abbrev pub TakesCandidate : Instr → Type 0
TakesCandidate (NextCandidate n to) = Unit {0}
TakesCandidate _ = ⊥

-- the ticks that a line takes before its result weighs anything: no charge where no candidate is left
abbrev pub base_charge : ℕ → Instr → List (List Datum) → ℕ
base_charge charge (NextCandidate n to) lists = candidate_charge lists charge
base_charge charge _ lists = charge

-- the instruction has to do with the operands, the locals and the calls alone
abbrev pub IsInside : Instr → Type 0
IsInside (Static n) = ⊥
IsInside Input = ⊥
IsInside (KeepStatic n) = ⊥
IsInside _ = Unit {0}

-- the instruction is one of those that stand out of line in one function
abbrev pub IsApart : Instr → Type 0
IsApart (Unary op) = Unit {0}
IsApart (Decode ty) = Unit {0}
IsApart (MakeArray count) = Unit {0}
IsApart (MakeTuple count) = Unit {0}
IsApart (MakeMap count) = Unit {0}
IsApart Def = Unit {0}
IsApart (Call function) = Unit {0}
IsApart Return = Unit {0}
IsApart Discard = Unit {0}
IsApart (Enter slice) = Unit {0}
IsApart (NextCandidate n to) = Unit {0}
IsApart Leave = Unit {0}
IsApart (Meets to) = Unit {0}
IsApart (Fails to) = Unit {0}
IsApart _ = ⊥

-- a run goes on after a line that was done
abbrev pub on_if : Bool → Option Onward
on_if true = Some On
on_if false = None
