-- What it is that code is well formed: each number in it is that of something that the code has.
use Rattle.std.specs.Prelude.{ℕ, List, [], ◌∷◌, ◌++◌, Bool, true, false, ◌&&◌, length, max, nat_lt, nat_le, slice_get, Option, Some, None}
use Rattle.std.specs.List.{list_all}
use Rattle.sz_types.specs.Data.{Shape}
use Rattle.sz_instr.specs.declared.instr.Instr.{Instr}
use Rattle.sz_instr.specs.declared.instr.Instr.TheVariants.{Push, Local, Static, Input, Keep, KeepStatic, Clear, Store, Unary, Binary, Apply}
use Rattle.sz_instr.specs.declared.instr.Instr.TheVariants.{Convert, Decode, MakeArray, MakeTuple, MakeMap, Index, Slice, Field, Def, Tick}
use Rattle.sz_instr.specs.declared.instr.Instr.TheVariants.{Jump, Test, AndTest, OrTest, Call, Return, EndRecord, Discard, Emit}
use Rattle.sz_instr.specs.declared.instr.Instr.TheVariants.{Enter, Next, Leave, Meets, Fails}
use Rattle.sz_instr.specs.declared.routine.Routine.{Routine}
use Rattle.sz_instr.specs.declared.code.Code.{Code}

-- the routines of the code: its functions, its statics, and that of the record
abbrev pub routines_of : Code → List Routine
routines_of code = code.functions ++ (code.statics ++ code.main ∷ [])

-- the greatest number of locals of any of these routines
abbrev pub most_of : List Routine → ℕ
most_of [] = 0
most_of (r ∷ rs) = max r.locals (most_of rs)

-- the greatest number of locals of any routine of the code
unfoldable pub most_locals : Code → ℕ
most_locals code = most_of (routines_of code)

-- whether a type is there and is a proto type
abbrev pub is_message_type : Option Shape → Bool
is_message_type (Some (Shape.proto _)) = true
is_message_type _ = false

-- whether each number of the instruction is in range: a place is that of a line, a local is one of some routine, and
-- constants, statics, types, functions and tables are there; a message is decoded by a proto type. Counts of parts,
-- and places of parts, are no numbers of the code's own.
abbrev pub is_in_range : Code → Instr → Bool
is_in_range code (Push constant) = nat_lt constant (length code.constants)
is_in_range code (Local n) = nat_lt n (most_locals code)
is_in_range code (Static n) = nat_lt n (length code.statics)
is_in_range code Input = true
is_in_range code (Keep n) = nat_lt n (most_locals code)
is_in_range code (KeepStatic n) = nat_lt n (length code.statics)
is_in_range code (Clear n) = nat_lt n (most_locals code)
is_in_range code (Store n path) = nat_lt n (most_locals code)
is_in_range code (Unary op) = true
is_in_range code (Binary op) = true
is_in_range code (Apply builtin) = true
is_in_range code (Convert ty) = nat_lt ty (length code.types)
is_in_range code (Decode ty) = is_message_type (slice_get code.types ty)
is_in_range code (MakeArray count) = true
is_in_range code (MakeTuple count) = true
is_in_range code (MakeMap count) = true
is_in_range code Index = true
is_in_range code Slice = true
is_in_range code (Field part) = true
is_in_range code Def = true
is_in_range code Tick = true
is_in_range code (Jump to) = nat_lt to (length code.lines)
is_in_range code (Test to past) = nat_lt to (length code.lines) && nat_lt past (length code.lines)
is_in_range code (AndTest to) = nat_lt to (length code.lines)
is_in_range code (OrTest to) = nat_lt to (length code.lines)
is_in_range code (Call function) = nat_lt function (length code.functions)
is_in_range code Return = true
is_in_range code EndRecord = true
is_in_range code Discard = true
is_in_range code (Emit table indexes weighted) = nat_lt table (length code.tables)
is_in_range code (Enter slice) = true
is_in_range code (Next n to) = nat_lt n (most_locals code) && nat_lt to (length code.lines)
is_in_range code Leave = true
is_in_range code (Meets to) = nat_lt to (length code.lines)
is_in_range code (Fails to) = nat_lt to (length code.lines)

-- whether the routine begins at a line of the code, and its parameters are among its locals
abbrev pub is_routine : Code → Routine → Bool
is_routine code r = nat_lt r.entry (length code.lines) && nat_le r.params r.locals

-- whether the table is one of the code, where one is named
abbrev pub is_table_if_named : Code → Option ℕ → Bool
is_table_if_named code None = true
is_table_if_named code (Some table) = nat_lt table (length code.tables)

-- whether the code is well formed: its routines are routines in it, the table that counts lines is one of its tables,
-- and each line's instruction is in range
unfoldable pub is_well_formed : Code → Bool
is_well_formed code =
    list_all (is_routine code) (routines_of code) && is_table_if_named code code.ignore
    && list_all (λ line. is_in_range code line.instr) code.lines
