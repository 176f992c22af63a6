-- What contracts see of the types that a place asks for.
use Rattle.std.specs.Prelude.{ℕ, map, Option}
use Rattle.std.specs.Option.{option_map}
use Rattle.std.specs.Borrow.{Bor}
use Rattle.sz_types.specs.Data.{Shape, fields_of}
use Rattle.sz_types.specs.Seen.{seen, seen_field}
use Rattle.sz_types.specs.declared.ty.Ty.{Ty}
use Rattle.sz_check_expr.specs.declared.asks.Asks.{Asks as Asked}
use Rattle.sz_check_expr.specs.declared.asks.Asks.TheVariants as asked
use Rattle.sz_check_rules.specs.Agreeing.{Asks, nothing, each, in_turn, field_types, Found}

-- what is asked of some expressions
abbrev pub asks_of : Asked → Asks
asks_of asked.Nothing = nothing
asks_of (asked.Each t) = each (seen t.now)
asks_of (asked.Types ts) = in_turn (map seen ts.now)
asks_of (asked.Fields fs) = in_turn (field_types (fields_of (map seen_field fs.now)))

-- what is asked of one expression
abbrev pub asked_of : Option (Bor Ty) → Option Shape
asked_of = option_map (λ t. seen t.now)

-- a field by its place, and its type
abbrev pub found_of : ℕ × Bor Ty → Found
found_of f = record { place = f.0; type = seen f.1.now }
