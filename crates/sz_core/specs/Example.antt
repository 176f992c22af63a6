-- A small program as an example: t: table sum of int; f: function(n: int): int { return n; } emit t <- f(1);
use Rattle.std.specs.Prelude.{ℕ, List, [], ◌∷◌, false, pos, None}
use Rattle.sz_types.specs.Data.{Shape}
use Rattle.sz_types.specs.Tables.{Declaration}
use Rattle.sz_types.specs.declared.place.Place.{Place}
use Rattle.sz_types.specs.declared.table.TableKind.TheVariants.{Sum}
use Rattle.sz_value.specs.Data.{Datum}
use Rattle.sz_core.specs.Nodes.{Node, node, constant, local, call, no_nodes, with_node}
use Rattle.sz_core.specs.Statements.{Stm, return_value, emit, no_stms, with_stm}
use Rattle.sz_core.specs.Programs.{Function, Item, table, function, statement}

-- the place in this column of the first line
abbrev pub column : ℕ → Place
column n = record { line = 1; column = n }

-- the table of the sum, named t
abbrev pub sum_table : Declaration
sum_table = record { name = 116 ∷ []; kind = Sum; limit = 0; indexes = []; element = Shape.int; weight = None }

-- the function that gives its number back
abbrev pub identity : Function
identity = record {
  signature = record { parameters = Shape.int ∷ []; result = Shape.int; emits = false };
  locals = Shape.int ∷ [];
  body = with_stm (return_value (column 49) (node (column 56) Shape.int (local 0))) no_stms;
}

-- f(1)
abbrev pub call_node : Node
call_node = node (column 71) Shape.int
    (call 0 (with_node (node (column 73) Shape.int (constant (Datum.int (pos 1)))) no_nodes))

-- emit t <- f(1);
abbrev pub emit_call : Stm
emit_call = emit (column 61) 0 no_nodes call_node None

-- the items of the program
abbrev pub small_items : List Item
small_items = table sum_table ∷ function identity ∷ statement emit_call ∷ []
