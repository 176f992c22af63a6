-- The tree of a small program as an example: t: table sum of int; f: function(n: int): int { return n; } emit t <-
-- f(1);
use Rattle.std.specs.Prelude.{ℕ, List, [], Some, None, pos, codes}
use Rattle.sz_tree.specs.declared.types.BasicType.TheVariants as basics
use Rattle.sz_tree.specs.Names.{Ident}
use Rattle.sz_tree.specs.Types.{basic, no_params, param}
use Rattle.sz_tree.specs.Expressions.{number, literal, named, call, end, more}
use Rattle.sz_tree.specs.Statements.{Stm, table, function, return, emit, Stms, no_stms, stm}
use Rattle.sz_core.specs.Example.{column}

-- a name in this column
abbrev pub name_at : ℕ → List ℕ → Ident
name_at n text = record { place = column n; text = text }

-- t: table sum of int;
abbrev pub table_tree : Stm
table_tree = table (name_at 1 (codes "t")) (record {
  kind = name_at 10 (codes "sum");
  argument = None;
  indexes = [];
  of = record { name = None; of = basic (column 17) basics.Int };
  weight = None;
})

-- f: function(n: int): int { return n; }
abbrev pub function_tree : Stm
function_tree =
    function (name_at 22 (codes "f")) (param (name_at 34 (codes "n")) (basic (column 37) basics.Int) no_params)
    (basic (column 43) basics.Int) (stm (return (column 49) (Some (named (name_at 56 (codes "n"))))) no_stms)

-- emit t <- f(1);
abbrev pub emit_tree : Stm
emit_tree = emit (column 61) (name_at 66 (codes "t")) end
    (call (name_at 71 (codes "f")) (more (literal (column 73) (number (pos 1))) end)) None

-- the whole tree
abbrev pub small_tree : Stms
small_tree = stm table_tree (stm function_tree (stm emit_tree no_stms))
