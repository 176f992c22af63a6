-- What contracts see of the declarations of tables.
use Rattle.std.specs.Option.{option_map}
use Rattle.sz_types.specs.Seen.{seen}
use Rattle.sz_types.specs.Tables.{Declaration}
use Rattle.sz_types.specs.declared.table.TableDecl.{TableDecl}

-- the plain data of a table's declaration
abbrev pub seen_table : TableDecl → Declaration
seen_table table = record {
  name = table.name;
  kind = table.kind;
  limit = table.limit;
  indexes = table.indexes;
  element = seen table.element;
  weight = option_map seen table.weight;
}
