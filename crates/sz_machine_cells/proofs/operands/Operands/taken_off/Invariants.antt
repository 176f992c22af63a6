-- So many operands are taken off as the loop has made turns, and the values are those of them that are defined.
use Rattle.std.proofs.Common.{◌≡◌, map, take, drop}
use Rattle.sz_value.specs.Seen.{seen}
use Rattle.sz_machine_cells.specs.Results.{defined_of}
use Rattle.sz_machine_cells.proofs.operands.Operands.taken_off.Given as goal

abbrev pub invariant-loop : goal.invariant-loop
invariant-loop l = record {
  rest : l.self ≡ drop l.counter l.initial.self;
  values : map seen l.values.items ≡ defined_of (take l.counter l.initial.self);
}
