-- What is seen of a proto type is one.
use Rattle.std.proofs.Common.{rules}
use Rattle.sz_types.proofs.ForCallers.{seen_proto}
use Rattle.sz_machine_cells.proofs.weights.conversion_weight.Goals as goal

pub returns-in-Proto : goal.returns-in-Proto
returns-in-Proto c = record { value = rw (c.in-Proto.is, seen_proto) (search rules) }
