-- It wraps.
use Rattle.std.proofs.Common.{rules}
use Rattle.std.proofs.lemmas.Int.{wraps}
use Rattle.sz_machine_cells.proofs.numbers.minus.Goals as goal

pub returns : goal.returns
returns c = record { value = search (rules, wraps) }
