use Rattle.sz_tree.proofs.RowLemmas.{stm_of_function}
use Rattle.sz_tree.proofs.stmt.Stmt.function.Goals as goal

pub returns : goal.returns
returns c = record { value = stm_of_function c.args.name c.args.params c.args.of c.args.body }
