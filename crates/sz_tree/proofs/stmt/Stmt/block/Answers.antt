use Rattle.sz_tree.proofs.RowLemmas.{stm_of_block}
use Rattle.sz_tree.proofs.stmt.Stmt.block.Goals as goal

pub returns : goal.returns
returns c = record { value = stm_of_block c.args.place c.args.statements }
