-- The emit goes to the table.
use Rattle.sz_save_tests.proofs.TableLemmas.{emit_goes}
use Rattle.sz_save_tests.proofs.saving.add_number.Goals as goal

pub add-added-requires-clause-fits : goal.add-added-requires-clause-fits
add-added-requires-clause-fits c =
    emit_goes c.args.total.now.tables c.args.kind c.in_ok-emit.emit c.args.one.now.0 c.args.one.now.1 c.args.one.now.2
    c.requires.same c.in_ok-emit.ensures.value
