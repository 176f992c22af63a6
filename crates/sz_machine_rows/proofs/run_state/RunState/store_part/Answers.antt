-- The value and the indexes are there, and the store is made with them.
use Rattle.std.proofs.Common.{rules}
use Rattle.sz_machine_rows.proofs.run_state.RunState.store_part.Goals as goal

pub returns : goal.returns
returns c =
    let does = c.store_at.ensures.value c.args.code.now.ignore in
    search (rules, does)
