-- There are fewer variables left.
use Rattle.std.proofs.Common.{suc, ◌*◌, length}
use Rattle.sz_gen_stmt.proofs.generate.+holds.Given as goal

abbrev pub decreases-gen_holds : goal.decreases-gen_holds
decreases-gen_holds l = 2 * length l.variables.now

abbrev pub decreases-gen_every : goal.decreases-gen_every
decreases-gen_every l = suc (2 * length l.rest.now)
