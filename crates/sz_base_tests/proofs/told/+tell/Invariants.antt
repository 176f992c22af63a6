-- Each level is one less, and the values of a level come before it.
use Rattle.std.proofs.Common.{◌*◌, ◌+◌}
use Rattle.sz_base_tests.proofs.told.+tell.Given as goal

abbrev pub decreases-tell : goal.decreases-tell
decreases-tell l = 2 * l.levels

abbrev pub decreases-tell_all : goal.decreases-tell_all
decreases-tell_all l = 2 * l.levels + 1
