-- A name goes on among the types before it.
use Rattle.std.proofs.Common.{◌+◌}
use Rattle.sz_check_names.specs.declared.written.Written.{size-Written}
use Rattle.sz_check_names.proofs.WrittenLemmas.{depths}
use Rattle.sz_check_names.proofs.sort.+sort_of.Given as goal

abbrev pub decreases-sort_of : goal.decreases-sort_of
decreases-sort_of l = size-Written l.written.now + depths l.types.now
