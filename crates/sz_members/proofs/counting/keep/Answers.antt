-- A value that isn't there goes last.
use Rattle.std.proofs.Common.{◌∙◌}
use Rattle.indexmap.proofs.CallerLemmas.{insert_entry-new}
use Rattle.sz_members.specs.Repeats.{value_eq}
use Rattle.sz_members.proofs.counting.keep.Goals as goal

pub returns-clause-ok : goal.returns-clause-ok
returns-clause-ok c = c.in_ok-insert.ensures.entries
    ∙ insert_entry-new value_eq c.args.tally.now c.args.value c.args.repeats c.requires.absent
