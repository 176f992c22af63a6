-- A value that is put in place is seen in place.
use Rattle.std.proofs.lemmas.List.{map-set}
use Rattle.sz_value.specs.Seen.{seen}
use Rattle.sz_value.proofs.value.List.replace.Goals as goal

pub returns-clause-kept : goal.returns-clause-kept
returns-clause-kept c = rw (← c.self.view_is) (rw c.replace.ensures.after (map-set seen _ _ _))
