use Rattle.szl.proofs.MergeEnds.{every_list_is_merged}
use Rattle.szl.proofs.MergeOnce.{merged_once}
use Rattle.szl.proofs.laws.merging_ends_once.Goals as goal

pub returns : goal.returns
returns c = record { some = every_list_is_merged; one = merged_once c.one_spelling.ensures.law c.merging_forgets_the_order.ensures.law }
