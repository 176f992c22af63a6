-- The laws are lemmas.
use Rattle.sz_merge.proofs.StateLemmas.{either_first, either_two}
use Rattle.sz_merge.proofs.JoiningLemmas.{any_order, same_bytes}
use Rattle.sz_merge.proofs.joining_laws.joining_forgets_the_order.Goals as goal

pub returns : goal.returns
returns c = record { either = either_first; grouped = either_two; all = any_order; bytes = same_bytes }
