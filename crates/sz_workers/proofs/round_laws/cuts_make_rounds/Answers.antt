use Rattle.sz_workers.proofs.RangeLemmas.{makes_rounds}
use Rattle.sz_workers.proofs.round_laws.cuts_make_rounds.Goals as goal

pub returns : goal.returns
returns c = record { rounds = makes_rounds }
