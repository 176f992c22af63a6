-- The number is that of the digest.
use Rattle.std.proofs.Common.{◌%◌, ap}
use Rattle.sz_total.specs.Parts.{part_of}
use Rattle.sz_total.proofs.parts.place_of.Goals as goal

pub returns-clause-value : goal.returns-clause-value
unfolding part_of
returns-clause-value c = ap (λ d. d % c.args.count) c.digest.ensures.value
