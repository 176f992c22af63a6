-- What the read gave stands after what was there.
use Rattle.sz_io.proofs.Moves.{gave_more}
use Rattle.sz_io.proofs.reading.read_after.Goals as goal

pub returns-clause-bytes : goal.returns-clause-bytes
returns-clause-bytes g c before first =
    gave_more before _ _ _ _ _ _ _ c.requires.in_range c.read.ensures.within c.read.ensures.bytes first
