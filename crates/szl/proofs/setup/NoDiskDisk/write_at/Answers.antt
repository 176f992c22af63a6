-- A crash may leave any bytes, before and after.
use Rattle.std.proofs.Common.{refl, arith}
use Rattle.szl.proofs.setup.NoDiskDisk.write_at.Goals as goal

pub returns-clause-crash : goal.returns-clause-crash
returns-clause-crash c image may =
    (image, tt, record { no_shorter = omega arith; no_longer = grind arith; same = λ place lt out. refl })
