-- A crash may leave any bytes, before and after.
use Rattle.std.proofs.Common.{[], ◌∷◌, length}
use Rattle.sz_disk.proofs.TornLemmas.{torn_refl}
use Rattle.sz_disk.proofs.os_disk.OsDiskDisk.write_at.Goals as goal

pub returns-in-Ok-clause-crash : goal.returns-in-Ok-clause-crash
returns-in-Ok-clause-crash c image may =
    (image, tt, torn_refl (record { at = c.args.at; count = length c.args.written.now } ∷ []) image)

pub returns-in-Err-clause-crash : goal.returns-in-Err-clause-crash
returns-in-Err-clause-crash c image may =
    (image, tt, torn_refl (record { at = c.args.at; count = length c.args.written.now } ∷ []) image)
