use Rattle.std.proofs.Common.{⊎_elim, sym, ◌∙◌}
use Rattle.sz_disk.proofs.StretchLemmas.{goes_on_same, goes_on_synced}
use Rattle.sz_disk.proofs.mem_disk.MemDiskDisk.sync.Goals as goal

-- the stretch at hand ends, unless it has no write
pub returns-then-not-fails-clause-kept : goal.returns-then-not-fails-clause-kept
returns-then-not-fails-clause-kept c =
    let synced = c.sync.ensures c.args.self.now.bytes.items in
    let count = c.count_call.ensures in
    ⊎_elim
    (λ same. goes_on_same _ _ count.later count.stays (synced.none_since ∙ sym same.1) same.0)
    (λ more. goes_on_synced _ _ count.later count.stays more)
    synced.ends
