use Rattle.std.proofs.Common.{⊎_elim, ◌≡◌, ◌∙◌, ◌≤◌, ◌-◌, ◌^◌, arith}
use Rattle.sz_disk.specs.MemDisk.{disk_faults}
use Rattle.sz_disk.proofs.StretchLemmas.{goes_on_same, goes_on_written}
use Rattle.sz_disk.proofs.NotedLemmas.{noted_tears}
use Rattle.sz_disk.proofs.mem_disk.MemDiskDisk.write_at.Goals as goal

pub returns-clause-crash : goal.returns-clause-crash
returns-clause-crash c image left = noted_tears _ _ _ c.write.ensures.noted.writes image left

-- the writes gain one, or none without memory
pub returns-clause-kept : goal.returns-clause-kept
returns-clause-kept c =
    let noted = c.write.ensures.noted in
    let count = c.count_call.ensures in
    let later : disk_faults c.args.self.now ≤ disk_faults c.write.new.self =
    omega (arith, c.write.ensures.faults, count.later) in
    let stays : disk_faults c.args.self.now ≡ 2 ^ 64 - 1 → disk_faults c.write.new.self ≡ 2 ^ 64 - 1 =
    λ e. c.write.ensures.faults ∙ count.stays e in
    ⊎_elim (λ more. goes_on_written _ _ later stays _ more noted.same_ended)
    (λ same. goes_on_same _ _ later stays same noted.same_ended) noted.writes
