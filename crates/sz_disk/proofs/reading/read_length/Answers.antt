-- 8 bytes were read, and they are a length.
use Rattle.std.proofs.Common.{◌≡◌, take, drop, List, ℕ}
use Rattle.sz_disk.specs.Entries.{count_bytes}
use Rattle.sz_disk.proofs.ReadLemmas.{some_if, counted_by}
use Rattle.sz_disk.proofs.reading.read_length.Goals as goal

pub returns-clause-value : goal.returns-clause-value
returns-clause-value g c =
    let n = c.length_of.result in
    some_if (g.K.Disk.bytes c.args.disk.now) (λ (h : List ℕ). c.fill.new.into ≡ take 8 (drop c.args.at h))
    (λ (h : List ℕ). count_bytes n ≡ take 8 (drop c.args.at h))
    (λ h is. counted_by n c.args.at c.fill.new.into h c.length_of.ensures.value is)
    c.in_ok-fill.ensures.value
