-- As many records as ends, in the buffer and in the file.
use Rattle.std.proofs.Common.{length, ap, arith}
use Rattle.sz_records.specs.Ends.{RecordsData}
use Rattle.sz_records.proofs.EndsLemmas.{records_len}
use Rattle.sz_records.proofs.LaidLemmas.{ends_len}
use Rattle.sz_records.proofs.records.Records.len.Goals as goal

pub returns-clause-value : goal.returns-clause-value
returns-clause-value c =
    let same = ap (λ (d : RecordsData). length d.items) c.self.view_is in
    let all = records_len 0 c.self.inside.ends.items c.self.inside.bytes.items in
    let len = c.len.ensures in
    omega (arith, same, all, len)

pub returns-clause-ends : goal.returns-clause-ends
returns-clause-ends c =
    let same = ap (λ (d : RecordsData). length d.ends) c.self.view_is in
    let s = c.self.inside in
    let all = ends_len s.laid.from s.laid.more s.ends.items s.placed.items (length s.bytes.items) c.self.invariant in
    let len = c.len.ensures in
    omega (arith, same, all, len)
