-- A laid record ends where it leads to, and another one where it is placed.
use Rattle.std.proofs.Common.{◌≡◌, ◌-◌, ◌<◌, ◌≤◌, length, get_or, ap, arith}
use Rattle.std.proofs.lemmas.List.{get_or_read}
use Rattle.sz_records.specs.Ends.{RecordsData}
use Rattle.sz_records.proofs.EndsLemmas.{end_at}
use Rattle.sz_records.proofs.LaidLemmas.{laid_bound, found_laid, found_placed}
use Rattle.sz_records.proofs.records.Records.end.Goals as goal

pub end_of_laid-requires : goal.end_of_laid-requires
end_of_laid-requires c =
    let s = c.self.inside in
    let low = end_at c.args.self.now.items s.ends.items s.bytes.items c.args.i
    (ap (λ (d : RecordsData). d.items) c.self.view_is) c.requires.within in
    let at : c.index.result.now ≡ get_or s.ends.items c.args.i 0 =
    get_or_read s.ends.items c.args.i c.index.result.now low c.index.ensures 0 in
    let lt : c.args.i < length s.ends.items - length s.placed.items =
    (let t = c.if-i-laid.true in let a = c.len.ensures in let b = c.len-2.ensures in omega (arith, t, a, b)) in
    let bound = laid_bound s.laid.from s.laid.more s.ends.items s.placed.items (length s.bytes.items)
    c.self.invariant c.args.i lt in
    record { bound = rw at bound }

pub index-requires-else-i-laid : goal.index-requires-else-i-laid
index-requires-else-i-laid c =
    let s = c.self.inside in
    let low = end_at c.args.self.now.items s.ends.items s.bytes.items c.args.i
    (ap (λ (d : RecordsData). d.items) c.self.view_is) c.requires.within in
    let few = c.self.invariant.few in
    let a = c.len.ensures in
    let b = c.len-2.ensures in
    let le = c.if-i-laid.false in
    omega (arith, low, few, a, b, le)

pub returns-then-i-laid : goal.returns-then-i-laid
returns-then-i-laid c =
    let s = c.self.inside in
    let low = end_at c.args.self.now.items s.ends.items s.bytes.items c.args.i
    (ap (λ (d : RecordsData). d.items) c.self.view_is) c.requires.within in
    let at : c.index.result.now ≡ get_or s.ends.items c.args.i 0 =
    get_or_read s.ends.items c.args.i c.index.result.now low c.index.ensures 0 in
    let lt : c.args.i < length s.ends.items - length s.placed.items =
    (let t = c.if-i-laid.true in let a = c.len.ensures in let b = c.len-2.ensures in omega (arith, t, a, b)) in
    record {
      value = rw (← ap (λ (d : RecordsData). d.ends) c.self.view_is)
          (found_laid s.laid.from s.laid.more s.ends.items s.placed.items (length s.bytes.items)
          c.self.invariant c.args.i c.index.result.now c.end_of_laid.result lt at
          c.end_of_laid.ensures.value);
    }

pub returns-else-i-laid : goal.returns-else-i-laid
returns-else-i-laid c =
    let s = c.self.inside in
    let low = end_at c.args.self.now.items s.ends.items s.bytes.items c.args.i
    (ap (λ (d : RecordsData). d.items) c.self.view_is) c.requires.within in
    let few = c.self.invariant.few in
    let count : c.len.result - c.len-2.result ≡ length s.ends.items - length s.placed.items =
    (let a = c.len.ensures in let b = c.len-2.ensures in omega (arith, a, b)) in
    let le : length s.ends.items - length s.placed.items ≤ c.args.i =
    (let f = c.if-i-laid.false in omega (arith, f, count)) in
    let there : c.index-else-i-laid.result.now ≡ get_or s.placed.items (c.args.i - (c.len.result - c.len-2.result)) 0 =
    get_or_read s.placed.items (c.args.i - (c.len.result - c.len-2.result)) c.index-else-i-laid.result.now
    (omega (arith, low, few, count, le)) c.index-else-i-laid.ensures 0 in
    let there' = rw count at there in
    record {
      value = rw (← ap (λ (d : RecordsData). d.ends) c.self.view_is)
          (found_placed s.laid.from s.laid.more s.ends.items s.placed.items (length s.bytes.items)
          c.self.invariant c.args.i c.index-else-i-laid.result.now le low there');
    }
