use Rattle.std.proofs.Common.{◌+◌, ◌≤◌, length, refl, arith}
use Rattle.sz_records.proofs.ShardLemmas.{shard_by_count}
use Rattle.sz_records.proofs.shard.shard_end.Goals as goal

pub returns-then-bytes_between-lt-SHARD_BYTES-clause-some : goal.returns-then-bytes_between-lt-SHARD_BYTES-clause-some
returns-then-bytes_between-lt-SHARD_BYTES-clause-some c =
    let rs = c.args.records.now.items in
    let few : c.args.from + c.args.most ≤ length rs = (let n = c.if-left-most.false in let f = c.if-from-all.false in
    let l = c.len-all.ensures.value in omega (arith, n, f, l)) in
    let bytes = c.bytes_between.ensures.value in
    let light = c.if-bytes_between-lt-SHARD_BYTES.true in
    shard_by_count rs c.args.from c.args.most (c.args.from + c.args.most) c.args.at_end c.requires.most refl few
    (omega (arith, bytes, light))
