use Rattle.std.proofs.Common.{◌+◌, ◌<◌, ◌≤◌, ◌^◌, length, arith, rules, sym, subst, inl, inr}
use Rattle.sz_records.specs.Shards.{EndsShard}
use Rattle.sz_records.proofs.ShardLemmas.{read_none, read_more, shard_full, all_read, shard_all, shard_open}
use Rattle.sz_records.proofs.shard.walked_end.Goals as goal
use Rattle.sz_records.proofs.shard.walked_end.Goals.{then-last-from-via-then-last-from, then-last-from-via-else-last-from+then-bytes-ge-SHARD_BYTES}

pub loop-last-init : goal.loop-last-init
loop-last-init c = read_none c.args.records.now.items c.args.from c.args.most c.requires.most
    (let n = c.if-from-len.false in let l = c.len.ensures.value in omega (arith, n, l))

pub overflow_add-bytes : goal.overflow_add-bytes
overflow_add-bytes c = let light = c.loop-last.invariant.grows.light in let small = c.get.type_inv.1 in
    let sum : c.loop-last.bytes + length c.get.result.now < 2 ^ 64 = omega (arith, light, small) in
    search (rules, sum)

pub returns-then-last-from-clause-some : goal.returns-then-last-from-clause-some
returns-then-last-from-clause-some c =
    shard_full c.args.records.now.items c.args.from c.args.most c.loop-last.last c.loop-last.bytes c.get.result.now
    c.args.at_end c.loop-last.invariant c.get.ensures.value
    (elim c.then-last-from.branch [
      | then-last-from-via-then-last-from w ↦ inl (let m = w.if-last-from in omega (arith, m))
      | then-last-from-via-else-last-from+then-bytes-ge-SHARD_BYTES w ↦
          inr (let m = w.if-bytes-ge-SHARD_BYTES in omega (arith, m))
    ])

pub loop-last-preserved : goal.loop-last-preserved
loop-last-preserved c =
    read_more c.args.records.now.items c.args.from c.args.most c.loop-last.last c.loop-last.bytes c.get.result.now
    c.loop-last.invariant c.get.ensures.value
    (let m = c.if-last-from.false in omega (arith, m)) (let m = c.if-bytes-ge-SHARD_BYTES.false in omega (arith, m))

pub returns-then-at_end-clause-some : goal.returns-then-at_end-clause-some
returns-then-at_end-clause-some c =
    let rs = c.args.records.now.items in
    let low : c.args.from < length rs =
    (let n = c.if-from-len.false in let l = c.len.ensures.value in omega (arith, n, l)) in
    let past : length rs ≤ c.loop-last.last =
    (let n = c.loop-last-test.false in let l = c.len-last-end.ensures.value in omega (arith, n, l)) in
    let all = all_read rs c.args.from c.args.most c.loop-last.last c.loop-last.bytes c.loop-last.invariant past in
    subst (EndsShard rs c.args.from c.args.most c.args.at_end) (sym c.len-then-at_end.ensures.value)
    (shard_all rs c.args.from c.args.most c.loop-last.bytes c.args.at_end all low c.if-at_end.true)

pub returns-else-at_end-clause-none : goal.returns-else-at_end-clause-none
returns-else-at_end-clause-none c =
    let rs = c.args.records.now.items in
    let past : length rs ≤ c.loop-last.last =
    (let n = c.loop-last-test.false in let l = c.len-last-end.ensures.value in omega (arith, n, l)) in
    let all = all_read rs c.args.from c.args.most c.loop-last.last c.loop-last.bytes c.loop-last.invariant past in
    shard_open rs c.args.from c.args.most c.loop-last.bytes c.args.at_end all c.if-at_end.false
