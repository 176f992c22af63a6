use Rattle.std.proofs.Common.{rules, of_calls, ltb, leb, arith}
use Rattle.std.proofs.lemmas.Fn.{always_returns_same}
use Rattle.std.proofs.lemmas.List.Sorted.{IsPartitionedBy-ltb, IsPartitionedBy-leb}
use Rattle.sz_wire.specs.declared.field.WireField.{WireField}
use Rattle.sz_proto.proofs.OrderLemmas.{number_found, cut_in_order}
use Rattle.sz_proto.proofs.finding.occurrences.Goals as goal

pub part-requires : goal.part-requires
part-requires c =
    let low = c.partition_point-from.ensures.partitioned (λ (f : WireField). ltb f.number c.args.number)
    (always_returns_same _ _ _ (λ a r f k. search (rules, of_calls)))
    (IsPartitionedBy-ltb (λ (f : WireField). f.number) c.args.found.now c.args.number c.requires.order) in
    let high = c.partition_point-to.ensures.partitioned (λ (f : WireField). leb f.number c.args.number)
    (always_returns_same _ _ _ (λ a r f k. search (rules, of_calls)))
    (IsPartitionedBy-leb (λ (f : WireField). f.number) c.args.found.now c.args.number c.requires.order) in
    record {
      order = cut_in_order c.args.found.now c.args.number c.partition_point-from.result c.partition_point-to.result
          c.partition_point-from.ensures.bound low.1 high.1 (λ k d lt. low.0 k d (omega arith) lt);
      within = c.partition_point-to.ensures.bound;
    }

pub returns : goal.returns
returns c =
    let low = c.partition_point-from.ensures.partitioned (λ (f : WireField). ltb f.number c.args.number)
    (always_returns_same _ _ _ (λ a r f k. search (rules, of_calls)))
    (IsPartitionedBy-ltb (λ (f : WireField). f.number) c.args.found.now c.args.number c.requires.order) in
    let high = c.partition_point-to.ensures.partitioned (λ (f : WireField). leb f.number c.args.number)
    (always_returns_same _ _ _ (λ a r f k. search (rules, of_calls)))
    (IsPartitionedBy-leb (λ (f : WireField). f.number) c.args.found.now c.args.number c.requires.order) in
    let order = cut_in_order c.args.found.now c.args.number c.partition_point-from.result c.partition_point-to.result
    c.partition_point-from.ensures.bound low.1 high.1 (λ k d lt. low.0 k d (omega arith) lt) in
    record {
      value = rw c.part.ensures.value
          (number_found c.args.found.now c.args.number c.partition_point-from.result c.partition_point-to.result order
          c.partition_point-to.ensures.bound (λ k d lt. low.0 k d (omega arith) lt) low.1
          (λ k d lt. high.0 k d (omega arith) lt) high.1);
    }
