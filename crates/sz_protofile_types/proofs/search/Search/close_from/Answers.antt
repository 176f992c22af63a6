use Rattle.std.proofs.Common.{◌≡◌, length, ◌≤◌, arith}
use Rattle.sz_protofile_types.proofs.Closings.{going_begins, going_path, goes_on, ends_marks, ends_path, ends_order}
use Rattle.sz_protofile_types.proofs.search.Search.close_from.Goals as goal

pub loop-self-init : goal.loop-self-init
loop-self-init c =
    going_begins c.args.place c.len-number.result c.args.self.now c.requires.path (omega (arith, c.requires.within))

pub close_node-requires : goal.close_node-requires
close_node-requires c = record {
  path = going_path c.args.place c.len-number.result c.args.self.now c.loop-self.self c.requires.path
      c.loop-self.invariant;
}

pub loop-self-preserved : goal.loop-self-preserved
loop-self-preserved c =
    goes_on c.args.place c.len-number.result c.args.self.now c.loop-self.self c.close_node.new.self c.requires.path
    c.loop-self.invariant (omega (arith, c.loop-self-test.true, c.len.ensures, c.loop-self.self.path.ok.0))
    c.in_ok-close_node.ensures.path c.in_ok-close_node.ensures.marks
    c.in_ok-close_node.ensures.order c.close_node.ensures.starts c.close_node.ensures.pending

pub returns : goal.returns
returns c =
    let end : length c.loop-self.self.path.items ≤ c.args.place =
    omega (arith, c.loop-self-test.false, c.len.ensures, c.loop-self.self.path.ok.0) in
    let number : c.len-number.result ≡ length c.args.self.now.order.items =
    omega (arith, c.len-number.ensures, c.args.self.now.order.ok.0) in
    let g = c.loop-self.invariant in
    record {
      marks =
          ends_marks c.args.place c.len-number.result c.args.self.now c.loop-self.self g c.requires.within end number;
      path = ends_path c.args.place c.len-number.result c.args.self.now c.loop-self.self g c.requires.within end number;
      order =
          ends_order c.args.place c.len-number.result c.args.self.now c.loop-self.self g c.requires.within end number;
      starts = g.starts;
      pending = g.pending;
    }
