use Rattle.std.proofs.Common.{◌++◌, List, ℕ, ap, sym, ◌∙◌, arith, append_assoc, length}
use Rattle.std.specs.Vec.Iter.{into_iter_items}
use Rattle.sz_book.specs.Lanes.{LaneData}
use Rattle.sz_workers.specs.Closing.{shards_in}
use Rattle.sz_workers.proofs.RestLemmas.{apart_next, poured_all}
use Rattle.sz_workers.proofs.pool.pour_all.Goals as goal

-- the next lane is apart from those before it
pub pour-requires-clause-apart : goal.pour-requires-clause-apart
pour-requires-clause-apart g c κs within =
    let l = c.loop-lane in
    let rest = shards_in (into_iter_items c.next.new.self) in
    apart_next l.pool.shards c.in-Some.lane.shards rest
    (c.args.pool.now.shards ++ shards_in c.args.lanes.items) c.requires.distinct
    (ap (λ (items : List LaneData). l.pool.shards ++ shards_in items) (sym c.in-Some.ensures.steps.0) ∙ l.invariant.1)

pub loop-lane-preserved : goal.loop-lane-preserved
loop-lane-preserved g c =
    let l = c.loop-lane in
    let rest = shards_in (into_iter_items c.next.new.self) in
    let all = ap (λ (items : List LaneData). l.pool.shards ++ shards_in items) (sym c.in-Some.ensures.steps.0)
    ∙ l.invariant.1 in (
      c.in_ok-pour.ensures.holds,
      ap (λ (ss : List ℕ). ss ++ rest) c.in_ok-pour.ensures.all
          ∙ append_assoc l.pool.shards c.in-Some.lane.shards rest ∙ all,
      omega (arith, l.invariant.2, ap length c.in-Some.ensures.steps.0, c.in-Some.ensures.steps.1),
    )

-- all are in the pool
pub returns-clause-all : goal.returns-clause-all
returns-clause-all g c =
    let l = c.loop-lane in
    poured_all l.pool.shards (c.args.pool.now.shards ++ shards_in c.args.lanes.items) (into_iter_items l.lane-iterator)
    (omega (arith, l.invariant.2, c.in-None.ensures.steps.0)) l.invariant.1
