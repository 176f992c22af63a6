use Rattle.std.proofs.Common.{◌<◌, ◌≤◌, arith, rules, sym, ap, ◌∙◌, subst, inl, inr, length}
use Rattle.std.specs.Prelude.{not}
use Rattle.sz_records.specs.Shards.{EndsShard}
use Rattle.sz_stream.specs.Intakes.{AreTooMany}
use Rattle.sz_stream.proofs.ClosingLemmas.{closes_more, still_within, found_within, found_ends, found_open, found_all, reaches_found, answers_open}
use Rattle.sz_stream.proofs.intake.Intake.wants_piece.Goals as goal

-- what is found lies among the records
pub has_no_room-requires : goal.has_no_room-requires
has_no_room-requires c =
    let now = c.loop-start.self in
    record {
      within = found_within now.round.records.items now.closed now.most c.is_some-at_end.result
          c.shard_end-found.result c.unwrap_or-end.result c.len-all.result
          c.shard_end-found.ensures.some c.unwrap_or-end.ensures c.len-all.ensures.value;
    }

-- the next shard doesn't fit
pub returns-then-has_no_room-clause-answer : goal.returns-then-has_no_room-clause-answer
returns-then-has_no_room-clause-answer c =
    let now = c.loop-start.self in
    let full = c.has_no_room.ensures.full c.if-has_no_room.true in
    let most : 1 ≤ now.most = subst (λ m. 1 ≤ m) (sym c.loop-start.invariant.closes.limit) c.requires.most in
    inl (inr (record {
      some = full.0;
      count = c.unwrap_or-end.result;
      reaches = reaches_found now most c.is_some-at_end.result c.shard_end-found.result c.unwrap_or-end.result
          c.len-all.result c.loop-start.invariant.within c.shard_end-found.ensures.some c.shard_end-found.ensures.none
          c.unwrap_or-end.ensures c.len-all.ensures.value;
      many = full.1;
    }))

-- no shard can be closed any more
pub returns-then-is_none-clause-answer : goal.returns-then-is_none-clause-answer
returns-then-is_none-clause-answer c =
    let now = c.loop-start.self in
    let most : 1 ≤ now.most = subst (λ m. 1 ≤ m) (sym c.loop-start.invariant.closes.limit) c.requires.most in
    let none = c.is_none.ensures ∙ ap not c.if-is_none.true in
    let all =
    found_all c.shard_end-found.result c.unwrap_or-end.result c.len-all.result (length now.round.records.items) none
    c.unwrap_or-end.ensures c.len-all.ensures.value in
    answers_open now most c.is_some-at_end.result _
    (found_open now.round.records.items now.closed now.most c.is_some-at_end.result c.shard_end-found.result
    c.shard_end-found.ensures.none none) c.is_some-at_end.ensures (search rules)
    (let few = c.loop-start-test.true in let len = c.len.ensures.value in omega (arith, few, len))
    (subst (λ n. 0 < length now.round.shards → ¬ AreTooMany now.round.records.items n) all
    (c.has_no_room.ensures.fits c.if-has_no_room.false))

-- there are as many shards as may be
pub returns-clause-answer : goal.returns-clause-answer
returns-clause-answer c =
    inl (inl (let many = c.loop-start-test.false in let len = c.len.ensures.value in omega (arith, many, len)))

-- one shard more is closed
pub loop-start-preserved : goal.loop-start-preserved
loop-start-preserved c =
    let old = c.args.self.now in
    let now = c.loop-start.self in
    let end = c.unwrap_or-end.result in
    let found = found_ends now.round.records.items now.closed now.most c.is_some-at_end.result
    c.shard_end-found.result end c.len-all.result
    c.shard_end-found.ensures.some c.unwrap_or-end.ensures (c.is_none.ensures ∙ ap not c.if-is_none.false) in
    let ends = subst (λ at_end. EndsShard now.round.records.items now.closed now.most at_end end)
    c.is_some-at_end.ensures found in
    let closes = closes_more old now c.loop-start.invariant.closes c.requires.within end c.push.new.self ends
    c.in_ok-push.ensures.ok (let room = c.loop-start-test.true in let len = c.len.ensures.value in
    omega (arith, room, len)) (c.has_no_room.ensures.fits c.if-has_no_room.false) in
    record { closes = closes; within = still_within old _ closes c.requires.within }

-- fewer records are left
pub loop-start-smaller : goal.loop-start-smaller
loop-start-smaller c =
    let now = c.loop-start.self in
    let found = found_ends now.round.records.items now.closed now.most c.is_some-at_end.result
    c.shard_end-found.result c.unwrap_or-end.result c.len-all.result
    c.shard_end-found.ensures.some c.unwrap_or-end.ensures (c.is_none.ensures ∙ ap not c.if-is_none.false) in
    omega (arith, found.within.0, found.within.1)
