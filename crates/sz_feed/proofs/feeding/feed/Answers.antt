-- A record more keeps what stays true.
use Rattle.std.proofs.Common.{◌≡◌, ◌∙◌, ◌++◌, ◌+◌, ◌-◌, ap, subst, sym}
use Rattle.sz_feed.specs.Feed.{file_of, next, records_after}
use Rattle.sz_feed.proofs.FeedLemmas.{appended}
use Rattle.sz_feed.proofs.feeding.feed.Goals as goal

-- the three draws follow one another, and the record of them is appended
pub loop-preserved : goal.loop-preserved
loop-preserved c =
    let after_a = c.draw-b.ensures.value ∙ ap next c.draw-a.ensures.kept in
    let after_b = c.draw-c.ensures.value ∙ ap next c.draw-b.ensures.kept in
    let kept = appended c.loop.draws.last c.draw-a.result c.draw-b.result c.draw-c.result c.args.records
    c.loop.counter c.loop.file.items c.push_record.new.file.items (file_of c.args.seed c.args.records)
    c.loop-test.true c.draw-a.ensures.value after_a after_b c.in_ok-push_record.ensures.ok c.loop.invariant in
    subst (λ last. c.push_record.new.file.items ++ records_after last (c.args.records - (c.loop.counter + 1))
    ≡ file_of c.args.seed c.args.records) (sym c.draw-c.ensures.kept) kept
