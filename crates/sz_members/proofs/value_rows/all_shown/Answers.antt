-- Each turn makes one value more of those that are left.
use Rattle.std.proofs.Common.{◌∙◌, ◌++◌, map, replicate, ap}
use Rattle.std.specs.Map.Iter.{deref_pair}
use Rattle.std.proofs.lemmas.Map.Iter.{rest_more}
use Rattle.sz_value.specs.Seen.{seen}
use Rattle.sz_members.specs.Repeats.{seen_repeated}
use Rattle.sz_members.specs.Showing.{shown_of, seen_ref}
use Rattle.sz_members.proofs.ShowingLemmas.{shown_more}
use Rattle.sz_members.proofs.value_rows.all_shown.Goals as goal

pub loop-value-preserved : goal.loop-value-preserved
loop-value-preserved c =
    let es = c.loop-value.value-iterator in
    let rest = c.next.new.self in
    let step = rest_more deref_pair es rest c.next.result (c.in-Some.value, c.in-Some.repeats)
    c.in-Some.is c.next.ensures.steps in
    let more = c.in_ok-push_times.ensures.ok
    ∙ ap (λ n. map seen_ref c.loop-value.made.items ++ replicate n (seen c.in-Some.value.now))
    c.times_shown.ensures.value in
    shown_more c.args.kind (map seen_ref c.loop-value.made.items) (map seen_ref c.push_times.new.made.items)
    (shown_of c.args.kind (map seen_repeated c.args.tally.now.entries)) c.in-Some.value.now c.in-Some.repeats.now es
    rest step more c.loop-value.invariant
