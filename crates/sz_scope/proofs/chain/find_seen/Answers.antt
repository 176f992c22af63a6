use Rattle.std.proofs.Common.{sym, ◌∙◌}
use Rattle.std.proofs.lemmas.Option.{slice_get-get_or}
use Rattle.sz_scope.specs.Sight.{sees}
use Rattle.sz_scope.proofs.WayLemmas.{search_starts, search_ends, search_goes_on, search_falls, falls}
use Rattle.sz_scope.proofs.chain.find_seen.Goals as goal

-- the search begins at the newest entry
pub loop-at-init : goal.loop-at-init
loop-at-init c = search_starts (sees c.args.sight) c.args.newest c.args.entries.now c.requires.within

-- it ends at an entry that is seen
pub returns-then-sees : goal.returns-then-sees
returns-then-sees c = record {
  value = search_ends (sees c.args.sight)
      c.args.newest c.args.entries.now c.requires.linked c.loop-at.at c.loop-at.invariant
      c.in-Some.place c.in-Some.is _
      (slice_get-get_or c.args.entries.now c.in-Some.place _ (c.loop-at.invariant.within c.in-Some.place c.in-Some.is))
      (sym c.sees.ensures.value ∙ c.if-sees.true);
}

-- it goes on at an older one
pub loop-at-smaller : goal.loop-at-smaller
loop-at-smaller c =
    falls _ c.loop-at.at c.in-Some.place c.in-Some.is
    (search_falls (sees c.args.sight)
    c.args.newest c.args.entries.now c.requires.linked c.loop-at.at c.loop-at.invariant
    c.in-Some.place c.in-Some.is _
    (slice_get-get_or c.args.entries.now c.in-Some.place _ (c.loop-at.invariant.within c.in-Some.place c.in-Some.is)))

pub loop-at-preserved : goal.loop-at-preserved
loop-at-preserved c =
    search_goes_on
    (sees c.args.sight) c.args.newest c.args.entries.now c.requires.linked c.loop-at.at c.loop-at.invariant
    c.in-Some.place c.in-Some.is _
    (slice_get-get_or c.args.entries.now c.in-Some.place _ (c.loop-at.invariant.within c.in-Some.place c.in-Some.is))
    (sym c.sees.ensures.value ∙ c.if-sees.false)
