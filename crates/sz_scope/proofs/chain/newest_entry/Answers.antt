use Rattle.std.proofs.Common.{refl, true}
use Rattle.std.proofs.lemmas.Option.{slice_get-get_or}
use Rattle.sz_scope.proofs.WayLemmas.{search_starts, search_ends, search_fails}
use Rattle.sz_scope.proofs.chain.newest_entry.Goals as goal

-- where everything is seen, a search ends where it begins
pub returns-in-Some : goal.returns-in-Some
returns-in-Some c = record {
  value = search_ends (λ d w. true) c.args.newest c.args.entries.now c.requires.linked c.args.newest
      (search_starts (λ d w. true) c.args.newest c.args.entries.now c.requires.within) c.in-Some.place c.in-Some.is _
      (slice_get-get_or c.args.entries.now c.in-Some.place _ (c.requires.within c.in-Some.place c.in-Some.is)) refl;
}

pub returns-in-None : goal.returns-in-None
returns-in-None c = record {
  value = search_fails (λ d w. true) c.args.newest c.args.entries.now c.args.newest
      (search_starts (λ d w. true) c.args.newest c.args.entries.now c.requires.within) c.in-None.is;
}
