use Rattle.sz_scope.proofs.ChainLemmas.{newest_fits}
use Rattle.sz_scope.proofs.LookupLemmas.{twice_is}
use Rattle.sz_scope.proofs.chain.is_twice.Goals as goal

-- what stands at a name is the place of an entry
pub is_at_depth-requires : goal.is_at_depth-requires
is_at_depth-requires c = record {
  within = newest_fits c.args.newest.now c.args.entries.now c.requires.indexed c.args.known c.newest_of.result
      c.requires.within c.newest_of.ensures.some c.newest_of.ensures.none;
}

pub returns : goal.returns
returns c = record {
  value = λ names name p sound. twice_is names name c.args.newest.now c.args.entries.now c.args.depth sound
      c.newest_of.result c.is_at_depth.result c.is_at_depth.ensures.some c.is_at_depth.ensures.none c.args.known p
      c.newest_of.ensures.some c.newest_of.ensures.none;
}
