use Rattle.std.proofs.Common.{ap, ◌∙◌, option_map, rules, true}
use Rattle.sz_scope.specs.Blocks.{found}
use Rattle.sz_scope.specs.Sight.{blocks_where}
use Rattle.sz_scope.proofs.LookupLemmas.{lookup, looked_up, not_found, found_plain, place_known}
use Rattle.sz_scope.proofs.scopes.Scopes.find.Goals as goal

-- a name without a place isn't found
pub returns-in_err-name : goal.returns-in_err-name
returns-in_err-name c = record {
  value = ap (option_map (λ x. x.now)) c.from_residual.ensures
      ∙ not_found c.self.inside.entries.items c.args.name.now (λ d w. true) c.self.invariant
      (c.in_err-name.ensures.value) ∙ ap (λ blocks. found c.args.name.now (blocks_where (λ d w. true) blocks))
      c.self.view_is ∙ found_plain c.args.name.now c.args.self.now;
}

-- one with a place has its newest entry there
pub index-requires : goal.index-requires
index-requires c =
    let known = place_known c.self.inside.entries.items c.args.name.now c.self.invariant (c.in_ok-name.ensures.value) in
    search (rules, known)

pub newest_entry-requires-clause-within : goal.newest_entry-requires-clause-within
newest_entry-requires-clause-within c =
    (lookup c.self.inside.entries.items c.args.name.now c.self.invariant (c.in_ok-name.ensures.value)
    c.index.ensures c.as_slice.ensures.value).within

pub returns : goal.returns
returns c =
    let look = lookup c.self.inside.entries.items c.args.name.now c.self.invariant (c.in_ok-name.ensures.value)
    c.index.ensures c.as_slice.ensures.value in
    record {
      value = c.newest_entry.ensures.value c.in_ok-name.name look.latest
          ∙ looked_up c.self.inside.entries.items c.args.name.now (λ d w. true) c.self.invariant
          (c.in_ok-name.ensures.value) look ∙ ap (λ blocks. found c.args.name.now (blocks_where (λ d w. true) blocks))
          c.self.view_is ∙ found_plain c.args.name.now c.args.self.now;
    }
