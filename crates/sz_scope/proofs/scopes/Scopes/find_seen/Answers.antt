use Rattle.std.proofs.Common.{ap, ◌∙◌, option_map, rules}
use Rattle.sz_scope.specs.Blocks.{found}
use Rattle.sz_scope.specs.Sight.{sees, seen_blocks}
use Rattle.sz_scope.proofs.LookupLemmas.{lookup, looked_up, not_found, place_known}
use Rattle.sz_scope.proofs.scopes.Scopes.find_seen.Goals as goal

-- a name without a place isn't found
pub returns-in_err-name : goal.returns-in_err-name
returns-in_err-name c =
    record {
      value = ap (option_map (λ x. x.now)) c.from_residual.ensures
          ∙ not_found c.self.inside.entries.items c.args.name.now (sees c.args.sight) c.self.invariant
          (c.in_err-name.ensures.value)
          ∙ ap (λ blocks. found c.args.name.now (seen_blocks c.args.sight blocks)) c.self.view_is;
    }

-- one with a place has its newest entry there
pub index-requires : goal.index-requires
index-requires c =
    let known = place_known c.self.inside.entries.items c.args.name.now c.self.invariant (c.in_ok-name.ensures.value) in
    search (rules, known)

pub find_seen-requires-clause-within : goal.find_seen-requires-clause-within
find_seen-requires-clause-within c =
    (lookup c.self.inside.entries.items c.args.name.now c.self.invariant (c.in_ok-name.ensures.value)
    c.index.ensures c.as_slice.ensures.value).within

pub returns : goal.returns
returns c =
    let look = lookup c.self.inside.entries.items c.args.name.now c.self.invariant (c.in_ok-name.ensures.value)
    c.index.ensures c.as_slice.ensures.value in
    record {
      value = c.find_seen.ensures.value c.in_ok-name.name look.latest
          ∙ looked_up c.self.inside.entries.items c.args.name.now (sees c.args.sight) c.self.invariant
          (c.in_ok-name.ensures.value) look
          ∙ ap (λ blocks. found c.args.name.now (seen_blocks c.args.sight blocks)) c.self.view_is;
    }
