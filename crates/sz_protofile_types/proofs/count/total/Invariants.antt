use Rattle.std.proofs.Common.{◌≡◌, map, take}
use Rattle.std.specs.List.{sum}
use Rattle.indexmap.specs.IndexMap.{get_by_text}
use Rattle.sz_protofile.specs.declared.scope.Scope.{Scope}
use Rattle.sz_protofile_types.specs.Holding.{capped, counted}
use Rattle.sz_protofile_types.proofs.count.total.Given as goal

-- the number of the fields of the messages so far
abbrev pub invariant-loop-message : goal.invariant-loop-message
invariant-loop-message l = l.total
    ≡ capped (sum (map (λ (s : Scope). counted (get_by_text l.counts s.full)) (take l.message-index l.messages)))
