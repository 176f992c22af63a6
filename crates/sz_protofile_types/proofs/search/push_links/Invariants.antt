use Rattle.std.proofs.Common.{◌≡◌, ◌++◌, map, take}
use Rattle.sz_protofile_types.specs.Search.{link}
use Rattle.sz_protofile_types.proofs.search.push_links.Given as goal

-- the links so far are appended
abbrev pub invariant-loop-to : goal.invariant-loop-to
invariant-loop-to l = l.pending.items ≡ l.initial.pending.items ++ map (link l.from) (take l.to-index l.targets)
