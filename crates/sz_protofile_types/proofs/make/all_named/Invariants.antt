use Rattle.std.proofs.Common.{◌≡◌, map, take}
use Rattle.indexmap.specs.IndexMap.{get_by_text}
use Rattle.sz_protofile_types.specs.Making.{type_in, type_named}
use Rattle.sz_protofile_types.specs.Holding.{seen_found}
use Rattle.sz_protofile_types.proofs.make.all_named.Given as goal

-- the types of the messages so far
abbrev pub invariant-loop-message : goal.invariant-loop-message
invariant-loop-message l =
    l.types ≡ map (type_named (type_in (λ m. seen_found (get_by_text l.made m)))) (take l.message-index l.messages)
