use Rattle.std.proofs.Common.{◌≡◌, ℕ, List, take}
use Rattle.indexmap.specs.IndexMap.{get_by_text}
use Rattle.sz_protofile.specs.Types.{field_count}
use Rattle.sz_protofile_types.specs.Making.{type_in, made_of}
use Rattle.sz_protofile_types.specs.Holding.{capped, counted}
use Rattle.sz_protofile_types.proofs.count.count_fields.Given as goal

-- the fields so far are counted
abbrev pub invariant-loop-field : goal.invariant-loop-field
invariant-loop-field l = (m : List ℕ) → counted (get_by_text l.counts m)
    ≡ capped (field_count (type_in (made_of l.ranks (take l.field-index l.fields)) m))
