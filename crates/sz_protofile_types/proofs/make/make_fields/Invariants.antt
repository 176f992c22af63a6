use Rattle.std.proofs.Common.{◌≡◌, ℕ, List, take}
use Rattle.indexmap.specs.IndexMap.{get_by_text}
use Rattle.sz_protofile_types.specs.Making.{made_of}
use Rattle.sz_protofile_types.specs.Holding.{seen_found}
use Rattle.sz_protofile_types.proofs.make.make_fields.Given as goal

-- the fields so far are made
abbrev pub invariant-loop-field : goal.invariant-loop-field
invariant-loop-field l = (m : List ℕ)
    → seen_found (get_by_text l.made m) ≡ made_of l.ranks (take l.field-index l.fields) m
