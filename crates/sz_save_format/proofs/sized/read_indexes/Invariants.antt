-- The values so far are read, and the others are still to come.
use Rattle.std.proofs.Common.{◌≡◌, map, drop}
use Rattle.sz_types.specs.Seen as types
use Rattle.sz_save_format.specs.DecodingRows.{indexes_at}
use Rattle.sz_save_format.proofs.FrontLemmas.{after}
use Rattle.sz_save_format.proofs.sized.read_indexes.Given as goal

abbrev pub invariant-loop-ty : goal.invariant-loop-ty
invariant-loop-ty l = indexes_at (map types.seen l.types) l.flat
    ≡ after l.values (indexes_at (map types.seen (drop l.ty-index l.types)) l.rest)
