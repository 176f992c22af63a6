-- The types so far were appended.
use Rattle.std.proofs.Common.{◌≡◌, ◌++◌, map, take, flat_map}
use Rattle.sz_types.specs.Seen.{seen}
use Rattle.sz_save_format.specs.Types.{type_bytes}
use Rattle.sz_save_format.proofs.put.put_each_type.Given as goal

abbrev pub invariant-loop-ty : goal.invariant-loop-ty
invariant-loop-ty l = l.out.items ≡ l.initial.out.items ++ flat_map type_bytes (map seen (take l.ty-index l.types))
