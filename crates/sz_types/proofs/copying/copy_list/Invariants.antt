-- What is copied so far is the front.
use Rattle.std.proofs.Common.{◌≡◌, map, take}
use Rattle.sz_types.specs.Seen.{seen_field}
use Rattle.sz_types.proofs.copying.copy_list.Given as goal

abbrev pub invariant-loop-field : goal.invariant-loop-field
invariant-loop-field l = map seen_field l.made.items ≡ map seen_field (take l.field-index l.fields)
