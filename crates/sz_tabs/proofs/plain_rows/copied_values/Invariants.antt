-- The values of the emits so far are copied.
use Rattle.std.proofs.Common.{◌≡◌, map, take}
use Rattle.sz_value.specs.Seen.{seen}
use Rattle.sz_tabs.specs.Rows.{values_of}
use Rattle.sz_tabs.specs.SeenKept.{seen_kept}
use Rattle.sz_tabs.proofs.plain_rows.copied_values.Given as goal

abbrev pub invariant-loop-one : goal.invariant-loop-one
invariant-loop-one l = map seen l.values.items ≡ values_of (map seen_kept (take l.one-index l.kept))
