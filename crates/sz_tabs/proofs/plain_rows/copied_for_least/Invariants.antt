-- The emits so far are copied.
use Rattle.std.proofs.Common.{◌≡◌, map, take}
use Rattle.sz_tabs.specs.SeenKept.{seen_kept, seen_least}
use Rattle.sz_tabs.proofs.plain_rows.copied_for_least.Given as goal

abbrev pub invariant-loop-one : goal.invariant-loop-one
invariant-loop-one l = map seen_least l.copied.items ≡ map seen_kept (take l.one-index l.kept)
