-- The declarations so far are copied.
use Rattle.std.proofs.Common.{◌≡◌, map, take}
use Rattle.sz_types.specs.SeenTables.{seen_table}
use Rattle.sz_save.proofs.declared.copied_decls.Given as goal

abbrev pub invariant-loop-decl : goal.invariant-loop-decl
invariant-loop-decl l = l.copied ≡ map seen_table (take l.decl-index l.decl-items)
