-- No statement so far declares such a table.
use Rattle.std.proofs.Common.{◌≡◌, map, drop}
use Rattle.sz_tree.specs.Statements.{stms_of}
use Rattle.sz_tree.specs.View.{stm_of}
use Rattle.szl.specs.Reserved.{declared_in}
use Rattle.szl.proofs.reserved.declared_among.Given as goal

abbrev pub invariant-loop-statement : goal.invariant-loop-statement
invariant-loop-statement l =
    declared_in l.name (stms_of (map stm_of (drop l.statement-index l.statements))) ≡ declared_in l.name (stms_of (map stm_of l.statements))
