-- The tables so far were read, and joined to what is kept.
use Rattle.sz_save.proofs.TablesReadLemmas.{TablesSoFar}
use Rattle.sz_save.proofs.reading.join_tables_read.Given as goal

abbrev pub invariant-loop-i : goal.invariant-loop-i
invariant-loop-i l = TablesSoFar l.bound l.flat l.decls l.fn.tables l.i l.rest l.joined l.left.items
