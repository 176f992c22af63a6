-- What was read so far is joined to what is kept.
use Rattle.sz_types.specs.SeenTables.{seen_table}
use Rattle.sz_save.proofs.ReadingLemmas.{ReadSoFar}
use Rattle.sz_save.proofs.reading.join_lists_read.Given as goal

abbrev pub invariant-loop : goal.invariant-loop
invariant-loop l =
    ReadSoFar l.bound (seen_table l.table) l.flat l.fn.kept l.count l.counter l.rest l.walk.joined l.walk.left.items
