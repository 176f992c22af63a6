-- There is a row for each value and weight so far.
use Rattle.std.proofs.Common.{◌≡◌, map}
use Rattle.sz_tabs.specs.Rows.{weighted_row}
use Rattle.sz_extreme.specs.Ranks.{emit_of, seen_rank}
use Rattle.sz_extreme.proofs.ranked_rows.row_by_row.Given as goal

abbrev pub invariant-loop-rank : goal.invariant-loop-rank
invariant-loop-rank l = l.rows ≡ map weighted_row (map (emit_of l.kind) (map seen_rank l.yielded))
