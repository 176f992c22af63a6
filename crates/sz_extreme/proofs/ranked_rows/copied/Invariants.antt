-- The values so far are copied with their ranks.
use Rattle.std.proofs.Common.{◌≡◌, map, take}
use Rattle.sz_extreme.specs.Ranks.{seen_rank}
use Rattle.sz_extreme.proofs.ranked_rows.copied.Given as goal

abbrev pub invariant-loop-ranked : goal.invariant-loop-ranked
invariant-loop-ranked l = map seen_rank l.made.items ≡ map seen_rank (take l.ranked-index l.kept)
