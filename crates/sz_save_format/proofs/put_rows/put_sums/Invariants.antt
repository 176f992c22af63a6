-- The sums so far were appended.
use Rattle.std.proofs.Common.{◌≡◌, ◌++◌, take, flat_map}
use Rattle.sz_save_format.specs.Entries.{sum_bytes}
use Rattle.sz_save_format.proofs.put_rows.put_sums.Given as goal

abbrev pub invariant-loop-sum : goal.invariant-loop-sum
invariant-loop-sum l = l.out.items ≡ l.initial.out.items ++ flat_map sum_bytes (take l.sum-index l.sums)
