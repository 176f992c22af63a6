-- Those from here on rise exactly where all do.
use Rattle.std.proofs.Common.{◌≡◌, ◌-◌, drop}
use Rattle.sz_value.specs.Seen.{seen_pairs}
use Rattle.sz_save_format.specs.Entries.{in_order}
use Rattle.sz_save_format.specs.DecodingRows.{key_may_follow}
use Rattle.sz_save_format.proofs.values.keys_rise.Given as goal

abbrev pub invariant-loop-i : goal.invariant-loop-i
invariant-loop-i l =
    in_order key_may_follow (seen_pairs (drop (l.i - 1) l.pairs)) ≡ in_order key_may_follow (seen_pairs l.pairs)
