-- No text has more characters than bytes.
use Rattle.std.proofs.Common.{◌-◌, length, arith}
use Rattle.sz_value.proofs.MarkLemmas.{near_within}
use Rattle.sz_value.proofs.marked.count_near.Goals as goal

pub overflow_mul-result : goal.overflow_mul-result
overflow_mul-result c =
    let within = near_within _ _
    (length c.args.places.now - 1) c.utf8.text c.requires.marks (omega (arith, c.requires.marks.some)) in
    omega (arith, within, c.as_bytes-most.ensures.len)
