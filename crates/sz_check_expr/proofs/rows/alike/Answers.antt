use Rattle.sz_types.specs.Seen.{seen}
use Rattle.sz_check_expr.proofs.TypeLemmas.{alike_when}
use Rattle.sz_check_expr.proofs.rows.alike.Goals as goal

pub returns : goal.returns
returns c = record { value = alike_when c.same.result (seen c.args.a.now) (seen c.args.b.now) c.same.ensures.value }
