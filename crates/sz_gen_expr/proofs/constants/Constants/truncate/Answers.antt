-- The first constants are seen as the first of what is seen.
use Rattle.std.proofs.Common.{sym}
use Rattle.std.specs.List.{take-map}
use Rattle.sz_value.specs.Seen.{seen}
use Rattle.sz_gen_expr.proofs.constants.Constants.truncate.Goals as goal

pub returns : goal.returns
returns c = record { value = rw (c.truncate.ensures.keys, ← c.self.view_is) (sym (take-map seen _ _)) }
