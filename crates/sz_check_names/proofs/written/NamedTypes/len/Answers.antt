use Rattle.std.proofs.Common.{sym, rules}
use Rattle.sz_check_names.proofs.WrittenLemmas.{length_shapes}
use Rattle.sz_check_names.proofs.written.NamedTypes.len.Goals as goal

pub returns : goal.returns
returns c =
    let count = length_shapes c.self.inside.stored.items in
    record { value = rw (← c.self.view_is) (search (rules, sym count)) }
