-- There are as many tables as declarations.
use Rattle.std.proofs.Common.{◌∙◌, length, sym, ap}
use Rattle.szl.proofs.resuming.text_held.Goals as goal

pub text_rows-requires : goal.text_rows-requires
text_rows-requires c = record { as_many = ap length c.tables.ensures.value ∙ c.requires ∙ ap length (sym c.decls.ensures.value) }
