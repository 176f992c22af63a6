-- Each index has short lengths.
use Rattle.std.proofs.Common.{sym, subst}
use Rattle.sz_value.specs.Data.{data_of}
use Rattle.sz_flat.specs.Spelling.{HaveShortLengths}
use Rattle.sz_flat.proofs.WritingLemmas.{short_parts}
use Rattle.sz_total.specs.Tables.{Indexed}
use Rattle.sz_save.proofs.spelled.spell_entry.Goals as goal

pub spell_values-requires : goal.spell_values-requires
spell_values-requires c = record {
  short = short_parts c.as_slice.result.now c.entry.inside.indexes c.as_slice.ensures.value
      (subst (λ (e : Indexed). HaveShortLengths (data_of e.indexes)) (sym c.entry.view_is) c.requires.short.indexes);
}
