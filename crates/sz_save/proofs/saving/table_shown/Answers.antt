-- What is shown has short lengths, so it can be spelled.
use Rattle.std.proofs.Common.{◌∙◌}
use Rattle.sz_save.proofs.SavingLemmas.{all_short}
use Rattle.sz_save.proofs.saving.table_shown.Goals as goal

pub spell_entries-requires : goal.spell_entries-requires
spell_entries-requires c = record {
  short = all_short c.args.total.now c.args.number c.as_slice.result.now
      (c.what_is_shown_fits.ensures.fits c.args.total.now c.emits.ensures.come)
      c.requires.declared (c.as_slice.ensures.value ∙ c.in_ok-rows.ensures.value);
}
