-- What the total shows can be saved.
use Rattle.std.proofs.Common.{◌∙◌}
use Rattle.sz_save.proofs.SavingLemmas.{state_saved, state_is}
use Rattle.sz_save.proofs.saving.state_of.Goals as goal

pub new-requires : goal.new-requires
new-requires c = record {
  can = state_saved c.args.total.now c.args.bound c.args.decls.now c.in_ok-decls.decls c.in_ok-tables.tables
      c.requires.same c.requires.spelled c.requires.enough c.requires.low c.emits.ensures.come
      (c.what_is_shown_fits.ensures.fits c.args.total.now c.emits.ensures.come)
      c.a_table_shows_its_indexes.ensures.shown c.in_ok-decls.ensures.value c.in_ok-tables.ensures.value
      c.in_ok-tables.ensures.each;
}

pub returns : goal.returns
returns c = record {
  value = c.new.ensures.value ∙ state_is c.args.total.now c.args.bound c.args.decls.now c.in_ok-decls.decls
      c.in_ok-tables.tables c.requires.same c.in_ok-decls.ensures.value c.in_ok-tables.ensures.value;
}
