-- All files are those after none.
use Rattle.std.proofs.Common.{[], refl}
use Rattle.szl.specs.ProgramRuns.{vec_items_of}
use Rattle.szl.proofs.MergeLemmas.{all_answered}
use Rattle.szl.proofs.merging.answer_merge.Goals as goal

pub returns-clause-value : goal.returns-clause-value
returns-clause-value g c =
    all_answered g.F.Files c.args.save c.args.names.now c.args.files.now c.answer_rest.new.files (vec_items_of c.answer_rest.result)
    (c.answer_rest.ensures.value [] (record { groups_of = c.new.ensures.value; each = tt; count = refl }))
