-- The call where there is no disk.
use Rattle.std.proofs.Common.{subst, map}
use Rattle.std.specs.Prelude.{string_bytes}
use Rattle.sz_words.specs.Settings.{settings_in}
use Rattle.szl.specs.Promise.{AreReadToEnd}
use Rattle.szl.specs.ResumePromise.{names_by}
use Rattle.szl.proofs.ResumedMainLemmas.{no_job, without_disk}
use Rattle.szl.proofs.top.szl_main.Goals as goal

pub returns-clause-outcome : goal.returns-clause-outcome
returns-clause-outcome g c = without_disk (settings_in (map string_bytes c.args.words.now)) _ _ c.szl_disk_main_on.ensures.outcome

pub returns-clause-end : goal.returns-clause-end
returns-clause-end g c done =
    let asked = settings_in (map string_bytes c.args.words.now) in
    subst (λ job. AreReadToEnd g.F.Files c.args.files.now c.szl_disk_main_on.new.files (names_by job asked)) (no_job asked)
    (c.szl_disk_main_on.ensures.end done)

pub returns-clause-complete : goal.returns-clause-complete
returns-clause-complete g c no_read no_write =
    without_disk (settings_in (map string_bytes c.args.words.now)) _ _ (c.szl_disk_main_on.ensures.complete no_read no_write)
