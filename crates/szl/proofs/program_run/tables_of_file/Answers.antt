use Rattle.std.proofs.Common.{ap, ◌∙◌, subst}
use Rattle.std.specs.Prelude.{Err, Ok, IfSome, IsSome}
use Rattle.std.proofs.lemmas.Result.{err_from_is_err_and}
use Rattle.sz_io.specs.Rose.{Rose}
use Rattle.sz_io.specs.Opened.{names_after}
use Rattle.szl.proofs.EndingLemmas.{file_stops, read_no_memory, file_fits, file_ends, told_at_end}
use Rattle.szl.proofs.FileLemmas.{opening_fails, file_gives, rose_since, keeps_opened, opens_one, read_to_end}
use Rattle.szl.proofs.SavedLemmas.{file_saves}
use Rattle.szl.proofs.program_run.tables_of_file.Goals as goal

-- the file couldn't be opened
pub returns-in_err-file-clause-value : goal.returns-in_err-file-clause-value
returns-in_err-file-clause-value g c =
    let p = err_from_is_err_and c.from_residual.result c.from_residual.ensures.1 in
    let files = g.F.Files in
    let old = c.args.files.now in
    let e = c.in_err-file.field-0.0 in
    rw (p.1, p.2) (opening_fails files c.args.job.now c.args.settings.now old c.open_file.new.self e (λ is. c.in_err-file.ensures.failed (ap Err is))
    (c.in_err-file.ensures.names ∙ ap (λ name. names_after (files.names old) name (Err e)) c.as_str.ensures.value))

-- a shard decides, or a piece couldn't be read
pub returns-in_err-tables-clause-value : goal.returns-in_err-tables-clause-value
returns-in_err-tables-clause-value g c =
    let p = err_from_is_err_and c.from_residual-in_err-tables.result c.from_residual-in_err-tables.ensures.1 in
    let files = g.F.Files in
    let job = c.args.job.now in
    let s = c.args.settings.now in
    let old = c.args.files.now in
    let mid = c.open_file.new.self in
    let new = c.run_file.new.files in
    let file = c.in_ok-file.file in
    let stop = c.in_err-tables.field-0.0 in
    let rose = Rose (files.faults old) (files.faults new) in
    let gives = file_stops job s.save s.shard s.frame (files.left mid file) (files.left new file) rose c.requires.bounds.shard stop c.in_err-tables.ensures.value
    (λ is. rose_since files job s old mid new c.open_file.ensures.kept.faults_later (c.in_err-tables.ensures.failed (ap Err is))) in
    rw (p.1, p.2) (file_gives files job s old mid new (files.left mid file) _ (c.in_ok-file.ensures.bytes ∙ ap (files.held old) c.as_str.ensures.value)
    gives (c.in_ok-file.ensures.names ∙ ap (λ name. names_after (files.names old) name (Ok file)) c.as_str.ensures.value)
    c.run_file.ensures.kept.names_same
    (opens_one files job s old mid new file c.in_ok-file.ensures.fresh c.open_file.ensures.kept c.run_file.ensures.kept c.in_ok-file.ensures.given))

-- the tables are those of the program, and there are few emits and records
pub written-requires-clause-declared : goal.written-requires-clause-declared
written-requires-clause-declared g c κs within =
    let files = g.F.Files in
    let s = c.args.settings.now in
    let file = c.in_ok-file.file in
    let new = c.run_file.new.files in
    let fit = file_fits c.args.job.now s.save s.shard s.frame (files.left c.open_file.new.self file) (files.left new file)
    (Rose (files.faults c.args.files.now) (files.faults new)) c.requires.bounds.shard c.in_ok-tables.tables c.in_ok-tables.ensures.value in
    fit.declared

pub written-requires-clause-records : goal.written-requires-clause-records
written-requires-clause-records g c κs within =
    let files = g.F.Files in
    let s = c.args.settings.now in
    let file = c.in_ok-file.file in
    let new = c.run_file.new.files in
    let fit = file_fits c.args.job.now s.save s.shard s.frame (files.left c.open_file.new.self file) (files.left new file)
    (Rose (files.faults c.args.files.now) (files.faults new)) c.requires.bounds.shard c.in_ok-tables.tables c.in_ok-tables.ensures.value in
    fit.within

pub written-requires-clause-few : goal.written-requires-clause-few
written-requires-clause-few g c κs within =
    let files = g.F.Files in
    let s = c.args.settings.now in
    let file = c.in_ok-file.file in
    let new = c.run_file.new.files in
    let fit = file_fits c.args.job.now s.save s.shard s.frame (files.left c.open_file.new.self file) (files.left new file)
    (Rose (files.faults c.args.files.now) (files.faults new)) c.requires.bounds.shard c.in_ok-tables.tables c.in_ok-tables.ensures.value in
    fit.few

-- there was no memory for what is written
pub returns-in_err-written-clause-value : goal.returns-in_err-written-clause-value
returns-in_err-written-clause-value g c =
    let p = err_from_is_err_and c.from_residual-in_err-written.result c.from_residual-in_err-written.ensures.1 in
    let files = g.F.Files in
    let job = c.args.job.now in
    let s = c.args.settings.now in
    let old = c.args.files.now in
    let mid = c.open_file.new.self in
    let new = c.run_file.new.files in
    let file = c.in_ok-file.file in
    let gives = read_no_memory job s.save s.shard s.frame (files.left mid file) (files.left new file) (Rose (files.faults old) (files.faults new)) in
    rw (p.1, p.2) (file_gives files job s old mid new (files.left mid file) _ (c.in_ok-file.ensures.bytes ∙ ap (files.held old) c.as_str.ensures.value)
    gives (c.in_ok-file.ensures.names ∙ ap (λ name. names_after (files.names old) name (Ok file)) c.as_str.ensures.value)
    c.run_file.ensures.kept.names_same
    (opens_one files job s old mid new file c.in_ok-file.ensures.fresh c.open_file.ensures.kept c.run_file.ensures.kept c.in_ok-file.ensures.given))

-- what is written is of all emits
pub returns-clause-value : goal.returns-clause-value
returns-clause-value g c =
    let files = g.F.Files in
    let job = c.args.job.now in
    let s = c.args.settings.now in
    let old = c.args.files.now in
    let mid = c.open_file.new.self in
    let new = c.run_file.new.files in
    let file = c.in_ok-file.file in
    let gives = file_ends job s.save s.shard s.frame (files.left mid file) (files.left new file) (Rose (files.faults old) (files.faults new))
    c.requires.bounds.shard c.in_ok-tables.tables c.in_ok-tables.ensures.value c.in_ok-written.field-0.items c.in_ok-written.ensures.value in
    file_gives files job s old mid new (files.left mid file) _ (c.in_ok-file.ensures.bytes ∙ ap (files.held old) c.as_str.ensures.value)
    gives (c.in_ok-file.ensures.names ∙ ap (λ name. names_after (files.names old) name (Ok file)) c.as_str.ensures.value)
    c.run_file.ensures.kept.names_same
    (opens_one files job s old mid new file c.in_ok-file.ensures.fresh c.open_file.ensures.kept c.run_file.ensures.kept c.in_ok-file.ensures.given)

-- what is saved is of all emits
pub returns-clause-saved : goal.returns-clause-saved
returns-clause-saved g c saving =
    let files = g.F.Files in
    let s = c.args.settings.now in
    let file = c.in_ok-file.file in
    file_saves files c.args.job.now s c.requires.bounds.shard c.in_ok-tables.tables c.args.files.now
    (files.left c.open_file.new.self file) (files.left c.run_file.new.files file)
    (c.in_ok-file.ensures.bytes ∙ ap (files.held c.args.files.now) c.as_str.ensures.value)
    c.in_ok-tables.ensures.value c.in_ok-written.field-0.items (c.in_ok-written.ensures.file saving)

-- the file is at its end
pub returns-clause-end : goal.returns-clause-end
returns-clause-end g c =
    let files = g.F.Files in
    let job = c.args.job.now in
    let s = c.args.settings.now in
    let old = c.args.files.now in
    let mid = c.open_file.new.self in
    let new = c.run_file.new.files in
    let file = c.in_ok-file.file in
    let bytes = c.in_ok-file.ensures.bytes ∙ ap (files.held old) c.as_str.ensures.value in
    let told = told_at_end job s.save s.shard s.frame (files.left mid file) (files.left new file) (Rose (files.faults old) (files.faults new))
    c.requires.bounds.shard c.in_ok-tables.tables c.in_ok-tables.ensures.value in
    read_to_end files job s old mid new file c.in_ok-file.ensures.fresh c.open_file.ensures.kept c.run_file.ensures.kept c.in_ok-file.ensures.given
    c.in_ok-tables.ensures.end (subst (λ h. IfSome h (λ _. IsSome (files.left new file))) bytes told)

-- all other files are as they were
pub returns-in_err-tables-clause-kept : goal.returns-in_err-tables-clause-kept
returns-in_err-tables-clause-kept g c =
    keeps_opened g.F.Files c.args.job.now c.args.settings.now c.args.files.now c.open_file.new.self c.run_file.new.files c.in_ok-file.file
    c.in_ok-file.ensures.fresh c.open_file.ensures.kept c.run_file.ensures.kept

pub returns-in_err-written-clause-kept : goal.returns-in_err-written-clause-kept
returns-in_err-written-clause-kept g c =
    keeps_opened g.F.Files c.args.job.now c.args.settings.now c.args.files.now c.open_file.new.self c.run_file.new.files c.in_ok-file.file
    c.in_ok-file.ensures.fresh c.open_file.ensures.kept c.run_file.ensures.kept

pub returns-clause-kept : goal.returns-clause-kept
returns-clause-kept g c =
    keeps_opened g.F.Files c.args.job.now c.args.settings.now c.args.files.now c.open_file.new.self c.run_file.new.files c.in_ok-file.file
    c.in_ok-file.ensures.fresh c.open_file.ensures.kept c.run_file.ensures.kept
