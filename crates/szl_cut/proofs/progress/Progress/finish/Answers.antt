-- The file that was read is whole, or ends otherwise.
use Rattle.std.proofs.Common.{[], refl, sym, subst}
use Rattle.std.proofs.lemmas.Result.{err_from_is_err_and}
use Rattle.szl_cut.specs.Reading.{Finishes}
use Rattle.szl_cut.proofs.ReadingLemmas.{cut_whole, ends_otherwise}
use Rattle.szl_cut.proofs.progress.Progress.finish.Goals as goal

pub returns-in_err-ended-clause-stopped : goal.returns-in_err-ended-clause-stopped
returns-in_err-ended-clause-stopped c =
    let p = err_from_is_err_and c.from_residual-in_err-ended.result c.from_residual-in_err-ended.ensures.1 in
    rw (p.1, p.2) (ends_otherwise c.args.self
    (record c.args.self { framer = c.finish.new.self; records = c.finish.new.into }) c.note_all.new.self []
    c.finish.new.into refl
    c.in_ok-note_all.ensures.value c.in_ok-note_all.ensures.none c.in_ok-ending.ending c.in_ok-ending.ensures.finished
    c.in_ok-ending.ensures.ends c.in_err-ended.field-0.0 (sym c.in_err-ended.ensures.value))

pub returns-clause-whole : goal.returns-clause-whole
returns-clause-whole c =
    subst (Finishes c.args.self) (sym c.into_places.ensures.value)
    (cut_whole c.args.self (record c.args.self { framer = c.finish.new.self; records = c.finish.new.into })
    c.note_all.new.self []
    c.finish.new.into refl
    c.in_ok-note_all.ensures.value c.in_ok-note_all.ensures.none c.in_ok-ending.ending c.in_ok-ending.ensures.finished
    c.in_ok-ending.ensures.ends (sym c.in_ok-ended.ensures.value))
