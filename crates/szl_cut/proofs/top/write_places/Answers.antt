-- The file isn't cut, for no reason of the output.
use Rattle.std.specs.Prelude.{string_bytes}
use Rattle.std.proofs.lemmas.Result.{err_from_is_err_and}
use Rattle.szl_cut.proofs.AnswerLemmas.{why_for, no_write_for, asked_is}
use Rattle.szl_cut.proofs.top.write_places.Goals as goal

pub returns-in_err-places-clause-why : goal.returns-in_err-places-clause-why
returns-in_err-places-clause-why g c =
    let p = err_from_is_err_and c.from_residual.result c.from_residual.ensures.1 in
    let asked = asked_is string_bytes
    c.args.words.now c.name-item.result c.word-item.result c.as_str.result.now c.as_bytes.result.now
    c.as_bytes-2.result.now c.in-Some.size c.size_after.result c.in-len2.len_at_least c.in-len2.len_below
    c.name-item.is c.word-item.is c.as_str.ensures.value c.as_bytes.ensures.value c.as_bytes-2.ensures.value
    c.size_after.ensures.value c.in-Some.is in
    rw (p.1, p.2) (why_for (g.F.Files.held c.args.files.now) c.as_str.result.now c.in-Some.size _
    c.in_err-places.field-0.0 asked c.in_err-places.ensures.why)

pub returns-in_err-places-clause-write_failed : goal.returns-in_err-places-clause-write_failed
returns-in_err-places-clause-write_failed g c =
    let p = err_from_is_err_and c.from_residual.result c.from_residual.ensures.1 in
    rw (p.1, p.2) (λ is. absurd (no_write_for (g.F.Files.held c.args.files.now c.as_str.result.now)
    c.in_err-places.field-0.0 c.in_err-places.ensures.why is))
