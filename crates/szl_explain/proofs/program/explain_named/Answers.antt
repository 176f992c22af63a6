-- What was printed is the answer for the file.
use Rattle.std.proofs.Common.{ap}
use Rattle.std.specs.Prelude.{Err}
use Rattle.szl_explain.proofs.AnswerLemmas.{holds_read, printed_answer, too_long_answer}
use Rattle.szl_explain.proofs.program.explain_named.Goals as goal

-- it was read and explained
pub returns-in-Ok-clause-answer : goal.returns-in-Ok-clause-answer
returns-in-Ok-clause-answer g c =
    let told = g.F.Files.held c.args.files.now c.args.name.now in
    let holds = holds_read told c.in-Ok.text.items c.deref.result.now c.deref.ensures.value c.in-Ok.ensures.bytes in
    printed_answer g.O.Sink told
    c.args.out.now c.write_explained.new.out c.deref.result.now c.explain.result c.write_explained.result holds
    c.explain.ensures.program c.explain.ensures.refused c.explain.ensures.line c.write_explained.ensures.printed

-- it is too long
pub returns-in-Err-TooLong-clause-answer : goal.returns-in-Err-TooLong-clause-answer
returns-in-Err-TooLong-clause-answer g c =
    let told = g.F.Files.held c.args.files.now c.args.name.now in
    let long = c.in-Err-TooLong.ensures.too_long (ap Err c.in-Err-TooLong.field-0-is) in
    too_long_answer g.O.Sink told c.args.out.now c.write_explained-in-Err-TooLong.new.out c.explain_too_long.result
    c.write_explained-in-Err-TooLong.result long c.explain_too_long.ensures.refusal c.explain_too_long.ensures.line
    c.write_explained-in-Err-TooLong.ensures.printed
