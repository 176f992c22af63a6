use Rattle.sz_lex.proofs.DecodeLemmas.{stripped, not_stripped, answer_found, answer_none}
use Rattle.sz_lex.proofs.literal.decode.Goals as goal

pub returns-in-Some-clause-found : goal.returns-in-Some-clause-found
returns-in-Some-clause-found c =
    let cases = c.in-Some.ensures.cases in
    answer_found c.args.quoted c.args.literal.now c.in-Some.body.now c.decode_body.result
    (stripped c.args.quoted c.args.literal.now c.opening.result.now c.in-Some.body.now c.opening.ensures.value
    cases.0 cases.1) c.decode_body.ensures

pub returns-in-Some-clause-none : goal.returns-in-Some-clause-none
returns-in-Some-clause-none c =
    let cases = c.in-Some.ensures.cases in
    answer_none c.args.quoted c.args.literal.now c.in-Some.body.now c.decode_body.result
    (stripped c.args.quoted c.args.literal.now c.opening.result.now c.in-Some.body.now c.opening.ensures.value
    cases.0 cases.1) c.decode_body.ensures

pub returns-in-None-clause-none : goal.returns-in-None-clause-none
returns-in-None-clause-none c = λ value. not_stripped c.args.quoted c.args.literal.now c.opening.result.now value
    c.opening.ensures.value c.in-None.ensures.cases
