use Rattle.std.proofs.Common.{List, Ok, ap, sym, ◌∙◌}
use Rattle.sz_protofile_lex.specs.declared.token.Token.{Token}
use Rattle.sz_protofile.proofs.LineLemmas.{found_lines, refused_lines, only_lines, only_refused}
use Rattle.sz_protofile.proofs.file.lines.Goals as goal

pub returns-clause-refused : goal.returns-clause-refused
returns-clause-refused c =
    (refused_lines c.args.bytes.now c.as_slice.result.now (c.in_ok-tokens.ensures.value
    ∙ ap (λ (ts : List Token). Ok ts) (sym c.as_slice.ensures.value)) c.lines_of.result c.lines_of.ensures.refused)

pub returns-clause-only_found : goal.returns-clause-only_found
returns-clause-only_found c = λ all h.
    only_lines (λ v. v.items) c.args.bytes.now c.lines_of.result
    (found_lines (λ v. v.items) c.args.bytes.now c.as_slice.result.now (c.in_ok-tokens.ensures.value
    ∙ ap (λ (ts : List Token). Ok ts) (sym c.as_slice.ensures.value)) c.lines_of.result c.lines_of.ensures.found)
    (refused_lines c.args.bytes.now c.as_slice.result.now (c.in_ok-tokens.ensures.value ∙ ap
    (λ (ts : List Token). Ok ts) (sym c.as_slice.ensures.value)) c.lines_of.result c.lines_of.ensures.refused) all h

pub returns-clause-only_refused : goal.returns-clause-only_refused
returns-clause-only_refused c = λ p h.
    only_refused (λ v. v.items) c.args.bytes.now c.lines_of.result
    (found_lines (λ v. v.items) c.args.bytes.now c.as_slice.result.now (c.in_ok-tokens.ensures.value
    ∙ ap (λ (ts : List Token). Ok ts) (sym c.as_slice.ensures.value)) c.lines_of.result c.lines_of.ensures.found)
    (refused_lines c.args.bytes.now c.as_slice.result.now (c.in_ok-tokens.ensures.value ∙ ap
    (λ (ts : List Token). Ok ts) (sym c.as_slice.ensures.value)) c.lines_of.result c.lines_of.ensures.refused) p h
