use Rattle.std.proofs.Common.{ℕ, take, ap, ◌∙◌}
use Rattle.sz_lex.specs.Tokens.{later, first_place}
use Rattle.sz_lex.specs.Lexed.{Lexed}
use Rattle.sz_lex.proofs.AnswerLemmas.{found_tokens, only_tokens, refused, only_refused, only_not_utf8}
use Rattle.sz_lex.proofs.scan.lex.Goals as goal

pub returns-in-Ok-clause-found : goal.returns-in-Ok-clause-found
returns-in-Ok-clause-found c =
    found_tokens (λ (t : Lexed). t.tokens) c.args.text.now c.tokens_of.result c.in-Ok.ensures.cases.1
    c.tokens_of.ensures.read

pub returns-in-Ok-clause-only_found : goal.returns-in-Ok-clause-only_found
returns-in-Ok-clause-only_found c =
    only_tokens (λ (t : Lexed). t.tokens) c.args.text.now c.tokens_of.result c.tokens_of.ensures.read

pub returns-in-Ok-clause-refused : goal.returns-in-Ok-clause-refused
returns-in-Ok-clause-refused c = refused (λ (t : Lexed). t.tokens)
    c.args.text.now c.tokens_of.result c.in-Ok.ensures.cases.1 c.tokens_of.ensures.read

pub returns-in-Ok-clause-only_refused : goal.returns-in-Ok-clause-only_refused
returns-in-Ok-clause-only_refused c = only_refused (λ (t : Lexed). t.tokens) c.args.text.now c.tokens_of.result
    c.in-Ok.ensures.cases.1 c.tokens_of.ensures.read

pub returns-in-Err-clause-only_refused : goal.returns-in-Err-clause-only_refused
returns-in-Err-clause-only_refused c = only_not_utf8 c.args.text.now c.place_after.result (record {
  len = _;
  front =
      c.in-Err.ensures.cases.1;
  place = c.place_after.ensures ∙ ap (λ (n : ℕ). later (take n c.args.text.now) first_place) c.valid_up_to.ensures;
})
