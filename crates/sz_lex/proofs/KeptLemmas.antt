-- A `Tokens` keeps that there is a proof that its tokens are those of its text. What reading the text gives is such a
-- proof.
use Rattle.std.proofs.Common.{◌≡◌, ℕ, List, Ok}
use Rattle.std.proofs.Math.Logic.{∥∥₁_elim, ∥∥₁_map}
use Rattle.std.proofs.lemmas.Str.{IsUtf8-had}
use Rattle.std.specs.Coded.{Coded-set, coded_list, coded_result}
use Rattle.sz_lex.specs.declared.token.Token.{Token}
use Rattle.sz_lex.specs.contracts.token.Token as token
use Rattle.sz_lex.specs.contracts.error.LexError as error
use Rattle.sz_lex.specs.Tokens.{HasTokens, first_place}
use Rattle.sz_lex.specs.Reading.{lexed}
use Rattle.sz_lex.proofs.WholeLemmas.{tokens_given, given_tokens}

-- what reading gives has one proof at most
lexed_prop : (text : List ℕ) (ts : List Token) → IsProp (lexed 0 0 first_place text ≡ Ok ts)
lexed_prop text ts =
    Coded-set (coded_result (coded_list token.the_row.coded) error.the_row.coded) (lexed 0 0 first_place text) (Ok ts)

-- the tokens that are kept are those of the text
pub kept : (text : List ℕ) (ts : List Token) → ∥ HasTokens text ts ∥₁ → HasTokens text ts
kept text ts h = record {
  utf8 = IsUtf8-had text (∥∥₁_map h (λ k. k.utf8));
  tokens = given_tokens text ts (∥∥₁_elim h (lexed_prop text ts) (λ k. tokens_given text ts k.tokens));
}
