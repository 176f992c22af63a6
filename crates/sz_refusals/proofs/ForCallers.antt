-- How a text is judged step by step: its tokens, its tree, and what the tree stands for.
use Rattle.std.proofs.Common.{◌≡◌, ℕ, List, Option, sym, ap, ◌∙◌, subst}
use Rattle.std.specs.Prelude.{Err}
use Rattle.sz_types.specs.declared.place.Place.{Place}
use Rattle.sz_lex.specs.Tokens.{HasTokens}
use Rattle.sz_lex.specs.Lexed.{Lexed}
use Rattle.sz_tree.specs.Statements.{Stms}
use Rattle.sz_parse.specs.Program.{Spells, IsStuck}
use Rattle.sz_core.specs.Programs.{Core}
use Rattle.sz_check_rules.specs.declared.cause.Cause.{Cause}
use Rattle.sz_check_rules.specs.Causes.{number_of, IsNumber}
use Rattle.sz_check_rules.specs.Refusals.{Judged}
use Rattle.sz_refusals.specs.Refusing.{judged_so}
use Rattle.sz_refusals.specs.Texts.{HasStuckTokens, HasStatements}

-- tokens that are stuck are those of the text
pub has_stuck_tokens : (text : List ℕ) (tokens : Lexed) (q : Place) → HasTokens text tokens.tokens
    → tokens.text ≡ text → IsStuck tokens q → HasStuckTokens text q
has_stuck_tokens text tokens q has is h = record {
  tokens = tokens.tokens;
  has = has;
  stuck = subst (λ t. IsStuck (record { text = t; tokens = tokens.tokens }) q) is h;
}

-- tokens that spell statements are those of the text
pub has_statements : (text : List ℕ) (tokens : Lexed) (ss : Stms) → HasTokens text tokens.tokens → tokens.text ≡ text
    → Spells tokens ss → HasStatements text ss
has_statements text tokens ss has is h = record {
  tokens = tokens.tokens;
  has = has;
  spells = subst (λ t. Spells (record { text = t; tokens = tokens.tokens }) ss) is h;
}

-- what is judged is refused, for the cause that has the number
abbrev pub IsRefusedAs : ℕ → Place → Option (List ℕ) → Judged Core → Type 0
IsRefusedAs number p name judged =
    (cause : Cause) × (number ≡ number_of cause) × (judged ≡ Err (record { cause = cause; place = p; name = name }))

-- a tree that is refused has the number of a cause, and is refused for it
pub is_number : (number : ℕ) (p : Place) (name : Option (List ℕ)) (judged : Judged Core)
    → IsRefusedAs number p name judged → IsNumber number
is_number number p name judged h = (h.0, h.1)

pub refused_tree : (number : ℕ) (p : Place) (name : Option (List ℕ)) (judged : Judged Core) (cause : Cause)
    → IsRefusedAs number p name judged → ((c : Cause) → number ≡ number_of c → cause ≡ c)
    → judged_so judged ≡ Err (record { cause = cause; place = p; name = name })
refused_tree number p name judged cause h only =
    ap judged_so h.2 ∙ ap (λ (c : Cause). Err (record { cause = c; place = p; name = name })) (sym (only h.0 h.1))
