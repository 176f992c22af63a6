-- What `lex` answers, from what reading gives.
use Rattle.std.proofs.Common.{◌≡◌, ◌⊎◌, ℕ, List, length, take, Result, Ok, Err, refl, sym, ap, subst, ◌∙◌, inl, inr, le_refl}
use Rattle.std.specs.Prelude.{MatchResult, IfOk, IfErr, IsUtf8}
use Rattle.std.specs.Str.{IsValidUpTo}
use Rattle.std.proofs.lemmas.Str.{utf8_valid_len-IsValidUpTo}
use Rattle.std.proofs.lemmas.List.{take_all}
use Rattle.sz_types.specs.declared.place.Place.{Place}
use Rattle.sz_lex.specs.declared.token.Token.{Token}
use Rattle.sz_lex.specs.declared.error.LexError.{LexError}
use Rattle.sz_lex.specs.declared.error.LexError.TheVariants as errors
use Rattle.sz_lex.specs.Tokens.{HasTokens, HasBadChar, HasBadLiteral, HasNotUtf8, IsRefused, later, first_place}
use Rattle.sz_lex.specs.Reading.{lexed, Gives}
use Rattle.sz_lex.proofs.WholeLemmas.{tokens_given, char_given, literal_given, given_tokens, given_char, given_literal}

-- ---- a text that is UTF-8

module _ {V : Type 0} (view : V → List Token) (text : List ℕ) where
  pub found_tokens : (r : Result V LexError) → IsUtf8 text → Gives view r (lexed 0 0 first_place text)
      → IfOk r (λ v. HasTokens text (view v))
  found_tokens (Ok v) utf8 h = record { utf8 = utf8; tokens = given_tokens text (view v) h }
  found_tokens (Err e) utf8 h = tt

  pub only_tokens : (r : Result V LexError) → Gives view r (lexed 0 0 first_place text) → (ts : List Token)
      → HasTokens text ts → MatchResult r (λ v. view v ≡ ts) (λ e. e ≡ errors.NoMemory)
  only_tokens (Ok v) h ts k = let both = sym h ∙ tokens_given text ts k.tokens in cc
  only_tokens (Err errors.NoMemory) h ts k = refl
  only_tokens (Err (errors.BadChar q)) h ts k = let both = sym h ∙ tokens_given text ts k.tokens in absurd cc
  only_tokens (Err (errors.BadLiteral q)) h ts k = let both = sym h ∙ tokens_given text ts k.tokens in absurd cc
  only_tokens (Err (errors.NotUtf8 q)) h ts k = absurd h

  pub refused : (r : Result V LexError) → IsUtf8 text → Gives view r (lexed 0 0 first_place text)
      → IfErr r (λ e. (e ≡ errors.NoMemory) ⊎ IsRefused text e)
  refused (Ok v) utf8 h = tt
  refused (Err errors.NoMemory) utf8 h = inl refl
  refused (Err (errors.BadChar q)) utf8 h = let r = given_char text q h in
      inr (record { utf8 = utf8; before = r.before; tokens = r.tokens })
  refused (Err (errors.BadLiteral q)) utf8 h = let r = given_literal text q h in
      inr (record { utf8 = utf8; before = r.before; tokens = r.tokens })
  refused (Err (errors.NotUtf8 q)) utf8 h = absurd h

  only_char : (r : Result V LexError) → Gives view r (lexed 0 0 first_place text) → (q : Place) → HasBadChar text q
      → MatchResult r (λ _. ⊥) (λ f. (f ≡ errors.NoMemory) ⊎ (f ≡ errors.BadChar q))
  only_char (Ok v) h q k = let both = sym h ∙ char_given text q k.before k.tokens in absurd cc
  only_char (Err errors.NoMemory) h q k = inl refl
  only_char (Err (errors.BadChar p)) h q k = let both = sym h ∙ char_given text q k.before k.tokens in inr cc
  only_char (Err (errors.BadLiteral p)) h q k = let both = sym h ∙ char_given text q k.before k.tokens in absurd cc
  only_char (Err (errors.NotUtf8 p)) h q k = absurd h

  only_literal : (r : Result V LexError) → Gives view r (lexed 0 0 first_place text) → (q : Place)
      → HasBadLiteral text q → MatchResult r (λ _. ⊥) (λ f. (f ≡ errors.NoMemory) ⊎ (f ≡ errors.BadLiteral q))
  only_literal (Ok v) h q k = let both = sym h ∙ literal_given text q k.before k.tokens in absurd cc
  only_literal (Err errors.NoMemory) h q k = inl refl
  only_literal (Err (errors.BadChar p)) h q k = let both = sym h ∙ literal_given text q k.before k.tokens in absurd cc
  only_literal (Err (errors.BadLiteral p)) h q k = let both = sym h ∙ literal_given text q k.before k.tokens in inr cc
  only_literal (Err (errors.NotUtf8 p)) h q k = absurd h

-- a text with a longest front that is UTF-8 isn't UTF-8 as a whole
pub not_whole : (text : List ℕ) (n : ℕ) → IsValidUpTo text n → IsUtf8 text → ⊥
not_whole text n h utf8 =
    h.longest (length text) h.short (subst IsUtf8 (sym (take_all (length text) text (le_refl (length text)))) utf8)

pub only_refused : {V : Type 0} (view : V → List Token) (text : List ℕ) (r : Result V LexError) → IsUtf8 text
    → Gives view r (lexed 0 0 first_place text)
    → (e : LexError) → IsRefused text e → MatchResult r (λ _. ⊥) (λ f. (f ≡ errors.NoMemory) ⊎ (f ≡ e))
only_refused view text r utf8 h (errors.BadChar q) k = only_char view text r h q k
only_refused view text r utf8 h (errors.BadLiteral q) k = only_literal view text r h q k
only_refused view text r utf8 h (errors.NotUtf8 q) k = absurd (not_whole text k.len k.front utf8)
only_refused view text r utf8 h errors.NoMemory k = absurd k

-- ---- a text that isn't

pub one_front : (text : List ℕ) (m n : ℕ) → IsValidUpTo text m → IsValidUpTo text n → m ≡ n
one_front text m n h k = sym (utf8_valid_len-IsValidUpTo text m h) ∙ utf8_valid_len-IsValidUpTo text n k

pub only_not_utf8 : (text : List ℕ) (p : Place) → HasNotUtf8 text p → (e : LexError) → IsRefused text e
    → (errors.NotUtf8 p ≡ errors.NoMemory) ⊎ (errors.NotUtf8 p ≡ e)
only_not_utf8 text p h (errors.BadChar q) k = absurd (not_whole text h.len h.front k.utf8)
only_not_utf8 text p h (errors.BadLiteral q) k = absurd (not_whole text h.len h.front k.utf8)
only_not_utf8 text p h (errors.NotUtf8 q) k = inr (ap (λ (x : Place). errors.NotUtf8 x) (h.place
    ∙ ap (λ (n : ℕ). later (take n text) first_place) (one_front text h.len k.len h.front k.front) ∙ sym k.place))
only_not_utf8 text p h errors.NoMemory k = absurd k
