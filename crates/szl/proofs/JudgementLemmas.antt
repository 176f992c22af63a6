-- A text has just one reading: it is read in one way, and that decides.
use Rattle.std.proofs.Common.{◌≡◌, ◌⊎◌, inl, inr, ℕ, ◌<◌, ◌≤◌, List, length, Bool, true, false, refl, sym, ap, ◌∙◌, subst, arith}
use Rattle.std.specs.Prelude.{nat_lt}
use Rattle.std.proofs.lemmas.Bool.Decides.{nat_tests}
use Rattle.sz_types.specs.declared.place.Place.{Place}
use Rattle.sz_lex.specs.declared.token.Token.{Token}
use Rattle.sz_lex.specs.declared.error.LexError.{LexError}
use Rattle.sz_lex.specs.declared.error.LexError.TheVariants as lexing
use Rattle.sz_lex.specs.Tokens.{HasTokens, IsRefused, first_place}
use Rattle.sz_lex.specs.Lexed.{Lexed}
use Rattle.sz_lex.proofs.TotalLemmas.{every_text_is_read as every_text_has_tokens}
use Rattle.sz_lex.proofs.LawLemmas.{one_list, no_refusal, one_refusal}
use Rattle.sz_tree.specs.Statements.{Stms}
use Rattle.sz_parse.specs.Program.{Spells, IsStuck}
use Rattle.sz_parse.proofs.ForCallers.{one_tree, one_place, not_both, every_list_is_read}
use Rattle.sz_check_rules.specs.declared.cause.Cause.{Cause}
use Rattle.sz_check_rules.specs.declared.cause.Cause.TheVariants.{TooLong, NotUtf8, BadChar, BadLiteral, Syntax}
use Rattle.sz_refusals.specs.Refusing.{refusal_at}
use Rattle.sz_refusals.specs.Texts.{IsUnreadable, IsShort, HasStuckTokens, HasStatements, most_program_bytes}
use Rattle.szl.specs.Judgement.{Reading, refused, spells, IsRead, HasReading}

-- how a text is read: it is too long, it has no tokens, its tokens are stuck, or they spell statements
data Way : Type 0 where
  long : Way
  unread : LexError → Way
  stuck : Place → Way
  spelled : Stms → Way

abbrev IsReadSo : List ℕ → Way → Type 0
IsReadSo text long = most_program_bytes < length text
IsReadSo text (unread e) = IsShort text × IsRefused text e
IsReadSo text (stuck p) = IsShort text × HasStuckTokens text p
IsReadSo text (spelled ss) = IsShort text × HasStatements text ss

-- the two lists of tokens are one
same_tokens : (text : List ℕ) (P : Lexed → Type 0) (ts us : List Token) → HasTokens text ts → HasTokens text us
    → P (record { text = text; tokens = us }) → P (record { text = text; tokens = ts })
same_tokens text P ts us has other h = subst (λ x. P (record { text = text; tokens = x })) (one_list text us ts other has) h

both_stuck : (text : List ℕ) (p q : Place) → HasStuckTokens text p → HasStuckTokens text q → p ≡ q
both_stuck text p q a b = one_place _ p q a.stuck (same_tokens text (λ t. IsStuck t q) a.tokens b.tokens a.has b.has b.stuck)

both_spelled : (text : List ℕ) (ss qs : Stms) → HasStatements text ss → HasStatements text qs → ss ≡ qs
both_spelled text ss qs a b = one_tree _ ss qs a.spells (same_tokens text (λ t. Spells t qs) a.tokens b.tokens a.has b.has b.spells)

apart : (text : List ℕ) (ss : Stms) (p : Place) → HasStatements text ss → HasStuckTokens text p → ⊥
apart text ss p a b = not_both _ ss p a.spells (same_tokens text (λ t. IsStuck t p) a.tokens b.tokens a.has b.has b.stuck)

one_way : (text : List ℕ) (a b : Way) → IsReadSo text a → IsReadSo text b → a ≡ b
one_way text long long h k = refl
one_way text long (unread e) h k = absurd (omega (arith, h, k.0))
one_way text long (stuck p) h k = absurd (omega (arith, h, k.0))
one_way text long (spelled ss) h k = absurd (omega (arith, h, k.0))
one_way text (unread e) long h k = absurd (omega (arith, k, h.0))
one_way text (unread e) (unread f) h k = ap unread (one_refusal text e f h.1 k.1)
one_way text (unread e) (stuck p) h k = absurd (no_refusal text k.1.tokens e k.1.has h.1)
one_way text (unread e) (spelled ss) h k = absurd (no_refusal text k.1.tokens e k.1.has h.1)
one_way text (stuck p) long h k = absurd (omega (arith, k, h.0))
one_way text (stuck p) (unread e) h k = absurd (no_refusal text h.1.tokens e h.1.has k.1)
one_way text (stuck p) (stuck q) h k = ap stuck (both_stuck text p q h.1 k.1)
one_way text (stuck p) (spelled ss) h k = absurd (apart text ss p k.1 h.1)
one_way text (spelled ss) long h k = absurd (omega (arith, k, h.0))
one_way text (spelled ss) (unread e) h k = absurd (no_refusal text h.1.tokens e h.1.has k.1)
one_way text (spelled ss) (stuck p) h k = absurd (apart text ss p h.1 k.1)
one_way text (spelled ss) (spelled qs) h k = ap spelled (both_spelled text ss qs h.1 k.1)

-- the reading of a text that is read so
abbrev reading_of : Way → Reading
reading_of long = refused (refusal_at TooLong first_place)
reading_of (unread (lexing.BadChar q)) = refused (refusal_at BadChar q)
reading_of (unread (lexing.BadLiteral q)) = refused (refusal_at BadLiteral q)
reading_of (unread (lexing.NotUtf8 q)) = refused (refusal_at NotUtf8 q)
reading_of (unread lexing.NoMemory) = refused (refusal_at TooLong first_place)
reading_of (stuck q) = refused (refusal_at Syntax q)
reading_of (spelled ss) = spells ss

-- a way that leads to the reading
record LeadsTo (text : List ℕ) (reading : Reading) : Type 0 where
  way : Way
  read : IsReadSo text way
  decides : reading ≡ reading_of way

leads_to_cause : (text : List ℕ) (c : Cause) (q : Place) → IsUnreadable text c q → LeadsTo text (refused (refusal_at c q))
leads_to_cause text TooLong q h = record { way = long; read = h.0; decides = ap (λ p. refused (refusal_at TooLong p)) h.1 }
leads_to_cause text NotUtf8 q h = record { way = unread (lexing.NotUtf8 q); read = h; decides = refl }
leads_to_cause text BadChar q h = record { way = unread (lexing.BadChar q); read = h; decides = refl }
leads_to_cause text BadLiteral q h = record { way = unread (lexing.BadLiteral q); read = h; decides = refl }
leads_to_cause text Syntax q h = record { way = stuck q; read = h; decides = refl }
leads_to_cause text _ q h = absurd h

leads_to : (text : List ℕ) (reading : Reading) → IsRead text reading → LeadsTo text reading
leads_to text (refused r) h =
    subst (λ n. LeadsTo text (refused (record { cause = r.cause; place = r.place; name = n }))) (sym h.1)
    (leads_to_cause text r.cause r.place h.0)
leads_to text (spells ss) h = record { way = spelled ss; read = h; decides = refl }

pub one_reading : (text : List ℕ) (a b : Reading) → IsRead text a → IsRead text b → a ≡ b
one_reading text a b h k =
    let x = leads_to text a h in
    let y = leads_to text b k in
    x.decides ∙ ap reading_of (one_way text x.way y.way x.read y.read) ∙ sym y.decides

-- a text without tokens has a reading
reading_unread : (text : List ℕ) (e : LexError) → IsShort text → IsRefused text e → HasReading text
reading_unread text (lexing.BadChar q) short h = record { reading = refused (refusal_at BadChar q); read = ((short, h), refl) }
reading_unread text (lexing.BadLiteral q) short h = record { reading = refused (refusal_at BadLiteral q); read = ((short, h), refl) }
reading_unread text (lexing.NotUtf8 q) short h = record { reading = refused (refusal_at NotUtf8 q); read = ((short, h), refl) }
reading_unread text lexing.NoMemory short h = absurd h

reading_tokens : (text : List ℕ) (ts : List Token) → IsShort text → HasTokens text ts
    → ((ss : Stms) × Spells (record { text = text; tokens = ts }) ss) ⊎ ((p : Place) × IsStuck (record { text = text; tokens = ts }) p) → HasReading text
reading_tokens text ts short has (inl x) =
    record { reading = spells x.0; read = (short, record { tokens = ts; has = has; spells = x.1 }) }
reading_tokens text ts short has (inr x) =
    record { reading = refused (refusal_at Syntax x.0); read = ((short, record { tokens = ts; has = has; stuck = x.1 }), refl) }

reading_short : (text : List ℕ) → IsShort text → ((ts : List Token) × HasTokens text ts) ⊎ ((e : LexError) × IsRefused text e) → HasReading text
reading_short text short (inl x) = reading_tokens text x.0 short x.1 (every_list_is_read (record { text = text; tokens = x.0 }))
reading_short text short (inr x) = reading_unread text x.0 short x.1

pub every_text_is_read : (text : List ℕ) → HasReading text
every_text_is_read text = by_test (nat_lt most_program_bytes (length text)) refl
  where
    is_long : (n : ℕ) → nat_lt most_program_bytes n ≡ true → most_program_bytes < n
    is_long n e = grind (arith, nat_tests)

    is_short : (n : ℕ) → nat_lt most_program_bytes n ≡ false → n ≤ most_program_bytes
    is_short n e = grind (arith, nat_tests)

    by_test : (b : Bool) → nat_lt most_program_bytes (length text) ≡ b → HasReading text
    by_test true e = record { reading = refused (refusal_at TooLong first_place); read = ((is_long (length text) e, refl), refl) }
    by_test false e = reading_short text (is_short (length text) e) (every_text_has_tokens text)
