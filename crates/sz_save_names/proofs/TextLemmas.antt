-- The tokens of a text: each name token is a name that a saved file can hold, and there are few of them.
use Rattle.std.proofs.Common.{◌≡◌, ℕ, zero, suc, ◌+◌, ◌-◌, ◌≤◌, ◌^◌, Bool, true, false, ◌&&◌, cond, nat_lt, List, [], ◌∷◌, length, take, drop, refl, ap, subst, arith, codes}
use Rattle.std.proofs.lemmas.Bool.{and_from, and_parts, ltb-true, lt-ltb}
use Rattle.std.proofs.lemmas.List.{length-take, length-drop}
use Rattle.sz_types.specs.declared.place.Place.{Place}
use Rattle.sz_lex.specs.declared.token.Token.{Token}
use Rattle.sz_lex.specs.declared.token.Kind.{Kind}
use Rattle.sz_lex.specs.declared.token.Kind.TheVariants as kinds
use Rattle.sz_lex.specs.Laws.{LieInOrder}
use Rattle.sz_lex.specs.Lexed.{lexeme_of}
use Rattle.sz_lex.specs.Tokens.{IsLexeme}
use Rattle.sz_lex.proofs.ItemLemmas.{no_empty}
use Rattle.sz_parse_expr.specs.Tokens.{Spelling, token}
use Rattle.sz_parse_expr.proofs.ExpressionAlike.{Agree}
use Rattle.sz_flat.specs.Spelling.{IsShort}
use Rattle.sz_save_format.specs.Decoding.{is_name}
use Rattle.sz_save_format.specs.Names.{HasName}
use Rattle.sz_save_format.proofs.NameLemmas.{name_told, name_tells}

-- whether the bytes are a name that a saved file can hold
abbrev is_held : List ℕ → Bool
is_held l = is_name l && nat_lt (length l) (2 ^ 32)

-- the bytes of a name, or another name where they are none
abbrev name_or : Bool → List ℕ → List ℕ
name_or held l = cond held l (codes "x")

-- the bytes of a token of a kind, where a name token is always one
abbrev as_kind : Kind → List ℕ → List ℕ
as_kind kinds.Name l = name_or (is_held l) l
as_kind _ l = l

-- the tokens of a text, spelled so
abbrev pub names_of : List ℕ → Spelling
names_of text t = as_kind t.kind (lexeme_of text t)

held : (l : List ℕ) → is_held l ≡ true → HasName l
held l h = let parts = and_parts (is_name l) (nat_lt (length l) (2 ^ 32)) h in
    record { short = ltb-true (length l) (2 ^ 32) parts.1; is = name_told l parts.0 }

some_name : HasName (codes "x")
unfolding is_name
some_name = record { short = omega arith; is = name_told (codes "x") refl }

name_held : (b : Bool) (l : List ℕ) → is_held l ≡ b → HasName (name_or b l)
name_held true l h = held l h
name_held false l h = some_name

-- each name token is spelled by a name
pub names_are : (text : List ℕ) (p : Place) (start len : ℕ) → HasName (names_of text (token kinds.Name p start len))
names_are text p start len =
    let l = lexeme_of text (token kinds.Name p start len) in name_held (is_held l) l refl

-- ---- the text's own spelling agrees with it

held_is : (b : Bool) (l : List ℕ) → b ≡ true → l ≡ name_or b l
held_is true l h = refl
held_is false l h = absurd (cc)

same_kind : (k : Kind) (l : List ℕ) → IsLexeme k l → IsShort (length l) → l ≡ as_kind k l
same_kind kinds.Name l h short = held_is (is_held l) l
    (and_from (is_name l) (nat_lt (length l) (2 ^ 32)) (name_tells l h) (lt-ltb (length l) (2 ^ 32) short))
same_kind _ l h short = refl

lexeme_short : (text : List ℕ) (t : Token) → length (lexeme_of text t) ≤ length text
lexeme_short text t = omega (arith, length-take t.len (drop t.start text), length-drop t.start text)

pub agrees : (text : List ℕ) (at : ℕ) (ts : List Token) → IsShort (length text) → LieInOrder text at ts
    → Agree (lexeme_of text) (names_of text) ts
agrees text at [] short h = tt
agrees text at (t ∷ ts) short h = (
  same_kind t.kind (lexeme_of text t) h.4 (omega (arith, short, lexeme_short text t)),
  agrees text (t.start + t.len) ts short h.5,
)

-- ---- a token takes a byte at least

takes_bytes : (text : List ℕ) (t : Token) (len : ℕ) → t.len ≡ len → IsLexeme t.kind (lexeme_of text t) → 1 ≤ t.len
takes_bytes text t zero is h =
    absurd (no_empty t.kind (subst (IsLexeme t.kind) (ap (λ n. take n (drop t.start text)) is) h))
takes_bytes text t (suc len) is h = omega (arith, is)

pub few_tokens : (text : List ℕ) (at : ℕ) (ts : List Token) → at ≤ length text → LieInOrder text at ts
    → length ts ≤ length text - at
few_tokens text at [] within h = omega arith
few_tokens text at (t ∷ ts) within h =
    let byte = takes_bytes text t t.len refl h.4 in
    let later = few_tokens text (t.start + t.len) ts h.1 h.5 in
    omega (arith, byte, later, h.0, h.1, within)
