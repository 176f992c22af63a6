-- Single tokens at the front of a list, and items one after the other.
use Rattle.std.specs.Prelude.{◌≡◌, ℕ, List, [], ◌∷◌, true, false}
use Rattle.sz_types.specs.declared.place.Place.{Place}
use Rattle.sz_lex.specs.declared.token.Token.{Token}
use Rattle.sz_lex.specs.declared.token.Kind.{Kind}
use Rattle.sz_lex.specs.declared.token.Kind.TheVariants as kinds
use Rattle.sz_lex.specs.declared.sign.Sign.{Sign}
use Rattle.sz_lex.specs.declared.word.Word.{Word}
use Rattle.sz_lex.specs.declared.word.Word.TheVariants as words
use Rattle.sz_lex.specs.declared.escape.Quoted.TheVariants as quoteds
use Rattle.sz_lex.specs.Literals.{IsQuoted}
use Rattle.sz_tree.specs.Names.{Ident}
use Rattle.sz_tree.specs.Expressions.{Lit, number, string, bytes, character, boolean}

-- the bytes with which a token is written
abbrev pub Spelling : Type 0
Spelling = Token → List ℕ

-- a token by its parts
abbrev pub token : Kind → Place → ℕ → ℕ → Token
token k p s n = record { kind = k; place = p; start = s; len = n }

-- ts is a token of this kind at this place, and then rest
pub record At (p : Place) (k : Kind) (ts rest : List Token) : Type 0 where
  pub start : ℕ
  pub len : ℕ
  pub is : ts ≡ token k p start len ∷ rest

-- ts is a token of this kind, somewhere, and then rest
pub record Is (k : Kind) (ts rest : List Token) : Type 0 where
  pub place : Place
  pub start : ℕ
  pub len : ℕ
  pub is : ts ≡ token k place start len ∷ rest

-- the same of a sign, and of a reserved word
abbrev pub IsSign : Sign → List Token → List Token → Type 0
IsSign s ts rest = Is (kinds.Sign s) ts rest

abbrev pub IsWord : Word → List Token → List Token → Type 0
IsWord w ts rest = Is (kinds.Word w) ts rest

-- ts is this name, written so, and then rest
pub record AtName (text : Spelling) (n : Ident) (ts rest : List Token) : Type 0 where
  pub start : ℕ
  pub len : ℕ
  pub is : ts ≡ token kinds.Name n.place start len ∷ rest
  pub spelled : n.text ≡ text (token kinds.Name n.place start len)

-- the token stands for this literal
abbrev pub IsLiteral : Spelling → Lit → Token → Type 0
IsLiteral text (number n) t = t.kind ≡ kinds.Number n
IsLiteral text (string v) t = (t.kind ≡ kinds.Str) × IsQuoted quoteds.Str (text t) v
IsLiteral text (bytes v) t = (t.kind ≡ kinds.Bytes) × IsQuoted quoteds.Bytes (text t) v
IsLiteral text (character c) t = t.kind ≡ kinds.Character c
IsLiteral text (boolean true) t = t.kind ≡ kinds.Word words.True
IsLiteral text (boolean false) t = t.kind ≡ kinds.Word words.False

-- ts is a token at this place that stands for this literal, and then rest
pub record AtLiteral (text : Spelling) (p : Place) (l : Lit) (ts rest : List Token) : Type 0 where
  pub here : Token
  pub place : here.place ≡ p
  pub means : IsLiteral text l here
  pub is : ts ≡ here ∷ rest

-- ts begins with the tokens of these items, one after the other, and rest follows
unfoldable pub Many : {A : Type 0} → (A → List Token → List Token → Type 0) → List A → List Token → List Token → Type 0
Many R [] ts rest = ts ≡ rest
Many R (x ∷ xs) ts rest = (a : List Token) × R x ts a × Many R xs a rest
