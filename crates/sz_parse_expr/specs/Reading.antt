-- Reading from left to right: what stands at the front of the tokens, and what is left.
use Rattle.std.specs.Prelude.{ℕ, zero, suc, List, [], ◌∷◌, ◌++◌, length, take, drop, Option, Some, None, Bool, true, false, if◌then◌else◌}
use Rattle.std.specs.Str.{bytes_eq, is_utf8}
use denote.Enum.Bare.{sameb}
use Rattle.sz_lex.specs.declared.token.Token.{Token}
use Rattle.sz_lex.specs.declared.token.Kind.{Kind}
use Rattle.sz_lex.specs.declared.token.Kind.TheVariants as kinds
use Rattle.sz_lex.specs.declared.sign.Sign.{Sign}
use Rattle.sz_lex.specs.declared.word.Word.{Word}
use Rattle.sz_lex.specs.declared.escape.Quoted.{Quoted}
use Rattle.sz_lex.specs.contracts.sign.Sign.{the_type as sign_type}
use Rattle.sz_lex.specs.contracts.word.Word.{the_type as word_type}
use Rattle.sz_lex.specs.Literals.{opening}
use Rattle.sz_lex.specs.Lexed.{lexeme_of}
use Rattle.sz_lex.specs.Reading.{body_at, whole_value}
use Rattle.sz_tree.specs.Names.{Ident}
use Rattle.sz_parse_expr.specs.Tokens.{Spelling}

-- what was read, and what is left
abbrev pub Read : Type 0 → Type 0
Read A = Option (A × List Token)

-- what is read next, unless nothing was read
unfoldable pub bind : {A B : Type 0} → Option A → (A → Option B) → Option B
bind (Some x) f = f x
bind None f = None

infixl 10 ◌>>=◌
-- the same between its arguments
abbrev pub ◌>>=◌ : {A B : Type 0} → Option A → (A → Option B) → Option B
o >>= f = bind o f

-- the second where there is nothing
unfoldable pub choose : {A B : Type 0} → Option A → B → (A → B) → B
choose (Some x) y f = f x
choose None y f = y

-- nothing, unless the test holds
unfoldable pub guard : {A : Type 0} → Bool → Option A → Option A
guard true o = o
guard false o = None

-- what follows the token, if it is this sign
abbrev pub sign_here : Sign → Kind → List Token → Option (List Token)
sign_here s (kinds.Sign r) ts = if sameb sign_type r s then Some ts else None
sign_here s _ ts = None

-- what follows the sign
unfoldable pub after_sign : Sign → List Token → Option (List Token)
after_sign s [] = None
after_sign s (t ∷ ts) = sign_here s t.kind ts

-- the same of a reserved word
abbrev pub word_here : Word → Kind → List Token → Option (List Token)
word_here w (kinds.Word v) ts = if sameb word_type v w then Some ts else None
word_here w _ ts = None

-- what stands after the reserved word, if it stands first
unfoldable pub after_word : Word → List Token → Option (List Token)
after_word w [] = None
after_word w (t ∷ ts) = word_here w t.kind ts

-- the bytes of the text in a token's span, if they are UTF-8, as those of the text's own tokens are, or else none
unfoldable pub utf8_in : List ℕ → Spelling
utf8_in text t = if is_utf8 (lexeme_of text t) then lexeme_of text t else []

-- the name that the token is
abbrev pub ident_of : Spelling → Token → Ident
ident_of text t = record { place = t.place; text = text t }

-- the name that a token of this kind is, and what stands after it
abbrev pub name_here : Spelling → Token → Kind → List Token → Read Ident
name_here text t kinds.Name ts = Some (ident_of text t, ts)
name_here text t _ ts = None

-- a name
unfoldable pub name_at : Spelling → List Token → Read Ident
name_at text [] = None
name_at text (t ∷ ts) = name_here text t t.kind ts

-- the bytes that a string or bytes literal stands for
unfoldable pub decoded : Quoted → List ℕ → Option (List ℕ)
decoded q l =
    if bytes_eq (take (length (opening q)) l) (opening q)
    then whole_value (length (drop (length (opening q)) l)) (body_at q 0 (drop (length (opening q)) l)) else None

-- items one after the other, in so many turns at most; step gives nothing where no further item begins,
-- and else what reading it gives
unfoldable pub many_at : {A : Type 0} → (List Token → Option (Read A)) → ℕ → List Token → Read (List A)
many_at step zero ts = Some ([], ts)
many_at step (suc k) ts =
    choose (step ts) (Some ([], ts)) (λ r. r >>= λ x. many_at step k x.1 >>= λ y. Some (x.0 ∷ y.0, y.1))

-- as many items as there are: each takes a token at least
unfoldable pub all_at : {A : Type 0} → (List Token → Option (Read A)) → List Token → Read (List A)
all_at step ts = many_at step (length ts) ts

-- the items read before, and those still to be read
unfoldable pub with_items : {A : Type 0} → List A → Read (List A) → Read (List A)
with_items front read = read >>= λ y. Some (front ++ y.0, y.1)
