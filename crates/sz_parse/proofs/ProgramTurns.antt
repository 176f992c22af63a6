-- The loop over a program's statements, turn by turn.
use Rattle.std.proofs.Common.{◌≡◌, ℕ, ◌≤◌, ◌<◌, List, [], ◌∷◌, ◌++◌, length, get_or, Some, None, max, refl, arith}
use Rattle.std.specs.Prelude.{All, IsUtf8}
use Rattle.std.proofs.lemmas.List.Elements.{All-head, All-tail}
use Rattle.sz_lex.specs.declared.token.Token.{Token}
use Rattle.sz_lex.specs.Tokens.{HasTokens}
use Rattle.sz_lex.specs.Lexed.{lexeme_of, Lexed}
use Rattle.sz_lex.proofs.Utf8Lemmas.{lexemes_are_utf8}
use Rattle.sz_tree.specs.Statements.{Stm, Stms, stms_of, stm_height, stm_heights}
use Rattle.sz_parse_expr.specs.Tokens.{Spelling}
use Rattle.sz_parse_expr.specs.declared.limit.TheConstants.{MAX_HEIGHT}
use Rattle.sz_parse.specs.Statements.{ReadsStm, ReadsStms}
use Rattle.sz_parse.specs.Program.{Spells, IsStuck}
use Rattle.sz_parse_expr.specs.Reading.{utf8_in}
use Rattle.sz_parse.specs.ReadingStatements.{stm_at}
use Rattle.sz_parse_expr.proofs.TokenLemmas.{utf8_in_is}
use Rattle.sz_parse_expr.proofs.ExpressionAlike.{Agree}
use Rattle.sz_parse.proofs.SimpleSound.{stm_shorter}
use Rattle.sz_parse.proofs.StatementSound.{stm_sound}
use Rattle.sz_parse.proofs.StatementComplete.{stm_complete}
use Rattle.sz_parse.proofs.Whole.{IsStop, most}

pub reads_push : (text : Spelling) (ss : List Stm) (s : Stm) (ts a b : List Token) → ReadsStms text (stms_of ss) ts a
    → ReadsStm text s a b → ReadsStms text (stms_of (ss ++ s ∷ [])) ts b
unfolding ReadsStm
reads_push text [] s ts a b rs r = (b, rw rs r, refl)
reads_push text (q ∷ ss) s ts a b rs r = (rs.0, rs.1, reads_push text ss s rs.0 a b rs.2 r)

pub heights_push : (ss : List Stm) (s : Stm)
    → stm_heights (stms_of (ss ++ s ∷ [])) ≡ max (stm_heights (stms_of ss)) (stm_height s)
unfolding stm_height
heights_push [] s = omega arith
heights_push (q ∷ ss) s = omega (arith, heights_push ss s)

-- one statement more
pub record Goes (text : Spelling) (ts stop after : List Token) (front : List Stm) : Type 0 where
  pub reads : ReadsStms text (stms_of front) ts after
  pub low : stm_heights (stms_of front) ≤ MAX_HEIGHT
  pub fewer : length after < length stop

pub goes : (text : Spelling) (ts stop after : List Token) (front : List Stm) (s : Stm)
    → ReadsStms text (stms_of front) ts stop → stm_heights (stms_of front) ≤ MAX_HEIGHT
    → stm_at text MAX_HEIGHT stop ≡ Some (s, after) → Goes text ts stop after (front ++ s ∷ [])
goes text ts stop after front s reads low h =
    let g = (stm_sound text MAX_HEIGHT stop).holds (s, after) h in
    record {
      reads = reads_push text front s ts stop after reads g.0;
      low = omega
          (arith, heights_push front s, g.1);
      fewer = stm_shorter text s stop after g.0;
    }

-- where reading gives nothing, the tokens are stuck
pub stuck_here : (tokens : Lexed) (front : Stms) (here : Token) (rest : List Token)
    → ReadsStms (lexeme_of tokens.text) front tokens.tokens (here ∷ rest)
    → stm_heights front ≤ MAX_HEIGHT → stm_at (lexeme_of tokens.text) MAX_HEIGHT (here ∷ rest) ≡ None
    → IsStuck tokens here.place
stuck_here tokens front here rest reads low none = record {
  front = front;
  here = here;
  rest = rest;
  reads = reads;
  low = low;
  place = refl;
  none = begins;
  longest = λ ss after rs lows.
      (most (lexeme_of tokens.text) front ss tokens.tokens (here ∷ rest) after reads low begins rs lows).0;
}
  where
    begins : IsStop (lexeme_of tokens.text) (here ∷ rest)
    begins s after r l = let e = stm_complete (lexeme_of tokens.text) MAX_HEIGHT s (here ∷ rest) after r l in cc

pub stuck_at : (tokens : Lexed) (front : Stms) (stop : List Token) (d : Token) → 0 < length stop
    → ReadsStms (lexeme_of tokens.text) front tokens.tokens stop → stm_heights front ≤ MAX_HEIGHT
    → stm_at (lexeme_of tokens.text) MAX_HEIGHT stop ≡ None → IsStuck tokens (get_or stop 0 d).place
stuck_at tokens front [] d some reads low none = absurd (omega arith)
stuck_at tokens front (here ∷ rest) d some reads low none = stuck_here tokens front here rest reads low none

pub spelled_all : (tokens : Lexed) (ss : Stms) (rest : List Token)
    → ReadsStms (lexeme_of tokens.text) ss tokens.tokens rest → stm_heights ss ≤ MAX_HEIGHT
    → length rest < 1 → Spells tokens ss
spelled_all tokens ss [] reads low none = record { reads = reads; low = low }
spelled_all tokens ss (t ∷ rest) reads low none = absurd (omega arith)

-- the text's own tokens have the same bytes as in the text
agree_all : (text : List ℕ) (ts : List Token) → All (λ t. IsUtf8 (lexeme_of text t)) ts
    → Agree (utf8_in text) (lexeme_of text) ts
agree_all text [] h = tt
agree_all text (t ∷ ts) h = (
  utf8_in_is text t (All-head (λ (u : Token). IsUtf8 (lexeme_of text u)) t ts h),
  agree_all text ts (All-tail (λ (u : Token). IsUtf8 (lexeme_of text u)) t ts h),
)

pub tokens_agree : (text : List ℕ) (ts : List Token) → HasTokens text ts → Agree (utf8_in text) (lexeme_of text) ts
tokens_agree text ts h = agree_all text ts (lexemes_are_utf8 text ts h)
