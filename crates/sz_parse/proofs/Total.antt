-- Each list of tokens is read to its end, or to the place where it is stuck.
use Rattle.std.proofs.Common.{◌≡◌, ◌⊎◌, inl, inr, ℕ, zero, suc, ◌≤◌, ◌<◌, List, [], ◌∷◌, ◌++◌, length, Option, Some, None, refl, arith}
use Rattle.sz_types.specs.declared.place.Place.{Place}
use Rattle.sz_lex.specs.declared.token.Token.{Token}
use Rattle.sz_lex.specs.Lexed.{lexeme_of, Lexed}
use Rattle.sz_tree.specs.Statements.{Stm, Stms, stms_of, stm_height, stm_heights}
use Rattle.sz_parse_expr.specs.declared.limit.TheConstants.{MAX_HEIGHT}
use Rattle.sz_parse.specs.Statements.{ReadsStm, ReadsStms}
use Rattle.sz_parse.specs.Program.{Spells, IsStuck, EveryListIsRead}
use Rattle.sz_parse.specs.ReadingStatements.{stm_at}
use Rattle.sz_parse.proofs.ProgramTurns.{goes, stuck_here}

-- a tree or a place
abbrev IsRead : Lexed → Type 0
IsRead tokens = ((ss : Stms) × Spells tokens ss) ⊎ ((p : Place) × IsStuck tokens p)

module _ (tokens : Lexed) where
  abbrev Front : List Stm → List Token → Type 0
  Front front rest = ReadsStms (lexeme_of tokens.text) (stms_of front) tokens.tokens rest
      × (stm_heights (stms_of front) ≤ MAX_HEIGHT)

  -- where a statement begins, what it leaves is read on; where none begins, the tokens are stuck
  turn : (n : ℕ) (front : List Stm) (t : Token) (ts : List Token) → length ts < n → Front front (t ∷ ts)
      → ((more : List Stm) (after : List Token) → length after < n → Front more after → IsRead tokens)
      → (read : Option (Stm × List Token)) → stm_at (lexeme_of tokens.text) MAX_HEIGHT (t ∷ ts) ≡ read → IsRead tokens
  turn n front t ts less f on None e = inr (t.place, stuck_here tokens (stms_of front) t ts f.0 f.1 e)
  turn n front t ts less f on (Some x) e =
      let g = goes (lexeme_of tokens.text) tokens.tokens (t ∷ ts) x.1 front x.0 f.0 f.1 e in
      on (front ++ x.0 ∷ []) x.1 (omega (arith, g.fewer)) (g.reads, g.low)

  -- after the statements read so far, the rest is read too
  read_on : (n : ℕ) (front : List Stm) (rest : List Token) → length rest < n → Front front rest → IsRead tokens
  read_on zero front rest less f = absurd (omega arith)
  read_on (suc n) front [] less f = inl (stms_of front, record { reads = f.0; low = f.1 })
  read_on (suc n) front (t ∷ ts) less f =
      turn n front t ts (omega arith) f (read_on n) (stm_at (lexeme_of tokens.text) MAX_HEIGHT (t ∷ ts)) refl

pub every_list_is_read : EveryListIsRead
unfolding ReadsStm stm_height
every_list_is_read tokens =
    read_on tokens (suc (length tokens.tokens)) [] tokens.tokens (omega arith) (refl, omega arith)
