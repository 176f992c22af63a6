-- What a list of tokens spells, and where it stops to spell anything.
use Rattle.std.specs.Prelude.{◌≡◌, ℕ, ◌+◌, ◌≤◌, ◌⊎◌, List, [], ◌∷◌}
use Rattle.sz_types.specs.declared.place.Place.{Place}
use Rattle.sz_lex.specs.declared.token.Token.{Token}
use Rattle.sz_lex.specs.Lexed.{lexeme_of, Lexed}
use Rattle.sz_tree.specs.Statements.{Stm, Stms, no_stms, stm, stm_height, stm_heights}
use Rattle.sz_parse.specs.Statements.{ReadsStm, ReadsStms}

-- how high a statement may be: a part is one lower than the whole, and what has no parts has height 1
abbrev pub greatest_height : ℕ
greatest_height = 256

-- the tokens are these statements, one after the other, none of them too high
pub record Spells (tokens : Lexed) (ss : Stms) : Type 0 where
  pub reads : ReadsStms (lexeme_of tokens.text) ss tokens.tokens []
  pub low : stm_heights ss ≤ greatest_height

-- how many statements there are
abbrev pub count_of : Stms → ℕ
count_of no_stms = 0
count_of (stm s ss) = 1 + count_of ss

-- whole statements stand at the front, no list of them is longer, and the token after them is at this place
pub record IsStuck (tokens : Lexed) (p : Place) : Type 0 where
  pub front : Stms
  pub here : Token
  pub rest : List Token
  pub reads : ReadsStms (lexeme_of tokens.text) front tokens.tokens (here ∷ rest)
  pub low : stm_heights front ≤ greatest_height
  pub place : here.place ≡ p
  pub none : (s : Stm) (after : List Token) → ReadsStm (lexeme_of tokens.text) s (here ∷ rest) after
      → stm_height s ≤ greatest_height → ⊥
  pub longest : (ss : Stms) (after : List Token) → ReadsStms (lexeme_of tokens.text) ss tokens.tokens after
      → stm_heights ss ≤ greatest_height → count_of ss ≤ count_of front

-- a list of tokens spells one tree at most
abbrev pub SpellsOneTree : Type 0
SpellsOneTree = (tokens : Lexed) (ss qs : Stms) → Spells tokens ss → Spells tokens qs → ss ≡ qs

-- tokens that spell a tree are stuck nowhere
abbrev pub IsNotStuck : Type 0
IsNotStuck = (tokens : Lexed) (ss : Stms) (p : Place) → Spells tokens ss → IsStuck tokens p → ⊥

-- tokens are stuck at one place at most
abbrev pub IsStuckOnce : Type 0
IsStuckOnce = (tokens : Lexed) (p q : Place) → IsStuck tokens p → IsStuck tokens q → p ≡ q

-- each list of tokens spells a tree, or is stuck somewhere
abbrev pub EveryListIsRead : Type 0
EveryListIsRead = (tokens : Lexed) → ((ss : Stms) × Spells tokens ss) ⊎ ((p : Place) × IsStuck tokens p)
