-- What reading the text of a program gives: its statements, or a refusal with its cause and its place.
use Rattle.std.specs.Prelude.{◌≡◌, ℕ, List, None}
use Rattle.sz_tree.specs.Statements.{Stms}
use Rattle.sz_refusals.specs.declared.refusal.Refusal.{Refusal}
use Rattle.sz_refusals.specs.Texts.{IsShort, HasStatements, IsUnreadable}

-- what reading a text gives: a refusal, or the statements that it spells
pub data Reading : Type 0 where
  refused : Refusal → Reading
  spells : Stms → Reading

-- reading the text gives this, by what it is alone
abbrev pub IsRead : List ℕ → Reading → Type 0
IsRead text (refused r) = IsUnreadable text r.cause r.place × (r.name ≡ None)
IsRead text (spells statements) = IsShort text × HasStatements text statements

-- the text has a reading
pub record HasReading (text : List ℕ) : Type 0 where
  pub reading : Reading
  pub read : IsRead text reading

-- each text has a reading
abbrev pub EveryTextIsRead : Type 0
EveryTextIsRead = (text : List ℕ) → HasReading text

-- no text has two readings
abbrev pub HasOneReading : Type 0
HasOneReading = (text : List ℕ) (a b : Reading) → IsRead text a → IsRead text b → a ≡ b
