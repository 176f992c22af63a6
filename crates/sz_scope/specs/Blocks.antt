-- The blocks that are open at a place of a program, and what a name means there.
use Rattle.std.specs.Prelude.{ℕ, Bool, false, List, [], ◌∷◌, Option, None, Some, is_some, if◌then◌else◌}
use Rattle.std.specs.Option.{option_or}
use Rattle.std.specs.Str.{bytes_eq}
use Rattle.sz_scope.specs.declared.meaning.Meaning.{Meaning}

-- a declaration: the bytes of the name, and what it means
pub record Declaration : Type 0 where
  pub name : List ℕ
  pub what : Meaning

-- a block: its declarations, the newest first
abbrev pub Block : Type 0
Block = List Declaration

-- what the name means in the block, and nothing where the block doesn't have it
abbrev pub found_in : List ℕ → Block → Option Meaning
found_in name [] = None
found_in name (declaration ∷ block) =
    if bytes_eq name declaration.name then Some declaration.what else found_in name block

-- what the name means in the blocks, the innermost first: what it means in the innermost one that has it
abbrev pub found : List ℕ → List Block → Option Meaning
found name [] = None
found name (block ∷ blocks) = option_or (found_in name block) (found name blocks)

-- whether the innermost block has the name
abbrev pub is_declared : List ℕ → List Block → Bool
is_declared name [] = false
is_declared name (block ∷ blocks) = is_some (found_in name block)

-- the blocks with one more declaration in the innermost
abbrev pub with_declared : Declaration → List Block → List Block
with_declared declaration [] = []
with_declared declaration (block ∷ blocks) = (declaration ∷ block) ∷ blocks
