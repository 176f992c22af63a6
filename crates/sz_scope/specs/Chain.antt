-- The declarations of all blocks in one list, the newest first, each linked to the one that it hides. They are told
-- apart by the places of their names and by how many blocks are open round them.
use Rattle.std.specs.Prelude.{◌≡◌, ℕ, zero, suc, ◌<◌, ◌≤◌, Bool, ◌&&◌, ◌==◌, List, [], ◌∷◌, length, filter, map, nat_lt, Option, None, Some, slice_get, if◌then◌else◌}
use Rattle.sz_scope.specs.declared.meaning.Meaning.{Meaning}
use Rattle.sz_scope.specs.declared.entry.Entry.{Entry}
use Rattle.sz_scope.specs.Blocks.{Declaration, Block, is_declared}
use Rattle.sz_scope.specs.Names.{place_of, name_at}

-- the place of the newest entry of the name, counted from the oldest
abbrev pub latest : ℕ → List Entry → Option ℕ
latest name [] = None
latest name (entry ∷ entries) = if entry.name == name then Some (length entries) else latest name entries

-- what the newest entry of the name means, among those that pass the test
abbrev pub first_where : (ℕ → Meaning → Bool) → ℕ → List Entry → Option Meaning
first_where test name [] = None
first_where test name (entry ∷ entries) =
    if entry.name == name && test entry.depth entry.what then Some entry.what else first_where test name entries

-- the oldest entries, this many
abbrev pub oldest : ℕ → List Entry → List Entry
oldest count [] = []
oldest count (entry ∷ entries) = if nat_lt (length entries) count then entry ∷ entries else oldest count entries

-- the entries from the first one on that is less deep
abbrev pub without_deeper : ℕ → List Entry → List Entry
without_deeper depth [] = []
without_deeper depth (entry ∷ entries) =
    if nat_lt entry.depth depth then entry ∷ entries else without_deeper depth entries

-- each entry links to the one of its name that was the newest before it
abbrev pub IsLinked : List Entry → Type 0
IsLinked [] = Unit {0}
IsLinked (entry ∷ entries) = (entry.hidden ≡ latest entry.name entries) × IsLinked entries

-- the entries are less deep than `depth`, and none is deeper than a newer one
abbrev pub IsNested : ℕ → List Entry → Type 0
IsNested depth [] = Unit {0}
IsNested depth (entry ∷ entries) = (entry.depth < depth) × IsNested (suc entry.depth) entries

-- the name of each entry stands at its place, and nowhere before it
abbrev pub IsNamed : List (List ℕ) → List Entry → Type 0
IsNamed names [] = Unit {0}
IsNamed names (entry ∷ entries) = (place_of (name_at names entry.name) names ≡ Some entry.name) × IsNamed names entries

-- the place of each entry's name is less than this
abbrev pub IsWithin : ℕ → List Entry → Type 0
IsWithin count [] = Unit {0}
IsWithin count (entry ∷ entries) = (entry.name < count) × IsWithin count entries

-- at the place of each name stands its newest entry
abbrev pub IsIndexed : List (Option ℕ) → List Entry → Type 0
IsIndexed newest entries = (name : ℕ) → name < length newest → slice_get newest name ≡ Some (latest name entries)

-- what is always true of names, their newest entries, all entries and the number of open blocks
pub record IsSound (names : List (List ℕ)) (newest : List (Option ℕ)) (entries : List Entry) (depth : ℕ) : Type 0 where
  pub room : length names ≤ length newest
  pub named : IsNamed names entries
  pub indexed : IsIndexed newest entries
  pub linked : IsLinked entries
  pub nested : IsNested depth entries

-- an entry as a declaration
abbrev pub declaration_of : List (List ℕ) → Entry → Declaration
declaration_of names entry = record { name = name_at names entry.name; what = entry.what }

-- the block round which `depth` blocks are open
abbrev pub block_at : List (List ℕ) → List Entry → ℕ → Block
block_at names entries depth = map (declaration_of names) (filter (λ entry. entry.depth == depth) entries)

-- the open blocks, the innermost first
abbrev pub blocks_of : List (List ℕ) → List Entry → ℕ → List Block
blocks_of names entries zero = []
blocks_of names entries (suc depth) = block_at names entries depth ∷ blocks_of names entries depth

-- a list of newest entries has the room that another has, and serves the same entries
pub record HasRoomOf (newest others : List (Option ℕ)) : Type 0 where
  pub room : length newest ≤ length others
  pub indexed : (entries : List Entry) → IsWithin (length newest) entries → IsIndexed newest entries
      → IsIndexed others entries

-- with other names and newest entries, entries that were sound are so still, and make the same blocks
pub record KeepsSound (names more : List (List ℕ)) (newest others : List (Option ℕ)) : Type 0 where
  pub sound : (entries : List Entry) (depth : ℕ) → IsSound names newest entries depth
      → IsSound more others entries depth
  pub blocks : (entries : List Entry) (depth : ℕ) → IsSound names newest entries depth
      → blocks_of more entries depth ≡ blocks_of names entries depth

-- the answer is whether the innermost block has the name that may have a place, whatever the names are
abbrev pub TellsTwice : Option ℕ → List (Option ℕ) → List Entry → ℕ → Bool → Type 0
TellsTwice known newest entries depth answer = (names : List (List ℕ)) (name : List ℕ)
    → known ≡ place_of name names → IsSound names newest entries (suc depth)
    → answer ≡ is_declared name (blocks_of names entries (suc depth))

-- what is found is what the newest entry means that passes the test, of the name that has this newest entry
abbrev pub FindsNewest : (ℕ → Meaning → Bool) → Option ℕ → List Entry → Option Meaning → Type 0
FindsNewest test newest entries found = (name : ℕ) → newest ≡ latest name entries
    → found ≡ first_where test name entries
