-- What of the open blocks is seen at a place of a program.
use Rattle.std.specs.Prelude.{ℕ, Bool, true, false, not, ◌&&◌, ◌||◌, List, [], ◌∷◌, length, filter, nat_le}
use Rattle.sz_scope.specs.declared.meaning.Meaning.{Meaning}
use Rattle.sz_scope.specs.declared.meaning.Meaning.TheVariants.{Var, Quantified, Table, Input}
use Rattle.sz_scope.specs.declared.sight.Sight.{Sight}
use Rattle.sz_scope.specs.declared.sight.Sight.TheVariants.{Record, Function, Static}
use Rattle.sz_scope.specs.Blocks.{Block}

-- whether what is meant is there while a record runs, and not before: a variable, or the record itself
abbrev pub is_of_record : Meaning → Bool
is_of_record (Var number) = true
is_of_record (Quantified number) = true
is_of_record Input = true
is_of_record _ = false

-- whether what is meant is a table
abbrev pub is_table : Meaning → Bool
is_table (Table number) = true
is_table _ = false

-- whether what is meant is seen, where it is declared in a block round which `depth` blocks are open
abbrev pub sees : Sight → ℕ → Meaning → Bool
sees Record depth what = true
sees (Function outside) depth what = nat_le outside depth || not (is_of_record what)
sees Static depth what = not (is_table what) && not (is_of_record what)

-- the blocks without the declarations that fail a test of their depth and meaning
abbrev pub blocks_where : (ℕ → Meaning → Bool) → List Block → List Block
blocks_where test [] = []
blocks_where test (block ∷ blocks) =
    filter (λ declaration. test (length blocks) declaration.what) block ∷ blocks_where test blocks

-- the blocks without what isn't seen
abbrev pub seen_blocks : Sight → List Block → List Block
seen_blocks sight blocks = blocks_where (sees sight) blocks
