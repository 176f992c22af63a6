-- Ranks of messages, which tell what leads back.
use Rattle.std.specs.Prelude.{◌≡◌, ℕ, ◌≤◌, List, slice_index_or, Contains}
use Rattle.std.specs.Option.{option_map_or}
use Rattle.sz_protofile.specs.declared.field.FieldIn.{FieldIn}
use Rattle.sz_protofile.specs.declared.field.Sort.TheVariants as sorts
use Rattle.sz_protofile.specs.Fields.{Reaches}
use Rattle.sz_scope.specs.Names.{place_of}

-- names, and a number for each
pub record Ranking : Type 0 where
  pub names : List (List ℕ)
  pub numbers : List ℕ

abbrev pub ranking : List (List ℕ) → List ℕ → Ranking
ranking names numbers = record { names = names; numbers = numbers }

-- the rank of the message of a full name: its number, and 0 where it has none
abbrev pub rank : Ranking → List ℕ → ℕ
rank r name = option_map_or (λ place. slice_index_or r.numbers place 0) (place_of name r.names) 0

-- the message of a field's type has no higher rank than that in which the field stands, and where they have the same,
-- it reaches that one
pub record IsRanking (fields : List FieldIn) (r : Ranking) : Type 0 where
  pub falling : (f : FieldIn) (m : List ℕ) → Contains fields f → f.sort ≡ sorts.Message m → rank r m ≤ rank r f.owner
  pub together : (f : FieldIn) (m : List ℕ) → Contains fields f → f.sort ≡ sorts.Message m → rank r m ≡ rank r f.owner
      → Reaches fields m f.owner
