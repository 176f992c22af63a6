-- What is held while fields are counted and types are made: numbers, and lists of fields, by the full names of
-- messages.
use Rattle.std.specs.Prelude.{ℕ, ◌+◌, List, [], nat_lt, Option, unwrap_or, if◌then◌else◌}
use Rattle.std.specs.Option.{option_map}
use Rattle.std.specs.Str.{bytes_eq}
use Rattle.sz_types.specs.Seen.{seen_fields}
use Rattle.sz_types.specs.Data.{FieldShape}
use Rattle.sz_types.specs.declared.ty.Fields.{Fields}
use Rattle.sz_protofile.specs.declared.field.FieldIn.{FieldIn}
use Rattle.sz_protofile.specs.declared.field.Sort.{Sort}
use Rattle.sz_protofile.specs.declared.field.Sort.TheVariants as sorts
use Rattle.sz_protofile.specs.Types.{most_fields}
use Rattle.sz_protofile_types.specs.Ranks.{Ranking, rank}

-- a number of fields; one more than a file may have stands for each larger one
abbrev pub capped : ℕ → ℕ
capped n = if nat_lt most_fields n then most_fields + 1 else n

-- the number that was found
abbrev pub counted : Option ℕ → ℕ
counted found = capped (unwrap_or found 0)

-- the fields that were found
abbrev pub seen_found : Option Fields → List FieldShape
seen_found found = unwrap_or (option_map seen_fields found) []

-- numbers of fields by the full names of messages
abbrev pub Numbers : Type 0
Numbers = List ℕ → ℕ

module _ (r : Ranking) where
  -- how many fields a field of this sort adds
  abbrev pub number_as : Numbers → FieldIn → Sort → ℕ
  number_as numbers f sorts.Unkept = 0
  number_as numbers f (sorts.Kept p) = 1
  number_as numbers f (sorts.Message m) = if nat_lt (rank r m) (rank r f.owner) then numbers m + 1 else 0

  -- a field more is counted
  abbrev pub after_counted : Numbers → FieldIn → Numbers
  after_counted numbers f m =
      if bytes_eq f.owner m then capped (numbers f.owner + number_as numbers f f.sort) else numbers m
