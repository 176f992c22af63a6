-- Parts of tuples and fields of messages, one by one.
use Rattle.std.specs.Prelude.{ℕ, List, [], ◌∷◌, map, Bool, nat_eq, if◌then◌else◌, Option, Some, None, Ok}
use Rattle.std.specs.List.{list_any}
use Rattle.sz_types.specs.Data.{FieldShape, field}
use Rattle.sz_types.specs.declared.encoding.Encoding.{Encoding}
use Rattle.sz_types.specs.declared.encoding.Encoding.TheVariants.{Plain}
use Rattle.sz_scope.specs.Blocks as scopes
use Rattle.sz_tree.specs.Names.{Ident}
use Rattle.sz_tree.specs.Types.{Typ, FieldForm}
use Rattle.sz_check_rules.specs.Refusals.{Judged, ◌>>=◌, bad_field, has_name}
use Rattle.sz_check_rules.specs.Names.{Block}
use Rattle.sz_check_rules.specs.JudgingTypes.{Coding, judge_type, coding_of, field_number, encoding_of}

-- the name and the number of a field
abbrev pub name_of : FieldShape → List ℕ
name_of (field name t number code) = name

abbrev pub number_of : FieldShape → ℕ
number_of (field name t number code) = number

-- the names that the innermost block declares, the newest first
abbrev pub names_in : List scopes.Block → List (List ℕ)
names_in [] = []
names_in (block ∷ blocks) = map (λ (d : scopes.Declaration). d.name) block

-- whether a number is among these
abbrev pub has_number : ℕ → List ℕ → Bool
has_number number used = list_any (nat_eq number) used

-- the number and the encoding of a field
abbrev pub coding_seen : ℕ × Encoding → Coding
coding_seen c = record { number = c.0; code = c.1 }

-- a name that none of these takes
abbrev pub free_name : Ident → List (List ℕ) → Judged (List ℕ)
free_name n taken = if has_name n.text taken then bad_field n else Ok n.text

-- the coding of a field, which it must have
abbrev pub free_coding : Ident → Option Coding → Judged Coding
free_coding n None = bad_field n
free_coding n (Some c) = Ok c

-- the next part of a tuple, after parts with these names
abbrev pub judge_part : List Block → List (List ℕ) → Ident → Typ → Judged FieldShape
judge_part blocks taken n t = do
  part ← judge_type blocks t
  name ← free_name n taken
  Ok (field name part 0 Plain)

-- the next field of a message, after fields with these names and numbers
abbrev pub judge_field : List Block → List (List ℕ) → List ℕ → FieldForm → Judged FieldShape
judge_field blocks taken used f = do
  part ← judge_type blocks f.of
  coding ← free_coding f.name (coding_of used part (field_number f.number) (encoding_of f.label))
  name ← free_name f.name taken
  Ok (field name part coding.number coding.code)
