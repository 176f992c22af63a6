-- Parts of the declaration of a table.
use Rattle.std.specs.Prelude.{◌≡◌, ℕ, List, ◌∷◌, Option, Some, Result, Ok, Err}
use Rattle.std.specs.Option.{option_map}
use Rattle.sz_types.specs.Data.{Shape}
use Rattle.sz_types.specs.Seen.{seen}
use Rattle.sz_types.specs.Tables.{Declaration}
use Rattle.sz_types.specs.declared.table.TableKind.{TableKind}
use Rattle.sz_tree.specs.Names.{Ident}
use Rattle.sz_check_rules.specs.JudgingPrograms.{TableTypes, declaration_of}
use Rattle.sz_check_names.specs.Outcome.{Stops}
use Rattle.sz_check_names.specs.declared.error.JudgeError.{JudgeError}
use Rattle.sz_check_emits.specs.declared.table.Types.{Types as KeptTypes}

-- a type in front of others
abbrev pub with_type : Shape → List Shape → List Shape
with_type t ts = t ∷ ts

-- the types of the indexes, of the element and of the weights
abbrev pub types_of : KeptTypes → TableTypes
types_of types = record { indexes = types.indexes; element = seen types.element; weight = option_map seen types.weight }

-- a table by its parts
abbrev pub made_of : Ident → TableKind → ℕ → TableTypes → Declaration
made_of n kind limit types = record {
  name = n.text;
  kind = kind;
  limit = limit;
  indexes = types.indexes;
  element = types.element;
  weight = types.weight;
}

-- a limit as it is kept, or the refusal of each declaration that would have it
abbrev pub IsLimit : Ident → Option ℕ → Result ℕ JudgeError → Type 0
IsLimit word limit (Ok kept) = limit ≡ Some kept
IsLimit word limit (Err e) =
    (n : Ident) (kind : TableKind) (types : TableTypes)
    → Stops e (declaration_of n word kind limit types.indexes types.element types.weight)
