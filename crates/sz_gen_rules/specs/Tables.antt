-- The numbers of constants and types: code names each by the first place at which it stands in its list.
use Rattle.std.specs.Prelude.{◌≡◌, ℕ, suc, List, [], ◌∷◌, Bool, slice_get, if◌then◌else◌, Some}
use Rattle.std.specs.Ordering.{is_eq}
use Rattle.sz_types.specs.Data.{Shape}
use Rattle.sz_types.specs.Same.{alike}
use Rattle.sz_types.specs.declared.place.Place.{Place}
use Rattle.sz_value.specs.Data.{Datum}
use Rattle.sz_value.specs.Order.{compare}
use Rattle.sz_instr.specs.declared.instr.Instr.{Instr}
use Rattle.sz_instr.specs.declared.line.Line.{Line}
use Rattle.sz_instr.specs.declared.code.Code.{Code}

-- the constants and the types that code names by numbers
pub record Tables : Type 0 where
  pub constants : List Datum
  pub types : List Shape

-- the tables of code
abbrev pub tables_in : Code → Tables
tables_in code = record { constants = code.constants; types = code.types }

-- the first place at which an element of a list passes a test; the length of the list where none does
abbrev pub first_passing : {X : Type 0} → (X → Bool) → List X → ℕ
first_passing test [] = 0
first_passing test (x ∷ xs) = if test x then 0 else suc (first_passing test xs)

-- the number of a constant among others
abbrev pub number_in : List Datum → Datum → ℕ
number_in ds d = first_passing (λ c. is_eq (compare d c)) ds

-- the number of a type among others
abbrev pub type_number_in : List Shape → Shape → ℕ
type_number_in ts t = first_passing (λ s. alike s t) ts

-- the number of a constant
abbrev pub constant_number : Tables → Datum → ℕ
constant_number tables d = number_in tables.constants d

-- the number of a type
abbrev pub type_number : Tables → Shape → ℕ
type_number tables t = type_number_in tables.types t

-- the constant is in the tables
abbrev pub HasConstant : Tables → Datum → Type 0
HasConstant tables d = slice_get tables.constants (constant_number tables d) ≡ Some d

-- the type is in the tables
abbrev pub HasType : Tables → Shape → Type 0
HasType tables t = slice_get tables.types (type_number tables t) ≡ Some t

-- an instruction with its charge, for a place of the program's text
abbrev pub line : Instr → ℕ → Place → Line
line instr charge place = record { instr = instr; charge = charge; place = place }
