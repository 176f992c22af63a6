-- What a file is read as: its types, or what it is refused for.
use Rattle.std.specs.Prelude.{◌≡◌, ℕ, List}
use Rattle.sz_protofile.specs.declared.fault.Fault.{Fault}
use Rattle.sz_protofile.specs.Types.{TypeShape, HasTypes, IsRefused}

-- what reading a file gives: what it is refused for, or the types of its messages with their names
pub data FileReading : Type 0 where
  bad_file : Fault → FileReading
  with_types : List TypeShape → FileReading

-- reading these bytes gives this, by what they are alone
abbrev pub IsReading : List ℕ → FileReading → Type 0
IsReading bytes (bad_file f) = IsRefused bytes f
IsReading bytes (with_types ts) = HasTypes bytes ts

-- the bytes have a reading
pub record HasReading (bytes : List ℕ) : Type 0 where
  pub reading : FileReading
  pub read : IsReading bytes reading

-- all bytes have a reading
abbrev pub EveryFileIsRead : Type 0
EveryFileIsRead = (bytes : List ℕ) → HasReading bytes

-- no bytes have two
abbrev pub HasOneReading : Type 0
HasOneReading = (bytes : List ℕ) (a b : FileReading) → IsReading bytes a → IsReading bytes b → a ≡ b
