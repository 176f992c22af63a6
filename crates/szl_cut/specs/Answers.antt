-- What a command line is answered.
use Rattle.std.specs.Prelude.{◌≡◌, ◌≢◌, ℕ, ◌^◌, ⊤, List, [], ◌∷◌, ◌++◌, codes, decimal, ◌&&◌, nat_le, Option, Some, None, IfSome, option_map, flat_map, if◌then◌else◌}
use Rattle.std.specs.Str.Parse.{digits_value}
use Rattle.sz_types.specs.Numerals.{is_numeral}
use Rattle.sz_io.specs.Words.{is_file_name}
use Rattle.sz_io.specs.declared.error.OutsideError.{OutsideError}
use Rattle.sz_io.specs.declared.error.OutsideError.TheVariants as outside
use Rattle.sz_records.specs.declared.ending.Ending.TheVariants as endings
use Rattle.szl_cut.specs.declared.failure.Failure.{Failure}
use Rattle.szl_cut.specs.declared.failure.Failure.TheVariants.{Usage, Damaged, Limit, ReadFailed, WriteFailed, NoMemory}
use Rattle.szl_cut.specs.Cuts.{Ends}

-- the size of parts that a word asks for: decimal digits of a value from 1 to 2^40
abbrev pub size_in : List ℕ → Option ℕ
size_in word =
    let size = digits_value 10 word in
    if (is_numeral word && nat_le size (2 ^ 40)) && nat_le 1 size then Some size else None

-- a file's name, and the size of its parts
pub record Asked : Type 0 where
  pub name : List ℕ
  pub size : ℕ

-- the size that a word asks for, if the one before it names a file
abbrev pub size_after : List ℕ → List ℕ → Option ℕ
size_after name word = if is_file_name name then size_in word else None

-- what the words ask for: a name and a size
abbrev pub asked_in : List (List ℕ) → Option Asked
asked_in (name ∷ word ∷ []) = option_map (λ size. record { name = name; size = size }) (size_after name word)
asked_in words = None

-- a number and a newline
abbrev pub number_line : ℕ → List ℕ
number_line n = decimal n ++ 10 ∷ []

-- places as text, each on a line
abbrev pub places_text : List ℕ → List ℕ
places_text places = flat_map number_line places

-- the lines of failures
abbrev pub line_of : Failure → List ℕ
line_of Usage = codes "bad command line\n"
line_of (Damaged byte) = codes "input damaged at byte " ++ number_line byte
line_of (Limit byte) = codes "input limit at byte " ++ number_line byte
line_of ReadFailed = codes "read failed\n"
line_of WriteFailed = codes "write failed\n"
line_of NoMemory = codes "out of memory\n"

-- their exit statuses
abbrev pub code_of : Failure → ℕ
code_of Usage = 1
code_of (Damaged byte) = 4
code_of ReadFailed = 5
code_of WriteFailed = 6
code_of NoMemory = 8
code_of (Limit byte) = 9

-- the failure of a call of the outside
abbrev pub failure_of : OutsideError → Failure
failure_of outside.Failed = ReadFailed
failure_of outside.NoMemory = NoMemory

-- the failure is that of a file of these bytes, if they are told, or one that reading any file may have
abbrev pub IsFor : Option (List ℕ) → Failure → Type 0
IsFor file Usage = ⊥
IsFor file (Damaged byte) = IfSome file (λ bytes. Ends bytes (endings.Damaged byte))
IsFor file (Limit byte) = IfSome file (λ bytes. Ends bytes (endings.Limit byte))
IsFor file ReadFailed = ⊤
IsFor file WriteFailed = ⊥
IsFor file NoMemory = ⊤

-- the failure is the answer for what is asked; want of memory may be any answer
abbrev pub IsWhy : (List ℕ → Option (List ℕ)) → Option Asked → Failure → Type 0
IsWhy held asked NoMemory = ⊤
IsWhy held asked WriteFailed = asked ≢ None
IsWhy held asked Usage = asked ≡ None
IsWhy held None failure = ⊥
IsWhy held (Some asked) failure = IsFor (held asked.name) failure
