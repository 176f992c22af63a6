-- The words after a command as options and names.
use Rattle.std.specs.Prelude.{ℕ, List, [], ◌∷◌, ◌++◌, take, drop, Bool, true, false, not, ◌||◌, nat_eq, Option, Some, None, bytes_eq, codes}
use Rattle.std.specs.Prelude.{if◌then◌else◌}
use Rattle.std.specs.List.{list_any, before_first, after_first}

-- whether the word begins with `-`
abbrev pub is_dashed : List ℕ → Bool
is_dashed [] = false
is_dashed (b ∷ bs) = nat_eq b 45

-- whether the word is a name wherever it stands: it doesn't begin with `-`, or is `-` itself
abbrev pub is_name : List ℕ → Bool
is_name word = not (is_dashed word) || bytes_eq word (codes "-")

-- whether the word begins with two dashes
abbrev pub is_long : List ℕ → Bool
is_long word = bytes_eq (take 2 word) (codes "--")

-- whether the byte is `=`
abbrev pub is_equals : ℕ → Bool
is_equals b = nat_eq b 61

-- whether `=` stands in the text
abbrev pub has_equals : List ℕ → Bool
has_equals text = list_any is_equals text

-- the options with a value that `run` and `resume` alone take, without their dashes
abbrev pub run_names : List (List ℕ)
run_names =
    codes "frame" ∷ codes "workers" ∷ codes "shard" ∷ codes "attempts" ∷ codes "budget" ∷ codes "skip" ∷ codes "kill"
    ∷ codes "twice" ∷ []

-- the options with a value, without their dashes: `check` takes the first of them too
abbrev pub option_names : List (List ℕ)
option_names = codes "proto" ∷ run_names

-- whether this is an option with a value
abbrev pub is_option : List ℕ → Bool
is_option name = list_any (λ option. bytes_eq option name) option_names

-- an option that was given
pub record Given : Type 0 where
  pub name : List ℕ
  pub value : List ℕ

-- the options and the names so far, each in order, and whether `--` stood among the words
pub record Parts : Type 0 where
  pub options : List Given
  pub names : List (List ℕ)
  pub ended : Bool

-- no words yet
abbrev pub no_parts : Parts
no_parts = record { options = []; names = []; ended = false }

-- with one name more
abbrev pub with_name : List ℕ → Parts → Parts
with_name word parts = record parts { names = parts.names ++ word ∷ [] }

-- with one option more
abbrev pub with_option : List ℕ → List ℕ → Parts → Parts
with_option name value parts = record parts { options = parts.options ++ record { name = name; value = value } ∷ [] }

-- the values that were given to the option of this name, in order
abbrev pub values_of : List ℕ → List Given → List (List ℕ)
values_of name [] = []
values_of name (given ∷ rest) =
    if bytes_eq given.name name then given.value ∷ values_of name rest else values_of name rest

-- what the words up to a place are: no command line, or these parts, or these parts with an option that awaits its
-- value
pub data Reading : Type 0 where
  refused : Reading
  ready : Parts → Reading
  awaits : List ℕ → Parts → Reading

-- with a word of two dashes and this text: `--name=VALUE`, or `--name` with its value to come
abbrev pub with_long : List ℕ → Parts → Reading
with_long text parts =
    if has_equals text
    then (if is_option (before_first is_equals text)
    then ready (with_option (before_first is_equals text) (after_first is_equals text) parts) else refused)
    else (if is_option text then awaits text parts else refused)

-- with a word that is a name, `--` or an option; after `--` all are names
abbrev pub with_word : List ℕ → Parts → Reading
with_word word parts =
    if parts.ended || is_name word then ready (with_name word parts)
    else if bytes_eq word (codes "--") then ready (record parts { ended = true })
    else if is_long word then with_long (drop 2 word) parts else refused

-- with a word after an option: it is the value, and doesn't begin with `-`
abbrev pub with_value : List ℕ → List ℕ → Parts → Reading
with_value name value parts = if is_dashed value then refused else ready (with_option name value parts)

-- the parts of a whole list of words, of which these are still to come
abbrev pub parts_with : Reading → List (List ℕ) → Option Parts
parts_with refused words = None
parts_with (ready parts) [] = Some parts
parts_with (ready parts) (word ∷ words) = parts_with (with_word word parts) words
parts_with (awaits name parts) [] = None
parts_with (awaits name parts) (word ∷ words) = parts_with (with_value name word parts) words

-- the words after a command as options and names
abbrev pub parts_of : List (List ℕ) → Option Parts
parts_of words = parts_with (ready no_parts) words
