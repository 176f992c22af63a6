-- The flags among the words after a command: the options that stand without a value.
use Rattle.std.specs.Prelude.{List, ℕ, [], ◌∷◌, ◌++◌, drop, Bool, not, ◌&&◌, Option, Some, None, is_some, option_to_list, bytes_eq, codes}
use Rattle.std.specs.Prelude.{if◌then◌else◌}
use Rattle.sz_words.specs.Parts.{is_long, has_equals}
use Rattle.sz_words.specs.declared.flags.Flag.{Flag}
use Rattle.sz_words.specs.declared.flags.Flag.TheVariants.{IgnoreUndefs, Save}
use Rattle.sz_words.specs.declared.flags.Standing.{Standing}
use Rattle.sz_words.specs.declared.flags.Standing.TheVariants.{Free, Value, Ended}

-- the flag that the word names
abbrev pub flag_named : List ℕ → Option Flag
flag_named word =
    if bytes_eq word (codes "--ignore-undefs") then Some IgnoreUndefs
    else if bytes_eq word (codes "--save") then Some Save else None

-- the flag that the word is, which stands where an option may
abbrev pub flag_of : Standing → List ℕ → Option Flag
flag_of Free word = flag_named word
flag_of _ word = None

-- whether the value of an option follows the word, where an option may stand
abbrev pub takes_value : List ℕ → Bool
takes_value word = is_long word && (not (is_some (flag_named word)) && not (has_equals (drop 2 word)))

-- how the word after a word stands
abbrev pub standing_after : Standing → List ℕ → Standing
standing_after Free word = if bytes_eq word (codes "--") then Ended else if takes_value word then Value else Free
standing_after Value word = Free
standing_after Ended word = Ended

-- the words that are no flags, of those from one on that stands so
abbrev pub plain_from : Standing → List (List ℕ) → List (List ℕ)
plain_from at [] = []
plain_from at (word ∷ words) =
    (if is_some (flag_of at word) then [] else word ∷ []) ++ plain_from (standing_after at word) words

-- the flags among the same words
abbrev pub flags_from : Standing → List (List ℕ) → List Flag
flags_from at [] = []
flags_from at (word ∷ words) = option_to_list (flag_of at word) ++ flags_from (standing_after at word) words

-- the words that are no flags, of those after a command
abbrev pub plain_words : List (List ℕ) → List (List ℕ)
plain_words words = plain_from Free words

-- the flags among the words after a command
abbrev pub flags_in : List (List ℕ) → List Flag
flags_in words = flags_from Free words
