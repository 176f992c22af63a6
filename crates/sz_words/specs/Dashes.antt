-- What is asked of the dashes of words before `clap` reads them.
use Rattle.std.specs.Prelude.{ℕ, List, [], ◌∷◌, drop, Bool, true, false, not, ◌&&◌, Option, Some, None, option_map, unwrap_or, bytes_eq, codes}
use Rattle.std.specs.Prelude.{if◌then◌else◌}
use Rattle.sz_words.specs.Parts.{is_dashed, is_name, is_long, has_equals}

-- whether a value follows a word that is an option's value or isn't; none where the word's dashes don't fit
abbrev pub value_follows : Bool → List ℕ → Option Bool
value_follows true word = if is_dashed word then None else Some false
value_follows false word =
    if is_name word then Some false
    else if is_long word then Some (not (has_equals (drop 2 word))) else None

-- whether the dashes of these words fit, where the first of them is an option's value or isn't: up to `--` no value
-- of a word of its own begins with `-`, and each other word is a name or begins with two dashes
abbrev pub dashes_fit : Bool → List (List ℕ) → Bool
dashes_fit is_value [] = true
dashes_fit is_value (word ∷ words) =
    if not is_value && bytes_eq word (codes "--") then true
    else unwrap_or (option_map (λ next. dashes_fit next words) (value_follows is_value word)) false
