-- The command that `clap` is asked to read by.
use Rattle.std.specs.Prelude.{ℕ, List, [], ◌∷◌, Some, codes, true}
use Rattle.clap.specs.Words.{App, Rule, new_app, new_rule, with_rule}
use Rattle.clap.specs.Simple.{on_top}
use Rattle.clap.specs.declared.builder.action.ArgAction.TheVariants.{Append}
use Rattle.sz_words.specs.Parts.{option_names}

-- an option with a value each time that it stands
abbrev pub asked_option : List ℕ → Rule
asked_option name = record (new_rule name) { long = Some name; action = Some Append }

-- the names, any number of them
abbrev pub asked_names : Rule
asked_names = record (new_rule (codes "name")) { action = Some Append }

-- the command without its options and names
abbrev pub asked_bare : App
asked_bare = on_top (λ s. record s { no_binary_name = true; disable_help_flag = true; disable_version_flag = true })
    (new_app (codes "szl"))

-- with an option of each of these names
abbrev pub with_options : App → List (List ℕ) → App
with_options app [] = app
with_options app (name ∷ names) = with_options (with_rule app (asked_option name)) names

-- one command with the options of `run` and any number of names
abbrev pub asked_app : App
asked_app = with_rule (with_options asked_bare option_names) asked_names
