-- Which words are a command line, and what they ask for.
use Rattle.std.specs.Prelude.{ℕ, ◌-◌, ◌^◌, List, [], ◌∷◌, ◌++◌, length, filter, Bool, true, false, not, ◌&&◌, nat_eq, nat_le, Option, Some, None}
use Rattle.std.specs.Prelude.{bytes_eq, codes, if◌then◌else◌, option_and_then, option_map, option_to_list, slice_get}
use Rattle.std.specs.List.{list_all}
use Rattle.sz_types.specs.declared.frame.Frame.{Frame}
use Rattle.sz_types.specs.declared.frame.Frame.TheVariants.{Lines, Delimited}
use Rattle.sz_words.specs.Texts.{number_in}
use Rattle.sz_words.specs.Lists.{kills_in, shards_in}
use Rattle.sz_words.specs.Parts.{run_names, option_names, values_of, parts_of}
use Rattle.sz_words.specs.Flags.{plain_words, flags_in}
use Rattle.sz_words.specs.declared.flags.Flag.{Flag}
use Rattle.sz_words.specs.declared.flags.Flag.TheVariants.{IgnoreUndefs, Save}
use Rattle.sz_words.specs.declared.reading.Numbers.{Numbers}
use Rattle.sz_words.specs.declared.settings.RunSettings.{RunSettings}
use Rattle.sz_words.specs.declared.settings.Kill.{Kill}
use Rattle.sz_words.specs.declared.settings.Settings.{Settings}
use Rattle.sz_words.specs.declared.settings.Settings.TheVariants.{Run, Check, Selftest, Resume, Merge}

-- the values that were given to each option, by its name
abbrev pub Values : Type 0
Values = List ℕ → List (List ℕ)

-- whether each of these options was given so many times at the most
abbrev pub stand_at_most : ℕ → Values → List (List ℕ) → Bool
stand_at_most most given names = list_all (λ name. nat_le (length (given name)) most) names

-- the most records of a shard where nothing else is asked for
abbrev pub default_shard : ℕ
default_shard = 1000

-- the value that was given to an option, if one was
abbrev pub value_of : Values → List ℕ → Option (List ℕ)
value_of given name = slice_get (given name) 0

-- the frame that the value of `--frame` names; lines without one
abbrev pub frame_in : Option (List ℕ) → Option Frame
frame_in None = Some Lines
frame_in (Some word) =
    if bytes_eq word (codes "lines") then Some Lines
    else if bytes_eq word (codes "delimited") then Some Delimited else None

-- the number that an option's value writes, and another where the option isn't given
abbrev pub number_or : ℕ → ℕ → ℕ → Option (List ℕ) → Option ℕ
number_or default least most None = Some default
number_or default least most (Some word) = number_in least most word

-- the kills that the value of `--kill` names; none are listed without one
abbrev pub kills_or_none : Option (List ℕ) → Option (List Kill)
kills_or_none None = Some []
kills_or_none (Some text) = kills_in text

-- the shards that the value of `--twice` names; none are doubled without one
abbrev pub shards_or_none : Option (List ℕ) → Option (List ℕ)
shards_or_none None = Some []
shards_or_none (Some text) = shards_in text

-- whether a name is standard input's
abbrev pub is_standard_input : List ℕ → Bool
is_standard_input name = bytes_eq name (codes "-")

-- whether the name is empty
abbrev pub is_empty : List ℕ → Bool
is_empty name = nat_eq (length name) 0

-- whether files can be named so: no name is empty, and standard input is at most so many of them
abbrev pub are_files : ℕ → List (List ℕ) → Bool
are_files inputs names =
    list_all (λ name. not (is_empty name)) names && nat_le (length (filter is_standard_input names)) inputs

-- whether the file of `--proto`, if there is one, and these can be named so: standard input is at most one of all
abbrev pub all_are_files : Option (List ℕ) → List (List ℕ) → Bool
all_are_files proto names = are_files 1 (option_to_list proto ++ names)

-- what the options with one number or word ask for, each within its bounds
abbrev pub numbers_in : Values → Option Numbers
numbers_in given =
    option_and_then (λ frame.
    option_and_then (λ workers.
    option_and_then (λ shard.
    option_and_then (λ attempts.
    option_and_then (λ budget.
    option_and_then (λ skip.
    Some
    (record { frame = frame; workers = workers; shard = shard; attempts = attempts; budget = budget; skip = skip }))
    (number_or 0 0 1000 (value_of given (codes "skip"))))
    (number_or (2 ^ 24) 1 (2 ^ 32) (value_of given (codes "budget"))))
    (number_or 3 1 8 (value_of given (codes "attempts"))))
    (number_or default_shard 1 65536 (value_of given (codes "shard"))))
    (number_or 4 1 64 (value_of given (codes "workers"))))
    (frame_in (value_of given (codes "frame")))

-- what is asked for by `run` with these options, a program and an input, where no flag stands
unfoldable pub run_with : Values → List ℕ → List ℕ → Option RunSettings
run_with given program input =
    option_and_then (λ numbers.
    option_and_then (λ kills.
    option_and_then (λ twice.
    Some (record {
      program = program;
      input = input;
      proto = value_of given (codes "proto");
      frame = numbers.frame;
      workers = numbers.workers;
      shard = numbers.shard;
      attempts = numbers.attempts;
      budget = numbers.budget;
      skip = numbers.skip;
      kills = kills;
      twice = twice;
      ignore_undefs = false;
      save = false;
    }))
    (shards_or_none (value_of given (codes "twice"))))
    (kills_or_none (value_of given (codes "kill"))))
    (numbers_in given)

-- the program and the input that two names are, beside the file of `--proto`
abbrev pub files_in : Option (List ℕ) → List (List ℕ) → Option (List ℕ × List ℕ)
files_in proto (program ∷ input ∷ []) =
    if all_are_files proto (program ∷ input ∷ []) then Some (program, input) else None
files_in _ _ = None

-- what is asked for by `run PROGRAM INPUT`, and by `resume PROGRAM INPUT`; no option stands twice
abbrev pub run_settings : Values → List (List ℕ) → Option RunSettings
run_settings given names =
    if stand_at_most 1 given option_names
    then option_and_then (λ files. run_with given files.0 files.1) (files_in (value_of given (codes "proto")) names)
    else None

-- whether `--proto` stands once at the most, and no option of `run` and `resume` alone
abbrev pub is_proto_alone : Values → Bool
is_proto_alone given = stand_at_most 0 given run_names && stand_at_most 1 given (codes "proto" ∷ [])

-- what is asked for by `check PROGRAM`, which takes `--proto`
abbrev pub check_settings : Values → List (List ℕ) → Option Settings
check_settings given (program ∷ []) =
    if is_proto_alone given && all_are_files (value_of given (codes "proto")) (program ∷ [])
    then Some (Check program (value_of given (codes "proto"))) else None
check_settings given _ = None

-- what is asked for by `selftest SEED RECORDS WORKERS`, which takes no options
abbrev pub selftest_settings : Values → List (List ℕ) → Option Settings
selftest_settings given (seed ∷ records ∷ workers ∷ []) =
    if stand_at_most 0 given option_names
    then option_and_then (λ s. option_and_then (λ r. option_and_then (λ w. Some (Selftest s r w))
    (number_in 1 64 workers)) (number_in 0 1000000 records)) (number_in 0 (2 ^ 63 - 1) seed)
    else None
selftest_settings given _ = None

-- the most files of `merge`
abbrev pub most_files : ℕ
most_files = 64

-- whether so many files can be joined, and can be named so
abbrev pub can_be_joined : List (List ℕ) → Bool
can_be_joined names = not (nat_eq (length names) 0) && (nat_le (length names) most_files && are_files 1 names)

-- what is asked for by `merge FILE {FILE}`, which takes no option with a value
abbrev pub merge_settings : Values → List (List ℕ) → Option Settings
merge_settings given names =
    if stand_at_most 0 given option_names && can_be_joined names then Some (Merge names false) else None

-- what is asked for by a command with these options and names after it
abbrev pub command_settings : List ℕ → Values → List (List ℕ) → Option Settings
command_settings command given names =
    if bytes_eq command (codes "run") then option_map Run (run_settings given names)
    else if bytes_eq command (codes "resume") then option_map Resume (run_settings given names)
    else if bytes_eq command (codes "check") then check_settings given names
    else if bytes_eq command (codes "selftest") then selftest_settings given names
    else if bytes_eq command (codes "merge") then merge_settings given names else None

-- what is asked for by a command and the words after it that are no flags
abbrev pub plain_settings : List ℕ → List (List ℕ) → Option Settings
plain_settings command words =
    option_and_then (λ parts. command_settings command (λ name. values_of name parts.options) parts.names)
    (parts_of words)

-- the same with a flag more, which doesn't stand there yet: `run` takes each of them, `resume` takes
-- `--ignore-undefs`, and `merge` takes `--save`
abbrev pub with_flag : Flag → Settings → Option Settings
with_flag IgnoreUndefs (Run s) = if not s.ignore_undefs then Some (Run (record s { ignore_undefs = true })) else None
with_flag IgnoreUndefs (Resume s) =
    if not s.ignore_undefs then Some (Resume (record s { ignore_undefs = true })) else None
with_flag Save (Run s) = if not s.save then Some (Run (record s { save = true })) else None
with_flag Save (Merge files save) = if not save then Some (Merge files true) else None
with_flag _ settings = None

-- the same with these flags
abbrev pub with_flags : List Flag → Settings → Option Settings
with_flags [] settings = Some settings
with_flags (flag ∷ flags) settings = option_and_then (with_flags flags) (with_flag flag settings)

-- what is asked for by a command and the words after it
abbrev pub line_settings : List ℕ → List (List ℕ) → Option Settings
line_settings command words = option_and_then (with_flags (flags_in words)) (plain_settings command (plain_words words))

-- what a command line asks for; other words have no settings
abbrev pub settings_in : List (List ℕ) → Option Settings
settings_in [] = None
settings_in (command ∷ words) = line_settings command words
