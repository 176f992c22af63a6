-- Files to be joined are few.
use Rattle.std.proofs.Common.{◌≡◌, ◌≤◌, ◌-◌, ◌^◌, ℕ, zero, suc, List, [], ◌∷◌, length, Bool, true, false, Option, Some, None, refl, arith}
use Rattle.std.specs.Prelude.{⊤, IfSome, option_and_then, option_map, nat_eq, nat_le, not, ◌&&◌, bytes_eq, codes, if◌then◌else◌}
use Rattle.std.proofs.lemmas.Bool.{leb-true}
use Rattle.sz_words.specs.declared.flags.Flag.{Flag}
use Rattle.sz_words.specs.declared.flags.Flag.TheVariants.{IgnoreUndefs, Save}
use Rattle.sz_words.specs.declared.settings.RunSettings.{RunSettings}
use Rattle.sz_words.specs.declared.settings.Settings.{Settings}
use Rattle.sz_words.specs.declared.settings.Settings.TheVariants.{Run, Check, Selftest, Resume, Merge}
use Rattle.sz_words.specs.Flags.{plain_words, flags_in}
use Rattle.sz_words.specs.Parts.{option_names, values_of, parts_of}
use Rattle.sz_words.specs.Texts.{number_in}
use Rattle.sz_words.specs.Settings.{Values, stand_at_most, value_of, are_files, all_are_files, is_proto_alone, most_files}
use Rattle.sz_words.specs.Settings.{run_settings, check_settings, selftest_settings, merge_settings, command_settings, plain_settings, with_flag, with_flags}
use Rattle.sz_words.specs.Settings.{settings_in}

-- files to be joined are 1 to 64
abbrev pub JoinsFew : Settings → Type 0
JoinsFew (Merge names save) = (1 ≤ length names) × (length names ≤ 64)
JoinsFew _ = ⊤

-- what comes of a part has few, where whatever the part gives does
then_few : {A : Type 0} (f : A → Option Settings) (o : Option A) → ((x : A) → IfSome (f x) JoinsFew) → IfSome (option_and_then f o) JoinsFew
then_few f None few = tt
then_few f (Some x) few = few x

if_few : (b : Bool) (one other : Option Settings) → IfSome one JoinsFew → IfSome other JoinsFew → IfSome (if b then one else other) JoinsFew
if_few true one other a b = a
if_few false one other a b = b

-- and where what it gives does, if the part gives few
some_few : (f : Settings → Option Settings) (o : Option Settings) → ((s : Settings) → JoinsFew s → IfSome (f s) JoinsFew) → IfSome o JoinsFew
    → IfSome (option_and_then f o) JoinsFew
some_few f None keeps few = tt
some_few f (Some s) keeps few = keeps s few

run_few : (o : Option RunSettings) → IfSome (option_map Run o) JoinsFew
run_few None = tt
run_few (Some s) = tt

resume_few : (o : Option RunSettings) → IfSome (option_map Resume o) JoinsFew
resume_few None = tt
resume_few (Some s) = tt

check_settings_few : (given : Values) (names : List (List ℕ)) → IfSome (check_settings given names) JoinsFew
check_settings_few given [] = tt
check_settings_few given (program ∷ []) =
    if_few (is_proto_alone given && all_are_files (value_of given (codes "proto")) (program ∷ [])) _ None tt tt
check_settings_few given (program ∷ more ∷ names) = tt

selftest_settings_few : (given : Values) (names : List (List ℕ)) → IfSome (selftest_settings given names) JoinsFew
selftest_settings_few given [] = tt
selftest_settings_few given (seed ∷ []) = tt
selftest_settings_few given (seed ∷ records ∷ []) = tt
selftest_settings_few given (seed ∷ records ∷ workers ∷ []) =
    if_few (stand_at_most 0 given option_names) _ None
    (then_few _ (number_in 0 (2 ^ 63 - 1) seed) (λ s. then_few _ (number_in 0 1000000 records) (λ r. then_few _ (number_in 1 64 workers) (λ w. tt)))) tt
selftest_settings_few given (seed ∷ records ∷ workers ∷ more ∷ names) = tt

merge_settings_few : (given : Values) (names : List (List ℕ)) → IfSome (merge_settings given names) JoinsFew
merge_settings_few given names =
    by (stand_at_most 0 given option_names) (nat_eq (length names) 0) (nat_le (length names) most_files) (are_files 1 names) refl refl
  where
    some : (n : ℕ) → nat_eq n 0 ≡ false → 1 ≤ n
    some zero is = absurd (cc)
    some (suc n) is = omega arith

    by : (alone none few named : Bool) → nat_eq (length names) 0 ≡ none → nat_le (length names) most_files ≡ few
        → IfSome (if alone && (not none && (few && named)) then Some (Merge names false) else None) JoinsFew
    by false none few named not_none is = tt
    by true true few named not_none is = tt
    by true false false named not_none is = tt
    by true false true false not_none is = tt
    by true false true true not_none is = (some (length names) not_none, leb-true (length names) 64 is)

command_few : (command : List ℕ) (given : Values) (names : List (List ℕ)) → IfSome (command_settings command given names) JoinsFew
command_few command given names =
    if_few (bytes_eq command (codes "run")) _ _ (run_few (run_settings given names))
    (if_few (bytes_eq command (codes "resume")) _ _ (resume_few (run_settings given names))
    (if_few (bytes_eq command (codes "check")) _ _ (check_settings_few given names)
    (if_few (bytes_eq command (codes "selftest")) _ _ (selftest_settings_few given names)
    (if_few (bytes_eq command (codes "merge")) _ None (merge_settings_few given names) tt))))

flag_few : (flag : Flag) (settings : Settings) → JoinsFew settings → IfSome (with_flag flag settings) JoinsFew
flag_few IgnoreUndefs (Run s) few = if_few (not s.ignore_undefs) _ None tt tt
flag_few IgnoreUndefs (Resume s) few = if_few (not s.ignore_undefs) _ None tt tt
flag_few IgnoreUndefs (Check program proto) few = tt
flag_few IgnoreUndefs (Selftest seed records workers) few = tt
flag_few IgnoreUndefs (Merge names save) few = tt
flag_few Save (Run s) few = if_few (not s.save) _ None tt tt
flag_few Save (Resume s) few = tt
flag_few Save (Check program proto) few = tt
flag_few Save (Selftest seed records workers) few = tt
flag_few Save (Merge names save) few = if_few (not save) (Some (Merge names true)) None few tt

flags_few : (flags : List Flag) (settings : Settings) → JoinsFew settings → IfSome (with_flags flags settings) JoinsFew
flags_few [] settings few = few
flags_few (flag ∷ flags) settings few = some_few (with_flags flags) (with_flag flag settings) (flags_few flags) (flag_few flag settings few)

-- the words of a command line name few files to be joined
pub joins_few : (words : List (List ℕ)) → IfSome (settings_in words) JoinsFew
joins_few [] = tt
joins_few (command ∷ words) =
    some_few (with_flags (flags_in words)) (plain_settings command (plain_words words)) (flags_few (flags_in words)) (plain (plain_words words))
  where
    plain : (words : List (List ℕ)) → IfSome (plain_settings command words) JoinsFew
    plain words =
        then_few (λ parts. command_settings command (λ name. values_of name parts.options) parts.names) (parts_of words)
        (λ parts. command_few command (λ name. values_of name parts.options) parts.names)
