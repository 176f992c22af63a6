-- What `clap` found, by the words of this crate.
use Rattle.std.specs.Prelude.{◌≡◌, ℕ, List, [], option_map, unwrap_or, codes, true}
use Rattle.clap.specs.Words.{found_of, matched_of, raw_values}
use Rattle.clap.specs.declared.parser.matches.ArgMatches.{ArgMatches}
use Rattle.sz_words.specs.Parts.{Parts, values_of, is_option}

-- the values that were found for an option, or for the names, in order
abbrev pub values_in : ArgMatches → List ℕ → List (List ℕ)
values_in m id = unwrap_or (option_map raw_values (matched_of (found_of m) id)) []

-- the names that were found
abbrev pub names_in : ArgMatches → List (List ℕ)
names_in m = values_in m (codes "name")

-- the parts are what was found
pub record HasParts (m : ArgMatches) (parts : Parts) : Type 0 where
  pub options : (name : List ℕ) → is_option name ≡ true → values_in m name ≡ values_of name parts.options
  pub names : names_in m ≡ parts.names
