-- What the getters of `clap` give.
use Rattle.std.proofs.Common.{◌≡◌, ℕ, ◌+◌, ◌<◌, ◌≤◌, List, [], ◌∷◌, length, drop, map, refl, ap, sym, ◌∙◌, true, false, Bool, Option, Some, None}
use Rattle.std.proofs.Common.{get_or, subst, arith}
use Rattle.std.proofs.lemmas.Bool.Decides.{nat_tests}
use Rattle.std.proofs.lemmas.List.{at_drop_more}
use Rattle.std.specs.List.{list_all}
use Rattle.std.specs.Prelude.{option_map, option_and_then, slice_get, unwrap_or, codes, bytes_eq, nat_le, ◌&&◌, if◌then◌else◌}
use Rattle.clap.specs.Words.{App, first_value, found_of, matched_of, raw_values, with_rule}
use Rattle.clap.specs.declared.parser.matches.ArgMatches.{ArgMatches}
use Rattle.clap.specs.declared.parser.matches.MatchedArg.{MatchedArg}
use Rattle.std.specs.Borrow.{Bor}
use Rattle.sz_words.specs.Asked.{asked_option, with_options}
use Rattle.sz_words.specs.Parts.{Parts, option_names, parts_of, values_of}
use Rattle.sz_words.specs.Matches.{HasParts, names_in, values_in}
use Rattle.sz_words.specs.Settings.{Values, check_settings, command_settings, plain_settings, run_settings, stand_at_most, run_with, selftest_settings, merge_settings}
use Rattle.sz_words.specs.declared.settings.RunSettings.{RunSettings}
use Rattle.sz_words.specs.declared.settings.Settings.{Settings}
use Rattle.sz_words.specs.declared.settings.Settings.TheVariants.{Merge}

-- the first value is the first of all
pub first_is : (m : ArgMatches) (id : List ℕ) → first_value (found_of m) id ≡ slice_get (values_in m id) 0
first_is m id = of (matched_of (found_of m) id)
  where
    first : (vs : List (Bor (List ℕ))) → option_map (λ s. s.now) (slice_get vs 0) ≡ slice_get (map (λ s. s.now) vs) 0
    first [] = refl
    first (v ∷ vs) = refl

    of : (o : Option MatchedArg) → option_and_then (λ a. option_map (λ s. s.now) (slice_get a.vals.items 0)) o
        ≡ slice_get (unwrap_or (option_map raw_values o) []) 0
    of None = refl
    of (Some a) = first a.vals.items

-- an option is added, and then those still to come
pub one_added : (names : List (Bor (List ℕ))) (place : ℕ) (other : Bor (List ℕ)) → place < length names
    → (app next all : App) → next ≡ with_rule app (asked_option (get_or names place other).now)
    → with_options app (map (λ n. n.now) (drop place names)) ≡ all
    → with_options next (map (λ n. n.now) (drop (place + 1) names)) ≡ all
one_added names place other within app next all is before =
    ap (λ a. with_options a (map (λ n. n.now) (drop (place + 1) names))) is
    ∙ sym (at_drop_more (λ ns. with_options app (map (λ n. n.now) ns)) names place other within) ∙ before

-- an option that isn't given too often leaves it to those still to come
module _ (values : List ℕ → List (List ℕ)) (most : ℕ) where
  abbrev each_fits : List (Bor (List ℕ)) → Bool
  each_fits names = list_all (λ name. nat_le (length (values name)) most) (map (λ n. n.now) names)

  fits : (n : ℕ) → n ≤ most → nat_le n most ≡ true
  fits n low = grind (arith, nat_tests)

  pub one_fits : (names : List (Bor (List ℕ))) (place : ℕ) (other : Bor (List ℕ)) → place < length names → (n : ℕ)
      → n ≡ length (values (get_or names place other).now) → n ≤ most
      → each_fits (drop (place + 1) names) ≡ each_fits (drop place names)
  one_fits names place other within n is low =
      let le : nat_le (length (values (get_or names place other).now)) most ≡ true =
      subst (λ k. nat_le k most ≡ true) is (fits n low) in
      sym (at_drop_more each_fits names place other within ∙ rw le refl)

-- no command is asked for without a name
no_run : (given : Values) → run_settings given [] ≡ None
no_run given = go (stand_at_most 1 given option_names)
  where
    none : Option RunSettings
    none = None

    go : (once : Bool) → (if once then none else none) ≡ None
    go true = refl
    go false = refl

no_merge : (given : Values) → merge_settings given [] ≡ None
no_merge given = go (stand_at_most 0 given option_names)
  where
    none : Option Settings
    none = None

    some : Option Settings
    some = Some (Merge [] false)

    go : (fit : Bool) → (if fit && false then some else none) ≡ None
    go true = refl
    go false = refl

no_names : (command : List ℕ) (given : Values) → command_settings command given [] ≡ None
no_names command given =
    rw (no_run given, no_merge given)
    (go (bytes_eq command (codes "run")) (bytes_eq command (codes "resume")) (bytes_eq command (codes "check"))
    (bytes_eq command (codes "selftest")) (bytes_eq command (codes "merge")))
  where
    none : Option Settings
    none = None

    go : (a b c d e : Bool) → (if a then none else if b then none else if c then none else if d then none else if e
        then none else none) ≡ None
    go true b c d e = refl
    go false true c d e = refl
    go false false true d e = refl
    go false false false true e = refl
    go false false false false true = refl
    go false false false false false = refl

-- where there were no names
pub unnamed : (m : ArgMatches) (got : Option (Bor (List (Bor (List ℕ)))))
    → option_map (λ s. map (λ v. v.now) s.now) got ≡ option_map raw_values (matched_of (found_of m) (codes "name"))
    → got ≡ None → (command : List ℕ) → command_settings command (values_in m) (names_in m) ≡ None
unnamed m got is none command =
    let no : names_in m ≡ [] = ap (λ o. unwrap_or o []) (sym is ∙ ap (option_map (λ s. map (λ v. v.now) s.now)) none) in
    subst (λ names. command_settings command (values_in m) names ≡ None) (sym no) (no_names command (values_in m))

-- the same values of each option
pub record SameValues (given other : Values) : Type 0 where
  pub proto : given (codes "proto") ≡ other (codes "proto")
  pub frame : given (codes "frame") ≡ other (codes "frame")
  pub workers : given (codes "workers") ≡ other (codes "workers")
  pub shard : given (codes "shard") ≡ other (codes "shard")
  pub attempts : given (codes "attempts") ≡ other (codes "attempts")
  pub budget : given (codes "budget") ≡ other (codes "budget")
  pub skip : given (codes "skip") ≡ other (codes "skip")
  pub kill : given (codes "kill") ≡ other (codes "kill")
  pub twice : given (codes "twice") ≡ other (codes "twice")

run_same : (given other : Values) → SameValues given other → (names : List (List ℕ))
    → run_settings given names ≡ run_settings other names
unfolding run_with
run_same given other e names =
    rw (e.proto, e.frame, e.workers, e.shard, e.attempts, e.budget, e.skip, e.kill, e.twice) refl

check_same : (given other : Values) → SameValues given other → (names : List (List ℕ))
    → check_settings given names ≡ check_settings other names
check_same given other e [] = refl
check_same given other e (p ∷ []) =
    rw (e.proto, e.frame, e.workers, e.shard, e.attempts, e.budget, e.skip, e.kill, e.twice) refl
check_same given other e (p ∷ i ∷ names) = refl

selftest_same : (given other : Values) → SameValues given other → (names : List (List ℕ))
    → selftest_settings given names ≡ selftest_settings other names
selftest_same given other e [] = refl
selftest_same given other e (s ∷ []) = refl
selftest_same given other e (s ∷ r ∷ []) = refl
selftest_same given other e (s ∷ r ∷ w ∷ []) =
    rw (e.proto, e.frame, e.workers, e.shard, e.attempts, e.budget, e.skip, e.kill, e.twice) refl
selftest_same given other e (s ∷ r ∷ w ∷ n ∷ names) = refl

merge_same : (given other : Values) → SameValues given other → (names : List (List ℕ))
    → merge_settings given names ≡ merge_settings other names
merge_same given other e names =
    rw (e.proto, e.frame, e.workers, e.shard, e.attempts, e.budget, e.skip, e.kill, e.twice) refl

-- what a command asks for depends on the values of the options alone
pub settings_same : (command : List ℕ) (m : ArgMatches) (parts : Parts) → HasParts m parts
    → command_settings command (values_in m) (names_in m)
    ≡ command_settings command (λ name. values_of name parts.options) parts.names
settings_same command m parts has =
    let given : Values = values_in m in
    let other : Values = λ name. values_of name parts.options in
    let e : SameValues given other = record {
      proto = has.options (codes "proto") refl;
      frame = has.options (codes "frame") refl;
      workers = has.options (codes "workers") refl;
      shard = has.options (codes "shard") refl;
      attempts = has.options (codes "attempts") refl;
      budget = has.options (codes "budget") refl;
      skip = has.options (codes "skip") refl;
      kill = has.options (codes "kill") refl;
      twice = has.options (codes "twice") refl;
    } in
    rw has.names (rw (
      run_same given other e parts.names,
      check_same given other e parts.names,
      selftest_same given other e parts.names,
      merge_same given other e parts.names,
    ) refl)

-- what is asked for by words whose parts were found
pub line_is : (command : List ℕ) (words : List (List ℕ)) (m : ArgMatches)
    → ((parts : Parts) × (parts_of words ≡ Some parts) × HasParts m parts)
    → plain_settings command words ≡ command_settings command (values_in m) (names_in m)
line_is command words m p = rw p.1 (sym (settings_same command m p.0 p.2))
