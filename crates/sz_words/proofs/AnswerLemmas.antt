-- What `clap` answers is what the rule on words gives.
use Rattle.std.proofs.Common.{◌≡◌, List, [], ◌∷◌, ◌++◌, map, inl, inr, Bool, true, false, refl, ap}
use Rattle.std.proofs.Common.{◌∙◌, subst, Option, Some, None}
use Rattle.std.specs.Prelude.{codes, fold, if◌then◌else◌, ◌||◌, unwrap_or, is_some}
use Rattle.clap.specs.Walk.{Row, Text, Walk, finished, has_row, nothing_held}
use Rattle.clap.specs.Walk.{settled, walk, walk_from, with_default}
use Rattle.clap.specs.Simple.{App, built, entered, matches_of}
use Rattle.clap.specs.Faults.{check_fault, default_fault, defaults_fault, entered_fault, fault_of, given_default_fault, is_simple_and_free}
use Rattle.clap.specs.Faults.{settle_fault, walk_fault}
use Rattle.clap.specs.Kinds.{HasKind, Kinds, or_else}
use Rattle.clap.specs.Words.{HasMatchesOf, found_of, kind_of, rows_of}
use Rattle.clap.proofs.WalkLemmas.{raw_values-rows}
use Rattle.clap.specs.declared.error.Error.{Error}
use Rattle.clap.specs.declared.parser.matches.ArgMatches.{ArgMatches}
use Rattle.sz_words.specs.Matches.{HasParts}
use Rattle.clap.specs.declared.error.kind.ErrorKind.TheVariants as kind
use Rattle.sz_words.specs.Asked.{asked_app}
use Rattle.sz_words.specs.Parts.{Parts}
use Rattle.sz_words.specs.Parts.{option_names, parts_of}
use Rattle.sz_words.specs.Dashes.{dashes_fit}
use Rattle.sz_words.proofs.RowLemmas.{values_at}
use Rattle.sz_words.proofs.RuleLemmas.{is_fit, is_free, name_rule, option_rule, rules, shape}
use Rattle.sz_words.proofs.EndLemmas.{Ends, all_words}

-- no argument has a default
pub no_default : (name : Text) (rows : List Row) → default_fault rows (option_rule name) ≡ []
no_default name rows = go (has_row name rows)
  where
    go : (b : Bool) → (if b || true then [] else given_default_fault (option_rule name) []) ≡ []
    go true = refl
    go false = refl

pub default_kept : (name : Text) (rows : List Row) → with_default rows (option_rule name) ≡ rows
default_kept name rows = go (has_row name rows)
  where
    go : (b : Bool) → (if b then rows else rows) ≡ rows
    go true = refl
    go false = refl

pub no_defaults : (names : List Text) (rows : List Row)
    → defaults_fault rows (map option_rule names ++ name_rule ∷ []) ≡ []
unfolding defaults_fault
no_defaults [] rows = go (has_row (codes "name") rows)
  where
    go : (b : Bool) → or_else (if b || true then [] else given_default_fault name_rule []) [] ≡ []
    go true = refl
    go false = refl
no_defaults (n ∷ ns) rows = rw (no_default n rows, default_kept n rows) (no_defaults ns rows)

pub defaults_kept : (names : List Text) (rows : List Row)
    → fold with_default rows (map option_rule names ++ name_rule ∷ []) ≡ rows
defaults_kept [] rows = go (has_row (codes "name") rows)
  where
    go : (b : Bool) → (if b then rows else rows) ≡ rows
    go true = refl
    go false = refl
defaults_kept (n ∷ ns) rows =
    ap (λ r. fold with_default r (map option_rule ns ++ name_rule ∷ [])) (default_kept n rows) ∙ defaults_kept ns rows

-- where no part has a fault, the first and the third have none
pub no_parts_fault : (a b c d e : Kinds) → or_else a (or_else b (or_else c (or_else d e))) ≡ [] → or_else a c ≡ []
no_parts_fault [] [] [] d e h = refl
no_parts_fault [] [] (k ∷ ks) d e h = absurd (cc)
no_parts_fault [] (k ∷ ks) c d e h = absurd (cc)
no_parts_fault (k ∷ ks) b c d e h = absurd (cc)

pub all_nil : (a b c d e : Kinds) → a ≡ [] → b ≡ [] → c ≡ [] → d ≡ [] → e ≡ []
    → or_else a (or_else b (or_else c (or_else d e))) ≡ []
all_nil a b c d e p q r s t = rw (p, q, r, s, t) refl

-- the walk over all words
abbrev pub whole_walk : List Text → Walk
whole_walk words = walk rules [] nothing_held words

pub no_fault : (words : List Text) (parts : Parts) → Ends words (walk_from nothing_held) (Some parts)
    → fault_of asked_app words ≡ []
no_fault words parts ends =
    all_nil _ _ _ _ _ ends.0 (ap (entered_fault (built asked_app)) ends.1) ends.2.settles
    (no_defaults option_names (settled rules (whole_walk words).held).rows)
    (ap (λ stop. check_fault shape (finished rules (whole_walk words).held)
    (is_some (entered (built asked_app) stop))) ends.1)

pub found_parts : (words : List Text) (app : App) (m : ArgMatches) → app ≡ asked_app → dashes_fit false words ≡ true
    → (is_simple_and_free app ≡ true → fault_of app words ≡ []) → HasMatchesOf app words m
    → (parts : Parts) × (parts_of words ≡ Some parts) × HasParts m parts
found_parts words app m is fit fault has = go (parts_of words) refl (all_words words fit)
  where
    clean : fault_of asked_app words ≡ []
    clean = subst (λ a. is_simple_and_free a ≡ true → fault_of a words ≡ []) is fault is_free

    rows_are : rows_of (found_of m) ≡ matches_of asked_app words
    rows_are = (subst (λ a. HasMatchesOf a words m) is has is_fit).0

    go : (given : Option Parts) → parts_of words ≡ given → Ends words (walk_from nothing_held) given
        → (parts : Parts) × (parts_of words ≡ Some parts) × HasParts m parts
    go None e ends =
        absurd (ends (no_parts_fault (walk_fault shape [] (walk_from nothing_held) words)
        (entered_fault (built asked_app) (whole_walk words).stopped) (settle_fault rules false (whole_walk words).held)
        (defaults_fault (settled rules (whole_walk words).held).rows rules)
        (check_fault shape (finished rules (whole_walk words).held)
        (is_some (entered (built asked_app) (whole_walk words).stopped)))
        clean))
    go (Some parts) e ends =
        let rows = rows_are ∙ defaults_kept option_names (settled rules (whole_walk words).held).rows in (
          parts,
          e,
          record {
            options = λ name known.
                ap (λ o. unwrap_or o []) (raw_values-rows (found_of m) name) ∙ ap (values_at name) rows
                ∙ ends.2.found.options name known;
            names = ap (λ o. unwrap_or o []) (raw_values-rows (found_of m) (codes "name"))
                ∙ ap (values_at (codes "name")) rows ∙ ends.2.found.names;
          },
        )

pub failed : (words : List Text) (app : App) (error : Error) → app ≡ asked_app → dashes_fit false words ≡ true
    → (is_simple_and_free app ≡ true → HasKind (fault_of app words) error) → (kind_of error ≡ kind.OutOfMemory → ⊥)
    → parts_of words ≡ None
failed words app error is fit fault memory = go (parts_of words) refl (all_words words fit)
  where
    kinds : HasKind (fault_of asked_app words) error
    kinds = subst (λ a. is_simple_and_free a ≡ true → HasKind (fault_of a words) error) is fault is_free

    go : (given : Option Parts) → parts_of words ≡ given → Ends words (walk_from nothing_held) given
        → parts_of words ≡ None
    go None e ends = e
    go (Some parts) e ends = elim (subst (λ ks. HasKind ks error) (no_fault words parts ends) kinds) [
      | inl none ↦ absurd (memory none)
      | inr bad ↦ absurd bad
    ]
