-- The command as `clap` builds it, and which of its arguments a word names.
use Rattle.std.proofs.Common.{◌≡◌, List, [], ◌∷◌, ◌++◌, map, Bool, true, false, true≢false, refl, ap, sym}
use Rattle.std.proofs.Common.{subst, Some, None}
use Rattle.std.specs.Prelude.{bytes_eq, codes}
use Rattle.std.specs.List.{list_any}
use Rattle.clap.specs.Walk.{Rule, Text, arg_by_id, arg_by_long}
use Rattle.clap.specs.Simple.{Shape, built, is_simple, new_rule}
use Rattle.clap.specs.Faults.{is_simple_and_free}
use Rattle.clap.specs.declared.builder.action.ArgAction.TheVariants.{Append}
use Rattle.clap.specs.declared.builder.value_parser.ValueParser.TheVariants as vp
use Rattle.sz_words.specs.Asked.{asked_app}
use Rattle.sz_words.specs.Parts.{is_option}
use Rattle.sz_words.specs.Parts.{option_names}
use Rattle.sz_words.proofs.RowLemmas.{equal}

-- an option
abbrev pub option_rule : Text → Rule
option_rule name = record (new_rule name) {
  long = Some name;
  action = Some Append;
  parser = Some vp.String;
  range = Some (record { start_inclusive = 1; end_inclusive = 1 });
}

-- the names
abbrev pub name_rule : Rule
name_rule = record (new_rule (codes "name")) {
  index = Some 1;
  action = Some Append;
  parser = Some vp.String;
  range = Some (record { start_inclusive = 1; end_inclusive = 1 });
}

abbrev pub rules : List Rule
rules = map option_rule option_names ++ name_rule ∷ []

abbrev pub shape : Shape
shape = (built asked_app).top

pub is_fit : is_simple asked_app ≡ true
is_fit = refl

pub is_free : is_simple_and_free asked_app ≡ true
is_free = refl

-- ---- its arguments

pub long_among : (names : List Text) (name : Text) → list_any (λ n. bytes_eq n name) names ≡ true
    → arg_by_long (map option_rule names ++ name_rule ∷ []) name ≡ Some (option_rule name)
long_among [] name e = absurd (true≢false (sym e))
long_among (n ∷ ns) name e = go (long_among ns name) (bytes_eq n name) refl
  where
    go : (list_any (λ m. bytes_eq m name) ns ≡ true
        → arg_by_long (map option_rule ns ++ name_rule ∷ []) name ≡ Some (option_rule name))
        → (b : Bool) → bytes_eq n name ≡ b
        → arg_by_long (map option_rule (n ∷ ns) ++ name_rule ∷ []) name ≡ Some (option_rule name)
    go more true f = rw f (ap (λ x. Some (option_rule x)) (equal n name f))
    go more false f = rw f (more (rw f at e))

pub long_missing : (names : List Text) (name : Text) → list_any (λ n. bytes_eq n name) names ≡ false
    → arg_by_long (map option_rule names ++ name_rule ∷ []) name ≡ None
long_missing [] name e = refl
long_missing (n ∷ ns) name e = go (long_missing ns name) (bytes_eq n name) refl
  where
    go : (list_any (λ m. bytes_eq m name) ns ≡ false → arg_by_long (map option_rule ns ++ name_rule ∷ []) name ≡ None)
        → (b : Bool) → bytes_eq n name ≡ b → arg_by_long (map option_rule (n ∷ ns) ++ name_rule ∷ []) name ≡ None
    go more true f = let bad : true ≡ false = rw f at e in absurd (true≢false bad)
    go more false f = rw f (more (rw f at e))

pub id_among : (names : List Text) (name : Text) → list_any (λ n. bytes_eq n name) names ≡ true
    → arg_by_id (map option_rule names ++ name_rule ∷ []) name ≡ Some (option_rule name)
id_among [] name e = absurd (true≢false (sym e))
id_among (n ∷ ns) name e = go (id_among ns name) (bytes_eq n name) refl
  where
    go : (list_any (λ m. bytes_eq m name) ns ≡ true
        → arg_by_id (map option_rule ns ++ name_rule ∷ []) name ≡ Some (option_rule name))
        → (b : Bool) → bytes_eq n name ≡ b
        → arg_by_id (map option_rule (n ∷ ns) ++ name_rule ∷ []) name ≡ Some (option_rule name)
    go more true f = rw f (ap (λ x. Some (option_rule x)) (equal n name f))
    go more false f = rw f (more (rw f at e))

pub by_long : (name : Text) → is_option name ≡ true → arg_by_long rules name ≡ Some (option_rule name)
by_long name e = long_among option_names name e

pub by_id : (name : Text) → is_option name ≡ true → arg_by_id rules name ≡ Some (option_rule name)
by_id name e = id_among option_names name e

pub none_long : (name : Text) → is_option name ≡ false → arg_by_long rules name ≡ None
none_long name e = long_missing option_names name e

-- no option is called as the names are
pub not_name : (name : Text) → is_option name ≡ true → bytes_eq (codes "name") name ≡ false
not_name name e = go (bytes_eq (codes "name") name) refl
  where
    go : (b : Bool) → bytes_eq (codes "name") name ≡ b → b ≡ false
    go false f = refl
    go true f =
        let bad : false ≡ true = subst (λ x. is_option x ≡ true) (sym (equal (codes "name") name f)) e in
        absurd (true≢false (sym bad))
