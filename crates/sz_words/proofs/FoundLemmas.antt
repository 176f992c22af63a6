-- The rows of `clap` that have the options and the names of some parts.
use Rattle.std.proofs.Common.{◌≡◌, List, [], ◌∷◌, ◌++◌, Bool, true, false, true≢false, refl, ap, sym}
use Rattle.std.proofs.Common.{◌∙◌, subst, append-nil}
use Rattle.std.specs.Prelude.{bytes_eq, codes, if◌then◌else◌}
use Rattle.clap.specs.Walk.{Row, Text}
use Rattle.clap.specs.Walk.{used}
use Rattle.sz_words.specs.Parts.{Given, Parts, is_option}
use Rattle.sz_words.specs.Parts.{values_of, with_name, with_option}
use Rattle.sz_words.proofs.RowLemmas.{same, equal, values_at, values-added, values-kept}
use Rattle.sz_words.proofs.RuleLemmas.{name_rule, not_name, option_rule}

-- the rows have these options and names
pub record Found (rows : List Row) (parts : Parts) : Type 0 where
  pub options : (name : Text) → is_option name ≡ true → values_at name rows ≡ values_of name parts.options
  pub names : values_at (codes "name") rows ≡ parts.names

pub values_of-more : (name : Text) (options : List Given) (given : Given)
    → values_of name (options ++ given ∷ [])
    ≡ values_of name options ++ (if bytes_eq given.name name then given.value ∷ [] else [])
values_of-more name [] given = go (bytes_eq given.name name) refl
  where
    go : (b : Bool) → bytes_eq given.name name ≡ b
        → values_of name (given ∷ []) ≡ (if bytes_eq given.name name then given.value ∷ [] else [])
    go true e = rw e refl
    go false e = rw e refl
values_of-more name (o ∷ os) given = go (values_of-more name os given) (bytes_eq o.name name) refl
  where
    go : values_of name (os ++ given ∷ [])
        ≡ values_of name os ++ (if bytes_eq given.name name then given.value ∷ [] else [])
        → (b : Bool) → bytes_eq o.name name ≡ b
        → values_of name (o ∷ os ++ given ∷ [])
        ≡ values_of name (o ∷ os) ++ (if bytes_eq given.name name then given.value ∷ [] else [])
    go more true e = rw e (ap (λ x. o.value ∷ x) more)
    go more false e = rw e more

pub name_found : (word : Text) (rows : List Row) (parts : Parts) → Found rows parts
    → Found (used name_rule (word ∷ []) rows) (with_name word parts)
name_found word rows parts found = record {
  options = λ name e. values-kept (codes "name") name _ _ (word ∷ []) rows (not_name name e) ∙ found.options name e;
  names = values-added (codes "name") _ _ (word ∷ []) rows ∙ ap (λ x. x ++ word ∷ []) found.names;
}

pub option_found : (name value : Text) (rows : List Row) (parts : Parts) → is_option name ≡ true → Found rows parts
    → Found (used (option_rule name) (value ∷ []) rows) (with_option name value parts)
option_found name value rows parts known found = record {
  options = λ other e. go other e (bytes_eq name other) refl;
  names = values-kept name (codes "name") _ _ (value ∷ []) rows (differs (bytes_eq name (codes "name")) refl)
      ∙ found.names;
}
  where
    differs : (b : Bool) → bytes_eq name (codes "name") ≡ b → b ≡ false
    differs false f = refl
    differs true f =
        let bad : false ≡ true = subst (λ x. is_option x ≡ true) (equal name (codes "name") f) known in
        absurd (true≢false (sym bad))

    go : (other : Text) → is_option other ≡ true → (b : Bool) → bytes_eq name other ≡ b
        → values_at other (used (option_rule name) (value ∷ []) rows)
        ≡ values_of other (with_option name value parts).options
    go other e true f =
        let here : values_at name (used (option_rule name) (value ∷ []) rows)
        ≡ values_of name (parts.options ++ record { name = name; value = value } ∷ []) =
        values-added name _ _ (value ∷ []) rows ∙ ap (λ x. x ++ value ∷ []) (found.options name known)
        ∙ sym (values_of-more name parts.options (record { name = name; value = value })
        ∙ (rw (same name) refl)) in
        subst (λ x. values_at x (used (option_rule name) (value ∷ []) rows)
        ≡ values_of x (with_option name value parts).options) (equal name other f) here
    go other e false f =
        values-kept name other _ _ (value ∷ []) rows f ∙ found.options other e
        ∙ sym (values_of-more other parts.options (record { name = name; value = value })
        ∙ (rw f (append-nil (values_of other parts.options))))
