-- Steps of the loops over the lines of a file.
use Rattle.std.proofs.Common.{◌≡◌, ℕ, ◌+◌, ◌<◌, ◌≤◌, List, [], ◌++◌, drop, length, get_or, option_to_list, ap}
use Rattle.std.proofs.lemmas.List.{drop_all, at_drop_more}
use Rattle.sz_protofile.specs.Reading.{Spelling}
use Rattle.sz_protofile.specs.declared.line.Line.{Line}
use Rattle.sz_protofile.specs.declared.scope.Scope.{Scope}
use Rattle.sz_protofile.specs.Names.{message_by, messages_in, around_after}
use Rattle.sz_protofile.specs.Lookup.{Known, with_declared, message_names_in}
use Rattle.sz_protofile.specs.Fields.{field_by, fields_in}

module _ (text : Spelling) (all : List Line) (i : ℕ) where
  module _ (d : Line) (lt : i < length all) (around : List Scope) where
    pub names_step : (names : List (List ℕ))
        → message_names_in text names around (drop i all)
        ≡ message_names_in text (with_declared names (message_by text around (get_or all i d)))
        (around_after text around (get_or all i d)) (drop (i + 1) all)
    unfolding message_names_in
    names_step names = at_drop_more (message_names_in text names around) all i d lt

    pub messages_step : messages_in text around (drop i all)
        ≡ option_to_list (message_by text around (get_or all i d))
        ++ messages_in text (around_after text around (get_or all i d)) (drop (i + 1) all)
    unfolding messages_in
    messages_step = at_drop_more (messages_in text around) all i d lt

    pub fields_step : (known : Known) (names : List (List ℕ)) → fields_in text known names around (drop i all)
        ≡ field_by text known names around (get_or all i d)
        ++ fields_in text known names (around_after text around (get_or all i d)) (drop (i + 1) all)
    unfolding fields_in
    fields_step known names = at_drop_more (fields_in text known names around) all i d lt

  module _ (le : length all ≤ i) (around : List Scope) where
    pub names_end : (names : List (List ℕ)) → message_names_in text names around (drop i all) ≡ names
    unfolding message_names_in
    names_end names = ap (message_names_in text names around) (drop_all i all le)

    pub messages_end : messages_in text around (drop i all) ≡ []
    unfolding messages_in
    messages_end = ap (messages_in text around) (drop_all i all le)

    pub fields_end : (known : Known) (names : List (List ℕ)) → fields_in text known names around (drop i all) ≡ []
    unfolding fields_in
    fields_end known names = ap (fields_in text known names around) (drop_all i all le)
