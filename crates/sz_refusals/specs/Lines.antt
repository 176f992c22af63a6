-- The line that says why a program is refused, and where.
use Rattle.std.specs.Prelude.{ℕ, List, [], ◌∷◌, ◌++◌, codes, decimal, Option, Some, None}
use Rattle.sz_types.specs.declared.place.Place.{Place}
use Rattle.sz_check_rules.specs.Causes.{text_of}
use Rattle.sz_refusals.specs.declared.refusal.Refusal.{Refusal}

-- the name of a refusal after the text of its cause, if it has one
abbrev pub name_text : Option (List ℕ) → List ℕ
name_text None = []
name_text (Some name) = codes ": " ++ name

-- a place as the lines name it
abbrev pub place_text : Place → List ℕ
place_text place = decimal place.line ++ (codes ":" ++ decimal place.column)

-- the line that says why a program is refused, and where
abbrev pub refusal_line : Refusal → List ℕ
refusal_line r =
    codes "program: " ++ (text_of r.cause ++ (name_text r.name ++ (codes " at " ++ (place_text r.place ++ 10 ∷ []))))
