-- Which message or enum a word for a type means.
use Rattle.std.specs.Prelude.{ℕ, zero, suc, ◌-◌, List, [], ◌∷◌, ◌++◌, length, slice_get, unwrap_or, codes, Option, Some, None, Bool, false, not, ◌&&◌, ◌==◌, if◌then◌else◌}
use Rattle.std.specs.Option.{option_or, option_and_then}
use Rattle.sz_protofile.specs.Reading.{Spelling}
use Rattle.sz_protofile.specs.declared.line.Line.{Line}
use Rattle.sz_protofile.specs.declared.line.Line.TheVariants as lines
use Rattle.sz_protofile.specs.declared.scope.Scope.{Scope}
use Rattle.sz_protofile.specs.Names.{put_after, has_name, outside, declared_by, message_by, around_after}

-- what a file has for its words to mean: its package, if it has one, and the full names of its messages and enums,
-- each once, without what only a further message of a name declares
pub record Known : Type 0 where
  pub package_name : Option (List ℕ)
  pub names : List (List ℕ)

abbrev pub known : Option (List ℕ) → List (List ℕ) → Known
known name names = record { package_name = name; names = names }

-- what is left of a word behind this front, if it begins so
unfoldable pub behind : List ℕ → List ℕ → Option (List ℕ)
behind [] word = Some word
behind (a ∷ front) [] = None
behind (a ∷ front) (b ∷ word) = if a == b then behind front word else None

-- what is left of a word behind the package and a dot; nothing, if there is no package
abbrev pub in_package : Option (List ℕ) → List ℕ → Option (List ℕ)
in_package None word = None
in_package (Some name) word = option_and_then (behind (codes ".")) (behind name word)

-- the full name that what follows a dot means: that behind the package, if there is one
abbrev pub from_the_dot : Option (List ℕ) → List ℕ → Option (List ℕ)
from_the_dot None word = Some word
from_the_dot (Some name) word = in_package (Some name) word

-- the name, if it is among these
abbrev pub found : List (List ℕ) → List ℕ → Option (List ℕ)
found names name = if has_name name names then Some name else None

-- what a word means in one of the first so many messages of those that are open, the last first
unfoldable pub found_around : List (List ℕ) → List Scope → List ℕ → ℕ → Option (List ℕ)
found_around names around word zero = None
found_around names around word (suc k) =
    option_or (found names (put_after (codes ".") (unwrap_or (slice_get around k) outside).full word))
    (found_around names around word k)

-- what a word means that follows no dot: in the innermost message that is open, then in each around it, then in the
-- file, then behind the package
abbrev pub found_outwards : Known → List Scope → List ℕ → Option (List ℕ)
found_outwards file around word =
    option_or (found_around file.names around word (length around))
    (option_or (found file.names word) (option_and_then (found file.names) (in_package file.package_name word)))

-- the same of a word of which this follows a dot, if one stands in front
abbrev pub by_dot : Known → List Scope → List ℕ → Option (List ℕ) → Option (List ℕ)
by_dot file around word (Some rest) = option_and_then (found file.names) (from_the_dot file.package_name rest)
by_dot file around word None = found_outwards file around word

-- the full name of the message or enum that a word means, if there is one
abbrev pub looked_up : Known → List Scope → List ℕ → Option (List ℕ)
looked_up file around word = by_dot file around word (behind (codes ".") word)

-- ---- what a file has

-- the package that a line names
abbrev pub package_by : Spelling → Line → Option (List ℕ)
package_by text (lines.Package n) = Some (text n)
package_by text line = None

-- the package that the last such line names, if there is one, and else this
unfoldable pub package_in : Spelling → Option (List ℕ) → List Line → Option (List ℕ)
package_in text name [] = name
package_in text name (line ∷ more) = package_in text (option_or (package_by text line) name) more

-- the names with one more, if it isn't among them
abbrev pub with_name : List (List ℕ) → List ℕ → List (List ℕ)
with_name names name = if has_name name names then names else names ++ name ∷ []

abbrev pub with_declared : List (List ℕ) → Option Scope → List (List ℕ)
with_declared names None = names
with_declared names (Some s) = with_name names s.full

-- whether what a line declares is the first of its name, where so many of the open messages are none, or stand in one
-- that is none
abbrev pub is_first : List (List ℕ) → ℕ → Option Scope → Bool
is_first names again None = false
is_first names again (Some s) = again == 0 && not (has_name s.full names)

-- how many of the open messages aren't the first of their names, or stand in one that isn't, after a line
abbrev pub again_after : Bool → ℕ → Line → ℕ
again_after first again (lines.Message n) = if first then again else suc again
again_after first again lines.End = again - 1
again_after first again line = again

-- the names, and that of what a line declares, unless it stands in such a message
abbrev pub with_first : List (List ℕ) → ℕ → Option Scope → List (List ℕ)
with_first names again declared = if again == 0 then with_declared names declared else names

-- the names, and those that lines declare, where these messages are open before them, and so many aren't the first of
-- their names, or stand in one that isn't
unfoldable pub names_in : Spelling → List (List ℕ) → List Scope → ℕ → List Line → List (List ℕ)
names_in text names around again [] = names
names_in text names around again (line ∷ more) =
    names_in text (with_first names again (declared_by text around line)) (around_after text around line)
    (again_after (is_first names again (declared_by text around line)) again line) more

-- the names, and those of the messages of which lines are, where these messages are open before them
unfoldable pub message_names_in : Spelling → List (List ℕ) → List Scope → List Line → List (List ℕ)
message_names_in text names around [] = names
message_names_in text names around (line ∷ more) =
    message_names_in text (with_declared names (message_by text around line)) (around_after text around line) more

-- what a file has
abbrev pub known_in : Spelling → List Line → Known
known_in text all = known (package_in text None all) (names_in text [] [] 0 all)
