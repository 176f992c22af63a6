-- What is wrong with a file whose lines are read, if anything is.
use Rattle.std.specs.Prelude.{ℕ, ◌^◌, List, [], ◌∷◌, ◌++◌, Option, Some, None, Bool, ◌&&◌, ◌||◌, not, nat_lt, nat_eq, if◌then◌else◌}
use Rattle.std.specs.Option.{is_some, option_or}
use Rattle.std.specs.List.{list_any}
use Rattle.std.specs.Str.{bytes_eq}
use Rattle.sz_protofile_lex.specs.declared.token.Token.{Token}
use Rattle.sz_protofile.specs.Reading.{Spelling}
use Rattle.sz_protofile.specs.declared.line.Line.{Line}
use Rattle.sz_protofile.specs.declared.line.Line.TheVariants as lines
use Rattle.sz_protofile.specs.declared.line.Member.{Member}
use Rattle.sz_protofile.specs.declared.fault.Fault.{Fault}
use Rattle.sz_protofile.specs.declared.scope.Scope.{Scope}
use Rattle.sz_protofile.specs.Names.{has_name, unreserved, innermost, called, around_after, declared_by}
use Rattle.sz_protofile.specs.Scalars.{scalar_of}
use Rattle.sz_protofile.specs.Lookup.{Known, looked_up, known_in}

-- a name in a message, which goes by its full name
pub record Named : Type 0 where
  pub owner : List ℕ
  pub name : List ℕ

abbrev pub named : List ℕ → List ℕ → Named
named owner name = record { owner = owner; name = name }

-- a number in a message
pub record Numbered : Type 0 where
  pub owner : List ℕ
  pub number : ℕ

abbrev pub numbered : List ℕ → ℕ → Numbered
numbered owner number = record { owner = owner; number = number }

-- what stands before a line: the messages that are open, names of messages and enums as programs see them, and names
-- and numbers of fields
pub record Before : Type 0 where
  pub around : List Scope
  pub names : List (List ℕ)
  pub fields : List Named
  pub numbers : List Numbered

-- nothing stands before the first line
abbrev pub nothing_before : Before
nothing_before = record { around = []; names = []; fields = []; numbers = [] }

abbrev pub owner_of : Before → List ℕ
owner_of before = (innermost before.around).full

-- a field more
abbrev pub with_member : Spelling → Before → Member → Before
with_member text before m = record {
  around = before.around;
  names = before.names;
  fields = before.fields ++ named (owner_of before) (unreserved (text m.name)) ∷ [];
  numbers = before.numbers ++ numbered (owner_of before) m.number ∷ [];
}

-- one more name of a message or an enum, if there is one
abbrev pub with_taken : List (List ℕ) → Option Scope → List (List ℕ)
with_taken names None = names
with_taken names (Some s) = names ++ unreserved s.joined ∷ []

-- a line more that has no field
abbrev pub with_others : Spelling → Before → Line → Before
with_others text before line = record {
  around = around_after text before.around line;
  names = with_taken before.names (declared_by text before.around line);
  fields = before.fields;
  numbers = before.numbers;
}

-- a line more
abbrev pub with_line : Spelling → Before → Line → Before
with_line text before (lines.Field f) = with_member text before f.member
with_line text before (lines.Unread m) = with_member text before m
with_line text before line = with_others text before line

-- the rule of this number is broken by this token, with the name in it
abbrev pub breaks : ℕ → Token → List ℕ → Option Fault
breaks number t name = Some (record { number = number; place = t.place; name = Some name })

-- a message or an enum: the name may not be there before
abbrev pub name_fault : Spelling → List Scope → List (List ℕ) → Token → Option Fault
name_fault text around names t =
    if has_name (unreserved (called around (text t)).joined) names
    then breaks 3 t (unreserved (called around (text t)).joined) else None

abbrev pub has_field : List ℕ → List ℕ → List Named → Bool
has_field owner name fields = list_any (λ (f : Named). bytes_eq owner f.owner && bytes_eq name f.name) fields

abbrev pub has_number : List ℕ → ℕ → List Numbered → Bool
has_number owner number numbers = list_any (λ (n : Numbered). bytes_eq owner n.owner && nat_eq number n.number) numbers

-- a field: its name may not be in the message before
abbrev pub field_fault : Spelling → List ℕ → List Named → Token → Option Fault
field_fault text owner fields t =
    if has_field owner (unreserved (text t)) fields then breaks 3 t (unreserved (text t)) else None

-- a number that a field may have: 1 to 2^29 - 1
abbrev pub in_range : ℕ → Bool
in_range number = nat_lt 0 number && nat_lt number (2 ^ 29)

-- a field: its number is in range, and not in the message before
abbrev pub number_fault : Spelling → List ℕ → List Numbered → Member → Option Fault
number_fault text owner numbers m =
    if in_range m.number && not (has_number owner m.number numbers) then None
    else breaks 4 m.name (unreserved (text m.name))

-- a field: the name comes before the number
abbrev pub member_fault : Spelling → Before → Member → Option Fault
member_fault text before m =
    option_or (field_fault text (owner_of before) before.fields m.name)
    (number_fault text (owner_of before) before.numbers m)

-- a word for a type: it is that of a scalar, or it means something
abbrev pub type_fault : Spelling → Known → List Scope → Token → Option Fault
type_fault text known around t =
    if is_some (scalar_of (text t)) || is_some (looked_up known around (text t)) then None else breaks 5 t (text t)

-- what is wrong with a line behind others
abbrev pub fault_of : Spelling → Known → Before → Line → Option Fault
fault_of text known before (lines.Message n) = name_fault text before.around before.names n
fault_of text known before (lines.Enum n) = name_fault text before.around before.names n
fault_of text known before (lines.Field f) =
    option_or (member_fault text before f.member) (type_fault text known before.around f.word)
fault_of text known before (lines.Unread m) = member_fault text before m
fault_of text known before line = None

-- the first thing that is wrong with lines behind others
unfoldable pub first_fault : Spelling → Known → Before → List Line → Option Fault
first_fault text known before [] = None
first_fault text known before (line ∷ more) =
    option_or (fault_of text known before line) (first_fault text known (with_line text before line) more)

-- the first thing that is wrong with a file
abbrev pub file_fault : Spelling → List Line → Option Fault
file_fault text all = first_fault text (known_in text all) nothing_before all
