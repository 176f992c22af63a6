-- Names of messages, enums and fields: as a file has them, and as programs see them.
use Rattle.std.specs.Prelude.{ℕ, ◌-◌, List, [], ◌∷◌, ◌++◌, length, take, slice_get, unwrap_or, codes, Option, Some, None, option_to_list, Bool, ◌==◌, if◌then◌else◌}
use Rattle.std.specs.Option.{is_some}
use Rattle.std.specs.List.{list_any}
use Rattle.std.specs.Str.{bytes_eq, is_utf8}
use Rattle.sz_lex.specs.Lookup.{word_of}
use Rattle.sz_protofile_lex.specs.Lexemes.{lexeme_of}
use Rattle.sz_protofile.specs.Reading.{Spelling}
use Rattle.sz_protofile.specs.declared.line.Line.{Line}
use Rattle.sz_protofile.specs.declared.line.Line.TheVariants as lines
use Rattle.sz_protofile.specs.declared.scope.Scope.{Scope}

-- how a word of the file is spelled: its bytes, which are text in each word
abbrev pub spelled : List ℕ → Spelling
spelled bytes t = if is_utf8 (lexeme_of bytes t) then lexeme_of bytes t else []

-- whether a list of names has this one
abbrev pub has_name : List ℕ → List (List ℕ) → Bool
has_name name names = list_any (bytes_eq name) names

-- a name as programs see it: a reserved word of theirs gets an underscore more
abbrev pub unreserved : List ℕ → List ℕ
unreserved name = if is_some (word_of name) then name ++ codes "_" else name

-- a name behind others, with the mark between if there are any
abbrev pub put_after : List ℕ → List ℕ → List ℕ → List ℕ
put_after mark before name = if length before == 0 then name else (before ++ mark) ++ name

-- what stands around a message that is in no other
abbrev pub outside : Scope
outside = record { full = []; joined = [] }

-- what is called so inside this
abbrev pub inside : Scope → List ℕ → Scope
inside s name = record { full = put_after (codes ".") s.full name; joined = put_after (codes "_") s.joined name }

-- the innermost of the messages that are open, which is the last
abbrev pub innermost : List Scope → Scope
innermost around = unwrap_or (slice_get around (length around - 1)) outside

-- what is called so inside the messages that are open
abbrev pub called : List Scope → List ℕ → Scope
called around name = inside (innermost around) name

-- the messages that are open after a line
abbrev pub around_after : Spelling → List Scope → Line → List Scope
around_after text around (lines.Message n) = around ++ called around (text n) ∷ []
around_after text around lines.End = take (length around - 1) around
around_after text around line = around

-- what a line declares: a message or an enum
abbrev pub declared_by : Spelling → List Scope → Line → Option Scope
declared_by text around (lines.Message n) = Some (called around (text n))
declared_by text around (lines.Enum n) = Some (called around (text n))
declared_by text around line = None

-- the same of messages alone
abbrev pub message_by : Spelling → List Scope → Line → Option Scope
message_by text around (lines.Message n) = Some (called around (text n))
message_by text around line = None

-- the messages of which lines are, where these messages are open before them, in the order in which they begin
unfoldable pub messages_in : Spelling → List Scope → List Line → List Scope
messages_in text around [] = []
messages_in text around (line ∷ more) =
    option_to_list (message_by text around line) ++ messages_in text (around_after text around line) more
