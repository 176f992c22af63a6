-- The causes of refusals: each has a number and a text.
use Rattle.std.specs.Prelude.{◌≡◌, ℕ, List, codes}
use Rattle.sz_check_rules.specs.declared.cause.Cause.{Cause}
use Rattle.sz_check_rules.specs.declared.cause.Cause.TheVariants.{BadChar, BadLiteral, NotUtf8, TooLong, Syntax, UnknownName, Redeclared, WrongKind, WrongType, NoType}
use Rattle.sz_check_rules.specs.declared.cause.Cause.TheVariants.{NoField, WrongCount, WrongWeight, NotAssignable, Misplaced, LeftOut, BadTable, BadProto, Unbounded}
use Rattle.sz_check_rules.specs.declared.cause.Cause.TheVariants.{QuantOrder, TooMany, EmitHere, ReservedName, TypeTooDeep}

-- the number and the text of a cause
abbrev pub row : Cause → ℕ × List ℕ
row BadChar = (1, codes "bad character")
row BadLiteral = (2, codes "bad literal")
row NotUtf8 = (3, codes "not UTF-8")
row TooLong = (4, codes "too long")
row Syntax = (5, codes "syntax")
row UnknownName = (6, codes "unknown name")
row Redeclared = (7, codes "declared twice")
row WrongKind = (8, codes "wrong kind of name")
row WrongType = (9, codes "wrong type")
row NoType = (10, codes "composite without a type")
row NoField = (11, codes "no such field")
row WrongCount = (12, codes "wrong count")
row WrongWeight = (13, codes "wrong weight")
row NotAssignable = (14, codes "not assignable")
row Misplaced = (15, codes "misplaced statement")
row LeftOut = (16, codes "not in this profile")
row BadTable = (17, codes "bad table")
row BadProto = (18, codes "bad proto field")
row Unbounded = (19, codes "unbounded variable")
row QuantOrder = (20, codes "all must come last")
row TooMany = (21, codes "too many tables")
row EmitHere = (22, codes "emit not allowed here")
row ReservedName = (24, codes "reserved name: _undefs")
row TypeTooDeep = (25, codes "table type too deep")

abbrev pub number_of : Cause → ℕ
number_of cause = (row cause).0

-- some cause has the number
abbrev pub IsNumber : ℕ → Type 0
IsNumber number = (cause : Cause) × (number ≡ number_of cause)

abbrev pub text_of : Cause → List ℕ
text_of cause = (row cause).1
