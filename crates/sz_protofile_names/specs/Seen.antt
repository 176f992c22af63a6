-- What contracts see of what stands before a line.
use Rattle.std.specs.Prelude.{[], ◌∷◌, ◌++◌}
use Rattle.sz_protofile_lex.specs.declared.token.Token.{Token}
use Rattle.sz_protofile.specs.declared.line.Line.{Line}
use Rattle.sz_protofile.specs.Reading.{Spelling}
use Rattle.sz_protofile.specs.Names.{unreserved, called, around_after}
use Rattle.sz_protofile.specs.Faults as faults
use Rattle.sz_protofile_names.specs.declared.before.Before.{Before}

abbrev pub seen_before : Before → faults.Before
seen_before b = record { around = b.around.items; names = b.names; fields = b.fields; numbers = b.numbers }

-- a line more that declares a message or an enum of this name
abbrev pub with_declared_line : Spelling → faults.Before → Line → Token → faults.Before
with_declared_line text before line name = record {
  around = around_after text before.around line;
  names = before.names ++ unreserved (called before.around (text name)).joined ∷ [];
  fields = before.fields;
  numbers = before.numbers;
}

-- a line more that has no name
abbrev pub with_around : Spelling → faults.Before → Line → faults.Before
with_around text before line = record {
  around = around_after text before.around line;
  names = before.names;
  fields = before.fields;
  numbers = before.numbers;
}
