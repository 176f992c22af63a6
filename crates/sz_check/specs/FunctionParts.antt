-- What contracts see of the parts of a function.
use Rattle.std.specs.Prelude.{map}
use Rattle.sz_core.specs.Statements.{stms_of}
use Rattle.sz_core.specs.View.{stm_of}
use Rattle.sz_check.specs.declared.function.Body.{Body as Made}
use Rattle.sz_check.specs.Functions.{Body}

-- a function's variables and statements
abbrev pub body_of : Made → Body
body_of b = record { locals = b.locals; statements = stms_of (map stm_of b.statements.items) }
