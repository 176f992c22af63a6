-- What is written of an explanation.
use Rattle.std.specs.Prelude.{◌≡◌, ◌++◌, Result, Ok, Err}
use Rattle.std.specs.Io.KnownBytes.{Appends}
use Rattle.std.specs.declared.alloc.AllocError.{AllocError}
use Rattle.sz_io.specs.declared.sink.Sink as sink
use Rattle.sz_io.specs.Calls.{AppendsPart}
use Rattle.szl_explain.specs.declared.explanation.Explanation.{Explanation}
use Rattle.szl_explain.specs.declared.program.Status.{Status}
use Rattle.szl_explain.specs.declared.program.Status.TheVariants.{WriteFailed, NoMemory}
use Rattle.szl_explain.specs.Answers.{status_of}

-- what the status says of an explanation and of the output; where there is none, no call was made of that
abbrev pub Prints : {O : Type 0} → sink.Ghosts O → Result Explanation AllocError → Status → O → O → Type 0
Prints the_out (Err error) status old new = (status ≡ NoMemory) × (new ≡ old)
Prints the_out (Ok e) WriteFailed old new =
    AppendsPart (the_out.taken old) (the_out.taken new) (e.line.items ++ e.more.items)
Prints the_out (Ok e) NoMemory old new =
    AppendsPart (the_out.taken old) (the_out.taken new) (e.line.items ++ e.more.items)
Prints the_out (Ok e) status old new =
    (status ≡ status_of e.refusal) × Appends (the_out.taken old) (the_out.taken new) (e.line.items ++ e.more.items)
