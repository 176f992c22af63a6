-- What `check` answers, against the judgement.
use Rattle.std.specs.Prelude.{◌≡◌, Result, Ok, Err}
use Rattle.sz_core.specs.Programs.{Core}
use Rattle.sz_check_rules.specs.declared.cause.Cause.{Cause}
use Rattle.sz_check_rules.specs.Causes.{number_of}
use Rattle.sz_check_rules.specs.Refusals.{Judged}
use Rattle.sz_check_names.specs.declared.error.JudgeError.{JudgeError}
use Rattle.sz_check_names.specs.declared.error.JudgeError.TheVariants as judging
use Rattle.sz_check.specs.declared.error.CheckError.{CheckError}
use Rattle.sz_check.specs.declared.error.CheckError.TheVariants.{Refused, NoMemory}

-- an error by the number of its cause
abbrev pub numbered : JudgeError → CheckError
numbered (judging.Refused cause p name) = Refused (number_of cause) p name
numbered judging.NoMemory = NoMemory

-- the answer is the judgement: its program, or its refusal with the number of its cause, unless memory ran out
abbrev pub Answers : Result Core CheckError → Judged Core → Type 0
Answers (Ok program) judged = judged ≡ Ok program
Answers (Err (Refused number p name)) judged =
    (cause : Cause) × (number ≡ number_of cause) × (judged ≡ Err (record { cause = cause; place = p; name = name }))
Answers (Err NoMemory) judged = Unit {0}
