-- What a function that judges returned, against the judgement.
use Rattle.std.specs.Prelude.{◌≡◌, Result, Ok, Err}
use Rattle.sz_check_names.specs.declared.error.JudgeError.{JudgeError}
use Rattle.sz_check_names.specs.declared.error.JudgeError.TheVariants as errors
use Rattle.sz_check_rules.specs.Refusals.{Judged}

-- the judgement is this refusal, unless memory ran out
abbrev pub Stops : {Y : Type 0} → JudgeError → Judged Y → Type 0
Stops (errors.Refused cause p name) judged = judged ≡ Err (record { cause = cause; place = p; name = name })
Stops errors.NoMemory judged = Unit {0}

-- the result, seen by view, is the judgement, unless memory ran out
abbrev pub Judges : {X Y : Type 0} → (X → Y) → Result X JudgeError → Judged Y → Type 0
Judges view (Ok x) judged = judged ≡ Ok (view x)
Judges view (Err e) judged = Stops e judged
