-- A refusal: for a cause at a place, and of a judgement.
use Rattle.std.specs.Prelude.{None, Result, Ok, Err}
use Rattle.sz_types.specs.declared.place.Place.{Place}
use Rattle.sz_core.specs.Programs.{Core}
use Rattle.sz_check_rules.specs.Refusals.{Judged}
use Rattle.sz_check_rules.specs.Refusals as judging
use Rattle.sz_check_rules.specs.declared.cause.Cause.{Cause}
use Rattle.sz_refusals.specs.declared.refusal.Refusal.{Refusal}

-- the refusal for a cause at a place, without a name
abbrev pub refusal_at : Cause → Place → Refusal
refusal_at cause place = record { cause = cause; place = place; name = None }

-- a refusal of the judgement, by its cause
abbrev pub refusal_of : judging.Refusal → Refusal
refusal_of r = record { cause = r.cause; place = r.place; name = r.name }

-- what is judged, with its refusal by its cause
abbrev pub judged_so : Judged Core → Result Core Refusal
judged_so (Ok program) = Ok program
judged_so (Err r) = Err (refusal_of r)
