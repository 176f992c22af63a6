-- Where an expression stands.
use Rattle.std.specs.Prelude.{Bool, true, false}
use Rattle.sz_check_names.specs.declared.site.Site.{Site}
use Rattle.sz_check_names.specs.declared.site.Site.TheVariants.{Statement, Condition, Static}

-- whether a function that emits may be called there
abbrev pub may_emit : Site → Bool
may_emit Statement = true
may_emit Condition = false
may_emit Static = false
