-- No field so far has the name.
use Rattle.std.proofs.Common.{◌≡◌, map, drop}
use Rattle.sz_types.specs.Data.{fields_of}
use Rattle.sz_types.specs.Seen.{seen_field}
use Rattle.sz_check_rules.specs.Agreeing.{field_named}
use Rattle.sz_check_expr.proofs.path.field_named.Given as goal

abbrev pub invariant-loop-i : goal.invariant-loop-i
invariant-loop-i l = field_named l.name l.i (fields_of (map seen_field (drop l.i l.fields)))
    ≡ field_named l.name 0 (fields_of (map seen_field l.fields))
