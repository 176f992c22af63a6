use Rattle.std.proofs.Common.{◌∙◌, map, ap}
use Rattle.std.specs.Ordering.{is_eq}
use Rattle.sz_value.specs.Seen.{seen}
use Rattle.sz_value.specs.Order.{compare}
use Rattle.sz_gen_rules.specs.Tables.{number_in}
use Rattle.sz_gen_expr.specs.Building.{with_constant}
use Rattle.sz_gen_expr.proofs.Numbers.{number_is, kept_is}
use Rattle.sz_gen_expr.proofs.constants.Constants.number.Goals as goal

-- the set's index is that of the first equal key
pub returns-clause-number : goal.returns-clause-number
returns-clause-number c =
    let d = seen c.in_ok-value.value in
    let keys = c.self.inside.values.keys in
    c.in_ok-number.ensures.index ∙ number_is seen (λ e. is_eq (compare d e)) keys
    ∙ ap (λ ds. number_in ds d) c.self.view_is ∙ ap (number_in c.args.self.now) c.in_ok-value.ensures.value

-- the keys stay, or the new one goes last
pub returns-clause-kept : goal.returns-clause-kept
returns-clause-kept c =
    let d = seen c.in_ok-value.value in
    let keys = c.self.inside.values.keys in
    ap (map seen) c.in_ok-number.ensures.keys ∙ kept_is seen (λ e. is_eq (compare d e)) keys c.in_ok-value.value
    ∙ ap (λ ds. with_constant ds d) c.self.view_is ∙ ap (with_constant c.args.self.now) c.in_ok-value.ensures.value
