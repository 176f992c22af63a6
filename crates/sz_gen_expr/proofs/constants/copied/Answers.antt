use Rattle.std.proofs.Common.{◌∙◌, ◌++◌, ◌∷◌, [], ◌+◌, map, drop, sym, ap, append_assoc, append-nil}
use Rattle.sz_value.specs.Seen.{seen}
use Rattle.sz_types.proofs.ForCallers.{rest_more, rest_none}
use Rattle.sz_gen_expr.proofs.constants.copied.Goals as goal

-- one copy more
pub loop-value-preserved : goal.loop-value-preserved
loop-value-preserved c =
    let rest = map seen (drop (c.loop-value.value-index + 1) c.args.values.now) in
    ap (λ l. l ++ rest) c.in_ok-push.ensures.ok
    ∙ append_assoc c.loop-value.list (seen c.in_ok-made.made ∷ []) rest
    ∙ ap (λ d. c.loop-value.list ++ d ∷ rest) c.in_ok-made.ensures.value
    ∙ ap (λ l. c.loop-value.list ++ l)
    (sym (rest_more seen
    c.args.values.now c.loop-value.value-index c.value-item.result c.loop-value-test.true c.value-item.is))
    ∙ c.loop-value.invariant

pub returns : goal.returns
returns c = record {
  value = sym (append-nil c.loop-value.list)
      ∙ ap (λ l. c.loop-value.list ++ l)
      (sym (rest_none seen c.args.values.now c.loop-value.value-index c.loop-value-test.false))
      ∙ c.loop-value.invariant;
}
