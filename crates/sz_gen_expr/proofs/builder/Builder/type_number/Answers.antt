use Rattle.std.proofs.Common.{◌∙◌, sym, ap, [], ◌∷◌, ◌++◌}
use Rattle.sz_types.specs.Same.{alike}
use Rattle.sz_types.specs.Seen.{seen as shape_of}
use Rattle.sz_gen_expr.proofs.Numbers.{added, not_added}
use Rattle.sz_gen_expr.proofs.builder.Builder.type_number.Goals as goal

pub returns-in_ok-push-clause-kept : goal.returns-in_ok-push-clause-kept
returns-in_ok-push-clause-kept c =
    let types = c.args.self.now.types in
    let t = shape_of c.args.ty.now in
    c.in_ok-push.ensures.ok ∙ ap (λ u. types ++ u ∷ []) c.in_ok-copy_ty.ensures.value
    ∙ added (λ s. alike s t) types t (sym c.place_of-number.ensures.value ∙ c.if-number-len.true ∙ c.len.ensures.value)

pub returns-else-number-len-clause-kept : goal.returns-else-number-len-clause-kept
returns-else-number-len-clause-kept c =
    let t = shape_of c.args.ty.now in
    not_added (λ s. alike s t) c.args.self.now.types t
    (λ same. c.if-number-len.false (c.place_of-number.ensures.value ∙ same ∙ sym c.len.ensures.value))
