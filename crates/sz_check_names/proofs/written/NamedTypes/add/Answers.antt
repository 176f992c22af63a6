use Rattle.std.proofs.Common.{◌≡◌, sym, ap, subst, ◌∙◌, ◌∷◌, [], ◌++◌, IfOk, rules}
use Rattle.sz_check_names.specs.Written.{shapes_of, shape_in}
use Rattle.sz_check_names.proofs.WrittenLemmas.{length_shapes, shapes_more}
use Rattle.sz_check_names.proofs.written.NamedTypes.add.Goals as goal

pub returns-clause-number : goal.returns-clause-number
returns-clause-number c =
    let count = length_shapes c.self.inside.stored.items in
    let same = subst (λ r. IfOk r (λ made. made ≡ c.len.result)) c.in_ok-number.ensures.ok.0 c.small.ensures.value in
    rw (← c.self.view_is) (search (rules, same, sym count))

-- the type is kept as one of the same shape
pub returns-clause-ok : goal.returns-clause-ok
returns-clause-ok c =
    let stored = c.self.inside.stored.items in
    let same = subst (λ types. shape_in (shapes_of types) c.in_ok-kept.kept
    ≡ shape_in (shapes_of types) c.in_ok-number.written) c.as_slice.ensures.value
    c.in_ok-kept.ensures.value in
    ap shapes_of c.in_ok-push.ensures.items ∙ shapes_more stored c.in_ok-kept.kept
    ∙ ap (λ shape. shapes_of stored ++ shape ∷ []) (same ∙ ap (shape_in (shapes_of stored)) c.in_ok-number.ensures.ok.1)
    ∙ ap (λ types. types ++ shape_in types c.args.written ∷ []) c.self.view_is
