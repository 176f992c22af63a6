use Rattle.std.proofs.Common.{◌≡◌, ◌∷◌, IfOk, not, subst, sym, if◌then◌else◌}
use Rattle.sz_scope.specs.declared.meaning.Meaning.TheVariants.{Input}
use Rattle.sz_check_rules.specs.Refusals.{has_name}
use Rattle.sz_check_names.specs.Parts.{names_in}
use Rattle.sz_check_names.proofs.TakenLemmas.{taken_free, taken_ok}
use Rattle.sz_check_names.proofs.field_names.TakenNames.add.Goals as goal

pub returns-clause-free : goal.returns-clause-free
returns-clause-free c =
    let free = taken_free c.args.name.now Input
    c.self.inside.stored c.declare.new.self c.declare.result c.self.invariant c.declare.ensures.twice in
    subst (λ taken. IfOk c.is_new.result (λ free. free ≡ not (has_name c.args.name.now taken))) c.self.view_is
    (subst (λ r. IfOk r (λ free. free ≡ not (has_name c.args.name.now (names_in c.self.inside.stored))))
    (sym c.is_new.ensures.value) free)

pub returns-clause-ok : goal.returns-clause-ok
returns-clause-ok c =
    let ok = taken_ok c.args.name.now Input c.self.inside.stored c.declare.new.self c.declare.result c.self.invariant
    c.declare.ensures.ok c.declare.ensures.err in
    subst (λ taken. IfOk c.is_new.result
    (λ free. names_in c.declare.new.self ≡ (if free then c.args.name.now ∷ taken else taken))) c.self.view_is
    (subst (λ r. IfOk r (λ free. names_in c.declare.new.self
    ≡ (if free then c.args.name.now ∷ names_in c.self.inside.stored else names_in c.self.inside.stored)))
    (sym c.is_new.ensures.value) ok)
