use Rattle.std.proofs.Common.{◌≡◌, ◌++◌, ◌∷◌, [], sym, subst, IfOk, OnErr, not, length, if◌then◌else◌, rules}
use Rattle.sz_check_rules.specs.Names.{has}
use Rattle.sz_check_names.specs.Knowledge.{meaning_of}
use Rattle.sz_check_names.specs.Keeping.{knowledge_of, blocks_by, with_name, placed, IsTyped}
use Rattle.sz_check_names.proofs.KeepingLemmas.{kept_by_put, put_new, put_ok, put_err, types_are}
use Rattle.sz_check_names.proofs.known.Known.put.Goals as goal

-- a type is one of those that are known
typed : (c : goal.After-is_new) → IsTyped (length c.self.inside.types) c.args.meaning
typed c =
    let k = c.self.inside in
    subst (λ ts. IsTyped (length ts) c.args.meaning)
    (sym (types_are k.types k.meanings.items k.scopes k.sight k.locals c.args.self.now c.self.view_is))
    c.requires.typed

-- the meaning stands at the end of the list
at_end : (c : goal.After-is_new) → c.in_ok-place.place ≡ length c.self.inside.meanings.items
at_end c =
    let same = subst (λ r. IfOk r (λ made. made ≡ c.len.result)) c.in_ok-place.ensures.ok.0 c.small.ensures.value in
    search (rules, same)

pushed : (c : goal.After-is_new) → c.push.new.self.items ≡ c.self.inside.meanings.items ++ c.args.meaning ∷ []
pushed c = rw (c.in_ok-place.ensures.ok.1) at c.in_ok-push.ensures.items

placed_is : (c : goal.After-is_new) → c.placed-what.result ≡ placed c.in_ok-place.place c.args.meaning
placed_is c = rw (c.in_ok-place.ensures.ok.1) at c.placed-what.ensures.value

pub invariant_of-self-2 : goal.invariant_of-self-2
invariant_of-self-2 c =
    let k = c.self.inside in
    kept_by_put k.types k.meanings.items c.push.new.self.items c.args.meaning c.args.name.now k.scopes
    c.declare.new.self k.sight c.in_ok-place.place c.placed-what.result
    c.self.invariant (typed c) (pushed c) (at_end c)
    (placed_is c) c.declare.result c.declare.ensures.ok c.declare.ensures.err

pub returns-clause-new : goal.returns-clause-new
returns-clause-new c =
    let k = c.self.inside in
    subst (λ r. IfOk r (λ new. new ≡ not (has c.args.name.now c.args.self.now.innermost))) (sym c.is_new.ensures.value)
    (put_new k.types k.meanings.items c.push.new.self.items c.args.meaning c.args.name.now k.scopes c.declare.new.self
    k.sight c.in_ok-place.place c.placed-what.result c.self.invariant (typed c) (pushed c) (at_end c)
    (placed_is c) c.declare.result c.declare.ensures.ok c.declare.ensures.err
    k.locals c.args.self.now c.self.view_is c.declare.ensures.twice)

pub returns-clause-ok : goal.returns-clause-ok
returns-clause-ok c =
    let k = c.self.inside in
    let types = types_are k.types k.meanings.items k.scopes k.sight k.locals c.args.self.now c.self.view_is in
    let after = knowledge_of (blocks_by k.types c.push.new.self.items c.declare.new.self) k.sight k.types k.locals in
    subst (λ ts. IfOk c.is_new.result
    (λ new. after ≡ (if new then with_name c.args.name.now (meaning_of ts c.args.meaning) c.args.self.now
    else c.args.self.now))) types (subst (λ r. IfOk r (λ new. after
    ≡ (if new then with_name c.args.name.now (meaning_of k.types c.args.meaning) c.args.self.now
    else c.args.self.now))) (sym c.is_new.ensures.value) (put_ok k.types k.meanings.items c.push.new.self.items
    c.args.meaning c.args.name.now k.scopes c.declare.new.self k.sight c.in_ok-place.place
    c.placed-what.result
    c.self.invariant (typed c) (pushed c) (at_end c)
    (placed_is c) c.declare.result c.declare.ensures.ok c.declare.ensures.err
    k.locals c.args.self.now c.self.view_is c.declare.ensures.twice))

pub returns-clause-err : goal.returns-clause-err
returns-clause-err c =
    let k = c.self.inside in
    let after = knowledge_of (blocks_by k.types c.push.new.self.items c.declare.new.self) k.sight k.types k.locals in
    subst (λ r. OnErr r (after ≡ c.args.self.now)) (sym c.is_new.ensures.value)
    (put_err k.types k.meanings.items c.push.new.self.items c.args.meaning c.args.name.now k.scopes c.declare.new.self
    k.sight c.in_ok-place.place c.placed-what.result c.self.invariant (typed c) (pushed c) (at_end c)
    (placed_is c) c.declare.result c.declare.ensures.ok c.declare.ensures.err
    k.locals c.args.self.now c.self.view_is c.declare.ensures.twice)
