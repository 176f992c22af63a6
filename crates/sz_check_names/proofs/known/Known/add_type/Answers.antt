use Rattle.std.proofs.Common.{subst, IfOk, ◌≡◌, ◌++◌, ◌∷◌, []}
use Rattle.sz_check_names.specs.Written.{shape_in}
use Rattle.sz_check_names.proofs.KeepingLemmas.{kept_added, added_known, types_are}
use Rattle.sz_check_names.proofs.known.Known.add_type.Goals as goal

pub invariant_of-self : goal.invariant_of-self
invariant_of-self c =
    let k = c.self.inside in
    kept_added k.types c.add.new.self
    (shape_in k.types c.args.written)
    k.meanings.items k.scopes k.sight c.self.invariant c.add.result c.add.ensures.ok c.add.ensures.err

pub returns-clause-ok : goal.returns-clause-ok
returns-clause-ok c =
    let k = c.self.inside in
    added_known k.types c.add.new.self (shape_in c.args.self.now.outside.types c.args.written)
    k.meanings.items k.scopes k.sight c.self.invariant c.add.result
    (subst (λ types. IfOk c.add.result (λ n. c.add.new.self ≡ k.types ++ shape_in types c.args.written ∷ []))
    (types_are k.types k.meanings.items k.scopes k.sight k.locals c.args.self.now c.self.view_is) c.add.ensures.ok)
    (c.add.ensures.err) k.locals c.args.self.now c.self.view_is
