use Rattle.std.proofs.Common.{List, Option, Some, None, subst}
use Rattle.std.proofs.lemmas.Result.{err_from_is_err_and}
use Rattle.sz_protofile.specs.declared.line.Line.{Line}
use Rattle.sz_protofile.specs.Names.{spelled}
use Rattle.sz_protofile.specs.Types.{TypeShape}
use Rattle.sz_protofile_types.specs.Making.{AreFound}
use Rattle.sz_protofile_types.proofs.ReadLemmas.{still_refused, has_types, only_types, not_refused, not_found, is_large}
use Rattle.sz_protofile_types.proofs.read.read_proto.Goals as goal

pub returns-in_err-lines-clause-refused : goal.returns-in_err-lines-clause-refused
returns-in_err-lines-clause-refused c =
    let p = err_from_is_err_and c.from_residual.result c.from_residual.ensures.1 in
    rw (p.1, p.2) (still_refused c.args.bytes.now _ c.in_err-lines.ensures.refused)

pub returns-in-Some-clause-found : goal.returns-in-Some-clause-found
returns-in-Some-clause-found c =
    has_types c.args.bytes.now c.in_ok-lines.lines.items c.in_ok-lines.ensures.found c.in_ok-lines.ensures.only_found
    c.in_ok-lines.ensures.only_refused c.in-Some.types
    (subst (λ (l : List Line). AreFound (spelled c.args.bytes.now) l (Some c.in-Some.types)) c.as_slice.ensures.value
    (subst (λ (o : Option (List TypeShape)). AreFound (spelled c.args.bytes.now) c.as_slice.result.now o)
    c.in-Some.is c.in_ok-types.ensures.value))

pub returns-in-Some-clause-only_found : goal.returns-in-Some-clause-only_found
returns-in-Some-clause-only_found c =
    only_types c.args.bytes.now c.in_ok-lines.lines.items c.in_ok-lines.ensures.found c.in_ok-lines.ensures.only_found
    c.in_ok-lines.ensures.only_refused c.in-Some.types
    (subst (λ (l : List Line). AreFound (spelled c.args.bytes.now) l (Some c.in-Some.types)) c.as_slice.ensures.value
    (subst (λ (o : Option (List TypeShape)). AreFound (spelled c.args.bytes.now) c.as_slice.result.now o)
    c.in-Some.is c.in_ok-types.ensures.value))

pub returns-in-Some-clause-only_refused : goal.returns-in-Some-clause-only_refused
returns-in-Some-clause-only_refused c =
    not_refused c.args.bytes.now c.in_ok-lines.lines.items c.in_ok-lines.ensures.found
    c.in_ok-lines.ensures.only_found c.in_ok-lines.ensures.only_refused c.in-Some.types
    (subst (λ (l : List Line). AreFound (spelled c.args.bytes.now) l (Some c.in-Some.types)) c.as_slice.ensures.value
    (subst (λ (o : Option (List TypeShape)). AreFound (spelled c.args.bytes.now) c.as_slice.result.now o)
    c.in-Some.is c.in_ok-types.ensures.value))

pub returns-clause-only_found : goal.returns-clause-only_found
returns-clause-only_found c = λ answer h.
    absurd (not_found c.args.bytes.now c.in_ok-lines.lines.items c.in_ok-lines.ensures.found
    c.in_ok-lines.ensures.only_found c.in_ok-lines.ensures.only_refused
    (subst (λ (l : List Line). AreFound (spelled c.args.bytes.now) l None) c.as_slice.ensures.value
    (subst (λ (o : Option (List TypeShape)). AreFound (spelled c.args.bytes.now) c.as_slice.result.now o)
    c.in-None.is c.in_ok-types.ensures.value)) answer h)

pub returns-clause-refused : goal.returns-clause-refused
returns-clause-refused c =
    is_large c.args.bytes.now c.in_ok-lines.lines.items c.in_ok-lines.ensures.found c.in_ok-lines.ensures.only_found
    c.in_ok-lines.ensures.only_refused
    (subst (λ (l : List Line). AreFound (spelled c.args.bytes.now) l None) c.as_slice.ensures.value
    (subst (λ (o : Option (List TypeShape)). AreFound (spelled c.args.bytes.now) c.as_slice.result.now o)
    c.in-None.is c.in_ok-types.ensures.value))
