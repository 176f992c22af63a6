use Rattle.std.proofs.Common.{◌≡◌, IfOk, map, subst}
use Rattle.sz_protofile_types.specs.Making.{Made, type_in, type_named}
use Rattle.sz_protofile_types.proofs.make.make_types.Goals as goal

pub returns : goal.returns
returns c = record {
  value = subst (λ (x : Made). IfOk c.all_named.result
      (λ types. types ≡ map (type_named (type_in x)) c.args.messages.now)) (λ j m. c.in_ok-made.ensures.value m j)
      c.all_named.ensures.value;
}
