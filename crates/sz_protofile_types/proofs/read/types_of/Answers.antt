use Rattle.std.proofs.Common.{◌∙◌}
use Rattle.std.proofs.lemmas.Result.{IfOk-weaker}
use Rattle.sz_protofile.specs.Names.{spelled}
use Rattle.sz_protofile_types.proofs.read.types_of.Goals as goal

pub returns : goal.returns
returns c = record {
  value = IfOk-weaker c.types_by.result _ _
      (λ found made. made (spelled c.args.bytes.now) c.args.lines.now
      (c.as_slice.ensures.value ∙ c.in_ok-messages.ensures.value) c.in_ok-fields.ensures.value)
      c.types_by.ensures.value;
}
