use Rattle.std.proofs.Common.{List, subst}
use Rattle.std.proofs.lemmas.Result.{IfOk-weaker}
use Rattle.sz_protofile.specs.declared.field.FieldIn.{FieldIn}
use Rattle.sz_protofile_types.specs.Ranks.{IsRanking}
use Rattle.sz_protofile_types.specs.Making.{AreMadeIfFew}
use Rattle.sz_protofile_types.proofs.FoundLemmas.{found_by}
use Rattle.sz_protofile_types.proofs.read.types_by.Goals as goal

pub returns : goal.returns
returns c =
    let ranks = c.in_ok-ranks.ranks in
    let messages = c.args.messages.now in
    let ordered = c.in_ok-ordered.ordered.items in
    record {
      value = IfOk-weaker c.made_if_few.result _ _
          (λ found made text all m f. found_by text all ranks messages c.args.fields.items ordered m f
          (subst (λ (l : List FieldIn). IsRanking l ranks) c.as_slice.ensures.value c.in_ok-ranks.ensures.value)
          c.in_ok-ordered.ensures.value found
          (subst (λ (l : List FieldIn). AreMadeIfFew ranks l messages found) c.as_slice-2.ensures.value made))
          c.made_if_few.ensures.value;
    }
