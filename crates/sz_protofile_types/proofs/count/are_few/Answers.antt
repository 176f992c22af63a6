use Rattle.std.proofs.Common.{nat_le, ap, ◌∙◌}
use Rattle.indexmap.specs.IndexMap.{get_by_text}
use Rattle.sz_protofile.specs.Types.{field_count, most_fields}
use Rattle.sz_protofile_types.specs.Making.{type_in, made_of}
use Rattle.sz_protofile_types.specs.Holding.{counted}
use Rattle.sz_protofile_types.proofs.HoldingLemmas.{few_by}
use Rattle.sz_protofile_types.proofs.count.are_few.Goals as goal

pub returns : goal.returns
returns c = record {
  value = ap (λ n. nat_le n most_fields) c.total.ensures.value
      ∙ few_by (λ m. field_count (type_in (made_of c.args.ranks.now c.args.fields.now) m))
      (λ m. counted (get_by_text c.in_ok-counts.counts m)) c.args.messages.now
      c.in_ok-counts.ensures.value;
}
