use Rattle.std.proofs.Common.{ap, ◌∙◌}
use Rattle.indexmap.specs.IndexMap.{get_by_text}
use Rattle.sz_protofile_types.specs.Holding.{counted}
use Rattle.sz_protofile_types.proofs.HoldingLemmas.{none_found, counts_none, counts_more}
use Rattle.sz_protofile_types.proofs.count.count_fields.Goals as goal

pub loop-field-init : goal.loop-field-init
loop-field-init c = λ m. ap counted (none_found c.new-counts.result c.new-counts.ensures.empty _)
    ∙ counts_none c.args.ranks.now m

pub loop-field-preserved : goal.loop-field-preserved
loop-field-preserved c =
    counts_more c.args.ranks.now (λ m. counted (get_by_text c.loop-field.counts m))
    (λ m. counted (get_by_text c.count_field.new.counts m)) c.args.fields.now
    c.loop-field.field-index c.field-item.result c.loop-field-test.true c.field-item.is c.loop-field.invariant
    c.in_ok-count_field.ensures.ok
