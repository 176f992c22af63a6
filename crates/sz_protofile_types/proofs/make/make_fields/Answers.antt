use Rattle.std.proofs.Common.{sym, ap, ◌∙◌}
use Rattle.indexmap.specs.IndexMap.{get_by_text}
use Rattle.sz_protofile_types.specs.Holding.{seen_found}
use Rattle.sz_protofile_types.proofs.HoldingLemmas.{none_found, made_none, makes_more}
use Rattle.sz_protofile_types.proofs.make.make_fields.Goals as goal

pub loop-field-init : goal.loop-field-init
loop-field-init c = λ m. ap seen_found (none_found c.new-made.result c.new-made.ensures.empty _)
    ∙ sym (made_none c.args.ranks.now m)

pub loop-field-preserved : goal.loop-field-preserved
loop-field-preserved c =
    makes_more c.args.ranks.now (λ m. seen_found (get_by_text c.loop-field.made m))
    (λ m. seen_found (get_by_text c.make_field.new.made m)) c.args.fields.now
    c.loop-field.field-index c.field-item.result c.loop-field-test.true c.field-item.is c.loop-field.invariant
    c.in_ok-make_field.ensures.ok
