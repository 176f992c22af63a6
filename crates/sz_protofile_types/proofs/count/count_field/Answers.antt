use Rattle.std.proofs.Common.{Some, refl, ◌∙◌}
use Rattle.std.specs.String.{string_bytes}
use Rattle.std.proofs.lemmas.Map.Text.{hash_map_updates_text}
use Rattle.indexmap.specs.IndexMap.{get_by_text}
use Rattle.sz_protofile_types.proofs.HoldingLemmas.{counted_more}
use Rattle.sz_protofile_types.proofs.count.count_field.Goals as goal

pub returns : goal.returns
returns c =
    let key = c.in_ok-from_str.field-0 in
    record {
      ok = counted_more c.args.ranks.now c.args.field.now (string_bytes key) (get_by_text c.args.counts.now)
          (get_by_text c.insert.new.self) c.capped-count.result c.count_of.result c.added_by.result
          (c.in_ok-from_str.ensures.ok ∙ c.as_str-owner.ensures.value) c.capped-count.ensures.value
          (rw (c.count_of.ensures.value, c.as_str-owner.ensures.value) refl) c.added_by.ensures.value
          (hash_map_updates_text (string_bytes key) c.args.counts.now c.insert.new.self (Some c.capped-count.result)
          c.in_ok-insert.ensures.updates);
    }
