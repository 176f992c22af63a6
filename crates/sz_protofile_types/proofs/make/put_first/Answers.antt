use Rattle.std.proofs.Common.{Some, [], ◌∷◌, ◌++◌, cond, bytes_eq, ap, ◌∙◌}
use Rattle.std.specs.String.{string_bytes}
use Rattle.std.proofs.lemmas.Map.Text.{hash_map_updates_text}
use Rattle.indexmap.specs.IndexMap.{get_by_text}
use Rattle.sz_types.specs.Seen.{seen_field}
use Rattle.sz_protofile_types.proofs.HoldingLemmas.{found_put}
use Rattle.sz_protofile_types.proofs.make.put_first.Goals as goal

pub returns : goal.returns
returns c =
    let key = c.in_ok-from_str.field-0 in
    let old = get_by_text c.args.made.now in
    record {
      ok = found_put c.args.owner.now old (get_by_text c.insert.new.self) c.push.new.self (seen_field c.args.field ∷ [])
          (c.in_ok-push.ensures.ok ∙ ap (λ l. l ++ seen_field c.args.field ∷ []) c.in_ok-fields.ensures.value)
          (λ m. hash_map_updates_text (string_bytes key) c.args.made.now c.insert.new.self (Some c.push.new.self)
          c.in_ok-insert.ensures.updates m
          ∙ ap (λ x. cond (bytes_eq x m) (Some c.push.new.self) (old m)) c.in_ok-from_str.ensures.ok);
    }
