use Rattle.std.proofs.Common.{Some, [], ◌∷◌, ◌++◌, refl, ap, subst, ◌∙◌}
use Rattle.std.specs.Option.{IsSome}
use Rattle.std.proofs.lemmas.Map.Text.{hash_map_updates_text}
use Rattle.std.proofs.lemmas.Result.{on_ok_weaker}
use Rattle.indexmap.specs.IndexMap.{get_by_text}
use Rattle.sz_types.specs.Seen.{seen_field}
use Rattle.sz_protofile_types.specs.Holding.{seen_found}
use Rattle.sz_protofile_types.proofs.HoldingLemmas.{found_put}
use Rattle.sz_protofile_types.proofs.make.put.Goals as goal

pub returns-in-Some : goal.returns-in-Some
returns-in-Some c =
    let owner = c.args.owner.now in
    let old = c.args.made.now in
    let w = c.push.new.self in
    let new = c.get_mut.follows.lender w in
    record {
      ok = on_ok_weaker c.push.result
          (λ pushed. found_put owner (get_by_text old) (get_by_text new) w
          (seen_found (get_by_text old owner) ++ seen_field c.args.field ∷ [])
          (pushed ∙ ap (λ o. seen_found o ++ seen_field c.args.field ∷ []) c.in-Some.ensures.value)
          (hash_map_updates_text owner old new (Some w)
          ((c.get_mut.follows.holds w).3 (subst IsSome c.in-Some.ensures.value refl))))
          c.push.ensures.ok;
    }
