-- The value is counted again, passed over, or kept.
use Rattle.std.proofs.Common.{◌≡◌, ◌∙◌, ◌<◌, ◌++◌, ◌∷◌, [], length, sym, ap, subst, arith, true, false}
use Rattle.std.specs.List.{IsDistinct}
use Rattle.std.specs.Map.{keys_of}
use Rattle.indexmap.specs.IndexMap.{spare}
use Rattle.sz_types.specs.SeenTables.{seen_table}
use Rattle.sz_value.specs.Seen.{seen}
use Rattle.sz_members.specs.Repeats.{value_eq, is_full}
use Rattle.sz_tabs.proofs.ForCallers.{surely}
use Rattle.sz_members.proofs.MembersLemmas.{gains_again, gains_new, gains_full}
use Rattle.sz_members.proofs.counting.put.Goals as goal
use Rattle.sz_members.proofs.counting.put.Goals.{then-count_again-via-then-count_again, then-count_again-via-else-count_again+then-is_full}

pub returns-then-count_again-clause-value : goal.returns-then-count_again-clause-value
returns-then-count_again-clause-value c =
    let table = seen_table c.args.table.now in
    let old = c.args.tally.now.entries in
    let new = c.count_again.new.tally.entries in
    elim c.then-count_again.branch [
      | then-count_again-via-then-count_again w ↦
          gains_again table (seen c.args.value) c.args.repeats old new
          (c.count_again.ensures.found w.if-count_again.true)
      | then-count_again-via-else-count_again+then-is_full w ↦
          (let same = c.count_again.ensures.kept w.if-count_again.false in
          let unique = subst (λ es. IsDistinct value_eq (keys_of es)) same w.is_full.ensures.unique in
          let full : is_full table (length old) ≡ true =
          ap (λ es. is_full table (length es)) (sym same) ∙ sym w.is_full.ensures.value ∙ w.if-is_full.true in
          gains_full table (seen c.args.value) c.args.repeats old new unique full same)
    ]

pub returns-clause-value : goal.returns-clause-value
returns-clause-value c =
    let table = seen_table c.args.table.now in
    let old = c.args.tally.now.entries in
    let same = c.count_again.ensures.kept c.if-count_again.false in
    let few : is_full table (length old) ≡ false =
    ap (λ es. is_full table (length es)) (sym same) ∙ sym c.is_full.ensures.value ∙ c.if-is_full.false in
    let room : 0 < spare c.count_again.new.tally = omega (arith, c.requires.room, c.count_again.ensures.spare) in
    let kept = surely c.keep.result (c.keep.ensures.succeeds room) c.keep.ensures.ok in
    gains_new table c.args.value c.args.repeats old c.keep.new.tally.entries c.requires.some few
    (kept ∙ ap (λ es. es ++ (c.args.value, c.args.repeats) ∷ []) same)
