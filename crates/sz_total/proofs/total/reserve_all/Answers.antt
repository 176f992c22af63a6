-- Each turn makes room in one table.
use Rattle.std.proofs.Common.{◌∙◌, refl, arith}
use Rattle.sz_total.proofs.MergingLemmas.{made_none, next_matched, changes_more, made_more, all_made, length_changed}
use Rattle.sz_total.proofs.total.reserve_all.Goals as goal

pub loop-at-init : goal.loop-at-init
loop-at-init c = (made_none c.args.states.now.items c.args.others.now.items, refl)

pub reserve_at-requires : goal.reserve_at-requires
reserve_at-requires c =
    let l = c.loop-at in
    record {
      matched = next_matched l.at c.args.states.now.items c.args.others.now.items l.states.items l.others.items
          c.requires.matched l.invariant.0 (omega (arith, c.loop-at-test.true, l.invariant.1));
    }

pub returns-in_err-reserve_at-clause-kept : goal.returns-in_err-reserve_at-clause-kept
returns-in_err-reserve_at-clause-kept c =
    changes_more c.loop-at.at c.args.states.now.items c.loop-at.states.items c.reserve_at.new.states.items
    c.loop-at.invariant.0.kept c.reserve_at.ensures.kept

pub returns-in_err-reserve_at-clause-others : goal.returns-in_err-reserve_at-clause-others
returns-in_err-reserve_at-clause-others c =
    changes_more c.loop-at.at c.args.others.now.items c.loop-at.others.items c.reserve_at.new.others.items
    c.loop-at.invariant.0.others_kept c.reserve_at.ensures.others

pub loop-at-preserved : goal.loop-at-preserved
loop-at-preserved c =
    let l = c.loop-at in (
      made_more l.at c.args.states.now.items c.args.others.now.items l.states.items l.others.items
          c.reserve_at.new.states.items c.reserve_at.new.others.items l.invariant.0 c.in_ok-reserve_at.ensures.kept
          c.in_ok-reserve_at.ensures.others c.in_ok-reserve_at.ensures.ok,
      length_changed l.at l.others.items c.reserve_at.new.others.items c.reserve_at.ensures.others ∙ l.invariant.1,
    )

pub returns-clause-ok : goal.returns-clause-ok
returns-clause-ok c =
    let l = c.loop-at in
    all_made l.at c.args.states.now.items c.args.others.now.items l.states.items l.others.items
    (omega (arith, l.invariant.1, c.loop-at-test.false)) l.invariant.0
