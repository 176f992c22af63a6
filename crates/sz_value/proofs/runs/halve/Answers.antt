-- A long run has two halves, and both have pairs.
use Rattle.std.proofs.Common.{◌≡◌, ◌+◌, ◌/◌, rules, take, drop, set, ◌∙◌, ap, sym, subst, length, arith}
use Rattle.std.specs.List.{insert}
use Rattle.sz_value.specs.Runs.{AreFilled, AreEnds}
use Rattle.sz_value.specs.Seen.{seen_runs}
use Rattle.sz_value.specs.declared.value.Run.{Run}
use Rattle.sz_value.proofs.HalfLemmas.{halved, kept_before, one_at, front_halved}
use Rattle.sz_value.proofs.runs.halve.Goals as goal

-- the two halves
abbrev head : goal.After-drop-index_mut → Run
head c = record { pairs = c.split_off.new.self; end = c.index_mut.result.now.end }

abbrev half : goal.After-drop-index_mut → Run
half c = record { pairs = c.in-Ok.half; end = c.index_mut-in-Ok.result.now.end }

abbrev none : goal.After-drop-index_mut → Run
none c = record { pairs = c.new.result; end = 0 }

inserted : (c : goal.After-drop-index_mut)
    → c.insert.new.self.items ≡ insert c.args.runs.now.items (c.args.at + 1) (none c)
inserted c = search rules

both : (c : goal.After-drop-index_mut)
    → record {
      filled : AreFilled (set (set c.insert.new.self.items c.args.at (head c)) (c.args.at + 1) (half c));
      same : seen_runs (set (set c.insert.new.self.items c.args.at (head c)) (c.args.at + 1) (half c))
          ≡ seen_runs c.args.runs.now.items;
    }
both c =
    let middle = c.len-count.result / 2 in
    let items = c.args.runs.now.items in
    let run = c.index_mut.result.now in
    let kept = kept_before middle run (none c) (head c)
    (half c) items c.insert.new.self.items c.args.at (inserted c) c.requires.within in
    let here = c.index_mut.ensures.value ∙ kept in
    let counted =
    ap (λ r. r.pairs.len) (one_at items c.args.at c.index.result.now run c.requires.within c.index.ensures here) in
    let long = ap (λ r. length r.pairs.items) here in
    halved middle run (none c) (head c) (half c) items c.insert.new.self.items c.args.at (inserted c) c.requires.filled
    c.requires.within c.new.ensures.items (omega (arith, c.if-count-lt-LONG.false))
    (omega (arith, c.len-count.ensures, counted, long, run.pairs.ok, c.if-count-lt-LONG.false))
    (c.in-Ok.ensures.items ∙ ap (λ r. take middle r.pairs.items) here)
    (c.in-Ok.ensures.tail ∙ ap (λ r. drop middle r.pairs.items) here)

pub returns-in-Ok-clause-filled : goal.returns-in-Ok-clause-filled
returns-in-Ok-clause-filled c = (both c).filled

pub returns-in-Ok-clause-front : goal.returns-in-Ok-clause-front
returns-in-Ok-clause-front c =
    let kept = front_halved c.args.runs.now.items c.insert.new.self.items c.args.at (none c) (head c)
    (half c) c.requires.within (inserted c) in
    subst (AreEnds 0) (sym kept) c.requires.front

pub returns-in-Ok-clause-same : goal.returns-in-Ok-clause-same
returns-in-Ok-clause-same c = (both c).same
