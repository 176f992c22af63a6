use Rattle.std.proofs.Common.{rules, ℕ, List, [], ◌∷◌, ◌++◌, ◌<◌, ◌^◌, length, ap, arith, ◌∙◌}
use Rattle.sz_records.proofs.FedLemmas.{closes_empty, line_closes, damage_closes, none_finished, line_ends}
use Rattle.sz_records.specs.Ends.{RecordsData, with_record}
use Rattle.sz_records.proofs.framer.Framer.close.Goals as goal
use Rattle.sz_records.proofs.framer.Framer.close.Goals.{in-Lines+in_ok-push-in-Lines, in-Delimited}

pub returns-then-is_empty : goal.returns-then-is_empty
returns-then-is_empty c = record {
  finished = closes_empty c.args.self.now c.args.into.now.items c.requires (search rules);
  ends = none_finished c.args.self.now c.args.into.now;
  err = tt;
}

-- a last line, or the beginning of a delimited record
pub returns-clause-finished : goal.returns-clause-finished
returns-clause-finished c =
    let some : 0 < length c.self.inside.pending.items = search rules in
    elim c.match-self.branch [
      | in-Lines+in_ok-push-in-Lines w ↦ rw (w.result-is, w.into-is) (line_closes _
          c.args.self.now c.args.into.now.items w.push.new.self.items c.self.view_is c.requires w.in-Lines.is some
          (ap (λ (d : RecordsData). d.items) w.in_ok-push-in-Lines.ensures.value
          ∙ ap (λ (bytes : List ℕ). c.args.into.now.items ++ bytes ∷ []) w.as_slice.ensures.value))
      | in-Delimited w ↦ rw (w.result-is, w.into-is)
          (damage_closes _ c.args.self.now c.args.into.now.items c.self.view_is c.requires w.in-Delimited.is some)
    ]

-- a last line ends with the file
pub returns-clause-ends : goal.returns-clause-ends
returns-clause-ends c =
    elim c.match-self.branch [
      | in-Lines+in_ok-push-in-Lines w ↦ (let limit : c.self.inside.cutter.limits.input_bytes < 2 ^ 64 =
          (let r = c.self.ranges in search (rules, r)) in rw (w.result-is, w.into-is) (line_ends _
          c.args.self.now c.args.into.now w.push.new.self w.saturating_add-end.result c.self.view_is c.requires
          (w.in_ok-push-in-Lines.ensures.value ∙ ap (λ (bytes : List ℕ).
          with_record bytes w.saturating_add-end.result c.args.into.now) w.as_slice.ensures.value)
          (λ small. (let sum = w.saturating_add-end.ensures in let len = w.len-size.ensures in
          omega (arith, sum, len, small))) limit w.in-Lines.is))
      | in-Delimited w ↦ rw (w.result-is, w.into-is) (none_finished c.args.self.now c.args.into.now)
    ]
