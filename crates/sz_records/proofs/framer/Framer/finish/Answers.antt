use Rattle.std.proofs.Common.{ap, sym, ◌∙◌}
use Rattle.sz_records.specs.Fed.{FramerData}
use Rattle.sz_records.proofs.FedLemmas.{closes_ended, none_finished}
use Rattle.sz_records.proofs.framer.Framer.finish.Goals as goal

pub returns-in-Some : goal.returns-in-Some
returns-in-Some c =
    let known = sym (ap (λ (f : FramerData). f.ended) c.self.view_is) ∙ c.in-Some.is in
    record {
      finished = closes_ended c.args.self.now c.args.into.now.items c.in-Some.ending known;
      ends = none_finished c.args.self.now c.args.into.now;
      err = tt;
    }
