use Rattle.std.proofs.Common.{ℕ, List, Option, option_copied, drop, ◌+◌, sym, ap, ◌∙◌}
use Rattle.sz_protofile.specs.Names.{spelled}
use Rattle.sz_protofile.specs.Lookup.{package_in}
use Rattle.sz_protofile_names.proofs.LoopLemmas.{package_step, package_end}
use Rattle.sz_protofile_names.proofs.known.package_in.Goals as goal

pub loop-line-preserved : goal.loop-line-preserved
loop-line-preserved c =
    ap (λ (o : Option (List ℕ)). package_in (spelled c.args.bytes.now) o
    (drop (c.loop-line.line-index + 1) c.args.lines.now)) c.package_by-last.ensures.value
    ∙ sym (package_step (spelled c.args.bytes.now) c.args.lines.now c.loop-line.line-index _ c.loop-line-test.true
    (option_copied c.loop-line.last)) ∙ c.loop-line.invariant

pub returns : goal.returns
returns c = record {
  value = sym (package_end (spelled c.args.bytes.now) c.args.lines.now c.loop-line.line-index c.loop-line-test.false
      (option_copied c.loop-line.last)) ∙ c.loop-line.invariant;
}
