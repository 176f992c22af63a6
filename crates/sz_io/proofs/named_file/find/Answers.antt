-- Where the name stands, no later file has it.
use Rattle.std.proofs.Common.{◌≡◌, ◌-◌, true, sym, ap, arith, ◌∙◌}
use Rattle.std.specs.Str.{bytes_eq}
use Rattle.sz_io.proofs.NamedLemmas.{found_at}
use Rattle.sz_io.proofs.named_file.find.Goals as goal

pub returns-then-eq-clause-value : goal.returns-then-eq-clause-value
returns-then-eq-clause-value c =
    let same : bytes_eq c.as_str.result.now c.args.name.now ≡ true = sym c.eq.ensures ∙ c.if-eq.true in
    found_at c.args.files.now c.args.name.now (c.loop-i.i - 1) c.loop-i.i c.index-files-i.result (omega arith)
    c.loop-i.auto.i c.loop-i.invariant
    (ap (λ text. bytes_eq text c.args.name.now) (sym c.as_str.ensures.value) ∙ same)
