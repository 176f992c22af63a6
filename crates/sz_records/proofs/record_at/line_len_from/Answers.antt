use Rattle.std.proofs.Common.{ℕ, ◌+◌, length, ap, sym, ◌∙◌, arith, length-drop}
use Rattle.sz_records.specs.Cutting.{line_len}
use Rattle.sz_records.proofs.ScanLemmas.{line_len_within, scanned_on}
use Rattle.sz_records.proofs.record_at.line_len_from.Goals as goal

pub returns-clause-value : goal.returns-clause-value
returns-clause-value c =
    ap (λ (n : ℕ). c.args.scanned + n) (c.line_len.ensures.value ∙ ap line_len c.rest.ensures)
    ∙ sym (scanned_on c.args.bytes.now c.args.scanned c.requires.scanned)

pub returns-clause-within : goal.returns-clause-within
returns-clause-within c =
    let inside = c.line_len.ensures.within in
    let later = ap length c.rest.ensures in
    let left = length-drop c.args.scanned c.args.bytes.now in
    let all = line_len_within c.args.bytes.now in
    let seen = c.requires.scanned in
    omega (arith, inside, later, left, all, seen)
