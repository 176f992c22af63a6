-- What is found of the bytes that are read is found of those that are spelled.
use Rattle.std.proofs.Common.{subst}
use Rattle.std.specs.Cmp.Lexicographic.{slice_cmp}
use Rattle.std.specs.Ordering.{nat_cmp}
use Rattle.sz_flat.specs.Reading.{strings}
use Rattle.sz_flat.specs.Comparing.{Finds}
use Rattle.sz_flat.proofs.SpellingLemmas.{same_string}
use Rattle.sz_flat.proofs.ComparingLemmas.{both_read}
use Rattle.sz_flat.proofs.comparing.order_strings.Goals as goal

pub returns-clause-value : goal.returns-clause-value
returns-clause-value c =
    let after = c.in-Ok.after.now in
    let behind = c.in-Ok-read_string.behind.now in
    both_read strings (slice_cmp nat_cmp) c.args.one.now c.args.other.now c.walked.result same_string
    c.in-Ok.string.now c.in-Ok-read_string.other_string.now
    after behind c.in-Ok.ensures.value c.in-Ok-read_string.ensures.value
    (subst (λ o. Finds o after behind c.walked.result) c.cmp.ensures c.walked.ensures.value)
