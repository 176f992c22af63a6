-- What is found of the numbers that are read is found of those that are spelled.
use Rattle.std.proofs.Common.{◌∙◌, subst}
use Rattle.std.proofs.lemmas.Int.{to_z-of_z}
use Rattle.std.specs.Int.{w64}
use Rattle.std.specs.Ordering.{int_cmp}
use Rattle.sz_flat.specs.Reading.{numbers}
use Rattle.sz_flat.specs.Comparing.{Finds}
use Rattle.sz_flat.proofs.SpellingLemmas.{same_number}
use Rattle.sz_flat.proofs.ComparingLemmas.{both_read}
use Rattle.sz_flat.proofs.comparing.order_numbers.Goals as goal

pub returns-clause-value : goal.returns-clause-value
returns-clause-value c =
    let first = c.in-Ok.ensures.value in
    let second = c.in-Ok-read_number.ensures.value in
    let after = c.in-Ok.after.now in
    let behind = c.in-Ok-read_number.behind.now in
    both_read numbers int_cmp c.args.one.now c.args.other.now c.walked.result same_number
    c.in-Ok.number c.in-Ok-read_number.other_number after behind first second
    (subst (λ o. Finds o after behind c.walked.result)
    (c.cmp.ensures ∙ (λ i. int_cmp (to_z-of_z w64 c.in-Ok.number first.has i)
    (to_z-of_z w64 c.in-Ok-read_number.other_number second.has i)))
    c.walked.ensures.value)
