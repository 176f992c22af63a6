-- The sum at the place is the one that is added to.
use Rattle.std.proofs.Common.{◌≡◌, ◌∙◌, ◌+◌, ◌^◌, ◌<◌, ◌+ℤ◌, length, set, sym, ap, subst, arith, rules}
use Rattle.sz_tabs.specs.Bounds.{IsWithin}
use Rattle.sz_tabs.proofs.ForCallers.{passed, within_there, added_there}
use Rattle.sz_sum.proofs.GrownLemmas.{added_within_at}
use Rattle.sz_sum.proofs.numbers.add_in.Goals as goal

pub more-requires : goal.more-requires
more-requires c =
    let there : c.args.at < length c.args.sums.now.items = search rules in
    let within = within_there (2 ^ 126 + 2 ^ 63) c.args.sums.now.items c.args.at c.index.result.now there
    c.index.ensures c.requires.within in
    let sum = passed (2 ^ 126 + 2 ^ 63) c.index.result.now (omega arith) within in
    let number = passed (2 ^ 126) c.args.number (omega arith) c.requires.number in
    let fits = added_within_at (2 ^ 126 + 2 ^ 63)
    c.args.sums.now.items c.args.at c.index.result.now c.args.number there c.index.ensures c.requires.fits in
    record { fits = subst (IsWithin (2 ^ 126 + 2 ^ 63)) (λ i. sym sum i +ℤ sym number i) fits }

pub returns : goal.returns
returns c =
    let there : c.args.at < length c.args.sums.now.items = search rules in
    let within = within_there (2 ^ 126 + 2 ^ 63) c.args.sums.now.items c.args.at c.index.result.now there
    c.index.ensures c.requires.within in
    let sum = passed (2 ^ 126 + 2 ^ 63) c.index.result.now (omega arith) within in
    let number = passed (2 ^ 126) c.args.number (omega arith) c.requires.number in
    let more : c.more.result ≡ c.index.result.now +ℤ c.args.number = c.more.ensures.value ∙ (λ i. sum i +ℤ number i) in
    let fits = added_within_at (2 ^ 126 + 2 ^ 63)
    c.args.sums.now.items c.args.at c.index.result.now c.args.number there c.index.ensures c.requires.fits in
    let written =
    passed (2 ^ 126 + 2 ^ 63) c.more.result (omega arith) (subst (IsWithin (2 ^ 126 + 2 ^ 63)) (sym more) fits) in
    let added = added_there c.args.sums.now.items c.args.at c.index.result.now c.more.result c.args.number there
    c.index.ensures more in
    record { value = ap (λ n. set c.args.sums.now.items c.args.at n) written ∙ added }
