-- A number is added at its place, or put after the last one.
use Rattle.std.proofs.Common.{◌≡◌, ◌∙◌, ◌+◌, ◌^◌, ◌<◌, ◌≤◌, ◌+ℤ◌, ◌∷◌, [], ◌++◌, length, set, sym, ap, subst, arith, rules}
use Rattle.sz_tabs.specs.Bounds.{IsWithin}
use Rattle.sz_tabs.proofs.AddingLemmas.{passed, sum_within, within_there, added_there, added_after}
use Rattle.sz_tabs.proofs.adding.add_at.Goals as goal

pub more-requires-clause-within : goal.more-requires-clause-within
more-requires-clause-within c =
    let there : c.args.at < length c.args.sums.now.items = search rules in
    let within = within_there (2 ^ 126 + 2 ^ 63) c.args.sums.now.items c.args.at c.index.result.now there
    c.index.ensures c.requires.within in
    subst (IsWithin (2 ^ 126 + 2 ^ 63)) (sym (passed (2 ^ 126 + 2 ^ 63) c.index.result.now (omega arith) within)) within

pub returns-then-at-len : goal.returns-then-at-len
returns-then-at-len c =
    let there : c.args.at < length c.args.sums.now.items = search rules in
    let within = within_there (2 ^ 126 + 2 ^ 63) c.args.sums.now.items c.args.at c.index.result.now there
    c.index.ensures c.requires.within in
    let sum = passed (2 ^ 126 + 2 ^ 63) c.index.result.now (omega arith) within in
    let number = passed (2 ^ 63) c.args.number (omega arith) c.requires.fits in
    let more : c.more.result ≡ c.index.result.now +ℤ c.args.number = c.more.ensures.value ∙ (λ i. sum i +ℤ number i) in
    let sum_is_within =
    sum_within (2 ^ 126 + 2 ^ 63) (2 ^ 63) c.index.result.now c.args.number within c.requires.fits in
    let more_within = subst (IsWithin (2 ^ 126 + 2 ^ 63 + 2 ^ 63)) (sym more) sum_is_within in
    let written = passed (2 ^ 126 + 2 ^ 63 + 2 ^ 63) c.more.result (omega arith) more_within in
    let added = added_there c.args.sums.now.items c.args.at c.index.result.now c.more.result c.args.number there
    c.index.ensures more in
    record { value = ap (λ n. set c.args.sums.now.items c.args.at n) written ∙ added }

pub returns : goal.returns
returns c =
    let later : length c.args.sums.now.items ≤ c.args.at = search rules in
    let number = passed (2 ^ 63) c.args.number (omega arith) c.requires.fits in
    record {
      value = rw c.in_ok-push.ensures.items (ap (λ n. c.args.sums.now.items ++ n ∷ []) number
          ∙ added_after c.args.sums.now.items c.args.at c.args.number later);
    }
