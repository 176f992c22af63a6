-- A value that is there comes so many times more, and no more than there are emits.
use Rattle.std.proofs.Common.{rules, ◌≡◌, ◌≤◌, ◌<◌, ◌+◌, ◌^◌, length, sym, arith, Some}
use Rattle.std.specs.Map.{lookup}
use Rattle.sz_value.specs.Seen.{seen}
use Rattle.sz_members.specs.Repeats.{value_eq, emits_tallied}
use Rattle.sz_members.proofs.RepeatsLemmas.{came_within, counts_again, equal_data}
use Rattle.sz_members.proofs.counting.count_again.Goals as goal

pub overflow_add-repeats : goal.overflow_add-repeats
overflow_add-repeats c =
    let v = c.args.value.now in
    let es = c.args.tally.now.entries in
    let r = c.in-Some.repeats.now in
    let there : lookup (value_eq v) es ≡ Some r = sym c.in-Some.ensures.value in
    let within : r ≤ length (emits_tallied es) =
    came_within (seen v) c.args.more (value_eq v) (equal_data v) es r there in
    let sum : r + c.args.more < 2 ^ 64 = omega (arith, within, c.requires.fits) in
    search (rules, sum)

pub returns-in-Some-clause-found : goal.returns-in-Some-clause-found
returns-in-Some-clause-found c = λ _.
    let there : lookup (value_eq c.args.value.now) c.args.tally.now.entries ≡ Some c.in-Some.repeats.now =
    sym c.in-Some.ensures.value in
    let written = c.get_mut.follows.holds (c.in-Some.repeats.now + c.args.more) in
    counts_again c.args.value.now c.args.more c.args.tally.now.entries c.in-Some.repeats.now there
    (c.get_mut.follows.lender (c.in-Some.repeats.now + c.args.more)).entries written.0 written.2
