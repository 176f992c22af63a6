-- The file is joined to the last group, which is then put behind the others.
use Rattle.std.proofs.lemmas.Result.{err_from_is_err_and}
use Rattle.sz_merge.specs.Groups.{held_by}
use Rattle.sz_merge.proofs.ReadingLemmas.{held_split, last_stops, low_of_last, can_of_both, adds_to}
use Rattle.sz_merge.proofs.reading.with_read.Goals as goal

pub joined_read-requires : goal.joined_read-requires
joined_read-requires c =
    let left = c.pop.new.self.items in
    let last = c.in-Some.last in
    record {
      low = low_of_last (held_by c.args.groups.items)
          (held_by left) last.saved (held_split c.args.groups.items left last c.in-Some.ensures.items) c.requires.can
          c.args.bytes.now c.requires.low;
    }

pub returns-in_err-both-clause-stopped : goal.returns-in_err-both-clause-stopped
returns-in_err-both-clause-stopped c =
    let left = c.pop.new.self.items in
    let last = c.in-Some.last in
    let p = err_from_is_err_and c.from_residual.result c.from_residual.ensures.1 in
    rw (p.1, p.2) (last_stops (held_by c.args.groups.items)
    (held_by left) last.saved (held_split c.args.groups.items left last c.in-Some.ensures.items)
    c.requires.can c.args.bytes.now c.in_err-both.field-0.0 c.in_err-both.ensures.stopped)

pub with_group-requires : goal.with_group-requires
with_group-requires c =
    let left = c.pop.new.self.items in
    let last = c.in-Some.last in
    record {
      can = can_of_both (held_by c.args.groups.items)
          (held_by left) last.saved (held_split c.args.groups.items left last c.in-Some.ensures.items) c.requires.can
          c.args.bytes.now c.requires.low c.in_ok-both.both c.in_ok-both.ensures.value;
    }

pub returns-clause-value : goal.returns-clause-value
returns-clause-value c =
    let left = c.pop.new.self.items in
    let last = c.in-Some.last in
    adds_to (held_by c.args.groups.items)
    (held_by left) last.saved (held_split c.args.groups.items left last c.in-Some.ensures.items) c.requires.can
    c.args.bytes.now c.requires.low c.in_ok-both.both c.in_ok-both.ensures.value (held_by c.in_ok-now.now.items)
    c.in_ok-now.ensures.value
