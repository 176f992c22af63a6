-- Each case is one step of the walk.
use Rattle.sz_save.proofs.TakenLemmas.{one_can, other_one_can, two_can, taken_none, taken_one, taken_other, taken_both}
use Rattle.sz_save.proofs.entries.join_first.Goals as goal

pub join_alone-requires : goal.join_alone-requires
join_alone-requires c = record {
  can = one_can c.args.kind c.args.limit c.args.entries.now.items c.args.others.now.items
      c.take_first.new.entries.items c.take_first.new.others.items c.in-One.entry
      c.in-One.ensures.value c.requires.can;
}

pub join_other_alone-requires : goal.join_other_alone-requires
join_other_alone-requires c = record {
  can = other_one_can c.args.kind c.args.limit c.args.entries.now.items c.args.others.now.items
      c.take_first.new.entries.items c.take_first.new.others.items c.in-Other.other
      c.in-Other.ensures.value c.requires.can;
}

pub join_both-requires : goal.join_both-requires
join_both-requires c = record {
  can = two_can c.args.kind c.args.limit c.args.entries.now.items c.args.others.now.items
      c.take_first.new.entries.items c.take_first.new.others.items c.in-Both.entry c.in-Both.other
      c.in-Both.ensures.value c.requires.can;
}

pub returns-in-Neither-clause-none : goal.returns-in-Neither-clause-none
returns-in-Neither-clause-none c =
    taken_none c.args.kind c.args.limit c.args.entries.now.items c.args.others.now.items
    c.take_first.new.entries.items c.take_first.new.others.items c.in-Neither.ensures.value

pub returns-in_ok-joined-in-One-clause-some : goal.returns-in_ok-joined-in-One-clause-some
returns-in_ok-joined-in-One-clause-some c =
    taken_one c.args.kind c.args.limit c.args.entries.now.items c.args.others.now.items c.take_first.new.entries.items
    c.take_first.new.others.items c.in-One.entry c.in_ok-joined-in-One.joined c.in-One.ensures.value
    c.in_ok-joined-in-One.ensures.value c.requires.can c.in_ok-joined-in-One.ensures.few

pub returns-in_ok-joined-in-Other-clause-some : goal.returns-in_ok-joined-in-Other-clause-some
returns-in_ok-joined-in-Other-clause-some c =
    taken_other c.args.kind c.args.limit c.args.entries.now.items c.args.others.now.items
    c.take_first.new.entries.items c.take_first.new.others.items c.in-Other.other
    c.in_ok-joined-in-Other.joined c.in-Other.ensures.value c.in_ok-joined-in-Other.ensures.value c.requires.can
    c.in_ok-joined-in-Other.ensures.few

pub returns-in_ok-joined-in-Both-clause-some : goal.returns-in_ok-joined-in-Both-clause-some
returns-in_ok-joined-in-Both-clause-some c =
    taken_both c.args.kind c.args.limit c.args.entries.now.items c.args.others.now.items
    c.take_first.new.entries.items c.take_first.new.others.items c.in-Both.entry
    c.in-Both.other c.in_ok-joined-in-Both.joined c.in-Both.ensures.value c.in_ok-joined-in-Both.ensures.value
    c.requires.can c.in_ok-joined-in-Both.ensures.few
