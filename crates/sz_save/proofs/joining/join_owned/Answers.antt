-- What is joined can be saved, and is what both hold together.
use Rattle.std.proofs.Common.{◌+◌, sym, subst}
use Rattle.sz_save.specs.Joined.{Joins}
use Rattle.sz_save.proofs.JoinLemmas.{tables_ask, states_saved, states_join}
use Rattle.sz_save.proofs.joining.join_owned.Goals as goal

pub join_tables-requires : goal.join_tables-requires
join_tables-requires c =
    let own = c.into_parts-decls.result in
    let ask = tables_ask c.args.one c.args.other c.requires.same c.bound.ensures.can c.bound-2.ensures.can own.0 own.1
    c.into_parts-others.result.1 c.into_parts-decls.ensures.decls c.into_parts-decls.ensures.tables
    c.into_parts-others.ensures.tables c.requires.low in
    record { as_many = ask.0; as_many_others = ask.1; can = ask.2 }

pub new-requires : goal.new-requires
new-requires c =
    let own = c.into_parts-decls.result in
    record {
      can = states_saved c.args.one c.args.other c.requires.same c.bound.ensures.can c.bound-2.ensures.can
          (c.bound.result + c.bound-2.result) own.0 own.0 c.in_ok-joined.joined own.1 c.into_parts-others.result.1
          (λ i. c.bound.ensures.value i + c.bound-2.ensures.value i)
          c.into_parts-decls.ensures.decls c.in_ok-joined.ensures.value
          c.into_parts-decls.ensures.decls c.into_parts-decls.ensures.tables c.into_parts-others.ensures.tables
          c.requires.low c.in_ok-joined.ensures.counted;
    }

pub returns : goal.returns
returns c =
    let own = c.into_parts-decls.result in
    record {
      value = subst (Joins c.args.one c.args.other) (sym c.new.ensures.value)
          (states_join c.args.one c.args.other c.requires.same c.bound.ensures.can c.bound-2.ensures.can
          (c.bound.result + c.bound-2.result) own.0 own.0 c.in_ok-joined.joined own.1 c.into_parts-others.result.1
          (λ i. c.bound.ensures.value i + c.bound-2.ensures.value i)
          c.into_parts-decls.ensures.decls c.in_ok-joined.ensures.value
          c.into_parts-decls.ensures.decls c.into_parts-decls.ensures.tables c.into_parts-others.ensures.tables);
    }
