-- Each row does what the definition says.
use Rattle.std.proofs.Common.{rules, ◌≡◌}
use Rattle.std.proofs.lemmas.Result.{IfOk-weaker}
use Rattle.sz_instr.specs.declared.instr.Instr.TheVariants as instr
use Rattle.sz_machine.proofs.acting.act_seldom.Goals as goal

pub returns-in-MakeArray : goal.returns-in-MakeArray
returns-in-MakeArray c =
    let is : c.args.instr.now ≡ instr.MakeArray c.in-MakeArray.count = search rules in
    record {
      value = IfOk-weaker c.make_array.result _ _ (λ next does a at. rw is (does c.args.place a))
          (c.make_array.ensures.value c.args.code.now);
    }

pub returns-in-MakeTuple : goal.returns-in-MakeTuple
returns-in-MakeTuple c =
    let is : c.args.instr.now ≡ instr.MakeTuple c.in-MakeTuple.count = search rules in
    record {
      value = IfOk-weaker c.make_tuple.result _ _ (λ next does a at. rw is (does c.args.place a))
          (c.make_tuple.ensures.value c.args.code.now);
    }

pub returns-in-MakeMap : goal.returns-in-MakeMap
returns-in-MakeMap c =
    let is : c.args.instr.now ≡ instr.MakeMap c.in-MakeMap.count = search rules in
    record {
      value = IfOk-weaker c.make_map.result _ _ (λ next does a at. rw is (does c.args.place a))
          (c.make_map.ensures.value c.args.code.now);
    }

pub returns-in-Return : goal.returns-in-Return
returns-in-Return c =
    let is : c.args.instr.now ≡ instr.Return = search rules in
    record { value = λ a at. rw is (c.give_back.ensures.value c.args.code.now c.args.place a) }

pub returns-in-Enter : goal.returns-in-Enter
returns-in-Enter c =
    let is : c.args.instr.now ≡ instr.Enter c.in-Enter.slice = search rules in
    record {
      value = IfOk-weaker c.enter_search.result _ _ (λ next does a at. rw is (does c.args.place a))
          (c.enter_search.ensures.value c.args.code.now);
    }

pub returns-in-Next : goal.returns-in-Next
returns-in-Next c =
    let is : c.args.instr.now ≡ instr.Next c.in-Next.n c.in-Next.to = search rules in
    record {
      value = IfOk-weaker c.next_candidate.result _ _ (λ next does a at. rw is (does c.args.place a))
          (c.next_candidate.ensures.value c.args.code.now);
    }

pub returns-in-Leave : goal.returns-in-Leave
returns-in-Leave c =
    let is : c.args.instr.now ≡ instr.Leave = search rules in
    record { value = λ a at. rw is (c.leave_search.ensures.value c.args.code.now c.args.place a) }

pub returns-in-Unary : goal.returns-in-Unary
returns-in-Unary c =
    let is : c.args.instr.now ≡ instr.Unary c.in-Unary.op = search rules in
    record {
      value = IfOk-weaker c.unary.result _ _ (λ next does a at. rw is (does c.args.place a))
          (c.unary.ensures.value c.args.code.now);
    }

pub returns-in-Def : goal.returns-in-Def
returns-in-Def c =
    let is : c.args.instr.now ≡ instr.Def = search rules in
    record {
      value = IfOk-weaker c.def.result _ _ (λ next does a at. rw is (does c.args.place a))
          (c.def.ensures.value c.args.code.now);
    }

pub returns-in-Discard : goal.returns-in-Discard
returns-in-Discard c =
    let is : c.args.instr.now ≡ instr.Discard = search rules in
    record { value = IfOk-weaker c.discard.result _ _ (λ next does a at. rw is (does a)) c.discard.ensures.value }

pub returns-in-Meets : goal.returns-in-Meets
returns-in-Meets c =
    let is : c.args.instr.now ≡ instr.Meets c.in-Meets.to = search rules in
    record { value = λ a at. rw is (c.meets.ensures.value c.args.code.now c.args.place a) }

pub returns-in-Fails : goal.returns-in-Fails
returns-in-Fails c =
    let is : c.args.instr.now ≡ instr.Fails c.in-Fails.to = search rules in
    record { value = λ a at. rw is (c.fails.ensures.value c.args.code.now c.args.place a) }
