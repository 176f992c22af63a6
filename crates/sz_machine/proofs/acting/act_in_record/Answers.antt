-- What has to do with the statics or the record does what the definition says; all else is inside.
use Rattle.std.proofs.Common.{rules, ◌≡◌, refl, subst}
use Rattle.std.proofs.lemmas.Result.{IfOk-weaker}
use Rattle.sz_instr.specs.declared.instr.Instr.TheVariants as instr
use Rattle.sz_machine_rows.specs.Acting.{state_of}
use Rattle.sz_machine.specs.AtLines.{in_record}
use Rattle.sz_instr.specs.Covering.{Covers}
use Rattle.sz_machine.proofs.CoverLemmas.{is_inside, not_both}
use Rattle.sz_machine.proofs.acting.act_in_record.Goals as goal

pub act_inside-requires : goal.act_inside-requires
act_inside-requires c = record {
  room = c.requires.room;
  inside = is_inside c.args.instr.now c.in_default.not-Static c.in_default.not-Input c.in_default.not-KeepStatic;
  covers = record { around = in_record c.args.at c.args.statics.now c.args.input.now; covers = c.requires.covers };
}

pub returns-in-Static : goal.returns-in-Static
returns-in-Static c =
    let is : c.args.instr.now ≡ instr.Static c.in-Static.n = search rules in
    record {
      value = IfOk-weaker c.push_static.result _ _
          (λ next does. rw is (does (in_record c.args.at c.args.statics.now c.args.input.now) refl))
          (c.push_static.ensures.value c.args.code.now c.args.place);
    }

pub returns-in-Input : goal.returns-in-Input
returns-in-Input c =
    let is : c.args.instr.now ≡ instr.Input = search rules in
    record {
      value = IfOk-weaker c.push_input.result _ _
          (λ next does. rw is (does (in_record c.args.at c.args.statics.now c.args.input.now) refl))
          (c.push_input.ensures.value c.args.code.now c.args.place);
    }

-- no static is kept while there is a record
pub unreachable-requires : goal.unreachable-requires
unreachable-requires c =
    let covers = subst (λ i. Covers c.args.code.now i
    (state_of c.args.state.now (in_record c.args.at c.args.statics.now c.args.input.now))) c.in-KeepStatic.is
    c.requires.covers in
    not_both c.args.input.now c.requires.there covers.2
