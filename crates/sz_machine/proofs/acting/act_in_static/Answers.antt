-- What has to do with the statics or the record does what the definition says; all else is inside.
use Rattle.std.proofs.Common.{rules, ◌≡◌, refl}
use Rattle.std.proofs.lemmas.Result.{IfOk-weaker}
use Rattle.sz_instr.specs.declared.instr.Instr.TheVariants as instr
use Rattle.sz_machine.specs.AtLines.{in_static}
use Rattle.sz_machine.proofs.CoverLemmas.{is_inside}
use Rattle.sz_machine.proofs.acting.act_in_static.Goals as goal

pub act_inside-requires : goal.act_inside-requires
act_inside-requires c = record {
  room = c.requires.room;
  inside = is_inside c.args.instr.now c.in_default.not-Static c.in_default.not-Input c.in_default.not-KeepStatic;
  covers = record { around = in_static c.args.at c.args.statics.now; covers = c.requires.covers };
}

pub returns-in-Static : goal.returns-in-Static
returns-in-Static c =
    let is : c.args.instr.now ≡ instr.Static c.in-Static.n = search rules in
    record {
      value = IfOk-weaker c.copy_static.result _ _
          (λ next does. rw is (does (in_static c.args.at c.args.statics.now) refl))
          (c.copy_static.ensures.value c.args.code.now c.args.place);
    }

pub returns-in-KeepStatic : goal.returns-in-KeepStatic
returns-in-KeepStatic c =
    let is : c.args.instr.now ≡ instr.KeepStatic c.in-KeepStatic.n = search rules in
    record {
      value = IfOk-weaker c.keep_static.result _ _ (λ next does. rw is does)
          (c.keep_static.ensures.value c.args.code.now c.args.place c.args.at);
    }
