-- The run begins in the first state, and each of its ends is that of the definition.
use Rattle.std.proofs.Common.{rules, ◌≡◌, Some, refl, subst}
use Rattle.std.proofs.lemmas.Result.{IfOk-weaker}
use Rattle.sz_value.specs.Data.{bytes}
use Rattle.sz_world_rules.specs.World.{new_world}
use Rattle.sz_instr.specs.Runs.{EndsRecord}
use Rattle.sz_machine_rows.specs.Acting.{state_of}
use Rattle.sz_machine.specs.AtLines.{in_record}
use Rattle.sz_machine.specs.Ends.{seen_end}
use Rattle.sz_machine.specs.CodeRuns.{OfEnds}
use Rattle.sz_machine.proofs.LineLemmas.{record_lines}
use Rattle.sz_machine.proofs.RunLemmas.{begun, record_ends, record_within, record_outcome}
use Rattle.sz_machine.proofs.code_run.Room.run.Goals as goal

pub run_record-requires-clause-there : goal.run_record-requires-clause-there
run_record-requires-clause-there c =
    let record_is : c.set_bytes.new.self ≡ Some (bytes c.args.input.now) = search rules in
    rw record_is refl

pub run_record-requires-clause-ends : goal.run_record-requires-clause-ends
run_record-requires-clause-ends c =
    let is : c.begin.new.state ≡ begun c.args.code.now.main (new_world c.args.budget) = search rules in
    let record_is : c.set_bytes.new.self ≡ Some (bytes c.args.input.now) = search rules in
    rw record_is (record_ends c.args.code.now c.args.input.now c.args.statics.now c.args.budget c.begin.new.state is
    c.requires.ends)

pub run_record-requires-clause-within : goal.run_record-requires-clause-within
run_record-requires-clause-within c =
    let is : c.begin.new.state ≡ begun c.args.code.now.main (new_world c.args.budget) = search rules in
    let record_is : c.set_bytes.new.self ≡ Some (bytes c.args.input.now) = search rules in
    rw record_is (record_within c.args.code.now c.args.input.now c.args.statics.now c.args.budget c.begin.new.state is
    _ (search rules))

-- the run ends after some number of lines
pub invariant_of-asked : goal.invariant_of-asked
invariant_of-asked c = record {
  lines = record_lines c.args.code.now c.args.input.now c.args.statics.now c.args.budget c.requires.ends;
}

pub returns : goal.returns
returns c =
    let is : c.begin.new.state ≡ begun c.args.code.now.main (new_world c.args.budget) = search rules in
    let record_is : c.set_bytes.new.self ≡ Some (bytes c.args.input.now) = search rules in
    record {
      value = λ o runs. IfOk-weaker c.run_record.result _ _
          (λ end ends. record_outcome c.args.code.now c.args.input.now c.args.statics.now c.args.budget
          c.begin.new.state is (seen_end end) o runs (subst (λ r. OfEnds c.args.code.now (state_of c.begin.new.state
          (in_record c.args.code.now.main.entry c.args.statics.now r)) (λ x. EndsRecord x (seen_end end)))
          record_is ends))
          c.run_record.ensures.value;
    }
