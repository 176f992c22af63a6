use Rattle.std.proofs.Common.{length, inl, inr, refl, ap, sym, ◌∙◌, subst, All, arith}
use Rattle.sz_machine.specs.Ends.{seen_end}
use Rattle.sz_tabs.specs.Fitting.{IsEmitTo}
use Rattle.sz_world_rules.specs.World.{Done}
use Rattle.sz_total.specs.Short.{HasShortParts}
use Rattle.sz_attempt.proofs.RunLemmas.{record_ends, record_means, fit_tables, short_of_record, few_of_record}
use Rattle.sz_attempt.proofs.shard_run.run_record.Goals as goal

-- the run ends
pub run-requires-clause-ends : goal.run-requires-clause-ends
run-requires-clause-ends c =
    record_ends c.args.job.now c.code.result.now c.code.ensures.value c.requires.job c.args.input.now

-- its emits fit the program's tables
pub add_all-requires-clause-fit : goal.add_all-requires-clause-fit
add_all-requires-clause-fit c =
    let means = record_means c.args.job.now c.code.result.now c.code.ensures.value c.requires.job c.args.input.now
    c.in_ok-emits.field-0 c.in_ok-emits.ensures.value ∙ ap seen_end c.in-Done.is in
    let fit = fit_tables c.args.job.now c.code.result.now c.code.ensures.value c.requires.job c.args.input.now
    c.in-Done.emits means in
    subst (All (IsEmitTo c.args.part.now.tables)) (sym c.as_slice.ensures.value)
    (subst (λ ts. All (IsEmitTo ts) c.in-Done.emits) (sym c.requires.tables) fit)

-- and have short lengths
pub add_all-requires-clause-short : goal.add_all-requires-clause-short
add_all-requires-clause-short c =
    let means = record_means c.args.job.now c.code.result.now c.code.ensures.value c.requires.job c.args.input.now
    c.in_ok-emits.field-0 c.in_ok-emits.ensures.value ∙ ap seen_end c.in-Done.is in
    subst (All HasShortParts) (sym c.as_slice.ensures.value)
    (short_of_record c.args.job.now c.code.result.now c.code.ensures.value c.requires.job c.args.input.now
    c.in-Done.emits means)

-- and are few
pub add_all-requires-clause-few : goal.add_all-requires-clause-few
add_all-requires-clause-few c =
    let means = record_means c.args.job.now c.code.result.now c.code.ensures.value c.requires.job c.args.input.now
    c.in_ok-emits.field-0 c.in_ok-emits.ensures.value ∙ ap seen_end c.in-Done.is in
    let few = few_of_record c.args.job.now c.code.result.now c.code.ensures.value c.requires.job c.args.input.now
    c.in-Done.emits means in
    let same = ap length c.as_slice.ensures.value in
    omega (arith, few, same, c.requires.few)

-- they are added
pub returns-in_ok-add_all-in-Done : goal.returns-in_ok-add_all-in-Done
returns-in_ok-add_all-in-Done c = record {
  value = inl (
    c.as_slice.result.now,
    record_means
        c.args.job.now c.code.result.now c.code.ensures.value c.requires.job c.args.input.now c.in_ok-emits.field-0
        c.in_ok-emits.ensures.value ∙ ap seen_end c.in-Done.is ∙ ap Done (sym c.as_slice.ensures.value),
    c.in_ok-add_all-in-Done.ensures.value,
    refl,
  );
}

-- the record faults
pub returns-in_ok-push-in-Fault : goal.returns-in_ok-push-in-Fault
returns-in_ok-push-in-Fault c = record {
  value = inr (
    c.in-Fault.fault,
    record_means
        c.args.job.now c.code.result.now c.code.ensures.value c.requires.job c.args.input.now c.in_ok-emits.field-0
        c.in_ok-emits.ensures.value ∙ ap seen_end c.in-Fault.is,
    refl,
    c.in_ok-push-in-Fault.ensures.ok,
  );
}
