use Rattle.std.proofs.Common.{ap}
use Rattle.std.specs.Prelude.{Err}
use Rattle.std.proofs.lemmas.Result.{err_from_is_err_and}
use Rattle.szl.proofs.EndingLemmas.{no_memory_at_all, input_stops, tables_fit, input_ends}
use Rattle.szl.proofs.program_run.tables_of_bytes.Goals as goal

-- a shard decides, or the records don't end with the input
pub returns-in_err-tables : goal.returns-in_err-tables
returns-in_err-tables g c =
    let p = err_from_is_err_and c.from_residual.result c.from_residual.ensures.1 in
    let s = c.args.settings.now in
    let stop = c.in_err-tables.field-0.0 in
    record {
      value = rw (p.1, p.2) (input_stops c.args.job.now s.save s.shard s.frame c.args.input.now ⊥ c.requires.bounds.shard stop c.in_err-tables.ensures.value
          (λ is. c.in_err-tables.ensures.read (ap Err is)));
    }

-- the tables are those of the program, and there are few emits and records
pub written-requires-clause-declared : goal.written-requires-clause-declared
written-requires-clause-declared g c κs within =
    let s = c.args.settings.now in
    let fit = tables_fit c.args.job.now s.save s.shard s.frame c.args.input.now ⊥ c.requires.bounds.shard c.in_ok-tables.tables c.in_ok-tables.ensures.value in
    fit.declared

pub written-requires-clause-records : goal.written-requires-clause-records
written-requires-clause-records g c κs within =
    let s = c.args.settings.now in
    let fit = tables_fit c.args.job.now s.save s.shard s.frame c.args.input.now ⊥ c.requires.bounds.shard c.in_ok-tables.tables c.in_ok-tables.ensures.value in
    fit.within

pub written-requires-clause-few : goal.written-requires-clause-few
written-requires-clause-few g c κs within =
    let s = c.args.settings.now in
    let fit = tables_fit c.args.job.now s.save s.shard s.frame c.args.input.now ⊥ c.requires.bounds.shard c.in_ok-tables.tables c.in_ok-tables.ensures.value in
    fit.few

-- there was no memory for what is written
pub returns-in_err-written : goal.returns-in_err-written
returns-in_err-written g c =
    let p = err_from_is_err_and c.from_residual-in_err-written.result c.from_residual-in_err-written.ensures.1 in
    let s = c.args.settings.now in
    record { value = rw (p.1, p.2) (no_memory_at_all c.args.job.now s.save s.shard s.frame c.args.input.now ⊥) }

-- what is written is of all emits
pub returns : goal.returns
returns g c =
    let s = c.args.settings.now in
    record {
      value = input_ends c.args.job.now s.save s.shard s.frame c.args.input.now ⊥ c.requires.bounds.shard c.in_ok-tables.tables c.in_ok-tables.ensures.value
          c.in_ok-written.field-0.items c.in_ok-written.ensures.value;
    }
