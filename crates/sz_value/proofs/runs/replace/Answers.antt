-- What is put into the run of the key is put among all pairs.
use Rattle.std.proofs.Common.{◌∙◌, refl, arith}
use Rattle.sz_value.specs.Seen.{seen}
use Rattle.sz_value.specs.declared.value.Run.{Run}
use Rattle.sz_value.proofs.EndLemmas.{ends_at_run}
use Rattle.sz_value.proofs.RunLemmas.{own_run, rise_at, value_at_run, put_at_run, count_at_run, same_at_run, either, after_ok, after_err}
use Rattle.sz_value.proofs.runs.replace.Goals as goal

pub replace_in-requires : goal.replace_in-requires
replace_in-requires c =
    let run =
    own_run c.deref.ensures.value c.index_mut.ensures.value c.run_for-at.ensures.within c.run_for-at.ensures.value in
    record { rising = rise_at run c.requires.runs }

-- the run afterwards
abbrev with_it : goal.After-runs-1 → Run
with_it c = record { pairs = c.replace_in.new.pairs; end = c.index_mut.result.now.end }

pub returns-clause-runs : goal.returns-clause-runs
returns-clause-runs c =
    let run =
    own_run c.deref.ensures.value c.index_mut.ensures.value c.run_for-at.ensures.within c.run_for-at.ensures.value in
    either c.replace_in.result c.replace_in.ensures.ok c.replace_in.ensures.err
    (λ ok. (put_at_run run (seen c.args.value) (with_it c) c.requires.runs ok).are)
    (λ err. (same_at_run run (with_it c) c.requires.runs err).are)

pub returns-clause-ends : goal.returns-clause-ends
returns-clause-ends c =
    let run =
    own_run c.deref.ensures.value c.index_mut.ensures.value c.run_for-at.ensures.within c.run_for-at.ensures.value in
    ends_at_run run (with_it c) c.requires.ends refl c.replace_in.ensures.count

pub returns-clause-ok : goal.returns-clause-ok
returns-clause-ok c =
    let run =
    own_run c.deref.ensures.value c.index_mut.ensures.value c.run_for-at.ensures.within c.run_for-at.ensures.value in
    after_ok c.replace_in.result c.replace_in.ensures.ok
    (λ old ok. (put_at_run run (seen c.args.value) (with_it c) c.requires.runs ok).pairs)

pub returns-clause-count : goal.returns-clause-count
returns-clause-count c =
    let run =
    own_run c.deref.ensures.value c.index_mut.ensures.value c.run_for-at.ensures.within c.run_for-at.ensures.value in
    omega (arith, count_at_run run (with_it c), c.replace_in.ensures.count)

pub returns-clause-found : goal.returns-clause-found
returns-clause-found c =
    let run =
    own_run c.deref.ensures.value c.index_mut.ensures.value c.run_for-at.ensures.within c.run_for-at.ensures.value in
    after_ok c.replace_in.result c.replace_in.ensures.found (λ old found. value_at_run run ∙ found)

pub returns-clause-err : goal.returns-clause-err
returns-clause-err c =
    let run =
    own_run c.deref.ensures.value c.index_mut.ensures.value c.run_for-at.ensures.within c.run_for-at.ensures.value in
    after_err c.replace_in.result c.replace_in.ensures.err
    (λ given err. (same_at_run run (with_it c) c.requires.runs err).pairs)

pub returns-clause-none : goal.returns-clause-none
returns-clause-none c =
    let run =
    own_run c.deref.ensures.value c.index_mut.ensures.value c.run_for-at.ensures.within c.run_for-at.ensures.value in
    after_err c.replace_in.result c.replace_in.ensures.none (λ given none. (none.0, value_at_run run ∙ none.1))
