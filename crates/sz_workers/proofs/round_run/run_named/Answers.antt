use Rattle.std.proofs.Common.{◌++◌, List, ℕ, ap, sym, ◌∙◌, subst}
use Rattle.sz_book.specs.Lanes.{LaneData}
use Rattle.sz_book_rules.specs.History.{AreDistinct}
use Rattle.sz_workers.specs.Closing.{shards_in}
use Rattle.sz_attempt.specs.declared.job.Job.{Job}
use Rattle.sz_mean.specs.Marked.{all_tables}
use Rattle.sz_workers.proofs.RestLemmas.{first_poured, then_poured, last_poured, are_words}
use Rattle.sz_workers.proofs.round_run.run_named.Goals as goal

-- the declarations are those of the job
pub empty_pool-requires-clause-decls : goal.empty_pool-requires-clause-decls
empty_pool-requires-clause-decls g c =
    c.tables.ensures.value ∙ ap (λ (j : Job). all_tables j.compiled) c.requires.set.job_is

-- each shard is in one lane or in one pocket
pub pour_all-requires-clause-distinct : goal.pour_all-requires-clause-distinct
pour_all-requires-clause-distinct g c κs within =
    let same = ap (λ v. v.items) c.replace-lanes.ensures.value in
    subst (λ (ls : List LaneData). AreDistinct (c.in_ok-pool.pool.shards ++ shards_in ls)) (sym same)
    (first_poured c.in_ok-pool.pool.shards c.in_ok-closed.closed.lanes.items c.in_ok-closed.pockets.items
    c.in_ok-pool.ensures.empty c.in_ok-closed.ensures.left.distinct)

pub pour_all-requires-2-clause-distinct : goal.pour_all-requires-2-clause-distinct
pour_all-requires-2-clause-distinct g c κs within =
    let ss : List ℕ = c.in_ok-pool.pool.shards in
    let same = ap (λ v. v.items) c.replace-lanes.ensures.value in
    then_poured ss c.pour_all.new.pool.shards c.in_ok-closed.closed.lanes.items c.in_ok-closed.pockets.items
    c.in_ok-pool.ensures.empty (c.in_ok-pour_all.ensures.all ∙ ap (λ (ls : List LaneData). ss ++ shards_in ls) same)
    c.in_ok-closed.ensures.left.distinct

-- the words are those of the closed ledger
pub finish-requires-clause-words : goal.finish-requires-clause-words
finish-requires-clause-words g c =
    are_words g.N.RoundName.job g.N.RoundName.round c.args.plan.now c.in_ok-closed.closed.lanes.items
    c.in_ok-closed.pockets.items c.in_ok-closed.closed.settled c.in_ok-closed.closed.deaths
    c.in_ok-closed.ensures.left c.requires.set.plan

pub finish-requires-clause-pooled : goal.finish-requires-clause-pooled
finish-requires-clause-pooled g c =
    let ss : List ℕ = c.in_ok-pool.pool.shards in
    let same = ap (λ v. v.items) c.replace-lanes.ensures.value in
    last_poured _
    c.args.plan.now c.in_ok-closed.closed.lanes.items c.in_ok-closed.pockets.items c.in_ok-closed.closed.settled
    c.in_ok-closed.closed.deaths ss c.pour_all.new.pool.shards c.pour_all-2.new.pool.shards c.in_ok-closed.ensures.left
    c.in_ok-pool.ensures.empty (c.in_ok-pour_all.ensures.all ∙ ap (λ (ls : List LaneData). ss ++ shards_in ls) same)
    c.in_ok-pour_all-2.ensures.all
