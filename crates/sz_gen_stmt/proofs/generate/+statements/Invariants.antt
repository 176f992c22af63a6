-- What is left to append, after what there is now, makes the whole.
use Rattle.std.proofs.Common.{suc, ◌+◌, ◌*◌, length, map, drop}
use Rattle.sz_core.specs.Statements.{stms_of}
use Rattle.sz_core.specs.View.{stm_of}
use Rattle.sz_gen_expr.specs.declared.builder.Builder.{Builder}
use Rattle.sz_gen_stmt.specs.Making.{exits_of, stm_if_some, AppendsStms}
use Rattle.sz_gen_stmt.proofs.Sizes.{stm_size, stms_size, size_if_any}
use Rattle.sz_gen_stmt.proofs.generate.+statements.Given as goal

abbrev pub invariant-gen_stmts-loop-statement : goal.invariant-gen_stmts-loop-statement
invariant-gen_stmts-loop-statement l =
    (new : Builder)
    → AppendsStms l.into new (stms_of (map stm_of (drop l.statement-index l.statements))) (exits_of l.out)
    → AppendsStms l.fn.into new (stms_of (map stm_of l.statements)) (exits_of l.out)

abbrev pub decreases-gen_stmt : goal.decreases-gen_stmt
decreases-gen_stmt l = stm_size (stm_of l.s.now)

abbrev pub decreases-gen_stmts : goal.decreases-gen_stmts
decreases-gen_stmts l = stms_size (stms_of (map stm_of l.statements.now))

abbrev pub decreases-gen_branch : goal.decreases-gen_branch
decreases-gen_branch l = suc (stm_size (stm_of l.first.now) + stm_size (stm_of l.second.now))

abbrev pub decreases-gen_loop : goal.decreases-gen_loop
decreases-gen_loop l = suc (suc (size_if_any (stm_if_some l.between) + stm_size (stm_of l.body.now)))

abbrev pub decreases-gen_if_any : goal.decreases-gen_if_any
decreases-gen_if_any l = suc (size_if_any (stm_if_some l.s))

abbrev pub decreases-gen_do_while : goal.decreases-gen_do_while
decreases-gen_do_while l = suc (stm_size (stm_of l.body.now))

abbrev pub decreases-gen_when : goal.decreases-gen_when
decreases-gen_when l = suc (suc (stm_size (stm_of l.body.now) + 2 * length l.variables.now))

abbrev pub decreases-gen_search : goal.decreases-gen_search
decreases-gen_search l = suc (stm_size (stm_of l.search.body.now) + 2 * length l.variables.now)

abbrev pub decreases-gen_some : goal.decreases-gen_some
decreases-gen_some l = suc (suc (stm_size (stm_of l.search.body.now) + 2 * length l.rest.now))

abbrev pub decreases-gen_each : goal.decreases-gen_each
decreases-gen_each l = suc (suc (stm_size (stm_of l.search.body.now) + 2 * length l.rest.now))
