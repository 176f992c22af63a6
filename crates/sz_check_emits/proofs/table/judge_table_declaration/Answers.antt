use Rattle.std.proofs.Common.{subst}
use Rattle.std.proofs.lemmas.Result.{err_from_is_err_and}
use Rattle.sz_tree.specs.View.{table_of}
use Rattle.sz_check_names.specs.Knowledge.{blocks_of}
use Rattle.sz_check_emits.specs.Tabling.{types_of, IsLimit}
use Rattle.sz_check_emits.proofs.TableLemmas.{wrong_limit}
use Rattle.sz_check_emits.proofs.table.judge_table_declaration.Goals as goal

-- a wrong limit
pub returns-in_err-limit : goal.returns-in_err-limit
returns-in_err-limit c =
    let p = err_from_is_err_and c.from_residual-in_err-limit.result c.from_residual-in_err-limit.ensures.1 in
    let wrong = subst (λ kept. IsLimit c.args.tree.now.kind c.limit_of.result kept)
    c.in_err-limit.ensures.err c.kept_limit-limit.ensures.value in
    record {
      value = rw (p.1, p.2)
          (wrong_limit (blocks_of c.args.known.now) c.args.name.now (table_of c.args.tree.now) c.in_ok-kind.kind
          (types_of c.in_ok-types.types) _ c.in_ok-kind.ensures.value c.in_ok-types.ensures.value
          (rw (c.limit_of.ensures.value) at wrong));
    }
