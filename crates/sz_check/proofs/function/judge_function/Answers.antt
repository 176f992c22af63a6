use Rattle.std.proofs.Common.{length, map, sym, ap, ◌∙◌}
use Rattle.std.specs.Prelude.{Ok}
use Rattle.std.proofs.lemmas.List.{length-map}
use Rattle.std.proofs.lemmas.Result.{err_from_is_err_and}
use Rattle.sz_tree.specs.Types.{params_of}
use Rattle.sz_tree.specs.Statements.{stms_of}
use Rattle.sz_tree.specs.View.{type_of, param_of, stm_of}
use Rattle.sz_core.specs.View.{signature_of}
use Rattle.sz_check_names.specs.Knowledge.{Knowledge, blocks_of, scene_of}
use Rattle.sz_check_rules.specs.JudgingPrograms.{Found}
use Rattle.sz_check.specs.FunctionParts.{body_of}
use Rattle.sz_check.specs.Top.{top_of}
use Rattle.sz_check.proofs.FunctionLemmas.{body_fails, body_makes, finished_same}
use Rattle.sz_check.proofs.function.judge_function.Goals as goal

pub returns-in_err-body : goal.returns-in_err-body
returns-in_err-body c =
    let p = err_from_is_err_and c.from_residual-in_err-body.result c.from_residual-in_err-body.ensures.1 in
    record {
      value = rw (p.1, p.2) (body_fails (top_of c.args.top.now) c.args.name.now
          (params_of (map param_of c.args.params.now)) (type_of c.args.of.now)
          (stms_of (map stm_of c.args.trees.now)) (signature_of c.in_ok-signature.signature)
          (length c.args.top.now.functions.items) (blocks_of c.judge_header.new.known)
          (blocks_of c.declare_function.new.top.known) c.in_ok-signature.ensures.value
          (sym (length-map c.args.top.now.functions.items signature_of))
          (ap (λ (k : Knowledge). blocks_of k) c.in_ok-signature.ensures.kept)
          c.in_ok-declare_function.ensures.value c.in_err-body.field-0.0 c.in_err-body.ensures.value);
    }

pub returns : goal.returns
returns c =
    let header = c.in_ok-signature.ensures.kept in
    let there = c.declare_function.new.top in
    let makes = body_makes (top_of c.args.top.now) c.args.name.now (params_of (map param_of c.args.params.now))
    (type_of c.args.of.now) (stms_of (map stm_of c.args.trees.now)) (signature_of c.in_ok-signature.signature)
    (length c.args.top.now.functions.items)
    (blocks_of c.judge_header.new.known) (blocks_of there.known) c.in_ok-signature.ensures.value
    (sym (length-map c.args.top.now.functions.items signature_of)) (ap (λ (k : Knowledge). blocks_of k) header)
    c.in_ok-declare_function.ensures.value (body_of c.in_ok-body.body) c.in_ok-body.ensures.value in
    let same = finished_same (top_of c.args.top.now)
    (record {
      scene = scene_of c.judge_body.new.known;
      tables = there.tables;
      statics = there.statics;
      functions = map signature_of there.functions.items;
    })
    (blocks_of there.known) (blocks_of c.judge_body.new.known) (signature_of c.in_ok-signature.signature)
    (body_of c.in_ok-body.body) (sym (ap (λ (k : Knowledge). k.locals) c.in_ok-body.ensures.kept
    ∙ c.in_ok-declare_function.ensures.locals ∙ ap (λ (k : Knowledge). k.locals) header))
    (sym c.in_ok-declare_function.ensures.tables) (sym c.in_ok-declare_function.ensures.statics)
    (sym (ap (λ (v : _). map signature_of v.items) c.in_ok-declare_function.ensures.functions))
    (sym (ap (λ (k : Knowledge). blocks_of k) c.in_ok-body.ensures.kept)) in
    record { value = makes ∙ ap (λ (f : Found). Ok f) (same ∙ sym c.in_ok-finished.ensures.value) }
