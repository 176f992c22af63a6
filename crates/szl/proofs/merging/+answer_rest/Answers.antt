-- The files after those that were merged already: none, or a first one and the rest.
use Rattle.std.proofs.Common.{◌≡◌, ◌≤◌, ◌∙◌, ◌-◌, ◌+◌, ◌∷◌, suc, length, take, drop, sym, ap, subst, arith}
use Rattle.std.specs.Prelude.{Err}
use Rattle.std.proofs.lemmas.Result.{err_from_is_err_and}
use Rattle.szl.specs.MergeAnswers.{AnswersFrom}
use Rattle.szl.specs.Promise.{AreReadToEnd}
use Rattle.szl.specs.ProgramRuns.{vec_items_of}
use Rattle.szl.proofs.MergeLemmas.{rest_none, not_added, file_added, read_then, first_name, ok_then}
use Rattle.szl.proofs.merging.+answer_rest.Goals as goal

-- no file is left
pub returns-in_default-clause-value : goal.returns-in_default-clause-value
returns-in_default-clause-value g t c before stands =
    rest_none g.F.Files c.args.save before c.args.done c.args.merging c.args.names.now c.args.files.now c.output_of_all.result stands c.in_default.len_below
    c.requires.files c.requires.most (c.output_of_all.ensures.value before stands.groups_of) c.output_of_all.ensures.err

-- the first file wasn't added
pub returns-in_err-merging-clause-value : goal.returns-in_err-merging-clause-value
returns-in_err-merging-clause-value g t c before stands =
    let p = err_from_is_err_and c.from_residual.result c.from_residual.ensures.1 in
    let all = c.args.names.now in
    let rest = take (length all - 1) (drop 1 all) in
    let name = c.as_str.result.now in
    let is = sym c.as_str.ensures.value in
    let names : all ≡ name ∷ rest = first_name all c.name-item.result c.in-len1-up.len_at_least c.name-item.is ∙ ap (λ n. n ∷ rest) is in
    let number : c.args.done + 1 ≡ suc (length before) = omega (arith, stands.count) in
    let most = subst (λ ns. c.args.done + length ns ≤ 64) names c.requires.most in
    rw (p.1, p.2) (subst (λ ns. AnswersFrom g.F.Files before ns c.args.save c.args.files.now c.with_file.new.files (Err c.in_err-merging.field-0.0)) (sym names)
    (not_added g.F.Files c.args.save before c.args.done c.args.merging name rest c.args.files.now c.with_file.new.files c.in_err-merging.field-0.0
    (c.in_err-merging.ensures.value before stands.groups_of number) stands most c.in_err-merging.ensures.names c.in_err-merging.ensures.opened))

-- it was, and the rest is answered
pub returns-clause-value : goal.returns-clause-value
returns-clause-value g t c before stands =
    let all = c.args.names.now in
    let rest = take (length all - 1) (drop 1 all) in
    let name = c.as_str.result.now in
    let is = sym c.as_str.ensures.value in
    let names : all ≡ name ∷ rest = first_name all c.name-item.result c.in-len1-up.len_at_least c.name-item.is ∙ ap (λ n. n ∷ rest) is in
    let number : c.args.done + 1 ≡ suc (length before) = omega (arith, stands.count) in
    subst (λ ns. AnswersFrom g.F.Files before ns c.args.save c.args.files.now c.answer_rest.new.files (vec_items_of c.answer_rest.result)) (sym names)
    (file_added g.F.Files c.args.save before name rest c.args.files.now c.with_file.new.files c.answer_rest.new.files (vec_items_of c.answer_rest.result)
    c.args.done c.args.merging c.in_ok-merging.merging stands (c.in_ok-merging.ensures.value before stands.groups_of number) c.in_ok-merging.ensures.names
    c.in_ok-merging.ensures.kept c.answer_rest.ensures.kept (c.in_ok-merging.ensures.opened (λ e. cc) (λ e. cc)) c.answer_rest.ensures.value)

-- the first file was read to its end, and then the rest
pub returns-clause-end : goal.returns-clause-end
returns-clause-end g t c =
    let all = c.args.names.now in
    let rest = take (length all - 1) (drop 1 all) in
    let name = c.as_str.result.now in
    let is = sym c.as_str.ensures.value in
    let names : all ≡ name ∷ rest = first_name all c.name-item.result c.in-len1-up.len_at_least c.name-item.is ∙ ap (λ n. n ∷ rest) is in
    ok_then c.answer_rest.result (AreReadToEnd g.F.Files c.with_file.new.files c.answer_rest.new.files rest)
    (AreReadToEnd g.F.Files c.args.files.now c.answer_rest.new.files all)
    (λ later. subst (AreReadToEnd g.F.Files c.args.files.now c.answer_rest.new.files) (sym names)
    (read_then g.F.Files name rest c.args.files.now c.with_file.new.files c.answer_rest.new.files c.in_ok-merging.ensures.names c.in_ok-merging.ensures.kept
    c.answer_rest.ensures.kept c.in_ok-merging.ensures.end later)) c.answer_rest.ensures.end
