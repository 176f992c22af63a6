use Rattle.std.proofs.Common.{◌∙◌, refl}
use Rattle.std.specs.Ordering.{is_eq}
use Rattle.std.proofs.lemmas.Result.{on_ok_weaker}
use Rattle.sz_value.specs.Seen.{seen}
use Rattle.sz_value.specs.Order.{compare}
use Rattle.sz_gen_expr.proofs.Numbers.{begins_with_one}
use Rattle.sz_gen_expr.proofs.Builds.{constant_pushed}
use Rattle.sz_gen_expr.proofs.Undone.{begins_same, more_constants}
use Rattle.sz_gen_expr.proofs.builder.Builder.add_constant.Goals as goal

-- the line names the constant by its number
pub returns : goal.returns
returns c =
    let d = seen c.args.value.now in
    record {
      made = on_ok_weaker c.append.result (λ h. constant_pushed d c.in_ok-number-2.number c.args.charge c.args.place
          (c.in_ok-number-2.ensures.value ∙ c.in_ok-number.ensures.number) c.in_ok-number.ensures.kept refl refl refl
          refl h) c.append.ensures.made;
      kept = λ first g. c.append.ensures.kept first (more_constants c.args.self.now _
          (begins_with_one (λ e. is_eq (compare d e)) _ _ d c.in_ok-number.ensures.kept) refl refl refl refl first g);
    }

-- the constants are as before
pub returns-in_err-number-clause-kept : goal.returns-in_err-number-clause-kept
returns-in_err-number-clause-kept c =
    more_constants c.args.self.now _ (begins_same _ _ c.in_err-number.ensures.err) refl refl refl refl

-- the constant is there
pub returns-in_err-number-2-clause-kept : goal.returns-in_err-number-2-clause-kept
returns-in_err-number-2-clause-kept c =
    let d = seen c.args.value.now in
    more_constants c.args.self.now _
    (begins_with_one (λ e. is_eq (compare d e)) _ _ d c.in_ok-number.ensures.kept) refl refl refl refl
