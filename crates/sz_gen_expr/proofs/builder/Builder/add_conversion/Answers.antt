use Rattle.std.proofs.Common.{◌∙◌, sym, subst}
use Rattle.std.proofs.lemmas.Result.{on_ok_weaker}
use Rattle.sz_types.specs.Seen.{seen as shape_of}
use Rattle.sz_gen_expr.specs.Building.{AppendsLine, Nothing}
use Rattle.sz_types.specs.Same.{alike}
use Rattle.sz_gen_expr.proofs.Numbers.{says_alike, begins_with_one}
use Rattle.sz_gen_expr.proofs.Undone.{begins_same, more_types}
use Rattle.sz_gen_expr.proofs.Builds.{kept_pushed, type_pushed}
use Rattle.sz_gen_expr.proofs.builder.Builder.add_conversion.Goals as goal

-- the type stays
pub returns-then-same : goal.returns-then-same
returns-then-same c =
    let from = shape_of c.args.from.now in
    let to = shape_of c.args.to.now in
    record {
      made = on_ok_weaker c.close.result (λ h. kept_pushed c.args.self.now c.close.new.self from to c.args.place
          (sym (says_alike c.same.result from to c.same.ensures.value) ∙ c.if-same.true) h) c.close.ensures.made;
      kept = c.close.ensures.kept;
    }

-- the type changes, and the line names the new one
pub returns : goal.returns
returns c =
    let from = shape_of c.args.from.now in
    let to = shape_of c.args.to.now in
    let n = c.in_ok-number.number in
    record {
      made = on_ok_weaker c.close-2.result (λ h. type_pushed from to n c.args.place
          (sym (says_alike c.same.result from to c.same.ensures.value) ∙ c.if-same.false)
          (c.in_ok-number.ensures.value ∙ c.in_ok-type_number.ensures.number)
          c.in_ok-type_number.ensures.kept c.type_number.ensures.constants c.type_number.ensures.lines
          c.type_number.ensures.functions c.type_number.ensures.statics
          (subst (λ i. AppendsLine c.type_number.new.self c.close-2.new.self (λ tables. i) 1 c.args.place Nothing)
          c.changing.ensures.value h)) c.close-2.ensures.made;
      kept = λ first g. c.close-2.ensures.kept first (more_types c.args.self.now c.type_number.new.self
          (begins_with_one (λ s. alike s to) _ _ to c.in_ok-type_number.ensures.kept)
          c.type_number.ensures.lines c.type_number.ensures.functions c.type_number.ensures.statics
          c.type_number.ensures.constants first g);
    }

-- the types are as before
pub returns-in_err-type_number-clause-kept : goal.returns-in_err-type_number-clause-kept
returns-in_err-type_number-clause-kept c =
    more_types c.args.self.now c.type_number.new.self (begins_same _ _ c.in_err-type_number.ensures.err)
    c.type_number.ensures.lines c.type_number.ensures.functions c.type_number.ensures.statics
    c.type_number.ensures.constants

-- the type is there
pub returns-in_err-number-clause-kept : goal.returns-in_err-number-clause-kept
returns-in_err-number-clause-kept c =
    let to = shape_of c.args.to.now in
    more_types c.args.self.now c.type_number.new.self
    (begins_with_one (λ s. alike s to) _ _ to c.in_ok-type_number.ensures.kept)
    c.type_number.ensures.lines c.type_number.ensures.functions c.type_number.ensures.statics
    c.type_number.ensures.constants
