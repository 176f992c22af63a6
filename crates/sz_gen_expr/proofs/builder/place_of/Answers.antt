use Rattle.std.proofs.Common.{◌∙◌, sym}
use Rattle.sz_types.specs.Same.{alike}
use Rattle.sz_types.specs.Seen.{seen as shape_of}
use Rattle.sz_gen_expr.proofs.Numbers.{starts, found_here, not_here, at_end, says_alike}
use Rattle.sz_gen_expr.proofs.builder.place_of.Goals as goal

pub loop-at-init : goal.loop-at-init
loop-at-init c = starts (λ s. alike s (shape_of c.args.ty.now)) c.args.types.now

pub returns-then-same : goal.returns-then-same
returns-then-same c =
    let t = shape_of c.args.ty.now in
    let s = shape_of c.get.result.now in
    record {
      value = found_here (λ s. alike s t) c.args.types.now c.loop-at.at s c.get.ensures.value
          (sym (says_alike c.same.result s t c.same.ensures.value) ∙ c.if-same.true) c.loop-at.invariant;
    }

pub loop-at-preserved : goal.loop-at-preserved
loop-at-preserved c =
    let t = shape_of c.args.ty.now in
    let s = shape_of c.get.result.now in
    not_here (λ s. alike s t) c.args.types.now c.loop-at.at s c.get.ensures.value
    (sym (says_alike c.same.result s t c.same.ensures.value) ∙ c.if-same.false) c.loop-at.invariant

pub returns : goal.returns
returns c = record {
  value = c.len.ensures.value
      ∙ at_end (λ s. alike s (shape_of c.args.ty.now))
      c.args.types.now c.loop-at.at c.len-at-end.result c.len-at-end.ensures.value c.loop-at-test.false
      c.loop-at.auto.at-end c.loop-at.invariant;
}
