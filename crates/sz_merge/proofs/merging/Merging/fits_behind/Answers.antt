-- The bound is that of all groups.
use Rattle.std.proofs.Common.{◌∙◌, sym, subst, true≢false}
use Rattle.sz_merge.specs.Reading.{FitsBehind}
use Rattle.sz_merge.specs.Groups.{held_by}
use Rattle.sz_merge.proofs.ReadingLemmas.{fits}
use Rattle.sz_merge.proofs.merging.Merging.fits_behind.Goals as goal

pub returns : goal.returns
returns c = record {
  value = λ _. subst (λ l. FitsBehind l c.args.bytes.now) c.self.view_is
      (fits (held_by c.self.inside.groups.items) c.args.bytes.now c.self.inside.bound c.in-Ok.more c.in-Ok.field-0-1.now
      (λ none. true≢false (sym (c.is_empty.ensures.value.1 (sym c.self.view_is ∙ none)) ∙ c.if-is_empty.false))
      c.self.invariant.is c.in-Ok.ensures.value (c.is_low.ensures.value c.if-not-is_low.false));
}
