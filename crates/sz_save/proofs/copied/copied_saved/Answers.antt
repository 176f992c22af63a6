-- What can be saved can be saved once more.
use Rattle.std.proofs.Common.{◌∙◌, sym, subst}
use Rattle.sz_save_format.specs.Saved.{CanBeSaved}
use Rattle.sz_save.proofs.copied.copied_saved.Goals as goal

pub new-requires : goal.new-requires
new-requires c =
    let decls = c.in_ok-decls.ensures.value ∙ c.decls.ensures.value in
    let tables = c.in_ok-tables.ensures.value ∙ c.tables.ensures.value in
    record {
      can = subst CanBeSaved (λ i. record {
        bound = sym c.bound-bound.ensures.value i;
        decls = sym decls i;
        tables = sym tables i;
      }) c.bound-bound.ensures.can;
    }

pub returns : goal.returns
returns c =
    let decls = c.in_ok-decls.ensures.value ∙ c.decls.ensures.value in
    let tables = c.in_ok-tables.ensures.value ∙ c.tables.ensures.value in
    record {
      value = c.new.ensures.value
          ∙ (λ i. record { bound = c.bound-bound.ensures.value i; decls = decls i; tables = tables i });
    }
