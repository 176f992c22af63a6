-- A first key with no values.
use Rattle.std.proofs.Common.{◌∙◌, sym, length}
use Rattle.std.proofs.lemmas.Bool.{eqb-true}
use Rattle.std.proofs.lemmas.List.{nil_from_length}
use Rattle.sz_total.proofs.KeyLemmas.{first_key}
use Rattle.sz_total.proofs.index_lists.is_first_without_indexes.Goals as goal

pub returns-in-Some : goal.returns-in-Some
returns-in-Some c = record {
  first = λ empty.
      first_key c.args.lists.now.entries c.in-Some.key.now c.in-Some.field-0-1.now c.in-Some.ensures.entry
      (nil_from_length c.in-Some.key.now
      (eqb-true (length c.in-Some.key.now) 0 (sym c.is_empty.ensures.value ∙ empty)));
}
