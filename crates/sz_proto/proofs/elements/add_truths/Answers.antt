use Rattle.std.proofs.Common.{◌∷◌, [], nat_lt, refl}
use Rattle.std.proofs.lemmas.List.{map-append}
use Rattle.sz_value.specs.Data as values
use Rattle.sz_value.specs.Seen.{seen}
use Rattle.sz_proto.proofs.elements.add_truths.Goals as goal

pub returns-in_ok-push-in-Varint : goal.returns-in_ok-push-in-Varint
returns-in_ok-push-in-Varint c = record {
  value = (
    values.truth (nat_lt 0 c.in-Varint.number) ∷ [],
    rw c.in-Varint.is refl,
    rw c.in_ok-push-in-Varint.ensures.items (map-append seen c.args.elements.now.items _),
  );
}
