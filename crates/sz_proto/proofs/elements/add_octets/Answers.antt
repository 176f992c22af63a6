use Rattle.std.proofs.Common.{◌∷◌, [], refl}
use Rattle.std.proofs.lemmas.List.{map-append}
use Rattle.sz_value.specs.Data as values
use Rattle.sz_value.specs.Seen.{seen}
use Rattle.sz_proto.proofs.elements.add_octets.Goals as goal

pub returns-in_ok-push-in-Span : goal.returns-in_ok-push-in-Span
returns-in_ok-push-in-Span c = record {
  value = (
    values.bytes c.in_ok-from_slice-in-Span.field-0 ∷ [],
    rw (c.in-Span.is, c.in_ok-from_slice-in-Span.ensures.value) refl,
    rw c.in_ok-push-in-Span.ensures.items (map-append seen c.args.elements.now.items _),
  );
}
