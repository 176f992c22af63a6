use Rattle.std.proofs.Common.{◌∷◌, [], refl}
use Rattle.std.proofs.lemmas.List.{map-append}
use Rattle.std.proofs.lemmas.Str.{is_utf8-from_IsUtf8}
use Rattle.sz_value.specs.Data as values
use Rattle.sz_value.specs.Seen.{seen}
use Rattle.sz_proto.proofs.ElementLemmas.{not_utf8}
use Rattle.sz_proto.proofs.elements.add_text.Goals as goal

pub returns-in_default : goal.returns-in_default
returns-in_default c = record { value = rw (c.in-Span.is, not_utf8 _ c.in_default.ensures) refl }

pub returns-in_ok-push-in-Span : goal.returns-in_ok-push-in-Span
returns-in_ok-push-in-Span c = record {
  value = (
    values.str c.in_ok-new-in-Span.field-0 ∷ [],
    rw (c.in-Span.is, is_utf8-from_IsUtf8 _ c.in-Ok.ensures.1, c.in_ok-new-in-Span.ensures.value, c.in-Ok.ensures.0)
        refl,
    rw c.in_ok-push-in-Span.ensures.items (map-append seen c.args.elements.now.items _),
  );
}
