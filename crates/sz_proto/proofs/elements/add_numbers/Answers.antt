use Rattle.std.proofs.Common.{◌≡◌, ◌∷◌, [], to_z, of_z, w64, refl, ap, ◌∙◌, rules}
use Rattle.std.proofs.lemmas.List.{map-append}
use Rattle.sz_value.specs.Seen.{seen}
use Rattle.sz_proto.specs.Found.{whole_number}
use Rattle.sz_proto.proofs.elements.add_numbers.Goals as goal

pub returns-in_ok-push-in-Varint : goal.returns-in_ok-push-in-Varint
returns-in_ok-push-in-Varint c =
    let back : to_z w64 (of_z w64 c.from_varint.result) ≡ c.from_varint.result = search rules in
    let number = c.whole_number.ensures.value ∙ ap (whole_number c.args.is_time) (back ∙ c.from_varint.ensures.value) in
    record {
      value = (
        seen c.whole_number.result ∷ [],
        rw (c.in-Varint.is, number) refl,
        rw c.in_ok-push-in-Varint.ensures.items (map-append seen c.args.elements.now.items _),
      );
    }

pub returns-in_ok-push-in-Eight : goal.returns-in_ok-push-in-Eight
returns-in_ok-push-in-Eight c =
    let back : to_z w64 (of_z w64 c.from_eight.result) ≡ c.from_eight.result = search rules in
    let number = c.whole_number-in-Eight.ensures.value
    ∙ ap (whole_number c.args.is_time) (back ∙ c.from_eight.ensures.value) in
    record {
      value = (
        seen c.whole_number-in-Eight.result ∷ [],
        rw (c.in-Eight.is, number) refl,
        rw c.in_ok-push-in-Eight.ensures.items (map-append seen c.args.elements.now.items _),
      );
    }

pub returns-in_ok-push-in-Four : goal.returns-in_ok-push-in-Four
returns-in_ok-push-in-Four c =
    let back : to_z w64 (of_z w64 c.from_four.result) ≡ c.from_four.result = search rules in
    let number = c.whole_number-in-Four.ensures.value
    ∙ ap (whole_number c.args.is_time) (back ∙ c.from_four.ensures.value) in
    record {
      value = (
        seen c.whole_number-in-Four.result ∷ [],
        rw (c.in-Four.is, number) refl,
        rw c.in_ok-push-in-Four.ensures.items (map-append seen c.args.elements.now.items _),
      );
    }
