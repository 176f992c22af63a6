use Rattle.std.proofs.Common.{map, length, rules, of_calls, sym, ap, ◌∙◌}
use Rattle.std.specs.Option.{option_map}
use Rattle.std.specs.Global.{Vec}
use Rattle.std.proofs.lemmas.Fn.{always_returns_same}
use Rattle.std.proofs.lemmas.List.Sorted.{IsNonDecreasingBy-from_sort, All-permutation}
use Rattle.sz_wire.specs.declared.field.WireField.{WireField}
use Rattle.sz_wire.specs.Field.{field_in, LiesBefore}
use Rattle.sz_proto.specs.Found.{AreWithin}
use Rattle.sz_proto.proofs.OrderLemmas.{number_stays}
use Rattle.sz_proto.proofs.finding.fields_in.Goals as goal

pub returns : goal.returns
returns c =
    let bytes = c.args.bytes.now in
    let read = c.in-Some.found.items in
    let within : AreWithin (length bytes) read = rw c.in-Some.is at c.in_ok-found.ensures.within in
    record {
      value = (
        read,
        sym c.in_ok-found.ensures.value
            ∙ ap (option_map (λ (v : Vec WireField). map (field_in bytes) v.items)) c.in-Some.is,
        record {
          same = number_stays read c.sort_by_key.new.self.items
              (c.in_ok-sort_by_key.ensures.stable (λ (f : WireField). f.number)
              (always_returns_same _ _ _ (λ a r f k. search (rules, of_calls))));
          order = IsNonDecreasingBy-from_sort (λ (f : WireField). f.number) c.sort_by_key.new.self.items
              (c.in_ok-sort_by_key.ensures.sorted (λ (f : WireField). f.number)
              (always_returns_same _ _ _ (λ a r f k. search (rules, of_calls))));
          within =
              All-permutation (λ (f : WireField). LiesBefore (length bytes) f.kind) read c.sort_by_key.new.self.items
              c.in_ok-sort_by_key.ensures.permutation within;
        },
      );
    }
