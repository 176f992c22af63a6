-- The records that are left begin where the first ones end, in the buffer and in their file.
use Rattle.std.proofs.Common.{◌≡◌, ◌+◌, ◌-◌, ◌*◌, ◌≤◌, ◌∷◌, length, drop, get_or, ap, arith, length-drop}
use Rattle.sz_records.specs.Ends.{RecordsData, records_at, file_ends}
use Rattle.sz_records.proofs.EndsLemmas.{ends_up_to, place_within, cleared, same_data}
use Rattle.sz_records.proofs.LaidLemmas.{laid_reach, ends_later}
use Rattle.sz_records.proofs.records.Records.clear.Goals as goal

pub place_before-place-requires : goal.place_before-place-requires
place_before-place-requires c =
    record {
      within = rw c.as_slice.ensures.value
          (ends_up_to c.args.self.now.items c.self.inside.ends.items c.self.inside.bytes.items c.args.front
          (ap (λ (d : RecordsData). d.items) c.self.view_is) c.requires.within);
    }

pub left_from-self-inside-requires : goal.left_from-self-inside-requires
left_from-self-inside-requires c =
    let s = c.self.inside in
    let place : c.place_before-place.result ≡ get_or (0 ∷ s.ends.items) c.args.front 0 =
    rw c.as_slice.ensures.value at c.place_before-place.ensures.value in
    record {
      bound = λ le. (
          let low : c.args.front ≤ length s.ends.items - length s.placed.items =
          (let a = c.len.ensures in let b = c.len-2.ensures in omega (arith, le, a, b)) in
          rw place (laid_reach s.laid.from s.laid.more s.ends.items s.placed.items (length s.bytes.items)
          c.self.invariant c.args.front low));
    }

pub drop_front-requires : goal.drop_front-requires
drop_front-requires c =
    let s = c.self.inside in
    let le = ends_up_to c.args.self.now.items s.ends.items s.bytes.items c.args.front
    (ap (λ (d : RecordsData). d.items) c.self.view_is) c.requires.within in
    let few = c.self.invariant.few in
    let a = c.len.ensures in
    let b = c.len-2.ensures in
    let gone = c.saturating_sub.ensures in
    record { within = omega (arith, le, few, a, b, gone) }

pub drop_front-requires-2 : goal.drop_front-requires-2
drop_front-requires-2 c =
    let ends = c.self.inside.ends.items in
    let le = ends_up_to c.args.self.now.items ends c.self.inside.bytes.items c.args.front
    (ap (λ (d : RecordsData). d.items) c.self.view_is) c.requires.within in
    record {
      within = rw (c.place_before-place.ensures.value, c.as_slice.ensures.value)
          (place_within 0 ends (length c.self.inside.bytes.items) c.args.front c.self.invariant.order le);
    }

pub drop_front-requires-3 : goal.drop_front-requires-3
drop_front-requires-3 c =
    record {
      within = ends_up_to c.args.self.now.items c.self.inside.ends.items c.self.inside.bytes.items c.args.front
          (ap (λ (d : RecordsData). d.items) c.self.view_is) c.requires.within;
    }

pub invariant_of-self : goal.invariant_of-self
invariant_of-self c =
    let s = c.self.inside in
    let le = ends_up_to c.args.self.now.items s.ends.items s.bytes.items c.args.front
    (ap (λ (d : RecordsData). d.items) c.self.view_is) c.requires.within in
    let place : c.place_before-place.result ≡ get_or (0 ∷ s.ends.items) c.args.front 0 =
    rw c.as_slice.ensures.value at c.place_before-place.ensures.value in
    let gone : c.saturating_sub.result ≡ c.args.front - (length s.ends.items - length s.placed.items) =
    (let a = c.len.ensures in let b = c.len-2.ensures in let g = c.saturating_sub.ensures in omega (arith, a, b, g)) in
    let start : c.args.front ≤ length s.ends.items - length s.placed.items
    → c.left_from-self-inside.result ≡ s.laid.from + get_or (0 ∷ s.ends.items) c.args.front 0 + s.laid.more * c.args.front =
    λ low. rw place at (c.left_from-self-inside.ensures.value (let a = c.len.ensures in let b = c.len-2.ensures in
    omega (arith, low, a, b))) in
    let left = ends_later s.laid.from s.laid.more s.ends.items s.placed.items (length s.bytes.items)
    c.self.invariant c.args.front c.left_from-self-inside.result le start
    c.left_from-self-inside.type_inv in
    rw (
      c.lower.ensures.value,
      c.drop_front-3.ensures.value,
      c.drop_front-2.ensures.value,
      c.drop_front.ensures.value,
      gone,
      length-drop c.place_before-place.result s.bytes.items,
      place,
    ) left.1

pub returns : goal.returns
returns c =
    let s = c.self.inside in
    let le = ends_up_to c.args.self.now.items s.ends.items s.bytes.items c.args.front
    (ap (λ (d : RecordsData). d.items) c.self.view_is) c.requires.within in
    let place : c.place_before-place.result ≡ get_or (0 ∷ s.ends.items) c.args.front 0 =
    rw c.as_slice.ensures.value at c.place_before-place.ensures.value in
    let gone : c.saturating_sub.result ≡ c.args.front - (length s.ends.items - length s.placed.items) =
    (let a = c.len.ensures in let b = c.len-2.ensures in let g = c.saturating_sub.ensures in omega (arith, a, b, g)) in
    let start : c.args.front ≤ length s.ends.items - length s.placed.items
    → c.left_from-self-inside.result ≡ s.laid.from + get_or (0 ∷ s.ends.items) c.args.front 0 + s.laid.more * c.args.front =
    λ low. rw place at (c.left_from-self-inside.ensures.value (let a = c.len.ensures in let b = c.len-2.ensures in
    omega (arith, low, a, b))) in
    let left = ends_later s.laid.from s.laid.more s.ends.items s.placed.items (length s.bytes.items)
    c.self.invariant c.args.front c.left_from-self-inside.result le start
    c.left_from-self-inside.type_inv in
    let items : records_at 0 c.lower.new.places.items c.drop_front-2.new.list.items ≡ drop c.args.front c.args.self.now.items =
    rw (
      c.lower.ensures.value,
      c.drop_front-3.ensures.value,
      c.drop_front-2.ensures.value,
      ← ap (λ (d : RecordsData). d.items) c.self.view_is,
    )
    (cleared s.ends.items s.bytes.items c.args.front c.place_before-place.result c.self.invariant.order le place) in
    let ends : file_ends c.left_from-self-inside.result s.laid.more c.lower.new.places.items
    c.drop_front.new.list.items ≡ drop c.args.front c.args.self.now.ends =
    rw (
      c.lower.ensures.value,
      c.drop_front-3.ensures.value,
      c.drop_front.ensures.value,
      gone,
      place,
      ← ap (λ (d : RecordsData). d.ends) c.self.view_is,
    ) left.0 in
    record { value = same_data _ _ items ends }
