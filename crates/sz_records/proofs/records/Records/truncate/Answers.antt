-- The first records end where they did.
use Rattle.std.proofs.Common.{◌≡◌, ◌-◌, ◌<◌, ◌≤◌, ◌∷◌, length, take, get_or, sym, ap, arith}
use Rattle.std.proofs.lemmas.List.{take_all, length-take-le}
use Rattle.sz_records.specs.Ends.{RecordsData, records_at, file_ends}
use Rattle.sz_records.proofs.EndsLemmas.{records_len, place_within, kept, same_data}
use Rattle.sz_records.proofs.LaidLemmas.{ends_len, ends_first}
use Rattle.sz_records.proofs.records.Records.truncate.Goals as goal

pub invariant_of-self : goal.invariant_of-self
invariant_of-self c =
    let s = c.self.inside in
    let lt : c.args.count < length s.ends.items =
    (let t = c.if-count-len.true in let n = c.len.ensures in omega (arith, t, n)) in
    let place : c.place_before-place.result ≡ get_or (0 ∷ s.ends.items) c.args.count 0 =
    rw c.as_slice.ensures.value at c.place_before-place.ensures.value in
    let kept_count : c.saturating_sub.result ≡ c.args.count - (length s.ends.items - length s.placed.items) =
    (let a = c.len-then-count-len.ensures in let b = c.len-then-count-len-2.ensures in
    let g = c.saturating_sub.ensures in omega (arith, a, b, g)) in
    let first = ends_first s.laid.from s.laid.more s.ends.items s.placed.items (length s.bytes.items)
    c.self.invariant c.args.count lt in
    let within : get_or (0 ∷ s.ends.items) c.args.count 0 ≤ length s.bytes.items =
    place_within 0 s.ends.items (length s.bytes.items) c.args.count c.self.invariant.order (omega (arith, lt)) in
    rw (
      c.truncate.ensures.items,
      c.truncate-then-count-len.ensures.items,
      c.truncate-then-count-len-2.ensures.items,
      kept_count,
      place,
      length-take-le (get_or (0 ∷ s.ends.items) c.args.count 0) s.bytes.items within,
    ) first.1

pub returns-then-count-len : goal.returns-then-count-len
returns-then-count-len c =
    let s = c.self.inside in
    let lt : c.args.count < length s.ends.items =
    (let t = c.if-count-len.true in let n = c.len.ensures in omega (arith, t, n)) in
    let place : c.place_before-place.result ≡ get_or (0 ∷ s.ends.items) c.args.count 0 =
    rw c.as_slice.ensures.value at c.place_before-place.ensures.value in
    let kept_count : c.saturating_sub.result ≡ c.args.count - (length s.ends.items - length s.placed.items) =
    (let a = c.len-then-count-len.ensures in let b = c.len-then-count-len-2.ensures in
    let g = c.saturating_sub.ensures in omega (arith, a, b, g)) in
    let first = ends_first s.laid.from s.laid.more s.ends.items s.placed.items (length s.bytes.items)
    c.self.invariant c.args.count lt in
    let items : records_at 0 c.truncate-then-count-len-2.new.self.items c.truncate-then-count-len.new.self.items
    ≡ take c.args.count c.args.self.now.items =
    rw (
      c.truncate-then-count-len.ensures.items,
      c.truncate-then-count-len-2.ensures.items,
      ← ap (λ (d : RecordsData). d.items) c.self.view_is,
    )
    (kept s.ends.items s.bytes.items c.args.count c.place_before-place.result c.self.invariant.order
    (omega (arith, lt)) place) in
    let ends : file_ends s.laid.from s.laid.more c.truncate-then-count-len-2.new.self.items c.truncate.new.self.items
    ≡ take c.args.count c.args.self.now.ends =
    rw (
      c.truncate.ensures.items,
      c.truncate-then-count-len-2.ensures.items,
      kept_count,
      ← ap (λ (d : RecordsData). d.ends) c.self.view_is,
    ) first.0 in
    record { value = same_data _ _ items ends }

-- there are no more records than are to be kept
pub returns-else-count-len : goal.returns-else-count-len
returns-else-count-len c =
    let s = c.self.inside in
    let le : length s.ends.items ≤ c.args.count =
    (let f = c.if-count-len.false in let n = c.len.ensures in omega (arith, f, n)) in
    let items_len = ap (λ (d : RecordsData). length d.items) c.self.view_is in
    let ends_length = ap (λ (d : RecordsData). length d.ends) c.self.view_is in
    let all = records_len 0 s.ends.items s.bytes.items in
    let all_ends =
    ends_len s.laid.from s.laid.more s.ends.items s.placed.items (length s.bytes.items) c.self.invariant in
    record {
      value = same_data _ _ (sym (take_all c.args.count c.args.self.now.items (omega (arith, le, items_len, all))))
          (sym (take_all c.args.count c.args.self.now.ends (omega (arith, le, ends_length, all_ends))));
    }
