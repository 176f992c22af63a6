-- The places where records end tell how many bytes lie between two of them.
use Rattle.std.proofs.Common.{◌≡◌, ◌∷◌, get_or, ap, arith}
use Rattle.sz_records.specs.Ends.{RecordsData}
use Rattle.sz_records.proofs.EndsLemmas.{ends_up_to, bytes_held}
use Rattle.sz_records.proofs.records.Records.bytes_between.Goals as goal

pub place_before-low-requires : goal.place_before-low-requires
place_before-low-requires c =
    let all = ends_up_to c.args.self.now.items c.self.inside.ends.items c.self.inside.bytes.items c.args.to
    (ap (λ (d : RecordsData). d.items) c.self.view_is) c.requires.within in
    let order = c.requires.order in
    record { within = rw c.as_slice.ensures.value (omega (arith, all, order)) }

pub place_before-high-requires : goal.place_before-high-requires
place_before-high-requires c =
    record {
      within = rw c.as_slice-2.ensures.value (ends_up_to c.args.self.now.items c.self.inside.ends.items
          c.self.inside.bytes.items c.args.to (ap (λ (d : RecordsData). d.items) c.self.view_is) c.requires.within);
    }

pub overflow_sub-result : goal.overflow_sub-result
overflow_sub-result c =
    let ends = c.self.inside.ends.items in
    let held = bytes_held c.args.self.now.items ends c.self.inside.bytes.items c.args.from c.args.to
    (ap (λ (d : RecordsData). d.items) c.self.view_is) c.self.invariant.order c.requires.order c.requires.within in
    let low : c.place_before-low.result ≡ get_or (0 ∷ ends) c.args.from 0 =
    rw c.as_slice.ensures.value at c.place_before-low.ensures.value in
    let high : c.place_before-high.result ≡ get_or (0 ∷ ends) c.args.to 0 =
    rw c.as_slice-2.ensures.value at c.place_before-high.ensures.value in
    omega (arith, held, low, high)

pub returns : goal.returns
returns c =
    let ends = c.self.inside.ends.items in
    let held = bytes_held c.args.self.now.items ends c.self.inside.bytes.items c.args.from c.args.to
    (ap (λ (d : RecordsData). d.items) c.self.view_is) c.self.invariant.order c.requires.order c.requires.within in
    let low : c.place_before-low.result ≡ get_or (0 ∷ ends) c.args.from 0 =
    rw c.as_slice.ensures.value at c.place_before-low.ensures.value in
    let high : c.place_before-high.result ≡ get_or (0 ∷ ends) c.args.to 0 =
    rw c.as_slice-2.ensures.value at c.place_before-high.ensures.value in
    record { value = omega (arith, held, low, high) }
