use Rattle.std.proofs.Common.{◌≡◌, ◌∷◌, length, get_or, ap, arith, rules}
use Rattle.sz_records.specs.Ends.{RecordsData}
use Rattle.std.proofs.lemmas.List.{get_or_read}
use Rattle.sz_records.proofs.EndsLemmas.{end_at, record_at, end_within}
use Rattle.sz_records.proofs.records.Records.get.Goals as goal

pub place_before-from-requires : goal.place_before-from-requires
place_before-from-requires c =
    let low = end_at c.args.self.now.items c.self.inside.ends.items c.self.inside.bytes.items c.args.i
    (ap (λ (d : RecordsData). d.items) c.self.view_is) c.requires.within in
    record { within = rw c.as_slice.ensures.value (omega (arith, low)) }

pub index-requires : goal.index-requires
index-requires c =
    let low = end_at c.args.self.now.items c.self.inside.ends.items c.self.inside.bytes.items c.args.i
    (ap (λ (d : RecordsData). d.items) c.self.view_is) c.requires.within in
    search (rules, low)

pub between-requires : goal.between-requires
between-requires c =
    let ends = c.self.inside.ends.items in
    let low = end_at c.args.self.now.items ends c.self.inside.bytes.items c.args.i
    (ap (λ (d : RecordsData). d.items) c.self.view_is) c.requires.within in
    let in_order = end_within 0 ends (length c.self.inside.bytes.items) c.args.i c.self.invariant.order low in
    let to : c.index.result.now ≡ get_or ends c.args.i 0 =
    get_or_read ends c.args.i c.index.result.now low c.index.ensures 0 in
    let from : c.place_before-from.result ≡ get_or (0 ∷ ends) c.args.i 0 =
    rw c.as_slice.ensures.value at c.place_before-from.ensures.value in
    record { order = rw (to, from) in_order.0; within = rw (to, c.as_slice-2.ensures.value) in_order.1 }

pub returns : goal.returns
returns c =
    let ends = c.self.inside.ends.items in
    let bytes = c.self.inside.bytes.items in
    let low = end_at c.args.self.now.items ends bytes c.args.i (ap (λ (d : RecordsData). d.items) c.self.view_is)
    c.requires.within in
    let to : c.index.result.now ≡ get_or ends c.args.i 0 =
    get_or_read ends c.args.i c.index.result.now low c.index.ensures 0 in
    let from : c.place_before-from.result ≡ get_or (0 ∷ ends) c.args.i 0 =
    rw c.as_slice.ensures.value at c.place_before-from.ensures.value in
    record {
      value = rw (
        c.between.ensures.value,
        c.as_slice-2.ensures.value,
        to,
        from,
        ← (ap (λ (d : RecordsData). d.items) c.self.view_is),
      ) (record_at 0 ends bytes c.args.i low);
    }
