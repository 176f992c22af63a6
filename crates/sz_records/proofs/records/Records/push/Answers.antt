-- The record is laid as those before it, or placed.
use Rattle.std.proofs.Common.{◌≡◌, ◌+◌, ◌-◌, ◌++◌, ◌∷◌, [], length, ap, arith, ◌∙◌, length-append}
use Rattle.sz_records.specs.Ends.{RecordsData, records_at, file_ends}
use Rattle.sz_records.specs.Laid.{Continues}
use Rattle.sz_records.specs.declared.laid.Laid.{Laid}
use Rattle.sz_records.proofs.EndsLemmas.{one_more, same_data}
use Rattle.sz_records.proofs.LaidLemmas.{laid_more, placed_more}
use Rattle.sz_records.proofs.records.Records.push.Goals as goal

pub invariant_of-self-in-Some : goal.invariant_of-self-in-Some
invariant_of-self-in-Some c =
    let s = c.self.inside in
    let next : Laid = record { from = c.args.end - c.args.size; more = c.args.size - length c.args.bytes.now } in
    let own = c.requires.own in
    let taken = c.requires.taken in
    let long : length c.add.new.bytes.items ≡ length s.bytes.items + length c.args.bytes.now =
    ap length c.in_ok-add-in-Some.ensures.bytes ∙ length-append s.bytes.items c.args.bytes.now in
    let continues : Continues s.laid s.ends.items s.placed.items next c.in-Some.laid =
    rw (c.as_slice.ensures.value, c.as_slice-2.ensures.value) at c.in-Some.ensures.value in
    let more = laid_more s.laid next c.in-Some.laid s.ends.items s.placed.items (length s.bytes.items)
    c.args.size c.args.end (length c.add.new.bytes.items) c.self.invariant
    continues (omega (arith, taken)) (omega (arith, own, long)) (omega (arith, long)) c.ranges.end.fits in
    rw c.in_ok-add-in-Some.ensures.ends more.1

pub invariant_of-self-in-Continue-branch-4 : goal.invariant_of-self-in-Continue-branch-4
invariant_of-self-in-Continue-branch-4 c =
    let s = c.self.inside in
    let long : length c.add-in-None.new.bytes.items ≡ length s.bytes.items + length c.args.bytes.now =
    ap length c.in_ok-add-in-None.ensures.bytes ∙ length-append s.bytes.items c.args.bytes.now in
    let more = placed_more s.laid.from s.laid.more s.ends.items s.placed.items (length s.bytes.items)
    c.self.invariant c.args.end (length c.add-in-None.new.bytes.items)
    (omega (arith, long)) in
    rw (c.in_ok-add-in-None.ensures.ends, c.in_ok-push-in-None.ensures.items, c.reserve.ensures.items) more.1

pub returns-in_ok-add-in-Some-clause-value : goal.returns-in_ok-add-in-Some-clause-value
returns-in_ok-add-in-Some-clause-value c =
    let s = c.self.inside in
    let next : Laid = record { from = c.args.end - c.args.size; more = c.args.size - length c.args.bytes.now } in
    let own = c.requires.own in
    let taken = c.requires.taken in
    let long : length c.add.new.bytes.items ≡ length s.bytes.items + length c.args.bytes.now =
    ap length c.in_ok-add-in-Some.ensures.bytes ∙ length-append s.bytes.items c.args.bytes.now in
    let continues : Continues s.laid s.ends.items s.placed.items next c.in-Some.laid =
    rw (c.as_slice.ensures.value, c.as_slice-2.ensures.value) at c.in-Some.ensures.value in
    let more = laid_more s.laid next c.in-Some.laid s.ends.items s.placed.items (length s.bytes.items)
    c.args.size c.args.end (length c.add.new.bytes.items) c.self.invariant
    continues (omega (arith, taken)) (omega (arith, own, long)) (omega (arith, long)) c.ranges.end.fits in
    let items : records_at 0 c.add.new.ends.items c.add.new.bytes.items
    ≡ c.args.self.now.items ++ c.args.bytes.now ∷ [] =
    rw (
      c.in_ok-add-in-Some.ensures.ends,
      c.in_ok-add-in-Some.ensures.bytes,
      ← ap (λ (d : RecordsData). d.items) c.self.view_is,
    )
    (one_more 0 s.ends.items s.bytes.items c.args.bytes.now (length (s.bytes.items ++ c.args.bytes.now))
    c.self.invariant.order (length-append s.bytes.items c.args.bytes.now)) in
    let ends : file_ends c.in-Some.laid.from c.in-Some.laid.more c.add.new.ends.items s.placed.items
    ≡ c.args.self.now.ends ++ c.args.end ∷ [] =
    rw (c.in_ok-add-in-Some.ensures.ends, ← ap (λ (d : RecordsData). d.ends) c.self.view_is) more.0 in
    same_data _ _ items ends

pub returns-in_ok-push-in-None-clause-value : goal.returns-in_ok-push-in-None-clause-value
returns-in_ok-push-in-None-clause-value c =
    let s = c.self.inside in
    let long : length c.add-in-None.new.bytes.items ≡ length s.bytes.items + length c.args.bytes.now =
    ap length c.in_ok-add-in-None.ensures.bytes ∙ length-append s.bytes.items c.args.bytes.now in
    let more = placed_more s.laid.from s.laid.more s.ends.items s.placed.items (length s.bytes.items)
    c.self.invariant c.args.end (length c.add-in-None.new.bytes.items)
    (omega (arith, long)) in
    let items : records_at 0 c.add-in-None.new.ends.items c.add-in-None.new.bytes.items
    ≡ c.args.self.now.items ++ c.args.bytes.now ∷ [] =
    rw (
      c.in_ok-add-in-None.ensures.ends,
      c.in_ok-add-in-None.ensures.bytes,
      ← ap (λ (d : RecordsData). d.items) c.self.view_is,
    )
    (one_more 0 s.ends.items s.bytes.items c.args.bytes.now (length (s.bytes.items ++ c.args.bytes.now))
    c.self.invariant.order (length-append s.bytes.items c.args.bytes.now)) in
    let ends : file_ends s.laid.from s.laid.more c.add-in-None.new.ends.items c.push.new.self.items
    ≡ c.args.self.now.ends ++ c.args.end ∷ [] =
    rw (
      c.in_ok-add-in-None.ensures.ends,
      c.in_ok-push-in-None.ensures.items,
      c.reserve.ensures.items,
      ← ap (λ (d : RecordsData). d.ends) c.self.view_is,
    ) more.0 in
    same_data _ _ items ends
