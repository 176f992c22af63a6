use Rattle.std.proofs.Common.{◌≡◌, ◌||◌, ap, sym, ◌∙◌, subst, arith, false, is_none}
use Rattle.std.specs.Prelude.{slice_index_or}
use Rattle.sz_claims.specs.Rule.{view_of, bit}
use Rattle.sz_claims.proofs.SoundLemmas.{one_ledger, in_plan, sound_number, in_marks, one_default, none_is}
use Rattle.sz_book_rules.specs.History.{HasDrawn}
use Rattle.sz_claims.proofs.ledger.Ledger.number.Goals as goal
use Rattle.sz_book_rules.specs.Machine.{number_reply}

pub index-before-requires : goal.index-before-requires
index-before-requires g c =
    let drew : HasDrawn c.args.claim.now (view_of c.pass.inside.seat.me).mine =
    subst (λ k. HasDrawn c.args.claim.now k.mine) (sym c.pass.view_is) c.requires.drew in
    let low = in_marks _ _ _ _ _ _ _ c.pass.invariant drew in
    let same = c.pass.inside.no_number.ok.0 in omega arith

pub number_found-found-requires-clause-table : goal.number_found-found-requires-clause-table
number_found-found-requires-clause-table g c =
    let one = one_ledger _ _ _ (view_of c.pass.inside.seat.me) _ _ _ _ c.pass.view_is c.self.view_is c.requires.of in
    let drew : HasDrawn c.args.claim.now (view_of c.pass.inside.seat.me).mine =
    subst (λ k. HasDrawn c.args.claim.now k.mine) (sym c.pass.view_is) c.requires.drew in
    let t = in_plan _ _ _ _ _ _ _ _ c.pass.invariant one.plan c.self.invariant.plan drew in
    let words = c.self.invariant.words in
    (one.table, omega arith)

pub number_found-found-requires-clause-before : goal.number_found-found-requires-clause-before
number_found-found-requires-clause-before g c =
    let one = one_ledger _ _ _ (view_of c.pass.inside.seat.me) _ _ _ _ c.pass.view_is c.self.view_is c.requires.of in
    let drew : HasDrawn c.args.claim.now (view_of c.pass.inside.seat.me).mine =
    subst (λ k. HasDrawn c.args.claim.now k.mine) (sym c.pass.view_is) c.requires.drew in
    let t = in_plan _ _ _ _ _ _ _ _ c.pass.invariant one.plan c.self.invariant.plan drew in
    let low = in_marks _ _ _ _ _ _ _ c.pass.invariant drew in
    c.pass.invariant.no_number c.args.claim.now.ticket t.0
    ∙ ap bit (one_default c.pass.inside.no_number.items c.args.claim.now.ticket false c.index-before.result.now low ∙ sym c.index-before.ensures)

pub index_mut-requires : goal.index_mut-requires
index_mut-requires g c =
    let drew : HasDrawn c.args.claim.now (view_of c.pass.inside.seat.me).mine =
    subst (λ k. HasDrawn c.args.claim.now k.mine) (sym c.pass.view_is) c.requires.drew in
    let low = in_marks _ _ _ _ _ _ _ c.pass.invariant drew in
    let same = c.pass.inside.no_number.ok.0 in omega arith

pub invariant_of-pass : goal.invariant_of-pass
invariant_of-pass g c =
    let drew : HasDrawn c.args.claim.now (view_of c.pass.inside.seat.me).mine =
    subst (λ k. HasDrawn c.args.claim.now k.mine) (sym c.pass.view_is) c.requires.drew in
    let low = in_marks _ _ _ _ _ _ _ c.pass.invariant drew in
    let f = c.number_found-found in
    let marks = c.pass.inside.no_number.items in
    let t = c.args.claim.now.ticket in
    let was : c.index-before.result.now ≡ slice_index_or marks t false = c.index-before.ensures
    ∙ one_default marks t c.index-before.result.now false low in
    let mark : c.or-vain.result ≡ (slice_index_or marks t false || is_none c.attempt_found-number.result) =
    c.or-vain.ensures ∙ ap (λ b. b || c.is_none.result) was ∙ ap (λ b. slice_index_or marks t false || b) (none_is _ _ c.is_none.ensures) in
    let reply = c.attempt_found-number.ensures.value ∙ ap (λ k. number_reply k.plan f.result) (sym c.self.invariant.key) in
    sound_number c.self.inside.setup.plan _ _ _ _ _ _ _ _ c.args.claim.now _ c.attempt_found-number.result _ c.pass.invariant f.ensures.call.0
    f.ensures.call.1 reply low mark
