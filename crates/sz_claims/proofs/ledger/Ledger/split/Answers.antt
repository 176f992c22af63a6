use Rattle.std.proofs.Common.{◌≡◌, ◌++◌, [], ◌∷◌, false, map, ap, sym, ◌∙◌, subst, arith}
use Rattle.std.proofs.lemmas.List.{map-append}
use Rattle.sz_claims.specs.Rule.{view_of, slots_out}
use Rattle.sz_claims.proofs.SoundLemmas.{one_ledger, more_room, sound_left, sound_right}
use Rattle.sz_claims.specs.Known.{IsSound}
use Rattle.sz_claims.proofs.PassLemmas.{splits}
use Rattle.sz_claims.proofs.ledger.Ledger.split.Goals as goal

pub split_seat-seat-requires : goal.split_seat-seat-requires
split_seat-seat-requires g c =
    let one = one_ledger _ _ _ (view_of c.pass.inside.seat.me) _ _ _ _ c.pass.view_is c.self.view_is c.requires.of in
    let zeroth : (view_of c.pass.inside.seat.me).number ≡ 0 = ap (λ k. k.number) c.pass.view_is ∙ c.requires.first in
    let words = c.self.invariant.words in
    let cut : map (λ r. r.items) c.pass.inside.room.items ≡ map (λ r. r.items) c.pop.new.self.items ++ c.in-Some.no_number.items ∷ [] =
    ap (map (λ r. r.items)) c.in-Some.ensures.items ∙ map-append (λ r. r.items) c.pop.new.self.items (c.in-Some.no_number ∷ []) in
    let room = more_room _ _ _ _ _ _ _ _ c.pass.invariant zeroth cut in
    (one.table, omega arith, splits _ _ _ _ _ _ c.pass.invariant.live zeroth room.1)

pub invariant_of-result : goal.invariant_of-result
invariant_of-result g c =
    let e = c.split_seat-seat.ensures in
    let zeroth : (view_of c.pass.inside.seat.me).number ≡ 0 = ap (λ k. k.number) c.pass.view_is ∙ c.requires.first in
    let cut : map (λ r. r.items) c.pass.inside.room.items ≡ map (λ r. r.items) c.pop.new.self.items ++ c.in-Some.no_number.items ∷ [] =
    ap (map (λ r. r.items)) c.in-Some.ensures.items ∙ map-append (λ r. r.items) c.pop.new.self.items (c.in-Some.no_number ∷ []) in
    let s = sound_right _ _ _ (slots_out c.split_seat-seat.result.me) _ _ _ _ _ _ c.pass.invariant zeroth (ap (λ m. m.0) e.4) (ap (λ m. m.1) e.4) cut in
    subst (λ rows. IsSound (view_of c.split_seat-seat.result.me) (slots_out c.split_seat-seat.result.me) false c.in-Some.no_number.items 0 (map (λ r. r.items) rows))
    (sym c.new.ensures.items) s

pub invariant_of-pass-2 : goal.invariant_of-pass-2
invariant_of-pass-2 g c =
    let e = c.split_seat-seat.ensures in
    let cut : map (λ r. r.items) c.pass.inside.room.items ≡ map (λ r. r.items) c.pop.new.self.items ++ c.in-Some.no_number.items ∷ [] =
    ap (map (λ r. r.items)) c.in-Some.ensures.items ∙ map-append (λ r. r.items) c.pop.new.self.items (c.in-Some.no_number ∷ []) in
    sound_left _ _ _ _ _ _ _ _ _ _ c.pass.invariant (ap (λ m. m.0) e.2) (ap (λ m. m.1) e.2) cut
