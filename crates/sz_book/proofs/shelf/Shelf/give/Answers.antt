use Rattle.std.proofs.Common.{◌≡◌, ◌-◌, ◌++◌, ◌∙◌, ℕ, List, length, take, drop, sym, ap, refl}
use Rattle.std.proofs.lemmas.List.{take_rest}
use Rattle.sz_book.proofs.ShelfLemmas.{not_given, is_given, in_place_back}
use Rattle.sz_book.proofs.shelf.Shelf.give.Goals as goal

-- the shards of a slice that begin with a list are that list and the rest
after : (list slice shards : List ℕ) (n : ℕ) → slice ≡ shards → slice ≡ list ++ drop n slice
    → shards ≡ list ++ take (length slice - n) (drop n slice)
after list slice shards n seen is = sym seen ∙ is ∙ ap (λ (l : List ℕ). list ++ l) (sym (take_rest slice n))

-- the lane is dropped, since it doesn't fit
pub returns-then-not-fits : goal.returns-then-not-fits
returns-then-not-fits g c =
    let slice = c.as_slice-shards.result.now in
    let n = c.in-Some.count in
    let is = after _ slice c.args.lane.shards n
    (c.as_slice-shards.ensures.value ∙ c.shards.ensures.value) c.in-Some.ensures.some.1 in
    record {
      given = rw (← c.self.view_is) (not_given _ c.args.lane_no c.args.lane (take (length slice - n) (drop n slice)) is
          (λ fits. absurd (cc (sym c.if-not-fits.true ∙ c.fits.ensures.fits.1 fits))));
    }

-- the lane was out, and is home
pub invariant_of-self : goal.invariant_of-self
invariant_of-self g c =
    let h = c.self.inside.ledger in
    let slice = c.as_slice-shards.result.now in
    let n = c.in-Some.count in
    let is = after _ slice c.args.lane.shards n
    (c.as_slice-shards.ensures.value ∙ c.shards.ensures.value) c.in-Some.ensures.some.1 in
    let step = c.apply.ensures.applied.step in
    let lanes = in_place_back h.plan h.state c.args.lane_no (take (length slice - n) (drop n slice))
    c.args.lane c.self.inside.homes.items c.self.invariant.lanes step.fits.within is in
    record {
      lanes = rw step.next lanes;
      empty = c.self.invariant.empty;
      room = c.self.invariant.room;
    }

pub returns : goal.returns
returns g c =
    let slice = c.as_slice-shards.result.now in
    let n = c.in-Some.count in
    let is = after _ slice c.args.lane.shards n
    (c.as_slice-shards.ensures.value ∙ c.shards.ensures.value) c.in-Some.ensures.some.1 in
    record {
      given = rw (← c.self.view_is) (is_given _ _ c.args.lane_no c.args.lane (take (length slice - n) (drop n slice))
          c.apply.result is c.apply.ensures.applied refl);
    }
