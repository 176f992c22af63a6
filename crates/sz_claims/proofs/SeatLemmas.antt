-- One view changes, and its number and weight stay.
use Rattle.std.proofs.Common.{◌≡◌, ◌≢◌, ◌⊎◌, ℕ, zero, suc, ◌+◌, ◌<◌, List, [], ◌∷◌, set, refl, ap, sym, ◌∙◌, subst, inl, inr, ⊎_elim, arith}
use mathlib.Core.Option.{some, some-ne-none, some-injective}
use mathlib.Core.Logic.{dite}
use native.Mathlib.Decide.{ℕ_discrete}
use lib.ListN.{get_elem?}
use Rattle.atomic_table.proofs.Lists.{at_set, set_else}
use Rattle.sz_claims.specs.declared.view.Account.{Account}
use Rattle.sz_claims.specs.declared.view.View.{View}
use Rattle.sz_book_rules.specs.Machine.{LedgerState}
use Rattle.sz_claims.specs.Rule.{IsAt, weights, AreNumbered, HaveBorrowers}

pub set_at : (vs : List View) (i : ℕ) (v w : View) → get_elem? vs i ≡ some v → get_elem? (set vs i w) i ≡ some w
set_at [] i v w e = absurd (some-ne-none v (sym e))
set_at (x ∷ xs) zero v w e = refl
set_at (x ∷ xs) (suc i) v w e = set_at xs i v w e

pub weights_set : (vs : List View) (i : ℕ) (v w : View) → get_elem? vs i ≡ some v → weights (set vs i w) + v.weight ≡ weights vs + w.weight
weights_set [] i v w e = absurd (some-ne-none v (sym e))
weights_set (x ∷ xs) zero v w e = let is : x.weight ≡ v.weight = ap (λ (u : View). u.weight) (some-injective x v e) in omega arith
weights_set (x ∷ xs) (suc i) v w e = omega (arith, weights_set xs i v w e)

-- each live view after the change is the new one, or stood there before
pub was : (vs : List View) (i : ℕ) (w : View) (j : ℕ) (u : View) → IsAt (set vs i w) j u → ((j ≡ i) × (w ≡ u)) ⊎ ((j ≢ i) × IsAt vs j u)
was vs i w j u at = ⊎_elim (λ (t : (j ≡ i) × (w ≡ u)). inl t) (λ (t : (j ≢ i) × (get_elem? vs j ≡ some u)). inr (t.0, (t.1, at.1)))
    (at_set vs i j w u at.0)

-- and a view with its number stood there before
pub stood : (vs : List View) (i : ℕ) (v w : View) → IsAt vs i v → w.number ≡ v.number → (j : ℕ) (u : View) → IsAt (set vs i w) j u
    → (x : View) × IsAt vs j x × (x.number ≡ u.number)
stood vs i v w at same j u there = ⊎_elim
    (λ (t : (j ≡ i) × (w ≡ u)). (v, subst (λ (k : ℕ). IsAt vs k v) (sym t.0) at, sym same ∙ ap (λ (y : View). y.number) t.1))
    (λ (t : (j ≢ i) × IsAt vs j u). (u, t.1, refl))
    (was vs i w j u there)

-- each that stood there is followed by one with its number
pub stays : (vs : List View) (i : ℕ) (v w : View) → IsAt vs i v → w.number ≡ v.number → 0 < w.weight → (j : ℕ) (u : View) → IsAt vs j u
    → (id : ℕ) × (x : View) × IsAt (set vs i w) id x × (x.number ≡ u.number)
stays vs i v w at same live j u there = dite (ℕ_discrete j i)
    (λ (e : j ≡ i). let is : u ≡ v = some-injective u v (sym there.0 ∙ ap (λ (k : ℕ). get_elem? vs k) e ∙ at.0) in
    (i, w, (set_at vs i v w at.0, live), same ∙ ap (λ (y : View). y.number) (sym is)))
    (λ (ne : j ≢ i). (j, u, (set_else vs i j w ne ∙ there.0, there.1), refl))

pub numbered_set : (vs : List View) (made : ℕ) (joined : List Account) (i : ℕ) (v w : View) → IsAt vs i v → w.number ≡ v.number → w.weight ≡ v.weight
    → AreNumbered vs made joined → AreNumbered (set vs i w) made joined
numbered_set vs made joined i v w at same weight r =
    let live : 0 < w.weight = let l = at.1 in omega arith in record {
      apart = λ j k u x a b e.
          let u' = stood vs i v w at same j u a in
          let x' = stood vs i v w at same k x b in
          r.apart j k u'.0 x'.0 u'.1 x'.1 (u'.2 ∙ e ∙ sym x'.2);
      numbers = r.numbers;
      away = λ k a there j u at' e.
          let u' = stood vs i v w at same j u at' in
          r.away k a there j u'.0 u'.1 (u'.2 ∙ e);
      once = r.once;
      covers = λ n below. ⊎_elim
          (λ (t : (id : ℕ) × (u : View) × IsAt vs id u × (u.number ≡ n)).
          let x = stays vs i v w at same live t.0 t.1 t.2 in
          inl (x.0, x.1, x.2, x.3 ∙ t.3))
          (λ (t : (k : ℕ) × (a : Account) × (get_elem? joined k ≡ some a) × (a.number ≡ n)). inr t)
          (r.covers n below);
      whole = let s = weights_set vs i v w at.0 in let o = r.whole in omega arith;
    }

-- the lane of each view stays with it
lane_stood : (vs : List View) (i : ℕ) (v w : View) → IsAt vs i v → w.lane ≡ v.lane → (j : ℕ) (u : View) → IsAt (set vs i w) j u
    → (x : View) × IsAt vs j x × (x.lane ≡ u.lane)
lane_stood vs i v w at same j u there = ⊎_elim
    (λ (t : (j ≡ i) × (w ≡ u)). (v, subst (λ (k : ℕ). IsAt vs k v) (sym t.0) at, sym same ∙ ap (λ (y : View). y.lane) t.1))
    (λ (t : (j ≢ i) × IsAt vs j u). (u, t.1, refl))
    (was vs i w j u there)

pub lane_stays : (vs : List View) (i : ℕ) (v w : View) → IsAt vs i v → w.lane ≡ v.lane → 0 < w.weight → (j : ℕ) (u : View) → IsAt vs j u
    → (id : ℕ) × (x : View) × IsAt (set vs i w) id x × (x.lane ≡ u.lane)
lane_stays vs i v w at same live j u there = dite (ℕ_discrete j i)
    (λ (e : j ≡ i). let is : u ≡ v = some-injective u v (sym there.0 ∙ ap (λ (k : ℕ). get_elem? vs k) e ∙ at.0) in
    (i, w, (set_at vs i v w at.0, live), same ∙ ap (λ (y : View). y.lane) (sym is)))
    (λ (ne : j ≢ i). (j, u, (set_else vs i j w ne ∙ there.0, there.1), refl))

-- one view changes, and keeps its lane
pub borrowed_set : (vs : List View) (lanes : ℕ) (x : LedgerState) (i : ℕ) (v w : View) → IsAt vs i v → w.lane ≡ v.lane → 0 < w.weight → HaveBorrowers vs lanes x
    → HaveBorrowers (set vs i w) lanes x
borrowed_set vs lanes x i v w at same live h = record {
  once = λ j k m u y a b has has'.
      let u' = lane_stood vs i v w at same j u a in
      let y' = lane_stood vs i v w at same k y b in
      h.once j k m u'.0 y'.0 u'.1 y'.1 (u'.2 ∙ has) (y'.2 ∙ has');
  each = λ k low out.
      let t = h.each k low out in
      let r = lane_stays vs i v w at same live t.0 t.1 t.2 in
      (r.0, r.1, r.2, r.3 ∙ t.3);
}
