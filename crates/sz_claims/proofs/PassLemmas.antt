-- A pass is split off, and a pass is joined.
use Rattle.std.proofs.Common.{◌≡◌, ◌≢◌, ◌⊎◌, ℕ, zero, suc, ◌+◌, ◌^◌, ◌<◌, List, [], ◌∷◌, ◌++◌, set, length, refl, ap, sym, ◌∙◌, subst, inl, inr}
use Rattle.std.proofs.Common.{⊎_elim, arith, length-append}
use mathlib.Core.Option.{some, some-injective, some-ne-none}
use mathlib.Core.Logic.{dite}
use native.Mathlib.Decide.{ℕ_discrete}
use lib.ListN.{get_elem?}
use Rattle.atomic_table.specs.Table.{Splits, Joins}
use Rattle.atomic_table.proofs.Lists.{set_else, at_longer, at_last}
use Rattle.sz_book_rules.specs.Plan.{PlanData}
use Rattle.sz_book_rules.specs.declared.event.Entry.{Entry}
use Rattle.sz_claims.specs.declared.view.Account.{Account}
use Rattle.sz_claims.specs.declared.view.View.{View}
use Rattle.sz_book_rules.specs.History.{calls_by}
use Rattle.sz_book_rules.specs.Machine.{LedgerState, opening}
use Rattle.sz_book_rules.specs.History.{state_after}
use Rattle.sz_claims.specs.Rule.{Slot, IsTrueOf, IsAt, AreNumbered, HaveBorrowers, Kept, weights, split_left, split_right, account, merged, spent}
use Rattle.sz_book_rules.proofs.HistoryLemmas.{starts_empty}
use Rattle.sz_claims.proofs.SeatLemmas.{was, stood, stays, set_at, weights_set, lane_stays}

-- an element of a list with one more at its end
snoc : {A : Type 0} (l : List A) (a b : A) (j : ℕ) → get_elem? (l ++ a ∷ []) j ≡ some b → (get_elem? l j ≡ some b) ⊎ ((j ≡ length l) × (a ≡ b))
snoc [] a b zero e = inr (refl, some-injective a b e)
snoc [] a b (suc j) e = absurd (some-ne-none b (sym e))
snoc (x ∷ xs) a b zero e = inl e
snoc (x ∷ xs) a b (suc j) e = ⊎_elim inl (λ (t : (j ≡ length xs) × (a ≡ b)). inr (ap suc t.0, t.1)) (snoc xs a b j e)

weights_push : (vs : List View) (w : View) → weights (vs ++ w ∷ []) ≡ weights vs + w.weight
weights_push [] w = omega arith
weights_push (v ∷ vs) w = omega (arith, weights_push vs w)

-- each live view after the split is the new one, or its number stood there
split_was : (vs : List View) (i : ℕ) (v : View) → IsAt vs i v → (j : ℕ) (u : View) → IsAt (set vs i (split_left v) ++ split_right v ∷ []) j u
    → ((x : View) × IsAt vs j x × (x.number ≡ u.number)) ⊎ ((j ≡ length (set vs i (split_left v))) × (split_right v ≡ u))
split_was vs i v at j u there = ⊎_elim
    (λ (t : get_elem? (set vs i (split_left v)) j ≡ some u). inl (stood vs i v (split_left v) at refl j u (t, there.1)))
    (λ (t : (j ≡ length (set vs i (split_left v))) × (split_right v ≡ u)). inr t)
    (snoc (set vs i (split_left v)) (split_right v) u j there.0)

split_numbered : (vs : List View) (made : ℕ) (joined : List Account) (i : ℕ) (v : View) → IsAt vs i v → v.made ≡ made
    → ((j : ℕ) (u : View) → IsAt vs j u → u.number < made)
    → AreNumbered vs made joined → AreNumbered (set vs i (split_left v) ++ split_right v ∷ []) (suc made) joined
split_numbered vs made joined i v at count below r =
    let all : List View = set vs i (split_left v) in
    let fresh : (j : ℕ) (x : View) → IsAt vs j x → ¬ (x.number ≡ (split_right v).number) = λ j x a e. let b = below j x a in absurd (omega arith) in
    record {
      apart = λ j k u w a b e. ⊎_elim
          (λ (p : (x : View) × IsAt vs j x × (x.number ≡ u.number)). ⊎_elim
          (λ (q : (x : View) × IsAt vs k x × (x.number ≡ w.number)). r.apart j k p.0 q.0 p.1 q.1 (p.2 ∙ e ∙ sym q.2))
          (λ (q : (k ≡ length all) × (split_right v ≡ w)). absurd (fresh j p.0 p.1 (p.2 ∙ e ∙ ap (λ (y : View). y.number) (sym q.1))))
          (split_was vs i v at k w b))
          (λ (p : (j ≡ length all) × (split_right v ≡ u)). ⊎_elim
          (λ (q : (x : View) × IsAt vs k x × (x.number ≡ w.number)). absurd (fresh k q.0 q.1 (q.2 ∙ sym e ∙ ap (λ (y : View). y.number) (sym p.1))))
          (λ (q : (k ≡ length all) × (split_right v ≡ w)). p.0 ∙ sym q.0)
          (split_was vs i v at k w b))
          (split_was vs i v at j u a);
      numbers = λ k a there. let n = r.numbers k a there in (n.0, omega arith);
      away = λ k a there j u b e. ⊎_elim
          (λ (p : (x : View) × IsAt vs j x × (x.number ≡ u.number)). r.away k a there j p.0 p.1 (p.2 ∙ e))
          (λ (p : (j ≡ length all) × (split_right v ≡ u)).
          let n = r.numbers k a there in
          let same : v.made ≡ a.number = ap (λ (y : View). y.number) p.1 ∙ e in
          absurd (omega arith))
          (split_was vs i v at j u b);
      once = r.once;
      covers = λ n low. dite (ℕ_discrete n made)
          (λ (e : n ≡ made). inl (length all, split_right v, (at_last all (split_right v) (length all) refl, (omega arith)), count ∙ sym e))
          (λ (ne : n ≢ made). ⊎_elim
          (λ (t : (id : ℕ) × (u : View) × IsAt vs id u × (u.number ≡ n)).
          let x = stays vs i v (split_left v) at refl at.1 t.0 t.1 t.2 in
          inl (x.0, x.1, (at_longer all (split_right v ∷ []) x.0 x.1 x.2.0, x.2.1), x.3 ∙ t.3))
          (λ (t : (k : ℕ) × (a : Account) × (get_elem? joined k ≡ some a) × (a.number ≡ n)). inr t)
          (r.covers n (omega arith)));
      whole = let s = weights_set vs i v (split_left v) at.0 in let o = r.whole in weights_push all (split_right v) ∙ (omega arith);
    }

split_knows : (p : PlanData) (lanes : ℕ) (log : List Entry) (x : LedgerState) (made : ℕ) (joined : List Account) (vs : List View) (i : ℕ) (v : View)
    → IsAt vs i v → v.number ≡ 0
    → AreNumbered vs made joined → ((j : ℕ) (u : View) → IsAt vs j u → IsTrueOf p lanes log x made joined u) → calls_by made log ≡ []
    → (j : ℕ) (u : View) → IsAt (set vs i (split_left v) ++ split_right v ∷ []) j u → IsTrueOf p lanes log x (suc made) joined u
split_knows p lanes log x made joined vs i v at zeroth numbered knows none j u there =
    let t = knows i v at in
    let count : v.made ≡ made = (t.first zeroth).0 in ⊎_elim
    (λ (here : get_elem? (set vs i (split_left v)) j ≡ some u). ⊎_elim
    (λ (q : (j ≡ i) × (split_left v ≡ u)).
    subst (λ (y : View). IsTrueOf p lanes log x (suc made) joined y) q.1
    record {
      plan = t.plan;
      lanes_are = t.lanes_are;
      lane = t.lane;
      seen = t.seen;
      told = t.told;
      mine = t.mine;
      number = let b = t.number in
          omega arith;
      first = λ e. (omega arith, (t.first e).1, (t.first e).2);
      alone = t.alone;
    })
    (λ (q : (j ≢ i) × IsAt vs j u).
    let k = knows j u q.1 in
    record {
      plan = k.plan;
      lanes_are = k.lanes_are;
      lane = k.lane;
      seen = k.seen;
      told = k.told;
      mine = k.mine;
      number = let b = k.number in
          omega arith;
      first = λ e. absurd (q.0 (numbered.apart j i u v q.1 at (e ∙ sym zeroth)));
      alone = k.alone;
    })
    (was vs i (split_left v) j u (here, there.1)))
    (λ (new : (j ≡ length (set vs i (split_left v))) × (split_right v ≡ u)).
    subst (λ (y : View). IsTrueOf p lanes log x (suc made) joined y) new.1
    record {
      plan = t.plan;
      lanes_are = t.lanes_are;
      lane = λ k has. absurd (omega arith);
      seen = t.seen;
      told = starts_empty log;
      mine =
          subst (λ (n : ℕ). calls_by n log ≡ []) (sym count) none;
      number = omega arith;
      first = λ e. (let b = t.number in absurd (omega arith));
      alone = λ _. refl;
    })
    (snoc (set vs i (split_left v)) (split_right v) u j there.0)

-- the lanes are with those that had them
split_borrowed : (vs : List View) (lanes : ℕ) (x : LedgerState) (i : ℕ) (v : View) → IsAt vs i v → HaveBorrowers vs lanes x
    → HaveBorrowers (set vs i (split_left v) ++ split_right v ∷ []) lanes x
split_borrowed vs lanes x i v at h =
    let all : List View = set vs i (split_left v) in
    let stood' : (k j : ℕ) (u : View) → IsAt (all ++ split_right v ∷ []) j u → u.lane ≡ k + 1
    → (y : View) × IsAt vs j y × (y.lane ≡ k + 1) = λ k j u there has. ⊎_elim
    (λ (t : get_elem? all j ≡ some u). ⊎_elim
    (λ (q : (j ≡ i) × (split_left v ≡ u)). (v, subst (λ (m : ℕ). IsAt vs m v) (sym q.0) at, ap (λ (y : View). y.lane) q.1 ∙ has))
    (λ (q : (j ≢ i) × IsAt vs j u). (u, q.1, has))
    (was vs i (split_left v) j u (t, there.1)))
    (λ (t : (j ≡ length all) × (split_right v ≡ u)). let none : 0 ≡ u.lane = ap (λ (y : View). y.lane) t.1 in absurd (omega arith))
    (snoc all (split_right v) u j there.0) in record {
      once = λ j k m u y a b has has'.
          let u' = stood' m j u a has in
          let y' = stood' m k y b has' in
          h.once j k m u'.0 y'.0 u'.1 y'.1 u'.2 y'.2;
      each = λ k low out.
          let t = h.each k low out in
          let r = lane_stays vs i v (split_left v) at refl at.1 t.0 t.1 t.2 in
          (r.0, r.1, (at_longer all (split_right v ∷ []) r.0 r.1 r.2.0, r.2.1), r.3 ∙ t.3);
    }

pub splits : (died : ℕ → ℕ → Type 0) (is_bad : ℕ → Type 0) (p : PlanData) (lanes id : ℕ) (v : View) → 0 < v.weight → v.number ≡ 0
    → v.made + 1 < 2 ^ 32 → Splits {S = Slot} (Kept died is_bad p lanes) id v (split_left v) (split_right v)
splits died is_bad p lanes id v live zeroth room s h at =
    let here : IsAt s.views id v = (at, live) in
    let t = h.knows id v here in
    let count : v.made ≡ h.made = (t.first zeroth).0 in
    let b = h.bounded in record {
      log = h.log;
      made = suc h.made;
      joined = h.joined;
      plan = h.plan;
      legal = h.legal;
      reports = h.reports;
      shows = h.shows;
      borrowed = split_borrowed s.views lanes (state_after p (opening p lanes) h.log) id v here h.borrowed;
      bounded = record {
        tickets = let x = b.tickets in omega arith;
        numbers = λ shard low. let x = b.numbers shard low in omega arith;
      };
      small = omega arith;
      numbered = split_numbered s.views h.made h.joined id v here count (λ j u a. (h.knows j u a).number) h.numbered;
      knows = split_knows p lanes h.log (state_after p (opening p lanes) h.log) h.made h.joined s.views id v here zeroth h.numbered h.knows
          (h.others h.made (omega arith));
      closed = h.closed;
      others = λ n above. h.others n (omega arith);
    }

-- each live view after the join is the first pass's, or stood there, and isn't the spent one
join_was : (vs : List View) (i other : ℕ) (v w : View) (j : ℕ) (u : View) → IsAt (set (set vs i (merged v w)) other spent) j u
    → (j ≢ other) × (((j ≡ i) × (merged v w ≡ u)) ⊎ ((j ≢ i) × IsAt vs j u))
join_was vs i other v w j u there = ⊎_elim
    (λ (t : (j ≡ other) × (spent ≡ u)). let none : 0 ≡ u.weight = ap (λ (y : View). y.weight) t.1 in let live = there.1 in absurd (omega arith))
    (λ (t : (j ≢ other) × IsAt (set vs i (merged v w)) j u). (t.0, was vs i (merged v w) j u t.1))
    (was (set vs i (merged v w)) other spent j u there)

join_stood : (vs : List View) (i other : ℕ) (v w : View) → IsAt vs i v → (j : ℕ) (u : View) → IsAt (set (set vs i (merged v w)) other spent) j u
    → (j ≢ other) × ((x : View) × IsAt vs j x × (x.number ≡ u.number))
join_stood vs i other v w at j u there =
    let t = join_was vs i other v w j u there in (
      t.0,
      ⊎_elim
          (λ (q : (j ≡ i) × (merged v w ≡ u)). (v, subst (λ (k : ℕ). IsAt vs k v) (sym q.0) at, ap (λ (y : View). y.number) q.1))
          (λ (q : (j ≢ i) × IsAt vs j u). (u, q.1, refl))
          t.1,
    )

join_numbered : (vs : List View) (made : ℕ) (joined : List Account) (i other : ℕ) (v w : View) → IsAt vs i v → IsAt vs other w → other ≢ i
    → 0 < w.number → w.number < made
    → AreNumbered vs made joined → AreNumbered (set (set vs i (merged v w)) other spent) made (joined ++ account w ∷ [])
join_numbered vs made joined i other v w at there apart high low r =
    let all : List View = set vs i (merged v w) in
    let at' : IsAt vs i v = at in
    let live : 0 < (merged v w).weight = let l = at.1 in omega arith in
    let there' : get_elem? all other ≡ some w = set_else vs i other (merged v w) apart ∙ there.0 in record {
      apart = λ j k u x a b e.
          let p = (join_stood vs i other v w at j u a).1 in
          let q = (join_stood vs i other v w at k x b).1 in
          r.apart j k p.0 q.0 p.1 q.1 (p.2 ∙ e ∙ sym q.2);
      numbers = λ k a e. ⊎_elim
          (λ (p : get_elem? joined k ≡ some a). r.numbers k a p)
          (λ (p : (k ≡ length joined) × (account w ≡ a)). let n : w.number ≡ a.number = ap (λ (y : Account). y.number) p.1 in
          (omega arith, omega arith))
          (snoc joined (account w) a k e);
      away = λ k a e j u b same.
          let x = join_stood vs i other v w at j u b in ⊎_elim
          (λ (p : get_elem? joined k ≡ some a). r.away k a p j x.1.0 x.1.1 (x.1.2 ∙ same))
          (λ (p : (k ≡ length joined) × (account w ≡ a)).
          x.0 (r.apart j other x.1.0 w x.1.1 there (x.1.2 ∙ same ∙ ap (λ (y : Account). y.number) (sym p.1))))
          (snoc joined (account w) a k e);
      once = λ j k a b e f same. ⊎_elim
          (λ (p : get_elem? joined j ≡ some a). ⊎_elim
          (λ (q : get_elem? joined k ≡ some b). r.once j k a b p q same)
          (λ (q : (k ≡ length joined) × (account w ≡ b)). absurd (r.away j a p other w there (ap (λ (y : Account). y.number) q.1 ∙ sym same)))
          (snoc joined (account w) b k f))
          (λ (p : (j ≡ length joined) × (account w ≡ a)). ⊎_elim
          (λ (q : get_elem? joined k ≡ some b). absurd (r.away k b q other w there (ap (λ (y : Account). y.number) p.1 ∙ same)))
          (λ (q : (k ≡ length joined) × (account w ≡ b)). p.0 ∙ sym q.0)
          (snoc joined (account w) b k f))
          (snoc joined (account w) a j e);
      covers = λ n below. ⊎_elim
          (λ (t : (id : ℕ) × (u : View) × IsAt vs id u × (u.number ≡ n)). dite (ℕ_discrete t.0 other)
          (λ (e : t.0 ≡ other).
          let is : t.1 ≡ w = some-injective t.1 w (sym t.2.0 ∙ ap (λ k. get_elem? vs k) e ∙ there.0) in
          inr (length joined, account w, at_last joined (account w) (length joined) refl, ap (λ (y : View). y.number) (sym is) ∙ t.3))
          (λ (ne : t.0 ≢ other).
          dite (ℕ_discrete t.0 i)
          (λ (e : t.0 ≡ i).
          let is : t.1 ≡ v = some-injective t.1 v (sym t.2.0 ∙ ap (λ k. get_elem? vs k) e ∙ at'.0) in
          inl (
            i,
            merged v w,
            (set_else all other i spent (λ x. apart (sym x)) ∙ set_at vs i v (merged v w) at'.0, live),
            ap (λ (y : View). y.number) (sym is) ∙ t.3,
          ))
          (λ (not : t.0 ≢ i). inl (t.0, t.1, (set_else all other t.0 spent ne ∙ set_else vs i t.0 (merged v w) not ∙ t.2.0, t.2.1), t.3))))
          (λ (t : (k : ℕ) × (a : Account) × (get_elem? joined k ≡ some a) × (a.number ≡ n)).
          inr (t.0, t.1, at_longer joined (account w ∷ []) t.0 t.1 t.2, t.3))
          (r.covers n below);
      whole = let a = weights_set vs i v (merged v w) at.0 in let b = weights_set all other w spent there' in let o = r.whole in omega arith;
    }

join_knows : (p : PlanData) (lanes : ℕ) (log : List Entry) (x : LedgerState) (made : ℕ) (joined : List Account) (vs : List View) (i other : ℕ)
    (v w : View) → IsAt vs i v → IsAt vs other w → v.number ≡ 0 → w.weight ≡ 1
    → AreNumbered vs made joined → ((j : ℕ) (u : View) → IsAt vs j u → IsTrueOf p lanes log x made joined u)
    → (j : ℕ) (u : View) → IsAt (set (set vs i (merged v w)) other spent) j u → IsTrueOf p lanes log x made (joined ++ account w ∷ []) u
join_knows p lanes log x made joined vs i other v w at there zeroth single numbered knows j u now =
    let t = knows i v at in
    let o = knows other w there in
    let f = t.first zeroth in ⊎_elim
    (λ (q : (j ≡ i) × (merged v w ≡ u)).
    subst (λ (y : View). IsTrueOf p lanes log x made (joined ++ account w ∷ []) y) q.1
    record {
      plan = t.plan;
      lanes_are = t.lanes_are;
      lane = t.lane;
      seen = t.seen;
      told = o.seen;
      mine = t.mine;
      number = t.number;
      first = λ e. (f.0, ap (λ (l : List Account). l ++ account w ∷ []) f.1, (let l = f.2 in omega (arith, length-append joined (account w ∷ []))));
      alone = λ high. absurd (omega arith);
    })
    (λ (q : (j ≢ i) × IsAt vs j u).
    let k = knows j u q.1 in
    record {
      plan = k.plan;
      lanes_are = k.lanes_are;
      lane = k.lane;
      seen = k.seen;
      told = k.told;
      mine = k.mine;
      number = k.number;
      first =
          λ e. absurd (q.0 (numbered.apart j i u v q.1 at (e ∙ sym zeroth)));
      alone = k.alone;
    })
    (join_was vs i other v w j u now).1

-- the lanes are with those that had them, and the pass that was joined had none
join_borrowed : (vs : List View) (lanes : ℕ) (x : LedgerState) (i other : ℕ) (v w : View) → IsAt vs i v → IsAt vs other w → other ≢ i → w.lane ≡ 0
    → HaveBorrowers vs lanes x
    → HaveBorrowers (set (set vs i (merged v w)) other spent) lanes x
join_borrowed vs lanes x i other v w at there apart home h =
    let all : List View = set vs i (merged v w) in
    let live : 0 < (merged v w).weight = let l = at.1 in omega arith in
    let stood' : (j : ℕ) (u : View) → IsAt (set all other spent) j u → (y : View) × IsAt vs j y × (y.lane ≡ u.lane) = λ j u now. ⊎_elim
    (λ (q : (j ≡ i) × (merged v w ≡ u)). (v, subst (λ (m : ℕ). IsAt vs m v) (sym q.0) at, ap (λ (y : View). y.lane) q.1))
    (λ (q : (j ≢ i) × IsAt vs j u). (u, q.1, refl))
    (join_was vs i other v w j u now).1 in record {
      once = λ j k m u y a b has has'.
          let u' = stood' j u a in
          let y' = stood' k y b in
          h.once j k m u'.0 y'.0 u'.1 y'.1 (u'.2 ∙ has) (y'.2 ∙ has');
      each = λ k low out.
          let t = h.each k low out in
          let ne : t.0 ≢ other = (λ e.
          let is : t.1 ≡ w = some-injective t.1 w (sym t.2.0 ∙ ap (λ m. get_elem? vs m) e ∙ there.0) in
          let none : t.1.lane ≡ 0 = ap (λ (y : View). y.lane) is ∙ home in
          let some' = t.3 in absurd (omega arith)) in
          dite (ℕ_discrete t.0 i)
          (λ (e : t.0 ≡ i).
          let is : t.1 ≡ v = some-injective t.1 v (sym t.2.0 ∙ ap (λ m. get_elem? vs m) e ∙ at.0) in (
            i,
            merged v w,
            (set_else all other i spent (λ m. apart (sym m)) ∙ set_at vs i v (merged v w) at.0, live),
            ap (λ (y : View). y.lane) (sym is) ∙ t.3,
          ))
          (λ (not : t.0 ≢ i). (t.0, t.1, (set_else all other t.0 spent ne ∙ set_else vs i t.0 (merged v w) not ∙ t.2.0, t.2.1), t.3));
    }

pub joins : (died : ℕ → ℕ → Type 0) (is_bad : ℕ → Type 0) (p : PlanData) (lanes id : ℕ) (v : View) (other : ℕ) (w : View) → 0 < v.weight
    → v.number ≡ 0 → 0 < w.weight → w.lane ≡ 0 → Joins {S = Slot} (Kept died is_bad p lanes) id v other w (merged v w) spent
joins died is_bad p lanes id v other w live zeroth live' home s h at apart there =
    let here : IsAt s.views id v = (at, live) in
    let near : IsAt s.views other w = (sym (set_else s.views id other (merged v w) apart) ∙ there, live') in
    let o = h.knows other w near in
    let high : 0 < w.number =
    dite (ℕ_discrete w.number 0) (λ (e : w.number ≡ 0). absurd (apart (h.numbered.apart other id w v near here (e ∙ sym zeroth))))
    (λ (ne : w.number ≢ 0). omega arith) in record {
      log = h.log;
      made = h.made;
      joined = h.joined ++ account w ∷ [];
      plan = h.plan;
      legal = h.legal;
      reports = h.reports;
      shows = h.shows;
      borrowed = join_borrowed s.views lanes (state_after p (opening p lanes) h.log) id other v w here near apart home h.borrowed;
      bounded = h.bounded;
      small = h.small;
      numbered = join_numbered s.views h.made h.joined id other v w here near apart high o.number h.numbered;
      knows = join_knows p lanes h.log (state_after p (opening p lanes) h.log) h.made h.joined s.views id other v w here near zeroth
          (o.alone high) h.numbered h.knows;
      closed = λ k a e. ⊎_elim
          (λ (q : get_elem? h.joined k ≡ some a). h.closed k a q)
          (λ (q : (k ≡ length h.joined) × (account w ≡ a)). subst (λ (y : Account). calls_by y.number h.log ≡ y.calls) q.1 o.mine)
          (snoc h.joined (account w) a k e);
      others = h.others;
    }
