-- A shard that a pass won, and that came with no lane yet, is there to bring.
use Rattle.std.proofs.Common.{◌≡◌, ◌≢◌, ℕ, zero, suc, ◌+◌, ◌-◌, ◌<◌, ◌≤◌, ◌==◌, Bool, true, false, cond, nat_lt, List, [], ◌∷◌}
use Rattle.std.proofs.Common.{set, length, refl, ap, sym, ◌∙◌, subst, inl, inr, ⊎_elim, arith, length-set, eqb-true, eq-eqb, ne_eqb}
use Rattle.std.specs.Prelude.{slice_index}
use Rattle.std.proofs.lemmas.List.{get_or-set_same, get_or-set_other, length-replicate}
use mathlib.Core.Logic.{dite}
use native.Mathlib.Decide.{ℕ_discrete}
use Rattle.sz_book_rules.specs.Plan.{PlanData, IsPlan, count_of}
use Rattle.sz_book_rules.specs.declared.event.Event.{Event}
use Rattle.sz_book_rules.specs.declared.event.Event.TheVariants.{Draw, Number, Died, Settle, LaneOut, LaneBack, Bad}
use Rattle.sz_book_rules.specs.declared.event.Reply.TheVariants.{Won, Late}
use Rattle.sz_book_rules.specs.declared.event.Entry.{Entry}
use Rattle.sz_book_rules.specs.Machine.{LedgerState, opening, after, reply_of, Fits, placed, AreUnplaced}
use Rattle.sz_book_rules.specs.History.{state_after, IsLegalFrom, IsLegal, calls_by, Settles, HasWon, IsAmong, HasGiven, AreDistinct}
use Rattle.sz_claims.proofs.WordLemmas.{below, claimed}
use Rattle.sz_book.proofs.ReplayLemmas.{zero_at}

-- what is in no lane is settled
record IsPlaced (p : PlanData) (x : LedgerState) : Type 0 where
  winners : length x.winners ≡ p.shards
  unplaced : length x.unplaced ≡ p.shards
  won : (s : ℕ) → 0 < slice_index x.unplaced s → 0 < slice_index x.winners s

-- a write of 0 gives no more
zero_low : (l : List ℕ) (i j : ℕ) → slice_index (set l i 0) j ≤ slice_index l j
zero_low [] i j = omega arith
zero_low (x ∷ xs) zero zero = omega arith
zero_low (x ∷ xs) zero (suc j) = omega arith
zero_low (x ∷ xs) (suc i) zero = omega arith
zero_low (x ∷ xs) (suc i) (suc j) = zero_low xs i j

placed_low : (l ss : List ℕ) (j : ℕ) → slice_index (placed l ss) j ≤ slice_index l j
placed_low l [] j = omega arith
placed_low l (s ∷ ss) j = let a = placed_low (set l s 0) ss j in let b = zero_low l s j in omega arith

pub placed_length : (l ss : List ℕ) → length (placed l ss) ≡ length l
placed_length l [] = refl
placed_length l (s ∷ ss) = placed_length (set l s 0) ss ∙ length-set l s 0

either_placed : (p : PlanData) (b : Bool) (x y : LedgerState) → (b ≡ true → IsPlaced p x) → IsPlaced p y → IsPlaced p (cond b x y)
either_placed p true x y h k = h refl
either_placed p false x y h k = k

same_placed : (p : PlanData) (x y : LedgerState) → y.winners ≡ x.winners → y.unplaced ≡ x.unplaced → IsPlaced p x → IsPlaced p y
same_placed p x y w u h = record {
  winners = ap length w ∙ h.winners;
  unplaced = ap length u ∙ h.unplaced;
  won = λ s some. subst (λ (l : List ℕ). 0 < slice_index l s) (sym w) (h.won s (subst (λ (l : List ℕ). 0 < slice_index l s) u some));
}

-- a write after the end is none
past_end : (l : List ℕ) (i n : ℕ) → length l ≤ i → slice_index (set l i n) i ≡ 0
past_end [] i n h = refl
past_end (x ∷ xs) zero n h = absurd (omega arith)
past_end (x ∷ xs) (suc i) n h = past_end xs i n (omega arith)

-- what is won becomes settled
won_placed : (p : PlanData) (x : LedgerState) (s n k : ℕ) → IsPlaced p x
    → IsPlaced p (record x { winners = set x.winners s (k + 1); unplaced = set x.unplaced s (n + 1) })
won_placed p x s n k h = record {
  winners = length-set x.winners s (k + 1) ∙ h.winners;
  unplaced = length-set x.unplaced s (n + 1) ∙ h.unplaced;
  won = λ t some. dite (ℕ_discrete t s)
      (λ (e : t ≡ s).
      let P : ℕ → Type 0 = λ m. 0 < slice_index (set x.winners s (k + 1)) m in
      let there : 0 < slice_index (set x.unplaced s (n + 1)) s = subst (λ (m : ℕ). 0 < slice_index (set x.unplaced s (n + 1)) m) e some in
      let here : P s = ⊎_elim
      (λ (low : s < p.shards).
      let one = get_or-set_same x.winners s (k + 1) 0 (let l = h.winners in omega arith) in
      let goal : P s = omega arith in goal)
      (λ (high : p.shards ≤ s). let none = past_end x.unplaced s (n + 1) (let l = h.unplaced in omega arith) in absurd (omega arith))
      (below s p.shards) in
      subst P (sym e) here)
      (λ (ne : t ≢ s).
      let a = get_or-set_other x.unplaced s t (n + 1) 0 ne in
      let b = get_or-set_other x.winners s t (k + 1) 0 ne in
      let c = h.won t (omega arith) in
      let goal : 0 < slice_index (set x.winners s (k + 1)) t = omega arith in
      goal);
}

placed_after : (p : PlanData) (x : LedgerState) (n : ℕ) (e : Event) (ss : List ℕ) → Fits p x n e ss → IsPlaced p x
    → IsPlaced p (after p x n e ss)
placed_after p x n Draw ss fit h =
    either_placed p (nat_lt x.drawn (count_of p)) (record x { drawn = x.drawn + 1 }) x
    (λ _. same_placed p x (record x { drawn = x.drawn + 1 }) refl refl h) h
placed_after p x n (Number c) ss fit h =
    let y : LedgerState = record x { given = set x.given c.shard (slice_index x.given c.shard + 1) } in
    either_placed p (nat_lt (slice_index x.given c.shard) p.attempts) y x (λ _. same_placed p x y refl refl h) h
placed_after p x n (Died c k) ss fit h = same_placed p x (after p x n (Died c k) ss) refl refl h
placed_after p x n (Settle c k) ss fit h =
    let y : LedgerState = record x { winners = set x.winners c.shard (k + 1); unplaced = set x.unplaced c.shard (n + 1) } in
    either_placed p (slice_index x.winners c.shard == 0) y x (λ _. won_placed p x c.shard n k h) h
placed_after p x n (LaneOut i) ss fit h =
    let y : LedgerState = record x { outs = set x.outs i 1 } in
    either_placed p (slice_index x.outs i == 0) y x (λ _. same_placed p x y refl refl h) h
placed_after p x n (LaneBack i) ss fit h = record {
  winners = h.winners;
  unplaced = placed_length x.unplaced ss ∙ h.unplaced;
  won = λ t some. h.won t (let a = placed_low x.unplaced ss t in omega arith);
}
placed_after p x n (Bad s) ss fit h = same_placed p x (after p x n (Bad s) ss) refl refl h

-- a shard that is not among those brought stays
placing_keeps : (n m s : ℕ) (unplaced ss : List ℕ) → AreUnplaced m unplaced ss → slice_index unplaced s ≡ n + 1 → (m ≡ n → ¬ IsAmong s ss)
    → slice_index (placed unplaced ss) s ≡ n + 1
placing_keeps n m s unplaced [] h is away = is
placing_keeps n m s unplaced (t ∷ ts) h is away =
    let other : s ≢ t = λ e. (let same : m ≡ n = (let a = ap (slice_index unplaced) e in let b = h.0 in omega arith) in away same (inl (sym e))) in
    placing_keeps n m s (set unplaced t 0) ts h.1 (get_or-set_other unplaced t s 0 0 other ∙ is) (λ e a. away e (inr a))

either_unplaced : (b : Bool) (x y : LedgerState) (s k : ℕ) → (b ≡ true → slice_index x.unplaced s ≡ k) → slice_index y.unplaced s ≡ k
    → slice_index (cond b x y).unplaced s ≡ k
either_unplaced true x y s k h g = h refl
either_unplaced false x y s k h g = g

one_stays : (p : PlanData) (n : ℕ) (x : LedgerState) (s m : ℕ) (e : Event) (ss : List ℕ) → Fits p x m e ss → IsPlaced p x
    → slice_index x.unplaced s ≡ n + 1 → (m ≡ n → ¬ IsAmong s ss) → slice_index (after p x m e ss).unplaced s ≡ n + 1
one_stays p n x s m Draw ss fit h is away =
    either_unplaced (nat_lt x.drawn (count_of p)) (record x { drawn = x.drawn + 1 }) x s (n + 1) (λ _. is) is
one_stays p n x s m (Number c) ss fit h is away =
    either_unplaced (nat_lt (slice_index x.given c.shard) p.attempts) (record x { given = set x.given c.shard (slice_index x.given c.shard + 1) }) x s
    (n + 1) (λ _. is) is
one_stays p n x s m (Died c k) ss fit h is away = is
one_stays p n x s m (Settle c k) ss fit h is away =
    either_unplaced (slice_index x.winners c.shard == 0)
    (record x { winners = set x.winners c.shard (k + 1); unplaced = set x.unplaced c.shard (m + 1) }) x s (n + 1)
    (λ (first : (slice_index x.winners c.shard == 0) ≡ true).
    let none : slice_index x.winners c.shard ≡ 0 = eqb-true (slice_index x.winners c.shard) 0 first in
    let other : s ≢ c.shard = λ e. (let a = ap (slice_index x.winners) e in let b = h.won s (omega arith) in absurd (omega arith)) in
    get_or-set_other x.unplaced c.shard s (m + 1) 0 other ∙ is)
    is
one_stays p n x s m (LaneOut i) ss fit h is away =
    either_unplaced (slice_index x.outs i == 0) (record x { outs = set x.outs i 1 }) x s (n + 1) (λ _. is) is
one_stays p n x s m (LaneBack i) ss fit h is away = placing_keeps n m s x.unplaced ss fit.brought is away
one_stays p n x s m (Bad b) ss fit h is away = is

-- the calls of caller n after a call of it, and after one of another
own_first : (n : ℕ) (e : Entry) (es : List Entry) → e.by ≡ n → calls_by n (e ∷ es) ≡ e ∷ calls_by n es
own_first n e es is = ap (λ (b : Bool). cond b (e ∷ calls_by n es) (calls_by n es)) (eq-eqb e.by n is)

other_first : (n : ℕ) (e : Entry) (es : List Entry) → e.by ≢ n → calls_by n (e ∷ es) ≡ calls_by n es
other_first n e es ne = ap (λ (b : Bool). cond b (e ∷ calls_by n es) (calls_by n es)) (ne_eqb e.by n ne)

given_later : (n s : ℕ) (e : Entry) (es : List Entry) → HasGiven s (calls_by n es) → HasGiven s (calls_by n (e ∷ es))
given_later n s e es g = dite (ℕ_discrete e.by n)
    (λ (is : e.by ≡ n). subst (HasGiven s) (sym (own_first n e es is)) (inr g))
    (λ (ne : e.by ≢ n). subst (HasGiven s) (sym (other_first n e es ne)) g)

stays : (p : PlanData) (n s : ℕ) (x : LedgerState) (es : List Entry) → IsLegalFrom p x es → IsPlaced p x → slice_index x.unplaced s ≡ n + 1
    → ¬ HasGiven s (calls_by n es) → slice_index (state_after p x es).unplaced s ≡ n + 1
stays p n s x [] h placed' is away = is
stays p n s x (e ∷ es) h placed' is away =
    stays p n s (after p x e.by e.event e.shards) es h.2 (placed_after p x e.by e.event e.shards h.0 placed')
    (one_stays p n x s e.by e.event e.shards h.0 placed' is (λ by g. away (subst (HasGiven s) (sym (own_first n e es by)) (inl g))))
    (λ g. away (given_later n s e es g))

-- a settlement that was won leaves its shard to its caller
just_won : (p : PlanData) (n s : ℕ) (x : LedgerState) (e : Event) (ss : List ℕ) → IsPlan p → Fits p x n e ss → IsPlaced p x → Settles s e
    → Won ≡ reply_of p x e → slice_index (after p x n e ss).unplaced s ≡ n + 1
just_won p n s x Draw ss plan fit h set' won = absurd set'
just_won p n s x (Number c) ss plan fit h set' won = absurd set'
just_won p n s x (Died c k) ss plan fit h set' won = absurd set'
just_won p n s x (Settle c k) ss plan fit h set' won =
    let w : ℕ = slice_index x.winners c.shard in
    let y : LedgerState = record x { winners = set x.winners c.shard (k + 1); unplaced = set x.unplaced c.shard (n + 1) } in
    let low = claimed p x c plan fit.1.claim in
    let here : slice_index y.unplaced c.shard ≡ n + 1 = get_or-set_same x.unplaced c.shard (n + 1) 0 (let l = h.unplaced in omega arith) in
    let first : w ≡ 0 = dite (ℕ_discrete w 0) (λ (z : w ≡ 0). z)
    (λ (ne : w ≢ 0). let bad : Won ≡ Late (w - 1) = won ∙ ap (λ (b : Bool). cond b Won (Late (w - 1))) (ne_eqb w 0 ne) in absurd (cc bad)) in
    ap (λ (b : Bool). slice_index (cond b y x).unplaced s) (eq-eqb w 0 first) ∙ ap (slice_index y.unplaced) (sym set') ∙ here
just_won p n s x (LaneOut i) ss plan fit h set' won = absurd set'
just_won p n s x (LaneBack i) ss plan fit h set' won = absurd set'
just_won p n s x (Bad b) ss plan fit h set' won = absurd set'

marked_own : (p : PlanData) (n s : ℕ) (x : LedgerState) (es : List Entry) → IsPlan p → IsLegalFrom p x es → IsPlaced p x → HasWon s (calls_by n es)
    → ¬ HasGiven s (calls_by n es) → slice_index (state_after p x es).unplaced s ≡ n + 1
marked_own p n s x [] plan h placed' won away = absurd won
marked_own p n s x (e ∷ es) plan h placed' won away =
    let next = placed_after p x e.by e.event e.shards h.0 placed' in
    let y : LedgerState = after p x e.by e.event e.shards in
    let later : ¬ HasGiven s (calls_by n es) = λ g. away (given_later n s e es g) in
    let rest : HasWon s (calls_by n es) → slice_index (state_after p y es).unplaced s ≡ n + 1 = λ w. marked_own p n s y es plan h.2 next w later in
    dite (ℕ_discrete e.by n)
    (λ (is : e.by ≡ n). ⊎_elim
    (λ (now : Settles s e.event × (e.reply ≡ Won)).
    let here : slice_index y.unplaced s ≡ n + 1 =
    just_won p e.by s x e.event e.shards plan h.0 placed' now.0 (sym now.1 ∙ h.1) ∙ ap (λ m. m + 1) is in
    stays p n s y es h.2 next here later)
    rest
    (subst (HasWon s) (own_first n e es is) won))
    (λ (ne : e.by ≢ n). rest (subst (HasWon s) (other_first n e es ne) won))

each_unplaced : (n : ℕ) (unplaced ss : List ℕ) → AreDistinct ss → ((s : ℕ) → IsAmong s ss → slice_index unplaced s ≡ n + 1)
    → AreUnplaced n unplaced ss
each_unplaced n unplaced [] distinct each = tt
each_unplaced n unplaced (s ∷ ss) distinct each = (
  each s (inl refl),
  each_unplaced n (set unplaced s 0) ss distinct.1 (λ t in'.
      let other : t ≢ s = λ e. distinct.0 (subst (λ (k : ℕ). IsAmong k ss) e in') in
      get_or-set_other unplaced s t 0 0 other ∙ each t (inr in')),
)

opens_placed : (p : PlanData) (lanes : ℕ) → IsPlaced p (opening p lanes)
opens_placed p lanes = record {
  winners = length-replicate p.shards 0;
  unplaced = length-replicate p.shards 0;
  won = λ s some. let none = zero_at p.shards s in absurd (omega arith);
}

-- distinct shards that a pass won and has not brought are its to bring
pub are_unplaced : (p : PlanData) (lanes n : ℕ) (log mine : List Entry) (ss : List ℕ) → IsPlan p → IsLegal p lanes log → calls_by n log ≡ mine
    → AreDistinct ss → ((s : ℕ) → IsAmong s ss → HasWon s mine) → ((s : ℕ) → IsAmong s ss → ¬ HasGiven s mine)
    → AreUnplaced n (state_after p (opening p lanes) log).unplaced ss
are_unplaced p lanes n log mine ss plan legal own distinct won fresh =
    each_unplaced n (state_after p (opening p lanes) log).unplaced ss distinct
    (λ s in'. marked_own p n s (opening p lanes) log plan legal.from (opens_placed p lanes) (subst (HasWon s) (sym own) (won s in'))
    (subst (λ (l : List Entry). ¬ HasGiven s l) (sym own) (fresh s in')))

-- ---- a shard that is won for the first time came with no lane before

among_unplaced : (n s : ℕ) (unplaced ss : List ℕ) → AreUnplaced n unplaced ss → IsAmong s ss → 0 < slice_index unplaced s
among_unplaced n s unplaced [] h in' = absurd in'
among_unplaced n s unplaced (t ∷ ts) h (inl e) =
    let here = h.0 in let same = ap (slice_index unplaced) e in omega arith
among_unplaced n s unplaced (t ∷ ts) h (inr in') =
    let a = among_unplaced n s (set unplaced t 0) ts h.1 in' in let b = zero_low unplaced t s in omega arith

none_among : {P : Type 0} (s : ℕ) (ss : List ℕ) → ss ≡ [] → IsAmong s ss → P
none_among s ss e in' = absurd (subst (IsAmong s) e in')

-- what comes with a lane is settled
brought_settled : (p : PlanData) (s n : ℕ) (x : LedgerState) (e : Event) (ss : List ℕ) → Fits p x n e ss → IsPlaced p x → IsAmong s ss
    → 0 < slice_index x.winners s
brought_settled p s n x Draw ss fit h in' = none_among s ss fit in'
brought_settled p s n x (Number c) ss fit h in' = none_among s ss fit.0 in'
brought_settled p s n x (Died c k) ss fit h in' = none_among s ss fit.0 in'
brought_settled p s n x (Settle c k) ss fit h in' = none_among s ss fit.0 in'
brought_settled p s n x (LaneOut i) ss fit h in' = none_among s ss fit.0 in'
brought_settled p s n x (LaneBack i) ss fit h in' = h.won s (among_unplaced n s x.unplaced ss fit.brought in')
brought_settled p s n x (Bad b) ss fit h in' = none_among s ss fit.0 in'

either_settled : (b : Bool) (x y : LedgerState) (s : ℕ) → (b ≡ true → 0 < slice_index x.winners s) → 0 < slice_index y.winners s
    → 0 < slice_index (cond b x y).winners s
either_settled true x y s h g = h refl
either_settled false x y s h g = g

one_settled : (p : PlanData) (s n : ℕ) (x : LedgerState) (e : Event) (ss : List ℕ) → 0 < slice_index x.winners s
    → 0 < slice_index (after p x n e ss).winners s
one_settled p s n x Draw ss is = either_settled (nat_lt x.drawn (count_of p)) (record x { drawn = x.drawn + 1 }) x s (λ _. is) is
one_settled p s n x (Number c) ss is =
    either_settled (nat_lt (slice_index x.given c.shard) p.attempts) (record x { given = set x.given c.shard (slice_index x.given c.shard + 1) }) x s
    (λ _. is) is
one_settled p s n x (Died c k) ss is = is
one_settled p s n x (Settle c k) ss is =
    either_settled (slice_index x.winners c.shard == 0)
    (record x { winners = set x.winners c.shard (k + 1); unplaced = set x.unplaced c.shard (n + 1) }) x s
    (λ (first : (slice_index x.winners c.shard == 0) ≡ true).
    let none : slice_index x.winners c.shard ≡ 0 = eqb-true (slice_index x.winners c.shard) 0 first in
    let other : s ≢ c.shard = λ e. (let a = ap (slice_index x.winners) e in absurd (omega arith)) in
    let same = get_or-set_other x.winners c.shard s (k + 1) 0 other in
    let goal : 0 < slice_index (set x.winners c.shard (k + 1)) s = omega arith in
    goal)
    is
one_settled p s n x (LaneOut i) ss is = either_settled (slice_index x.outs i == 0) (record x { outs = set x.outs i 1 }) x s (λ _. is) is
one_settled p s n x (LaneBack i) ss is = is
one_settled p s n x (Bad b) ss is = is

stays_settled : (p : PlanData) (s : ℕ) (x : LedgerState) (es : List Entry) → 0 < slice_index x.winners s
    → 0 < slice_index (state_after p x es).winners s
stays_settled p s x [] is = is
stays_settled p s x (e ∷ es) is = stays_settled p s (after p x e.by e.event e.shards) es (one_settled p s e.by x e.event e.shards is)

given_settled : (p : PlanData) (s : ℕ) (x : LedgerState) (es : List Entry) → IsLegalFrom p x es → IsPlaced p x → HasGiven s es
    → 0 < slice_index (state_after p x es).winners s
given_settled p s x [] h placed' given = absurd given
given_settled p s x (e ∷ es) h placed' (inl in') =
    stays_settled p s x (e ∷ es) (brought_settled p s e.by x e.event e.shards h.0 placed' in')
given_settled p s x (e ∷ es) h placed' (inr given) =
    given_settled p s (after p x e.by e.event e.shards) es h.2 (placed_after p x e.by e.event e.shards h.0 placed') given

-- a shard that came with a lane is settled
pub given_is_settled : (p : PlanData) (lanes s : ℕ) (log : List Entry) → IsLegal p lanes log → HasGiven s log
    → 0 < slice_index (state_after p (opening p lanes) log).winners s
given_is_settled p lanes s log legal given = given_settled p s (opening p lanes) log legal.from (opens_placed p lanes) given
