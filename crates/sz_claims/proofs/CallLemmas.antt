-- A step by which a pass makes a call keeps the rule, whatever the call is, and so does a look.
use Rattle.std.proofs.Common.{◌≡◌, ◌≢◌, ◌⊎◌, ℕ, ◌+◌, ◌<◌, ◌==◌, nat_lt, Bool, true, false, cond, List, [], ◌∷◌, ◌++◌, set, refl, ap, sym, ◌∙◌, subst}
use Rattle.std.proofs.Common.{inl, inr, ⊎_elim, arith}
use Rattle.std.specs.Prelude.{slice_index, slice_index_or, slice_set}
use mathlib.Core.Option.{Option as Maybe, some, some-injective}
use lib.ListN.{get_elem?}
use Rattle.atomic_table.specs.Table.{State, Me, Allows, keeps}
use Rattle.sz_book_rules.specs.Plan.{PlanData, count_of}
use Rattle.sz_book_rules.specs.declared.event.Event.{Event}
use Rattle.sz_book_rules.specs.declared.event.Event.TheVariants.{Draw, Number, Died, Settle, LaneOut, LaneBack, Bad}
use Rattle.sz_book_rules.specs.declared.event.Reply.{Reply}
use Rattle.sz_book_rules.specs.declared.event.Entry.{Entry}
use Rattle.sz_book_rules.specs.Machine.{LedgerState, opening, after, reply_of, Fits, list_of}
use Rattle.sz_book_rules.specs.History.{entry, state_after, IsLegal, IsTrueReport}
use Rattle.sz_claims.specs.declared.view.Account.{Account}
use Rattle.sz_claims.specs.declared.view.View.{View}
use Rattle.sz_claims.specs.Rule.{slots_out, Slot, view_of, CallsAt, Shows, IsBounded, IsOut, IsTrueOf, IsAt, HaveBorrowers, Kept, calling, looking, Follows, Looked}
use Rattle.sz_claims.specs.declared.steps.Change.{Change}
use Rattle.sz_claims.specs.Moves.{MayCall}
use Rattle.sz_claims.specs.Changes.{changed}
use Rattle.sz_book.specs.Books.{IsPlain}
use Rattle.sz_book_rules.proofs.HistoryLemmas.{state_after-snoc, legal-snoc, reports-snoc, calls_own, calls_other, starts_self, starts_empty, starts_more}
use Rattle.sz_claims.proofs.SeatLemmas.{was, set_at, numbered_set, borrowed_set}
use Rattle.atomic_table.proofs.Lists.{set_else}
use mathlib.Core.Logic.{dite}
use native.Mathlib.Decide.{ℕ_discrete}
use Rattle.std.proofs.lemmas.List.{set-get_or}

-- what a call of another pass leaves of what a pass knows
others : (p : PlanData) (lanes : ℕ) (log : List Entry) (x y : LedgerState) (made : ℕ) (joined : List Account) (e : Entry) (u : View)
    → ¬ (e.by ≡ u.number)
    → ((i : ℕ) → u.lane ≡ i + 1 → (slice_index y.outs i ≡ slice_index x.outs i) × (list_of y i ≡ list_of x i))
    → IsTrueOf p lanes log x made joined u → IsTrueOf p lanes (log ++ e ∷ []) y made joined u
others p lanes log x y made joined e u apart same k = record {
  plan = k.plan;
  lanes_are = k.lanes_are;
  seen = starts_more log u.seen (e ∷ []) k.seen;
  told = starts_more log u.told (e ∷ []) k.told;
  mine = calls_other u.number log e apart ∙ k.mine;
  number = k.number;
  first = k.first;
  alone = k.alone;
  lane = λ i has. let l = k.lane i has in let s = same i has in (l.0, s.0 ∙ l.1, s.1 ∙ l.2);
}

-- the call of a pass, and what it then shows and holds
pub record IsCall (died : ℕ → ℕ → Type 0) (is_bad : ℕ
    → Type 0) (p : PlanData) (lanes : ℕ) (s : State Slot View) (log : List Entry) (made id : ℕ) (v : View) (e : Entry) (lane : ℕ)
    (lent words : List ℕ) (homes : List (Maybe Slot)) : Type 0 where
  pub at : IsAt s.views id v
  pub by : e.by ≡ v.number
  pub fits : Fits p (state_after p (opening p lanes) log) e.by e.event e.shards
  pub answer : e.reply ≡ reply_of p (state_after p (opening p lanes) log) e.event
  pub report : IsTrueReport died is_bad e.event
  pub shows : Shows p lanes words homes (after p (state_after p (opening p lanes) log) e.by e.event e.shards)
  pub bounded : IsBounded p words (log ++ e ∷ []) made
  pub mine : (i : ℕ) → lane ≡ i + 1 → IsOut lanes (after p (state_after p (opening p lanes) log) e.by e.event e.shards) i lent
  pub away : (j : ℕ) (u : View) → IsAt s.views j u → j ≢ id → (i : ℕ) → u.lane ≡ i + 1
      → (lane ≢ i + 1) × (slice_index (after p (state_after p (opening p lanes) log) e.by e.event e.shards).outs i ≡ slice_index
      (state_after p (opening p lanes) log).outs i)
      × (list_of (after p (state_after p (opening p lanes) log) e.by e.event e.shards) i ≡ list_of (state_after p (opening p lanes) log) i)
  pub borrowed : (i : ℕ) → i < lanes → slice_index (after p (state_after p (opening p lanes) log) e.by e.event e.shards).outs i ≡ 1
      → (lane ≡ i + 1) ⊎ ((j : ℕ) × (u : View) × IsAt s.views j u × (j ≢ id) × (u.lane ≡ i + 1))

-- the rule after a call
pub kept_after : (died : ℕ → ℕ → Type 0) (is_bad : ℕ
    → Type 0) (p : PlanData) (lanes : ℕ) (s : State Slot View) (h : Kept died is_bad p lanes s) (id : ℕ) (v : View) (e : Entry) (lane : ℕ)
    (lent words : List ℕ) (homes : List (Maybe Slot))
    → IsCall died is_bad p lanes s h.log h.made id v e lane lent words homes
    → Kept died is_bad p lanes record { words = words; homes = homes; views = set s.views id (calling v h.log e lane lent) }
kept_after died is_bad p lanes s h id v e lane lent words homes c =
    let x : LedgerState = state_after p (opening p lanes) h.log in
    let y : LedgerState = after p x e.by e.event e.shards in
    let w : View = calling v h.log e lane lent in
    let next : state_after p (opening p lanes) (h.log ++ e ∷ []) ≡ y = state_after-snoc p (opening p lanes) h.log e in
    let t = h.knows id v c.at in
    let live : 0 < w.weight = c.at.1 in record {
      log = h.log ++ e ∷ [];
      made = h.made;
      joined = h.joined;
      plan = h.plan;
      legal = legal-snoc p lanes h.log e h.legal c.fits c.answer;
      reports = reports-snoc died is_bad h.log e h.reports c.report;
      shows = subst (λ (z : LedgerState). Shows p lanes words homes z) (sym next) c.shows;
      bounded = c.bounded;
      small = h.small;
      numbered = numbered_set s.views h.made h.joined id v w c.at refl refl h.numbered;
      borrowed = record {
        once = λ i j k u z a b has has'. ⊎_elim
            (λ (q : (i ≡ id) × (w ≡ u)). ⊎_elim
            (λ (r : (j ≡ id) × (w ≡ z)). q.0 ∙ sym r.0)
            (λ (r : (j ≢ id) × IsAt s.views j z). absurd ((c.away j z r.1 r.0 k has').0 (ap (λ (f : View). f.lane) q.1 ∙ has)))
            (was s.views id w j z b))
            (λ (q : (i ≢ id) × IsAt s.views i u). ⊎_elim
            (λ (r : (j ≡ id) × (w ≡ z)). absurd ((c.away i u q.1 q.0 k has).0 (ap (λ (f : View). f.lane) r.1 ∙ has')))
            (λ (r : (j ≢ id) × IsAt s.views j z). h.borrowed.once i j k u z q.1 r.1 has has')
            (was s.views id w j z b))
            (was s.views id w i u a);
        each = λ k low out. ⊎_elim
            (λ (q : lane ≡ k + 1). (id, w, (set_at s.views id v w c.at.0, live), q))
            (λ (q : (j : ℕ) × (u : View) × IsAt s.views j u × (j ≢ id) × (u.lane ≡ k + 1)).
            (q.0, q.1, (set_else s.views id q.0 w q.3 ∙ q.2.0, q.2.1), q.4))
            (c.borrowed k low (ap (λ (z : LedgerState). slice_index z.outs k) (sym next) ∙ out));
      };
      knows = λ j u there.
          subst (λ (z : LedgerState). IsTrueOf p lanes (h.log ++ e ∷ []) z h.made h.joined u) (sym next)
          (⊎_elim
          (λ (q : (j ≡ id) × (w ≡ u)).
          subst (λ (z : View). IsTrueOf p lanes (h.log ++ e ∷ []) y h.made h.joined z) q.1
          record {
            plan = t.plan;
            lanes_are = t.lanes_are;
            seen = starts_self (h.log ++ e ∷ []);
            told = starts_empty (h.log ++ e ∷ []);
            mine =
                calls_own v.number h.log e c.by ∙ ap (λ (l : List Entry). l ++ e ∷ []) t.mine;
            number = t.number;
            first = t.first;
            alone = t.alone;
            lane = c.mine;
          })
          (λ (q : (j ≢ id) × IsAt s.views j u).
          others p lanes h.log x y h.made h.joined e u (λ same. q.0 (sym (h.numbered.apart id j v u c.at q.1 (sym c.by ∙ same)))) (λ i has. let a =
          c.away j u q.1 q.0 i has in (a.1, a.2)) (h.knows j u q.1))
          (was s.views id w j u there));
      closed = λ k a there. calls_other a.number h.log e (λ same. h.numbered.away k a there id v c.at (sym c.by ∙ same)) ∙ h.closed k a there;
      others = λ n above. calls_other n h.log e (λ is. let b = t.number in let d = c.by in absurd (omega arith)) ∙ h.others n above;
    }

-- what the pass knows after a call
pub follows : (died : ℕ → ℕ → Type 0) (is_bad : ℕ
    → Type 0) (p : PlanData) (lanes : ℕ) (s : State Slot View) (h : Kept died is_bad p lanes s) (id : ℕ) (v : View) (e : Entry) (lane : ℕ)
    (lent : List ℕ)
    → IsAt s.views id v → e.by ≡ v.number → IsLegal p lanes (h.log ++ e ∷ []) → Follows v h.log (calling v h.log e lane lent)
follows died is_bad p lanes s h id v e lane lent at by legal =
    let t = h.knows id v at in record {
      seen = t.seen;
      told = t.told;
      legal = subst (λ (q : PlanData). IsLegal q v.lanes (h.log ++ e ∷ [])) (sym t.plan)
          (subst (λ (n : ℕ). IsLegal p n (h.log ++ e ∷ [])) (sym t.lanes_are) legal);
      mine = calls_own v.number h.log e by ∙ ap (λ (l : List Entry). l ++ e ∷ []) t.mine;
      others = λ first n above. let m = (t.first first).0 in let b = t.number in
          calls_other n h.log e (λ is. absurd (omega arith)) ∙ h.others n (omega arith);
    }

-- the lanes are the same in both states
abbrev pub SameLanes : LedgerState → LedgerState → Type 0
SameLanes y x = (y.outs ≡ x.outs) × (y.lists ≡ x.lists)

either_same : (b : Bool) (x y z : LedgerState) → SameLanes y x → SameLanes z x → SameLanes (cond b y z) x
either_same true x y z h k = h
either_same false x y z h k = k

pub lanes_stay : (p : PlanData) (x : LedgerState) (n : ℕ) (event : Event) (shards : List ℕ) → IsPlain event → SameLanes (after p x n event shards) x
lanes_stay p x n Draw shards plain = either_same (nat_lt x.drawn (count_of p)) x (record x { drawn = x.drawn + 1 }) x (refl, refl) (refl, refl)
lanes_stay p x n (Number c) shards plain =
    either_same (nat_lt (slice_index x.given c.shard) p.attempts) x (record x { given = set x.given c.shard (slice_index x.given c.shard + 1) }) x
    (refl, refl) (refl, refl)
lanes_stay p x n (Died c k) shards plain = (refl, refl)
lanes_stay p x n (Settle c k) shards plain =
    either_same (slice_index x.winners c.shard ==
    0) x (record x { winners = set x.winners c.shard (k + 1); unplaced = set x.unplaced c.shard (n + 1) }) x (refl, refl) (refl, refl)
lanes_stay p x n (LaneOut i) shards plain = absurd plain
lanes_stay p x n (LaneBack i) shards plain = absurd plain
lanes_stay p x n (Bad s) shards plain = (refl, refl)

-- a lane that is out with another pass, or with this one
pub borrowed_by : (p : PlanData) (lanes : ℕ) (vs : List View) (id : ℕ) (v : View) (x : LedgerState) → IsAt vs id v → HaveBorrowers vs lanes x
    → (i : ℕ) → i < lanes
    → slice_index x.outs i ≡ 1
    → (v.lane ≡ i + 1) ⊎ ((j : ℕ) × (u : View) × IsAt vs j u × (j ≢ id) × (u.lane ≡ i + 1))
borrowed_by p lanes vs id v x at borrowed i low out =
    let h = borrowed.each i low out in dite (ℕ_discrete h.0 id)
    (λ (e : h.0 ≡ id).
    let same : h.1 ≡ v = some-injective h.1 v (sym h.2.0 ∙ ap (λ k. get_elem? vs k) e ∙ at.0) in
    inl (ap (λ (f : View). f.lane) (sym same) ∙ h.3))
    (λ (ne : h.0 ≢ id). inr (h.0, h.1, h.2, ne, h.3))

-- a call that leaves the lanes alone
calls : (died : ℕ → ℕ → Type 0) (is_bad : ℕ → Type 0) (p : PlanData) (lanes slots id : ℕ) (me : Me Slot View) (i : ℕ) (f : ℕ → ℕ) (event : Event)
    (reply : ℕ → Reply) → MayCall died is_bad p lanes (view_of me) i f event reply
    → Allows (Kept died is_bad p lanes) slots id me i f (λ n after. CallsAt me event (reply n) after)
calls died is_bad p lanes slots id me i f event reply may s h same at small =
    let v : View = view_of me in
    let here : IsAt s.views id v = (at, may.live) in
    let t = h.knows id v here in
    let x : LedgerState = state_after p (opening p lanes) h.log in
    let e : Entry = entry v.number event [] (reply (slice_index s.words i)) in
    let m = may.moves s.words s.homes h.log h.made h.joined h.plan h.legal h.shows h.bounded h.small t small in
    let stay = lanes_stay p x v.number event [] may.plain in
    let legal : IsLegal p lanes (h.log ++ e ∷ []) = legal-snoc p lanes h.log e h.legal m.fits m.answer in
    let outs : (k : ℕ) → slice_index (after p x v.number event []).outs k ≡ slice_index x.outs k = λ k. ap (λ (l : List ℕ). slice_index l k) stay.0 in
    let lists : (k : ℕ) → list_of (after p x v.number event []) k ≡ list_of x k = λ k. ap (λ (l : List (List ℕ)). slice_index_or l k []) stay.1 in (
      calling v h.log e v.lane v.lent,
      keeps,
      tt,
      kept_after died is_bad p lanes s h id v e v.lane v.lent (slice_set s.words i (f (slice_index s.words i))) s.homes
          record {
            at = here;
            by = refl;
            fits = m.fits;
            answer = m.answer;
            report = may.report;
            shows = m.shows;
            bounded = m.bounded;
            mine = λ k has. let l = t.lane k has in (l.0, outs k ∙ l.1, lists k ∙ l.2);
            away = λ j u there ne k has. ((λ own. ne (h.borrowed.once j id k u v there here has own)), outs k, lists k);
            borrowed = λ k low out. borrowed_by p lanes s.views id v x here h.borrowed k low (sym (outs k) ∙ out);
          },
      ((h.log, refl, follows died is_bad p lanes s h id v e v.lane v.lent here refl legal), refl),
    )

-- the same where it is known which change the step makes
pub step_calls : (died : ℕ → ℕ → Type 0) (is_bad : ℕ → Type 0) (p : PlanData) (lanes slots id : ℕ) (me : Me Slot View) (i : ℕ) (change one : Change)
    (event : Event) (reply : ℕ → Reply) → change ≡ one → MayCall died is_bad p lanes (view_of me) i (changed change) event reply
    → Allows (Kept died is_bad p lanes) slots id me i (changed one) (λ n after. CallsAt me event (reply n) after)
step_calls died is_bad p lanes slots id me i change one event reply is may =
    calls died is_bad p lanes slots id me i (changed one) event reply
    (subst (λ k. MayCall died is_bad p lanes (view_of me) i (changed k) event reply) is may)

seen_all : (p : PlanData) (lanes : ℕ) (log : List Entry) (x : LedgerState) (made : ℕ) (joined : List Account) (views : List View) (id : ℕ) (v : View)
    → IsAt views id v → ((j : ℕ) (u : View) → IsAt views j u → IsTrueOf p lanes log x made joined u)
    → (j : ℕ) (u : View) → IsAt (set views id (looking v log)) j u → IsTrueOf p lanes log x made joined u
seen_all p lanes log x made joined views id v at knows j u there =
    let t = knows id v at in ⊎_elim
    (λ (here : (j ≡ id) × (looking v log ≡ u)).
    subst (λ (z : View). IsTrueOf p lanes log x made joined z) here.1
    record {
      plan = t.plan;
      lanes_are = t.lanes_are;
      seen = starts_self log;
      told = starts_empty log;
      mine = t.mine;
      number = t.number;
      first =
          t.first;
      alone = t.alone;
      lane = t.lane;
    })
    (λ (away : (j ≢ id) × IsAt views j u). knows j u away.1)
    (was views id (looking v log) j u there)

pub looks : (died : ℕ → ℕ → Type 0) (is_bad : ℕ → Type 0) (p : PlanData) (lanes slots id : ℕ) (me : Me Slot View) (i : ℕ) → 0 < (view_of me).weight
    → Allows (Kept died is_bad p lanes) slots id me i (λ n. n) (λ n after. Looked (view_of me) after.0 × (after.1 ≡ slots_out me))
looks died is_bad p lanes slots id me i live s h same at small =
    let v : View = view_of me in
    let here : IsAt s.views id v = (at, live) in
    let t = h.knows id v here in
    let x : LedgerState = state_after p (opening p lanes) h.log in
    let w : View = looking v h.log in
    let words : slice_set s.words i (slice_index s.words i) ≡ s.words = set-get_or s.words i 0 in (
      w,
      keeps,
      tt,
      record {
        log = h.log;
        made = h.made;
        joined = h.joined;
        plan = h.plan;
        legal = h.legal;
        reports = h.reports;
        shows = subst (λ (ws : List ℕ). Shows p lanes ws s.homes x) (sym words) h.shows;
        bounded = subst (λ (ws : List ℕ). IsBounded p ws h.log h.made) (sym words) h.bounded;
        small = h.small;
        numbered = numbered_set s.views h.made h.joined id v w here refl refl h.numbered;
        borrowed = borrowed_set s.views lanes x id v w here refl live h.borrowed;
        knows = seen_all p lanes h.log x h.made h.joined s.views id v here h.knows;
        closed = h.closed;
        others = h.others;
      },
      (
        (
          h.log,
          refl,
          record {
            seen = t.seen;
            told = t.told;
            legal = subst (λ (q : PlanData). IsLegal q v.lanes h.log) (sym t.plan) (subst (λ (n : ℕ). IsLegal p n h.log) (sym t.lanes_are) h.legal);
            mine = t.mine;
            others = λ first n above. let m = (t.first first).0 in h.others n (omega arith);
          },
          (λ first k a there. h.closed k a (subst (λ (l : List Account). get_elem? l k ≡ some a) (t.first first).1 there)),
        ),
        refl,
      ),
    )
