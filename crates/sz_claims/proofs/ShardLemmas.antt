-- Deaths, settlements and bad shards make their calls.
use Rattle.std.proofs.Common.{◌≡◌, ◌≢◌, ℕ, zero, suc, ◌+◌, ◌-◌, ◌^◌, ◌<◌, ◌≤◌, ◌==◌, min, Bool, true, false, cond, nat_lt, bit_or, List, [], ◌∷◌}
use Rattle.std.proofs.Common.{◌++◌, set, replicate, refl, ap, sym, ◌∙◌, subst, arith, length-set, eq-eqb, ne_eqb}
use Rattle.std.specs.Prelude.{slice_index}
use Rattle.std.proofs.lemmas.List.{set-get_or}
use mathlib.Core.Option.{Option as Maybe}
use mathlib.Core.Logic.{dite}
use native.Mathlib.Decide.{ℕ_discrete}
use prog.Atomic.{either}
use Rattle.atomic_table.proofs.Lists.{exchanged}
use Rattle.sz_book_rules.specs.Plan.{PlanData}
use Rattle.sz_book_rules.specs.declared.claim.Claim.{Claim}
use Rattle.sz_book_rules.specs.declared.event.Event.{Event}
use Rattle.sz_book_rules.specs.declared.event.Event.TheVariants.{Draw, Number, Died, Settle, LaneOut, LaneBack, Bad}
use Rattle.sz_book_rules.specs.declared.event.Reply.TheVariants.{Noted, Won, Late}
use Rattle.sz_book_rules.specs.declared.event.Entry.{Entry}
use Rattle.sz_claims.specs.declared.view.View.{View}
use Rattle.sz_book_rules.specs.Plan.{IsPlan, count_of}
use Rattle.sz_book_rules.specs.Machine.{LedgerState, opening, after, reply_of, Fits, IsDrawn, settle_reply}
use Rattle.sz_book_rules.specs.History.{entry, state_after, IsLegal, IsLegalFrom, HasDrawn, HasNumber}
use Rattle.sz_claims.specs.Rule.{Slot, Shows, number_at, deaths_at, settled_at, bad_at, Called}
use Rattle.sz_claims.specs.Moves.{Moved, Moves}
use Rattle.sz_claims.proofs.SumLemmas.{dries_grow, bars_grow}
use Rattle.sz_claims.proofs.WordLemmas.{by_test, set_same, set_other, slots_set, claimed, drew, tried, bound_other}

-- ---- Died

pub died_moves : (p : PlanData) (lanes : ℕ) (v : View) (c : Claim) (k : ℕ) → HasDrawn c v.mine → HasNumber c k v.mine
    → Moves v (deaths_at c.shard) (λ n. bit_or n (2 ^ k)) (Died c k) (λ n. Noted) p lanes
died_moves p lanes v c k had had' words homes log made joined plan legal shows bounded small t fits =
    let i : ℕ = deaths_at c.shard in
    let n : ℕ = slice_index words i in
    let m : ℕ = bit_or n (2 ^ k) in
    let x : LedgerState = state_after p (opening p lanes) log in
    let e : Entry = entry v.number (Died c k) [] Noted in
    let d : IsDrawn p x c = drew p lanes v c log made joined had legal t in
    let g = tried p lanes v c k log made joined had' plan legal t in
    let shard : c.shard < p.shards = claimed p x c plan d in
    let word : slice_index x.deaths c.shard ≡ n = shows.deaths c.shard shard in
    let first : slice_index (set words i m) i ≡ m = set_same words i m (let k' = shows.count in omega arith) in
    let old : ℕ = bit_or (slice_index x.deaths c.shard) (2 ^ k) in
    let row : slice_index (set x.deaths c.shard old) c.shard ≡ old = set_same x.deaths c.shard old (let r = shows.rows.1 in omega arith) in
    record {
      fits = (refl, record { claim = d; below = g.0; given = g.1 });
      answer = refl;
      shows = record {
        count = length-set words i m ∙ shows.count;
        rows = (shows.rows.0, length-set x.deaths c.shard old ∙ shows.rows.1, shows.rows.2);
        unplaced = shows.unplaced;
        slots = slots_set p lanes words homes x.outs x.lists i m (omega arith) shows.slots;
        least_bad = shows.least_bad ∙ sym (set_other words i (bad_at p) m (omega arith));
        drawn = shows.drawn ∙ ap (λ (j : ℕ). min j (count_of p)) (sym (set_other words i 0 m (omega arith)));
        given = λ s low. shows.given s low ∙ ap (λ (j : ℕ). min j p.attempts) (sym (set_other words i (number_at s) m (omega arith)));
        deaths = λ s low. dite (ℕ_discrete s c.shard)
            (λ (is : s ≡ c.shard).
            let P : ℕ → Type 0 = λ j. slice_index (set x.deaths c.shard old) j ≡ slice_index (set words i m) (deaths_at j) in
            let here : P c.shard = row ∙ ap (λ (j : ℕ). bit_or j (2 ^ k)) word ∙ sym first in subst P (sym is) here)
            (λ (ne : s ≢ c.shard). set_other x.deaths c.shard s old ne ∙ shows.deaths s low ∙ sym (set_other words i (deaths_at s) m (omega arith)));
        winners = λ s low. shows.winners s low ∙ sym (set_other words i (settled_at s) m (omega arith));
      };
      bounded = bound_other p words log made i m e bounded (omega arith) (λ s low. omega arith);
    }

-- ---- Settle

settle_won : (p : PlanData) (lanes who : ℕ) (words : List ℕ) (homes : List (Maybe Slot)) (x : LedgerState) (c : Claim) (k : ℕ) → c.shard < p.shards
    → Shows p lanes words homes x → slice_index words (settled_at c.shard) ≡ 0
    → Shows p lanes (set words (settled_at c.shard) (k + 1)) homes (after p x who (Settle c k) [])
settle_won p lanes who words homes x c k shard h zeroth =
    let i : ℕ = settled_at c.shard in
    let old : slice_index x.winners c.shard ≡ 0 = h.winners c.shard shard ∙ zeroth in
    let next : after p x who (Settle c k) [] ≡ record x { winners = set x.winners c.shard (k + 1); unplaced = set x.unplaced c.shard (who + 1) } =
    ap (λ (b : Bool). cond b (record x { winners = set x.winners c.shard (k + 1); unplaced = set x.unplaced c.shard (who + 1) }) x)
    (eq-eqb (slice_index x.winners c.shard) 0 old) in
    let first : slice_index (set words i (k + 1)) i ≡ k + 1 = set_same words i (k + 1) (let c' = h.count in omega arith) in
    let row : slice_index (set x.winners c.shard (k + 1)) c.shard ≡ k + 1 = set_same x.winners c.shard (k + 1) (let r = h.rows.2 in omega arith) in
    subst (λ (y : LedgerState). Shows p lanes (set words i (k + 1)) homes y) (sym next)
    record {
      count = length-set words i (k + 1) ∙ h.count;
      rows = (h.rows.0, h.rows.1, length-set x.winners c.shard (k + 1) ∙ h.rows.2);
      unplaced = length-set x.unplaced c.shard (who + 1) ∙ h.unplaced;
      slots = slots_set p lanes words homes x.outs x.lists i (k + 1) (omega arith) h.slots;
      least_bad = h.least_bad ∙ sym (set_other words i (bad_at p) (k + 1) (omega arith));
      drawn = h.drawn ∙ ap (λ (j : ℕ). min j (count_of p)) (sym (set_other words i 0 (k + 1) (omega arith)));
      given = λ s low. h.given s low ∙ ap (λ (j : ℕ). min j p.attempts) (sym (set_other words i (number_at s) (k + 1) (omega arith)));
      deaths = λ s low. h.deaths s low ∙ sym (set_other words i (deaths_at s) (k + 1) (omega arith));
      winners = λ s low. dite (ℕ_discrete s c.shard)
          (λ (is : s ≡ c.shard).
          let P : ℕ → Type 0 = λ j. slice_index (set x.winners c.shard (k + 1)) j ≡ slice_index (set words i (k + 1)) (settled_at j) in
          let here : P c.shard = row ∙ sym first in subst P (sym is) here)
          (λ (ne : s ≢ c.shard). set_other x.winners c.shard s (k + 1) ne ∙ h.winners s low
          ∙ sym (set_other words i (settled_at s) (k + 1) (omega arith)));
    }

settle_late : (p : PlanData) (lanes who : ℕ) (words : List ℕ) (homes : List (Maybe Slot)) (x : LedgerState) (c : Claim) (k : ℕ) → c.shard < p.shards
    → Shows p lanes words homes x → slice_index words (settled_at c.shard) ≢ 0
    → Shows p lanes (set words (settled_at c.shard) (slice_index words (settled_at c.shard))) homes (after p x who (Settle c k) [])
settle_late p lanes who words homes x c k shard h nonzero =
    let old : slice_index x.winners c.shard ≢ 0 = λ e. nonzero (sym (h.winners c.shard shard) ∙ e) in
    let next : after p x who (Settle c k) [] ≡ x =
    ap (λ (b : Bool). cond b (record x { winners = set x.winners c.shard (k + 1); unplaced = set x.unplaced c.shard (who + 1) }) x)
    (ne_eqb (slice_index x.winners c.shard) 0 old) in
    let same : set words (settled_at c.shard) (slice_index words (settled_at c.shard)) ≡ words = set-get_or words (settled_at c.shard) 0 in
    subst (λ (y : LedgerState). Shows p lanes (set words (settled_at c.shard) (slice_index words (settled_at c.shard))) homes y) (sym next)
    (subst (λ (ws : List ℕ). Shows p lanes ws homes x) (sym same) h)

pub settle_moves : (p : PlanData) (lanes : ℕ) (v : View) (c : Claim) (k : ℕ) → HasDrawn c v.mine → HasNumber c k v.mine
    → Moves v (settled_at c.shard) (λ n. either (n == 0) (k + 1) n) (Settle c k) settle_reply p lanes
settle_moves p lanes v c k had had' words homes log made joined plan legal shows bounded small t fits =
    let i : ℕ = settled_at c.shard in
    let n : ℕ = slice_index words i in
    let x : LedgerState = state_after p (opening p lanes) log in
    let e : Entry = entry v.number (Settle c k) [] (settle_reply n) in
    let d : IsDrawn p x c = drew p lanes v c log made joined had legal t in
    let g = tried p lanes v c k log made joined had' plan legal t in
    let shard : c.shard < p.shards = claimed p x c plan d in
    let fit : Fits p x v.number (Settle c k) [] = (refl, record { claim = d; below = g.0; given = g.1 }) in
    let answer : settle_reply n ≡ reply_of p x (Settle c k) = ap settle_reply (sym (shows.winners c.shard shard)) in
    exchanged n 0 (k + 1) (λ m. Moved p lanes (set words i m) homes log made v.number (Settle c k) (settle_reply n))
    (λ (hit : n ≡ 0). record {
      fits = fit;
      answer = answer;
      shows = settle_won p lanes v.number words homes x c k shard shows hit;
      bounded =
          bound_other p words log made i (k + 1) e bounded (omega arith) (λ s low. omega arith);
    })
    (λ (miss : n ≢ 0). record {
      fits = fit;
      answer = answer;
      shows = settle_late p lanes v.number words homes x c k shard shows miss;
      bounded =
          bound_other p words log made i n e bounded (omega arith) (λ s low. omega arith);
    })

-- ---- what a settlement found is small

either_settled : (b : Bool) (m s : ℕ) (x y : LedgerState) → slice_index x.winners s ≤ m → slice_index y.winners s ≤ m
    → slice_index (cond b x y).winners s ≤ m
either_settled true m s x y h k = h
either_settled false m s x y h k = k

set_low : (l : List ℕ) (i j n m : ℕ) → n ≤ m → slice_index l j ≤ m → slice_index (set l i n) j ≤ m
set_low [] i j n m h k = k
set_low (x ∷ xs) zero zero n m h k = h
set_low (x ∷ xs) zero (suc j) n m h k = k
set_low (x ∷ xs) (suc i) zero n m h k = k
set_low (x ∷ xs) (suc i) (suc j) n m h k = set_low xs i j n m h k

settled_low : (p : PlanData) (x : LedgerState) (s who : ℕ) (e : Event) (ss : List ℕ) → Fits p x who e ss → slice_index x.winners s ≤ p.attempts
    → slice_index (after p x who e ss).winners s ≤ p.attempts
settled_low p x s who Draw ss fit h = either_settled (nat_lt x.drawn (count_of p)) p.attempts s (record x { drawn = x.drawn + 1 }) x h h
settled_low p x s who (Number c) ss fit h =
    either_settled (nat_lt (slice_index x.given c.shard) p.attempts) p.attempts s
    (record x { given = set x.given c.shard (slice_index x.given c.shard + 1) }) x h h
settled_low p x s who (Died c k) ss fit h = h
settled_low p x s who (Settle c k) ss fit h =
    let b = fit.1.below in
    either_settled (slice_index x.winners c.shard ==
    0) p.attempts s (record x { winners = set x.winners c.shard (k + 1); unplaced = set x.unplaced c.shard (who + 1) }) x
    (set_low x.winners c.shard s (k + 1) p.attempts (omega arith) h) h
settled_low p x s who (LaneOut i) ss fit h = either_settled (slice_index x.outs i == 0) p.attempts s (record x { outs = set x.outs i 1 }) x h h
settled_low p x s who (LaneBack i) ss fit h = h
settled_low p x s who (Bad b) ss fit h = h

last_low : (p : PlanData) (x : LedgerState) (s : ℕ) (es : List Entry) (e : Entry) → IsLegalFrom p x (es ++ e ∷ [])
    → slice_index x.winners s ≤ p.attempts
    → (slice_index (state_after p x es).winners s ≤ p.attempts) × (e.reply ≡ reply_of p (state_after p x es) e.event)
last_low p x s [] e h low = (low, h.1)
last_low p x s (d ∷ es) e h low = last_low p (after p x d.by d.event d.shards) s es e h.2 (settled_low p x s d.by d.event d.shards h.0 low)

zeros : (n s m : ℕ) → slice_index (replicate n 0) s ≤ m
zeros zero s m = omega arith
zeros (suc n) zero m = omega arith
zeros (suc n) (suc s) m = zeros n s m

late_reply : (n y m : ℕ) → settle_reply n ≡ settle_reply y → y ≤ m → n ≢ 0 → n - 1 ≤ m
late_reply n y m e h ne = by_test (y == 0)
    (λ (zeroth : (y == 0) ≡ true).
    let won : Late (n - 1) ≡ Won = sym (ap (λ (b : Bool). cond b Won (Late (n - 1))) (ne_eqb n 0 ne)) ∙ e
    ∙ ap (λ (b : Bool). cond b Won (Late (y - 1))) zeroth in absurd (cc won))
    (λ (more : (y == 0) ≡ false).
    let late : Late (n - 1) ≡ Late (y - 1) = sym (ap (λ (b : Bool). cond b Won (Late (n - 1))) (ne_eqb n 0 ne)) ∙ e
    ∙ ap (λ (b : Bool). cond b Won (Late (y - 1))) more in
    let same : n - 1 ≡ y - 1 = cc late in omega arith)

pub late_low : (v w : View) (c : Claim) (k n lane : ℕ) (lent : List ℕ) → Called v (Settle c k) [] (settle_reply n) lane lent w → IsPlan v.plan → n ≢ 0
    → n - 1 ≤ 8
late_low v w c k n lane lent call plan ne =
    let e : Entry = entry v.number (Settle c k) [] (settle_reply n) in
    let legal : IsLegal v.plan v.lanes (call.0 ++ e ∷ []) = subst (λ (u : View). IsLegal v.plan v.lanes u.seen) call.1 call.2.legal in
    let t = last_low v.plan (opening v.plan v.lanes) c.shard call.0 e legal.from (zeros v.plan.shards c.shard v.plan.attempts) in
    let a = plan.attempts.1 in
    let b = late_reply n (slice_index (state_after v.plan (opening v.plan v.lanes) call.0).winners c.shard) v.plan.attempts t.1 t.0 ne in omega arith

-- ---- Bad

pub bad_moves : (p : PlanData) (lanes : ℕ) (v : View) (b : ℕ) → b < p.shards → Moves v (bad_at p) (λ n. min n b) (Bad b) (λ n. Noted) p lanes
bad_moves p lanes v b below' words homes log made joined plan legal shows bounded small t fits =
    let i : ℕ = bad_at p in
    let n : ℕ = slice_index words i in
    let m : ℕ = min n b in
    let x : LedgerState = state_after p (opening p lanes) log in
    record {
      fits = (refl, below');
      answer = refl;
      shows = record {
        count = length-set words i m ∙ shows.count;
        rows = shows.rows;
        unplaced = shows.unplaced;
        slots = slots_set p lanes words homes x.outs x.lists i m (omega arith) shows.slots;
        drawn = shows.drawn ∙ ap (λ (j : ℕ). min j (count_of p)) (sym (set_other words i 0 m (omega arith)));
        given = λ s low. shows.given s low ∙ ap (λ (j : ℕ). min j p.attempts) (sym (set_other words i (number_at s) m (omega arith)));
        deaths = λ s low. shows.deaths s low ∙ sym (set_other words i (deaths_at s) m (omega arith));
        winners = λ s low. shows.winners s low ∙ sym (set_other words i (settled_at s) m (omega arith));
        least_bad = ap (λ (j : ℕ). min j b) shows.least_bad ∙ sym (set_same words i m (let c = shows.count in omega arith));
      };
      bounded = record {
        tickets = let same = set_other words i 0 m (omega arith) in let up = dries_grow log (entry v.number (Bad b) [] Noted) made in
            let old = bounded.tickets in omega arith;
        numbers = λ s low. let same = set_other words i (number_at s) m (omega arith) in
            let up = bars_grow (count_of p) log (entry v.number (Bad b) [] Noted) made in let old = bounded.numbers s low in omega arith;
      };
    }
