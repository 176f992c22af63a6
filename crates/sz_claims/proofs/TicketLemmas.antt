-- Draws and asks for a number make their calls.
use Rattle.std.proofs.Common.{◌≡◌, ◌≢◌, ℕ, ◌+◌, ◌*◌, ◌%◌, ◌^◌, ◌<◌, ◌≤◌, min, Bool, true, false, cond, List, [], ◌∷◌, ◌++◌, set, refl, ap}
use Rattle.std.proofs.Common.{sym, ◌∙◌, subst, ⊎_elim, le_trans, arith, length-set, eqb-true, lt-ltb, le-ltb, eq-eqb}
use Rattle.std.specs.Prelude.{slice_index}
use Rattle.std.proofs.Math.Nat.{mul-le-mul}
use Rattle.std.proofs.lemmas.List.{set-get_or}
use mathlib.Core.Option.{Option as Maybe}
use mathlib.Core.Logic.{dite}
use native.Mathlib.Decide.{ℕ_discrete}
use Rattle.sz_book_rules.specs.Plan.{PlanData}
use Rattle.sz_book_rules.specs.declared.claim.Claim.{Claim}
use Rattle.sz_book_rules.specs.declared.event.Event.{Event}
use Rattle.sz_book_rules.specs.declared.event.Event.TheVariants.{Draw, Number, Died, Settle, LaneOut, LaneBack, Bad}
use Rattle.sz_book_rules.specs.declared.event.Reply.{Reply}
use Rattle.sz_book_rules.specs.declared.event.Entry.{Entry}
use Rattle.sz_claims.specs.declared.view.View.{View}
use Rattle.sz_book_rules.specs.Plan.{count_of}
use Rattle.sz_book_rules.specs.Machine.{LedgerState, opening, after, reply_of, Fits, IsDrawn, draw_reply, number_reply}
use Rattle.sz_book_rules.specs.History.{entry, state_after, IsLegalFrom, calls_by, HasDrawn}
use Rattle.sz_claims.specs.Rule.{Slot, Shows, IsBounded, any_of, draws_none, numbers_none, found_no_ticket, found_no_number, number_at, deaths_at}
use Rattle.sz_claims.specs.Rule.{settled_at, bad_at}
use Rattle.sz_book_rules.proofs.GrowthLemmas.{drawn_stays, given_stays}
use Rattle.sz_claims.specs.Moves.{Moved, Moves}
use Rattle.sz_claims.proofs.SumLemmas.{dries, bars, dries_grow, dries_one, dries_most, bars_grow, bars_one, bars_most, any_own}
use Rattle.sz_claims.proofs.WordLemmas.{below, by_test, ticket_some, ticket_none, one_ticket, number_some, number_none, one_number, set_same}
use Rattle.sz_claims.proofs.WordLemmas.{set_other, slots_set, bound_numbers, claimed, drew}

-- ---- Draw

draw_shows_low : (p : PlanData) (lanes who : ℕ) (words : List ℕ) (homes : List (Maybe Slot)) (x : LedgerState) → Shows p lanes words homes x
    → slice_index words 0 < count_of p → Shows p lanes (set words 0 (slice_index words 0 + 1)) homes (after p x who Draw [])
draw_shows_low p lanes who words homes x h low =
    let n : ℕ = slice_index words 0 in
    let drawn : x.drawn ≡ n = (let d = h.drawn in omega arith) in
    let next : after p x who Draw [] ≡ record x { drawn = x.drawn + 1 } =
    ap (λ (b : Bool). cond b (record x { drawn = x.drawn + 1 }) x) (lt-ltb x.drawn (count_of p) (omega arith)) in
    let first : slice_index (set words 0 (n + 1)) 0 ≡ n + 1 = set_same words 0 (n + 1) (let c = h.count in omega arith) in
    subst (λ (y : LedgerState). Shows p lanes (set words 0 (n + 1)) homes y) (sym next)
    record {
      count = length-set words 0 (n + 1) ∙ h.count;
      rows = h.rows;
      unplaced = h.unplaced;
      slots = slots_set p lanes words homes x.outs x.lists 0 (n + 1) (omega arith) h.slots;
      least_bad = h.least_bad ∙ sym (set_other words 0 (bad_at p) (n + 1) (omega arith));
      drawn = omega arith;
      given = λ s low'. h.given s low' ∙ ap (λ (k : ℕ). min k p.attempts) (sym (set_other words 0 (number_at s) (n + 1) (omega arith)));
      deaths = λ s low'. h.deaths s low' ∙ sym (set_other words 0 (deaths_at s) (n + 1) (omega arith));
      winners = λ s low'. h.winners s low' ∙ sym (set_other words 0 (settled_at s) (n + 1) (omega arith));
    }

draw_shows_high : (p : PlanData) (lanes who : ℕ) (words : List ℕ) (homes : List (Maybe Slot)) (x : LedgerState) (n : ℕ) → Shows p lanes words homes x
    → count_of p ≤ slice_index words 0 → count_of p ≤ n → Shows p lanes (set words 0 n) homes (after p x who Draw [])
draw_shows_high p lanes who words homes x n h high high' =
    let drawn : x.drawn ≡ count_of p = (let d = h.drawn in omega arith) in
    let next : after p x who Draw [] ≡ x =
    ap (λ (b : Bool). cond b (record x { drawn = x.drawn + 1 }) x) (le-ltb x.drawn (count_of p) (omega arith)) in
    let first : slice_index (set words 0 n) 0 ≡ n = set_same words 0 n (let c = h.count in omega arith) in
    subst (λ (y : LedgerState). Shows p lanes (set words 0 n) homes y) (sym next)
    record {
      count = length-set words 0 n ∙ h.count;
      rows = h.rows;
      unplaced = h.unplaced;
      slots = slots_set p lanes words homes x.outs x.lists 0 n (omega arith) h.slots;
      least_bad = h.least_bad ∙ sym (set_other words 0 (bad_at p) n (omega arith));
      drawn = omega arith;
      given = λ s low'. h.given s low' ∙ ap (λ (k : ℕ). min k p.attempts) (sym (set_other words 0 (number_at s) n (omega arith)));
      deaths = λ s low'. h.deaths s low' ∙ sym (set_other words 0 (deaths_at s) n (omega arith));
      winners = λ s low'. h.winners s low' ∙ sym (set_other words 0 (settled_at s) n (omega arith));
    }

-- a pass that has not had None adds to the ticket word
pub draw_moves : (p : PlanData) (lanes : ℕ) (v : View) → any_of found_no_ticket v.mine ≡ 0
    → Moves v 0 (λ n. (n + 1) % 2 ^ 64) Draw (draw_reply p) p lanes
draw_moves p lanes v fresh words homes log made joined plan legal shows bounded small t fits =
    let n : ℕ = slice_index words 0 in
    let x : LedgerState = state_after p (opening p lanes) log in
    let e : Entry = entry v.number Draw [] (draw_reply p n) in
    let most = dries_most log made in
    let room = bounded.tickets in
    let tickets = plan.tickets in
    let word : (n + 1) % 2 ^ 64 ≡ n + 1 = omega arith in
    let none : any_of found_no_ticket (calls_by v.number log) ≡ 0 = ap (any_of found_no_ticket) t.mine ∙ fresh in
    let first : slice_index (set words 0 (n + 1)) 0 ≡ n + 1 = set_same words 0 (n + 1) (let c = shows.count in omega arith) in
    let up = dries_grow log e made in
    subst (λ (k : ℕ). Moved p lanes (set words 0 k) homes log made v.number Draw (draw_reply p n)) (sym word)
    record {
      fits = refl;
      answer = one_ticket p n x.drawn shows.drawn;
      shows = ⊎_elim
          (λ (low : n < count_of p). draw_shows_low p lanes v.number words homes x shows low)
          (λ (high : count_of p ≤ n). draw_shows_high p lanes v.number words homes x (n + 1) shows high (omega arith))
          (below n (count_of p));
      bounded = record {
        tickets = ⊎_elim
            (λ (low : n < count_of p). let goal : slice_index (set words 0 (n + 1)) 0 ≤ count_of p + dries (log ++ e ∷ []) made = omega arith in goal)
            (λ (high : count_of p ≤ n).
            let one = dries_one log e made t.number none (ap (λ (r : Reply). found_no_ticket (entry v.number Draw [] r)) (ticket_none p n high)) in
            let goal : slice_index (set words 0 (n + 1)) 0 ≤ count_of p + dries (log ++ e ∷ []) made = omega arith in goal)
            (below n (count_of p));
        numbers = bound_numbers p words log made 0 (n + 1) e bounded (λ s low. omega arith);
      };
    }

-- ---- Number

number_shows_low : (p : PlanData) (lanes who : ℕ) (words : List ℕ) (homes : List (Maybe Slot)) (x : LedgerState) (c : Claim) → c.shard < p.shards
    → Shows p lanes words homes x → slice_index words (number_at c.shard) < p.attempts
    → Shows p lanes (set words (number_at c.shard) (slice_index words (number_at c.shard) + 1)) homes (after p x who (Number c) [])
number_shows_low p lanes who words homes x c shard h low =
    let i : ℕ = number_at c.shard in
    let n : ℕ = slice_index words i in
    let g : ℕ = slice_index x.given c.shard in
    let given : g ≡ n = (let d = h.given c.shard shard in omega arith) in
    let next : after p x who (Number c) [] ≡ record x { given = set x.given c.shard (g + 1) } =
    ap (λ (b : Bool). cond b (record x { given = set x.given c.shard (g + 1) }) x) (lt-ltb g p.attempts (omega arith)) in
    let first : slice_index (set words i (n + 1)) i ≡ n + 1 = set_same words i (n + 1) (let c' = h.count in omega arith) in
    let row : slice_index (set x.given c.shard (g + 1)) c.shard ≡ g + 1 = set_same x.given c.shard (g + 1) (let r = h.rows.0 in omega arith) in
    subst (λ (y : LedgerState). Shows p lanes (set words i (n + 1)) homes y) (sym next)
    record {
      count = length-set words i (n + 1) ∙ h.count;
      rows = (length-set x.given c.shard (g + 1) ∙ h.rows.0, h.rows.1, h.rows.2);
      unplaced = h.unplaced;
      slots = slots_set p lanes words homes x.outs x.lists i (n + 1) (omega arith) h.slots;
      least_bad = h.least_bad ∙ sym (set_other words i (bad_at p) (n + 1) (omega arith));
      drawn = h.drawn ∙ ap (λ (k : ℕ). min k (count_of p)) (sym (set_other words i 0 (n + 1) (omega arith)));
      given = λ s low'. dite (ℕ_discrete s c.shard)
          (λ (e : s ≡ c.shard).
          let P : ℕ → Type 0 = λ k. slice_index (set x.given c.shard (g + 1)) k ≡ min (slice_index (set words i (n + 1)) (number_at k)) p.attempts in
          let here : P c.shard = omega arith in subst P (sym e) here)
          (λ (ne : s ≢ c.shard).
          set_other x.given c.shard s (g + 1) ne ∙ h.given s low'
          ∙ ap (λ (k : ℕ). min k p.attempts) (sym (set_other words i (number_at s) (n + 1) (omega arith))));
      deaths = λ s low'. h.deaths s low' ∙ sym (set_other words i (deaths_at s) (n + 1) (omega arith));
      winners = λ s low'. h.winners s low' ∙ sym (set_other words i (settled_at s) (n + 1) (omega arith));
    }

number_shows_high : (p : PlanData) (lanes who : ℕ) (words : List ℕ) (homes : List (Maybe Slot)) (x : LedgerState) (c : Claim) (n : ℕ)
    → c.shard < p.shards → Shows p lanes words homes x → p.attempts ≤ slice_index words (number_at c.shard) → p.attempts ≤ n
    → Shows p lanes (set words (number_at c.shard) n) homes (after p x who (Number c) [])
number_shows_high p lanes who words homes x c n shard h high high' =
    let i : ℕ = number_at c.shard in
    let g : ℕ = slice_index x.given c.shard in
    let given : g ≡ p.attempts = (let d = h.given c.shard shard in omega arith) in
    let next : after p x who (Number c) [] ≡ x =
    ap (λ (b : Bool). cond b (record x { given = set x.given c.shard (g + 1) }) x) (le-ltb g p.attempts (omega arith)) in
    let first : slice_index (set words i n) i ≡ n = set_same words i n (let c' = h.count in omega arith) in
    subst (λ (y : LedgerState). Shows p lanes (set words i n) homes y) (sym next)
    record {
      count = length-set words i n ∙ h.count;
      rows = h.rows;
      unplaced = h.unplaced;
      slots = slots_set p lanes words homes x.outs x.lists i n (omega arith) h.slots;
      least_bad = h.least_bad ∙ sym (set_other words i (bad_at p) n (omega arith));
      drawn = h.drawn ∙ ap (λ (k : ℕ). min k (count_of p)) (sym (set_other words i 0 n (omega arith)));
      given = λ s low'. dite (ℕ_discrete s c.shard)
          (λ (e : s ≡ c.shard).
          let P : ℕ → Type 0 = λ k. slice_index x.given k ≡ min (slice_index (set words i n) (number_at k)) p.attempts in
          let here : P c.shard = omega arith in subst P (sym e) here)
          (λ (ne : s ≢ c.shard). h.given s low' ∙ ap (λ (k : ℕ). min k p.attempts) (sym (set_other words i (number_at s) n (omega arith))));
      deaths = λ s low'. h.deaths s low' ∙ sym (set_other words i (deaths_at s) n (omega arith));
      winners = λ s low'. h.winners s low' ∙ sym (set_other words i (settled_at s) n (omega arith));
    }

-- a pass that has not had None for this claim adds to the number word
pub number_moves : (p : PlanData) (lanes : ℕ) (v : View) (c : Claim) → HasDrawn c v.mine → any_of (found_no_number c.ticket) v.mine ≡ 0
    → Moves v (number_at c.shard) (λ n. (n + 1) % 2 ^ 64) (Number c) (number_reply p) p lanes
number_moves p lanes v c had fresh words homes log made joined plan legal shows bounded small t fits =
    let i : ℕ = number_at c.shard in
    let n : ℕ = slice_index words i in
    let x : LedgerState = state_after p (opening p lanes) log in
    let e : Entry = entry v.number (Number c) [] (number_reply p n) in
    let d : IsDrawn p x c = drew p lanes v c log made joined had legal t in
    let shard : c.shard < p.shards = claimed p x c plan d in
    let most = bars_most (count_of p) log made in
    let room = bounded.numbers c.shard shard in
    let tickets = plan.tickets in
    let attempts = plan.attempts.1 in
    let product : made * count_of p ≤ 4294967295 * 4294967295 =
    mul-le-mul {n₁ = made} {m₁ = count_of p} {n₂ = 4294967295} {m₂ = 4294967295} (omega arith) (omega arith) in
    let word : (n + 1) % 2 ^ 64 ≡ n + 1 = omega arith in
    let none : any_of (found_no_number c.ticket) (calls_by v.number log) ≡ 0 = ap (any_of (found_no_number c.ticket)) t.mine ∙ fresh in
    let first : slice_index (set words i (n + 1)) i ≡ n + 1 = set_same words i (n + 1) (let k = shows.count in omega arith) in
    let up = bars_grow (count_of p) log e made in
    let up' = dries_grow log e made in
    subst (λ (k : ℕ). Moved p lanes (set words i k) homes log made v.number (Number c) (number_reply p n)) (sym word)
    record {
      fits = (refl, d);
      answer = one_number p n (slice_index x.given c.shard) (shows.given c.shard shard);
      shows = ⊎_elim
          (λ (low : n < p.attempts). number_shows_low p lanes v.number words homes x c shard shows low)
          (λ (high : p.attempts ≤ n). number_shows_high p lanes v.number words homes x c (n + 1) shard shows high (omega arith))
          (below n p.attempts);
      bounded = record {
        tickets = let same = set_other words i 0 (n + 1) (omega arith) in let old = bounded.tickets in omega arith;
        numbers = λ s low'. dite (ℕ_discrete s c.shard)
            (λ (is : s ≡ c.shard).
            let P : ℕ → Type 0 = λ k. slice_index (set words i (n + 1)) (number_at k) ≤ p.attempts + bars (count_of p) (log ++ e ∷ []) made in
            let here : P c.shard = ⊎_elim
            (λ (low : n < p.attempts). let goal : P c.shard = omega arith in goal)
            (λ (high : p.attempts ≤ n).
            let bar : found_no_number c.ticket e ≡ true =
            ap (λ (r : Reply). found_no_number c.ticket (entry v.number (Number c) [] r)) (number_none p n high)
            ∙ eq-eqb c.ticket c.ticket refl in
            let one = bars_one (count_of p) c.ticket log e made d.ticket t.number none bar in
            let goal : P c.shard = omega arith in goal)
            (below n p.attempts) in
            subst P (sym is) here)
            (λ (ne : s ≢ c.shard).
            let same = set_other words i (number_at s) (n + 1) (omega arith) in
            let old = bounded.numbers s low' in omega arith);
      };
    }

-- ---- a pass that had None asks again

dry_full : (p : PlanData) (x : LedgerState) (v : Event) → draws_none v (reply_of p x v) ≡ true → count_of p ≤ x.drawn
dry_full p x Draw h = ⊎_elim
    (λ (low : x.drawn < count_of p). let no : false ≡ true = ap (draws_none Draw) (sym (ticket_some p x.drawn low)) ∙ h in absurd (cc no))
    (λ (high : count_of p ≤ x.drawn). high)
    (below x.drawn (count_of p))
dry_full p x (Number c) h = absurd (cc h)
dry_full p x (Died c k) h = absurd (cc h)
dry_full p x (Settle c k) h = absurd (cc h)
dry_full p x (LaneOut i) h = absurd (cc h)
dry_full p x (LaneBack i) h = absurd (cc h)
dry_full p x (Bad s) h = absurd (cc h)

bar_full : (p : PlanData) (x : LedgerState) (t n : ℕ) (v : Event) (ss : List ℕ) → Fits p x n v ss → numbers_none t v (reply_of p x v) ≡ true
    → p.attempts ≤ slice_index x.given (slice_index p.tickets t)
bar_full p x t n Draw ss fit h = absurd (cc h)
bar_full p x t n (Number c) ss fit h =
    let g : ℕ = slice_index x.given c.shard in ⊎_elim
    (λ (low : g < p.attempts). let no : false ≡ true = ap (numbers_none t (Number c)) (sym (number_some p g low)) ∙ h in absurd (cc no))
    (λ (high : p.attempts ≤ g).
    let same : c.ticket ≡ t = eqb-true c.ticket t (ap (numbers_none t (Number c)) (sym (number_none p g high)) ∙ h) in
    let shard : c.shard ≡ slice_index p.tickets t = sym fit.1.shard ∙ ap (slice_index p.tickets) same in
    subst (λ (s : ℕ). p.attempts ≤ slice_index x.given s) shard high)
    (below g p.attempts)
bar_full p x t n (Died c k) ss fit h = absurd (cc h)
bar_full p x t n (Settle c k) ss fit h = absurd (cc h)
bar_full p x t n (LaneOut i) ss fit h = absurd (cc h)
bar_full p x t n (LaneBack i) ss fit h = absurd (cc h)
bar_full p x t n (Bad s) ss fit h = absurd (cc h)

has_dry : (p : PlanData) (x : LedgerState) (es : List Entry) → IsLegalFrom p x es → 1 ≤ any_of found_no_ticket es
    → count_of p ≤ (state_after p x es).drawn
has_dry p x [] h some = absurd (omega arith)
has_dry p x (e ∷ es) h some = by_test (found_no_ticket e)
    (λ (yes : found_no_ticket e ≡ true).
    let here : count_of p ≤ x.drawn = dry_full p x e.event (ap (draws_none e.event) (sym h.1) ∙ yes) in
    let up = drawn_stays p x (e ∷ es) in le_trans here up)
    (λ (no : found_no_ticket e ≡ false).
    has_dry p (after p x e.by e.event e.shards) es h.2 (subst (λ (b : Bool). 1 ≤ cond b 1 (any_of found_no_ticket es)) no some))

has_bar : (p : PlanData) (x : LedgerState) (t : ℕ) (es : List Entry) → IsLegalFrom p x es → 1 ≤ any_of (found_no_number t) es
    → p.attempts ≤ slice_index (state_after p x es).given (slice_index p.tickets t)
has_bar p x t [] h some = absurd (omega arith)
has_bar p x t (e ∷ es) h some = by_test (found_no_number t e)
    (λ (yes : found_no_number t e ≡ true).
    let here = bar_full p x t e.by e.event e.shards h.0 (ap (numbers_none t e.event) (sym h.1) ∙ yes) in
    let up = given_stays p x (slice_index p.tickets t) (e ∷ es) in le_trans here up)
    (λ (no : found_no_number t e ≡ false).
    has_bar p (after p x e.by e.event e.shards) t es h.2 (subst (λ (b : Bool). 1 ≤ cond b 1 (any_of (found_no_number t) es)) no some))

-- the same words, and a longer history
bound_same : (p : PlanData) (words : List ℕ) (log : List Entry) (made i : ℕ) (e : Entry) → IsBounded p words log made
    → IsBounded p (set words i (slice_index words i)) (log ++ e ∷ []) made
bound_same p words log made i e b =
    subst (λ (ws : List ℕ). IsBounded p ws (log ++ e ∷ []) made) (sym (set-get_or words i 0))
    record {
      tickets = (let up = dries_grow log e made in let old = b.tickets in omega arith);
      numbers =
          λ s low. (let up = bars_grow (count_of p) log e made in let old = b.numbers s low in omega arith);
    }

-- a pass that has had None looks at the ticket word
pub draw_again : (p : PlanData) (lanes : ℕ) (v : View) → 1 ≤ any_of found_no_ticket v.mine → Moves v 0 (λ n. n) Draw (draw_reply p) p lanes
draw_again p lanes v dry words homes log made joined plan legal shows bounded small t fits =
    let n : ℕ = slice_index words 0 in
    let x : LedgerState = state_after p (opening p lanes) log in
    let own : 1 ≤ any_of found_no_ticket (calls_by v.number log) = subst (λ (l : List Entry). 1 ≤ any_of found_no_ticket l) (sym t.mine) dry in
    let full = has_dry p (opening p lanes) log legal.from (le_trans own (any_own found_no_ticket v.number log)) in
    let drawn = shows.drawn in
    record {
      fits = refl;
      answer = one_ticket p n x.drawn drawn;
      shows = draw_shows_high p lanes v.number words homes x n shows (omega arith) (omega arith);
      bounded = bound_same p words log made 0 (entry v.number Draw [] (draw_reply p n)) bounded;
    }

-- a pass that has had None for this claim looks at the number word
pub number_again : (p : PlanData) (lanes : ℕ) (v : View) (c : Claim) → HasDrawn c v.mine → 1 ≤ any_of (found_no_number c.ticket) v.mine
    → Moves v (number_at c.shard) (λ n. n) (Number c) (number_reply p) p lanes
number_again p lanes v c had bar words homes log made joined plan legal shows bounded small t fits =
    let i : ℕ = number_at c.shard in
    let n : ℕ = slice_index words i in
    let x : LedgerState = state_after p (opening p lanes) log in
    let d : IsDrawn p x c = drew p lanes v c log made joined had legal t in
    let shard : c.shard < p.shards = claimed p x c plan d in
    let own : 1 ≤ any_of (found_no_number c.ticket) (calls_by v.number log) =
    subst (λ (l : List Entry). 1 ≤ any_of (found_no_number c.ticket) l) (sym t.mine) bar in
    let full : p.attempts ≤ slice_index x.given c.shard =
    subst (λ (s : ℕ). p.attempts ≤ slice_index x.given s) d.shard
    (has_bar p (opening p lanes) c.ticket log legal.from (le_trans own (any_own (found_no_number c.ticket) v.number log))) in
    let given = shows.given c.shard shard in
    record {
      fits = (refl, d);
      answer = one_number p n (slice_index x.given c.shard) given;
      shows = number_shows_high p lanes v.number words homes x c n shard shows (omega arith) (omega arith);
      bounded = bound_same p words log made i (entry v.number (Number c) [] (number_reply p n)) bounded;
    }
