-- Each shard counts once, after every history.
use Rattle.std.proofs.Common.{◌≡◌, ℕ, zero, suc, ◌+◌, ◌-◌, ◌^◌, ◌<◌, ◌≤◌, ◌==◌, Bool, true, false, cond, nat_lt, List, [], ◌∷◌, ◌++◌, set, length, replicate, refl, ap, sym, ◌∙◌, subst, arith, max, Option, Some, None, ltb-true, bit_or, ne_eqb}
use Rattle.std.specs.Prelude.{slice_index}
use Rattle.std.specs.Int.{bit_at}
use Rattle.std.specs.List.{filter_map, cons_option, range_with_len, sum_by}
use Rattle.std.proofs.lemmas.Bool.{eqb-true, eqb-false}
use Rattle.std.proofs.lemmas.List.{append-nil}
use Rattle.std.proofs.lemmas.List.Sums.{sum_by-set, sum_by-cons}
use Rattle.std.proofs.lemmas.Nat.Bits.{bit_at_or, bit_at-pow_other, bit_at-zero}
use Rattle.sz_book_rules.specs.Plan.{PlanData, IsPlan, count_of}
use Rattle.sz_book_rules.specs.declared.claim.Claim.{Claim}
use Rattle.sz_book_rules.specs.declared.event.Event.{Event}
use Rattle.sz_book_rules.specs.declared.event.Event.TheVariants.{Draw, Number, Died, Settle, LaneOut, LaneBack, Bad}
use Rattle.sz_book_rules.specs.declared.event.Reply.{Reply}
use Rattle.sz_book_rules.specs.declared.event.Reply.TheVariants.{Ticket, Number as Numbered, Won, Late}
use Rattle.sz_book_rules.specs.declared.event.Entry.{Entry}
use Rattle.sz_book_rules.specs.Machine.{LedgerState, opening, after, reply_of, Fits, placed, AreUnplaced, list_of, claim_of}
use Rattle.sz_book_rules.specs.History.{state_after, IsLegalFrom, IsTrueReport, AreTrueReports}
use Rattle.sz_book_rules.specs.Counting.{ticket_in, number_in, win_in, winner_in, wins, times, once, times_anywhere, left_by, EachShardCountsOnce, TheWinnerStays, NotedDeathsAreTrue}
use Rattle.sz_book_rules.proofs.StepLemmas.{HasRows, rows_open, rows_kept, either, shard_within, set_here, set_there, kept_on}

-- nothing was found and the count stays, or the count was found and is one more
abbrev Counted : Option ℕ → ℕ → ℕ → Type 0
Counted None n m = m ≡ n
Counted (Some k) n m = (k ≡ n) × (m ≡ suc n)

abbrev Counts : PlanData → (Entry → Option ℕ) → (LedgerState → ℕ) → Type 0
Counts p found count = (x : LedgerState) (e : Entry) → HasRows p x → Fits p x e.by e.event e.shards → e.reply ≡ reply_of p x e.event
    → Counted (found e) (count x) (count (after p x e.by e.event e.shards))

more_counted : (o : Option ℕ) (n m k end : ℕ) (found : List ℕ) → Counted o n m → end ≡ m + k → found ≡ range_with_len m k
    → (j : ℕ) × (end ≡ n + j) × (cons_option o found ≡ range_with_len n j)
more_counted None n m k end found one e f = (k, omega (arith, one, e), f ∙ ap (λ (a : ℕ). range_with_len a k) one)
more_counted (Some a) n m k end found one e f =
    let next : m ≡ n + 1 = (let i = one.1 in omega arith) in
    (suc k, (let i = one.1 in omega (arith, i, e)), ap (λ (b : ℕ). b ∷ found) one.0 ∙ ap (λ (l : List ℕ). n ∷ l) (f ∙ ap (λ (b : ℕ). range_with_len b k) next))

-- what is found along a history is a run of numbers
counted : (p : PlanData) (found : Entry → Option ℕ) (count : LedgerState → ℕ) → Counts p found count
    → (x : LedgerState) (es : List Entry) → HasRows p x → IsLegalFrom p x es
    → (j : ℕ) × (count (state_after p x es) ≡ count x + j) × (filter_map found es ≡ range_with_len (count x) j)
counted p found count step x [] rows h = (0, omega arith, refl)
counted p found count step x (e ∷ es) rows h =
    let y = after p x e.by e.event e.shards in
    let r = counted p found count step y es (rows_kept p x e.by e.event e.shards rows) h.2 in
    more_counted (found e) (count x) (count y) r.0 (count (state_after p x (e ∷ es))) (filter_map found es) (step x e rows h.0 h.1) r.1 r.2

from_opening : (start end : ℕ) (found : List ℕ) → start ≡ 0 → (j : ℕ) × (end ≡ start + j) × (found ≡ range_with_len start j) → found ≡ range_with_len 0 end
from_opening start end found is r =
    let same : r.0 ≡ end = (let e = r.1 in omega (arith, e, is)) in
    r.2 ∙ ap (λ (a : ℕ). range_with_len a r.0) is ∙ ap (range_with_len 0) same

ticket_by_test : (p : PlanData) (x : LedgerState) (b : Bool)
    → Counted (ticket_in (cond b (Ticket (Some (claim_of p x.drawn))) (Ticket None))) x.drawn (cond b (record x { drawn = x.drawn + 1 }) x).drawn
ticket_by_test p x true = (refl, omega arith)
ticket_by_test p x false = refl

no_ticket : (b : Bool) (r q : Reply) (n : ℕ) (x y : LedgerState) → Counted (ticket_in r) n x.drawn → Counted (ticket_in q) n y.drawn
    → Counted (ticket_in (cond b r q)) n (cond b x y).drawn
no_ticket true r q n x y h k = h
no_ticket false r q n x y h k = k

ticket_step : (p : PlanData) (x : LedgerState) (n : ℕ) (e : Event) (ss : List ℕ) → Counted (ticket_in (reply_of p x e)) x.drawn (after p x n e ss).drawn
ticket_step p x n Draw ss = ticket_by_test p x (nat_lt x.drawn (count_of p))
ticket_step p x n (Number c) ss = no_ticket (nat_lt (slice_index x.given c.shard) p.attempts) _ _ x.drawn
    (record x { given = set x.given c.shard (slice_index x.given c.shard + 1) }) x refl refl
ticket_step p x n (Died c k) ss = refl
ticket_step p x n (Settle c k) ss = no_ticket (slice_index x.winners c.shard == 0) _ _ x.drawn
    (record x { winners = set x.winners c.shard (k + 1); unplaced = set x.unplaced c.shard (n + 1) }) x refl refl
ticket_step p x n (LaneOut i) ss = either (λ y. y.drawn ≡ x.drawn) (slice_index x.outs i == 0) (record x { outs = set x.outs i 1 }) x refl refl
ticket_step p x n (LaneBack i) ss = refl
ticket_step p x n (Bad s) ss = refl

ticket_counts : (p : PlanData) → Counts p (λ e. ticket_in e.reply) (λ x. x.drawn)
ticket_counts p x e rows fits is =
    subst (λ (r : Reply). Counted (ticket_in r) x.drawn (after p x e.by e.event e.shards).drawn) (sym is)
    (ticket_step p x e.by e.event e.shards)

number_here : (s : ℕ) (b : Bool) (c : Claim) (row : List ℕ) → (c.shard == s) ≡ b → c.shard < length row
    → Counted (number_in s (Number c) (Numbered (Some (slice_index row c.shard)))) (slice_index row s)
    (slice_index (set row c.shard (slice_index row c.shard + 1)) s)
number_here s true c row is low =
    let same : c.shard ≡ s = eqb-true c.shard s is in
    let more : slice_index (set row c.shard (slice_index row c.shard + 1)) s ≡ suc (slice_index row s) =
    set_here row c.shard s (slice_index row c.shard + 1) low is ∙ (let e = ap (slice_index row) same in omega (arith, e)) in
    subst (λ (b : Bool). Counted (cond b (Some (slice_index row c.shard)) None) (slice_index row s)
    (slice_index (set row c.shard (slice_index row c.shard + 1)) s)) (sym is)
    (ap (slice_index row) same, more)
number_here s false c row is low =
    subst (λ (b : Bool). Counted (cond b (Some (slice_index row c.shard)) None) (slice_index row s)
    (slice_index (set row c.shard (slice_index row c.shard + 1)) s)) (sym is)
    (set_there row c.shard s (slice_index row c.shard + 1) is)

number_by_test : (p : PlanData) (x : LedgerState) (s : ℕ) (c : Claim) (b : Bool) → c.shard < length x.given
    → Counted (number_in s (Number c) (cond b (Numbered (Some (slice_index x.given c.shard))) (Numbered None))) (slice_index x.given s)
    (slice_index (cond b (record x { given = set x.given c.shard (slice_index x.given c.shard + 1) }) x).given s)
number_by_test p x s c true low = number_here s (c.shard == s) c x.given refl low
number_by_test p x s c false low = refl

number_step : (p : PlanData) (x : LedgerState) (s n : ℕ) (e : Event) (ss : List ℕ) → IsPlan p → HasRows p x → Fits p x n e ss
    → Counted (number_in s e (reply_of p x e)) (slice_index x.given s) (slice_index (after p x n e ss).given s)
number_step p x s n Draw ss plan rows fits = either (λ y. slice_index y.given s ≡ slice_index x.given s)
    (nat_lt x.drawn (count_of p)) (record x { drawn = x.drawn + 1 }) x refl refl
number_step p x s n (Number c) ss plan rows fits =
    let low : c.shard < length x.given = (let a = shard_within p x c plan fits.1 in let b = rows.given in omega arith) in
    number_by_test p x s c (nat_lt (slice_index x.given c.shard) p.attempts) low
number_step p x s n (Died c k) ss plan rows fits = refl
number_step p x s n (Settle c k) ss plan rows fits =
    either (λ y. slice_index y.given s ≡ slice_index x.given s) (slice_index x.winners c.shard == 0)
    (record x { winners = set x.winners c.shard (k + 1); unplaced = set x.unplaced c.shard (n + 1) }) x refl refl
number_step p x s n (LaneOut i) ss plan rows fits = either (λ y. slice_index y.given s ≡ slice_index x.given s)
    (slice_index x.outs i == 0) (record x { outs = set x.outs i 1 }) x refl refl
number_step p x s n (LaneBack i) ss plan rows fits = refl
number_step p x s n (Bad b) ss plan rows fits = refl

number_counts : (p : PlanData) (s : ℕ) → IsPlan p → Counts p (λ e. number_in s e.event e.reply) (λ x. slice_index x.given s)
number_counts p s plan x e rows fits is = subst (λ (r : Reply). Counted (number_in s e.event r)
    (slice_index x.given s) (slice_index (after p x e.by e.event e.shards).given s)) (sym is)
    (number_step p x s e.by e.event e.shards plan rows fits)

-- nothing was won and the word stays, or the shard was not settled and has this winner
abbrev Wins : Option ℕ → ℕ → ℕ → Type 0
Wins None n m = m ≡ n
Wins (Some k) n m = (n ≡ 0) × (m ≡ suc k)

win_here : (s : ℕ) (b : Bool) (c : Claim) (k : ℕ) (row : List ℕ) → (c.shard == s) ≡ b → c.shard < length row → slice_index row c.shard ≡ 0
    → Wins (win_in s (Settle c k) Won) (slice_index row s) (slice_index (set row c.shard (k + 1)) s)
win_here s true c k row is low free =
    let same : c.shard ≡ s = eqb-true c.shard s is in
    let more : slice_index (set row c.shard (k + 1)) s ≡ suc k = set_here row c.shard s (k + 1) low is ∙ omega arith in
    subst (λ (b : Bool). Wins (cond b (Some k) None) (slice_index row s) (slice_index (set row c.shard (k + 1)) s))
    (sym is) (ap (slice_index row) (sym same) ∙ free, more)
win_here s false c k row is low free =
    subst (λ (b : Bool). Wins (cond b (Some k) None) (slice_index row s) (slice_index (set row c.shard (k + 1)) s))
    (sym is) (set_there row c.shard s (k + 1) is)

win_by_test : (x : LedgerState) (s : ℕ) (c : Claim) (k n : ℕ) (b : Bool) → (slice_index x.winners c.shard == 0) ≡ b → c.shard < length x.winners
    → Wins (win_in s (Settle c k) (cond b Won (Late (slice_index x.winners c.shard - 1)))) (slice_index x.winners s)
    (slice_index (cond b (record x { winners = set x.winners c.shard (k + 1); unplaced = set x.unplaced c.shard (n + 1) }) x).winners s)
win_by_test x s c k n true is low = win_here s (c.shard == s) c k x.winners refl low (eqb-true (slice_index x.winners c.shard) 0 is)
win_by_test x s c k n false is low = refl

win_step : (p : PlanData) (x : LedgerState) (s n : ℕ) (e : Event) (ss : List ℕ) → IsPlan p → HasRows p x → Fits p x n e ss
    → Wins (win_in s e (reply_of p x e)) (slice_index x.winners s) (slice_index (after p x n e ss).winners s)
win_step p x s n Draw ss plan rows fits = either (λ y. slice_index y.winners s ≡ slice_index x.winners s)
    (nat_lt x.drawn (count_of p)) (record x { drawn = x.drawn + 1 }) x refl refl
win_step p x s n (Number c) ss plan rows fits =
    either (λ y. slice_index y.winners s ≡ slice_index x.winners s) (nat_lt (slice_index x.given c.shard) p.attempts)
    (record x { given = set x.given c.shard (slice_index x.given c.shard + 1) }) x refl refl
win_step p x s n (Died c k) ss plan rows fits = refl
win_step p x s n (Settle c k) ss plan rows fits =
    let low : c.shard < length x.winners = (let a = shard_within p x c plan fits.1.claim in let b = rows.winners in omega arith) in
    win_by_test x s c k n (slice_index x.winners c.shard == 0) refl low
win_step p x s n (LaneOut i) ss plan rows fits = either (λ y. slice_index y.winners s ≡ slice_index x.winners s)
    (slice_index x.outs i == 0) (record x { outs = set x.outs i 1 }) x refl refl
win_step p x s n (LaneBack i) ss plan rows fits = refl
win_step p x s n (Bad b) ss plan rows fits = refl

more_won : (o : Option ℕ) (n m : ℕ) (found : List ℕ) (end : ℕ) → Wins o n m → winner_in m ++ found ≡ winner_in end
    → winner_in n ++ cons_option o found ≡ winner_in end
more_won None n m found end one h = ap (λ (a : ℕ). winner_in a ++ found) (sym one) ∙ h
more_won (Some k) n m found end one h =
    ap (λ (a : ℕ). winner_in a ++ (k ∷ found)) one.0 ∙ ap (λ (a : ℕ). winner_in a ++ found) (sym one.1) ∙ h

entry_wins : (p : PlanData) (s : ℕ) (x : LedgerState) (e : Entry) → IsPlan p → HasRows p x → Fits p x e.by e.event e.shards → e.reply ≡ reply_of p x e.event
    → Wins (win_in s e.event e.reply) (slice_index x.winners s) (slice_index (after p x e.by e.event e.shards).winners s)
entry_wins p s x e plan rows fits is = subst (λ (r : Reply). Wins (win_in s e.event r) (slice_index x.winners s)
    (slice_index (after p x e.by e.event e.shards).winners s)) (sym is)
    (win_step p x s e.by e.event e.shards plan rows fits)

won_along : (p : PlanData) (s : ℕ) → IsPlan p → (x : LedgerState) (es : List Entry) → HasRows p x → IsLegalFrom p x es
    → winner_in (slice_index x.winners s) ++ wins s es ≡ winner_in (slice_index (state_after p x es).winners s)
won_along p s plan x [] rows h = append-nil (winner_in (slice_index x.winners s))
won_along p s plan x (e ∷ es) rows h =
    let y = after p x e.by e.event e.shards in
    more_won (win_in s e.event e.reply) (slice_index x.winners s) (slice_index y.winners s) (wins s es) (slice_index (state_after p x (e ∷ es)).winners s)
    (entry_wins p s x e plan rows h.0 h.1) (won_along p s plan y es (rows_kept p x e.by e.event e.shards rows) h.2)

still_won : (o : Option ℕ) (n m w : ℕ) → Wins o n m → n ≡ w + 1 → m ≡ w + 1
still_won None n m w one is = one ∙ is
still_won (Some k) n m w one is = absurd (let z = one.0 in omega arith)

stays_won : (p : PlanData) (s w : ℕ) → IsPlan p → (x : LedgerState) (es : List Entry) → HasRows p x → IsLegalFrom p x es
    → slice_index x.winners s ≡ w + 1 → slice_index (state_after p x es).winners s ≡ w + 1
stays_won p s w plan x [] rows h is = is
stays_won p s w plan x (e ∷ es) rows h is =
    let y = after p x e.by e.event e.shards in
    stays_won p s w plan y es (rows_kept p x e.by e.event e.shards rows) h.2
    (still_won (win_in s e.event e.reply) (slice_index x.winners s) (slice_index y.winners s) w (entry_wins p s x e plan rows h.0 h.1) is)

pub times-append : (s : ℕ) (xs ys : List ℕ) → times s (xs ++ ys) ≡ times s xs + times s ys
times-append s [] ys = omega arith
times-append s (t ∷ xs) ys = one_more (t == s) (times-append s xs ys) where
  one_more : (b : Bool) → times s (xs ++ ys) ≡ times s xs + times s ys
      → cond b (times s (xs ++ ys) + 1) (times s (xs ++ ys)) ≡ cond b (times s xs + 1) (times s xs) + times s ys
  one_more true h = omega (arith, h)
  one_more false h = h

once_more : (m : ℕ) → once (m + 1) ≡ 1
once_more m = ap (λ (b : Bool). cond b 0 1) (ne_eqb (m + 1) 0 (omega arith))

marked_low : (row : List ℕ) (t n : ℕ) → slice_index row t ≡ n + 1 → t < length row
marked_low [] t n h = absurd (let z : 0 ≡ n + 1 = h in omega arith)
marked_low (a ∷ row) zero n h = omega arith
marked_low (a ∷ row) (suc t) n h = let r = marked_low row t n h in omega arith

-- a shard stands once in a lane or outside if it is settled, and else nowhere
abbrev StandsOnce : ℕ → LedgerState → Type 0
StandsOnce s x = times_anywhere x s ≡ once (slice_index x.winners s)

-- a shard that is placed is counted where it was marked
placed_once : (n s : ℕ) (row ss : List ℕ) → AreUnplaced n row ss → times s ss + once (slice_index (placed row ss) s) ≡ once (slice_index row s)
placed_once n s row [] h = omega arith
placed_once n s row (t ∷ ss) h = by_test (t == s) refl (placed_once n s (set row t 0) ss h.1) where
  by_test : (b : Bool) → (t == s) ≡ b → times s ss + once (slice_index (placed (set row t 0) ss) s) ≡ once (slice_index (set row t 0) s)
      → cond b (times s ss + 1) (times s ss) + once (slice_index (placed (set row t 0) ss) s) ≡ once (slice_index row s)
  by_test true is rest =
      let same : t ≡ s = eqb-true t s is in
      let cleared : once (slice_index (set row t 0) s) ≡ 0 = ap once (set_here row t s 0 (marked_low row t n h.0) is) in
      let marked : once (slice_index row s) ≡ 1 = ap (λ (i : ℕ). once (slice_index row i)) (sym same) ∙ ap once h.0 ∙ once_more n in
      omega (arith, rest, cleared, marked)
  by_test false is rest = rest ∙ ap once (set_there row t s 0 is)

settled_by_test : (x : LedgerState) (s n k : ℕ) (c : Claim) (b : Bool) → (slice_index x.winners c.shard == 0) ≡ b
    → c.shard < length x.winners → c.shard < length x.unplaced → times_anywhere x s ≡ once (slice_index x.winners s)
    → StandsOnce s (cond b (record x { winners = set x.winners c.shard (k + 1); unplaced = set x.unplaced c.shard (n + 1) }) x)
settled_by_test x s n k c false is low low' h = h
settled_by_test x s n k c true is low low' h = by_shard (c.shard == s) refl where
  by_shard : (b : Bool) → (c.shard == s) ≡ b → StandsOnce s (record x { winners = set x.winners c.shard (k + 1); unplaced = set x.unplaced c.shard (n + 1) })
  by_shard true same =
      let free : once (slice_index x.winners s) ≡ 0 = ap (λ (i : ℕ). once (slice_index x.winners i))
      (sym (eqb-true c.shard s same)) ∙ ap once (eqb-true (slice_index x.winners c.shard) 0 is) in
      let won : once (slice_index (set x.winners c.shard (k + 1)) s) ≡ 1 = ap once (set_here x.winners c.shard s (k + 1) low same) ∙ once_more k in
      let marked : once (slice_index (set x.unplaced c.shard (n + 1)) s) ≡ 1 = ap once (set_here x.unplaced c.shard s (n + 1) low' same) ∙ once_more n in
      omega (arith, h, free, won, marked)
  by_shard false other =
      let won : once (slice_index (set x.winners c.shard (k + 1)) s) ≡ once (slice_index x.winners s) = ap once (set_there x.winners c.shard s (k + 1) other) in
      let marked : once (slice_index (set x.unplaced c.shard (n + 1)) s) ≡ once (slice_index x.unplaced s) =
      ap once (set_there x.unplaced c.shard s (n + 1) other) in
      omega (arith, h, won, marked)

stands_step : (p : PlanData) (s : ℕ) → IsPlan p → (x : LedgerState) (n : ℕ) (e : Event) (ss : List ℕ) → HasRows p x
    → Fits p x n e ss → StandsOnce s x → StandsOnce s (after p x n e ss)
stands_step p s plan x n Draw ss rows fits h = either (StandsOnce s) (nat_lt x.drawn (count_of p)) (record x { drawn = x.drawn + 1 }) x h h
stands_step p s plan x n (Number c) ss rows fits h =
    either (StandsOnce s) (nat_lt (slice_index x.given c.shard) p.attempts)
    (record x { given = set x.given c.shard (slice_index x.given c.shard + 1) }) x h h
stands_step p s plan x n (Died c k) ss rows fits h = h
stands_step p s plan x n (Settle c k) ss rows fits h =
    let within = shard_within p x c plan fits.1.claim in
    settled_by_test x s n k c (slice_index x.winners c.shard == 0) refl
    (let b = rows.winners in omega (arith, within, b)) (let b = rows.unplaced in omega (arith, within, b)) h
stands_step p s plan x n (LaneOut i) ss rows fits h = either (StandsOnce s) (slice_index x.outs i == 0) (record x { outs = set x.outs i 1 }) x h h
stands_step p s plan x n (LaneBack i) ss rows fits h =
    let low : i < length x.lists = (let a = fits.within in let b = rows.lists in omega arith) in
    let moved = placed_once n s x.unplaced ss fits.brought in
    let sum = sum_by-set (times s) x.lists i (list_of x i ++ ss) [] low in
    let list = times-append s (list_of x i) ss in
    omega (arith, h, moved, sum, list)
stands_step p s plan x n (Bad b) ss rows fits h = h

or_none : (a b : ℕ) → b ≡ 0 → max a b ≡ 1 → a ≡ 1
or_none a b none one = omega (arith, none, one)

-- each noted death is of an attempt that died
abbrev AreDeaths : (ℕ → ℕ → Type 0) → LedgerState → Type 0
AreDeaths died x = (s k : ℕ) → bit_at (slice_index x.deaths s) k ≡ 1 → died s k

one_death : (died : ℕ → ℕ → Type 0) (x : LedgerState) (c : Claim) (k : ℕ) → c.shard < length x.deaths → died c.shard k → AreDeaths died x
    → AreDeaths died (record x { deaths = set x.deaths c.shard (bit_or (slice_index x.deaths c.shard) (2 ^ k)) })
one_death died x c k low true_is h s j bit = by_shard (c.shard == s) refl where
  here : (b : Bool) → (j == k) ≡ b → c.shard ≡ s → bit_at (bit_or (slice_index x.deaths c.shard) (2 ^ k)) j ≡ 1 → died s j
  here true is same bit = subst (λ (i : ℕ). died s i) (sym (eqb-true j k is)) (subst (λ (t : ℕ). died t k) same true_is)
  here false is same bit =
      let none : bit_at (2 ^ k) j ≡ 0 = bit_at-pow_other k j (eqb-false j k is) in
      let or = bit_at_or (slice_index x.deaths c.shard) (2 ^ k) j in
      let old : bit_at (slice_index x.deaths c.shard) j ≡ 1 = or_none (bit_at (slice_index x.deaths c.shard) j) (bit_at (2 ^ k) j) none (sym or ∙ bit) in
      subst (λ (t : ℕ). died t j) same (h c.shard j old)

  by_shard : (b : Bool) → (c.shard == s) ≡ b → died s j
  by_shard true is = here (j == k) refl (eqb-true c.shard s is) (ap (λ (d : ℕ). bit_at d j) (sym (set_here x.deaths c.shard s _ low is)) ∙ bit)
  by_shard false is = h s j (ap (λ (d : ℕ). bit_at d j) (sym (set_there x.deaths c.shard s _ is)) ∙ bit)

pub death_step : (died : ℕ → ℕ → Type 0) (is_bad : ℕ → Type 0) (p : PlanData) → IsPlan p → (x : LedgerState) (n : ℕ) (e : Event) (ss : List ℕ) → HasRows p x
    → Fits p x n e ss → IsTrueReport died is_bad e → AreDeaths died x → AreDeaths died (after p x n e ss)
death_step died is_bad p plan x n Draw ss rows fits t h = either (AreDeaths died) (nat_lt x.drawn (count_of p)) (record x { drawn = x.drawn + 1 }) x h h
death_step died is_bad p plan x n (Number c) ss rows fits t h =
    either (AreDeaths died) (nat_lt (slice_index x.given c.shard) p.attempts)
    (record x { given = set x.given c.shard (slice_index x.given c.shard + 1) }) x h h
death_step died is_bad p plan x n (Died c k) ss rows fits t h =
    let within = shard_within p x c plan fits.1.claim in
    one_death died x c k (let b = rows.deaths in omega (arith, within, b)) t h
death_step died is_bad p plan x n (Settle c k) ss rows fits t h =
    either (AreDeaths died) (slice_index x.winners c.shard == 0)
    (record x { winners = set x.winners c.shard (k + 1); unplaced = set x.unplaced c.shard (n + 1) }) x h h
death_step died is_bad p plan x n (LaneOut i) ss rows fits t h = either (AreDeaths died) (slice_index x.outs i == 0) (record x { outs = set x.outs i 1 }) x h h
death_step died is_bad p plan x n (LaneBack i) ss rows fits t h = h
death_step died is_bad p plan x n (Bad b) ss rows fits t h = h

deaths_along : (died : ℕ → ℕ → Type 0) (is_bad : ℕ → Type 0) (p : PlanData) → IsPlan p → (x : LedgerState) (es : List Entry) → HasRows p x → IsLegalFrom p x es
    → AreTrueReports died is_bad es → AreDeaths died x → AreDeaths died (state_after p x es)
deaths_along died is_bad p plan x [] rows h t now = now
deaths_along died is_bad p plan x (e ∷ es) rows h t now =
    deaths_along died is_bad p plan (after p x e.by e.event e.shards) es (rows_kept p x e.by e.event e.shards rows) h.2 t.1
    (death_step died is_bad p plan x e.by e.event e.shards rows h.0 t.0 now)

pub no_number : (n s : ℕ) → slice_index (replicate n 0) s ≡ 0
no_number zero s = refl
no_number (suc n) zero = refl
no_number (suc n) (suc s) = no_number n s

no_list : (n s : ℕ) → sum_by (times s) (replicate n []) ≡ 0
no_list zero s = refl
no_list (suc n) s = let a = sum_by-cons (times s) [] (replicate n []) in let b = no_list n s in omega (arith, a, b)

pub noted_deaths_are_true : (died : ℕ → ℕ → Type 0) (is_bad : ℕ → Type 0) → NotedDeathsAreTrue died is_bad
noted_deaths_are_true died is_bad p lanes log plan legal t =
    deaths_along died is_bad p plan (opening p lanes) log (rows_open p lanes) legal.from t
    (λ s k bit. absurd (let none : bit_at (slice_index (replicate p.shards 0) s) k ≡ 0 =
    ap (λ (d : ℕ). bit_at d k) (no_number p.shards s) ∙ bit_at-zero k in
    let one : bit_at (slice_index (replicate p.shards 0) s) k ≡ 1 = bit in omega (arith, none, one)))

-- the number of tickets drawn, and of numbers given, is in its bounds
abbrev InBounds : PlanData → LedgerState → Type 0
InBounds p x = (x.drawn ≤ count_of p) × ((s : ℕ) → slice_index x.given s ≤ p.attempts)

one_given : (p : PlanData) (x : LedgerState) (c : Claim) (b : Bool)
    → nat_lt (slice_index x.given c.shard) p.attempts ≡ b → c.shard < length x.given → InBounds p x
    → InBounds p (cond b (record x { given = set x.given c.shard (slice_index x.given c.shard + 1) }) x)
one_given p x c false is low h = h
one_given p x c true is low h = (h.0, λ s. here s (c.shard == s) refl) where
  here : (s : ℕ) (b : Bool) → (c.shard == s) ≡ b → slice_index (set x.given c.shard (slice_index x.given c.shard + 1)) s ≤ p.attempts
  here s true same = let a = set_here x.given c.shard s (slice_index x.given c.shard + 1) low same in
      let b = ltb-true (slice_index x.given c.shard) p.attempts is in omega (arith, a, b)
  here s false other = let a = set_there x.given c.shard s (slice_index x.given c.shard + 1) other in let b = h.1 s in omega (arith, a, b)

one_drawn : (p : PlanData) (x : LedgerState) (b : Bool) → nat_lt x.drawn (count_of p) ≡ b → InBounds p x
    → InBounds p (cond b (record x { drawn = x.drawn + 1 }) x)
one_drawn p x true is h = ((let a = ltb-true x.drawn (count_of p) is in omega arith), h.1)
one_drawn p x false is h = h

bounds_step : (p : PlanData) → IsPlan p → (x : LedgerState) (n : ℕ) (e : Event) (ss : List ℕ) → HasRows p x
    → Fits p x n e ss → InBounds p x → InBounds p (after p x n e ss)
bounds_step p plan x n Draw ss rows fits h = one_drawn p x (nat_lt x.drawn (count_of p)) refl h
bounds_step p plan x n (Number c) ss rows fits h =
    let within = shard_within p x c plan fits.1 in
    one_given p x c (nat_lt (slice_index x.given c.shard) p.attempts) refl (let b = rows.given in omega (arith, within, b)) h
bounds_step p plan x n (Died c k) ss rows fits h = h
bounds_step p plan x n (Settle c k) ss rows fits h = either (InBounds p) (slice_index x.winners c.shard == 0)
    (record x { winners = set x.winners c.shard (k + 1); unplaced = set x.unplaced c.shard (n + 1) }) x h h
bounds_step p plan x n (LaneOut i) ss rows fits h = either (InBounds p) (slice_index x.outs i == 0) (record x { outs = set x.outs i 1 }) x h h
bounds_step p plan x n (LaneBack i) ss rows fits h = h
bounds_step p plan x n (Bad b) ss rows fits h = h

pub each_shard_counts_once : EachShardCountsOnce
each_shard_counts_once p lanes log plan legal =
    let start = opening p lanes in
    let rows = rows_open p lanes in
    let bounds : InBounds p (left_by p lanes log) = kept_on p (InBounds p) (bounds_step p plan) start log rows legal.from
    (omega arith, λ s. (let z = no_number p.shards s in omega (arith, z))) in
    let anywhere : (s : ℕ) → StandsOnce s (left_by p lanes log) = λ s. kept_on p (StandsOnce s) (stands_step p s plan) start log rows legal.from
    (let b = no_list lanes s in omega (arith, b)) in
    record {
      tickets = from_opening 0 (left_by p lanes log).drawn _ refl
          (counted p (λ e. ticket_in e.reply) (λ x. x.drawn) (ticket_counts p) start log rows legal.from);
      drawn = bounds.0;
      numbers = λ s. from_opening (slice_index start.given s) (slice_index (left_by p lanes log).given s) _ (no_number p.shards s)
          (counted p (λ e. number_in s e.event e.reply) (λ x. slice_index x.given s) (number_counts p s plan) start log rows legal.from);
      given = bounds.1;
      won = λ s. ap (λ (n : ℕ). winner_in n ++ wins s log) (sym (no_number p.shards s)) ∙ won_along p s plan start log rows legal.from;
      anywhere = anywhere;
    }

legal_front : (p : PlanData) (x : LedgerState) (front back : List Entry) → IsLegalFrom p x (front ++ back)
    → IsLegalFrom p x front × IsLegalFrom p (state_after p x front) back × (state_after p x (front ++ back) ≡ state_after p (state_after p x front) back)
legal_front p x [] back h = (tt, h, refl)
legal_front p x (e ∷ front) back h = let r = legal_front p (after p x e.by e.event e.shards) front back h.2 in ((h.0, h.1, r.0), r.1, r.2)

rows_along : (p : PlanData) (x : LedgerState) (es : List Entry) → HasRows p x → HasRows p (state_after p x es)
rows_along p x [] rows = rows
rows_along p x (e ∷ es) rows = rows_along p (after p x e.by e.event e.shards) es (rows_kept p x e.by e.event e.shards rows)

pub the_winner_stays : TheWinnerStays
the_winner_stays p lanes front back s w plan legal is =
    let r = legal_front p (opening p lanes) front back legal.from in
    ap (λ (x : LedgerState). slice_index x.winners s) r.2 ∙ stays_won p s w plan (left_by p lanes front) back
    (rows_along p (opening p lanes) front (rows_open p lanes)) r.1 is
