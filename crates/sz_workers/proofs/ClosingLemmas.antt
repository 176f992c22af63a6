-- Each shard that was settled is in one lane or in one pocket, once all workers are done.
use Rattle.std.proofs.Common.{◌≡◌, ◌≢◌, ◌⊎◌, ℕ, zero, suc, ◌+◌, ◌-◌, ◌<◌, ◌≤◌, ◌==◌, Bool, true, false, cond, nat_lt, List, [], ◌∷◌, ◌++◌, set, length, map, refl, ap, sym, ◌∙◌, subst, inl, inr, ⊎_elim}
use Rattle.std.proofs.Common.{arith, eq-eqb, ne_eqb, eqb-true, Option, Some, None}
use Rattle.std.specs.Prelude.{slice_index, slice_index_or, Result, Ok, IfOk}
use Rattle.std.proofs.lemmas.List.{length-append}
use Rattle.std.specs.Int.{bit_at}
use Rattle.std.specs.List.{cons_option, sum_by}
use Rattle.std.proofs.lemmas.List.Sums.{sum_by-set, sum_by-cons}
use mathlib.Core.Option.{some}
use mathlib.Core.Logic.{dite}
use native.Mathlib.Decide.{ℕ_discrete}
use lib.ListN.{get_elem?}
use Rattle.sz_book_rules.specs.Plan.{PlanData, IsPlan, count_of}
use Rattle.sz_book.specs.Lanes.{LaneData}
use Rattle.sz_book_rules.specs.declared.claim.Claim.{Claim}
use Rattle.sz_book_rules.specs.declared.event.Event.{Event}
use Rattle.sz_book_rules.specs.declared.event.Event.TheVariants.{Draw, Number, Died, Settle, LaneOut, LaneBack, Bad}
use Rattle.sz_book_rules.specs.declared.event.Reply.{Reply}
use Rattle.sz_book_rules.specs.declared.event.Reply.TheVariants.{Ticket, Number as Numbered, Noted, Won, Late, Lane}
use Rattle.sz_book_rules.specs.declared.event.Entry.{Entry}
use Rattle.sz_book_rules.specs.Machine.{LedgerState, opening, after, list_of, Fits}
use Rattle.sz_book_rules.specs.History.{state_after, IsLegalFrom, IsLegal, calls_by, Settles, HasWon, HasGiven, IsAmong, AreDistinct}
use Rattle.sz_book_rules.specs.Counting.{times, once, wins, win_in, winner_in}
use Rattle.sz_book_rules.proofs.CountLemmas.{each_shard_counts_once, times-append, noted_deaths_are_true}
use Rattle.sz_book_rules.proofs.StepLemmas.{HasRows, rows_open, rows_kept, either, kept_on}
use Rattle.sz_claims.specs.declared.view.Account.{Account}
use Rattle.sz_claims.specs.Rule.{lane_data}
use Rattle.sz_claims.specs.Known.{LedgerData, PassData, AreInHand, HasJoined, IsEnd, IsClosed, IsSplit, IsJoined, ends_in}
use Rattle.sz_claims.proofs.ForCallers.{fewer_times, own_given}
use Rattle.sz_claims.proofs.UnplacedLemmas.{are_unplaced}
use Rattle.sz_workers.specs.Closing.{shards_in, IsPocket, IsFresh, AreFresh, IsBack, AreBack, AreAccounts, HasTakenIn, IsAlone, IsLeft}
use Rattle.sz_workers.proofs.WonLemmas.{among_front, among_back}

-- ---- lists of shards

one_more_time : (s t : ℕ) (ts : List ℕ) → t ≡ s → times s (t ∷ ts) ≡ times s ts + 1
one_more_time s t ts e = ap (λ (b : Bool). cond b (times s ts + 1) (times s ts)) (eq-eqb t s e)

same_times : (s t : ℕ) (ts : List ℕ) → t ≢ s → times s (t ∷ ts) ≡ times s ts
same_times s t ts ne = ap (λ (b : Bool). cond b (times s ts + 1) (times s ts)) (ne_eqb t s ne)

times_among : (s : ℕ) (ss : List ℕ) → IsAmong s ss → 1 ≤ times s ss
times_among s [] h = absurd h
times_among s (t ∷ ts) (inl e) = let one = one_more_time s t ts e in omega (arith, one)
times_among s (t ∷ ts) (inr h) = let r = times_among s ts h in let fewer = fewer_times s t ts in omega (arith, r, fewer)

among_times : (s : ℕ) (ss : List ℕ) → 1 ≤ times s ss → IsAmong s ss
among_times s [] h = absurd (omega (arith, h))
among_times s (t ∷ ts) h = dite (ℕ_discrete t s) (λ (e : t ≡ s). inl e)
    (λ (ne : t ≢ s). inr (among_times s ts (let same = same_times s t ts ne in omega (arith, h, same))))

none_times : (s : ℕ) (ss : List ℕ) → ¬ IsAmong s ss → times s ss ≡ 0
none_times s [] out = refl
none_times s (t ∷ ts) out = same_times s t ts (λ e. out (inl e)) ∙ none_times s ts (λ h. out (inr h))

distinct_times : (s : ℕ) (ss : List ℕ) → AreDistinct ss → times s ss ≤ 1
distinct_times s [] d = omega arith
distinct_times s (t ∷ ts) d = dite (ℕ_discrete t s)
    (λ (e : t ≡ s).
    let one = one_more_time s t ts e in let none = none_times s ts (subst (λ (k : ℕ). ¬ IsAmong k ts) e d.0) in
    omega (arith, one, none))
    (λ (ne : t ≢ s). let same = same_times s t ts ne in let r = distinct_times s ts d.1 in omega (arith, same, r))

times_distinct : (ss : List ℕ) → ((s : ℕ) → times s ss ≤ 1) → AreDistinct ss
times_distinct [] few = tt
times_distinct (t ∷ ts) few = (
  (λ in'. absurd (let one = one_more_time t t ts refl in let some = times_among t ts in' in let most = few t in
      omega (arith, one, some, most))),
  times_distinct ts (λ s. let fewer = fewer_times s t ts in let most = few s in omega (arith, fewer, most)),
)

times_lists : (s : ℕ) (p : PlanData) (lists : List (List ℕ))
    → times s (shards_in (map (lane_data p) lists)) ≡ sum_by (times s) lists
times_lists s p [] = refl
times_lists s p (l ∷ ls) =
    let both = times-append s l (shards_in (map (lane_data p) ls)) in
    let rest = times_lists s p ls in
    let sum = sum_by-cons (times s) l ls in omega (arith, both, rest, sum)

once_none : (n : ℕ) → once n ≡ 0 → n ≡ 0
once_none n z = dite (ℕ_discrete n 0) (λ (e : n ≡ 0). e)
    (λ (ne : n ≢ 0). let one : once n ≡ 1 = ap (λ (b : Bool). cond b 0 1) (ne_eqb n 0 ne) in
    absurd (omega (arith, one, z)))

once_low : (n : ℕ) → once n ≤ 1
once_low n = dite (ℕ_discrete n 0)
    (λ (e : n ≡ 0). let none : once n ≡ 0 = ap (λ (b : Bool). cond b 0 1) (eq-eqb n 0 e) in omega (arith, none))
    (λ (ne : n ≢ 0). let one : once n ≡ 1 = ap (λ (b : Bool). cond b 0 1) (ne_eqb n 0 ne) in omega (arith, one))

-- ---- a shard that came with a lane is in one

abbrev IsInLists : ℕ → LedgerState → Type 0
IsInLists s x = 1 ≤ sum_by (times s) x.lists

brought_lists : (s i : ℕ) (x : LedgerState) (ss : List ℕ) → i < length x.lists
    → sum_by (times s) (set x.lists i (list_of x i ++ ss)) ≡ sum_by (times s) x.lists + times s ss
brought_lists s i x ss low =
    let sum = sum_by-set (times s) x.lists i (list_of x i ++ ss) [] low in
    let list = times-append s (list_of x i) ss in
    omega (arith, sum, list)

stays_in_lists : (p : PlanData) (s : ℕ) (x : LedgerState) (n : ℕ) (e : Event) (ss : List ℕ) → HasRows p x
    → Fits p x n e ss → IsInLists s x → IsInLists s (after p x n e ss)
stays_in_lists p s x n Draw ss rows fits h =
    either (IsInLists s) (nat_lt x.drawn (count_of p)) (record x { drawn = x.drawn + 1 }) x h h
stays_in_lists p s x n (Number c) ss rows fits h =
    either (IsInLists s) (nat_lt (slice_index x.given c.shard) p.attempts)
    (record x { given = set x.given c.shard (slice_index x.given c.shard + 1) }) x h h
stays_in_lists p s x n (Died c k) ss rows fits h = h
stays_in_lists p s x n (Settle c k) ss rows fits h =
    either (IsInLists s) (slice_index x.winners c.shard == 0)
    (record x { winners = set x.winners c.shard (k + 1); unplaced = set x.unplaced c.shard (n + 1) }) x h h
stays_in_lists p s x n (LaneOut i) ss rows fits h =
    either (IsInLists s) (slice_index x.outs i == 0) (record x { outs = set x.outs i 1 }) x h h
stays_in_lists p s x n (LaneBack i) ss rows fits h =
    let low : i < length x.lists = (let a = fits.within in let b = rows.lists in omega (arith, a, b)) in
    let more = brought_lists s i x ss low in omega (arith, h, more)
stays_in_lists p s x n (Bad b) ss rows fits h = h

none_among : (s : ℕ) (ss : List ℕ) → ss ≡ [] → ¬ IsAmong s ss
none_among s ss none in' = subst (IsAmong s) none in'

now_in_lists : (p : PlanData) (s : ℕ) (x : LedgerState) (n : ℕ) (e : Event) (ss : List ℕ) → HasRows p x
    → Fits p x n e ss → IsAmong s ss → IsInLists s (after p x n e ss)
now_in_lists p s x n Draw ss rows fits in' = absurd (none_among s ss fits in')
now_in_lists p s x n (Number c) ss rows fits in' = absurd (none_among s ss fits.0 in')
now_in_lists p s x n (Died c k) ss rows fits in' = absurd (none_among s ss fits.0 in')
now_in_lists p s x n (Settle c k) ss rows fits in' = absurd (none_among s ss fits.0 in')
now_in_lists p s x n (LaneOut i) ss rows fits in' = absurd (none_among s ss fits.0 in')
now_in_lists p s x n (LaneBack i) ss rows fits in' =
    let low : i < length x.lists = (let a = fits.within in let b = rows.lists in omega (arith, a, b)) in
    let more = brought_lists s i x ss low in let some = times_among s ss in' in omega (arith, more, some)
now_in_lists p s x n (Bad b) ss rows fits in' = absurd (none_among s ss fits.0 in')

given_in_lists : (p : PlanData) (s : ℕ) (x : LedgerState) (es : List Entry) → HasRows p x
    → IsLegalFrom p x es → HasGiven s es → IsInLists s (state_after p x es)
given_in_lists p s x [] rows h given = absurd given
given_in_lists p s x (e ∷ es) rows h (inl in') =
    kept_on p (IsInLists s) (stays_in_lists p s) (after p x e.by e.event e.shards) es
    (rows_kept p x e.by e.event e.shards rows) h.2 (now_in_lists p s x e.by e.event e.shards rows h.0 in')
given_in_lists p s x (e ∷ es) rows h (inr given) =
    given_in_lists p s (after p x e.by e.event e.shards) es (rows_kept p x e.by e.event e.shards rows) h.2 given

-- ---- a shard that is settled was won by somebody

won_one_more : (m s : ℕ) (e : Entry) (es : List Entry) → HasWon s (calls_by m es) → HasWon s (calls_by m (e ∷ es))
won_one_more m s e es h = by (e.by == m)
  where
    by : (b : Bool) → HasWon s (cond b (e ∷ calls_by m es) (calls_by m es))
    by true = inr h
    by false = h

won_first : (s : ℕ) (e : Entry) (es : List Entry) → Settles s e.event × (e.reply ≡ Won)
    → HasWon s (calls_by e.by (e ∷ es))
won_first s e es h =
    subst (λ (b : Bool). HasWon s (cond b (e ∷ calls_by e.by es) (calls_by e.by es)))
    (sym (eq-eqb e.by e.by refl)) (inl h)

win_settles : (s k : ℕ) (c : Claim) (j : ℕ) → (b : Bool) → (c.shard == s) ≡ b
    → cond b (Some k) None ≡ Some j → c.shard ≡ s
win_settles s k c j true is e = eqb-true c.shard s is
win_settles s k c j false is e = absurd (cc e)

winning : (s j : ℕ) (e : Event) (r : Reply) → win_in s e r ≡ Some j → Settles s e × (r ≡ Won)
winning s j (Settle c k) Won h = (win_settles s k c j (c.shard == s) refl h, refl)
winning s j (Settle c k) (Ticket t) h = absurd (cc h)
winning s j (Settle c k) (Numbered t) h = absurd (cc h)
winning s j (Settle c k) Noted h = absurd (cc h)
winning s j (Settle c k) (Late w) h = absurd (cc h)
winning s j (Settle c k) (Lane b) h = absurd (cc h)
winning s j Draw r h = absurd (cc h)
winning s j (Number c) r h = absurd (cc h)
winning s j (Died c k) r h = absurd (cc h)
winning s j (LaneOut i) r h = absurd (cc h)
winning s j (LaneBack i) r h = absurd (cc h)
winning s j (Bad b) r h = absurd (cc h)

-- somebody won the shard in these calls
abbrev SomeoneWon : ℕ → List Entry → Type 0
SomeoneWon s es = (m : ℕ) × HasWon s (calls_by m es)

winner_of : (s w : ℕ) (ws : List ℕ) (es : List Entry) → wins s es ≡ w ∷ ws → SomeoneWon s es
winner_of s w ws [] h = absurd (cc h)
winner_of s w ws (e ∷ es) h = by (win_in s e.event e.reply) refl h (winner_of s w ws es)
  where
    by : (o : Option ℕ) → win_in s e.event e.reply ≡ o → cons_option o (wins s es) ≡ w ∷ ws
        → (wins s es ≡ w ∷ ws → SomeoneWon s es) → SomeoneWon s (e ∷ es)
    by None is rest below = let r = below rest in (r.0, won_one_more r.0 s e es r.1)
    by (Some j) is rest below = (e.by, won_first s e es (winning s j e.event e.reply is))

-- ---- pockets

same_some : {A : Type 0} (a b : A) → some a ≡ some b → a ≡ b
same_some a b e = cc e

not_numbered : (a : Account) (js : List Account) (m : ℕ) → a.number ≢ m
    → ((k : ℕ) (b : Account) → get_elem? js k ≡ some b → ¬ (b.number ≡ m))
    → (k : ℕ) (b : Account) → get_elem? (a ∷ js) k ≡ some b → ¬ (b.number ≡ m)
not_numbered a js m ne none zero b e is = ne (ap (λ (c : Account). c.number) (same_some a b e) ∙ is)
not_numbered a js m ne none (suc k) b e is = none k b e is

positive : (n : ℕ) → n ≢ 0 → 0 < n
positive zero ne = absurd (ne refl)
positive (suc n) ne = omega arith

first_winner : (w : ℕ) → 0 < w → winner_in w ≡ (w - 1) ∷ []
first_winner zero more = absurd (omega (arith, more))
first_winner (suc w) more = let same : w ≡ suc w - 1 = omega arith in ap (λ (m : ℕ). m ∷ []) same

module _ (p : PlanData) (lanes : ℕ) (log : List Entry) (plan : IsPlan p) (legal : IsLegal p lanes log) where
  abbrev end_state : LedgerState
  end_state = state_after p (opening p lanes) log

  -- a shard in a pocket is marked with its worker
  pocket_marked : (n s : ℕ) (mine : List Entry) (pocket : LaneData) → calls_by n log ≡ mine
      → AreInHand pocket.shards mine → IsAmong s pocket.shards → slice_index end_state.unplaced s ≡ n + 1
  pocket_marked n s mine pocket own hand in' =
      (are_unplaced p lanes n log mine (s ∷ []) plan legal own ((λ no. no), tt)
      (λ t one. ⊎_elim (λ (is : s ≡ t). subst (λ (k : ℕ). HasWon k mine) is (hand.won s in'))
      (λ (no : ⊥). absurd no) one) (λ t one. ⊎_elim
      (λ (is : s ≡ t). subst (λ (k : ℕ). ¬ HasGiven k mine) is (hand.fresh s in')) (λ (no : ⊥). absurd no) one)).0

  -- no shard is in two pockets
  pockets_once : (s n : ℕ) (js : List Account) (ls : List LaneData) → AreAccounts n js ls → HasJoined js log
      → (times s (shards_in ls) ≤ 1) × (slice_index end_state.unplaced s ≤ n → times s (shards_in ls) ≡ 0)
  pockets_once s n [] [] h j = (omega arith, (λ low. refl))
  pockets_once s n (a ∷ js) (l ∷ ls) h j =
      let mark : ℕ = slice_index end_state.unplaced s in
      let rest = pockets_once s (suc n) js ls h.2 (λ k b e. j (suc k) b e) in
      let own : calls_by n log ≡ a.calls = subst (λ (m : ℕ). calls_by m log ≡ a.calls) h.0 (j 0 a refl) in
      let both = times-append s l.shards (shards_in ls) in
      dite (ℕ_discrete mark (n + 1))
      (λ (is : mark ≡ n + 1).
      let none = rest.1 (omega (arith, is)) in
      let one = distinct_times s l.shards h.1.hand.distinct in
      (omega (arith, both, none, one), (λ low. absurd (omega (arith, low, is)))))
      (λ (ne : mark ≢ n + 1).
      let here = none_times s l.shards (λ in'. ne (pocket_marked n s a.calls l own h.1.hand in')) in
      let few = rest.0 in (
        omega (arith, both, here, few),
        (λ low. let none = rest.1 (omega (arith, low)) in omega (arith, both, here, none)),
      ))
  pockets_once s n [] (l ∷ ls) h j = absurd h
  pockets_once s n (a ∷ js) [] h j = absurd h

  -- a shard that caller m won is in a pocket or came with a lane, if its account is among these
  won_in_pocket : (s m n : ℕ) (js : List Account) (ls : List LaneData) → AreAccounts n js ls → HasJoined js log
      → HasWon s (calls_by m log) → (IsAmong s (shards_in ls) ⊎ HasGiven s log)
      ⊎ ((k : ℕ) (a : Account) → get_elem? js k ≡ some a → ¬ (a.number ≡ m))
  won_in_pocket s m n [] [] h j won = inr (λ k a e. absurd (cc e))
  won_in_pocket s m n (a ∷ js) (l ∷ ls) h j won =
      dite (ℕ_discrete a.number m)
      (λ (is : a.number ≡ m).
      let own : calls_by m log ≡ a.calls = subst (λ (i : ℕ). calls_by i log ≡ a.calls) is (j 0 a refl) in
      inl (⊎_elim (λ (in' : IsAmong s l.shards). inl (among_front s l.shards (shards_in ls) in'))
      (λ (g : HasGiven s a.calls). inr (own_given m s log (subst (HasGiven s) (sym own) g)))
      (h.1.all s (subst (HasWon s) own won)))) (λ (ne : a.number ≢ m).
      ⊎_elim
      (λ (found : IsAmong s (shards_in ls) ⊎ HasGiven s log).
      inl (⊎_elim (λ (in' : IsAmong s (shards_in ls)). inl (among_back s l.shards (shards_in ls) in'))
      (λ (g : HasGiven s log). inr g) found))
      (λ (none : (k : ℕ) (b : Account) → get_elem? js k ≡ some b → ¬ (b.number ≡ m)). inr (not_numbered a js m ne none))
      (won_in_pocket s m (suc n) js ls h.2 (λ k b e. j (suc k) b e) won))
  won_in_pocket s m n [] (l ∷ ls) h j won = absurd h
  won_in_pocket s m n (a ∷ js) [] h j won = absurd h

  module _ (js : List Account) (pockets : List LaneData) (accounts : AreAccounts 1 js pockets)
      (joined : HasJoined js log) where
    abbrev all_shards : List ℕ
    all_shards = shards_in (map (lane_data p) end_state.lists) ++ shards_in pockets

    -- how often a shard stands in lanes and pockets
    times_all : (s : ℕ) → times s all_shards ≡ sum_by (times s) end_state.lists + times s (shards_in pockets)
    times_all s =
        let both = times-append s (shards_in (map (lane_data p) end_state.lists)) (shards_in pockets) in
        let lists = times_lists s p end_state.lists in omega (arith, both, lists)

    -- a shard that isn't marked is in no pocket
    in_no_pocket : (s : ℕ) → once (slice_index end_state.unplaced s) ≡ 0 → times s (shards_in pockets) ≡ 0
    in_no_pocket s none = (pockets_once s 1 js pockets accounts joined).1
        (let z = once_none (slice_index end_state.unplaced s) none in omega (arith, z))

    left_once : (s : ℕ) → times s all_shards ≤ once (slice_index end_state.winners s)
    left_once s =
        let anywhere = (each_shard_counts_once p lanes log plan legal).anywhere s in
        let all = times_all s in
        let few = (pockets_once s 1 js pockets accounts joined).0 in
        dite (ℕ_discrete (once (slice_index end_state.unplaced s)) 0)
        (λ (none : once (slice_index end_state.unplaced s) ≡ 0). let out = in_no_pocket s none in
        omega (arith, anywhere, all, none, out)) (λ (ne : once (slice_index end_state.unplaced s) ≢ 0).
        let some : 0 < once (slice_index end_state.unplaced s) =
        positive (once (slice_index end_state.unplaced s)) ne in omega (arith, anywhere, all, few, some))

    left_distinct : AreDistinct all_shards
    left_distinct = times_distinct all_shards
        (λ s. let few = left_once s in let low = once_low (slice_index end_state.winners s) in omega (arith, few, low))

    left_only : (s : ℕ) → IsAmong s all_shards → 0 < slice_index end_state.winners s
    left_only s in' = dite (ℕ_discrete (slice_index end_state.winners s) 0)
        (λ (z : slice_index end_state.winners s ≡ 0).
        let none : once (slice_index end_state.winners s) ≡ 0 = ap once z in
        let some = times_among s all_shards in' in let few = left_once s in absurd (omega (arith, none, some, few)))
        (λ (ne : slice_index end_state.winners s ≢ 0). positive (slice_index end_state.winners s) ne)

    given_left : (s : ℕ) → HasGiven s log → IsAmong s all_shards
    given_left s given =
        let lists : IsInLists s end_state =
        given_in_lists p s (opening p lanes) log (rows_open p lanes) legal.from given in
        let all = times_all s in
        among_times s all_shards (omega (arith, lists, all))

    -- each shard that is settled is there, if no others called
    left_settled : calls_by 0 log ≡ [] → ((n : ℕ) → ¬ (n ≡ 0)
        → ((k : ℕ) (a : Account) → get_elem? js k ≡ some a → ¬ (a.number ≡ n)) → calls_by n log ≡ [])
        → (s : ℕ) → 0 < slice_index end_state.winners s → IsAmong s all_shards
    left_settled silent others s more =
        let w : ℕ = slice_index end_state.winners s in
        let won = (each_shard_counts_once p lanes log plan legal).won s in
        let by = winner_of s (w - 1) [] log (won ∙ first_winner w more) in
        dite (ℕ_discrete by.0 0)
        (λ (z : by.0 ≡ 0). absurd (subst (HasWon s) (ap (λ (m : ℕ). calls_by m log) z ∙ silent) by.1))
        (λ (ne : by.0 ≢ 0).
        ⊎_elim
        (λ (found : IsAmong s (shards_in pockets) ⊎ HasGiven s log).
        ⊎_elim (λ (in' : IsAmong s (shards_in pockets)).
        among_back s (shards_in (map (lane_data p) end_state.lists)) (shards_in pockets) in')
        (λ (g : HasGiven s log). given_left s g) found)
        (λ (none : (k : ℕ) (a : Account) → get_elem? js k ≡ some a → ¬ (a.number ≡ by.0)).
        absurd (subst (HasWon s) (others by.0 ne none) by.1))
        (won_in_pocket s by.0 1 js pockets accounts joined by.1))

-- ---- workers begin, come back and are joined

pub alone_more : (ledger : LedgerData) (n : ℕ) (v w other : PassData) → IsAlone ledger n v → IsSplit v w other
    → IsAlone ledger (n + 1) w × IsFresh ledger (n + 1) other
alone_more ledger n v w other a h = (
  record {
    none = record {
      plan = a.none.plan;
      of = ap (λ (u : PassData). u.ledger) h.1 ∙ a.none.of;
      first = ap (λ (u : PassData). u.number) h.1 ∙ a.none.first;
      silent = ap (λ (u : PassData). u.mine) h.1 ∙ a.none.silent;
      home = ap (λ (u : PassData). u.lane) h.1 ∙ a.none.home;
      accounts = subst (λ (js : List Account). AreAccounts 1 js [])
          (sym (ap (λ (u : PassData). u.joined) h.1)) a.none.accounts;
    };
    joined = ap (λ (u : PassData). u.joined) h.1 ∙ a.joined;
    unseen = ap (λ (u : PassData). u.seen) h.1 ∙ a.unseen;
    made = ap (λ (u : PassData). u.made) h.1 ∙ ap (λ (m : ℕ). m + 1) a.made;
  },
  record {
    of = ap (λ (u : PassData). u.ledger) h.2 ∙ a.none.of;
    number = ap (λ (u : PassData). u.number) h.2 ∙ a.made;
    unseen = ap (λ (u : PassData). u.seen) h.2 ∙ a.unseen;
    silent = ap (λ (u : PassData). u.mine) h.2;
    home = ap (λ (u : PassData). u.lane) h.2;
    none_lent = ap (λ (u : PassData). u.lent) h.2;
  },
)

pub fresh_more : (ledger : LedgerData) (n : ℕ) (vs : List PassData) (v : PassData) → AreFresh ledger n vs
    → IsFresh ledger (length vs + n) v → AreFresh ledger n (vs ++ v ∷ [])
fresh_more ledger n [] v h f = let same : 0 + n ≡ n = omega arith in (subst (λ (m : ℕ). IsFresh ledger m v) same f, tt)
fresh_more ledger n (u ∷ vs) v h f =
    let next : length (u ∷ vs) + n ≡ length vs + suc n = omega arith in
    (h.0, fresh_more ledger (suc n) vs v h.1 (subst (λ (m : ℕ). IsFresh ledger m v) next f))

-- each worker that began is back
pub all_back : {E : Type 0} (ledger : LedgerData) (n : ℕ) (vs : List PassData)
    (rs : List (Result (PassData × LaneData) E)) → length rs ≡ length vs
    → AreFresh ledger n vs
    → ((i : ℕ) (d : Result (PassData × LaneData) E) → i < length vs
    → (v : PassData) × ((u : PassData) → slice_index_or vs i u ≡ v)
    × IfOk (slice_index_or rs i d) (λ back. IsBack v.ledger v.number back.0 back.1))
    → AreBack ledger n rs
all_back ledger n [] [] long fresh each = tt
all_back ledger n (v ∷ vs) (r ∷ rs) long fresh each =
    let one = each 0 r (omega arith) in
    let here : IfOk r (λ back. IsBack v.ledger v.number back.0 back.1) =
    subst (λ (u : PassData). IfOk r (λ (back : PassData × LaneData). IsBack u.ledger u.number back.0 back.1))
    (sym (one.1 v)) one.2 in (
      subst (λ (m : ℕ). IfOk r (λ (back : PassData × LaneData). IsBack ledger m back.0 back.1)) fresh.0.number
          (subst (λ (l : LedgerData). IfOk r (λ (back : PassData × LaneData). IsBack l v.number back.0 back.1))
          fresh.0.of here),
      all_back ledger (suc n) vs rs (omega (arith, long)) fresh.1 (λ i d low. each (suc i) d (omega (arith, low))),
    )
all_back ledger n [] (r ∷ rs) long fresh each = absurd (omega (arith, long))
all_back ledger n (v ∷ vs) [] long fresh each = absurd (omega (arith, long))

accounts_more : (n : ℕ) (js : List Account) (ls : List LaneData) (a : Account) (l : LaneData) → AreAccounts n js ls
    → a.number ≡ length js + n → IsPocket a.calls l → AreAccounts n (js ++ a ∷ []) (ls ++ l ∷ [])
accounts_more n [] [] a l h number keeps = (omega (arith, number), keeps, tt)
accounts_more n (b ∷ js) (k ∷ ls) a l h number keeps =
    (h.0, h.1, accounts_more (suc n) js ls a l h.2 (omega (arith, number)) keeps)
accounts_more n [] (k ∷ ls) a l h number keeps = absurd h
accounts_more n (b ∷ js) [] a l h number keeps = absurd h

-- one worker more is joined
pub taken_in : (ledger : LedgerData) (v other w : PassData) (pockets : List LaneData) (pocket : LaneData)
    → HasTakenIn ledger v pockets → IsBack ledger (length v.joined + 1) other pocket → IsJoined v other w
    → HasTakenIn ledger w (pockets ++ pocket ∷ [])
taken_in ledger v other w pockets pocket t back h =
    let a : Account = record { number = other.number; calls = other.mine } in record {
      plan = t.plan;
      of = ap (λ (u : PassData). u.ledger) h.1 ∙ t.of;
      first = ap (λ (u : PassData). u.number) h.1 ∙ t.first;
      silent = ap (λ (u : PassData). u.mine) h.1 ∙ t.silent;
      home = ap (λ (u : PassData). u.lane) h.1 ∙ t.home;
      accounts = subst (λ (js : List Account). AreAccounts 1 js (pockets ++ pocket ∷ []))
          (sym (ap (λ (u : PassData). u.joined) h.1))
          (accounts_more 1 v.joined pockets a pocket t.accounts back.number back.keeps);
    }

pub joined_more : (v other w : PassData) → IsJoined v other w
    → (length w.joined ≡ length v.joined + 1) × (w.made ≡ v.made)
joined_more v other w h = (
  ap (λ (u : PassData). length u.joined) h.1
      ∙ length-append v.joined ((record { number = other.number; calls = other.mine }) ∷ []),
  ap (λ (u : PassData). u.made) h.1,
)

-- the next of the workers that are to be joined
pub next_back : {E : Type 0} (ledger : LedgerData) (n : ℕ) (r : Result (PassData × LaneData) E)
    (rest all : List (Result (PassData × LaneData) E)) → all ≡ r ∷ rest → AreBack ledger n all
    → IfOk r (λ back. IsBack ledger n back.0 back.1) × AreBack ledger (suc n) rest
next_back ledger n r rest all is back = subst (AreBack ledger n) is back

pub next_taken : {E : Type 0} (ledger : LedgerData) (v other w : PassData) (pockets more : List LaneData)
    (pocket : LaneData) (r : Result (PassData × LaneData) E) → r ≡ Ok (other, pocket)
    → IfOk r (λ back. IsBack ledger (length v.joined + 1) back.0 back.1)
    → HasTakenIn ledger v pockets → IsJoined v other w → more ≡ pockets ++ pocket ∷ [] → HasTakenIn ledger w more
next_taken ledger v other w pockets more pocket r is back t h longer =
    let here : IsBack ledger (length v.joined + 1) other pocket =
    subst (λ x. IfOk x (λ (back : PassData × LaneData). IsBack ledger (length v.joined + 1) back.0 back.1)) is back in
    subst (HasTakenIn ledger w) (sym longer) (taken_in ledger v other w pockets pocket t here h)

-- the ledger is closed
pub all_left : (died : ℕ → ℕ → Type 0) (is_bad : ℕ → Type 0) (ledger : LedgerData) (v : PassData)
    (pockets lanes : List LaneData) (won deaths : List ℕ)
    (least : Option ℕ) (log : List Entry) → HasTakenIn ledger v pockets → IsEnd died is_bad v log
    → IsClosed v.ledger.plan (ends_in v log) lanes won deaths least → IsLeft died ledger.plan lanes pockets won deaths
all_left died is_bad ledger v pockets lanes won deaths least log t e c =
    let p : PlanData = v.ledger.plan in
    let n : ℕ = v.ledger.lanes in
    let plan : IsPlan p = subst (λ (l : LedgerData). IsPlan l.plan) (sym t.of) t.plan in
    let silent : calls_by 0 log ≡ [] = ap (λ (m : ℕ). calls_by m log) (sym t.first) ∙ e.mine ∙ t.silent in
    let rows : HasRows p (ends_in v log) =
    kept_on p (HasRows p) (λ x m ev ss rows fits h. rows_kept p x m ev ss rows) (opening p n) log
    (rows_open p n) e.legal.from (rows_open p n) in
    subst (λ (l : LedgerData). IsLeft died l.plan lanes pockets won deaths) t.of
    (record {
      distinct = subst (λ (ls : List LaneData). AreDistinct (shards_in ls ++ shards_in pockets)) (sym c.lanes)
          (left_distinct p n log plan e.legal v.joined pockets t.accounts e.joined);
      settled = λ s more. subst (λ (ls : List LaneData). IsAmong s (shards_in ls ++ shards_in pockets)) (sym c.lanes)
          (left_settled p n log plan e.legal v.joined pockets t.accounts e.joined silent e.others s
          (subst (λ (ws : List ℕ). 0 < slice_index ws s) c.settled more));
      only = λ s in'. subst (λ (ws : List ℕ). 0 < slice_index ws s) (sym c.settled)
          (left_only p n log plan e.legal v.joined pockets t.accounts e.joined s
          (subst (λ (ls : List LaneData). IsAmong s (shards_in ls ++ shards_in pockets)) c.lanes in'));
      true_deaths = λ s k bit. noted_deaths_are_true died is_bad p n log plan e.legal e.reports s k
          (subst (λ (ds : List ℕ). bit_at (slice_index ds s) k ≡ 1) c.deaths bit);
      rows = (ap length c.settled ∙ rows.winners, ap length c.deaths ∙ rows.deaths);
    })
