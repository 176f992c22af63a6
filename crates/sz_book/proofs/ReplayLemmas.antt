-- A history of changes leads to the state, one change more and at the opening.
use Rattle.std.proofs.Common.{◌≡◌, ℕ, zero, suc, ◌+◌, ◌^◌, ◌<◌, ◌≤◌, ◌==◌, Bool, true, false, cond, nat_lt, min, List, [], ◌∷◌, ◌++◌, set, take, drop, length, replicate, refl, ap, sym, ◌∙◌, subst, arith, append_assoc, ltb-true, ltb-false, eq-eqb}
use Rattle.std.specs.Prelude.{slice_index}
use Rattle.std.specs.List.{sum_by}
use Rattle.std.proofs.lemmas.List.{set-get_or, set-set, length-set, length-append, length-drop, length-replicate, get_or-set_same, take-append-le, drop-append-le, take_all}
use Rattle.std.proofs.lemmas.List.Sums.{sum_by-cons, sum_by_push, sum_by-set}
use Rattle.sz_book_rules.specs.Plan.{PlanData, count_of}
use Rattle.sz_book.specs.declared.change.Change.{Change}
use Rattle.sz_book_rules.specs.declared.claim.Claim.{Claim}
use Rattle.sz_book_rules.specs.declared.event.Event.{Event}
use Rattle.sz_book_rules.specs.declared.event.Event.TheVariants.{Draw, Number, Died, Settle, LaneOut, LaneBack, Bad}
use Rattle.sz_book_rules.specs.declared.event.Reply.{Reply}
use Rattle.sz_book_rules.specs.declared.event.Reply.TheVariants.{Lane}
use Rattle.sz_book_rules.specs.declared.event.Entry.{Entry}
use Rattle.sz_book_rules.specs.Machine.{LedgerState, opening, after, reply_of, Fits, IsDrawn, IsTried, IsReturned, list_of}
use Rattle.sz_book_rules.specs.History.{entry, state_after, IsLegal, IsTrueReport}
use Rattle.sz_book.specs.Cores.{CoreData, ReservedData, IsSound, TakesWith}
use Rattle.sz_book.specs.Held.{HeldData, all_home, is_change, history_after, Applies, lending, with_lendings, Replays, history_of, shards_in, changes_in, held_data, KeepsHistory}
use Rattle.sz_book_rules.proofs.HistoryLemmas.{state_after-snoc, legal-snoc}
use Rattle.sz_book_rules.proofs.StepLemmas.{HasRows, either}
use Rattle.sz_book_rules.proofs.CountLemmas.{death_step}
use Rattle.sz_book.proofs.RoomLemmas.{once-le}
use Rattle.sz_book.proofs.ChangeLemmas.{sound_after, unchanged, counts, no_more}

-- what a legal history leads to, and the same with one more step
record LeadsTo (p : PlanData) (lanes : ℕ) (log : List Entry) (x : LedgerState) : Type 0 where
  pub legal : IsLegal p lanes log
  pub state : state_after p (opening p lanes) log ≡ x

one_more : (p : PlanData) (lanes : ℕ) (log : List Entry) (x y : LedgerState) (e : Entry) → LeadsTo p lanes log x
    → Fits p x e.by e.event e.shards
    → e.reply ≡ reply_of p x e.event → after p x e.by e.event e.shards ≡ y → LeadsTo p lanes (log ++ e ∷ []) y
one_more p lanes log x y e h fits answer next = record {
  legal = legal-snoc p lanes log e h.legal (subst (λ (z : LedgerState). Fits p z e.by e.event e.shards)
      (sym h.state) fits) (answer ∙ ap (λ (z : LedgerState). reply_of p z e.event) (sym h.state));
  state = state_after-snoc p (opening p lanes) log e
      ∙ ap (λ (z : LedgerState). after p z e.by e.event e.shards) h.state ∙ next;
}

with_lendings-snoc : (log : List Entry) (e : Entry)
    → with_lendings (log ++ e ∷ []) ≡ with_lendings log ++ (lending e.event ++ e ∷ [])
with_lendings-snoc [] e = refl
with_lendings-snoc (d ∷ log) e =
    ap (λ (l : List Entry). lending d.event ++ d ∷ l) (with_lendings-snoc log e)
    ∙ sym (append_assoc (lending d.event) (d ∷ with_lendings log) (lending e.event ++ e ∷ []))

home_cond : (b : Bool) (x y : LedgerState) → cond b (all_home x) (all_home y) ≡ all_home (cond b x y)
home_cond true x y = refl
home_cond false x y = refl

drawn_home : (p : PlanData) (x : LedgerState) (c : Claim) → IsDrawn p x c → IsDrawn p (all_home x) c
drawn_home p x c d = record { drawn = d.drawn; ticket = d.ticket; shard = d.shard }

tried_home : (p : PlanData) (x : LedgerState) (c : Claim) (k : ℕ) → IsTried p x c k → IsTried p (all_home x) c k
tried_home p x c k t = record { claim = drawn_home p x c t.claim; below = t.below; given = t.given }

pub zero_at : (n i : ℕ) → slice_index (replicate n 0) i ≡ 0
zero_at zero i = refl
zero_at (suc n) zero = refl
zero_at (suc n) (suc i) = zero_at n i

-- a lane goes out and comes back
lent_and_back : (p : PlanData) (lanes : ℕ) (log : List Entry) (x : LedgerState) (i : ℕ) (ss : List ℕ) (reply : Reply)
    → LeadsTo p lanes log (all_home x) → IsReturned x 0 i ss → reply ≡ reply_of p x (LaneBack i)
    → LeadsTo p lanes (log ++ (lending (LaneBack i) ++ entry 0 (LaneBack i) ss reply ∷ []))
    (all_home (after p x 0 (LaneBack i) ss))
lent_and_back p lanes log x i ss reply h back answer =
    let n = length x.outs in
    let outs = replicate n 0 in
    let home = all_home x in
    let out = record home { outs = set outs i 1 } in
    let low : i < length outs = subst (λ (m : ℕ). i < m) (sym (length-replicate n 0)) back.within in
    let is_home : (slice_index outs i == 0) ≡ true = eq-eqb (slice_index outs i) 0 (zero_at n i) in
    let lends = entry 0 (LaneOut i) [] (Lane true) in
    let first = one_more p lanes log home out lends h (refl, low) (ap Lane (sym is_home))
    (ap (λ (b : Bool). cond b out home) is_home) in
    let same : set (set outs i 1) i 0 ≡ replicate (length (set x.outs i 0)) 0 =
    set-set outs i 1 0 ∙ ap (set outs i) (sym (zero_at n i)) ∙ set-get_or outs i 0
    ∙ ap (λ (m : ℕ). replicate m 0) (sym (length-set x.outs i 0)) in
    let second = one_more p lanes (log ++ lends ∷ []) out (all_home (after p x 0 (LaneBack i) ss))
    (entry 0 (LaneBack i) ss reply) first
    (record {
      within = subst (λ (m : ℕ). i < m) (sym (length-set outs i 1)) low;
      out = get_or-set_same outs i 1 0 low;
      brought = back.brought;
    })
    answer (ap (λ (l : List ℕ). record (after p x 0 (LaneBack i) ss) { outs = l }) same) in
    subst (λ (l : List Entry). LeadsTo p lanes l (all_home (after p x 0 (LaneBack i) ss)))
    (append_assoc log (lends ∷ []) (entry 0 (LaneBack i) ss reply ∷ [])) second

-- a change goes on what the history leads to
goes_on : (p : PlanData) (lanes : ℕ) (log : List Entry) (x : LedgerState) (event : Event) (ss : List ℕ)
    (reply : Reply) → LeadsTo p lanes log (all_home x)
    → Fits p x 0 event ss → reply ≡ reply_of p x event → is_change p x event ss ≡ true
    → LeadsTo p lanes (log ++ (lending event ++ entry 0 event ss reply ∷ [])) (all_home (after p x 0 event ss))
goes_on p lanes log x Draw ss reply h fits answer is =
    one_more p lanes log (all_home x) (all_home (after p x 0 Draw ss)) (entry 0 Draw ss reply) h fits answer
    (home_cond (nat_lt x.drawn (count_of p)) (record x { drawn = x.drawn + 1 }) x)
goes_on p lanes log x (Number c) ss reply h fits answer is =
    one_more p lanes log (all_home x) (all_home (after p x 0 (Number c) ss)) (entry 0 (Number c) ss reply) h
    (fits.0, drawn_home p x c fits.1) answer (home_cond (nat_lt (slice_index x.given c.shard) p.attempts)
    (record x { given = set x.given c.shard (slice_index x.given c.shard + 1) }) x)
goes_on p lanes log x (Died c k) ss reply h fits answer is =
    one_more p lanes log (all_home x) (all_home (after p x 0 (Died c k) ss)) (entry 0 (Died c k) ss reply) h
    (fits.0, tried_home p x c k fits.1) answer refl
goes_on p lanes log x (Settle c k) ss reply h fits answer is =
    one_more p lanes log (all_home x) (all_home (after p x 0 (Settle c k) ss)) (entry 0 (Settle c k) ss reply) h
    (fits.0, tried_home p x c k fits.1) answer (home_cond (slice_index x.winners c.shard == 0)
    (record x { winners = set x.winners c.shard (k + 1); unplaced = set x.unplaced c.shard (0 + 1) }) x)
goes_on p lanes log x (LaneOut i) ss reply h fits answer is = absurd (cc is)
goes_on p lanes log x (LaneBack i) ss reply h fits answer is = lent_and_back p lanes log x i ss reply h fits answer
goes_on p lanes log x (Bad s) ss reply h fits answer is = one_more p lanes log (all_home x)
    (all_home (after p x 0 (Bad s) ss)) (entry 0 (Bad s) ss reply) h fits answer refl

least_faults : (is_bad : ℕ → Type 0) (m s : ℕ) → (m < 2 ^ 32 → is_bad m) → is_bad s → (b : Bool) → nat_lt s m ≡ b
    → min m s < 2 ^ 32 → is_bad (min m s)
least_faults is_bad m s h now true is low = let less = ltb-true s m is in let same : min m s ≡ s = omega arith in
    subst is_bad (sym same) now
least_faults is_bad m s h now false is low = let more = ltb-false s m is in let same : min m s ≡ m = omega arith in
    subst is_bad (sym same) (h (omega arith))

bad_step : (died : ℕ → ℕ → Type 0) (is_bad : ℕ → Type 0) (p : PlanData) (x : LedgerState) (event : Event)
    (ss : List ℕ) → IsTrueReport died is_bad event → (x.least_bad < 2 ^ 32 → is_bad x.least_bad)
    → (after p x 0 event ss).least_bad < 2 ^ 32 → is_bad (after p x 0 event ss).least_bad
bad_step died is_bad p x Draw ss t h = either (λ y. y.least_bad < 2 ^ 32 → is_bad y.least_bad)
    (nat_lt x.drawn (count_of p)) (record x { drawn = x.drawn + 1 }) x h h
bad_step died is_bad p x (Number c) ss t h =
    either (λ y. y.least_bad < 2 ^ 32 → is_bad y.least_bad) (nat_lt (slice_index x.given c.shard) p.attempts)
    (record x { given = set x.given c.shard (slice_index x.given c.shard + 1) }) x h h
bad_step died is_bad p x (Died c k) ss t h = h
bad_step died is_bad p x (Settle c k) ss t h =
    either (λ y. y.least_bad < 2 ^ 32 → is_bad y.least_bad) (slice_index x.winners c.shard == 0)
    (record x { winners = set x.winners c.shard (k + 1); unplaced = set x.unplaced c.shard (0 + 1) }) x h h
bad_step died is_bad p x (LaneOut i) ss t h = either (λ y. y.least_bad < 2 ^ 32 → is_bad y.least_bad)
    (slice_index x.outs i == 0) (record x { outs = set x.outs i 1 }) x h h
bad_step died is_bad p x (LaneBack i) ss t h = h
bad_step died is_bad p x (Bad s) ss t h = least_faults is_bad x.least_bad s h t (nat_lt s x.least_bad) refl

has_rows : (p : PlanData) (x : LedgerState) → IsSound p x → HasRows p x
has_rows p x h = record {
  given = h.rows.0;
  deaths = h.rows.1;
  winners = h.rows.2;
  unplaced = h.rows.3;
  lists = h.lanes;
}

leads : (died : ℕ → ℕ → Type 0) (is_bad : ℕ → Type 0) (h : HeldData) → Replays died is_bad h
    → LeadsTo h.plan h.lanes (with_lendings h.history) (all_home h.state)
leads died is_bad h r = record { legal = r.legal; state = r.state }

by_change : (p : PlanData) (lanes : ℕ) (log : List Entry) (x : LedgerState) (event : Event) (ss : List ℕ)
    (reply : Reply) → LeadsTo p lanes (with_lendings log) (all_home x)
    → Fits p x 0 event ss → reply ≡ reply_of p x event → (b : Bool) → is_change p x event ss ≡ b
    → LeadsTo p lanes (with_lendings (cond b (log ++ entry 0 event ss reply ∷ []) log))
    (all_home (after p x 0 event ss))
by_change p lanes log x event ss reply h fits answer true is =
    subst (λ (l : List Entry). LeadsTo p lanes l (all_home (after p x 0 event ss)))
    (sym (with_lendings-snoc log (entry 0 event ss reply)))
    (goes_on p lanes (with_lendings log) x event ss reply h fits answer is)
by_change p lanes log x event ss reply h fits answer false is = record {
  legal = h.legal;
  state = h.state ∙ sym (unchanged p x event ss is);
}

-- a ledger with its history replays after each step
pub replays_on : (died : ℕ → ℕ → Type 0) (is_bad : ℕ → Type 0) (h : HeldData) (event : Event) (ss : List ℕ)
    (reply : Reply) → Replays died is_bad h → IsSound h.plan h.state
    → Fits h.plan h.state 0 event ss → IsTrueReport died is_bad event → reply ≡ reply_of h.plan h.state event
    → Replays died is_bad (record {
      plan = h.plan;
      lanes = h.lanes;
      state = after h.plan h.state 0 event ss;
      history = history_after h event ss reply;
    })
replays_on died is_bad h event ss reply r sound fits report answer =
    let now = by_change h.plan h.lanes h.history h.state event ss reply (leads died is_bad h r) fits answer
    (is_change h.plan h.state event ss) refl in
    record {
      plan = r.plan;
      legal = now.legal;
      state = now.state;
      deaths = death_step died is_bad h.plan r.plan h.state 0 event ss
          (has_rows h.plan h.state sound) fits report r.deaths;
      bad = bad_step died is_bad h.plan h.state event ss report r.bad;
    }

-- one more change with its shards
pub history_of-snoc : (cs : List Change) (brought : List ℕ) (c : Change) (ss : List ℕ) → shards_in cs ≡ length brought
    → c.shards ≡ length ss
    → history_of (cs ++ c ∷ []) (brought ++ ss) ≡ history_of cs brought ++ entry 0 c.event ss c.reply ∷ []
history_of-snoc [] [] c ss all is =
    ap (λ (l : List ℕ). entry 0 c.event l c.reply ∷ []) (take_all c.shards ss (omega arith))
history_of-snoc [] (s ∷ brought) c ss all is = absurd (omega arith)
history_of-snoc (d ∷ cs) brought c ss all is =
    let a = sum_by-cons (λ (e : Change). e.shards) d cs in
    let low : d.shards ≤ length brought = omega arith in
    let rest : shards_in cs ≡ length (drop d.shards brought) = (let b = length-drop d.shards brought in omega arith) in
    ap (λ (l : List ℕ). entry 0 d.event l d.reply ∷ history_of (cs ++ c ∷ []) (drop d.shards (brought ++ ss)))
    (take-append-le d.shards brought ss low) ∙ ap (λ (l : List ℕ). entry 0 d.event (take d.shards brought) d.reply
    ∷ history_of (cs ++ c ∷ []) l) (drop-append-le d.shards brought ss low)
    ∙ ap (λ (l : List Entry). entry 0 d.event (take d.shards brought) d.reply ∷ l)
    (history_of-snoc cs (drop d.shards brought) c ss rest is)

same_lists : (x y : LedgerState) (ss : List ℕ) → ss ≡ [] → y.lists ≡ x.lists
    → sum_by (λ (l : List ℕ). length l) y.lists ≡ sum_by (λ (l : List ℕ). length l) x.lists + length ss
same_lists x y ss none is =
    let a = ap (λ (l : List ℕ). length l) none in
    let b = ap (sum_by (λ (l : List ℕ). length l)) is in
    omega arith

-- what a lane brings stands in the lanes
lists_grow : (p : PlanData) (x : LedgerState) (event : Event) (ss : List ℕ) → IsSound p x → Fits p x 0 event ss
    → sum_by (λ (l : List ℕ). length l) (after p x 0 event ss).lists
    ≡ sum_by (λ (l : List ℕ). length l) x.lists + length ss
lists_grow p x Draw ss h fits =
    same_lists x (after p x 0 Draw ss) ss fits
    (either (λ y. y.lists ≡ x.lists) (nat_lt x.drawn (count_of p)) (record x { drawn = x.drawn + 1 }) x refl refl)
lists_grow p x (Number c) ss h fits = same_lists x (after p x 0 (Number c) ss) ss fits.0
    (either (λ y. y.lists ≡ x.lists) (nat_lt (slice_index x.given c.shard) p.attempts)
    (record x { given = set x.given c.shard (slice_index x.given c.shard + 1) }) x refl refl)
lists_grow p x (Died c k) ss h fits = same_lists x (after p x 0 (Died c k) ss) ss fits.0 refl
lists_grow p x (Settle c k) ss h fits = same_lists x (after p x 0 (Settle c k) ss) ss fits.0
    (either (λ y. y.lists ≡ x.lists) (slice_index x.winners c.shard == 0)
    (record x { winners = set x.winners c.shard (k + 1); unplaced = set x.unplaced c.shard (0 + 1) }) x refl refl)
lists_grow p x (LaneOut i) ss h fits = same_lists x (after p x 0 (LaneOut i) ss) ss fits.0
    (either (λ y. y.lists ≡ x.lists) (slice_index x.outs i == 0) (record x { outs = set x.outs i 1 }) x refl refl)
lists_grow p x (LaneBack i) ss h fits =
    let low = fits.within in
    let l = h.lanes in
    let a = sum_by-set (λ (l : List ℕ). length l) x.lists i (list_of x i ++ ss) [] (omega arith) in
    let b = length-append (list_of x i) ss in
    omega arith
lists_grow p x (Bad s) ss h fits = same_lists x (after p x 0 (Bad s) ss) ss fits.0 refl

-- where nothing changed nothing came
none_came : (p : PlanData) (x : LedgerState) (event : Event) (ss : List ℕ) → Fits p x 0 event ss
    → is_change p x event ss ≡ false → length ss ≡ 0
none_came p x Draw ss fits is = ap length fits
none_came p x (Number c) ss fits is = ap length fits.0
none_came p x (Died c k) ss fits is = ap length fits.0
none_came p x (Settle c k) ss fits is = ap length fits.0
none_came p x (LaneOut i) ss fits is = ap length fits.0
none_came p x (LaneBack i) ss fits is = let a = ltb-false 0 (length ss) is in omega arith
none_came p x (Bad s) ss fits is = ap length fits.0

-- the core after a step
next_core : (old new : CoreData) (event : Event) (ss : List ℕ) (reply : Reply) → TakesWith old event ss reply new
    → record old { state = after old.plan old.state 0 event ss } ≡ new
next_core old new event ss reply t = sym (t.kept ∙ ap (λ (x : LedgerState). record old { state = x }) t.step.next)

-- there is room for one more change, and for what comes with it
pub room_for_change : (died : ℕ → ℕ → Type 0) (is_bad : ℕ → Type 0) (core : CoreData) (cs : List Change)
    (b : ReservedData) (room : ℕ) (event : Event) (ss : List ℕ)
    → KeepsHistory died is_bad core cs b room → IsSound core.plan core.state → Fits core.plan core.state 0 event ss
    → is_change core.plan core.state event ss ≡ true → length cs < room
room_for_change died is_bad core cs b room event ss h sound fits is =
    let a = h.few in
    let c = counts core.plan core.state event ss sound fits is in
    let d = no_more core.plan (after core.plan core.state 0 event ss)
    (sound_after core.plan core.state event ss sound fits) in
    let e = h.most in
    omega arith

pub room_for_shards : (died : ℕ → ℕ → Type 0) (is_bad : ℕ → Type 0) (core : CoreData) (cs : List Change)
    (b : ReservedData) (room : ℕ) (event : Event) (ss : List ℕ) → KeepsHistory died is_bad core cs b room
    → IsSound core.plan core.state → Fits core.plan core.state 0 event ss → length b.shards + length ss ≤ b.room
room_for_shards died is_bad core cs b room event ss h sound fits =
    let next = sound_after core.plan core.state event ss sound fits in
    let a = lists_grow core.plan core.state event ss sound fits in
    let c = next.few in
    let d = once-le (after core.plan core.state 0 event ss).winners in
    let e = next.rows.2 in
    let f = h.placed in
    let g = h.space in
    omega arith

-- what was told is seen in the new history
history_told : (h : HeldData) (event : Event) (ss : List ℕ) (reply : Reply) (cs : List Change) (b : List ℕ)
    → h.history ≡ history_of cs b → shards_in cs ≡ length b → is_change h.plan h.state event ss ≡ true
    → history_of (cs ++ (record { event = event; reply = reply; shards = length ss }) ∷ []) (b ++ ss)
    ≡ history_after h event ss reply
history_told h event ss reply cs b is came change =
    history_of-snoc cs b (record { event = event; reply = reply; shards = length ss }) ss came refl
    ∙ ap (λ (l : List Entry). l ++ entry 0 event ss reply ∷ []) (sym is)
    ∙ sym (ap (λ (b : Bool). cond b (h.history ++ entry 0 event ss reply ∷ []) h.history) change)

-- a ledger with its history after a change
pub history_change : (died : ℕ → ℕ → Type 0) (is_bad : ℕ → Type 0) (core new : CoreData) (cs : List Change)
    (b : ReservedData) (room : ℕ) (event : Event) (ss : List ℕ) (reply : Reply)
    → KeepsHistory died is_bad core cs b room → IsSound core.plan core.state → IsTrueReport died is_bad event
    → TakesWith core event ss reply new → is_change core.plan core.state event ss ≡ true
    → KeepsHistory died is_bad new (cs ++ (record { event = event; reply = reply; shards = length ss }) ∷ [])
    (record { room = b.room; shards = b.shards ++ ss }) room
history_change died is_bad core new cs b room event ss reply h sound report t is =
    let p = core.plan in
    let fits = t.step.fits in
    let c : Change = record { event = event; reply = reply; shards = length ss } in
    let told = history_told (held_data core cs b) event ss reply cs b.shards refl h.came is in
    let grown = lists_grow p core.state event ss sound fits in
    let more = counts p core.state event ss sound fits is in
    subst (λ (d : CoreData). KeepsHistory died is_bad d (cs ++ c ∷ [])
    (record { room = b.room; shards = b.shards ++ ss }) room) (next_core core new event ss reply t) (record {
      replays = subst (λ (l : List Entry). Replays died is_bad
          (record { plan = p; lanes = core.lanes; state = after p core.state 0 event ss; history = l })) (sym told)
          (replays_on died is_bad (held_data core cs b) event ss reply h.replays sound fits report t.step.answer);
      came = sum_by_push (λ (e : Change). e.shards) cs c ∙ ap (λ (n : ℕ). n + length ss) h.came
          ∙ sym (length-append b.shards ss);
      placed = length-append b.shards ss ∙ ap (λ (n : ℕ). n + length ss) h.placed ∙ sym grown;
      few = (let a = length-append cs (c ∷ []) in let f = h.few in omega arith);
      most = h.most;
      space = h.space;
    })

-- and after what is none
pub history_same : (died : ℕ → ℕ → Type 0) (is_bad : ℕ → Type 0) (core new : CoreData) (cs : List Change)
    (b : ReservedData) (room : ℕ) (event : Event) (ss : List ℕ) (reply : Reply)
    → KeepsHistory died is_bad core cs b room → IsSound core.plan core.state → IsTrueReport died is_bad event
    → TakesWith core event ss reply new
    → is_change core.plan core.state event ss ≡ false → KeepsHistory died is_bad new cs b room
history_same died is_bad core new cs b room event ss reply h sound report t is =
    let p = core.plan in
    let fits = t.step.fits in
    let same : history_after (held_data core cs b) event ss reply ≡ history_of cs b.shards =
    ap (λ (b' : Bool). cond b' (history_of cs b.shards ++ entry 0 event ss reply ∷ []) (history_of cs b.shards)) is in
    let grown = lists_grow p core.state event ss sound fits in
    let none = none_came p core.state event ss fits is in
    let equal : changes_in p (after p core.state 0 event ss) ≡ changes_in p core.state =
    ap (changes_in p) (unchanged p core.state event ss is) in
    subst (λ (d : CoreData). KeepsHistory died is_bad d cs b room) (next_core core new event ss reply t) (record {
      replays = subst (λ (l : List Entry). Replays died is_bad
          (record { plan = p; lanes = core.lanes; state = after p core.state 0 event ss; history = l })) same
          (replays_on died is_bad (held_data core cs b) event ss reply h.replays sound fits report t.step.answer);
      came = h.came;
      placed = (let a = h.placed in omega arith);
      few = (let f = h.few in omega arith);
      most = h.most;
      space = h.space;
    })

pub applies_change : (core new : CoreData) (cs : List Change) (b : ReservedData) (event : Event) (ss : List ℕ)
    (reply : Reply) → shards_in cs ≡ length b.shards
    → TakesWith core event ss reply new → is_change core.plan core.state event ss ≡ true
    → Applies (held_data core cs b) event ss reply
    (held_data new (cs ++ (record { event = event; reply = reply; shards = length ss }) ∷ [])
    (record { room = b.room; shards = b.shards ++ ss }))
applies_change core new cs b event ss reply came t is = record {
  step = t.step;
  history = history_told (held_data core cs b) event ss reply cs b.shards refl came is;
  kept = (ap (λ (d : CoreData). d.plan) t.kept, ap (λ (d : CoreData). d.lanes) t.kept);
}
