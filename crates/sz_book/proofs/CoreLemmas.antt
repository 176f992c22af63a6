-- A core goes on its history, and takes all shards into a lane.
use Rattle.std.proofs.Common.{◌≡◌, ℕ, zero, suc, ◌<◌, ◌≤◌, ◌==◌, Bool, true, false, cond, List, [], ◌∷◌, ◌++◌, set, length, map, drop, refl, ap, sym, ◌∙◌, subst, arith, ne_eqb, length-set}
use Rattle.std.specs.Prelude.{slice_index}
use Rattle.sz_book_rules.specs.Plan.{PlanData}
use Rattle.sz_book_rules.specs.declared.event.Event.{Event}
use Rattle.sz_book_rules.specs.declared.event.Event.TheVariants.{Draw, Number, Died, Settle, LaneOut, LaneBack, Bad}
use Rattle.sz_book_rules.specs.declared.event.Reply.{Reply}
use Rattle.sz_book_rules.specs.declared.event.Reply.TheVariants.{Noted}
use Rattle.sz_book_rules.specs.declared.event.Entry.{Entry}
use Rattle.sz_book_rules.specs.Machine.{LedgerState, opening, after, reply_of, Fits, placed, AreUnplaced, IsReturned, list_of}
use Rattle.sz_book_rules.specs.History.{entry, state_after}
use Rattle.sz_book.specs.Cores.{CoreData, marked_from, brought, IsAllowed, IsSound, Takes, TakesWith, IsAfter, GoesOn}
use Rattle.sz_book_rules.proofs.HistoryLemmas.{state_after-snoc, legal-snoc}

-- a step goes on every history by which the core came to its state
pub goes_on : (old new : CoreData) (event : Event) (reply : Reply) → Takes old event reply new
    → GoesOn old event reply new
goes_on old new event reply t = record { history = λ log a. later log a } where
  later : (log : List Entry) → IsAfter log old → IsAfter (log ++ entry 0 event (brought old.state event) reply ∷ []) new
  later log a =
      let p = old.plan in
      let start = opening p old.lanes in
      let e = entry 0 event (brought old.state event) reply in
      let same : old.state ≡ state_after p start log = a.state in
      let fits = subst (λ (x : LedgerState). Fits p x 0 event (brought old.state event)) same t.step.fits in
      let answer = t.step.answer ∙ ap (λ (x : LedgerState). reply_of p x event) same in
      let next = t.step.next ∙ ap (λ (x : LedgerState). after p x 0 event (brought old.state event)) same
      ∙ sym (state_after-snoc p start log e) in
      subst (IsAfter (log ++ e ∷ [])) (sym t.kept) record {
        legal = legal-snoc p old.lanes log e a.legal fits answer;
        state = next;
      }

first_of : (b : Bool) (s : ℕ) (ss : List ℕ) → map suc (cond b ss (s ∷ ss)) ≡ cond b (map suc ss) (suc s ∷ map suc ss)
first_of true s ss = refl
first_of false s ss = refl

-- places counted from one later are each one more
marked_later : (s : ℕ) (marks : List ℕ) → marked_from (suc s) marks ≡ map suc (marked_from s marks)
marked_later s [] = refl
marked_later s (mark ∷ marks) =
    ap (λ (ss : List ℕ). cond (mark == 0) ss (suc s ∷ ss)) (marked_later (suc s) marks)
    ∙ sym (first_of (mark == 0) s (marked_from (suc s) marks))

-- what is marked from a place on
pub marked_at : (s i : ℕ) (marks : List ℕ) → i < length marks
    → marked_from s (drop i marks) ≡ cond (slice_index marks i == 0) (marked_from (suc s) (drop (suc i) marks))
    (s ∷ marked_from (suc s) (drop (suc i) marks))
marked_at s i [] low = absurd (omega arith)
marked_at s zero (mark ∷ marks) low = refl
marked_at s (suc i) (mark ∷ marks) low = marked_at s i marks (omega arith)

unplaced_after : (n a : ℕ) (marks ss : List ℕ) → AreUnplaced n marks ss → AreUnplaced n (a ∷ marks) (map suc ss)
unplaced_after n a marks [] h = tt
unplaced_after n a marks (s ∷ ss) h = (h.0, unplaced_after n a (set marks s 0) ss h.1)

one_unplaced : (mark : ℕ) (marks ss : List ℕ) → mark ≤ 1 → AreUnplaced 0 (0 ∷ marks) ss
    → AreUnplaced 0 (mark ∷ marks) (cond (mark == 0) ss (0 ∷ ss))
one_unplaced zero marks ss low h = h
one_unplaced (suc m) marks ss low h = let one : suc m ≡ 1 = omega (arith, low) in
    subst (λ (b : Bool). AreUnplaced 0 (suc m ∷ marks) (cond b ss (0 ∷ ss)))
    (sym (ne_eqb (suc m) 0 (omega arith))) (one, h)

-- all marked shards are the caller's to bring
pub unplaced_all : (marks : List ℕ) → ((s : ℕ) → slice_index marks s ≤ 1) → AreUnplaced 0 marks (marked_from 0 marks)
unplaced_all [] low = tt
unplaced_all (mark ∷ marks) low = one_unplaced mark marks (marked_from 1 marks) (low 0)
    (subst (AreUnplaced 0 (0 ∷ marks)) (sym (marked_later 0 marks))
    (unplaced_after 0 0 marks (marked_from 0 marks) (unplaced_all marks (λ s. low (suc s)))))

-- an allowed event fits with what comes with it
pub brought_fits : (p : PlanData) (x : LedgerState) (event : Event) → IsSound p x → IsAllowed p x event
    → Fits p x 0 event (brought x event)
brought_fits p x Draw sound may = refl
brought_fits p x (Number c) sound may = (refl, may)
brought_fits p x (Died c k) sound may = (refl, may)
brought_fits p x (Settle c k) sound may = (refl, may)
brought_fits p x (LaneOut i) sound may = (refl, may)
brought_fits p x (LaneBack i) sound may = record {
  within = may.0;
  out = may.1;
  brought = unplaced_all x.unplaced sound.marks;
}
brought_fits p x (Bad s) sound may = (refl, may)

-- a lane comes back with these shards
pub gives_back : (p : PlanData) (x : LedgerState) (i : ℕ) (ss : List ℕ) → IsReturned x 0 i ss
    → (outs : List ℕ) (lists : List (List ℕ)) (marks : List ℕ)
    → outs ≡ set x.outs i 0 → lists ≡ set x.lists i (list_of x i ++ ss) → marks ≡ placed x.unplaced ss
    → TakesWith (record { plan = p; lanes = length x.outs; state = x }) (LaneBack i) ss Noted
    (record { plan = p; lanes = length outs; state = record x { outs = outs; lists = lists; unplaced = marks } })
gives_back p x i ss back outs lists marks outs_is lists_is marks_is =
    let y = record x { outs = outs; lists = lists; unplaced = marks } in
    let next : y ≡ after p x 0 (LaneBack i) ss =
    ap (λ (l : List ℕ). record x { outs = l; lists = lists; unplaced = marks }) outs_is
    ∙ ap (λ (l : List (List ℕ)). record x { outs = set x.outs i 0; lists = l; unplaced = marks }) lists_is
    ∙ ap (λ (l : List ℕ). record x { outs = set x.outs i 0; lists = set x.lists i (list_of x i ++ ss); unplaced = l })
    marks_is in
    let same : length outs ≡ length x.outs = ap length outs_is ∙ length-set x.outs i 0 in
    record {
      step = record { fits = back; answer = refl; next = next };
      kept = ap (λ (n : ℕ). record { plan = p; lanes = n; state = y }) same;
    }
