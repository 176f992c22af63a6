-- The shards that a worker won.
use Rattle.std.proofs.Common.{◌≡◌, ◌≢◌, ◌⊎◌, ℕ, ◌+◌, ◌-◌, ◌==◌, Bool, true, false, cond, drop, length, List, [], ◌∷◌, ◌++◌, refl, ap, sym, ◌∙◌, subst, inl, inr, ⊎_elim}
use Rattle.std.proofs.Common.{arith, ne_eqb, append-nil, append_assoc}
use Rattle.std.specs.Prelude.{slice_index, Result, Ok, Err, OnOk}
use Rattle.std.proofs.Math.Seq.{drop-append_seam}
use Rattle.std.proofs.lemmas.List.{append_cancel_right}
use mathlib.Core.Logic.{dite}
use native.Mathlib.Decide.{ℕ_discrete}
use Rattle.sz_book_rules.specs.Plan.{PlanData}
use Rattle.sz_book.specs.Lanes.{LaneData}
use Rattle.sz_book_rules.specs.Counting.{once}
use Rattle.sz_book_rules.specs.declared.claim.Claim.{Claim}
use Rattle.sz_book_rules.specs.declared.event.Event.{Event}
use Rattle.sz_book_rules.specs.declared.event.Event.TheVariants.{Settle, LaneOut, LaneBack}
use Rattle.sz_book_rules.specs.declared.event.Reply.{Reply}
use Rattle.sz_book_rules.specs.declared.event.Reply.TheVariants.{Noted, Won, Late, Lane}
use Rattle.sz_book_rules.specs.declared.event.Entry.{Entry}
use Rattle.sz_book_rules.specs.Machine.{LedgerState, opening}
use Rattle.sz_book_rules.specs.History.{entry, state_after, IsLegal, IsLegalFrom, calls_by, Settles, HasWon, HasGiven, IsAmong, AreDistinct, AreApart}
use Rattle.sz_book_rules.proofs.HistoryLemmas.{calls_own}
use Rattle.sz_book_rules.proofs.CountLemmas.{each_shard_counts_once}
use Rattle.sz_claims.specs.Known.{LedgerData, PassData, Calls, CallsWith, IsLent, MayGive, further_in, AreInHand}
use Rattle.sz_claims.proofs.ForCallers.{in_hand_now, in_hand_still, none_in_hand, fits_lane, has_lane, may_give}
use Rattle.sz_claims.proofs.UnplacedLemmas.{are_unplaced}
use Rattle.sz_workers.specs.Working.{Goes, IsInPlace, Grows, HasAllWon, IsAtWork, longer_by, added_by}
use Rattle.sz_workers.proofs.CallLemmas.{in_place_call, legal_parts}

won_before : (s : ℕ) (es : List Entry) (e : Entry) → HasWon s (es ++ e ∷ [])
    → HasWon s es ⊎ (Settles s e.event × (e.reply ≡ Won))
won_before s [] e (inl h) = inr h
won_before s [] e (inr h) = absurd h
won_before s (d ∷ es) e (inl h) = inl (inl h)
won_before s (d ∷ es) e (inr h) =
    ⊎_elim (λ (a : HasWon s es). inl (inr a)) (λ (b : Settles s e.event × (e.reply ≡ Won)). inr b) (won_before s es e h)

won_more : (s : ℕ) (es : List Entry) (e : Entry) → HasWon s es → HasWon s (es ++ e ∷ [])
won_more s [] e h = absurd h
won_more s (d ∷ es) e (inl h) = inl h
won_more s (d ∷ es) e (inr h) = inr (won_more s es e h)

given_last : (s : ℕ) (es : List Entry) (e : Entry) → IsAmong s e.shards → HasGiven s (es ++ e ∷ [])
given_last s [] e h = inl h
given_last s (d ∷ es) e h = inr (given_last s es e h)

given_either : (s : ℕ) (es : List Entry) (e : Entry) → HasGiven s (es ++ e ∷ []) → HasGiven s es ⊎ IsAmong s e.shards
given_either s [] e (inl h) = inr h
given_either s [] e (inr h) = absurd h
given_either s (d ∷ es) e (inl h) = inl (inl h)
given_either s (d ∷ es) e (inr h) =
    ⊎_elim (λ (a : HasGiven s es). inl (inr a)) (λ (b : IsAmong s e.shards). inr b) (given_either s es e h)

given_more : (s : ℕ) (es : List Entry) (e : Entry) → HasGiven s es → HasGiven s (es ++ e ∷ [])
given_more s [] e h = absurd h
given_more s (d ∷ es) e (inl h) = inl h
given_more s (d ∷ es) e (inr h) = inr (given_more s es e h)

pub among_front : (s : ℕ) (ss ts : List ℕ) → IsAmong s ss → IsAmong s (ss ++ ts)
among_front s [] ts h = absurd h
among_front s (t ∷ ss) ts (inl h) = inl h
among_front s (t ∷ ss) ts (inr h) = inr (among_front s ss ts h)

pub among_back : (s : ℕ) (ss ts : List ℕ) → IsAmong s ts → IsAmong s (ss ++ ts)
among_back s [] ts h = h
among_back s (t ∷ ss) ts h = inr (among_back s ss ts h)

pub among_either : (s : ℕ) (ss ts : List ℕ) → IsAmong s (ss ++ ts) → IsAmong s ss ⊎ IsAmong s ts
among_either s [] ts h = inr h
among_either s (t ∷ ss) ts (inl h) = inl (inl h)
among_either s (t ∷ ss) ts (inr h) =
    ⊎_elim (λ (a : IsAmong s ss). inl (inr a)) (λ (b : IsAmong s ts). inr b) (among_either s ss ts h)

pub distinct_joined : (ss ts : List ℕ) → AreDistinct ss → AreDistinct ts → AreApart ss ts → AreDistinct (ss ++ ts)
distinct_joined [] ts d e apart = e
distinct_joined (s ∷ ss) ts d e apart = (
  (λ in'. ⊎_elim (λ (a : IsAmong s ss). d.0 a) (λ (b : IsAmong s ts). apart s (inl refl) b) (among_either s ss ts in')),
  distinct_joined ss ts d.1 e (λ t in'. apart t (inr in')),
)

pub in_hand_joined : (ss ts : List ℕ) (mine : List Entry) → AreInHand ss mine → AreInHand ts mine → AreApart ss ts
    → AreInHand (ss ++ ts) mine
in_hand_joined ss ts mine h g apart = record {
  distinct = distinct_joined ss ts h.distinct g.distinct apart;
  won = λ s in'. ⊎_elim (λ (a : IsAmong s ss). h.won s a) (λ (b : IsAmong s ts). g.won s b) (among_either s ss ts in');
  fresh = λ s in'. ⊎_elim (λ (a : IsAmong s ss). h.fresh s a) (λ (b : IsAmong s ts). g.fresh s b)
      (among_either s ss ts in');
}

-- a settlement is won where the shard was not settled
open_shard : (n : ℕ) → Won ≡ cond (n == 0) Won (Late (n - 1)) → n ≡ 0
open_shard n won = dite (ℕ_discrete n 0) (λ (z : n ≡ 0). z)
    (λ (ne : n ≢ 0). let wrong : Won ≡ Late (n - 1) =
    won ∙ ap (λ (b : Bool). cond b Won (Late (n - 1))) (ne_eqb n 0 ne) in absurd (cc wrong))

once_some : (n m : ℕ) → n ≡ m + 1 → once n ≡ 1
once_some n m e = ap (λ (b : Bool). cond b 0 1) (ne_eqb n 0 (omega arith))

-- a shard that a pass just won is none of those that it won before
pub apart_now : (v w : PassData) (c : Claim) (k : ℕ) (shards : List ℕ) → Calls v (Settle c k) Won w → IsInPlace v
    → AreInHand shards v.mine → ¬ IsAmong c.shard shards
apart_now v w c k shards h place hand in' =
    let p : PlanData = v.ledger.plan in
    let start : LedgerState = opening p v.ledger.lanes in
    let e : Entry = entry v.number (Settle c k) [] Won in
    let log : List Entry = h.0 in
    let mine : w.mine ≡ v.mine ++ e ∷ [] = ap (λ (u : PassData). u.mine) h.1 in
    let seen : w.seen ≡ log ++ e ∷ [] = ap (λ (u : PassData). u.seen) h.1 in
    let parts = legal_parts p start log (e ∷ []) (subst (IsLegalFrom p start) seen h.3.from) in
    let legal : IsLegal p v.ledger.lanes log = record { from = parts.0 } in
    let open' : slice_index (state_after p start log).winners c.shard ≡ 0 =
    open_shard (slice_index (state_after p start log).winners c.shard) parts.1.1 in
    let own : calls_by v.number log ≡ v.mine =
    append_cancel_right (calls_by v.number log) v.mine (e ∷ [])
    (sym (calls_own v.number log e refl) ∙ ap (calls_by v.number) (sym seen) ∙ h.4 ∙ mine) in
    let mark = are_unplaced p v.ledger.lanes v.number log v.mine (c.shard ∷ []) place.plan legal own
    ((λ no. no), tt)
    (λ s one. ⊎_elim (λ (is : c.shard ≡ s). subst (λ (t : ℕ). HasWon t v.mine) is (hand.won c.shard in'))
    (λ (no : ⊥). absurd no) one) (λ s one. ⊎_elim (λ (is : c.shard ≡ s).
    subst (λ (t : ℕ). ¬ HasGiven t v.mine) is (hand.fresh c.shard in')) (λ (no : ⊥). absurd no) one) in
    let counts = (each_shard_counts_once p v.ledger.lanes log place.plan legal).anywhere c.shard in
    let some = once_some (slice_index (state_after p start log).unplaced c.shard) v.number mark.0 in
    let none : once (slice_index (state_after p start log).winners c.shard) ≡ 0 = ap once open' in
    absurd (omega arith)

-- two parts of distinct shards
pub parts_distinct : (ss ts : List ℕ) → AreDistinct (ss ++ ts) → AreDistinct ss × AreDistinct ts × AreApart ss ts
parts_distinct [] ts d = (tt, d, (λ s in'. absurd in'))
parts_distinct (s ∷ ss) ts d =
    let rest = parts_distinct ss ts d.1 in (
      ((λ in'. d.0 (among_front s ss ts in')), rest.0),
      rest.1,
      λ t in' other. ⊎_elim (λ (is : s ≡ t). d.0 (among_back s ss ts (subst (λ (k : ℕ). IsAmong k ts) (sym is) other)))
          (λ (b : IsAmong t ss). rest.2 t b other) in',
    )

-- of shards that may be brought, some may
pub front_in_hand : (ss ts : List ℕ) (mine : List Entry) → AreInHand (ss ++ ts) mine → AreInHand ss mine
front_in_hand ss ts mine h = record {
  distinct = (parts_distinct ss ts h.distinct).0;
  won = λ s in'. h.won s (among_front s ss ts in');
  fresh = λ s in'. h.fresh s (among_front s ss ts in');
}

pub back_in_hand : (ss ts : List ℕ) (mine : List Entry) → AreInHand (ss ++ ts) mine → AreInHand ts mine
back_in_hand ss ts mine h = record {
  distinct = (parts_distinct ss ts h.distinct).1;
  won = λ s in'. h.won s (among_back s ss ts in');
  fresh = λ s in'. h.fresh s (among_back s ss ts in');
}

-- the last of them is none of the others
pub last_apart : (ss : List ℕ) (s : ℕ) (mine : List Entry) → AreInHand (ss ++ s ∷ []) mine → ¬ IsAmong s ss
last_apart ss s mine h in' = (parts_distinct ss (s ∷ []) h.distinct).2 s in' (inl refl)

-- each shard that the pass won is one of these, or came with a lane
abbrev AllAmong : PassData → List ℕ → Type 0
AllAmong v ss = (s : ℕ) → HasWon s v.mine → IsAmong s ss ⊎ HasGiven s v.mine

-- a call that wins nothing leaves what was won
all_with : (v w : PassData) (ss : List ℕ) (e : Event) (shards : List ℕ) (r : Reply) (lane : ℕ) (lent : List ℕ)
    → CallsWith v e shards r lane lent w → ((s : ℕ) → Settles s e → ¬ (r ≡ Won)) → AllAmong v ss → AllAmong w ss
all_with v w ss e shards r lane lent h none all s has =
    let d : Entry = entry v.number e shards r in
    let mine : w.mine ≡ v.mine ++ d ∷ [] = ap (λ (u : PassData). u.mine) h.1 in
    ⊎_elim
    (λ (before : HasWon s v.mine). ⊎_elim (λ (a : IsAmong s ss). inl a)
    (λ (g : HasGiven s v.mine). inr (subst (HasGiven s) (sym mine) (given_more s v.mine d g))) (all s before))
    (λ (now : Settles s e × (r ≡ Won)). absurd (none s now.0 now.1)) (won_before s v.mine d (subst (HasWon s) mine has))

pub all_still : (v w : PassData) (pocket : LaneData) (e : Event) (r : Reply) → Calls v e r w
    → ((s : ℕ) → Settles s e → ¬ (r ≡ Won)) → HasAllWon v pocket → HasAllWon w pocket
all_still v w pocket e r h none all = all_with v w pocket.shards e [] r v.lane v.lent h none all

-- and what is in the pocket
pub hand_still : (v w : PassData) (pocket : LaneData) (e : Event) (r : Reply) → Calls v e r w
    → AreInHand pocket.shards v.mine → AreInHand pocket.shards w.mine
hand_still v w pocket e r h hand = in_hand_still v w pocket.shards e r v.lane v.lent h hand

-- a shard that was just won stands after those that were won before
hand_now : (v w : PassData) (c : Claim) (k : ℕ) (pocket : LaneData) → Calls v (Settle c k) Won w → IsAtWork v pocket
    → AreInHand (pocket.shards ++ c.shard ∷ []) w.mine
hand_now v w c k pocket h at =
    let away = apart_now v w c k pocket.shards h at.place at.hand in
    let apart : AreApart pocket.shards (c.shard ∷ []) = λ s in' one.
    ⊎_elim (λ (is : c.shard ≡ s). away (subst (λ (t : ℕ). IsAmong t pocket.shards) (sym is) in'))
    (λ (no : ⊥). no) one in
    in_hand_joined pocket.shards (c.shard ∷ []) w.mine (hand_still v w pocket (Settle c k) Won h at.hand)
    (in_hand_now v w c k h) apart

all_now : (v w : PassData) (c : Claim) (k : ℕ) (pocket : LaneData) → Calls v (Settle c k) Won w → HasAllWon v pocket
    → (s : ℕ) → HasWon s w.mine → IsAmong s (pocket.shards ++ c.shard ∷ []) ⊎ HasGiven s w.mine
all_now v w c k pocket h all s has =
    let d : Entry = entry v.number (Settle c k) [] Won in
    let mine : w.mine ≡ v.mine ++ d ∷ [] = ap (λ (u : PassData). u.mine) h.1 in
    ⊎_elim
    (λ (old : HasWon s v.mine).
    ⊎_elim (λ (a : IsAmong s pocket.shards). inl (among_front s pocket.shards (c.shard ∷ []) a))
    (λ (g : HasGiven s v.mine). inr (subst (HasGiven s) (sym mine) (given_more s v.mine d g))) (all s old))
    (λ (now : Settles s (Settle c k) × (Won ≡ Won)). inl (among_back s pocket.shards (c.shard ∷ []) (inl now.0)))
    (won_before s v.mine d (subst (HasWon s) mine has))

-- an answer that comes late wins nothing
pub late_not_won : (n : ℕ) → ¬ (Late n ≡ Won)
late_not_won n e = absurd (cc)

-- a pocket into which nothing was put
pub grows_self : (old : LaneData) → Grows old old
grows_self old = record { plan = refl; further = []; later = sym (append-nil old.shards) }

pub grows_then : (old mid new : LaneData) → Grows old mid → Grows mid new → Grows old new
grows_then old mid new g h = record {
  plan = h.plan ∙ g.plan;
  further = g.further ++ h.further;
  later = h.later ∙ ap (λ (ss : List ℕ). ss ++ h.further) g.later ∙ append_assoc old.shards g.further h.further;
}

-- a call that wins nothing
pub at_work_call : (v w : PassData) (pocket : LaneData) (e : Event) (r : Reply) → Calls v e r w
    → ((s : ℕ) → Settles s e → ¬ (r ≡ Won)) → IsAtWork v pocket → IsAtWork w pocket
at_work_call v w pocket e r h none at = record {
  place = in_place_call v w e r h at.place;
  plan = at.plan ∙ sym (ap (λ (u : PassData). u.ledger.plan) h.1);
  hand = hand_still v w pocket e r h at.hand;
  all = all_still v w pocket e r h none at.all;
  idle = ap (λ (u : PassData). u.lane) h.1 ∙ at.idle;
  none_lent = ap (λ (u : PassData). u.lent) h.1 ∙ at.none_lent;
}

-- a shard was won, and its part is to be put into the pocket
pub at_work_won : (v w : PassData) (pocket : LaneData) (c : Claim) (k : ℕ) → Calls v (Settle c k) Won w
    → IsAtWork v pocket → IsAtWork w (longer_by pocket (c.shard ∷ []))
at_work_won v w pocket c k h at = record {
  place = in_place_call v w (Settle c k) Won h at.place;
  plan = at.plan ∙ sym (ap (λ (u : PassData). u.ledger.plan) h.1);
  hand = hand_now v w c k pocket h at;
  all = all_now v w c k pocket h at.all;
  idle = ap (λ (u : PassData). u.lane) h.1 ∙ at.idle;
  none_lent = ap (λ (u : PassData). u.lent) h.1 ∙ at.none_lent;
}

-- the lane was out
pub at_work_none : (v w : PassData) (pocket : LaneData) (i : ℕ) → Calls v (LaneOut i) (Lane false) w
    → IsAtWork v pocket → IsAtWork w pocket
at_work_none v w pocket i h at = at_work_call v w pocket (LaneOut i) (Lane false) h (λ s e. absurd e) at

-- it was put there, or there was no memory
pub hand_put : (v : PassData) (pocket : LaneData) (s : ℕ) {A B : Type 0} (r : Result A B)
    → IsAtWork v (longer_by pocket (s ∷ [])) → AreInHand (pocket.shards ++ added_by r s) v.mine
hand_put v pocket s (Ok a) at = at.hand
hand_put v pocket s (Err e) at =
    subst (λ (ss : List ℕ). AreInHand ss v.mine) (sym (append-nil pocket.shards))
    (front_in_hand pocket.shards (s ∷ []) v.mine at.hand)

pub all_put : (v : PassData) (pocket : LaneData) (s : ℕ) {A B : Type 0} (r : Result A B)
    → IsAtWork v (longer_by pocket (s ∷ [])) → OnOk r (HasAllWon v (longer_by pocket (added_by r s)))
all_put v pocket s (Ok a) at = at.all
all_put v pocket s (Err e) at = tt

-- the shard, or none, may be brought
pub hand_added : (mine : List Entry) (s : ℕ) {A B : Type 0} (r : Result A B) → AreInHand (s ∷ []) mine
    → AreInHand (added_by r s) mine
hand_added mine s (Ok a) h = h
hand_added mine s (Err e) h = none_in_hand mine

-- what is in the pocket stays in hand where others are brought
hand_brought : (w x : PassData) (i : ℕ) (kept ss : List ℕ) → CallsWith w (LaneBack i) ss Noted 0 [] x
    → AreInHand kept w.mine → AreApart kept ss → AreInHand kept x.mine
hand_brought w x i kept ss g hand apart =
    let d : Entry = entry w.number (LaneBack i) ss Noted in
    let mine : x.mine ≡ w.mine ++ d ∷ [] = ap (λ (u : PassData). u.mine) g.1 in record {
      distinct = hand.distinct;
      won = λ s in'. subst (HasWon s) (sym mine) (won_more s w.mine d (hand.won s in'));
      fresh = λ s in' given. ⊎_elim (λ (before : HasGiven s w.mine). hand.fresh s in' before)
          (λ (now : IsAmong s ss). apart s in' now) (given_either s w.mine d (subst (HasGiven s) mine given));
    }

apart_added : (ss : List ℕ) (s : ℕ) {A B : Type 0} (r : Result A B) → ¬ IsAmong s ss → AreApart ss (added_by r s)
apart_added ss s (Ok a) away t in' one =
    ⊎_elim (λ (is : s ≡ t). away (subst (λ (k : ℕ). IsAmong k ss) (sym is) in')) (λ (no : ⊥). no) one
apart_added ss s (Err e) away t in' one = one

-- a shard that was won was brought with a lane, or there was no memory
module _ (v w : PassData) (pocket : LaneData) (i s : ℕ) (lane : LaneData)
    (at : IsAtWork v (longer_by pocket (s ∷ []))) (h : IsLent v i lane w) where
  in_hand_lent : AreInHand (pocket.shards ++ s ∷ []) w.mine
  in_hand_lent = in_hand_still v w (pocket.shards ++ s ∷ []) (LaneOut i) (Lane true) (i + 1) lane.shards h.0 at.hand

  -- the shard stands in no lane that is lent
  pub fresh_lent : ¬ IsAmong s lane.shards
  fresh_lent = fits_lane v w i s lane at.place.plan h (back_in_hand pocket.shards (s ∷ []) v.mine at.hand)

  pub may_give_lent : {A B : Type 0} (longer : LaneData) (r : Result A B) → longer ≡ longer_by lane (added_by r s)
      → MayGive w i longer
  may_give_lent longer r is =
      let lent = has_lane v w i lane h in
      may_give w i lane longer (added_by r s) lent.1 lent.2 lent.3 (ap (λ (l : LaneData). l.plan) is)
      (ap (λ (l : LaneData). l.shards) is)
      (hand_added w.mine s r (back_in_hand pocket.shards (s ∷ []) w.mine in_hand_lent))

  further_is : {A B : Type 0} (longer : LaneData) (r : Result A B) → longer ≡ longer_by lane (added_by r s)
      → further_in w longer ≡ added_by r s
  further_is longer r is =
      let lent = has_lane v w i lane h in
      ap (drop (length w.lent))
      (ap (λ (l : LaneData). l.shards) is ∙ ap (λ (l : List ℕ). l ++ added_by r s) (sym lent.2))
      ∙ drop-append_seam w.lent (added_by r s)

  -- the lane was given back
  module _ (x : PassData) where
    pub hand_lent : {A B : Type 0} (longer : LaneData) (r : Result A B) → longer ≡ longer_by lane (added_by r s)
        → CallsWith w (LaneBack i) (further_in w longer) Noted 0 [] x → AreInHand pocket.shards x.mine
    hand_lent longer r is g =
        hand_brought w x i pocket.shards (further_in w longer) g
        (front_in_hand pocket.shards (s ∷ []) w.mine in_hand_lent)
        (subst (λ (ss : List ℕ). AreApart pocket.shards ss) (sym (further_is longer r is))
        (apart_added pocket.shards s r (last_apart pocket.shards s v.mine at.hand)))

    all_lent : CallsWith w (LaneBack i) (s ∷ []) Noted 0 [] x → HasAllWon x pocket
    all_lent g t has =
        let d : Entry = entry w.number (LaneBack i) (s ∷ []) Noted in
        let mine : x.mine ≡ w.mine ++ d ∷ [] = ap (λ (u : PassData). u.mine) g.1 in
        let mid = all_with v w (pocket.shards ++ s ∷ []) (LaneOut i) [] (Lane true)
        (i + 1) lane.shards h.0 (λ t e. absurd e) at.all in
        let all = all_with w x (pocket.shards ++ s ∷ []) (LaneBack i) (s ∷ []) Noted 0 [] g (λ t e. absurd e) mid in
        ⊎_elim
        (λ (in' : IsAmong t (pocket.shards ++ s ∷ [])). ⊎_elim (λ (a : IsAmong t pocket.shards). inl a)
        (λ (b : IsAmong t (s ∷ [])). inr (subst (HasGiven t) (sym mine) (given_last t w.mine d b)))
        (among_either t pocket.shards (s ∷ []) in')) (λ (g' : HasGiven t x.mine). inr g') (all t has)

    pub won_lent : {A B : Type 0} (longer : LaneData) (r : Result A B) → longer ≡ longer_by lane (added_by r s)
        → CallsWith w (LaneBack i) (further_in w longer) Noted 0 [] x → OnOk r (HasAllWon x pocket)
    won_lent longer r is g = by_answer r (further_is longer r is) g
      where
        by_answer : {A B : Type 0} (r : Result A B) → further_in w longer ≡ added_by r s
            → CallsWith w (LaneBack i) (further_in w longer) Noted 0 [] x → OnOk r (HasAllWon x pocket)
        by_answer (Ok a) further g =
            all_lent (subst (λ (ss : List ℕ). CallsWith w (LaneBack i) ss Noted 0 [] x) further g)
        by_answer (Err e) further g = tt

-- what a worker knows again after several calls
pub at_work_then : (v w : PassData) (old new : LaneData) → IsAtWork v old → Goes v w → IsInPlace w → Grows old new
    → AreInHand new.shards w.mine → HasAllWon w new → IsAtWork w new
at_work_then v w old new at goes place grows hand all = record {
  place = place;
  plan = grows.plan ∙ at.plan ∙ sym (ap (λ (l : LedgerData). l.plan) goes.ledger);
  hand = hand;
  all = all;
  idle = goes.lane ∙ at.idle;
  none_lent = goes.lent ∙ at.none_lent;
}
