-- The lanes stay in place: those that are home are here, with the shards that the state has for them.
use Rattle.std.proofs.Common.{◌≡◌, ◌≢◌, ℕ, zero, suc, ◌+◌, ◌<◌, ◌==◌, Bool, true, false, cond, nat_lt, List, [], ◌∷◌, ◌++◌, set, map, length, replicate, refl, ap, sym, ◌∙◌, subst, arith, append_assoc, append-nil, Option, Some, None}
use Rattle.std.specs.Prelude.{slice_index, slice_index_or, option_to_list}
use Rattle.std.proofs.lemmas.Bool.{eqb-true, eqb-false}
use Rattle.std.proofs.lemmas.List.{get_or-set_same, get_or-set_other, length-set, length-map, length-replicate, append_cancel_left}
use Rattle.std.proofs.lemmas.List.Elements.{filter_map-append}
use Rattle.sz_book_rules.specs.Plan.{PlanData, count_of}
use Rattle.sz_book_rules.specs.declared.event.Event.{Event}
use Rattle.sz_book_rules.specs.declared.event.Event.TheVariants.{Draw, Number, Died, Settle, LaneOut, LaneBack, Bad}
use Rattle.sz_book_rules.specs.declared.event.Reply.{Reply}
use Rattle.sz_book_rules.specs.declared.event.Reply.TheVariants.{Lane}
use Rattle.sz_book_rules.specs.Machine.{LedgerState, opening, after, Fits, list_of}
use Rattle.sz_book.specs.Lanes.{LaneData}
use Rattle.sz_book.specs.Held.{Applies}
use Rattle.sz_book.specs.Books.{ShelfData, IsInPlace, AreInPlace, IsPlain, Homes, IsGiven, HaveNoShards, lanes_home}
use Rattle.sz_book_rules.proofs.StepLemmas.{either}
use Rattle.sz_book.proofs.ReplayLemmas.{zero_at}

in_place_same : (x y : LedgerState) (homes : List (Option LaneData)) → y.outs ≡ x.outs → y.lists ≡ x.lists
    → AreInPlace x homes → AreInPlace y homes
in_place_same x y homes outs lists h = record {
  count = h.count ∙ ap (λ (l : List ℕ). length l) (sym outs);
  rows = ap (λ (l : List (List ℕ)). length l) lists ∙ h.rows ∙ ap (λ (l : List ℕ). length l) (sym outs);
  each = λ i low. subst (λ (l : List ℕ). IsInPlace (slice_index_or homes i None) (slice_index l i) (list_of y i))
      (sym outs) (subst (λ (l : List (List ℕ)). IsInPlace (slice_index_or homes i None) (slice_index x.outs i)
      (slice_index_or l i [])) (sym lists) (h.each i low));
}

-- an event of no lane leaves them
pub in_place_asked : (p : PlanData) (x : LedgerState) (event : Event) (ss : List ℕ) (homes : List (Option LaneData))
    → IsPlain event → AreInPlace x homes → AreInPlace (after p x 0 event ss) homes
in_place_asked p x Draw ss homes plain h = either (λ y. AreInPlace y homes) (nat_lt x.drawn (count_of p))
    (record x { drawn = x.drawn + 1 }) x (in_place_same x (record x { drawn = x.drawn + 1 }) homes refl refl h) h
in_place_asked p x (Number c) ss homes plain h =
    either (λ y. AreInPlace y homes) (nat_lt (slice_index x.given c.shard) p.attempts)
    (record x { given = set x.given c.shard (slice_index x.given c.shard + 1) }) x
    (in_place_same x (record x { given = set x.given c.shard (slice_index x.given c.shard + 1) }) homes refl refl h) h
in_place_asked p x (Died c k) ss homes plain h = in_place_same x (after p x 0 (Died c k) ss) homes refl refl h
in_place_asked p x (Settle c k) ss homes plain h = either (λ y. AreInPlace y homes) (slice_index x.winners c.shard
    == 0) (record x { winners = set x.winners c.shard (k + 1); unplaced = set x.unplaced c.shard (0 + 1) }) x
    (in_place_same x (record x { winners = set x.winners c.shard (k + 1); unplaced = set x.unplaced c.shard (0 + 1) })
    homes refl refl h) h
in_place_asked p x (LaneOut i) ss homes plain h = absurd plain
in_place_asked p x (LaneBack i) ss homes plain h = absurd plain
in_place_asked p x (Bad s) ss homes plain h = in_place_same x (after p x 0 (Bad s) ss) homes refl refl h

-- one lane changes its place
one_in_place : (x y : LedgerState) (homes : List (Option LaneData)) (i : ℕ) (home : Option LaneData) (out : ℕ)
    → AreInPlace x homes → i < length homes
    → y.outs ≡ set x.outs i out → IsInPlace home out (list_of y i) → ((j : ℕ) → j ≢ i → list_of y j ≡ list_of x j)
    → length y.lists ≡ length x.lists → AreInPlace y (set homes i home)
one_in_place x y homes i home out h low outs now others rows = record {
  count = length-set homes i home ∙ h.count ∙ sym (length-set x.outs i out) ∙ ap (λ (l : List ℕ). length l) (sym outs);
  rows = rows ∙ h.rows ∙ sym (length-set x.outs i out) ∙ ap (λ (l : List ℕ). length l) (sym outs);
  each = λ j within. by_place j (subst (λ (n : ℕ). j < n) (length-set homes i home) within) (j == i) refl;
} where
  by_place : (j : ℕ) → j < length homes → (b : Bool) → (j == i) ≡ b
      → IsInPlace (slice_index_or (set homes i home) j None) (slice_index y.outs j) (list_of y j)
  by_place j within true is =
      let same : i ≡ j = sym (eqb-true j i is) in
      let at : slice_index y.outs i ≡ out =
      ap (λ (l : List ℕ). slice_index l i) outs ∙ get_or-set_same x.outs i out 0 (let a = h.count in omega arith) in
      let here : slice_index_or (set homes i home) i None ≡ home = get_or-set_same homes i home None low in
      subst (λ (k : ℕ). IsInPlace (slice_index_or (set homes i home) k None) (slice_index y.outs k) (list_of y k)) same
      (subst (λ (n : ℕ). IsInPlace (slice_index_or (set homes i home) i None) n (list_of y i)) (sym at)
      (subst (λ (o : Option LaneData). IsInPlace o out (list_of y i)) (sym here) now))
  by_place j within false is =
      let other = eqb-false j i is in
      let at : slice_index y.outs j ≡ slice_index x.outs j =
      ap (λ (l : List ℕ). slice_index l j) outs ∙ get_or-set_other x.outs i j out 0 other in
      let here : slice_index_or (set homes i home) j None ≡ slice_index_or homes j None =
      get_or-set_other homes i j home None other in
      subst (λ (l : List ℕ). IsInPlace (slice_index_or (set homes i home) j None) (slice_index y.outs j) l)
      (sym (others j other))
      (subst (λ (n : ℕ). IsInPlace (slice_index_or (set homes i home) j None) n (list_of x j)) (sym at)
      (subst (λ (o : Option LaneData). IsInPlace o (slice_index x.outs j) (list_of x j)) (sym here) (h.each j within)))

-- the reply tells whether a lane was home
pub home_by : (p : PlanData) (x : LedgerState) (i : ℕ) (b : Bool) → Lane b ≡ Lane (slice_index x.outs i == 0)
    → (slice_index x.outs i == 0) ≡ b
home_by p x i b is = sym (cc is)

-- a lane is lent
pub in_place_lent : (p : PlanData) (x : LedgerState) (i : ℕ) (homes : List (Option LaneData)) → AreInPlace x homes
    → i < length x.outs → (slice_index x.outs i == 0) ≡ true
    → AreInPlace (after p x 0 (LaneOut i) []) (set homes i None)
in_place_lent p x i homes h low is =
    let y = record x { outs = set x.outs i 1 } in
    subst (λ (b : Bool). AreInPlace (cond b y x) (set homes i None)) (sym is)
    (one_in_place x y homes i None 1 h (let a = h.count in omega arith) refl refl (λ j other. refl) refl)

-- a lane comes back
pub in_place_back : (p : PlanData) (x : LedgerState) (i : ℕ) (ss : List ℕ) (lane : LaneData)
    (homes : List (Option LaneData)) → AreInPlace x homes → i < length x.outs
    → lane.shards ≡ list_of x i ++ ss → AreInPlace (after p x 0 (LaneBack i) ss) (set homes i (Some lane))
in_place_back p x i ss lane homes h low is =
    let y = after p x 0 (LaneBack i) ss in
    let list : list_of y i ≡ list_of x i ++ ss =
    get_or-set_same x.lists i (list_of x i ++ ss) [] (let a = h.rows in omega arith) in
    one_in_place x y homes i (Some lane) 0 h (let a = h.count in omega arith) refl (refl, is ∙ sym list)
    (λ j other. get_or-set_other x.lists i j (list_of x i ++ ss) [] other)
    (length-set x.lists i (list_of x i ++ ss))

-- the lanes of a new ledger
pub none_at : (n i : ℕ) → slice_index_or {A = List ℕ} (replicate n []) i [] ≡ []
none_at zero i = refl
none_at (suc n) zero = refl
none_at (suc n) (suc i) = none_at n i

empty_at : (lanes : List LaneData) (i : ℕ) → HaveNoShards lanes → i < length lanes
    → IsInPlace (slice_index_or (map (λ (l : LaneData). Some l) lanes) i None) 0 []
empty_at [] i h low = absurd (omega arith)
empty_at (l ∷ ls) zero h low = (refl, h.0)
empty_at (l ∷ ls) (suc i) h low = empty_at ls i h.1 (omega arith)

pub in_place_open : (p : PlanData) (lanes : List LaneData) → HaveNoShards lanes
    → AreInPlace (opening p (length lanes)) (map (λ (l : LaneData). Some l) lanes)
in_place_open p lanes h = record {
  count = length-map lanes (λ (l : LaneData). Some l) ∙ sym (length-replicate (length lanes) 0);
  rows = length-replicate (length lanes) [] ∙ sym (length-replicate (length lanes) 0);
  each = λ i low. subst (λ (n : ℕ). IsInPlace (slice_index_or (map (λ (l : LaneData). Some l) lanes) i None) n
      (slice_index_or (replicate (length lanes) []) i [])) (sym (zero_at (length lanes) i))
      (subst (λ (l : List ℕ). IsInPlace (slice_index_or (map (λ (l : LaneData). Some l) lanes) i None) 0 l)
      (sym (none_at (length lanes) i))
      (empty_at lanes i h (subst (λ (n : ℕ). i < n) (length-map lanes (λ (l : LaneData). Some l)) low)));
}

-- a lane that doesn't fit is dropped
pub not_given : (old : ShelfData) (i : ℕ) (lane : LaneData) (back : List ℕ)
    → lane.shards ≡ list_of old.ledger.state i ++ back
    → ¬ Fits old.ledger.plan old.ledger.state 0 (LaneBack i) back → IsGiven old i lane old
not_given old i lane back is never = record {
  home = λ further too fits. absurd (never (subst (Fits old.ledger.plan old.ledger.state 0 (LaneBack i))
      (append_cancel_left (list_of old.ledger.state i) further back (sym too ∙ is)) fits));
  dropped = λ none. refl;
}

-- a lane that comes home
pub is_given : (old new : ShelfData) (i : ℕ) (lane : LaneData) (back : List ℕ) (reply : Reply)
    → lane.shards ≡ list_of old.ledger.state i ++ back → Applies old.ledger (LaneBack i) back reply new.ledger
    → new.homes ≡ set old.homes i (Some lane) → IsGiven old i lane new
is_given old new i lane back reply is t homes = record {
  home = λ further too fits. subst (λ (l : List ℕ). Homes old i lane l new)
      (append_cancel_left (list_of old.ledger.state i) back further (sym is ∙ too))
      (subst (λ (r : Reply). Applies old.ledger (LaneBack i) back r new.ledger) t.step.answer t, homes);
  dropped = λ none. absurd (none back is t.step.fits);
}

-- the lanes that were taken, with the lane of one more home where it is there
pub one_more_home : (before taken : List LaneData) (homes : List (Option LaneData)) (home : Option LaneData)
    → taken ≡ before ++ lanes_home homes → taken ++ option_to_list home ≡ before ++ lanes_home (homes ++ home ∷ [])
one_more_home before taken homes (Some lane) is = ap (λ (l : List LaneData). l ++ lane ∷ []) is
    ∙ append_assoc before (lanes_home homes) (lane ∷ []) ∙ ap (λ (l : List LaneData). before ++ l)
    (sym (filter_map-append (λ (o : Option LaneData). o) homes (Some lane ∷ [])))
one_more_home before taken homes None is = append-nil taken ∙ is
    ∙ ap (λ (l : List LaneData). before ++ l)
    (sym (filter_map-append (λ (o : Option LaneData). o) homes (None ∷ []) ∙ append-nil (lanes_home homes)))
