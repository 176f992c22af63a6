-- The rule holds at the start, and what it says at the end.
use Rattle.std.proofs.Common.{Option, Some, ◌≡◌, ◌≢◌, ℕ, zero, suc, ◌+◌, ◌*◌, ◌^◌, ◌<◌, ◌≤◌, List, [], ◌∷◌, ◌++◌, length, replicate, refl, ap, sym, ◌∙◌}
use Rattle.std.proofs.Common.{subst, inl, ⊎_elim, arith}
use Rattle.std.specs.Prelude.{map, slice_index, slice_index_or}
use Rattle.std.proofs.lemmas.List.{length-replicate}
use mathlib.Core.Option.{Option as Maybe, some, some-injective, some-ne-none}
use mathlib.Core.Logic.{dite}
use native.Mathlib.Decide.{ℕ_discrete}
use lib.ListN.{get_elem?}
use Rattle.atomic_table.specs.Table.{State, Final, Seen, opening as table_opening}
use Rattle.sz_book_rules.specs.Plan.{PlanData}
use Rattle.sz_book_rules.specs.declared.event.Entry.{Entry}
use Rattle.sz_claims.specs.declared.view.Account.{Account}
use Rattle.sz_claims.specs.declared.view.View.{View}
use Rattle.sz_book_rules.specs.Plan.{IsPlan}
use Rattle.sz_book.specs.Lanes.{LaneData}
use Rattle.sz_book_rules.specs.Machine.{opening, list_of}
use Rattle.sz_book_rules.specs.History.{state_after, IsLegal}
use Rattle.sz_book_rules.specs.Machine.{LedgerState}
use Rattle.sz_claims.specs.Rule.{lane_data, turn_at, Slot, Shows, IsTrueOf, IsAt, Kept, weights, newcomer, number_at, deaths_at, settled_at, bad_at}
use Rattle.sz_claims.specs.Known.{PassData, pass_data, AreEmpty, IsEnd, IsClosed, least_of, ends_in}
use Rattle.sz_book_rules.proofs.HistoryLemmas.{starts_empty}
use Rattle.sz_claims.proofs.WordLemmas.{below}
use Rattle.sz_book.proofs.ReplayLemmas.{zero_at}
use Rattle.atomic_table.specs.Seated.{TableId}
use Rattle.sz_book.proofs.ShelfLemmas.{none_at}

-- zeros round one number
zero_else : (a b y k : ℕ) → k ≢ a → slice_index (replicate a 0 ++ y ∷ replicate b 0) k ≡ 0
zero_else zero b y zero ne = absurd (ne refl)
zero_else zero b y (suc k) ne = zero_at b k
zero_else (suc a) b y zero ne = refl
zero_else (suc a) b y (suc k) ne = zero_else a b y k (λ e. ne (ap suc e))

one_at : (a y : ℕ) (rest : List ℕ) → slice_index (replicate a 0 ++ y ∷ rest) a ≡ y
one_at zero y rest = refl
one_at (suc a) y rest = one_at a y rest

one_length : (a y : ℕ) (rest : List ℕ) → length (replicate a 0 ++ y ∷ rest) ≡ a + 1 + length rest
one_length zero y rest = omega arith
one_length (suc a) y rest = let h = one_length a y rest in omega arith

-- a lane that is given to a new ledger is in its slot, and empty
empty_home : (p : PlanData) (all : List LaneData) (i : ℕ) → AreEmpty p all → i < length all
    → get_elem? (map some (map (λ (l : LaneData). Some l) all)) i ≡ some (some (Some (lane_data p [])))
empty_home p [] i h low = absurd (omega arith)
empty_home p (l ∷ ls) zero h low =
    let is : l ≡ lane_data p [] = λ k. record { plan = h.0 k; shards = h.1 k } in ap (λ (x : LaneData). some (some (Some x))) is
empty_home p (l ∷ ls) (suc i) h low = empty_home p ls i h.2 (omega arith)

homes_length : (all : List LaneData) → length (map some (map (λ (l : LaneData). Some l) all)) ≡ length all
homes_length [] = refl
homes_length (l ∷ ls) = ap suc (homes_length ls)

alone : (v : View) (i : ℕ) (u : View) → get_elem? (v ∷ []) i ≡ some u → (i ≡ 0) × (v ≡ u)
alone v zero u e = (refl, some-injective v u e)
alone v (suc i) u e = absurd (some-ne-none u (sym e))

none_in : {P : Type 0} (k : ℕ) (a : Account) → get_elem? [] k ≡ some a → P
none_in k a e = absurd (some-ne-none a (sym e))

pub opens : (died : ℕ → ℕ → Type 0) (is_bad : ℕ → Type 0) (p : PlanData) (lanes : ℕ) (words : List ℕ) (slots : List Slot) (all : List LaneData)
    → IsPlan p → words ≡ replicate (3 * p.shards + 1) 0 ++ 2 ^ 32 ∷ replicate lanes 0 → slots ≡ map (λ (l : LaneData). Some l) all
    → lanes ≡ length all → AreEmpty p all → Kept died is_bad p lanes (table_opening {S = Slot} words slots (newcomer p lanes))
opens died is_bad p lanes words slots all plan are slots_are count empty =
    let n : ℕ = 3 * p.shards + 1 in
    let v : View = newcomer p lanes in
    let at : (i : ℕ) → i ≢ n → slice_index words i ≡ 0 = λ i ne.
    ap (λ (l : List ℕ). slice_index l i) are ∙ zero_else n lanes (2 ^ 32) i ne in
    let row : (s : ℕ) → slice_index (replicate p.shards 0) s ≡ 0 = zero_at p.shards in
    let out : (i : ℕ) → slice_index (replicate lanes 0) i ≡ 0 = zero_at lanes in record {
      log = [];
      made = 1;
      joined = [];
      plan = plan;
      legal = record { from = tt };
      reports = tt;
      borrowed = record {
        once = λ i j k u w a b has has'. (alone v i u a.0).0 ∙ sym (alone v j w b.0).0;
        each = λ k low one. let none = out k in absurd (omega arith);
      };
      shows = record {
        unplaced = length-replicate p.shards 0;
        slots = record {
          counts = (
            ap (λ (l : List Slot). length (map some l)) slots_are ∙ homes_length all ∙ sym count,
            length-replicate lanes 0,
            length-replicate lanes [],
          );
          turns = λ i low. at (turn_at p i) (omega arith) ∙ sym (out i);
          home = λ i low zeroth.
              ap (λ (l : List Slot). get_elem? (map some l) i) slots_are ∙ empty_home p all i empty (omega arith)
              ∙ ap (λ (l : List ℕ). some (some (Some (lane_data p l)))) (sym (none_at lanes i));
          out = λ i low more. absurd (more (out i));
        };
        count = ap length are ∙ one_length n (2 ^ 32) (replicate lanes 0) ∙ ap (λ (k : ℕ). n + 1 + k) (length-replicate lanes 0) ∙ (omega arith);
        rows = (length-replicate p.shards 0, length-replicate p.shards 0, length-replicate p.shards 0);
        drawn = let a = at 0 (omega arith) in omega arith;
        given = λ s low. (let a = at (number_at s) (omega arith) in let b = row s in omega arith);
        deaths = λ s low. row s ∙ sym (at (deaths_at s) (omega arith));
        winners = λ s low. row s ∙ sym (at (settled_at s) (omega arith));
        least_bad = sym (ap (λ (l : List ℕ). slice_index l (bad_at p)) are ∙ one_at n (2 ^ 32) (replicate lanes 0));
      };
      bounded = record {
        tickets = (let a = at 0 (omega arith) in omega arith);
        numbers = λ s low. (let a = at (number_at s) (omega arith) in
            omega arith);
      };
      small = omega arith;
      numbered = record {
        apart = λ i j u w a b e. (alone v i u a.0).0 ∙ sym (alone v j w b.0).0;
        numbers = λ k a e. none_in k a e;
        away = λ k a e. none_in k a e;
        once = λ j k a b e. none_in j a e;
        covers = λ m low. inl (0, v, (refl, omega arith), omega arith);
        whole = omega arith;
      };
      knows = λ i u a.
          subst (λ (x : View). IsTrueOf p lanes [] (opening p lanes) 1 [] x) (alone v i u a.0).1
          record {
            plan = refl;
            lanes_are = refl;
            lane = λ k has. absurd (omega arith);
            seen = starts_empty [];
            told = starts_empty [];
            mine = refl;
            number = omega arith;
            first = λ e. (refl, refl, omega arith);
            alone = λ high. refl;
          };
      closed = λ k a e. none_in k a e;
      others = λ m above. refl;
    }

-- two views weigh no more than all
one_weighs : (vs : List View) (i : ℕ) (v : View) → get_elem? vs i ≡ some v → v.weight ≤ weights vs
one_weighs [] i v e = absurd (some-ne-none v (sym e))
one_weighs (x ∷ xs) zero v e = let same : x.weight ≡ v.weight = ap (λ (u : View). u.weight) (some-injective x v e) in omega arith
one_weighs (x ∷ xs) (suc i) v e = let h = one_weighs xs i v e in omega arith

two_weigh : (vs : List View) (i j : ℕ) (v u : View) → i ≢ j → get_elem? vs i ≡ some v → get_elem? vs j ≡ some u → v.weight + u.weight ≤ weights vs
two_weigh [] i j v u ne e f = absurd (some-ne-none v (sym e))
two_weigh (x ∷ xs) zero zero v u ne e f = absurd (ne refl)
two_weigh (x ∷ xs) zero (suc j) v u ne e f = let same : x.weight ≡ v.weight = ap (λ (y : View). y.weight) (some-injective x v e) in
    let h = one_weighs xs j u f in omega arith
two_weigh (x ∷ xs) (suc i) zero v u ne e f = let same : x.weight ≡ u.weight = ap (λ (y : View). y.weight) (some-injective x u f) in
    let h = one_weighs xs i v e in omega arith
two_weigh (x ∷ xs) (suc i) (suc j) v u ne e f = let h = two_weigh xs i j v u (λ s. ne (ap suc s)) e f in omega arith

-- each lane is in its slot, with the list that it has in the state
abbrev pub AreHome : PlanData → ℕ → List (Maybe Slot) → LedgerState → Type 0
AreHome p lanes homes x = (k : ℕ) → k < lanes → get_elem? homes k ≡ some (some (Some (lane_data p (list_of x k))))

-- the end of a ledger: its history, and what the words and the slots then have
record IsLast (died : ℕ → ℕ → Type 0) (is_bad : ℕ → Type 0) (v : PassData) (words : List ℕ) (homes : List (Maybe Slot)) : Type 0 where
  log : List Entry
  end : IsEnd died is_bad v log
  shows : Shows v.ledger.plan v.ledger.lanes words homes (ends_in v log)
  home : AreHome v.ledger.plan v.ledger.lanes homes (ends_in v log)

ends : (died : ℕ → ℕ → Type 0) (is_bad : ℕ → Type 0) (p : PlanData) (lanes : ℕ) (s : State Slot View) (id : ℕ) (v : View) (z : TableId)
    (limit : ℕ) → Kept died is_bad p lanes s → get_elem? s.views id ≡ some v → 0 < v.weight → v.number ≡ 0
    → length v.joined + 1 ≡ v.made → v.lane ≡ 0 → IsLast died is_bad (pass_data z limit v) s.words s.homes
ends died is_bad p lanes s id v z limit h at live zeroth all idle =
    let here : IsAt s.views id v = (at, live) in
    let t = h.knows id v here in
    let f = t.first zeroth in
    let x : LedgerState = state_after p (opening p lanes) h.log in
    let weight : v.weight ≡ weights s.views = (let a = f.0 in let b = f.2 in let c = ap length f.1 in let w = h.numbered.whole in omega arith) in
    let own : (j : ℕ) (u : View) → IsAt s.views j u → v ≡ u = λ j u there. dite (ℕ_discrete id j)
    (λ (e : id ≡ j). some-injective v u (sym at ∙ ap (λ k. get_elem? s.views k) e ∙ there.0))
    (λ (ne : id ≢ j). let two = two_weigh s.views id j v u ne at there.0 in let more = there.1 in absurd (omega arith)) in
    let in_plan : (P : PlanData → ℕ → Type 0) → P p lanes → P v.plan v.lanes = λ P has.
    subst (λ (q : PlanData). P q v.lanes) (sym t.plan) (subst (λ (n : ℕ). P p n) (sym t.lanes_are) has) in
    let home : AreHome p lanes s.homes x = λ k low.
    h.shows.slots.home k low (dite (ℕ_discrete (slice_index x.outs k) 0) (λ (is : slice_index x.outs k ≡ 0). is)
    (λ (out : slice_index x.outs k ≢ 0).
    let c = h.borrowed.each k low (h.shows.slots.out k low out) in
    let lane : v.lane ≡ k + 1 = ap (λ (u : View). u.lane) (own c.0 c.1 c.2) ∙ c.3 in
    absurd (omega arith))) in record {
      log = h.log;
      end = record {
        legal = in_plan (λ q n. IsLegal q n h.log) h.legal;
        seen = t.seen;
        mine = t.mine;
        joined = λ k a e. h.closed k a (subst (λ (l : List Account). get_elem? l k ≡ some a) f.1 e);
        others = λ n mine other. ⊎_elim
            (λ (low : n < h.made). ⊎_elim
            (λ (c : (j : ℕ) × (u : View) × IsAt s.views j u × (u.number ≡ n)).
            absurd (mine (sym c.3 ∙ ap (λ (y : View). y.number) (sym (own c.0 c.1 c.2)) ∙ zeroth)))
            (λ (c : (k : ℕ) × (a : Account) × (get_elem? h.joined k ≡ some a) × (a.number ≡ n)).
            absurd (other c.0 c.1 (subst (λ (l : List Account). get_elem? l c.0 ≡ some c.1) (sym f.1) c.2) c.3))
            (h.numbered.covers n low))
            (λ (high : h.made ≤ n). h.others n high)
            (below n h.made);
        reports = h.reports;
      };
      shows = in_plan (λ q n. Shows q n s.words s.homes (state_after q (opening q n) h.log)) h.shows;
      home = in_plan (λ q n. AreHome q n s.homes (state_after q (opening q n) h.log)) home;
    }

-- two lists with the same elements
pub same_lists : (ws xs : List ℕ) → length ws ≡ length xs → ((k : ℕ) → k < length ws → slice_index ws k ≡ slice_index xs k) → ws ≡ xs
same_lists [] [] e h = refl
same_lists [] (x ∷ xs) e h = absurd (omega arith)
same_lists (w ∷ ws) [] e h = absurd (omega arith)
same_lists (w ∷ ws) (x ∷ xs) e h =
    let first : w ≡ x = h 0 (omega arith) in
    let rest : ws ≡ xs = same_lists ws xs (omega arith) (λ k low. h (suc k) (omega arith)) in
    λ i. first i ∷ rest i

reads : (ws : List ℕ) (i n : ℕ) → get_elem? ws i ≡ some n → slice_index ws i ≡ n
reads [] i n e = absurd (some-ne-none n (sym e))
reads (w ∷ ws) zero n e = some-injective w n e
reads (w ∷ ws) (suc i) n e = reads ws i n e

-- the slots of lanes that are home are those of the state's lists
lanes_are : (p : PlanData) (slots : List Slot) (lists : List (List ℕ)) → length slots ≡ length lists
    → ((k : ℕ) → k < length slots → get_elem? slots k ≡ some (Some (lane_data p (slice_index_or lists k []))))
    → slots ≡ map (λ (l : LaneData). Some l) (map (lane_data p) lists)
lanes_are p [] [] long h = refl
lanes_are p [] (l ∷ ls) long h = absurd (omega arith)
lanes_are p (s ∷ ss) [] long h = absurd (omega arith)
lanes_are p (s ∷ ss) (l ∷ ls) long h =
    let first : s ≡ Some (lane_data p l) = some-injective s (Some (lane_data p l)) (h 0 (omega arith)) in
    let rest : ss ≡ map (λ (l : LaneData). Some l) (map (lane_data p) ls) = lanes_are p ss ls (omega arith) (λ k low. h (suc k) (omega arith)) in
    λ i. first i ∷ rest i

-- the end of a ledger: its history, what the words have, and the lanes in the slots
pub record IsAtEnd (died : ℕ → ℕ → Type 0) (is_bad : ℕ → Type 0) (v : PassData) (words : List ℕ) (slots : List Slot) : Type 0 where
  pub log : List Entry
  pub end : IsEnd died is_bad v log
  pub homes : List (Maybe Slot)
  pub shows : Shows v.ledger.plan v.ledger.lanes words homes (ends_in v log)
  pub lanes : slots ≡ map (λ (l : LaneData). Some l) (map (lane_data v.ledger.plan) (ends_in v log).lists)

-- a table was closed with the seat of the first pass, once all others were joined
pub ended : (died : ℕ → ℕ → Type 0) (is_bad : ℕ → Type 0) (p : PlanData) (lanes id : ℕ) (v : View) (z : TableId) (limit : ℕ) (k : PassData)
    (words : List ℕ) (slots : List Slot) → Final (Seen (Kept died is_bad p lanes) id v) words slots → 0 < v.weight → pass_data z limit v ≡ k
    → k.number ≡ 0 → length k.joined + 1 ≡ k.made → k.lane ≡ 0 → IsAtEnd died is_bad k words slots
ended died is_bad p lanes id v z limit k words slots f live is zeroth all idle =
    let Joined : PassData → Type 0 = λ x. length x.joined + 1 ≡ x.made in
    let e : IsLast died is_bad (pass_data z limit v) f.0.words f.0.homes =
    ends died is_bad p lanes f.0 id v z limit f.1.0 f.1.1 live (ap (λ (x : PassData). x.number) is ∙ zeroth) (subst Joined (sym is) all)
    (ap (λ (x : PassData). x.lane) is ∙ idle) in
    let x : LedgerState = ends_in (pass_data z limit v) e.log in
    let c = e.shows.slots.counts in
    subst (λ (u : PassData). IsAtEnd died is_bad u words slots) is
    record {
      log = e.log;
      end = e.end;
      homes = f.0.homes;
      shows = subst (λ (ws : List ℕ). Shows v.plan v.lanes ws f.0.homes x) f.2 e.shows;
      lanes = lanes_are v.plan slots x.lists (sym f.3 ∙ c.0 ∙ sym c.2)
          (λ j low. f.4 j (Some (lane_data v.plan (list_of x j))) (e.home j (let a = f.3 in let b = c.0 in omega arith)));
    }

-- two lists of lanes that fill the same slots are one
pub same_lanes : (ls ks : List LaneData) → map (λ (l : LaneData). Some l) ls ≡ map (λ (l : LaneData). Some l) ks → ls ≡ ks
same_lanes [] [] e = refl
same_lanes [] (k ∷ ks) e = absurd (let long = ap length e in omega arith)
same_lanes (l ∷ ls) [] e = absurd (let long = ap length e in omega arith)
same_lanes (l ∷ ls) (k ∷ ks) e =
    let first : l ≡ k = cc e in
    let later : map (λ (x : LaneData). Some x) ls ≡ map (λ (x : LaneData). Some x) ks = cc e in
    let rest : ls ≡ ks = same_lanes ls ks later in
    λ i. first i ∷ rest i

-- what was read of the words and taken from the slots is what the state has
pub closes : (p : PlanData) (lanes : ℕ) (words : List ℕ) (homes : List (Maybe Slot)) (x : LedgerState) (all : List LaneData)
    (settled deaths : List ℕ) (bad : ℕ) (least : Option ℕ) → Shows p lanes words homes x → all ≡ map (lane_data p) x.lists
    → length settled ≡ p.shards → ((s : ℕ) → s < length settled → get_elem? words (settled_at s) ≡ some (slice_index settled s))
    → length deaths ≡ p.shards → ((s : ℕ) → s < length deaths → get_elem? words (deaths_at s) ≡ some (slice_index deaths s))
    → get_elem? words (bad_at p) ≡ some bad → least ≡ least_of bad → IsClosed p x all settled deaths least
closes p lanes words homes x all settled deaths bad least h taken long each long' each' last is = record {
  lanes = taken;
  settled = same_lists settled x.winners (long ∙ sym h.rows.2)
      (λ k low. sym (reads words (settled_at k) (slice_index settled k) (each k low)) ∙ sym (h.winners k (omega arith)));
  deaths = same_lists deaths x.deaths (long' ∙ sym h.rows.1)
      (λ k low. sym (reads words (deaths_at k) (slice_index deaths k) (each' k low)) ∙ sym (h.deaths k (omega arith)));
  least_bad = is ∙ ap least_of (sym (reads words (bad_at p) bad last) ∙ sym h.least_bad);
}
