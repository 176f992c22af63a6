-- A lane is lent, and comes back.
use Rattle.std.proofs.Common.{◌≡◌, ◌≢◌, ℕ, ◌+◌, ◌*◌, ◌<◌, ◌==◌, min, Bool, MatchBool, true, false, cond, List, [], ◌∷◌, ◌++◌, set, length}
use Rattle.std.proofs.Common.{refl, ap, sym, ◌∙◌, subst, inl, inr, ⊎_elim, arith, Some, None, length-set, eq-eqb, ne_eqb}
use Rattle.std.specs.Prelude.{slice_index, slice_index_or}
use Rattle.std.proofs.lemmas.List.{get_or-set_same, get_or-set_other, set-get_or}
use mathlib.Core.Option.{Option as Maybe, none, some}
use mathlib.Core.Logic.{dite}
use native.Mathlib.Decide.{ℕ_discrete}
use lib.ListN.{get_elem?}
use prog.Atomic.{either}
use Rattle.atomic_table.specs.Table.{Me, Allows, Act, keeps, takes, gives, Valid, stepped, carried_after, rest}
use Rattle.atomic_table.proofs.Lists.{exchanged, set_else, set_here}
use Rattle.sz_book_rules.specs.Plan.{PlanData, count_of}
use Rattle.sz_book_rules.specs.declared.event.Event.TheVariants.{LaneOut, LaneBack}
use Rattle.sz_book_rules.specs.declared.event.Reply.TheVariants.{Noted, Lane}
use Rattle.sz_book_rules.specs.declared.event.Entry.{Entry}
use Rattle.sz_book_rules.specs.Machine.{LedgerState, opening, after, reply_of, list_of, placed}
use Rattle.sz_book_rules.specs.History.{entry, state_after, IsLegal}
use Rattle.sz_claims.specs.declared.view.View.{View}
use Rattle.sz_claims.specs.Rule.{view_of, slots_out, Slot, ShowsLanes, Shows, lane_data, turn_at, number_at, deaths_at, settled_at, bad_at, IsAt, Kept, calling, Called, list_seen}
use Rattle.sz_claims.specs.Rule.{Lent, IsAsked, Given}
use Rattle.sz_claims.specs.Known.{AreInHand}
use Rattle.sz_book_rules.proofs.HistoryLemmas.{state_after-snoc, legal-snoc}
use Rattle.sz_claims.proofs.CallLemmas.{kept_after, follows, borrowed_by}
use Rattle.sz_claims.proofs.UnplacedLemmas.{placed_length, are_unplaced}
use Rattle.sz_claims.proofs.WordLemmas.{set_other, bound_other}

-- the word of a lane changes, and so do the state's lanes
turn_shows : (p : PlanData) (lanes i n : ℕ) (words : List ℕ) (homes homes' : List (Maybe Slot)) (x : LedgerState) (outs : List ℕ)
    (lists : List (List ℕ)) (unplaced : List ℕ) → Shows p lanes words homes x → length unplaced ≡ p.shards
    → ShowsLanes p lanes (set words (turn_at p i) n) homes' outs lists
    → Shows p lanes (set words (turn_at p i) n) homes' (record x { outs = outs; lists = lists; unplaced = unplaced })
turn_shows p lanes i n words homes homes' x outs lists unplaced h long slots =
    let j : ℕ = turn_at p i in record {
      count = length-set words j n ∙ h.count;
      rows = h.rows;
      unplaced = long;
      drawn = h.drawn ∙ ap (λ (k : ℕ). min k (count_of p)) (sym (set_other words j 0 n (omega arith)));
      given = λ s low. h.given s low ∙ ap (λ (k : ℕ). min k p.attempts) (sym (set_other words j (number_at s) n (omega arith)));
      deaths = λ s low. h.deaths s low ∙ sym (set_other words j (deaths_at s) n (omega arith));
      winners = λ s low. h.winners s low ∙ sym (set_other words j (settled_at s) n (omega arith));
      least_bad = h.least_bad ∙ sym (set_other words j (bad_at p) n (omega arith));
      slots = slots;
    }

-- two lanes have two words
turns_apart : (p : PlanData) (i j : ℕ) → j ≢ i → turn_at p j ≢ turn_at p i
turns_apart p i j ne e = ne (omega arith)

-- the word of a lane and its mark in the state change alike
turn_set : (p : PlanData) (lanes i n : ℕ) (words : List ℕ) (outs : List ℕ) → i < lanes → length words ≡ 3 * p.shards + 2 + lanes → length outs ≡ lanes
    → ((j : ℕ) → j < lanes → slice_index words (turn_at p j) ≡ slice_index outs j)
    → (j : ℕ) → j < lanes → slice_index (set words (turn_at p i) n) (turn_at p j) ≡ slice_index (set outs i n) j
turn_set p lanes i n words outs low count long turns j low' = dite (ℕ_discrete j i)
    (λ (e : j ≡ i).
    let P : ℕ → Type 0 = λ k. slice_index (set words (turn_at p i) n) (turn_at p k) ≡ slice_index (set outs i n) k in
    let here : P i = get_or-set_same words (turn_at p i) n 0 (omega arith) ∙ sym (get_or-set_same outs i n 0 (omega arith)) in
    subst P (sym e) here)
    (λ (ne : j ≢ i).
    get_or-set_other words (turn_at p i) (turn_at p j) n 0 (turns_apart p i j ne) ∙ turns j low' ∙ sym (get_or-set_other outs i j n 0 ne))

lent_slots : (p : PlanData) (lanes i : ℕ) (words : List ℕ) (homes : List (Maybe Slot)) (outs : List ℕ) (lists : List (List ℕ)) → i < lanes
    → length words ≡ 3 * p.shards + 2 + lanes → ShowsLanes p lanes words homes outs lists
    → ShowsLanes p lanes (set words (turn_at p i) 1) (set homes i none) (set outs i 1) lists
lent_slots p lanes i words homes outs lists low count h =
    let c = h.counts in
    let one : slice_index (set outs i 1) i ≡ 1 = get_or-set_same outs i 1 0 (omega arith) in record {
      counts = (length-set homes i none ∙ c.0, length-set outs i 1 ∙ c.1, c.2);
      turns = turn_set p lanes i 1 words outs low count c.1 h.turns;
      home = λ j low' zeroth. dite (ℕ_discrete j i)
          (λ (e : j ≡ i). let is : slice_index (set outs i 1) j ≡ 1 = ap (slice_index (set outs i 1)) e ∙ one in absurd (omega arith))
          (λ (ne : j ≢ i). set_else homes i j none ne ∙ h.home j low' (sym (get_or-set_other outs i j 1 0 ne) ∙ zeroth));
      out = λ j low' more. dite (ℕ_discrete j i)
          (λ (e : j ≡ i). ap (slice_index (set outs i 1)) e ∙ one)
          (λ (ne : j ≢ i). get_or-set_other outs i j 1 0 ne ∙ h.out j low' (λ z. more (get_or-set_other outs i j 1 0 ne ∙ z)));
    }

back_slots : (p : PlanData) (lanes i : ℕ) (words : List ℕ) (homes : List (Maybe Slot)) (outs : List ℕ) (lists : List (List ℕ)) (list : List ℕ)
    → i < lanes → length words ≡ 3 * p.shards + 2 + lanes → ShowsLanes p lanes words homes outs lists
    → ShowsLanes p lanes (set words (turn_at p i) 0) (set homes i (some (Some (lane_data p list)))) (set outs i 0) (set lists i list)
back_slots p lanes i words homes outs lists list low count h =
    let c = h.counts in
    let lane : Maybe Slot = some (Some (lane_data p list)) in
    let zeroth : slice_index (set outs i 0) i ≡ 0 = get_or-set_same outs i 0 0 (omega arith) in record {
      counts = (length-set homes i lane ∙ c.0, length-set outs i 0 ∙ c.1, length-set lists i list ∙ c.2);
      turns = turn_set p lanes i 0 words outs low count c.1 h.turns;
      home = λ j low' none'. dite (ℕ_discrete j i)
          (λ (e : j ≡ i).
          let P : ℕ → Type 0 = λ k. get_elem? (set homes i lane) k ≡ some (some (Some (lane_data p (slice_index_or (set lists i list) k [])))) in
          let here : P i = set_here homes i lane (omega arith)
          ∙ ap (λ (l : List ℕ). some (some (Some (lane_data p l)))) (sym (get_or-set_same lists i list [] (omega arith))) in
          subst P (sym e) here)
          (λ (ne : j ≢ i).
          set_else homes i j lane ne ∙ h.home j low' (sym (get_or-set_other outs i j 0 0 ne) ∙ none')
          ∙ ap (λ (l : List ℕ). some (some (Some (lane_data p l)))) (sym (get_or-set_other lists i j list [] ne)));
      out = λ j low' more. dite (ℕ_discrete j i)
          (λ (e : j ≡ i). absurd (more (ap (slice_index (set outs i 0)) e ∙ zeroth)))
          (λ (ne : j ≢ i). get_or-set_other outs i j 0 0 ne ∙ h.out j low' (λ z. more (get_or-set_other outs i j 0 0 ne ∙ z)));
    }

-- the step by which a pass asks for a lane
pub lends : (died : ℕ → ℕ → Type 0) (is_bad : ℕ → Type 0) (p : PlanData) (lanes slots id : ℕ) (me : Me Slot View) (i : ℕ) → i < lanes
    → 0 < (view_of me).weight → (view_of me).lane ≡ 0
    → Allows (Kept died is_bad p lanes) slots id me (turn_at p i) (λ m. either (m == 0) 1 m) (Lent i me)
lends died is_bad p lanes slots id me i low live idle s h same at fits =
    let v : View = view_of me in
    let here : IsAt s.views id v = (at, live) in
    let t = h.knows id v here in
    let x : LedgerState = state_after p (opening p lanes) h.log in
    let j : ℕ = turn_at p i in
    let m : ℕ = slice_index s.words j in
    let c = h.shows.slots.counts in
    let turn : m ≡ slice_index x.outs i = h.shows.slots.turns i low in
    let y : LedgerState = after p x v.number (LaneOut i) [] in
    let F : ℕ → Type 0 = λ n. (w : View) × (a : Act Slot) × Valid s.homes (slots_out me) a × Kept died is_bad p lanes (stepped s j n id (slots_out me) w a)
    × Lent i me m (w, carried_after (slots_out me) a) in
    exchanged m 0 1 F
    (λ (hit : m ≡ 0).
    let e : Entry = entry v.number (LaneOut i) [] (Lane true) in
    let list : List ℕ = list_of x i in
    let w : View = calling v h.log e (i + 1) list in
    let zeroth : slice_index x.outs i ≡ 0 = sym turn ∙ hit in
    let answer : Lane true ≡ reply_of p x (LaneOut i) = ap Lane (sym (eq-eqb (slice_index x.outs i) 0 zeroth)) in
    let legal : IsLegal p lanes (h.log ++ e ∷ []) = legal-snoc p lanes h.log e h.legal (refl, omega arith) answer in
    let z : LedgerState = record x { outs = set x.outs i 1 } in
    let next : y ≡ z = ap (λ (b : Bool). cond b z x) (eq-eqb (slice_index x.outs i) 0 zeroth) in
    let outs : (k : ℕ) → slice_index y.outs k ≡ slice_index (set x.outs i 1) k = λ k. ap (λ (q : LedgerState). slice_index q.outs k) next in
    let lists : (k : ℕ) → list_of y k ≡ list_of x k = λ k. ap (λ (q : LedgerState). list_of q k) next in
    let one : slice_index (set x.outs i 1) i ≡ 1 = get_or-set_same x.outs i 1 0 (omega arith) in
    let Seen : PlanData → ℕ → Type 0 = λ q n. list ≡ list_of (state_after q (opening q n) (h.log ++ e ∷ [])) i in
    let seen : Seen p lanes = sym (ap (λ (q : LedgerState). list_of q i) (state_after-snoc p (opening p lanes) h.log e) ∙ lists i) in
    let seen' : list ≡ list_seen w i = subst (λ (q : PlanData). Seen q v.lanes) (sym t.plan) (subst (λ (n : ℕ). Seen p n) (sym t.lanes_are) seen) in
    let in_slots : List (ℕ × Slot) = (i, Some (lane_data p list)) ∷ slots_out me in
    let Has : Type 0 = (list' : List ℕ) × Called v (LaneOut i) [] (Lane true) (i + 1) list' w × (list' ≡ list_seen w i)
    × (in_slots ≡ (i, Some (lane_data v.plan list')) ∷ slots_out me) in
    let has : Has = (
      list,
      (h.log, refl, follows died is_bad p lanes s h id v e (i + 1) list here refl legal),
      seen',
      ap (λ (q : PlanData). (i, Some (lane_data q list)) ∷ slots_out me) (sym t.plan),
    ) in (
      w,
      takes i (Some (lane_data p list)),
      h.shows.slots.home i low zeroth,
      kept_after died is_bad p lanes s h id v e (i + 1) list (set s.words j 1) (set s.homes i none)
          record {
            at = here;
            by = refl;
            fits = (refl, omega arith);
            answer = answer;
            report = tt;
            shows = subst (λ (q : LedgerState). Shows p lanes (set s.words j 1) (set s.homes i none) q) (sym next)
                (turn_shows p lanes i 1 s.words s.homes (set s.homes i none) x (set x.outs i 1) x.lists x.unplaced h.shows h.shows.unplaced
                (lent_slots p lanes i s.words s.homes x.outs x.lists low h.shows.count h.shows.slots));
            bounded = bound_other p s.words h.log h.made j 1 e h.bounded (omega arith) (λ k low'. omega arith);
            mine = λ k is. let e' : k ≡ i = omega arith in
                (omega arith, outs k ∙ ap (slice_index (set x.outs i 1)) e' ∙ one, lists k ∙ ap (list_of x) e');
            away = λ k u there ne n has'.
                let l = (h.knows k u there).lane n has' in
                let apart : n ≢ i = (λ e'. let o = ap (slice_index x.outs) e' in let o' = l.1 in absurd (omega arith)) in
                ((λ e'. apart (omega arith)), outs n ∙ get_or-set_other x.outs i n 1 0 apart, lists n);
            borrowed = λ k low' out. dite (ℕ_discrete k i)
                (λ (e' : k ≡ i). inl (ap (λ n. n + 1) (sym e')))
                (λ (ne : k ≢ i). ⊎_elim
                (λ (own : v.lane ≡ k + 1). absurd (omega arith))
                inr
                (borrowed_by p lanes s.views id v x here h.borrowed k low' (sym (get_or-set_other x.outs i k 1 0 ne) ∙ sym (outs k) ∙ out)));
          },
      subst (λ (b : Bool). MatchBool b Has (Called v (LaneOut i) [] (Lane false) v.lane v.lent w × (in_slots ≡ slots_out me))) (sym (eq-eqb m 0 hit)) has,
    ))
    (λ (miss : m ≢ 0).
    let e : Entry = entry v.number (LaneOut i) [] (Lane false) in
    let w : View = calling v h.log e v.lane v.lent in
    let more : slice_index x.outs i ≢ 0 = λ z. miss (turn ∙ z) in
    let answer : Lane false ≡ reply_of p x (LaneOut i) = ap Lane (sym (ne_eqb (slice_index x.outs i) 0 more)) in
    let legal : IsLegal p lanes (h.log ++ e ∷ []) = legal-snoc p lanes h.log e h.legal (refl, omega arith) answer in
    let stay : y ≡ x = ap (λ (b : Bool). cond b (record x { outs = set x.outs i 1 }) x) (ne_eqb (slice_index x.outs i) 0 more) in
    let outs : (k : ℕ) → slice_index y.outs k ≡ slice_index x.outs k = λ k. ap (λ (q : LedgerState). slice_index q.outs k) stay in
    let lists : (k : ℕ) → list_of y k ≡ list_of x k = λ k. ap (λ (q : LedgerState). list_of q k) stay in
    let words : set s.words j m ≡ s.words = set-get_or s.words j 0 in
    let Has : Type 0 = (list' : List ℕ) × Called v (LaneOut i) [] (Lane true) (i + 1) list' w × (list' ≡ list_seen w i)
    × (slots_out me ≡ (i, Some (lane_data v.plan list')) ∷ slots_out me) in (
      w,
      keeps,
      tt,
      kept_after died is_bad p lanes s h id v e v.lane v.lent (set s.words j m) s.homes
          record {
            at = here;
            by = refl;
            fits = (refl, omega arith);
            answer = answer;
            report = tt;
            shows = subst (λ (q : LedgerState). Shows p lanes (set s.words j m) s.homes q) (sym stay)
                (subst (λ (ws : List ℕ). Shows p lanes ws s.homes x) (sym words) h.shows);
            bounded = bound_other p s.words h.log h.made j m e h.bounded (omega arith) (λ k low'. omega arith);
            mine = λ k is. absurd (omega arith);
            away = λ k u there ne n has'. ((λ e'. absurd (omega arith)), outs n, lists n);
            borrowed = λ k low' out. borrowed_by p lanes s.views id v x here h.borrowed k low' (sym (outs k) ∙ out);
          },
      subst (λ (b : Bool). MatchBool b Has (Called v (LaneOut i) [] (Lane false) v.lane v.lent w × (slots_out me ≡ slots_out me))) (sym (ne_eqb m 0 miss))
          ((h.log, refl, follows died is_bad p lanes s h id v e v.lane v.lent here refl legal), refl),
    ))

-- the step by which a lane comes home
pub gives_back : (died : ℕ → ℕ → Type 0) (is_bad : ℕ → Type 0) (p : PlanData) (lanes slots id : ℕ) (v : View) (i : ℕ) (list shards : List ℕ)
    → 0 < v.weight → v.lane ≡ i + 1 → v.lent ++ shards ≡ list → AreInHand shards v.mine
    → Allows (Kept died is_bad p lanes) slots id (v, (i, Some (lane_data v.plan list)) ∷ []) (turn_at p i) (λ _. 0)
    (λ _. Given i shards (v, (i, Some (lane_data v.plan list)) ∷ []))
gives_back died is_bad p lanes slots id v i list shards live has long hand s h same at fits =
    let here : IsAt s.views id v = (at, live) in
    let t = h.knows id v here in
    let l = t.lane i has in
    let x : LedgerState = state_after p (opening p lanes) h.log in
    let j : ℕ = turn_at p i in
    let c = h.shows.slots.counts in
    let e : Entry = entry v.number (LaneBack i) shards Noted in
    let w : View = calling v h.log e 0 [] in
    let is : list_of x i ++ shards ≡ list = ap (λ (a : List ℕ). a ++ shards) l.2 ∙ long in
    let homes : List (Maybe Slot) = set s.homes i (some (Some (lane_data v.plan list))) in
    let homes_are : set s.homes i (some (Some (lane_data p (list_of x i ++ shards)))) ≡ homes =
    ap (λ (a : List ℕ). set s.homes i (some (Some (lane_data p a)))) is
    ∙ ap (λ (q : PlanData). set s.homes i (some (Some (lane_data q list)))) (sym t.plan) in
    let zeroth : slice_index (set x.outs i 0) i ≡ 0 = get_or-set_same x.outs i 0 0 (omega arith) in
    let unplaced = are_unplaced p lanes v.number h.log v.mine shards h.plan h.legal t.mine hand.distinct hand.won hand.fresh in
    let legal : IsLegal p lanes (h.log ++ e ∷ []) =
    legal-snoc p lanes h.log e h.legal (record { within = omega arith; out = l.1; brought = unplaced }) refl in (
      w,
      gives,
      tt,
      kept_after died is_bad p lanes s h id v e 0 [] (set s.words j 0) homes
          record {
            at = here;
            by = refl;
            fits = record { within = omega arith; out = l.1; brought = unplaced };
            answer = refl;
            report = tt;
            shows = subst (λ (hs : List (Maybe Slot)). Shows p lanes (set s.words j 0) hs (after p x v.number (LaneBack i) shards)) homes_are
                (turn_shows p lanes i 0 s.words s.homes (set s.homes i (some (Some (lane_data p (list_of x i ++ shards))))) x (set x.outs i 0)
                (set x.lists i (list_of x i ++ shards)) (placed x.unplaced shards) h.shows (placed_length x.unplaced shards ∙ h.shows.unplaced)
                (back_slots p lanes i s.words s.homes x.outs x.lists (list_of x i ++ shards) l.0 h.shows.count h.shows.slots));
            bounded = bound_other p s.words h.log h.made j 0 e h.bounded (omega arith) (λ k low'. omega arith);
            mine = λ k none'. absurd (omega arith);
            away = λ k u there ne n has'.
                let apart : n ≢ i = (λ e'. ne (h.borrowed.once k id i u v there here (has' ∙ ap (λ a. a + 1) e') has)) in (
                  (λ none'. absurd (omega arith)),
                  get_or-set_other x.outs i n 0 0 apart,
                  get_or-set_other x.lists i n (list_of x i ++ shards) [] apart,
                );
            borrowed = λ k low' out.
                let apart : k ≢ i = (λ e'. let o : slice_index (set x.outs i 0) k ≡ 0 = ap (slice_index (set x.outs i 0)) e' ∙ zeroth in
                absurd (omega arith)) in
                ⊎_elim
                (λ (own : v.lane ≡ k + 1). absurd (apart (omega arith)))
                inr
                (borrowed_by p lanes s.views id v x here h.borrowed k low' (sym (get_or-set_other x.outs i k 0 0 apart) ∙ out));
          },
      ((h.log, refl, follows died is_bad p lanes s h id v e 0 [] here refl legal), refl),
    )

abbrev first_of : List (ℕ × Slot) → Slot
first_of [] = None
first_of (x ∷ xs) = x.1

-- a lane that was home was taken out of its slot
pub asked_some : (i : ℕ) (v w u : Me Slot View) (list : List ℕ) (result : Slot) → Called v.0 (LaneOut i) [] (Lane true) (i + 1) list w.0
    → list ≡ list_seen w.0 i → w.1 ≡ (i, Some (lane_data v.0.plan list)) ∷ v.1 → w.1 ≡ (i, result) ∷ rest w.1
    → u ≡ (w.0, (i, None) ∷ rest w.1) → IsAsked i v result u
asked_some i v w u list result call seen in_slots same after' =
    let is : Some (lane_data v.0.plan list) ≡ result = ap first_of (sym in_slots ∙ same) in
    let later : rest w.1 ≡ v.1 = ap rest in_slots in
    subst (λ (r : Slot). IsAsked i v r u) is
    (subst (λ (x : Me Slot View). IsAsked i v (Some (lane_data v.0.plan list)) x) (sym after')
    (call, ap (lane_data v.0.plan) seen, ap (λ (l : List (ℕ × Slot)). (i, None) ∷ l) later))
