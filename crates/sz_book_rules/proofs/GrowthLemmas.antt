-- What one call gave stays given.
use Rattle.std.proofs.Common.{◌≡◌, ℕ, zero, suc, ◌+◌, ◌<◌, ◌≤◌, ◌==◌, Bool, true, false, cond, nat_lt, List, [], ◌∷◌, set, length, refl, ap, sym, ◌∙◌, subst, inl, inr, ⊎_elim, le_refl, le_trans, arith, Some, None, length-set, ltb-true}
use Rattle.std.specs.Prelude.{slice_index}
use Rattle.std.proofs.lemmas.List.{get_or-set_same}
use Rattle.sz_book_rules.specs.Plan.{PlanData}
use Rattle.sz_book_rules.specs.declared.claim.Claim.{Claim}
use Rattle.sz_book_rules.specs.declared.event.Event.{Event}
use Rattle.sz_book_rules.specs.declared.event.Event.TheVariants.{Draw, Number, Died, Settle, LaneOut, LaneBack, Bad}
use Rattle.sz_book_rules.specs.declared.event.Reply.TheVariants.{Ticket, Number as Numbered}
use Rattle.sz_book_rules.specs.declared.event.Entry.{Entry}
use Rattle.sz_book_rules.specs.Plan.{IsPlan, count_of}
use Rattle.sz_book_rules.specs.Machine.{LedgerState, after, reply_of, Fits, IsDrawn, claim_of, draw_reply, number_reply}
use Rattle.sz_book_rules.specs.History.{state_after, IsLegalFrom, calls_by, HasDrawn, HasNumber}

-- one of two stands
either_drawn : (b : Bool) (m : ℕ) (x y : LedgerState) → m ≤ x.drawn → m ≤ y.drawn → m ≤ (cond b x y).drawn
either_drawn true m x y h k = h
either_drawn false m x y h k = k

either_given : (b : Bool) (m s : ℕ) (x y : LedgerState) → m ≤ slice_index x.given s → m ≤ slice_index y.given s
    → m ≤ slice_index (cond b x y).given s
either_given true m s x y h k = h
either_given false m s x y h k = k

either_rows : (b : Bool) (m : ℕ) (x y : LedgerState) → length x.given ≡ m → length y.given ≡ m
    → length (cond b x y).given ≡ m
either_rows true m x y h k = h
either_rows false m x y h k = k

bump : (l : List ℕ) (i j : ℕ) → slice_index l j ≤ slice_index (set l i (slice_index l i + 1)) j
bump [] i j = le_refl 0
bump (x ∷ xs) zero zero = omega arith
bump (x ∷ xs) zero (suc j) = le_refl (slice_index xs j)
bump (x ∷ xs) (suc i) zero = le_refl x
bump (x ∷ xs) (suc i) (suc j) = bump xs i j

drawn_up : (p : PlanData) (x : LedgerState) (n : ℕ) (e : Event) (ss : List ℕ) → x.drawn ≤ (after p x n e ss).drawn
drawn_up p x n Draw ss = either_drawn (nat_lt x.drawn (count_of p)) x.drawn (record x { drawn = x.drawn + 1 }) x
    (omega arith) (le_refl x.drawn)
drawn_up p x n (Number c) ss = either_drawn (nat_lt (slice_index x.given c.shard) p.attempts) x.drawn
    (record x { given = set x.given c.shard (slice_index x.given c.shard + 1) }) x (le_refl x.drawn) (le_refl x.drawn)
drawn_up p x n (Died c k) ss = le_refl x.drawn
drawn_up p x n (Settle c k) ss = either_drawn (slice_index x.winners c.shard == 0) x.drawn (record x {
  winners = set x.winners c.shard (k + 1);
  unplaced = set x.unplaced c.shard (n + 1);
}) x (le_refl x.drawn) (le_refl x.drawn)
drawn_up p x n (LaneOut i) ss = either_drawn (slice_index x.outs i == 0) x.drawn (record x { outs = set x.outs i 1 })
    x (le_refl x.drawn) (le_refl x.drawn)
drawn_up p x n (LaneBack i) ss = le_refl x.drawn
drawn_up p x n (Bad s) ss = le_refl x.drawn

given_up : (p : PlanData) (x : LedgerState) (s n : ℕ) (e : Event) (ss : List ℕ)
    → slice_index x.given s ≤ slice_index (after p x n e ss).given s
given_up p x s n Draw ss = let m = slice_index x.given s in
    either_given (nat_lt x.drawn (count_of p)) m s (record x { drawn = x.drawn + 1 }) x (le_refl m) (le_refl m)
given_up p x s n (Number c) ss = let m = slice_index x.given s in
    either_given (nat_lt (slice_index x.given c.shard) p.attempts) m s
    (record x { given = set x.given c.shard (slice_index x.given c.shard + 1) }) x
    (bump x.given c.shard s) (le_refl m)
given_up p x s n (Died c k) ss = le_refl (slice_index x.given s)
given_up p x s n (Settle c k) ss = let m = slice_index x.given s in either_given (slice_index x.winners c.shard == 0)
    m s (record x { winners = set x.winners c.shard (k + 1); unplaced = set x.unplaced c.shard (n + 1) }) x
    (le_refl m) (le_refl m)
given_up p x s n (LaneOut i) ss = let m = slice_index x.given s in
    either_given (slice_index x.outs i == 0) m s (record x { outs = set x.outs i 1 }) x (le_refl m) (le_refl m)
given_up p x s n (LaneBack i) ss = le_refl (slice_index x.given s)
given_up p x s n (Bad b) ss = le_refl (slice_index x.given s)

rows_stay : (p : PlanData) (x : LedgerState) (n : ℕ) (e : Event) (ss : List ℕ)
    → length (after p x n e ss).given ≡ length x.given
rows_stay p x n Draw ss =
    either_rows (nat_lt x.drawn (count_of p)) (length x.given) (record x { drawn = x.drawn + 1 }) x refl refl
rows_stay p x n (Number c) ss = either_rows (nat_lt (slice_index x.given c.shard) p.attempts)
    (length x.given) (record x { given = set x.given c.shard (slice_index x.given c.shard + 1) }) x
    (length-set x.given c.shard (slice_index x.given c.shard + 1)) refl
rows_stay p x n (Died c k) ss = refl
rows_stay p x n (Settle c k) ss = either_rows (slice_index x.winners c.shard == 0) (length x.given)
    (record x { winners = set x.winners c.shard (k + 1); unplaced = set x.unplaced c.shard (n + 1) }) x refl refl
rows_stay p x n (LaneOut i) ss =
    either_rows (slice_index x.outs i == 0) (length x.given) (record x { outs = set x.outs i 1 }) x refl refl
rows_stay p x n (LaneBack i) ss = refl
rows_stay p x n (Bad s) ss = refl

-- what was drawn stays drawn
pub drawn_stays : (p : PlanData) (x : LedgerState) (es : List Entry) → x.drawn ≤ (state_after p x es).drawn
drawn_stays p x [] = le_refl x.drawn
drawn_stays p x (e ∷ es) =
    le_trans (drawn_up p x e.by e.event e.shards) (drawn_stays p (after p x e.by e.event e.shards) es)

-- what was given stays given
pub given_stays : (p : PlanData) (x : LedgerState) (s : ℕ) (es : List Entry)
    → slice_index x.given s ≤ slice_index (state_after p x es).given s
given_stays p x s [] = le_refl (slice_index x.given s)
given_stays p x s (e ∷ es) =
    le_trans (given_up p x s e.by e.event e.shards) (given_stays p (after p x e.by e.event e.shards) s es)

-- a draw that gave a claim
draws : (p : PlanData) (x : LedgerState) (n : ℕ) (ss : List ℕ) (c : Claim) (b : Bool)
    → nat_lt x.drawn (count_of p) ≡ b → Ticket (Some c) ≡ draw_reply p x.drawn
    → (c ≡ claim_of p x.drawn) × (x.drawn < count_of p) × ((after p x n Draw ss).drawn ≡ x.drawn + 1)
draws p x n ss c true is e =
    let r : Ticket (Some c) ≡ Ticket (Some (claim_of p x.drawn)) =
    e ∙ ap (λ (b : Bool). cond b (Ticket (Some (claim_of p x.drawn))) (Ticket None)) is in
    (cc r, ltb-true x.drawn (count_of p) is, ap (λ (b : Bool). (cond b (record x { drawn = x.drawn + 1 }) x).drawn) is)
draws p x n ss c false is e =
    let r : Ticket (Some c) ≡ Ticket None =
    e ∙ ap (λ (b : Bool). cond b (Ticket (Some (claim_of p x.drawn))) (Ticket None)) is in absurd (cc r)

pub has_drawn : (p : PlanData) (x : LedgerState) (es : List Entry) (c : Claim) → IsLegalFrom p x es → HasDrawn c es
    → IsDrawn p (state_after p x es) c
has_drawn p x [] c h d = absurd d
has_drawn p x (e ∷ es) c h (inl d) =
    let reply : Ticket (Some c) ≡ draw_reply p x.drawn = sym d.1 ∙ h.1 ∙ ap (λ (v : Event). reply_of p x v) d.0 in
    let t = draws p x e.by e.shards c (nat_lt x.drawn (count_of p)) refl reply in
    let next : (after p x e.by e.event e.shards).drawn ≡ x.drawn + 1 =
    ap (λ (v : Event). (after p x e.by v e.shards).drawn) d.0 ∙ t.2 in
    let up = drawn_stays p (after p x e.by e.event e.shards) es in
    let ticket : c.ticket ≡ x.drawn = ap (λ (y : Claim). y.ticket) t.0 in
    record {
      drawn = omega arith;
      ticket = omega arith;
      shard = ap (λ (n : ℕ). slice_index p.tickets n) ticket ∙ sym (ap (λ (y : Claim). y.shard) t.0);
    }
has_drawn p x (e ∷ es) c h (inr d) = has_drawn p (after p x e.by e.event e.shards) es c h.2 d

numbers : (p : PlanData) (x : LedgerState) (n : ℕ) (ss : List ℕ) (c : Claim) (k : ℕ) (b : Bool)
    → nat_lt (slice_index x.given c.shard) p.attempts ≡ b → c.shard < length x.given
    → Numbered (Some k) ≡ number_reply p (slice_index x.given c.shard)
    → (k ≡ slice_index x.given c.shard) × (k < p.attempts)
    × (slice_index (after p x n (Number c) ss).given c.shard ≡ k + 1)
numbers p x n ss c k true is within e =
    let g : ℕ = slice_index x.given c.shard in
    let r : Numbered (Some k) ≡ Numbered (Some g) =
    e ∙ ap (λ (b : Bool). cond b (Numbered (Some g)) (Numbered None)) is in
    let same : k ≡ g = cc r in
    let low : g < p.attempts = ltb-true g p.attempts is in (
      same,
      omega arith,
      ap (λ (b : Bool). slice_index (cond b (record x { given = set x.given c.shard (g + 1) }) x).given c.shard) is
          ∙ get_or-set_same x.given c.shard (g + 1) 0 within ∙ ap (λ (n : ℕ). n + 1) (sym same),
    )
numbers p x n ss c k false is within e =
    let r : Numbered (Some k) ≡ Numbered None =
    e ∙ ap (λ (b : Bool). cond b (Numbered (Some (slice_index x.given c.shard))) (Numbered None)) is in absurd (cc r)

pub has_number : (p : PlanData) (x : LedgerState) (es : List Entry) (c : Claim) (k : ℕ)
    → IsPlan p → length x.given ≡ p.shards → IsLegalFrom p x es → HasNumber c k es
    → (k < p.attempts) × (k < slice_index (state_after p x es).given c.shard)
has_number p x [] c k plan rows h d = absurd d
has_number p x (e ∷ es) c k plan rows h (inl d) =
    let fits : IsDrawn p x c = (subst (λ (v : Event). Fits p x e.by v e.shards) d.0 h.0).1 in
    let within : c.shard < length x.given =
    (let a = plan.within c.ticket fits.ticket in let b = fits.shard in omega arith) in
    let reply : Numbered (Some k) ≡ number_reply p (slice_index x.given c.shard) =
    sym d.1 ∙ h.1 ∙ ap (λ (v : Event). reply_of p x v) d.0 in
    let t = numbers p x e.by e.shards c k (nat_lt (slice_index x.given c.shard) p.attempts) refl within reply in
    let next : slice_index (after p x e.by e.event e.shards).given c.shard ≡ k + 1 =
    ap (λ (v : Event). slice_index (after p x e.by v e.shards).given c.shard) d.0 ∙ t.2 in
    let up = given_stays p (after p x e.by e.event e.shards) c.shard es in
    (t.1, omega arith)
has_number p x (e ∷ es) c k plan rows h (inr d) =
    has_number p (after p x e.by e.event e.shards) es c k plan (rows_stay p x e.by e.event e.shards ∙ rows) h.2 d

kept_drawn : (b : Bool) (e : Entry) (es : List Entry) (c : Claim) → HasDrawn c (cond b (e ∷ es) es)
    → HasDrawn c (e ∷ es)
kept_drawn true e es c h = h
kept_drawn false e es c h = inr h

pub own_drawn : (n : ℕ) (es : List Entry) (c : Claim) → HasDrawn c (calls_by n es) → HasDrawn c es
own_drawn n [] c h = h
own_drawn n (e ∷ es) c h = ⊎_elim inl (λ (t : HasDrawn c (calls_by n es)). inr (own_drawn n es c t))
    (kept_drawn (e.by == n) e (calls_by n es) c h)

kept_number : (b : Bool) (e : Entry) (es : List Entry) (c : Claim) (k : ℕ) → HasNumber c k (cond b (e ∷ es) es)
    → HasNumber c k (e ∷ es)
kept_number true e es c k h = h
kept_number false e es c k h = inr h

pub own_number : (n : ℕ) (es : List Entry) (c : Claim) (k : ℕ) → HasNumber c k (calls_by n es) → HasNumber c k es
own_number n [] c k h = h
own_number n (e ∷ es) c k h = ⊎_elim inl (λ (t : HasNumber c k (calls_by n es)). inr (own_number n es c k t))
    (kept_number (e.by == n) e (calls_by n es) c k h)
