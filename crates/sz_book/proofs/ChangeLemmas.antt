-- Which calls change a state, and how many changes a round can have.
use Rattle.std.proofs.Common.{◌≡◌, ◌≢◌, ℕ, zero, suc, ◌+◌, ◌-◌, ◌*◌, ◌^◌, ◌<◌, ◌≤◌, ◌==◌, Bool, true, false, cond, nat_lt, min, List, [], ◌∷◌, ◌++◌, set, length, replicate, refl, ap, sym, ◌∙◌, subst, arith, bit_or, bit_and, ltb-true, ltb-false}
use Rattle.std.specs.Prelude.{slice_index}
use Rattle.std.specs.Int.{bit_at}
use Rattle.std.specs.Int.Bits.{or_add_and}
use Rattle.std.specs.List.{range_with_len, sum_by}
use Rattle.std.proofs.lemmas.Bool.{eqb-true, eqb-false}
use Rattle.std.proofs.lemmas.List.{append-nil, set-get_or, length-set, length-append}
use Rattle.std.proofs.lemmas.List.Sums.{sum_by-set, sum_by-cons}
use Rattle.std.proofs.lemmas.Nat.Bits.{bit_at_or, bit_at-pow_same, bit_at-lt, and_pow}
use Rattle.sz_book_rules.specs.Plan.{PlanData, count_of}
use Rattle.sz_book_rules.specs.declared.event.Event.{Event}
use Rattle.sz_book_rules.specs.declared.event.Event.TheVariants.{Draw, Number, Died, Settle, LaneOut, LaneBack, Bad}
use Rattle.sz_book_rules.specs.Machine.{LedgerState, after, Fits, list_of}
use Rattle.sz_book_rules.specs.Counting.{once}
use Rattle.sz_book.specs.Cores.{IsSound}
use Rattle.sz_book.specs.Held.{all_home, is_change, ChangesAreSeen, deaths_in, changes_in, most_changes}
use Rattle.sz_book_rules.proofs.StepLemmas.{shard_within}
use Rattle.sz_book.proofs.RoomLemmas.{once-le, at_most, once_set, sound_won, sound_home}

-- a core stays sound

draw_sound : (p : PlanData) (x : LedgerState) (b : Bool) → nat_lt x.drawn (count_of p) ≡ b → IsSound p x
    → IsSound p (cond b (record x { drawn = x.drawn + 1 }) x)
draw_sound p x true is h = record {
  plan = h.plan;
  rows = h.rows;
  lanes = h.lanes;
  drawn = (let a = ltb-true x.drawn (count_of p) is in omega arith);
  given = h.given;
  winners = h.winners;
  marks = h.marks;
  outs = h.outs;
  few = h.few;
}
draw_sound p x false is h = h

number_sound : (p : PlanData) (x : LedgerState) (s : ℕ) (b : Bool)
    → nat_lt (slice_index x.given s) p.attempts ≡ b → IsSound p x
    → IsSound p (cond b (record x { given = set x.given s (slice_index x.given s + 1) }) x)
number_sound p x s true is h = record {
  plan = h.plan;
  rows = (length-set x.given s (slice_index x.given s + 1) ∙ h.rows.0, h.rows.1, h.rows.2, h.rows.3);
  lanes = h.lanes;
  drawn = h.drawn;
  given = at_most x.given s (slice_index x.given s + 1) p.attempts
      (let a = ltb-true (slice_index x.given s) p.attempts is in omega arith) h.given;
  winners = h.winners;
  marks = h.marks;
  outs = h.outs;
  few = h.few;
}
number_sound p x s false is h = h

settle_sound : (p : PlanData) (x : LedgerState) (s k : ℕ) (b : Bool) → (slice_index x.winners s == 0) ≡ b
    → s < p.shards → k < p.attempts → IsSound p x
    → IsSound p (cond b (record x { winners = set x.winners s (k + 1); unplaced = set x.unplaced s (0 + 1) }) x)
settle_sound p x s k true is low below h = sound_won p x s k h low below (eqb-true (slice_index x.winners s) 0 is)
settle_sound p x s k false is low below h = h

lend_sound : (p : PlanData) (x : LedgerState) (i : ℕ) (b : Bool) → IsSound p x
    → IsSound p (cond b (record x { outs = set x.outs i 1 }) x)
lend_sound p x i true h = record {
  plan = h.plan;
  rows = h.rows;
  lanes = h.lanes ∙ sym (length-set x.outs i 1);
  drawn = h.drawn;
  given = h.given;
  winners = h.winners;
  marks = h.marks;
  outs = at_most x.outs i 1 1 (omega arith) h.outs;
  few = h.few;
}
lend_sound p x i false h = h

pub sound_after : (p : PlanData) (x : LedgerState) (event : Event) (ss : List ℕ) → IsSound p x → Fits p x 0 event ss
    → IsSound p (after p x 0 event ss)
sound_after p x Draw ss h fits = draw_sound p x (nat_lt x.drawn (count_of p)) refl h
sound_after p x (Number c) ss h fits = number_sound p x c.shard (nat_lt (slice_index x.given c.shard) p.attempts) refl h
sound_after p x (Died c k) ss h fits = record {
  plan = h.plan;
  rows = (
    h.rows.0,
    length-set x.deaths c.shard (bit_or (slice_index x.deaths c.shard) (2 ^ k)) ∙ h.rows.1,
    h.rows.2,
    h.rows.3,
  );
  lanes = h.lanes;
  drawn = h.drawn;
  given = h.given;
  winners = h.winners;
  marks = h.marks;
  outs = h.outs;
  few = h.few;
}
sound_after p x (Settle c k) ss h fits = settle_sound p x c.shard k (slice_index x.winners c.shard == 0) refl
    (shard_within p x c h.plan fits.1.claim) fits.1.below h
sound_after p x (LaneOut i) ss h fits = lend_sound p x i (slice_index x.outs i == 0) h
sound_after p x (LaneBack i) ss h fits = sound_home p x i ss h fits.within fits.brought
sound_after p x (Bad s) ss h fits = record {
  plan = h.plan;
  rows = h.rows;
  lanes = h.lanes;
  drawn = h.drawn;
  given = h.given;
  winners = h.winners;
  marks = h.marks;
  outs = h.outs;
  few = h.few;
}

-- what is no change leaves the same state, but for which lanes are out

noted_again : (d k : ℕ) → (bit_at d k == 0) ≡ false → bit_or d (2 ^ k) ≡ d
noted_again d k is =
    let some : bit_at d k ≢ 0 = eqb-false (bit_at d k) 0 is in
    let low = bit_at-lt d k in
    let one : bit_at d k ≡ 1 = omega arith in
    let and : bit_and d (2 ^ k) ≡ 1 * 2 ^ k = and_pow d k ∙ ap (λ (b : ℕ). b * 2 ^ k) one in
    let sum = or_add_and d (2 ^ k) in
    omega arith

lent_home : (x : LedgerState) (i : ℕ) (b : Bool) → all_home (cond b (record x { outs = set x.outs i 1 }) x) ≡ all_home x
lent_home x i true = ap (λ (n : ℕ). record x { outs = replicate n 0 }) (length-set x.outs i 1)
lent_home x i false = refl

back_alone : (x : LedgerState) (i : ℕ)
    → all_home (record x { outs = set x.outs i 0; lists = set x.lists i (list_of x i ++ []) }) ≡ all_home x
back_alone x i = ap (λ (n : ℕ). record x { outs = replicate n 0; lists = set x.lists i (list_of x i ++ []) })
    (length-set x.outs i 0) ∙ ap (λ (l : List (List ℕ)). record x { outs = replicate (length x.outs) 0; lists = l })
    (ap (set x.lists i) (append-nil (list_of x i)) ∙ set-get_or x.lists i [])

pub unchanged : (p : PlanData) (x : LedgerState) (event : Event) (ss : List ℕ) → is_change p x event ss ≡ false
    → all_home (after p x 0 event ss) ≡ all_home x
unchanged p x Draw ss is = ap (λ (b : Bool). all_home (cond b (record x { drawn = x.drawn + 1 }) x)) is
unchanged p x (Number c) ss is = ap (λ (b : Bool).
    all_home (cond b (record x { given = set x.given c.shard (slice_index x.given c.shard + 1) }) x)) is
unchanged p x (Died c k) ss is =
    ap (λ (l : List ℕ). all_home (record x { deaths = l }))
    (ap (set x.deaths c.shard) (noted_again (slice_index x.deaths c.shard) k is) ∙ set-get_or x.deaths c.shard 0)
unchanged p x (Settle c k) ss is = ap (λ (b : Bool). all_home
    (cond b (record x { winners = set x.winners c.shard (k + 1); unplaced = set x.unplaced c.shard (0 + 1) }) x)) is
unchanged p x (LaneOut i) ss is = lent_home x i (slice_index x.outs i == 0)
unchanged p x (LaneBack i) [] is = back_alone x i
unchanged p x (LaneBack i) (s ∷ ss) is = let none = ltb-false 0 (length (s ∷ ss)) is in absurd (omega arith)
unchanged p x (Bad s) ss is = let more = ltb-false s x.least_bad is in
    ap (λ (n : ℕ). all_home (record x { least_bad = n }))
    (let same : min x.least_bad s ≡ x.least_bad = omega arith in same)

-- what is a change is counted

sum_more : (f g : ℕ → ℕ) (k : ℕ) → ((j : ℕ) → f j ≤ g j) → (a n : ℕ)
    → sum_by f (range_with_len a n) ≤ sum_by g (range_with_len a n)
sum_more f g k up a zero = omega arith
sum_more f g k up a (suc n) =
    let x = sum_by-cons f a (range_with_len (a + 1) n) in
    let y = sum_by-cons g a (range_with_len (a + 1) n) in
    let h = sum_more f g k up (a + 1) n in
    let one = up a in
    omega arith

grows_at : (f g : ℕ → ℕ) (k a m n : ℕ) → f a ≤ g a → f k < g k → m ≤ n → (a ≢ k → m < n) → (b : Bool) → (a == k) ≡ b
    → f a + m < g a + n
grows_at f g k a m n one more all rest true is =
    let here : f a < g a = subst (λ (j : ℕ). f j < g j) (sym (eqb-true a k is)) more in omega arith
grows_at f g k a m n one more all rest false is = let less = rest (eqb-false a k is) in omega arith

sum_grows : (f g : ℕ → ℕ) (k : ℕ) → ((j : ℕ) → f j ≤ g j) → f k < g k → (a n : ℕ) → a ≤ k → k < a + n
    → sum_by f (range_with_len a n) < sum_by g (range_with_len a n)
sum_grows f g k up more a zero low high = absurd (omega arith)
sum_grows f g k up more a (suc n) low high =
    let x = sum_by-cons f a (range_with_len (a + 1) n) in
    let y = sum_by-cons g a (range_with_len (a + 1) n) in
    let h = grows_at f g k a (sum_by f (range_with_len (a + 1) n)) (sum_by g (range_with_len (a + 1) n)) (up a) more
    (sum_more f g k up (a + 1) n)
    (λ other. sum_grows f g k up more (a + 1) n (omega arith) (omega arith)) (a == k) refl in
    omega arith

-- one more attempt is noted
one_more_death : (p : PlanData) (d k : ℕ) → k < p.attempts → bit_at d k ≡ 0
    → deaths_in p d < deaths_in p (bit_or d (2 ^ k))
one_more_death p d k low none =
    let now = bit_at_or d (2 ^ k) k in
    let own = bit_at-pow_same k in
    sum_grows (bit_at d) (bit_at (bit_or d (2 ^ k))) k (λ j. (let o = bit_at_or d (2 ^ k) j in omega arith))
    (omega arith) 0 p.attempts (omega arith) (omega arith)

draw_counts : (p : PlanData) (x : LedgerState) (b : Bool) → b ≡ true
    → changes_in p x < changes_in p (cond b (record x { drawn = x.drawn + 1 }) x)
draw_counts p x true is = omega arith
draw_counts p x false is = absurd (cc is)

number_counts : (p : PlanData) (x : LedgerState) (s : ℕ) (b : Bool) → b ≡ true → s < length x.given
    → changes_in p x < changes_in p (cond b (record x { given = set x.given s (slice_index x.given s + 1) }) x)
number_counts p x s true is low =
    let a = sum_by-set (λ (n : ℕ). n) x.given s (slice_index x.given s + 1) 0 low in omega arith
number_counts p x s false is low = absurd (cc is)

settle_counts : (p : PlanData) (x : LedgerState) (s k : ℕ) (b : Bool) → b ≡ true → s < length x.winners
    → slice_index x.winners s ≡ 0
    → changes_in p x
    < changes_in p (cond b (record x { winners = set x.winners s (k + 1); unplaced = set x.unplaced s (0 + 1) }) x)
settle_counts p x s k true is low free =
    let a = sum_by-set once x.winners s (k + 1) 0 low in
    let c : once (slice_index x.winners s) ≡ 0 = ap once free in
    let d : once (k + 1) ≡ 1 = once_set (k + 1) (omega arith) in
    omega arith
settle_counts p x s k false is low free = absurd (cc is)

pub counts : (p : PlanData) (x : LedgerState) (event : Event) (ss : List ℕ) → IsSound p x → Fits p x 0 event ss
    → is_change p x event ss ≡ true → changes_in p x < changes_in p (after p x 0 event ss)
counts p x Draw ss h fits is = draw_counts p x (nat_lt x.drawn (count_of p)) is
counts p x (Number c) ss h fits is =
    number_counts p x c.shard (nat_lt (slice_index x.given c.shard) p.attempts) is
    (let a = shard_within p x c h.plan fits.1 in let r = h.rows.0 in omega arith)
counts p x (Died c k) ss h fits is =
    let low = shard_within p x c h.plan fits.1.claim in
    let r = h.rows.1 in
    let a = sum_by-set (deaths_in p) x.deaths c.shard (bit_or (slice_index x.deaths c.shard) (2 ^ k)) 0 (omega arith) in
    let more = one_more_death p
    (slice_index x.deaths c.shard) k fits.1.below (eqb-true (bit_at (slice_index x.deaths c.shard) k) 0 is) in
    omega arith
counts p x (Settle c k) ss h fits is =
    settle_counts p x c.shard k (slice_index x.winners c.shard == 0) is
    (let a = shard_within p x c h.plan fits.1.claim in let r = h.rows.2 in omega arith)
    (eqb-true (slice_index x.winners c.shard) 0 is)
counts p x (LaneOut i) ss h fits is = absurd (cc is)
counts p x (LaneBack i) ss h fits is =
    let low = fits.within in
    let l = h.lanes in
    let a = sum_by-set (λ (l : List ℕ). length l) x.lists i (list_of x i ++ ss) [] (omega arith) in
    let b = length-append (list_of x i) ss in
    let some = ltb-true 0 (length ss) is in
    omega arith
counts p x (Bad s) ss h fits is =
    let less = ltb-true s x.least_bad is in
    let low = fits.1 in
    let now : min x.least_bad s ≡ s = omega arith in
    omega arith

-- and there are no more than these

sum_low : (row : List ℕ) (m : ℕ) → ((t : ℕ) → slice_index row t ≤ m) → sum_by (λ (n : ℕ). n) row ≤ length row * m
sum_low [] m h = omega arith
sum_low (r ∷ row) m h =
    let a = sum_by-cons (λ (n : ℕ). n) r row in
    let one = h 0 in
    let rest = sum_low row m (λ t. h (suc t)) in
    omega arith

bits_low : (d a n : ℕ) → sum_by (bit_at d) (range_with_len a n) ≤ n
bits_low d a zero = omega arith
bits_low d a (suc n) =
    let x = sum_by-cons (bit_at d) a (range_with_len (a + 1) n) in
    let one = bit_at-lt d a in
    let h = bits_low d (a + 1) n in
    omega arith

deaths_low : (p : PlanData) (row : List ℕ) → sum_by (deaths_in p) row ≤ length row * p.attempts
deaths_low p [] = omega arith
deaths_low p (d ∷ row) =
    let a = sum_by-cons (deaths_in p) d row in
    let one = bits_low d 0 p.attempts in
    let rest = deaths_low p row in
    omega arith

enough : (c s n g d w l b : ℕ) → g ≤ s * n → d ≤ s * n → w ≤ s → l ≤ w → b ≤ s
    → c + g + d + w + l + b ≤ c + s * (2 * n + 3)
enough c s n g d w l b hg hd hw hl hb = omega arith

pub no_more : (p : PlanData) (x : LedgerState) → IsSound p x → changes_in p x ≤ most_changes p
no_more p x h =
    let g =
    subst (λ (n : ℕ). sum_by (λ (m : ℕ). m) x.given ≤ n * p.attempts) h.rows.0 (sum_low x.given p.attempts h.given) in
    let d = subst (λ (n : ℕ). sum_by (deaths_in p) x.deaths ≤ n * p.attempts) h.rows.1 (deaths_low p x.deaths) in
    let w = subst (λ (n : ℕ). sum_by once x.winners ≤ n) h.rows.2 (once-le x.winners) in
    let f = h.few in
    let e = enough (count_of p) p.shards p.attempts _ _ _ (sum_by (λ (l : List ℕ). length l) x.lists)
    (p.shards - x.least_bad) g d w (omega arith) (omega arith) in
    let c = h.drawn in
    omega arith

-- changes are just what leaves another state
pub changes_are_seen : ChangesAreSeen
changes_are_seen p x event ss sound fits =
    (λ is same. seen is (ap (changes_in p) same), λ other. by_test (is_change p x event ss) refl other) where
      seen : is_change p x event ss ≡ true
          → changes_in p (all_home (after p x 0 event ss)) ≡ changes_in p (all_home x) → ⊥
      seen is same = let more = counts p x event ss sound fits is in omega arith

      by_test : (b : Bool) → is_change p x event ss ≡ b → all_home (after p x 0 event ss) ≢ all_home x
          → is_change p x event ss ≡ true
      by_test true is other = is
      by_test false is other = absurd (other (unchanged p x event ss is))
