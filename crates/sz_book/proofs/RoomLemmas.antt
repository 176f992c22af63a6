-- How many shards stand where, and what a settlement and a lane that comes back change of it.
use Rattle.std.proofs.Common.{◌≡◌, ℕ, zero, suc, ◌+◌, ◌<◌, ◌≤◌, ◌==◌, Bool, true, false, cond, List, [], ◌∷◌, ◌++◌, set, length, map, replicate, refl, ap, sym, ◌∙◌, subst, arith, None, ne_eqb, length-append}
use Rattle.std.specs.Prelude.{slice_index, slice_index_or}
use Rattle.std.specs.List.{sum_by}
use Rattle.std.proofs.lemmas.List.{map-set, set-get_or, length-set, length-map, length-replicate, get_or-replicate}
use Rattle.std.proofs.lemmas.List.Sums.{sum_by-set, sum_by-cons, get_or-le-sum_by}
use Rattle.sz_book_rules.specs.Plan.{PlanData, IsPlan}
use Rattle.sz_book_rules.specs.Machine.{LedgerState, opening, placed, AreUnplaced, IsReturned, list_of}
use Rattle.sz_book.specs.Cores.{ReservedData, core_data, IsSound, IsKept}
use Rattle.sz_book_rules.specs.Counting.{once}
use Rattle.sz_book_rules.proofs.StepLemmas.{length-placed}

pub no_shards : (n : ℕ) → sum_by (λ (l : List ℕ). length l) (replicate n []) ≡ 0
no_shards zero = refl
no_shards (suc n) = let a = sum_by-cons (λ (l : List ℕ). length l) [] (replicate n []) in
    let h = no_shards n in omega arith

pub few_open : (n m : ℕ)
    → sum_by (λ (l : List ℕ). length l) (replicate m []) + sum_by once (replicate n 0) ≤ sum_by once (replicate n 0)
few_open n m = let a = no_shards m in omega arith

once_low : (b : Bool) → cond b 0 1 ≤ 1
once_low true = omega arith
once_low false = omega arith

pub once_set : (m : ℕ) → 0 < m → once m ≡ 1
once_set m some = ap (λ (b : Bool). cond b 0 1) (ne_eqb m 0 (λ (none : m ≡ 0). absurd (omega arith)))

-- no more marks are set than there are
pub once-le : (row : List ℕ) → sum_by once row ≤ length row
once-le [] = omega arith
once-le (m ∷ row) = let a = sum_by-cons once m row in let b = once_low (m == 0) in let h = once-le row in omega arith

within : (row : List ℕ) (s : ℕ) → slice_index row s ≡ 1 → s < length row
within [] s h = absurd (omega arith)
within (m ∷ row) zero h = omega arith
within (m ∷ row) (suc s) h = let low = within row s h in omega arith

-- a shard that is won stands in no lane at first
pub few_won : (lists : List (List ℕ)) (unplaced winners : List ℕ) (s k : ℕ) → s < length unplaced → s < length winners
    → slice_index winners s ≡ 0 → sum_by length lists + sum_by once unplaced ≤ sum_by once winners
    → sum_by length lists + sum_by once (set unplaced s 1) ≤ sum_by once (set winners s (k + 1))
few_won lists unplaced winners s k low high free few =
    let a = sum_by-set once unplaced s 1 0 low in
    let b = sum_by-set once winners s (k + 1) 0 high in
    let c : once (slice_index winners s) ≡ 0 = ap once free in
    let d : once (k + 1) ≡ 1 = once_set (k + 1) (omega arith) in
    omega arith

-- shards that are placed are marked no more
pub placed_few : (marks ss : List ℕ) → AreUnplaced 0 marks ss
    → sum_by once (placed marks ss) + length ss ≡ sum_by once marks
placed_few marks [] h = omega arith
placed_few marks (s ∷ ss) h =
    let a = sum_by-set once marks s 0 0 (within marks s h.0) in
    let b : once (slice_index marks s) ≡ 1 = ap once h.0 in
    let rest = placed_few (set marks s 0) ss h.1 in
    omega arith

-- and stand in the lane instead
pub few_placed : (lists : List (List ℕ)) (i : ℕ) (marks winners ss : List ℕ) → i < length lists → AreUnplaced 0 marks ss
    → sum_by length lists + sum_by once marks ≤ sum_by once winners
    → sum_by length (set lists i (slice_index_or lists i [] ++ ss)) + sum_by once (placed marks ss)
    ≤ sum_by once winners
few_placed lists i marks winners ss low h few =
    let a = sum_by-set (λ (l : List ℕ). length l) lists i (slice_index_or lists i [] ++ ss) [] low in
    let b = length-append (slice_index_or lists i []) ss in
    let c = placed_few marks ss h in
    omega arith

-- a row keeps its bound where what is written has it
pub at_most : (row : List ℕ) (s v m : ℕ) → v ≤ m → ((t : ℕ) → slice_index row t ≤ m) → (t : ℕ)
    → slice_index (set row s v) t ≤ m
at_most [] s v m low h t = h t
at_most (r ∷ row) zero v m low h zero = low
at_most (r ∷ row) zero v m low h (suc t) = h (suc t)
at_most (r ∷ row) (suc s) v m low h zero = h zero
at_most (r ∷ row) (suc s) v m low h (suc t) = at_most row s v m low (λ u. h (suc u)) t

placed_low : (marks ss : List ℕ) → ((t : ℕ) → slice_index marks t ≤ 1) → (t : ℕ) → slice_index (placed marks ss) t ≤ 1
placed_low marks [] h = h
placed_low marks (s ∷ ss) h = placed_low (set marks s 0) ss (at_most marks s 0 1 (omega arith) h)

-- a core is sound once a shard is won
pub sound_won : (p : PlanData) (x : LedgerState) (s k : ℕ) → IsSound p x → s < p.shards → k < p.attempts
    → slice_index x.winners s ≡ 0
    → IsSound p (record x { winners = set x.winners s (k + 1); unplaced = set x.unplaced s 1 })
sound_won p x s k h low below free = record {
  plan = h.plan;
  rows = (h.rows.0, h.rows.1, length-set x.winners s (k + 1) ∙ h.rows.2, length-set x.unplaced s 1 ∙ h.rows.3);
  lanes = h.lanes;
  drawn = h.drawn;
  given = h.given;
  winners = at_most x.winners s (k + 1) p.attempts (omega arith) h.winners;
  marks = at_most x.unplaced s 1 1 (omega arith) h.marks;
  outs = h.outs;
  few = few_won x.lists x.unplaced x.winners s k (let r = h.rows.3 in omega arith)
      (let r = h.rows.2 in omega arith) free h.few;
}

-- and once a lane is home again
pub sound_home : (p : PlanData) (x : LedgerState) (i : ℕ) (ss : List ℕ) → IsSound p x → i < length x.outs
    → AreUnplaced 0 x.unplaced ss
    → IsSound p
    (record x { outs = set x.outs i 0; lists = set x.lists i (list_of x i ++ ss); unplaced = placed x.unplaced ss })
sound_home p x i ss h low brought = record {
  plan = h.plan;
  rows = (h.rows.0, h.rows.1, h.rows.2, length-placed x.unplaced ss ∙ h.rows.3);
  lanes = length-set x.lists i (list_of x i ++ ss) ∙ h.lanes ∙ sym (length-set x.outs i 0);
  drawn = h.drawn;
  given = h.given;
  winners = h.winners;
  marks = placed_low x.unplaced ss h.marks;
  outs = at_most x.outs i 0 1 (omega arith) h.outs;
  few = few_placed x.lists i x.unplaced x.winners ss (let r = h.lanes in omega arith) brought h.few;
}

-- each lane has room for all that may come
pub has_room : (p : PlanData) (x : LedgerState) (i : ℕ) (ss : List ℕ) → IsSound p x → i < length x.lists
    → AreUnplaced 0 x.unplaced ss → length (list_of x i) + length ss ≤ p.shards
has_room p x i ss sound low h =
    let a = get_or-le-sum_by (λ (l : List ℕ). length l) x.lists i [] low in
    let b = placed_few x.unplaced ss h in
    let c = once-le x.winners in
    let d = sound.rows.2 in
    let e = sound.few in
    omega arith

-- the room of a list, and its shards
room_at : (lists : List ReservedData) (i : ℕ) (d : ReservedData)
    → slice_index_or (map (λ (l : ReservedData). l.room) lists) i d.room ≡ (slice_index_or lists i d).room
room_at [] i d = refl
room_at (l ∷ ls) zero d = refl
room_at (l ∷ ls) (suc i) d = room_at ls i d

shards_at : (lists : List ReservedData) (i : ℕ) (d : ReservedData) → i < length lists
    → slice_index_or (map (λ (l : ReservedData). l.shards) lists) i [] ≡ (slice_index_or lists i d).shards
shards_at [] i d low = absurd (omega arith)
shards_at (l ∷ ls) zero d low = refl
shards_at (l ∷ ls) (suc i) d low = shards_at ls i d (omega arith)

-- a list with these shards after it
abbrev pub longer : ReservedData → List ℕ → ReservedData
longer r ss = record { room = r.room; shards = r.shards ++ ss }

within_lists : (p : PlanData) (x : LedgerState) (lists : List ReservedData) (i : ℕ) → IsKept p x lists
    → x.lists ≡ map (λ (l : ReservedData). l.shards) lists → i < length x.outs → i < length lists
within_lists p x lists i kept is low =
    let a = kept.sound.lanes in
    let b = ap (λ (l : List (List ℕ)). length l) is in
    let c = length-map lists (λ (l : ReservedData). l.shards) in
    omega arith

-- a lane that comes back has room for what comes with it
pub back_room : (p : PlanData) (x : LedgerState) (lists : List ReservedData) (i : ℕ) (ss : List ℕ) (r : ReservedData)
    → IsKept p x lists → x.lists ≡ map (λ (l : ReservedData). l.shards) lists → IsReturned x 0 i ss
    → r ≡ slice_index_or lists i r → length r.shards + length ss ≤ r.room
back_room p x lists i ss r kept is back at =
    let low = within_lists p x lists i kept is back.within in
    let room : r.room ≡ p.shards = ap (λ (q : ReservedData). q.room) at ∙ sym (room_at lists i r) ∙ ap
    (λ (l : List ℕ). slice_index_or l i r.room) kept.room ∙ get_or-replicate (length lists) i p.shards r.room low in
    let shards : list_of x i ≡ r.shards = ap (λ (l : List (List ℕ)). slice_index_or l i []) is
    ∙ shards_at lists i r low ∙ ap (λ (q : ReservedData). q.shards) (sym at) in
    let fits =
    has_room p x i ss kept.sound (let a = kept.sound.lanes in let b = back.within in omega arith) back.brought in
    let same = ap (λ (l : List ℕ). length l) shards in
    omega arith

-- the lists with it are the old ones, but for its own
pub back_lists : (p : PlanData) (x : LedgerState) (lists : List ReservedData) (i : ℕ) (ss : List ℕ) (r : ReservedData)
    → IsKept p x lists
    → x.lists ≡ map (λ (l : ReservedData). l.shards) lists → IsReturned x 0 i ss → r ≡ slice_index_or lists i r
    → map (λ (l : ReservedData). l.shards) (set lists i (longer r ss)) ≡ set x.lists i (list_of x i ++ ss)
back_lists p x lists i ss r kept is back at =
    let low = within_lists p x lists i kept is back.within in
    let shards : list_of x i ≡ r.shards = ap (λ (l : List (List ℕ)). slice_index_or l i []) is
    ∙ shards_at lists i r low ∙ ap (λ (q : ReservedData). q.shards) (sym at) in
    map-set (λ (l : ReservedData). l.shards) lists i (longer r ss)
    ∙ ap (λ (l : List (List ℕ)). set l i (r.shards ++ ss)) (sym is)
    ∙ ap (λ (l : List ℕ). set x.lists i (l ++ ss)) (sym shards)

-- and each has its room
pub back_kept : (p : PlanData) (x : LedgerState) (lists : List ReservedData) (i : ℕ) (ss : List ℕ) (r : ReservedData)
    → IsKept p x lists
    → x.lists ≡ map (λ (l : ReservedData). l.shards) lists → IsReturned x 0 i ss → r ≡ slice_index_or lists i r
    → IsKept p (record x {
      outs = set x.outs i 0;
      lists = map (λ (l : ReservedData). l.shards) (set lists i (longer r ss));
      unplaced = placed x.unplaced ss;
    }) (set lists i (longer r ss))
back_kept p x lists i ss r kept is back at =
    let y = λ (l : List (List ℕ)). record x { outs = set x.outs i 0; lists = l; unplaced = placed x.unplaced ss } in
    let sound = sound_home p x i ss kept.sound back.within back.brought in
    let same : r.room ≡ (slice_index_or lists i r).room = ap (λ (q : ReservedData). q.room) at in
    let rooms = map-set (λ (l : ReservedData). l.room) lists i (longer r ss)
    ∙ ap (set (map (λ (l : ReservedData). l.room) lists) i) (same ∙ sym (room_at lists i r))
    ∙ set-get_or (map (λ (l : ReservedData). l.room) lists) i r.room ∙ kept.room
    ∙ ap (λ (m : ℕ). replicate m p.shards) (sym (length-set lists i (longer r ss))) in
    record {
      sound = subst (λ (l : List (List ℕ)). IsSound p (y l)) (sym (back_lists p x lists i ss r kept is back at)) sound;
      room = rooms;
    }

rooms_open : (n s : ℕ)
    → map (λ (l : ReservedData). l.room) (replicate n (record { room = s; shards = [] })) ≡ replicate n s
rooms_open zero s = refl
rooms_open (suc n) s = ap (λ (l : List ℕ). s ∷ l) (rooms_open n s)

lists_open : (n s : ℕ)
    → map (λ (l : ReservedData). l.shards) (replicate n (record { room = s; shards = [] })) ≡ replicate n []
lists_open zero s = refl
lists_open (suc n) s = ap (λ (l : List (List ℕ)). [] ∷ l) (lists_open n s)

zero_at : (n m t : ℕ) → slice_index (replicate n 0) t ≤ m
zero_at zero m t = omega arith
zero_at (suc n) m zero = omega arith
zero_at (suc n) m (suc t) = zero_at n m t

-- a core is sound at the opening
sound_open : (p : PlanData) (lanes : ℕ) → IsPlan p → IsSound p (opening p lanes)
sound_open p lanes plan = record {
  plan = plan;
  rows = (
    length-replicate p.shards 0,
    length-replicate p.shards 0,
    length-replicate p.shards 0,
    length-replicate p.shards 0,
  );
  lanes = length-replicate lanes [] ∙ sym (length-replicate lanes 0);
  drawn = omega arith;
  given = zero_at p.shards p.attempts;
  winners = zero_at p.shards p.attempts;
  marks = zero_at p.shards 1;
  outs = zero_at lanes 1;
  few = few_open p.shards lanes;
}

pub kept_open : (p : PlanData) (lanes : ℕ) (lists : List ReservedData) → IsPlan p
    → lists ≡ replicate lanes (record { room = p.shards; shards = [] })
    → IsKept p (record (opening p lanes) { lists = map (λ (l : ReservedData). l.shards) lists }) lists
kept_open p lanes lists plan is = subst (λ (l : List ReservedData).
    IsKept p (record (opening p lanes) { lists = map (λ (q : ReservedData). q.shards) l }) l) (sym is) record {
      sound = subst (λ (l : List (List ℕ)). IsSound p (record (opening p lanes) { lists = l }))
          (sym (lists_open lanes p.shards)) (sound_open p lanes plan);
      room = rooms_open lanes p.shards
          ∙ ap (λ (n : ℕ). replicate n p.shards)
          (sym (length-replicate lanes (record { room = p.shards; shards = [] })));
    }

-- what a contract sees of a new core
pub seen_open : (p : PlanData) (lanes : ℕ) (lists : List ReservedData)
    → lists ≡ replicate lanes (record { room = p.shards; shards = [] })
    → core_data p 0 (replicate p.shards 0) (replicate p.shards 0) (replicate p.shards 0) (replicate p.shards 0) None
    (replicate lanes 0) (map (λ (l : ReservedData). l.shards) lists)
    ≡ record { plan = p; lanes = lanes; state = opening p lanes }
seen_open p lanes lists is =
    ap (λ (n : ℕ). record {
      plan = p;
      lanes = n;
      state = record (opening p lanes) { lists = map (λ (l : ReservedData). l.shards) lists };
    }) (length-replicate lanes 0)
    ∙ ap (λ (l : List (List ℕ)). record { plan = p; lanes = lanes; state = record (opening p lanes) { lists = l } })
    (ap (map (λ (l : ReservedData). l.shards)) is ∙ lists_open lanes p.shards)
