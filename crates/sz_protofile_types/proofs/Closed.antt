-- The last part of the path is closed: no link of it is pending.
use Rattle.std.proofs.Common.{◌≡◌, ℕ, ◌<◌, ◌≤◌, ◌⊎◌, inl, inr, nat_lt, List, [], ◌∷◌, ◌++◌, length, take, slice_get, Some, refl, sym, ap, ◌∙◌, arith}
use Rattle.std.specs.List.{Contains}
use Rattle.std.proofs.lemmas.Bool.{cases_lt, lt-ltb, le-ltb, cond-true, cond-false}
use Rattle.std.proofs.lemmas.List.{length-take-le}
use Rattle.sz_protofile_types.specs.declared.mark.Mark.{Mark}
use Rattle.sz_protofile_types.specs.declared.mark.Mark.TheVariants as mark
use Rattle.sz_protofile_types.specs.declared.mark.Start.{Start}
use Rattle.sz_protofile_types.specs.declared.mark.Link.{Link}
use Rattle.sz_protofile_types.specs.Components.{links_of, Leads}
use Rattle.sz_protofile_types.specs.Search.{mark_of, link, none_spared, closing, IsClosing, IsOpen, IsClosed, IsSettled, closed, inside, owed, spared_end, IsOwed, IsCovered, IsWhole}
use Rattle.sz_protofile_types.proofs.Places.{at_within, at_left, at_last, at_end, taken_at, at_taken}
use Rattle.sz_protofile_types.proofs.Ways.{open_closed, open_unseen, closed_unseen, open_same, closed_same}

module _ (place number : ℕ) where
  pub closing_before : (p : ℕ) → p < place → closing place number (mark.Open p) ≡ mark.Open p
  closing_before p l = cond-true (nat_lt p place) (mark.Open p) (mark.Closed number) (lt-ltb p place l)

  pub closing_behind : (p : ℕ) → place ≤ p → closing place number (mark.Open p) ≡ mark.Closed number
  closing_behind p l = cond-false (nat_lt p place) (mark.Open p) (mark.Closed number) (le-ltb p place l)

  -- what is open after that was, and before the place
  pub open_before : (m : Mark) (p : ℕ) → closing place number m ≡ mark.Open p → (m ≡ mark.Open p) × (p < place)
  open_before mark.Unseen p h = absurd (open_unseen p (sym h))
  open_before (mark.Open q) p h = by (cases_lt q place)
    where
      by : (q < place) ⊎ (place ≤ q) → (mark.Open q ≡ mark.Open p) × (p < place)
      by (inl l) =
          let e = sym (closing_before q l) ∙ h in
          (e, omega (arith, l, open_same q p e))
      by (inr l) = absurd (open_closed p number (sym h ∙ closing_behind q l))
  open_before (mark.Closed k) p h = absurd (open_closed p k (sym h))

  -- what is closed after that was, or open from the place on
  pub closed_before : (m : Mark) (k : ℕ) → closing place number m ≡ mark.Closed k
      → (m ≡ mark.Closed k) ⊎ ((p : ℕ) × (m ≡ mark.Open p) × (place ≤ p) × (k ≡ number))
  closed_before mark.Unseen k h = absurd (closed_unseen k (sym h))
  closed_before (mark.Open q) k h = by (cases_lt q place)
    where
      by : (q < place) ⊎ (place ≤ q)
          → (mark.Open q ≡ mark.Closed k) ⊎ ((p : ℕ) × (mark.Open q ≡ mark.Open p) × (place ≤ p) × (k ≡ number))
      by (inl l) = absurd (open_closed q k (sym (closing_before q l) ∙ h))
      by (inr l) = inr (q, refl, l, closed_same k number (sym h ∙ closing_behind q l))
  closed_before (mark.Closed j) k h = inl h

module _ (graph : List (List ℕ)) (marks after : List Mark) (path : List ℕ) (front : List Start) (t : Start)
    (pending : List Link) (next later : ℕ) (h : IsWhole graph marks path (front ++ t ∷ []) pending next)
    (all : length pending ≤ t.pending) (c : IsClosing t.place next marks after)
    (more : next < later) where
  was_open : (u p : ℕ) → IsOpen after u p → (IsOpen marks u p) × (p < t.place)
  was_open u p o = open_before t.place next (mark_of marks u) p (sym (c.marked u) ∙ o)

  was_closed : (u k : ℕ) → IsClosed after u k
      → (IsClosed marks u k) ⊎ ((p : ℕ) × (IsOpen marks u p) × (t.place ≤ p) × (k ≡ next))
  was_closed u k o = closed_before t.place next (mark_of marks u) k (sym (c.marked u) ∙ o)

  still_closed : (u k : ℕ) → IsClosed marks u k → IsClosed after u k
  still_closed u k o = c.marked u ∙ ap (closing t.place next) o

  still_open : (u p : ℕ) → IsOpen marks u p → p < t.place → IsOpen after u p
  still_open u p o l = c.marked u ∙ ap (closing t.place next) o ∙ closing_before t.place next p l

  now_closed : (u p : ℕ) → IsOpen marks u p → t.place ≤ p → IsClosed after u next
  now_closed u p o l = c.marked u ∙ ap (closing t.place next) o ∙ closing_behind t.place next p l

  in_all : (i : ℕ) (s : Start) → slice_get front i ≡ Some s → slice_get (front ++ t ∷ []) i ≡ Some s
  in_all i s a = at_left front (t ∷ []) i s a

  its_own : slice_get (front ++ t ∷ []) (length front) ≡ Some t
  its_own = at_end front t

  -- no start is behind the last
  not_behind : (i : ℕ) (s : Start) → slice_get (front ++ t ∷ []) i ≡ Some s
      → (s.place ≤ t.place) × (s.pending ≤ t.pending)
  not_behind i s a = by (at_last front t i s a)
    where
      by : (slice_get front i ≡ Some s) ⊎ ((i ≡ length front) × (t ≡ s)) → (s.place ≤ t.place) × (s.pending ≤ t.pending)
      by (inl b) =
          let r = h.rising i (length front) s t a its_own (at_within front i s b) in
          (omega (arith, r.0), r.1)
      by (inr e) = (omega (arith, ap (λ (r : Start). r.place) e.1), omega (arith, ap (λ (r : Start). r.pending) e.1))

  settled : (u v p i : ℕ) (s : Start) → IsOpen after u p → Contains (links_of graph u) v
      → slice_get front i ≡ Some s → s.place ≤ p → IsSettled none_spared after pending s u v
  settled u v p i s o l a b = by (h.settled u v p i s (was_open u p o).0 l (in_all i s a) b)
    where
      by_place : (q : ℕ) → IsOpen marks v q → s.place ≤ q → (q < t.place) ⊎ (t.place ≤ q)
          → IsSettled none_spared after pending s u v
      by_place q d e (inl f) = inside q (still_open v q d f) e
      by_place q d e (inr f) = closed next (now_closed v q d f)

      by : IsSettled none_spared marks pending s u v → IsSettled none_spared after pending s u v
      by (closed k d) = closed k (still_closed v k d)
      by (inside q d e) = by_place q d e (cases_lt q t.place)
      by (owed j d e) = owed j d e
      by (spared_end x) = absurd x

  falling : (u v k : ℕ) → IsClosed after u k → Contains (links_of graph u) v → (j : ℕ) × (IsClosed after v j) × (j ≤ k)
  falling u v k o l = by (was_closed u k o)
    where
      last : k ≡ next → IsSettled none_spared marks pending t u v → (j : ℕ) × (IsClosed after v j) × (j ≤ k)
      last e (closed j d) = (j, still_closed v j d, omega (arith, e, h.below v j d))
      last e (inside q d f) = (next, now_closed v q d f, omega (arith, e))
      last e (owed j d f) = absurd (omega (arith, at_within pending j (link u v) f, d, all))
      last e (spared_end x) = absurd x

      by : (IsClosed marks u k) ⊎ ((p : ℕ) × (IsOpen marks u p) × (t.place ≤ p) × (k ≡ next))
          → (j : ℕ) × (IsClosed after v j) × (j ≤ k)
      by (inl d) = let f = h.falling u v k d l in (f.0, still_closed v f.0 f.1, f.2)
      by (inr d) = last d.3 (h.settled u v d.0 (length front) t d.1 l its_own d.2)

  together : (u v k : ℕ) → IsClosed after u k → IsClosed after v k → Leads graph u v
  together u v k o d = by (was_closed u k o) (was_closed v k d)
    where
      by : (IsClosed marks u k) ⊎ ((p : ℕ) × (IsOpen marks u p) × (t.place ≤ p) × (k ≡ next))
          → (IsClosed marks v k) ⊎ ((p : ℕ) × (IsOpen marks v p) × (t.place ≤ p) × (k ≡ next)) → Leads graph u v
      by (inl a) (inl b) = h.together u v k a b
      by (inl a) (inr b) = absurd (omega (arith, h.below u k a, b.3))
      by (inr a) (inl b) = absurd (omega (arith, h.below v k b, a.3))
      by (inr a) (inr b) = h.reach u v a.0 b.0 a.1 b.1 (λ i s e f. omega (arith, (not_behind i s e).0, b.2))

  below : (u k : ℕ) → IsClosed after u k → k < later
  below u k o = by (was_closed u k o)
    where
      by : (IsClosed marks u k) ⊎ ((p : ℕ) × (IsOpen marks u p) × (t.place ≤ p) × (k ≡ next)) → k < later
      by (inl d) = omega (arith, more, h.below u k d)
      by (inr d) = omega (arith, more, d.3)

  owing : (j : ℕ) (e : Link) → slice_get pending j ≡ Some e → IsOwed graph after front j e
  owing j e a = by (h.owing j e a)
    where
      by : IsOwed graph marks (front ++ t ∷ []) j e → IsOwed graph after front j e
      by w = record {
        place = w.place;
        opened = still_open e.«from» w.place w.opened
            (w.early (length front) t its_own (omega (arith, at_within pending j e a, all)));
        linked = w.linked;
        late = λ i s b. w.late i s (in_all i s b);
        early = λ i s b. w.early i s (in_all i s b);
      }

  covered : (u p : ℕ) → IsOpen after u p → IsCovered front p
  covered u p o = by (h.covered u p (was_open u p o).0)
    where
      by_place : (d : IsCovered (front ++ t ∷ []) p)
          → (slice_get front d.index ≡ Some d.start) ⊎ ((d.index ≡ length front) × (t ≡ d.start)) → IsCovered front p
      by_place d (inl b) = record { index = d.index; start = d.start; is = b; before = d.before }
      by_place d (inr b) = absurd (omega (arith, (was_open u p o).1, d.before, ap (λ (r : Start). r.place) b.1))

      by : IsCovered (front ++ t ∷ []) p → IsCovered front p
      by d = by_place d (at_last front t d.index d.start d.is)

  -- the start of the last part is within the path
  in_path : t.place < length path
  in_path = (h.bounds (length front) t its_own).0

  lower : (i : ℕ) (s : Start) → slice_get front i ≡ Some s → s.place < t.place
  lower i s a = (h.rising i (length front) s t (in_all i s a) its_own (at_within front i s a)).0

  pub part_closed : IsWhole graph after (take t.place path) front pending later
  part_closed = record {
    room = c.same ∙ h.room;
    placed = λ u p o. taken_at path t.place p u (h.placed u p (was_open u p o).0) (was_open u p o).1;
    opened = λ u p a. let d = at_taken path t.place p u a in still_open u p (h.opened u p d.0) d.1;
    reach = λ u v p q o d f. h.reach u v p q
        (was_open u p o).0 (was_open v q d).0 (λ i s a b. kept u v p q o d f i s b (at_last front t i s a));
    settled = settled;
    falling = falling;
    together = together;
    below = below;
    owing = owing;
    rising = λ i j s r a b l. h.rising i j s r (in_all i s a) (in_all j r b) l;
    covered = covered;
    bounds = λ i s a. (
      omega (arith, lower i s a, in_path, length-take-le t.place path (omega (arith, in_path))),
      (h.bounds i s (in_all i s a)).1,
    );
  }
    where
      kept : (u v p q : ℕ) → IsOpen after u p → IsOpen after v q
          → ((i : ℕ) (s : Start) → slice_get front i ≡ Some s → s.place ≤ p → s.place ≤ q)
          → (i : ℕ) (s : Start) → s.place ≤ p
          → (slice_get front i ≡ Some s) ⊎ ((i ≡ length front) × (t ≡ s)) → s.place ≤ q
      kept u v p q o d f i s b (inl a) = f i s a b
      kept u v p q o d f i s b (inr e) = absurd (omega (arith, (was_open u p o).1, b, ap (λ (r : Start). r.place) e.1))
