-- A pending link is taken, and its end is closed, or open, and then parts are joined.
use Rattle.std.proofs.Common.{◌≡◌, ℕ, ◌<◌, ◌≤◌, ◌⊎◌, inl, inr, List, [], ◌∷◌, ◌++◌, length, slice_get, Some, sym, ap, subst, arith}
use Rattle.std.proofs.lemmas.Bool.{cases_lt}
use Rattle.sz_protofile_types.specs.declared.mark.Mark.{Mark}
use Rattle.sz_protofile_types.specs.declared.mark.Start.{Start}
use Rattle.sz_protofile_types.specs.declared.mark.Link.{Link}
use Rattle.sz_protofile_types.specs.Components.{Leads}
use Rattle.sz_protofile_types.specs.Search.{link, none_spared, IsOpen, IsClosed, IsSettled, closed, inside, owed, spared_end, IsOwed, IsCovered, IsSearch, IsWhole}
use Rattle.sz_protofile_types.proofs.Places.{at_left, at_last, at_end}
use Rattle.sz_protofile_types.proofs.Ways.{leads_on, leads_to}

module _ (graph : List (List ℕ)) (marks : List Mark) (path : List ℕ) (starts : List Start) (rest : List Link)
    (e : Link) (next : ℕ)
    (h : IsWhole graph marks path starts (rest ++ e ∷ []) next) where
  -- the links that are left, if no part begins behind them
  pub link_taken : ((i : ℕ) (s : Start) → slice_get starts i ≡ Some s → s.pending ≤ length rest)
      → IsSearch graph (λ w. w ≡ e.to) marks path starts rest next
  link_taken few = record {
    room = h.room;
    placed = h.placed;
    opened = h.opened;
    reach = h.reach;
    settled = λ u v p i s o l a b. by u v s (h.settled u v p i s o l a b);
    falling = h.falling;
    together = h.together;
    below = h.below;
    owing = λ j d a. h.owing j d (at_left rest (e ∷ []) j d a);
    rising = h.rising;
    covered = h.covered;
    bounds = λ i s a. ((h.bounds i s a).0, few i s a);
  }
    where
      by_place : (v : ℕ) (u : ℕ) (s : Start) (i : ℕ) → s.pending ≤ i
          → (slice_get rest i ≡ Some (link u v)) ⊎ ((i ≡ length rest) × (e ≡ link u v))
          → IsSettled (λ w. w ≡ e.to) marks rest s u v
      by_place v u s i b (inl a) = owed i b a
      by_place v u s i b (inr r) = spared_end (sym (ap (λ (l : Link). l.to) r.1))

      by : (u v : ℕ) (s : Start) → IsSettled none_spared marks (rest ++ e ∷ []) s u v
          → IsSettled (λ w. w ≡ e.to) marks rest s u v
      by u v s (closed k c) = closed k c
      by u v s (inside p o b) = inside p o b
      by u v s (owed i b a) = by_place v u s i b (at_last rest e i (link u v) a)
      by u v s (spared_end x) = absurd x

  -- every open node leads to the end of the link, where it is one of the last part
  pub lead_to_end : (k : ℕ) (t : Start) → slice_get starts k ≡ Some t → t.pending ≤ length rest
      → ((i : ℕ) (s : Start) → slice_get starts i ≡ Some s → s.place ≤ t.place) → (u p : ℕ) → IsOpen marks u p
      → Leads graph u e.to
  lead_to_end k t at b last u p o =
      let w : IsOwed graph marks starts (length rest) e = h.owing (length rest) e (at_end rest e) in
      let late = w.late k t at b in
      leads_on graph u e.«from» e.to
      (h.reach u e.«from» p w.place o w.opened (λ i s a c. omega (arith, last i s a, late)))
      (leads_to graph e.«from» e.to w.linked)

module _ (graph : List (List ℕ)) (marks : List Mark) (path : List ℕ) (starts : List Start)
    (pending : List Link) (next y : ℕ)
    (h : IsSearch graph (λ w. w ≡ y) marks path starts pending next) where
  -- the end is closed: nothing else is to be done
  pub end_closed : (k : ℕ) → IsClosed marks y k → IsWhole graph marks path starts pending next
  end_closed k c = record {
    room = h.room;
    placed = h.placed;
    opened = h.opened;
    reach = h.reach;
    settled = λ u v p i s o l a b. by u v s (h.settled u v p i s o l a b);
    falling = h.falling;
    together = h.together;
    below = h.below;
    owing = h.owing;
    rising = h.rising;
    covered = h.covered;
    bounds = h.bounds;
  }
    where
      by : (u v : ℕ) (s : Start) → IsSettled (λ w. w ≡ y) marks pending s u v
          → IsSettled none_spared marks pending s u v
      by u v s (closed j d) = closed j d
      by u v s (inside p o b) = inside p o b
      by u v s (owed i b a) = owed i b a
      by u v s (spared_end x) = closed k (subst (λ w. IsClosed marks w k) (sym x) c)

  -- the end is open: the parts behind it are joined to its own
  pub parts_joined : (q : ℕ) (after : List Start) → IsOpen marks y q → ((u p : ℕ) → IsOpen marks u p → Leads graph u y)
      → ((i : ℕ) (s : Start) → slice_get after i ≡ Some s → (slice_get starts i ≡ Some s) × (s.place ≤ q))
      → ((i : ℕ) (s : Start) → slice_get starts i ≡ Some s → s.place ≤ q → slice_get after i ≡ Some s)
      → IsWhole graph marks path after pending next
  parts_joined q after oy leads some_of all_of = record {
    room = h.room;
    placed = h.placed;
    opened = h.opened;
    reach = λ u v p r ou ov c. by_places u v p r ou ov c (cases_lt q p);
    settled = λ u v p i s o l a b. by u v s (some_of i s a).1 (h.settled u v p i s o l (some_of i s a).0 b);
    falling = h.falling;
    together = h.together;
    below = h.below;
    owing = λ j d a. less j d (h.owing j d a);
    rising = λ i j s t a b c. h.rising i j s t (some_of i s a).0 (some_of j t b).0 c;
    covered = λ u p o. cover p (h.covered u p o) (h.covered y q oy);
    bounds = λ i s a. h.bounds i s (some_of i s a).0;
  }
    where
      by_places : (u v p r : ℕ) → IsOpen marks u p → IsOpen marks v r
          → ((i : ℕ) (s : Start) → slice_get after i ≡ Some s → s.place ≤ p → s.place ≤ r) → (q < p) ⊎ (p ≤ q)
          → Leads graph u v
      by_places u v p r ou ov c (inr b) =
          h.reach u v p r ou ov (λ i s a d. c i s (all_of i s a (omega (arith, d, b))) d)
      by_places u v p r ou ov c (inl b) =
          leads_on graph u y v (leads u p ou)
          (h.reach y v q r oy ov (λ i s a d. c i s (all_of i s a d) (omega (arith, d, b))))

      by : (u v : ℕ) (s : Start) → s.place ≤ q → IsSettled (λ w. w ≡ y) marks pending s u v
          → IsSettled none_spared marks pending s u v
      by u v s c (closed j d) = closed j d
      by u v s c (inside p o b) = inside p o b
      by u v s c (owed i b a) = owed i b a
      by u v s c (spared_end x) = inside q (subst (λ w. IsOpen marks w q) (sym x) oy) c

      less : (j : ℕ) (d : Link) → IsOwed graph marks starts j d → IsOwed graph marks after j d
      less j d w = record {
        place = w.place;
        opened = w.opened;
        linked = w.linked;
        late = λ i s a. w.late i s (some_of i s a).0;
        early = λ i s a. w.early i s (some_of i s a).0;
      }

      cover_by : (p : ℕ) (c : IsCovered starts p) → IsCovered starts q → (q < c.start.place) ⊎ (c.start.place ≤ q)
          → IsCovered after p
      cover_by p c d (inr b) = record {
        index = c.index;
        start = c.start;
        is = all_of c.index c.start c.is b;
        before = c.before;
      }
      cover_by p c d (inl b) =
          record {
            index = d.index;
            start = d.start;
            is = all_of d.index d.start d.is d.before;
            before = omega (arith, b, c.before, d.before);
          }

      cover : (p : ℕ) → IsCovered starts p → IsCovered starts q → IsCovered after p
      cover p c d = cover_by p c d (cases_lt q c.start.place)
