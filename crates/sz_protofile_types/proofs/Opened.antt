-- A node that wasn't seen is opened: it begins a part of its own at the end of the path.
use Rattle.std.proofs.Common.{◌≡◌, ◌≢◌, ℕ, ◌+◌, ◌<◌, ◌≤◌, ◌⊎◌, inl, inr, List, [], ◌∷◌, ◌++◌, length, set, map, slice_get, Some, refl, sym, ap, subst, ◌∙◌, arith, length-append}
use Rattle.std.specs.List.{Contains}
use Rattle.std.proofs.lemmas.List.{length-set, length_push}
use Rattle.sz_protofile_types.specs.declared.mark.Mark.{Mark}
use Rattle.sz_protofile_types.specs.declared.mark.Mark.TheVariants as mark
use Rattle.sz_protofile_types.specs.declared.mark.Start.{Start}
use Rattle.sz_protofile_types.specs.declared.mark.Link.{Link}
use Rattle.sz_protofile_types.specs.Components.{links_of, Leads, itself}
use Rattle.sz_protofile_types.specs.Search.{mark_of, link, start_at, none_spared, IsOpen, IsClosed, IsSettled, closed, inside, owed, spared_end, IsOwed, IsCovered, IsSearch, IsWhole}
use Rattle.sz_protofile_types.proofs.Places.{at_within, at_left, at_right, at_cases, at_last, at_end, mapped_at, at_mapped, contained_at, at_contained}
use Rattle.sz_protofile_types.proofs.Ways.{open_unseen, closed_unseen, open_closed, open_same, set_same, set_other, set_cases}

module _ (graph : List (List ℕ)) (marks : List Mark) (path : List ℕ) (starts : List Start)
    (pending : List Link) (next v : ℕ) (h : IsSearch graph (λ w. w ≡ v) marks path starts pending next)
    (within : v < length marks) (unseen : mark_of marks v ≡ mark.Unseen)
    (leads : (u p : ℕ) → IsOpen marks u p → Leads graph u v) where
  abbrev new : Start
  new = start_at (length path) (length pending)

  abbrev marks_now : List Mark
  marks_now = set marks v (mark.Open (length path))

  abbrev starts_now : List Start
  starts_now = starts ++ new ∷ []

  abbrev pending_now : List Link
  pending_now = pending ++ map (link v) (links_of graph v)

  -- the node itself
  its_own : IsOpen marks_now v (length path)
  its_own = set_same marks v (mark.Open (length path)) within

  -- other nodes
  still_open : (u p : ℕ) → IsOpen marks u p → IsOpen marks_now u p
  still_open u p o =
      set_other marks v (mark.Open (length path)) within u
      (λ e. open_unseen p (sym o ∙ ap (mark_of marks) e ∙ unseen)) ∙ o

  still_closed : (u k : ℕ) → IsClosed marks u k → IsClosed marks_now u k
  still_closed u k o =
      set_other marks v (mark.Open (length path)) within u
      (λ e. closed_unseen k (sym o ∙ ap (mark_of marks) e ∙ unseen)) ∙ o

  opens : (u p : ℕ) → IsOpen marks_now u p → ((u ≡ v) × (p ≡ length path)) ⊎ (IsOpen marks u p)
  opens u p o = by (set_cases marks v (mark.Open (length path)) within u)
    where
      by : ((u ≡ v) × (mark_of marks_now u ≡ mark.Open (length path)))
          ⊎ ((u ≢ v) × (mark_of marks_now u ≡ mark_of marks u)) → ((u ≡ v) × (p ≡ length path)) ⊎ (IsOpen marks u p)
      by (inl e) = inl (e.0, open_same p (length path) (sym o ∙ e.1))
      by (inr n) = inr (sym n.1 ∙ o)

  was_closed : (u k : ℕ) → IsClosed marks_now u k → IsClosed marks u k
  was_closed u k o = by (set_cases marks v (mark.Open (length path)) within u)
    where
      by : ((u ≡ v) × (mark_of marks_now u ≡ mark.Open (length path)))
          ⊎ ((u ≢ v) × (mark_of marks_now u ≡ mark_of marks u)) → IsClosed marks u k
      by (inl e) = absurd (open_closed (length path) k (sym e.1 ∙ o))
      by (inr n) = sym n.1 ∙ o

  low : (u p : ℕ) → IsOpen marks u p → p < length path
  low u p o = at_within path p u (h.placed u p o)

  placed : (u p : ℕ) → IsOpen marks_now u p → slice_get (path ++ v ∷ []) p ≡ Some u
  placed u p o = by (opens u p o)
    where
      by : ((u ≡ v) × (p ≡ length path)) ⊎ (IsOpen marks u p) → slice_get (path ++ v ∷ []) p ≡ Some u
      by (inl e) = ap (slice_get (path ++ v ∷ [])) e.1 ∙ at_end path v ∙ ap (λ w. Some w) (sym e.0)
      by (inr b) = at_left path (v ∷ []) p u (h.placed u p b)

  opened : (u p : ℕ) → slice_get (path ++ v ∷ []) p ≡ Some u → IsOpen marks_now u p
  opened u p a = by (at_last path v p u a)
    where
      by : (slice_get path p ≡ Some u) ⊎ ((p ≡ length path) × (v ≡ u)) → IsOpen marks_now u p
      by (inl b) = still_open u p (h.opened u p b)
      by (inr e) = ap (mark_of marks_now) (sym e.1) ∙ its_own ∙ ap (λ n. mark.Open n) (sym e.0)

  reach : (u w p q : ℕ) → IsOpen marks_now u p → IsOpen marks_now w q
      → ((i : ℕ) (s : Start) → slice_get starts_now i ≡ Some s → s.place ≤ p → s.place ≤ q) → Leads graph u w
  reach u w p q ou ow c = by (opens u p ou) (opens w q ow)
    where
      by : ((u ≡ v) × (p ≡ length path)) ⊎ (IsOpen marks u p) → ((w ≡ v) × (q ≡ length path)) ⊎ (IsOpen marks w q)
          → Leads graph u w
      by (inl e) (inl f) = subst (λ x. Leads graph u x) (e.0 ∙ sym f.0) (itself u)
      by (inl e) (inr b) =
          absurd (omega (arith, c (length starts) new (at_end starts new) (omega (arith, e.1)), low w q b))
      by (inr b) (inl f) = subst (λ x. Leads graph u x) (sym f.0) (leads u p b)
      by (inr b) (inr d) = h.reach u w p q b d (λ i s a. c i s (at_left starts (new ∷ []) i s a))

  -- each start is at the end of the path at most
  not_behind : (i : ℕ) (s : Start) → slice_get starts_now i ≡ Some s
      → (s.place ≤ length path) × (s.pending ≤ length pending)
  not_behind i s a = by (at_last starts new i s a)
    where
      by : (slice_get starts i ≡ Some s) ⊎ ((i ≡ length starts) × (new ≡ s))
          → (s.place ≤ length path) × (s.pending ≤ length pending)
      by (inl b) = (omega (arith, (h.bounds i s b).0), (h.bounds i s b).1)
      by (inr e) = (omega (arith, ap (λ (t : Start). t.place) e.1), omega (arith, ap (λ (t : Start). t.pending) e.1))

  settled : (u w p i : ℕ) (s : Start) → IsOpen marks_now u p → Contains (links_of graph u) w
      → slice_get starts_now i ≡ Some s → s.place ≤ p → IsSettled none_spared marks_now pending_now s u w
  settled u w p i s o l a b = by (opens u p o) (at_last starts new i s a)
    where
      still : (slice_get starts i ≡ Some s) → IsSettled (λ x. x ≡ v) marks pending s u w
          → IsSettled none_spared marks_now pending_now s u w
      still g (closed k c) = closed k (still_closed w k c)
      still g (inside q c d) = inside q (still_open w q c) d
      still g (owed j c d) = owed j c (at_left pending (map (link v) (links_of graph v)) j (link u w) d)
      still g (spared_end e) =
          inside (length path) (ap (mark_of marks_now) e ∙ its_own) (omega (arith, (h.bounds i s g).0))

      fresh : u ≡ v → IsSettled none_spared marks_now pending_now s u w
      fresh e =
          let c = contained_at (links_of graph v) w (subst (λ x. Contains (links_of graph x) w) e l) in
          owed (length pending + c.0) (omega (arith, (not_behind i s a).1))
          (at_right pending (map (link v) (links_of graph v)) (length pending + c.0) c.0 (link u w) refl
          (mapped_at (link v) (links_of graph v) c.0 w c.1 ∙ ap (λ x. Some (link x w)) (sym e)))

      by : ((u ≡ v) × (p ≡ length path)) ⊎ (IsOpen marks u p)
          → (slice_get starts i ≡ Some s) ⊎ ((i ≡ length starts) × (new ≡ s))
          → IsSettled none_spared marks_now pending_now s u w
      by (inl e) g = fresh e.0
      by (inr c) (inl g) = still g (h.settled u w p i s c l g b)
      by (inr c) (inr e) = absurd (omega (arith, low u p c, b, ap (λ (t : Start). t.place) e.1))

  owing : (j : ℕ) (e : Link) → slice_get pending_now j ≡ Some e → IsOwed graph marks_now starts_now j e
  owing j e a = by (at_cases pending (map (link v) (links_of graph v)) j e a)
    where
      old : slice_get pending j ≡ Some e → IsOwed graph marks starts j e → IsOwed graph marks_now starts_now j e
      old b w = record {
        place = w.place;
        opened = still_open e.«from» w.place w.opened;
        linked = w.linked;
        late = λ i s c l. late i s l (at_last starts new i s c);
        early = λ i s c l. early i s l (at_last starts new i s c);
      }
        where
          late : (i : ℕ) (s : Start) → s.pending ≤ j
              → (slice_get starts i ≡ Some s) ⊎ ((i ≡ length starts) × (new ≡ s)) → s.place ≤ w.place
          late i s l (inl c) = w.late i s c l
          late i s l (inr c) = absurd (omega (arith, at_within pending j e b, l, ap (λ (t : Start). t.pending) c.1))

          early : (i : ℕ) (s : Start) → j < s.pending
              → (slice_get starts i ≡ Some s) ⊎ ((i ≡ length starts) × (new ≡ s)) → w.place < s.place
          early i s l (inl c) = w.early i s c l
          early i s l (inr c) = omega (arith, low e.«from» w.place w.opened, ap (λ (t : Start). t.place) c.1)

      fresh : (n : ℕ) → j ≡ length pending + n → (x : ℕ) → slice_get (links_of graph v) n ≡ Some x → link v x ≡ e
          → IsOwed graph marks_now starts_now j e
      fresh n f x g is = record {
        place = length path;
        opened = ap (mark_of marks_now) (ap (λ (l : Link). l.«from») (sym is)) ∙ its_own;
        linked =
            subst (λ (l : Link). Contains (links_of graph l.«from») l.to) is (at_contained (links_of graph v) n x g);
        late = λ i s c l. (not_behind i s c).0;
        early = λ i s c l. absurd (omega (arith, f, l, (not_behind i s c).1));
      }

      mapped : (n : ℕ) → j ≡ length pending + n → (x : ℕ) × (slice_get (links_of graph v) n ≡ Some x) × (link v x ≡ e)
          → IsOwed graph marks_now starts_now j e
      mapped n f m = fresh n f m.0 m.1 m.2

      by : (slice_get pending j ≡ Some e)
          ⊎ ((n : ℕ) × (j ≡ length pending + n) × (slice_get (map (link v) (links_of graph v)) n ≡ Some e))
          → IsOwed graph marks_now starts_now j e
      by (inl b) = old b (h.owing j e b)
      by (inr r) = mapped r.0 r.1 (at_mapped (link v) (links_of graph v) r.0 e r.2)

  rising : (i j : ℕ) (s t : Start) → slice_get starts_now i ≡ Some s → slice_get starts_now j ≡ Some t → i < j
      → (s.place < t.place) × (s.pending ≤ t.pending)
  rising i j s t a b l = by (at_last starts new i s a) (at_last starts new j t b)
    where
      by : (slice_get starts i ≡ Some s) ⊎ ((i ≡ length starts) × (new ≡ s))
          → (slice_get starts j ≡ Some t) ⊎ ((j ≡ length starts) × (new ≡ t))
          → (s.place < t.place) × (s.pending ≤ t.pending)
      by (inl c) (inl d) = h.rising i j s t c d l
      by (inl c) (inr d) = (
        omega (arith, (h.bounds i s c).0, ap (λ (r : Start). r.place) d.1),
        omega (arith, (not_behind i s a).1, ap (λ (r : Start). r.pending) d.1),
      )
      by (inr c) (inl d) = absurd (omega (arith, c.0, l, at_within starts j t d))
      by (inr c) (inr d) = absurd (omega (arith, c.0, d.0, l))

  covered : (u p : ℕ) → IsOpen marks_now u p → IsCovered starts_now p
  covered u p o = by (opens u p o)
    where
      wider : IsCovered starts p → IsCovered starts_now p
      wider c = record {
        index = c.index;
        start = c.start;
        is = at_left starts (new ∷ []) c.index c.start c.is;
        before = c.before;
      }

      by : ((u ≡ v) × (p ≡ length path)) ⊎ (IsOpen marks u p) → IsCovered starts_now p
      by (inl e) = record { index = length starts; start = new; is = at_end starts new; before = omega (arith, e.1) }
      by (inr b) = wider (h.covered u p b)

  pub node_opened : IsWhole graph marks_now (path ++ v ∷ []) starts_now pending_now next
  node_opened = record {
    room = length-set marks v (mark.Open (length path)) ∙ h.room;
    placed = placed;
    opened = opened;
    reach = reach;
    settled = settled;
    falling = λ u w k c l. let f = h.falling u w k (was_closed u k c) l in (f.0, still_closed w f.0 f.1, f.2);
    together = λ u w k c d. h.together u w k (was_closed u k c) (was_closed w k d);
    below = λ u k c. h.below u k (was_closed u k c);
    owing = owing;
    rising = rising;
    covered = covered;
    bounds = λ i s a. (
      omega (arith, (not_behind i s a).0, length_push path v),
      omega (arith, (not_behind i s a).1, length-append pending (map (link v) (links_of graph v))),
    );
  }
