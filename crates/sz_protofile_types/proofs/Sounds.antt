-- What the calls of a search leave true of it.
use Rattle.std.proofs.Common.{◌≡◌, ℕ, ◌+◌, ◌-◌, ◌<◌, ◌≤◌, ◌⊎◌, inl, inr, List, [], ◌∷◌, ◌++◌, length, take, map, set, slice_get, get_or, Some, refl, sym, ap, ◌∙◌, subst, arith, length-append}
use Rattle.std.proofs.lemmas.Bool.{cases_lt, cases_eq}
use Rattle.std.proofs.lemmas.List.{length_push, length-map}
use Rattle.sz_protofile_types.specs.declared.mark.Mark.{Mark}
use Rattle.sz_protofile_types.specs.declared.mark.Mark.TheVariants as mark
use Rattle.sz_protofile_types.specs.declared.mark.Start.{Start}
use Rattle.sz_protofile_types.specs.declared.mark.Link.{Link}
use Rattle.sz_protofile_types.specs.declared.search.Search.{Search}
use Rattle.sz_protofile_types.specs.Components.{links_of, IsGraph, Leads}
use Rattle.sz_protofile_types.specs.Search.{mark_of, link, start_at, none_spared, IsOpen, IsSearch, IsWhole, IsSound, IsCut, IsClosing, weight, unseen_steps, steps_of}
use Rattle.sz_protofile_types.proofs.Places.{at_within, at_end, at_last, at_get_or, at_taken, taken_at}
use Rattle.sz_protofile_types.proofs.Taken.{link_taken, lead_to_end, parts_joined}
use Rattle.sz_protofile_types.proofs.Opened.{node_opened}
use Rattle.sz_protofile_types.proofs.Closed.{part_closed}
use Rattle.sz_protofile_types.proofs.Steps.{steps_set, steps_closing}

-- the same of equal lists
pub whole_as : (graph : List (List ℕ)) (marks marks' : List Mark) (path path' : List ℕ) (starts starts' : List Start)
    (pending pending' : List Link)
    (next next' : ℕ) → marks' ≡ marks → path' ≡ path → starts' ≡ starts → pending' ≡ pending → next' ≡ next
    → IsWhole graph marks path starts pending next → IsWhole graph marks' path' starts' pending' next'
whole_as graph marks marks' path path' starts starts' pending pending' next next' a b c d e h =
    subst (λ x. IsWhole graph x path' starts' pending' next') (sym a)
    (subst (λ x. IsWhole graph marks x starts' pending' next') (sym b)
    (subst (λ x. IsWhole graph marks path x pending' next') (sym c)
    (subst (λ x. IsWhole graph marks path starts x next') (sym d)
    (subst (λ x. IsWhole graph marks path starts pending x) (sym e) h))))

-- ---- a node is opened

module _ (graph : List (List ℕ)) (old now : Search) (v : ℕ) (h : IsSound graph (λ w. w ≡ v) old)
    (within : v < length graph) (unseen : mark_of old.marks.items v ≡ mark.Unseen)
    (leads : (u p : ℕ) → IsOpen old.marks.items u p → Leads graph u v)
    (marks : now.marks.items ≡ set old.marks.items v (mark.Open (length old.path.items)))
    (path : now.path.items ≡ old.path.items ++ v ∷ [])
    (starts : now.starts.items ≡ old.starts.items ++ start_at (length old.path.items) (length old.pending.items) ∷ [])
    (pending : now.pending.items ≡ old.pending.items ++ map (link v) (links_of graph v))
    (order : length now.order.items ≡ length old.order.items) where
  in_marks : v < length old.marks.items
  in_marks = omega (arith, within, h.room)

  pub entered : IsSound graph none_spared now
  entered =
      whole_as graph (set old.marks.items v (mark.Open (length old.path.items))) now.marks.items
      (old.path.items ++ v ∷ []) now.path.items
      (old.starts.items ++ start_at (length old.path.items) (length old.pending.items) ∷ []) now.starts.items
      (old.pending.items ++ map (link v) (links_of graph v)) now.pending.items (length old.order.items)
      (length now.order.items) marks path starts pending order (node_opened graph old.marks.items old.path.items
      old.starts.items old.pending.items (length old.order.items) v h in_marks unseen leads)

  pub entered_fewer : steps_of graph now < steps_of graph old
  entered_fewer =
      omega (
        arith,
        steps_set old.marks.items graph v (mark.Open (length old.path.items)) in_marks h.room,
        ap (λ m. weight m (links_of graph v)) unseen,
        ap (λ m. unseen_steps m graph) marks,
        ap length starts,
        length_push old.starts.items (start_at (length old.path.items) (length old.pending.items)),
        ap length pending,
        length-append old.pending.items (map (link v) (links_of graph v)),
        length-map (links_of graph v) (link v),
      )

-- ---- parts are joined

module _ (graph : List (List ℕ)) (old : Search) (v q : ℕ) (after : List Start) (h : IsSound graph (λ w. w ≡ v) old)
    (o : IsOpen old.marks.items v q)
    (leads : (u p : ℕ) → IsOpen old.marks.items u p → Leads graph u v) (cut : IsCut q old.starts.items after) where
  was : (i : ℕ) (s : Start) → slice_get after i ≡ Some s → slice_get old.starts.items i ≡ Some s
  was i s a = (at_taken old.starts.items (length after) i s (ap (λ l. slice_get l i) (sym cut.front) ∙ a)).0

  low : (i : ℕ) (s : Start) → slice_get after i ≡ Some s → s.place ≤ q
  low i s a = by (cases_eq (i + 1) (length after))
    where
      by : (i + 1 ≡ length after) ⊎ ((i + 1 ≡ length after) → ⊥) → s.place ≤ q
      by (inl e) = cut.last i s a e
      by (inr n) =
          let l = at_within after i s a in
          let j : i + 1 < length after = grind (arith, l, n) in
          by_next (length after) j refl
        where
          by_next : (n : ℕ) → i + 1 < n → n ≡ length after → s.place ≤ q
          by_next n l e =
              let at_t : slice_get after (n - 1) ≡ Some (get_or after (n - 1) s) =
              at_get_or after (n - 1) s (omega (arith, l, e)) in
              let least = cut.last (n - 1) (get_or after (n - 1) s) at_t (omega (arith, l, e)) in
              let r = h.rising i (n - 1) s (get_or after (n - 1) s) (was i s a)
              (was (n - 1) (get_or after (n - 1) s) at_t) (omega (arith, l)) in
              omega (arith, least, r.0)

  kept : (i : ℕ) (s : Start) → slice_get old.starts.items i ≡ Some s → s.place ≤ q → slice_get after i ≡ Some s
  kept i s a b = by (cases_lt i (length after))
    where
      by : (i < length after) ⊎ (length after ≤ i) → slice_get after i ≡ Some s
      by (inl l) = ap (λ x. slice_get x i) cut.front ∙ taken_at old.starts.items (length after) i s a l
      by (inr l) = absurd (omega (arith, cut.behind i s a l, b))

  pub joined : IsWhole graph old.marks.items old.path.items after old.pending.items (length old.order.items)
  joined =
      parts_joined graph old.marks.items old.path.items old.starts.items old.pending.items (length old.order.items) v
      h q after o leads (λ i s a. (was i s a, low i s a)) kept

-- ---- a step at the last part

module _ (graph : List (List ℕ)) (old : Search) (start : Start) (h : IsSound graph none_spared old) (front : List Start)
    (last : old.starts.items ≡ front ++ start ∷ []) where
  at_start : slice_get old.starts.items (length front) ≡ Some start
  at_start = ap (λ l. slice_get l (length front)) last ∙ at_end front start

  highest : (i : ℕ) (s : Start) → slice_get old.starts.items i ≡ Some s
      → (s.place ≤ start.place) × (s.pending ≤ start.pending)
  highest i s a = by (at_last front start i s (ap (λ l. slice_get l i) (sym last) ∙ a))
    where
      by : (slice_get front i ≡ Some s) ⊎ ((i ≡ length front) × (start ≡ s))
          → (s.place ≤ start.place) × (s.pending ≤ start.pending)
      by (inl b) = let r = h.rising i (length front) s start a at_start (at_within front i s b) in
          (omega (arith, r.0), r.1)
      by (inr e) = (omega (arith, ap (λ (r : Start). r.place) e.1), omega (arith, ap (λ (r : Start). r.pending) e.1))

  pub start_in_path : start.place < length old.path.items
  start_in_path = (h.bounds (length front) start at_start).0

  module _ (rest : List Link) (e : Link) (taken : old.pending.items ≡ rest ++ e ∷ [])
      (few : start.pending ≤ length rest) where
    with_rest : IsWhole graph old.marks.items old.path.items old.starts.items (rest ++ e ∷ []) (length old.order.items)
    with_rest =
        subst (λ p. IsWhole graph old.marks.items old.path.items old.starts.items p (length old.order.items)) taken h

    pub step_taken : IsSearch graph (λ w. w ≡ e.to) old.marks.items old.path.items old.starts.items rest
        (length old.order.items)
    step_taken =
        link_taken graph old.marks.items old.path.items old.starts.items rest e (length old.order.items) with_rest
        (λ i s a. omega (arith, few, (highest i s a).1))

    pub step_leads : (u p : ℕ) → IsOpen old.marks.items u p → Leads graph u e.to
    step_leads =
        lead_to_end graph old.marks.items old.path.items old.starts.items rest e (length old.order.items) with_rest
        (length front) start at_start few (λ i s a. (highest i s a).0)

    pub step_within : IsGraph graph → e.to < length graph
    step_within g = g e.«from» e.to (with_rest.owing (length rest) e (at_end rest e)).linked

  module _ (now : Search) (all : length old.pending.items ≤ start.pending)
      (marks : IsClosing start.place (length old.order.items) old.marks.items now.marks.items)
      (path : now.path.items ≡ take start.place old.path.items)
      (order : length old.order.items < length now.order.items) (starts : now.starts.items ≡ front)
      (pending : now.pending.items ≡ old.pending.items) where
    pub closed_sound : IsSound graph none_spared now
    closed_sound =
        whole_as graph now.marks.items now.marks.items (take start.place old.path.items) now.path.items front
        now.starts.items old.pending.items
        now.pending.items (length now.order.items) (length now.order.items) refl path starts pending refl
        (part_closed graph old.marks.items now.marks.items old.path.items front start old.pending.items
        (length old.order.items) (length now.order.items) (subst (λ l. IsWhole graph old.marks.items old.path.items l
        old.pending.items (length old.order.items)) last h) all marks order)

    pub closed_fewer : steps_of graph now < steps_of graph old
    closed_fewer =
        omega (
          arith,
          steps_closing start.place (length old.order.items) old.marks.items now.marks.items graph marks,
          ap length starts,
          ap length last,
          length_push front start,
          ap length pending,
        )
