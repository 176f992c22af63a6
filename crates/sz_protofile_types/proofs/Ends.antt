-- The search begins with nothing seen, and where all is seen and nothing open, the numbers are made.
use Rattle.std.proofs.Common.{◌≡◌, ℕ, ◌<◌, ◌≤◌, ◌⊎◌, inl, inr, List, [], length, map, replicate, slice_get, get_or, refl, sym, ap, ◌∙◌, arith}
use Rattle.std.specs.List.{Contains}
use Rattle.std.proofs.lemmas.Bool.{cases_lt}
use Rattle.std.proofs.lemmas.List.{length-map, length-replicate, get_or-replicate, get_or_past, get_or-map}
use Rattle.std.proofs.lemmas.Option.{none-some}
use Rattle.sz_protofile_types.specs.declared.mark.Mark.{Mark}
use Rattle.sz_protofile_types.specs.declared.mark.Mark.TheVariants as mark
use Rattle.sz_protofile_types.specs.declared.search.Search.{Search}
use Rattle.sz_protofile_types.specs.Components.{links_of, Leads, AreNumbers}
use Rattle.sz_protofile_types.specs.Search.{mark_of, none_spared, IsOpen, IsClosed, IsSound, IsWhole, IsCovered, number_of}
use Rattle.sz_protofile_types.proofs.Ways.{open_unseen, closed_unseen}
use Rattle.sz_protofile_types.proofs.Sounds.{whole_as}

-- ---- at first

unseen_at : (n u : ℕ) → mark_of (replicate n mark.Unseen) u ≡ mark.Unseen
unseen_at n u = by (cases_lt u n)
  where
    by : (u < n) ⊎ (n ≤ u) → mark_of (replicate n mark.Unseen) u ≡ mark.Unseen
    by (inl l) = get_or-replicate n u mark.Unseen mark.Unseen l
    by (inr l) = get_or_past (replicate n mark.Unseen) u mark.Unseen
        (omega (arith, l, length-replicate {A = Mark} n mark.Unseen))

module _ (graph : List (List ℕ)) (n : ℕ) where
  not_open : (u p : ℕ) → IsOpen (replicate n mark.Unseen) u p → ⊥
  not_open u p o = open_unseen p (sym o ∙ unseen_at n u)

  not_closed : (u k : ℕ) → IsClosed (replicate n mark.Unseen) u k → ⊥
  not_closed u k o = closed_unseen k (sym o ∙ unseen_at n u)

  nothing_seen : n ≡ length graph → (next : ℕ) → IsWhole graph (replicate n mark.Unseen) [] [] [] next
  nothing_seen e next = record {
    room = length-replicate {A = Mark} n mark.Unseen ∙ e;
    placed = λ u p o. absurd (not_open u p o);
    opened = λ u p a. absurd (none-some u a);
    reach = λ u v p q o _ _. absurd (not_open u p o);
    settled = λ u v p i s o _ _ _. absurd (not_open u p o);
    falling = λ u v k c _. absurd (not_closed u k c);
    together = λ u v k c _. absurd (not_closed u k c);
    below = λ u k c. absurd (not_closed u k c);
    owing = λ j e a. absurd (none-some e a);
    rising = λ i j s t a _ _. absurd (none-some s a);
    covered = λ u p o. absurd (not_open u p o);
    bounds = λ i s a. absurd (none-some s a);
  }

pub begins : (graph : List (List ℕ)) (n : ℕ) (s : Search) → n ≡ length graph → s.marks.items ≡ replicate n mark.Unseen
    → s.path.items ≡ [] → s.starts.items ≡ [] → s.pending.items ≡ [] → IsSound graph none_spared s
begins graph n s e marks path starts pending =
    whole_as graph (replicate n mark.Unseen) s.marks.items [] s.path.items [] s.starts.items [] s.pending.items
    (length s.order.items) (length s.order.items)
    marks path starts pending refl (nothing_seen graph n e (length s.order.items))

-- ---- at the end

module _ (graph : List (List ℕ)) (s : Search) (h : IsSound graph none_spared s) (idle : s.starts.items ≡ []) where
  pub none_open : (u p : ℕ) → IsOpen s.marks.items u p → ⊥
  none_open u p o = by (h.covered u p o)
    where
      by : IsCovered s.starts.items p → ⊥
      by c = none-some c.start (ap (λ l. slice_get l c.index) (sym idle) ∙ c.is)

  module _ (seen : (u : ℕ) → u < length graph → mark_of s.marks.items u ≡ mark.Unseen → ⊥) where
    is_closed : (u : ℕ) → u < length graph → (k : ℕ) × IsClosed s.marks.items u k
    is_closed u l = by (mark_of s.marks.items u) refl
      where
        by : (m : Mark) → mark_of s.marks.items u ≡ m → (k : ℕ) × IsClosed s.marks.items u k
        by mark.Unseen e = absurd (seen u l e)
        by (mark.Open p) e = absurd (none_open u p e)
        by (mark.Closed k) e = (k, e)

    -- the number of what is closed
    number_is : (u k : ℕ) → u < length graph → IsClosed s.marks.items u k → get_or (map number_of s.marks.items) u 0 ≡ k
    number_is u k l c = get_or-map number_of s.marks.items u mark.Unseen 0 (omega (arith, l, h.room)) ∙ ap number_of c

    -- what has a link is a node
    is_node : (a b : ℕ) → Contains (links_of graph a) b → a < length graph
    is_node a b c = by (cases_lt a (length graph))
      where
        by : (a < length graph) ⊎ (length graph ≤ a) → a < length graph
        by (inl l) = l
        by (inr l) = absurd (omega (arith, c.1, ap length (get_or_past graph a [] l)))

    pub all_numbers : AreNumbers graph (map number_of s.marks.items)
    all_numbers = record {
      each = length-map s.marks.items number_of ∙ h.room;
      falling = falling;
      together = together;
    }
      where
        below_nodes : (a b k : ℕ) → a < length graph → IsClosed s.marks.items a k
            → (j : ℕ) × (IsClosed s.marks.items b j) × (j ≤ k) → b < length graph
            → get_or (map number_of s.marks.items) b 0 ≤ get_or (map number_of s.marks.items) a 0
        below_nodes a b k l c f m = omega (arith, number_is a k l c, number_is b f.0 m f.1, f.2)

        closed_in : (b j : ℕ) → IsClosed s.marks.items b j → b < length graph
        closed_in b j c = by (cases_lt b (length s.marks.items))
          where
            by : (b < length s.marks.items) ⊎ (length s.marks.items ≤ b) → b < length graph
            by (inl l) = omega (arith, l, h.room)
            by (inr l) = absurd (closed_unseen j (sym c ∙ get_or_past s.marks.items b mark.Unseen l))

        falling : (a b : ℕ) → Contains (links_of graph a) b
            → get_or (map number_of s.marks.items) b 0 ≤ get_or (map number_of s.marks.items) a 0
        falling a b c =
            let l = is_node a b c in
            let k = is_closed a l in
            let f = h.falling a b k.0 k.1 c in
            below_nodes a b k.0 l k.1 f (closed_in b f.0 f.1)

        together : (a b : ℕ) → a < length graph → b < length graph
            → get_or (map number_of s.marks.items) a 0 ≡ get_or (map number_of s.marks.items) b 0 → Leads graph a b
        together a b l m e =
            let k = is_closed a l in
            let j = is_closed b m in
            let same : j.0 ≡ k.0 = sym (number_is b j.0 m j.1) ∙ sym e ∙ number_is a k.0 l k.1 in
            h.together a b k.0 k.1 (j.1 ∙ ap (λ n. mark.Closed n) same)
