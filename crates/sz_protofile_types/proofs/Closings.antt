-- Nodes are closed one after the other, from the end of the path.
use Rattle.std.proofs.Common.{◌≡◌, ◌≢◌, ℕ, ◌+◌, ◌-◌, ◌<◌, ◌≤◌, ◌⊎◌, inl, inr, List, [], ◌∷◌, ◌++◌, length, take, set, slice_get, get_or, Some, refl, sym, ap, ◌∙◌, subst, arith}
use Rattle.std.proofs.lemmas.Bool.{cases_lt, cases_eq}
use Rattle.std.proofs.lemmas.List.{length_push, length-set, length-take-le, take_all, take-take, get_or_past}
use Rattle.std.proofs.lemmas.Option.{same_Some}
use Rattle.sz_protofile_types.specs.declared.mark.Mark.{Mark}
use Rattle.sz_protofile_types.specs.declared.mark.Mark.TheVariants as mark
use Rattle.sz_protofile_types.specs.declared.search.Search.{Search}
use Rattle.sz_protofile_types.specs.Search.{mark_of, IsOpen, IsPath, closing, IsClosing}
use Rattle.sz_protofile_types.proofs.Places.{at_within, at_end, at_get_or, taken_at, at_taken}
use Rattle.sz_protofile_types.proofs.Ways.{open_unseen, set_cases}
use Rattle.sz_protofile_types.proofs.Closed.{closing_before, closing_behind, open_before}

-- what is open is one of the marks
pub open_within : (marks : List Mark) (u p : ℕ) → IsOpen marks u p → u < length marks
open_within marks u p o = by (cases_lt u (length marks))
  where
    by : (u < length marks) ⊎ (length marks ≤ u) → u < length marks
    by (inl l) = l
    by (inr l) = absurd (open_unseen p (sym o ∙ get_or_past marks u mark.Unseen l))

-- the last of a list
pub last_of : {X : Type 0} (xs rest : List X) (x : X) → xs ≡ rest ++ x ∷ [] → slice_get xs (length xs - 1) ≡ Some x
last_of xs rest x e =
    let n : length xs - 1 ≡ length rest = omega (arith, ap length e, length_push rest x) in
    ap (slice_get xs) n ∙ ap (λ l. slice_get l (length rest)) e ∙ at_end rest x

module _ (marks : List Mark) (path : List ℕ) (h : IsPath marks path) where
  -- what is popped has a mark
  pub popped_within : (rest : List ℕ) (u : ℕ) → path ≡ rest ++ u ∷ [] → u < length marks
  popped_within rest u e = open_within marks u (length path - 1) (h.opened u (length path - 1) (last_of path rest u e))

  pub popped_is : (rest : List ℕ) (u v : ℕ) → path ≡ rest ++ u ∷ [] → slice_get path (length path - 1) ≡ Some v → u ≡ v
  popped_is rest u v e a = same_Some u v (sym (last_of path rest u e) ∙ a)

  -- what is left of the path is so still
  pub path_closing : (n number : ℕ) (after : List Mark) → IsClosing n number marks after → IsPath after (take n path)
  path_closing n number after c = record {
    placed = λ u p o.
        let w = open_before n number (mark_of marks u) p (sym (c.marked u) ∙ o) in
        taken_at path n p u (h.placed u p w.0) w.1;
    opened = λ u p a.
        let w = at_taken path n p u a in
        c.marked u ∙ ap (closing n number) (h.opened u p w.0) ∙ closing_before n number p w.1;
  }

-- so far the path is closed down to its present length, and its nodes are in the order
pub record IsGoing (place number : ℕ) (first now : Search) : Type 0 where
  pub path : now.path.items ≡ take (length now.path.items) first.path.items
  pub few : length now.path.items ≤ length first.path.items
  pub many : place ≤ length now.path.items
  pub marks : IsClosing (length now.path.items) number first.marks.items now.marks.items
  pub order : length now.order.items + length now.path.items ≡ length first.order.items + length first.path.items
  pub starts : now.starts ≡ first.starts
  pub pending : now.pending ≡ first.pending

pub going_path : (place number : ℕ) (first now : Search) → IsPath first.marks.items first.path.items
    → IsGoing place number first now → IsPath now.marks.items now.path.items
going_path place number first now h g =
    subst (IsPath now.marks.items) (sym g.path)
    (path_closing first.marks.items first.path.items h (length now.path.items) number now.marks.items g.marks)

module _ (marks after : List Mark) (path : List ℕ) (h : IsPath marks path) (n number u : ℕ) (within : n < length path)
    (a : slice_get path n ≡ Some u) (c : IsClosing (n + 1) number marks after) where
  was : mark_of marks u ≡ mark.Open n
  was = h.opened u n a

  other : (m : Mark) (w : ℕ) → mark_of marks w ≡ m → w ≢ u → closing (n + 1) number m ≡ closing n number m
  other mark.Unseen w e d = refl
  other (mark.Closed k) w e d = refl
  other (mark.Open p) w e d = by (cases_lt p n) (cases_eq p n)
    where
      same : p ≡ n → w ≡ u
      same f = same_Some w u (sym (h.placed w p e) ∙ ap (slice_get path) f ∙ a)

      by : (p < n) ⊎ (n ≤ p) → (p ≡ n) ⊎ (p ≢ n) → closing (n + 1) number (mark.Open p) ≡ closing n number (mark.Open p)
      by (inl l) f = closing_before (n + 1) number p (omega (arith, l)) ∙ sym (closing_before n number p l)
      by (inr l) (inl f) = absurd (d (same f))
      by (inr l) (inr f) =
          closing_behind (n + 1) number p (let q : n + 1 ≤ p = grind (arith, l, f) in q)
          ∙ sym (closing_behind n number p l)

  -- the last node is closed too
  pub closing_goes_on : IsClosing n number marks (set after u (mark.Closed number))
  closing_goes_on = record {
    same = length-set after u (mark.Closed number) ∙ c.same;
    marked = λ w. by w (set_cases after u (mark.Closed number) (omega (arith, open_within marks u n was, c.same)) w);
  }
    where
      by : (w : ℕ) → ((w ≡ u) × (mark_of (set after u (mark.Closed number)) w ≡ mark.Closed number))
          ⊎ ((w ≢ u) × (mark_of (set after u (mark.Closed number)) w ≡ mark_of after w))
          → mark_of (set after u (mark.Closed number)) w ≡ closing n number (mark_of marks w)
      by w (inl e) =
          e.1 ∙ sym (closing_behind n number n (omega arith)) ∙ ap (closing n number) (sym was)
          ∙ ap (λ x. closing n number (mark_of marks x)) (sym e.0)
      by w (inr e) = e.1 ∙ c.marked w ∙ other (mark_of marks w) w refl e.0

-- one more node is closed
pub goes_on : (place number : ℕ) (first now next : Search) → IsPath first.marks.items first.path.items
    → IsGoing place number first now
    → place < length now.path.items → next.path.items ≡ take (length now.path.items - 1) now.path.items
    → ((u : ℕ) → slice_get now.path.items (length now.path.items - 1) ≡ Some u
    → next.marks.items ≡ set now.marks.items u (mark.Closed number))
    → (0 < length now.path.items → length next.order.items ≡ length now.order.items + 1) → next.starts ≡ now.starts
    → next.pending ≡ now.pending → IsGoing place number first next
goes_on place number first now next h g l path marks order starts pending =
    let count : length next.path.items ≡ length now.path.items - 1 =
    ap length path ∙ length-take-le (length now.path.items - 1) now.path.items (omega arith) in
    let one : length now.path.items ≡ length next.path.items + 1 = omega (arith, count, l) in
    let u = get_or now.path.items (length now.path.items - 1) 0 in
    let at_now : slice_get now.path.items (length now.path.items - 1) ≡ Some u =
    at_get_or now.path.items (length now.path.items - 1) 0 (omega (arith, l)) in
    let at_first : slice_get first.path.items (length next.path.items) ≡ Some u =
    (at_taken first.path.items (length now.path.items) (length next.path.items) u
    (ap (λ p. slice_get p (length next.path.items)) (sym g.path) ∙ ap (slice_get now.path.items) count ∙ at_now)).0 in
    record {
      path = path ∙ ap (take (length now.path.items - 1)) g.path
          ∙ take-take (length now.path.items - 1) (length now.path.items) first.path.items (omega arith)
          ∙ ap (λ n. take n first.path.items) (sym count);
      few = omega (arith, one, g.few);
      many = omega (arith, one, l);
      marks = subst (IsClosing (length next.path.items) number first.marks.items) (sym (marks u at_now))
          (closing_goes_on first.marks.items now.marks.items first.path.items h (length next.path.items) number u
          (omega (arith, one, g.few)) at_first
          (subst (λ n. IsClosing n number first.marks.items now.marks.items) one g.marks));
      order = omega (arith, one, g.order, order (omega (arith, l)));
      starts = starts ∙ g.starts;
      pending = pending ∙ g.pending;
    }

-- at first nothing is closed
pub going_begins : (place number : ℕ) (first : Search) → IsPath first.marks.items first.path.items
    → place ≤ length first.path.items → IsGoing place number first first
going_begins place number first h l = record {
  path = sym (take_all (length first.path.items) first.path.items (omega arith));
  few = omega arith;
  many = l;
  marks = record { same = refl; marked = λ u. by u (mark_of first.marks.items u) refl };
  order = refl;
  starts = refl;
  pending = refl;
}
  where
    by : (u : ℕ) (m : Mark) → mark_of first.marks.items u ≡ m → m ≡ closing (length first.path.items) number m
    by u mark.Unseen e = refl
    by u (mark.Closed k) e = refl
    by u (mark.Open p) e =
        sym (closing_before (length first.path.items) number p (at_within first.path.items p u (h.placed u p e)))

module _ (place number : ℕ) (first now : Search) (g : IsGoing place number first now)
    (l : place < length first.path.items)
    (end : length now.path.items ≤ place) (n : number ≡ length first.order.items) where
  is : length now.path.items ≡ place
  is = omega (arith, end, g.many)

  pub ends_marks : IsClosing place (length first.order.items) first.marks.items now.marks.items
  ends_marks = subst (λ k. IsClosing place k first.marks.items now.marks.items) n
      (subst (λ k. IsClosing k number first.marks.items now.marks.items) is g.marks)

  pub ends_path : now.path.items ≡ take place first.path.items
  ends_path = g.path ∙ ap (λ k. take k first.path.items) is

  pub ends_order : length first.order.items < length now.order.items
  ends_order = omega (arith, g.order, l, end)
