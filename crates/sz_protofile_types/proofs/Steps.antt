-- How many steps are left, and which nodes were seen.
use Rattle.std.proofs.Common.{◌≡◌, ℕ, zero, suc, ◌+◌, ◌<◌, Bool, true, false, nat_lt, if◌then◌else◌, List, [], ◌∷◌, length, set, refl, ap, ◌∙◌, arith}
use Rattle.sz_protofile_types.specs.declared.mark.Mark.{Mark}
use Rattle.sz_protofile_types.specs.declared.mark.Mark.TheVariants as mark
use Rattle.sz_protofile_types.specs.Components.{links_of}
use Rattle.sz_protofile_types.specs.Search.{mark_of, closing, IsClosing, weight, unseen_steps}

pub steps_set : (marks : List Mark) (graph : List (List ℕ)) (v : ℕ) (m : Mark) → v < length marks
    → length marks ≡ length graph → unseen_steps (set marks v m) graph + weight (mark_of marks v) (links_of graph v)
    ≡ unseen_steps marks graph + weight m (links_of graph v)
steps_set [] graph v m l e = absurd (omega (arith, l))
steps_set (n ∷ marks) [] v m l e = absurd (omega (arith, e))
steps_set (n ∷ marks) (links ∷ graph) zero m l e = omega arith
steps_set (n ∷ marks) (links ∷ graph) (suc v) m l e =
    omega (arith, steps_set marks graph v m (omega (arith, l)) (omega (arith, e)))

pub steps_alike : (marks after : List Mark) (graph : List (List ℕ)) → length after ≡ length marks
    → ((u : ℕ) → weight (mark_of after u) (links_of graph u) ≡ weight (mark_of marks u) (links_of graph u))
    → unseen_steps after graph ≡ unseen_steps marks graph
steps_alike [] [] graph e f = refl
steps_alike [] (n ∷ after) graph e f = absurd (omega (arith, e))
steps_alike (m ∷ marks) [] graph e f = absurd (omega (arith, e))
steps_alike (m ∷ marks) (n ∷ after) [] e f = refl
steps_alike (m ∷ marks) (n ∷ after) (links ∷ graph) e f =
    let rest = steps_alike marks after graph (omega (arith, e)) (λ u. f (suc u)) in
    omega (arith, f zero, rest)

closing_weight : (place number : ℕ) (m : Mark) (links : List ℕ) → weight (closing place number m) links ≡ weight m links
closing_weight place number mark.Unseen links = refl
closing_weight place number (mark.Closed k) links = refl
closing_weight place number (mark.Open p) links = by (nat_lt p place)
  where
    by : (b : Bool) → weight (if b then mark.Open p else mark.Closed number) links ≡ 0
    by true = refl
    by false = refl

pub steps_closing : (place number : ℕ) (marks after : List Mark) (graph : List (List ℕ))
    → IsClosing place number marks after → unseen_steps after graph ≡ unseen_steps marks graph
steps_closing place number marks after graph c =
    steps_alike marks after graph c.same
    (λ u. ap (λ m. weight m (links_of graph u)) (c.marked u)
    ∙ closing_weight place number (mark_of marks u) (links_of graph u))

-- ---- what was seen stays so
