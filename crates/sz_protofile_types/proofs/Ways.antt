-- Ways through a graph, and marks of which one is set.
use Rattle.std.proofs.Common.{◌≡◌, ◌≢◌, ℕ, ◌<◌, ◌⊎◌, inl, inr, List, length, set, ap, ◌∙◌}
use Rattle.std.specs.List.{Contains}
use Rattle.std.proofs.lemmas.List.{get_or-set_same, get_or-set_other}
use Rattle.std.proofs.lemmas.Bool.{cases_eq}
use Rattle.sz_protofile_types.specs.declared.mark.Mark.{Mark}
use Rattle.sz_protofile_types.specs.declared.mark.Mark.TheVariants as mark
use Rattle.sz_protofile_types.specs.Components.{links_of, Leads, itself, further}
use Rattle.sz_protofile_types.specs.Search.{mark_of}

pub leads_on : (graph : List (List ℕ)) (a b c : ℕ) → Leads graph a b → Leads graph b c → Leads graph a c
leads_on graph a b c (itself x) w = w
leads_on graph a b c (further x d y l v) w = further x d c l (leads_on graph d y c v w)

pub leads_to : (graph : List (List ℕ)) (a b : ℕ) → Contains (links_of graph a) b → Leads graph a b
leads_to graph a b l = further a b b l (itself b)

-- ---- marks of which one is set

pub open_unseen : (p : ℕ) → mark.Open p ≡ mark.Unseen → ⊥
open_unseen p h = absurd cc

pub closed_unseen : (p : ℕ) → mark.Closed p ≡ mark.Unseen → ⊥
closed_unseen p h = absurd cc

pub open_closed : (p k : ℕ) → mark.Open p ≡ mark.Closed k → ⊥
open_closed p k h = absurd cc

pub open_same : (p q : ℕ) → mark.Open p ≡ mark.Open q → p ≡ q
open_same p q h = cc

pub closed_same : (p q : ℕ) → mark.Closed p ≡ mark.Closed q → p ≡ q
closed_same p q h = cc

module _ (marks : List Mark) (v : ℕ) (m : Mark) (within : v < length marks) where
  pub set_same : mark_of (set marks v m) v ≡ m
  set_same = get_or-set_same marks v m mark.Unseen within

  pub set_other : (u : ℕ) → u ≢ v → mark_of (set marks v m) u ≡ mark_of marks u
  set_other u n = get_or-set_other marks v u m mark.Unseen n

  -- which mark a node has now
  pub set_cases : (u : ℕ)
      → ((u ≡ v) × (mark_of (set marks v m) u ≡ m)) ⊎ ((u ≢ v) × (mark_of (set marks v m) u ≡ mark_of marks u))
  set_cases u = by (cases_eq u v)
    where
      by : (u ≡ v) ⊎ (u ≢ v)
          → ((u ≡ v) × (mark_of (set marks v m) u ≡ m)) ⊎ ((u ≢ v) × (mark_of (set marks v m) u ≡ mark_of marks u))
      by (inl e) = inl (e, ap (mark_of (set marks v m)) e ∙ set_same)
      by (inr n) = inr (n, set_other u n)
