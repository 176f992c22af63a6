-- What is true while components are looked for.
use Rattle.std.specs.Prelude.{◌≡◌, ℕ, ◌+◌, ◌<◌, ◌≤◌, List, [], ◌∷◌, length, take, slice_index_or, slice_get, Some, Contains, if◌then◌else◌, nat_lt}
use Rattle.sz_protofile_types.specs.Components.{links_of, Leads}
use Rattle.sz_protofile_types.specs.declared.mark.Mark.{Mark}
use Rattle.sz_protofile_types.specs.declared.mark.Mark.TheVariants as mark
use Rattle.sz_protofile_types.specs.declared.mark.Start.{Start}
use Rattle.sz_protofile_types.specs.declared.mark.Link.{Link}
use Rattle.sz_protofile_types.specs.declared.search.Search.{Search}

abbrev pub mark_of : List Mark → ℕ → Mark
mark_of marks u = slice_index_or marks u mark.Unseen

abbrev pub IsOpen : List Mark → ℕ → ℕ → Type 0
IsOpen marks u p = mark_of marks u ≡ mark.Open p

abbrev pub IsClosed : List Mark → ℕ → ℕ → Type 0
IsClosed marks u k = mark_of marks u ≡ mark.Closed k

abbrev pub start_at : ℕ → ℕ → Start
start_at place pending = record { place = place; pending = pending }

abbrev pub link : ℕ → ℕ → Link
link u v = record { «from» = u; to = v }

-- no link of a node in this part or a later one is forgotten: it leads to what is closed, or to this part or a later
-- one, or it is pending, or its end is spared
pub data IsSettled (spared : ℕ → Type 0) (marks : List Mark) (pending : List Link) (s : Start) (u v : ℕ) : Type 0 where
  closed : (k : ℕ) → IsClosed marks v k → IsSettled spared marks pending s u v
  inside : (p : ℕ) → IsOpen marks v p → s.place ≤ p → IsSettled spared marks pending s u v
  owed : (i : ℕ) → s.pending ≤ i → slice_get pending i ≡ Some (link u v) → IsSettled spared marks pending s u v
  spared_end : spared v → IsSettled spared marks pending s u v

-- a pending link is one of an open node, and of the part in whose links it stands
pub record IsOwed (graph : List (List ℕ)) (marks : List Mark) (starts : List Start) (j : ℕ) (e : Link) : Type 0 where
  pub place : ℕ
  pub opened : IsOpen marks e.«from» place
  pub linked : Contains (links_of graph e.«from») e.to
  pub late : (i : ℕ) (s : Start) → slice_get starts i ≡ Some s → s.pending ≤ j → s.place ≤ place
  pub early : (i : ℕ) (s : Start) → slice_get starts i ≡ Some s → j < s.pending → place < s.place

-- some part begins at this place or before it
pub record IsCovered (starts : List Start) (p : ℕ) : Type 0 where
  pub index : ℕ
  pub start : Start
  pub is : slice_get starts index ≡ Some start
  pub before : start.place ≤ p

-- what is true of marks, path, starts of its parts, pending links, and the next number, where links to some ends are
-- spared
pub record IsSearch (graph : List (List ℕ)) (spared : ℕ → Type 0) (marks : List Mark) (path : List ℕ)
    (starts : List Start) (pending : List Link)
    (next : ℕ) : Type 0 where
  pub room : length marks ≡ length graph
  pub placed : (u p : ℕ) → IsOpen marks u p → slice_get path p ≡ Some u
  pub opened : (u p : ℕ) → slice_get path p ≡ Some u → IsOpen marks u p
  pub reach : (u v p q : ℕ) → IsOpen marks u p → IsOpen marks v q
      → ((i : ℕ) (s : Start) → slice_get starts i ≡ Some s → s.place ≤ p → s.place ≤ q) → Leads graph u v
  pub settled : (u v p i : ℕ) (s : Start) → IsOpen marks u p → Contains (links_of graph u) v
      → slice_get starts i ≡ Some s → s.place ≤ p → IsSettled spared marks pending s u v
  pub falling : (u v k : ℕ) → IsClosed marks u k → Contains (links_of graph u) v
      → (j : ℕ) × (IsClosed marks v j) × (j ≤ k)
  pub together : (u v k : ℕ) → IsClosed marks u k → IsClosed marks v k → Leads graph u v
  pub below : (u k : ℕ) → IsClosed marks u k → k < next
  pub owing : (j : ℕ) (e : Link) → slice_get pending j ≡ Some e → IsOwed graph marks starts j e
  pub rising : (i j : ℕ) (s t : Start) → slice_get starts i ≡ Some s → slice_get starts j ≡ Some t → i < j
      → (s.place < t.place) × (s.pending ≤ t.pending)
  pub covered : (u p : ℕ) → IsOpen marks u p → IsCovered starts p
  pub bounds : (i : ℕ) (s : Start) → slice_get starts i ≡ Some s
      → (s.place < length path) × (s.pending ≤ length pending)

-- no link is spared
abbrev pub none_spared : ℕ → Type 0
none_spared v = ⊥

abbrev pub IsWhole : List (List ℕ) → List Mark → List ℕ → List Start → List Link → ℕ → Type 0
IsWhole graph marks path starts pending next = IsSearch graph none_spared marks path starts pending next

-- the same of what is known of a graph
abbrev pub IsSound : List (List ℕ) → (ℕ → Type 0) → Search → Type 0
IsSound graph spared s =
    IsSearch graph spared s.marks.items s.path.items s.starts.items s.pending.items (length s.order.items)

-- a mark after the path was closed from a place on with this number
abbrev pub closing : ℕ → ℕ → Mark → Mark
closing place number mark.Unseen = mark.Unseen
closing place number (mark.Open p) = if nat_lt p place then mark.Open p else mark.Closed number
closing place number (mark.Closed k) = mark.Closed k

-- the path was closed from a place on with this number
pub record IsClosing (place number : ℕ) (marks after : List Mark) : Type 0 where
  pub same : length after ≡ length marks
  pub marked : (u : ℕ) → mark_of after u ≡ closing place number (mark_of marks u)

-- what is open stands at its place of the path, and nothing else stands there
pub record IsPath (marks : List Mark) (path : List ℕ) : Type 0 where
  pub placed : (u p : ℕ) → IsOpen marks u p → slice_get path p ≡ Some u
  pub opened : (u p : ℕ) → slice_get path p ≡ Some u → IsOpen marks u p

-- starts without those behind a place, which are the last ones
pub record IsCut (place : ℕ) (starts after : List Start) : Type 0 where
  pub front : after ≡ take (length after) starts
  pub behind : (i : ℕ) (s : Start) → slice_get starts i ≡ Some s → length after ≤ i → place < s.place
  pub last : (i : ℕ) (s : Start) → slice_get after i ≡ Some s → i + 1 ≡ length after → s.place ≤ place

-- no node that was seen isn't
abbrev pub KeepsSeen : List Mark → List Mark → Type 0
KeepsSeen marks after = (u : ℕ) → mark_of after u ≡ mark.Unseen → mark_of marks u ≡ mark.Unseen

-- ---- how many steps are left at most

-- the steps that a node takes which has this mark and these links
abbrev pub weight : Mark → List ℕ → ℕ
weight mark.Unseen links = length links + 2
weight (mark.Open p) links = 0
weight (mark.Closed k) links = 0

abbrev pub unseen_steps : List Mark → List (List ℕ) → ℕ
unseen_steps [] graph = 0
unseen_steps (m ∷ marks) [] = 0
unseen_steps (m ∷ marks) (links ∷ graph) = weight m links + unseen_steps marks graph

abbrev pub steps_left : List (List ℕ) → List Mark → List Start → List Link → ℕ
steps_left graph marks starts pending = unseen_steps marks graph + (length starts + length pending)

abbrev pub steps_of : List (List ℕ) → Search → ℕ
steps_of graph s = steps_left graph s.marks.items s.starts.items s.pending.items

-- ---- the number of a node that has this mark

abbrev pub number_of : Mark → ℕ
number_of mark.Unseen = 0
number_of (mark.Open p) = 0
number_of (mark.Closed k) = k
