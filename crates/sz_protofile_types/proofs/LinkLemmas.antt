-- The graph of messages while links are taken.
use Rattle.std.proofs.Common.{◌≡◌, ◌≢◌, ℕ, ◌+◌, ◌<◌, ◌≤◌, ◌⊎◌, inl, inr, List, [], ◌∷◌, ◌++◌, length, set, Some, sym, ap, subst, ◌∙◌, arith}
use Rattle.std.specs.List.{Contains}
use Rattle.std.proofs.lemmas.Bool.{cases_lt, cases_eq}
use Rattle.std.proofs.lemmas.List.{length_push, length-set, get_or-set_same, get_or-set_other, get_or_past, get_or_append_left, get_or_push}
use Rattle.std.proofs.lemmas.List.Elements.{Contains-append_left, Contains-push, Contains-push_cases}
use Rattle.sz_protofile.specs.declared.field.FieldIn.{FieldIn}
use Rattle.sz_protofile.specs.declared.field.Sort.TheVariants as sorts
use Rattle.sz_protofile_types.specs.Components.{links_of, IsGraph}
use Rattle.sz_scope.specs.Names.{place_of}
use Rattle.sz_protofile_types.specs.Places.{StandsFor, HasLink, IsLinked, IsGrown, HasNewLink}
use Rattle.sz_scope.proofs.NamesLemmas.{at_place, place_stays}

-- a node more
pub grown_by_one : (names : List (List ℕ)) (graph after : List (List ℕ)) (name : List ℕ) → length graph ≡ length names
    → after ≡ graph ++ [] ∷ [] → IsGrown names graph (names ++ name ∷ []) after
grown_by_one names graph after name e is = record {
  same = ap length is ∙ length_push graph [] ∙ ap (λ n. n + 1) e ∙ sym (length_push names name);
  places = λ n a p. place_stays n name names a p;
  links = λ a. ap (λ g. links_of g a) is ∙ links a;
}
  where
    links : (a : ℕ) → links_of (graph ++ [] ∷ []) a ≡ links_of graph a
    links a = by (cases_lt a (length graph)) (cases_eq a (length graph))
      where
        by : (a < length graph) ⊎ (length graph ≤ a) → (a ≡ length graph) ⊎ (a ≢ length graph)
            → links_of (graph ++ [] ∷ []) a ≡ links_of graph a
        by (inl l) f = get_or_append_left graph ([] ∷ []) [] a l
        by (inr l) (inl f) = get_or_push graph [] [] a (sym f) ∙ sym (get_or_past graph a [] l)
        by (inr l) (inr f) =
            get_or_past (graph ++ [] ∷ []) a []
            (let q : length graph + 1 ≤ a = grind (arith, l, f) in omega (arith, q, length_push graph []))
            ∙ sym (get_or_past graph a [] l)

-- after two nodes are found or added, and a link between them
pub new_link : (owner target : List ℕ) (names graph more mid most after last : List (List ℕ)) (a b : ℕ)
    → IsGrown names graph more mid → IsGrown more mid most after → place_of owner more ≡ Some a
    → place_of target most ≡ Some b → a < length after
    → last ≡ set after a (links_of after a ++ b ∷ []) → HasNewLink owner target names graph most last
new_link owner target names graph more mid most after last a b g h at_a at_b within is = record {
  same = ap length is ∙ length-set after a (links_of after a ++ b ∷ []) ∙ h.same;
  places = λ n c p. h.places n c (g.places n c p);
  a = a;
  b = b;
  «from» = h.places owner a at_a;
  to = at_b;
  own = ap (λ x. links_of x a) is ∙ get_or-set_same after a (links_of after a ++ b ∷ []) [] within
      ∙ ap (λ l. l ++ b ∷ []) (h.links a ∙ g.links a);
  others = λ c n. ap (λ x. links_of x c) is ∙ get_or-set_other after a c (links_of after a ++ b ∷ []) [] n
      ∙ h.links c ∙ g.links c;
}

-- the place of an owner is a node
pub place_within : (name : List ℕ) (names graph : List (List ℕ)) (a : ℕ) → place_of name names ≡ Some a
    → length graph ≡ length names → a < length graph
place_within name names graph a p e = omega (arith, (at_place name names a p).0, e)

-- a field without a message's type
pub linked_still : (before : List FieldIn) (f : FieldIn) (names graph : List (List ℕ))
    → ((m : List ℕ) → f.sort ≡ sorts.Message m → ⊥)
    → IsLinked before names graph → IsLinked (before ++ f ∷ []) names graph
linked_still before f names graph none h = record {
  same = h.same;
  every = λ g m c e. by g m e (Contains-push_cases before f g c);
  only = λ a b c. let o = h.only a b c in (o.0, Contains-append_left before (f ∷ []) o.0 o.1, o.2);
}
  where
    by : (g : FieldIn) (m : List ℕ) → g.sort ≡ sorts.Message m → Contains before g ⊎ (f ≡ g)
        → HasLink names graph g.owner m
    by g m e (inl c) = h.every g m c e
    by g m e (inr is) = absurd (none m (ap (λ (x : FieldIn). x.sort) is ∙ e))

-- a field with a link
module _ (before : List FieldIn) (f : FieldIn) (target : List ℕ) (names graph more after : List (List ℕ))
    (sort : f.sort ≡ sorts.Message target)
    (new : HasNewLink f.owner target names graph more after) (h : IsLinked before names graph) where
  old_link : (c d : ℕ) → Contains (links_of graph c) d → Contains (links_of after c) d
  old_link c d l = by (cases_eq c new.a)
    where
      by : (c ≡ new.a) ⊎ (c ≢ new.a) → Contains (links_of after c) d
      by (inl e) =
          subst (λ x. Contains x d)
          (sym (ap (links_of after) e ∙ new.own ∙ ap (λ x. links_of graph x ++ new.b ∷ []) (sym e)))
          (Contains-append_left (links_of graph c) (new.b ∷ []) d l)
      by (inr n) = subst (λ x. Contains x d) (sym (new.others c n)) l

  new_links : (c d : ℕ) → Contains (links_of after c) d → (Contains (links_of graph c) d) ⊎ ((c ≡ new.a) × (d ≡ new.b))
  new_links c d l = by (cases_eq c new.a)
    where
      by_last : c ≡ new.a → Contains (links_of graph c) d ⊎ (new.b ≡ d)
          → (Contains (links_of graph c) d) ⊎ ((c ≡ new.a) × (d ≡ new.b))
      by_last e (inl m) = inl m
      by_last e (inr m) = inr (e, sym m)

      by : (c ≡ new.a) ⊎ (c ≢ new.a) → (Contains (links_of graph c) d) ⊎ ((c ≡ new.a) × (d ≡ new.b))
      by (inl e) =
          by_last e (Contains-push_cases (links_of graph c) new.b d
          (subst (λ x. Contains x d)
          (ap (links_of after) e ∙ new.own ∙ ap (λ x. links_of graph x ++ new.b ∷ []) (sym e)) l))
      by (inr n) = inl (subst (λ x. Contains x d) (new.others c n) l)

  pub linked_more : IsLinked (before ++ f ∷ []) more after
  linked_more = record {
    same = new.same;
    every = λ g m c e. every g m e (Contains-push_cases before f g c);
    only = λ a b c. only a b (new_links a b c);
  }
    where
      old : (owner m : List ℕ) → HasLink names graph owner m → HasLink more after owner m
      old owner m l = record {
        a = l.a;
        b = l.b;
        «from» = new.places owner l.a l.«from»;
        to = new.places m l.b l.to;
        linked = old_link l.a l.b l.linked;
      }

      its_own : HasLink more after f.owner target
      its_own = record {
        a = new.a;
        b = new.b;
        «from» = new.«from»;
        to = new.to;
        linked = subst (λ x. Contains x new.b) (sym new.own) (Contains-push (links_of graph new.a) new.b);
      }

      same_target : (m n : List ℕ) → sorts.Message m ≡ sorts.Message n → m ≡ n
      same_target m n e = cc

      every : (g : FieldIn) (m : List ℕ) → g.sort ≡ sorts.Message m → Contains before g ⊎ (f ≡ g)
          → HasLink more after g.owner m
      every g m e (inl c) = old g.owner m (h.every g m c e)
      every g m e (inr is) =
          subst (λ x. HasLink more after x m) (ap (λ (x : FieldIn). x.owner) is)
          (subst (HasLink more after f.owner)
          (same_target target m (sym sort ∙ ap (λ (x : FieldIn). x.sort) is ∙ e)) its_own)

      kept : (a b : ℕ) (g : FieldIn) → StandsFor names a b g → StandsFor more a b g
      kept a b g s = record {
        target = s.target;
        sort = s.sort;
        «from» = new.places g.owner a s.«from»;
        to = new.places s.target b s.to;
      }

      only : (a b : ℕ) → (Contains (links_of graph a) b) ⊎ ((a ≡ new.a) × (b ≡ new.b))
          → (g : FieldIn) × (Contains (before ++ f ∷ []) g) × StandsFor more a b g
      only a b (inl c) = let o = h.only a b c in (o.0, Contains-append_left before (f ∷ []) o.0 o.1, kept a b o.0 o.2)
      only a b (inr e) = (
        f,
        Contains-push before f,
        record {
          target = target;
          sort = sort;
          «from» = new.«from» ∙ ap (λ n. Some n) (sym e.0);
          to = new.to ∙ ap (λ n. Some n) (sym e.1);
        },
      )

pub linked_more_as : (before : List FieldIn) (f : FieldIn) (owner target t : List ℕ)
    (names graph more after : List (List ℕ)) → f.sort ≡ sorts.Message target
    → owner ≡ f.owner → t ≡ target → HasNewLink owner t names graph more after → IsLinked before names graph
    → IsLinked (before ++ f ∷ []) more after
linked_more_as before f owner target t names graph more after sort is_owner is_target new h =
    linked_more before f target names graph more after sort
    (subst (λ x. HasNewLink f.owner x names graph more after) is_target
    (subst (λ x. HasNewLink x t names graph more after) is_owner new)) h

-- ---- at first, and what the calls above ask

pub is_graph : (fields : List FieldIn) (names graph : List (List ℕ)) → IsLinked fields names graph → IsGraph graph
is_graph fields names graph h a b c =
    let o = h.only a b c in
    place_within o.2.target names graph b o.2.to h.same
