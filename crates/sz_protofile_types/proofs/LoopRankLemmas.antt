-- The numbers of the graph's nodes are ranks of its messages.
use Rattle.std.proofs.Common.{◌≡◌, ℕ, ◌≤◌, List, get_or, Some, sym, ap, subst, ◌∙◌, arith}
use Rattle.std.specs.Option.{option_map_or}
use Rattle.std.proofs.lemmas.Option.{same_Some}
use Rattle.sz_protofile.specs.declared.field.FieldIn.{FieldIn}
use Rattle.sz_protofile.specs.Fields as fields_of
use Rattle.sz_protofile.specs.Fields.{Reaches}
use Rattle.sz_protofile_types.specs.Components as graphs
use Rattle.sz_protofile_types.specs.Components.{Leads, AreNumbers}
use Rattle.sz_scope.specs.Names.{place_of}
use Rattle.sz_protofile_types.specs.Places.{HasLink, IsLinked}
use Rattle.sz_protofile_types.specs.Ranks.{Ranking, ranking, rank, IsRanking}
use Rattle.sz_scope.proofs.NamesLemmas.{at_place}
use Rattle.sz_protofile_types.proofs.LinkLemmas.{place_within}

-- no two names have one place
one_name : (names : List (List ℕ)) (x y : List ℕ) (a : ℕ) → place_of x names ≡ Some a
    → place_of y names ≡ Some a → x ≡ y
one_name names x y a p q = same_Some x y (sym (at_place x names a p).1 ∙ (at_place y names a q).1)

rank_is : (r : Ranking) (name : List ℕ) (a : ℕ) → place_of name r.names ≡ Some a → rank r name ≡ get_or r.numbers a 0
rank_is r name a p = ap (λ o. option_map_or (λ place. get_or r.numbers place 0) o 0) p

module _ (fields : List FieldIn) (names graph : List (List ℕ)) (h : IsLinked fields names graph) where
  reaches : (a b : ℕ) → Leads graph a b → (x y : List ℕ) → place_of x names ≡ Some a → place_of y names ≡ Some b
      → Reaches fields x y
  reaches a b (graphs.itself c) x y p q = subst (Reaches fields x) (one_name names x y a p q) (fields_of.itself x)
  reaches a b (graphs.further c d e l w) x y p q =
      let o = h.only a d l in
      subst (λ z. Reaches fields z y) (one_name names o.0.owner x a o.2.«from» p)
      (fields_of.further o.0 o.2.target y o.1 o.2.sort (reaches d b w o.2.target y o.2.to q))

  pub is_ranking : (numbers : List ℕ) → AreNumbers graph numbers → IsRanking fields (ranking names numbers)
  is_ranking numbers n = record {
    falling = λ f m c e. falls f.owner m (h.every f m c e);
    together = λ f m c e same. leads f.owner m (h.every f m c e) same;
  }
    where
      falls : (owner m : List ℕ) → HasLink names graph owner m
          → rank (ranking names numbers) m ≤ rank (ranking names numbers) owner
      falls owner m l =
          omega (
            arith,
            rank_is (ranking names numbers) m l.b l.to,
            rank_is (ranking names numbers) owner l.a l.«from»,
            n.falling l.a l.b l.linked,
          )

      leads : (owner m : List ℕ) → HasLink names graph owner m
          → rank (ranking names numbers) m ≡ rank (ranking names numbers) owner → Reaches fields m owner
      leads owner m l same =
          reaches l.b l.a (n.together l.b l.a (place_within m names graph l.b l.to h.same)
          (place_within owner names graph l.a l.«from» h.same) (sym (rank_is (ranking names numbers) m l.b l.to)
          ∙ same ∙ rank_is (ranking names numbers) owner l.a l.«from»)) m owner l.to l.«from»
