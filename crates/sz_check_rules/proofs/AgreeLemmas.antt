-- Where expressions agree with what their place asks, they have the types that it asks.
use Rattle.std.proofs.Common.{◌≡◌, ⊎_elim, ℕ, List, [], ◌∷◌, length, false, true≢false, Option, Some, refl, sym, ap, ◌∙◌, arith}
use Rattle.std.specs.Prelude.{◌&&◌}
use Rattle.std.proofs.lemmas.Bool.{eqb-true}
use Rattle.sz_types.specs.Data.{Shape}
use Rattle.sz_types.specs.declared.place.Place.{Place}
use Rattle.sz_types.specs.Same.{alike}
use Rattle.sz_types.proofs.ForCallers.{alike_equal, alike_itself}
use Rattle.sz_tree.specs.Expressions.{Exp, Exps, end, more, Pairs, no_pairs, pair, place_of}
use Rattle.sz_core.specs.Nodes.{Node, node, convert, Nodes, no_nodes, with_node, Pairings, no_pairings, with_pairing, type_of, types_of}
use Rattle.sz_core.specs.Typing.{Sight, IsNode, IsForm, AreNodes, ArePairings, AreAll}
use Rattle.sz_check_rules.specs.Agreeing.{each, in_turn, agrees, agree, pairs_agree, count_of, counted, converted}
use Rattle.sz_check_rules.proofs.Holds.{Holds, ok_holds, err_holds, bind_holds, weaker, unless_holds, if_holds}
use Rattle.sz_check_rules.proofs.Sights.{IsFormed, AreFormed}
use Rattle.sz_check_rules.proofs.OwnTypes.{IsOwnOrAsked}

-- the expression has its type, which is well formed
pub record IsTyped (g : Sight) (n : Node) : Type 0 where
  pub typed : IsNode g n
  pub formed : IsFormed (type_of n)

-- so has each of the expressions, of which there are as many as trees
abbrev pub AreTyped : Sight → Exps → Nodes → Type 0
AreTyped g end no_nodes = Unit {0}
AreTyped g (more e es) (with_node n ns) = IsTyped g n × AreTyped g es ns
AreTyped g _ _ = ⊥

-- so has each key and value
abbrev pub PairsTyped : Sight → Pairs → Pairings → Type 0
PairsTyped g no_pairs no_pairings = Unit {0}
PairsTyped g (pair a b ps) (with_pairing m n ns) = IsTyped g m × IsTyped g n × PairsTyped g ps ns
PairsTyped g _ _ = ⊥

-- expressions that have their types are nodes of them, and their types are well formed
pub all_nodes : (g : Sight) (es : Exps) (ns : Nodes) → AreTyped g es ns → AreNodes g ns
unfolding AreNodes
all_nodes g end no_nodes h = tt
all_nodes g end (with_node n ns) h = absurd h
all_nodes g (more e es) no_nodes h = absurd h
all_nodes g (more e es) (with_node n ns) h = (h.0.typed, all_nodes g es ns h.1)

pub all_formed : (g : Sight) (es : Exps) (ns : Nodes) → AreTyped g es ns → AreFormed (types_of ns)
all_formed g end no_nodes h = refl
all_formed g end (with_node n ns) h = absurd h
all_formed g (more e es) no_nodes h = absurd h
all_formed g (more e es) (with_node n ns) h = λ i. h.0.formed i && all_formed g es ns h.1 i

-- an expression that agrees has the type
pub agrees_holds : (t : Shape) (e : Exp) (n : Node) → Holds (agrees (Some t) e n) (λ u. type_of n ≡ t)
agrees_holds t e n = weaker (unless_holds _ _) (λ u same. alike_equal (type_of n) t same)

-- there are just so many
pub counted_holds : (n : ℕ) (es : Exps) (p : Place) → Holds (counted n es p) (λ u. count_of es ≡ n)
counted_holds n es p = weaker (unless_holds _ _) (λ u same. eqb-true (count_of es) n same)

-- those that agree with types in turn have these, where there are as many
pub agree_in_turn : (g : Sight) (ts : List Shape) (es : Exps) (ns : Nodes) → AreTyped g es ns
    → Holds (agree (in_turn ts) es ns) (λ u. count_of es ≡ length ts → types_of ns ≡ ts)
unfolding agree
agree_in_turn g ts end (with_node n ns) h = absurd h
agree_in_turn g ts (more e es) no_nodes h = absurd h
agree_in_turn g [] end no_nodes h = ok_holds _ _ (λ count. refl)
agree_in_turn g (t ∷ ts) end no_nodes h = ok_holds _ _ (λ count. absurd (omega (arith, count)))
agree_in_turn g [] (more e es) (with_node n ns) h = record { holds = λ u k count. absurd (omega (arith, count)) }
agree_in_turn g (t ∷ ts) (more e es) (with_node n ns) h = bind_holds (agrees_holds t e n) (λ u same.
    weaker (agree_in_turn g ts es ns h.1) (λ v rest count. λ i. same i ∷ rest (omega (arith, count)) i))

-- those that agree with one type have it
pub agree_each : (g : Sight) (t : Shape) (es : Exps) (ns : Nodes) → AreTyped g es ns
    → Holds (agree (each t) es ns) (λ u. AreAll t (types_of ns))
unfolding agree
agree_each g t end (with_node n ns) h = absurd h
agree_each g t (more e es) no_nodes h = absurd h
agree_each g t end no_nodes h = ok_holds _ _ tt
agree_each g t (more e es) (with_node n ns) h =
    bind_holds (agrees_holds t e n) (λ u same. weaker (agree_each g t es ns h.1) (λ v rest. (same, rest)))

-- keys and values that agree with two types have them
pub pairs_have : (g : Sight) (k v : Shape) (ps : Pairs) (ns : Pairings) → PairsTyped g ps ns
    → Holds (pairs_agree k v ps ns) (λ u. ArePairings g k v ns)
unfolding pairs_agree ArePairings
pairs_have g k v no_pairs no_pairings h = ok_holds _ _ tt
pairs_have g k v no_pairs (with_pairing m n ns) h = absurd h
pairs_have g k v (pair a b ps) no_pairings h = absurd h
pairs_have g k v (pair a b ps) (with_pairing m n ns) h =
    bind_holds (agrees_holds k a m) (λ u key. bind_holds (agrees_holds v b n) (λ w value.
    weaker (pairs_have g k v ps ns h.2) (λ x rest. (h.0.typed, h.1.typed, key, value, rest))))

-- what is converted to a type has it
pub record HasType (g : Sight) (t : Shape) (n : Node) : Type 0 where
  pub typed : IsNode g n
  pub is : type_of n ≡ t

-- a value that is as it has to be, or converted, has the type
pub converted_holds : (g : Sight) (t : Shape) (e : Exp) (n : Node) → IsFormed t → IsTyped g n → IsOwnOrAsked (Some t) n
    → Holds (converted t e n) (HasType g t)
unfolding IsNode IsForm
converted_holds g t e n formed h own =
    if_holds _ (λ same. ok_holds _ n (record { typed = h.typed; is = alike_equal (type_of n) t same }))
    (λ differ. if_holds _ (λ row. ok_holds (HasType g t) (node (place_of e) t (convert n)) (record {
      typed = (h.typed, formed, row, ⊎_elim (λ o. o) (λ asked. absurd (not_asked differ asked)) own);
      is = refl;
    })) (λ none. err_holds _ _))
  where
    not_asked : alike (type_of n) t ≡ false → ◌≡◌ {A = Option Shape} (Some t) (Some (type_of n)) → ⊥
    not_asked differ asked =
        let same : t ≡ type_of n = cc in
        true≢false (sym (alike_itself (type_of n)) ∙ ap (λ u. alike (type_of n) u) (sym same) ∙ differ)
