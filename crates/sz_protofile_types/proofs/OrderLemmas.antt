-- What a stable sort by the ranks of messages keeps.
use Rattle.std.proofs.Common.{◌≡◌, ℕ, List, [], ◌∷◌, Bool, true, false, cond, not, ◌&&◌, refl, sym, ap, ◌∙◌, arith}
use Rattle.std.specs.List.{filter}
use Rattle.std.specs.List.Sorted.{ties, IsStableByKey}
use Rattle.std.specs.Ordering.{nat_cmp, is_lt}
use Rattle.std.proofs.lemmas.Slice.Eq.{bytes_eq-Decides}
use Rattle.sz_protofile.specs.declared.field.FieldIn.{FieldIn}
use Rattle.sz_protofile.specs.declared.field.Sort.TheVariants as sorts
use Rattle.sz_protofile_types.specs.Ranks.{Ranking, rank}
use Rattle.sz_protofile_types.specs.Making.{stands_in}

-- a number ties with itself
ties_itself : (n : ℕ) → (not (is_lt (nat_cmp n n)) && not (is_lt (nat_cmp n n))) ≡ true
ties_itself n = grind (arith, nat_cmp)

module _ (r : Ranking) where
  -- the rank of the message in which a field stands
  abbrev pub rank_of : FieldIn → ℕ
  rank_of f = rank r f.owner

  -- a field of the message
  abbrev at : List ℕ → FieldIn
  at owner = record { owner = owner; name = []; number = 0; repeated = false; sort = sorts.Unkept }

  -- whether a field stands in a message of the same rank
  abbrev tied : List ℕ → FieldIn → Bool
  tied owner f = ties (λ (x y : FieldIn). is_lt (nat_cmp (rank_of x) (rank_of y))) (at owner) f

  its_own : (owner : List ℕ) (f : FieldIn) → stands_in owner f ≡ true → tied owner f ≡ true
  its_own owner f e =
      ap (λ o. not (is_lt (nat_cmp (rank r owner) (rank r o))) && not (is_lt (nat_cmp (rank r o) (rank r owner))))
      ((bytes_eq-Decides f.owner owner).0 e) ∙ ties_itself (rank r owner)

  -- the fields of a message are among those of its rank
  kept_alone : (owner : List ℕ) (fields : List FieldIn)
      → filter (stands_in owner) (filter (tied owner) fields) ≡ filter (stands_in owner) fields
  kept_alone owner [] = refl
  kept_alone owner (f ∷ more) = by (stands_in owner f) refl (kept_alone owner more)
    where
      rest : List FieldIn
      rest = filter (tied owner) more

      dropped : stands_in owner f ≡ false → (t : Bool)
          → filter (stands_in owner) (cond t (f ∷ rest) rest) ≡ filter (stands_in owner) rest
      dropped e true = ap (λ b. cond b (f ∷ filter (stands_in owner) rest) (filter (stands_in owner) rest)) e
      dropped e false = refl

      by : (b : Bool) → stands_in owner f ≡ b → filter (stands_in owner) rest ≡ filter (stands_in owner) more
          → filter (stands_in owner) (filter (tied owner) (f ∷ more)) ≡ filter (stands_in owner) (f ∷ more)
      by true e h =
          ap (λ t. filter (stands_in owner) (cond t (f ∷ rest) rest)) (its_own owner f e)
          ∙ ap (λ b. cond b (f ∷ filter (stands_in owner) rest) (filter (stands_in owner) rest)) e
          ∙ ap (λ (l : List FieldIn). f ∷ l) h
          ∙ sym (ap (λ b. cond b (f ∷ filter (stands_in owner) more) (filter (stands_in owner) more)) e)
      by false e h =
          dropped e (tied owner f) ∙ h
          ∙ sym (ap (λ b. cond b (f ∷ filter (stands_in owner) more) (filter (stands_in owner) more)) e)

  -- the fields of a message stay in their order
  pub sort_keeps : (fields ordered : List FieldIn) → IsStableByKey rank_of nat_cmp fields ordered → (owner : List ℕ)
      → filter (stands_in owner) ordered ≡ filter (stands_in owner) fields
  sort_keeps fields ordered stable owner =
      sym (kept_alone owner ordered) ∙ ap (filter (stands_in owner)) (stable (at owner)) ∙ kept_alone owner fields
