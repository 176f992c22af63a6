-- Fields that are made by rising ranks give the types of a file.
use Rattle.std.proofs.Common.{◌≡◌, ℕ, zero, suc, ◌<◌, Bool, true, false, cond, nat_lt, List, [], ◌∷◌, ◌++◌, length, slice_index_or, refl, sym, ap, subst, ◌∙◌, arith, bytes_eq}
use Rattle.std.specs.List.{Contains, filter, flat_map}
use Rattle.std.specs.List.Sorted.{IsNonDecreasingBy}
use Rattle.std.proofs.lemmas.Bool.{cond-false, ltb-true, ltb-false}
use Rattle.std.proofs.lemmas.List.{append_assoc, append-nil}
use Rattle.std.proofs.lemmas.Slice.Eq.{bytes_eq-Decides}
use Rattle.sz_types.specs.Data.{FieldShape}
use Rattle.sz_types.specs.declared.encoding.Encoding.TheVariants as encodings
use Rattle.sz_protofile.specs.Reading.{Spelling}
use Rattle.sz_protofile.specs.declared.line.Line.{Line}
use Rattle.sz_protofile.specs.declared.field.FieldIn.{FieldIn}
use Rattle.sz_protofile.specs.declared.field.Sort.{Sort}
use Rattle.sz_protofile.specs.declared.field.Sort.TheVariants as sorts
use Rattle.sz_protofile.specs.Fields.{as_field, Adds, nothing, plainly, again, once, Makes, none, own, other}
use Rattle.sz_protofile.specs.Types.{all_fields, AreTypes}
use Rattle.sz_protofile_types.specs.Ranks.{Ranking, rank, IsRanking}
use Rattle.sz_protofile_types.specs.Making.{stands_in, IsInOrder, Made, nothing_made, type_in, added_as, added_by, after_field, made_after, made_of}
use Rattle.sz_protofile_types.proofs.RankLemmas.{leads_back}
use Rattle.sz_protofile_types.proofs.OrderLemmas.{rank_of}

module _ (r : Ranking) where
  abbrev AreAbove : ℕ → List FieldIn → Type 0
  AreAbove n fields = (j : ℕ) (d : FieldIn) → j < length fields → n < rank_of r (slice_index_or fields j d)

  -- a field of another message leaves what is made of this one
  unowned : (made : Made) (f : FieldIn) (m : List ℕ) → rank r m < rank_of r f → after_field r made f m ≡ made m
  unowned made f m l = by (bytes_eq f.owner m) refl
    where
      by : (b : Bool) → bytes_eq f.owner m ≡ b → after_field r made f m ≡ made m
      by true e = absurd (omega (arith, l, ap (rank r) ((bytes_eq-Decides f.owner m).0 e)))
      by false e = cond-false (bytes_eq f.owner m) (made f.owner ++ added_by r made f) (made m) e

  -- fields of messages of higher ranks leave what is made of this one
  stays : (made : Made) (fields : List FieldIn) (m : List ℕ) → AreAbove (rank r m) fields
      → made_after r made fields m ≡ made m
  unfolding made_after
  stays made [] m h = refl
  stays made (f ∷ more) m h =
      stays (after_field r made f) more m (λ j d l. h (suc j) d (omega (arith, l)))
      ∙ unowned made f m (h 0 f (omega arith))

  -- what a field adds, where the types of messages of lower ranks are the same
  same_added : (made final : Made) (f : FieldIn) → ((m : List ℕ) → rank r m < rank_of r f → made m ≡ final m)
      → added_by r made f ≡ added_by r final f
  same_added made final f h = by f.sort
    where
      by : (s : Sort) → added_as r made f s ≡ added_as r final f s
      by sorts.Unkept = refl
      by (sorts.Kept p) = refl
      by (sorts.Message m) = test (nat_lt (rank r m) (rank r f.owner)) refl
        where
          test : (b : Bool) → nat_lt (rank r m) (rank r f.owner) ≡ b
              → cond b (as_field f (type_in made m) encodings.Plain ∷ []) []
              ≡ cond b (as_field f (type_in final m) encodings.Plain ∷ []) []
          test true e = ap (λ (l : List FieldShape). as_field f (type_in (λ n. l) m) encodings.Plain ∷ [])
              (h m (ltb-true (rank r m) (rank r f.owner) e))
          test false e = refl

  -- what is made of a message is what was there, and what its fields add
  made_is : (final made : Made) (fields : List FieldIn) → ((m : List ℕ) → made_after r made fields m ≡ final m)
      → IsNonDecreasingBy (rank_of r) fields
      → (owner : List ℕ)
      → made_after r made fields owner ≡ made owner ++ flat_map (added_by r final) (filter (stands_in owner) fields)
  unfolding made_after
  made_is final made [] h rising owner = sym (append-nil (made owner))
  made_is final made (f ∷ more) h rising owner =
      made_is final (after_field r made f) more h
      (λ i j d l k. rising (suc i) (suc j) d (omega (arith, l)) (omega (arith, k))) owner
      ∙ by (bytes_eq f.owner owner) refl
    where
      rest : List FieldIn
      rest = filter (stands_in owner) more

      earlier : (m : List ℕ) → rank r m < rank_of r f → made m ≡ final m
      earlier m l =
          sym (stays made (f ∷ more) m (λ j d k. let q = rising 0 j d (omega arith) k in omega (arith, l, q))) ∙ h m

      by : (b : Bool) → bytes_eq f.owner owner ≡ b
          → cond b (made f.owner ++ added_by r made f) (made owner) ++ flat_map (added_by r final) rest
          ≡ made owner ++ flat_map (added_by r final) (cond b (f ∷ rest) rest)
      by true e =
          append_assoc (made f.owner) (added_by r made f) (flat_map (added_by r final) rest)
          ∙ ap (λ m. made m ++ (added_by r made f ++ flat_map (added_by r final) rest))
          ((bytes_eq-Decides f.owner owner).0 e)
          ∙ ap (λ a. made owner ++ (a ++ flat_map (added_by r final) rest)) (same_added made final f earlier)
      by false e = refl

  module _ (all : List FieldIn) (k : IsRanking all r) (final : Made) where
    adds : (f : FieldIn) → Contains all f → Adds all (type_in final) f (added_by r final f)
    adds f c = by f.sort refl
      where
        by : (s : Sort) → f.sort ≡ s → Adds all (type_in final) f (added_as r final f s)
        by sorts.Unkept e = nothing e
        by (sorts.Kept p) e = plainly p e
        by (sorts.Message m) e = test (nat_lt (rank r m) (rank r f.owner)) refl
          where
            test : (b : Bool) → nat_lt (rank r m) (rank r f.owner) ≡ b
                → Adds all (type_in final) f (cond b (as_field f (type_in final m) encodings.Plain ∷ []) [])
            test true l =
                once m e (λ w. let q = ltb-true (rank r m) (rank r f.owner) l in
                omega (arith, q, leads_back all r k f m c e w))
            test false l =
                again m e (k.together f m c e
                (let p = k.falling f m c e in let q = ltb-false (rank r m) (rank r f.owner) l in omega (arith, p, q)))

    makes : (owner : List ℕ) (fields : List FieldIn) → ((f : FieldIn) → Contains fields f → Contains all f)
        → Makes all (type_in final) owner fields (flat_map (added_by r final) (filter (stands_in owner) fields))
    makes owner [] within = none
    makes owner (f ∷ more) within =
        by (bytes_eq f.owner owner) refl (makes owner more (λ g c. within g (suc c.0, omega (arith, c.1), c.2)))
      where
        rest : List FieldIn
        rest = filter (stands_in owner) more

        by : (b : Bool) → bytes_eq f.owner owner ≡ b
            → Makes all (type_in final) owner more (flat_map (added_by r final) rest)
            → Makes all (type_in final) owner (f ∷ more) (flat_map (added_by r final) (cond b (f ∷ rest) rest))
        by true e h =
            own f more (added_by r final f) (flat_map (added_by r final) rest) ((bytes_eq-Decides f.owner owner).0 e)
            (adds f (within f (0, omega arith, refl))) h
        by false e h =
            other f more (flat_map (added_by r final) rest)
            (λ is. let d = (bytes_eq-Decides f.owner owner).1 is in let w = sym d ∙ e in absurd cc) h

  -- made in order, the types are those of the file
  pub are_types : (text : Spelling) (all : List Line) (ordered : List FieldIn) → IsRanking (all_fields text all) r
      → IsInOrder r (all_fields text all) ordered → AreTypes text all (type_in (made_of r ordered))
  are_types text all ordered k o = λ s c.
      let final = made_of r ordered in (
        final s.full,
        subst (Makes (all_fields text all) (type_in final) s.full (all_fields text all))
            (sym (made_is final nothing_made ordered (λ m. refl) o.rising s.full
            ∙ ap (flat_map (added_by r final)) (o.same s.full)))
            (makes (all_fields text all) k final s.full (all_fields text all) (λ f w. w)),
        refl,
      )
