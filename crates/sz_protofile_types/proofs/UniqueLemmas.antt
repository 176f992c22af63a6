-- A file has one type for each message at most, since a field that is kept has a message's type of a lower rank.
use Rattle.std.proofs.Common.{◌≡◌, ℕ, zero, suc, ◌<◌, List, [], ◌∷◌, ◌++◌, refl, sym, ap, subst, ◌∙◌, arith}
use Rattle.std.specs.List.{Contains}
use Rattle.sz_types.specs.Data as data_of
use Rattle.sz_types.specs.Data.{Shape, FieldShape, fields_of}
use Rattle.sz_types.specs.declared.encoding.Encoding.TheVariants as encodings
use Rattle.sz_protofile.specs.Reading.{Spelling}
use Rattle.sz_protofile.specs.declared.line.Line.{Line}
use Rattle.sz_protofile.specs.declared.field.FieldIn.{FieldIn}
use Rattle.sz_protofile.specs.declared.field.Plain.{Plain}
use Rattle.sz_protofile.specs.declared.field.Sort.TheVariants as sorts
use Rattle.sz_protofile.specs.declared.scope.Scope.{Scope}
use Rattle.sz_protofile.specs.Names.{messages_in}
use Rattle.sz_protofile.specs.Scalars.{shape_of}
use Rattle.sz_protofile.specs.Fields.{Reaches, as_field, Adds, nothing, plainly, again, once, Makes, none, own, other}
use Rattle.sz_protofile.specs.Types.{all_fields, AreTypes}
use Rattle.sz_protofile_types.specs.Ranks.{Ranking, rank, IsRanking}
use Rattle.sz_protofile_types.proofs.RankLemmas.{is_lower}
use Rattle.sz_protofile_types.proofs.TargetLemmas.{target_of}

contains_head : {X : Type 0} (x : X) (xs : List X) → Contains (x ∷ xs) x
contains_head x xs = (0, omega arith, refl)

contains_tail : {X : Type 0} (x : X) (xs : List X) (y : X) → Contains xs y → Contains (x ∷ xs) y
contains_tail x xs y c = (suc c.0, omega (arith, c.1), c.2)

-- no two sorts are alike
unkept_kept : (p : Plain) → sorts.Unkept ≡ sorts.Kept p → ⊥
unkept_kept p e = absurd cc

unkept_message : (m : List ℕ) → sorts.Unkept ≡ sorts.Message m → ⊥
unkept_message m e = absurd cc

kept_message : (p : Plain) (m : List ℕ) → sorts.Kept p ≡ sorts.Message m → ⊥
kept_message p m e = absurd cc

same_kept : (p q : Plain) → sorts.Kept p ≡ sorts.Kept q → p ≡ q
same_kept p q e = cc

same_message : (m n : List ℕ) → sorts.Message m ≡ sorts.Message n → m ≡ n
same_message m n e = cc

module _ (all : List FieldIn) (types others : List ℕ → Shape) where
  -- what a field adds, where the types of messages that don't lead back are the same
  adds_same : (f : FieldIn) (made more : List FieldShape)
      → ((m : List ℕ) → f.sort ≡ sorts.Message m → (Reaches all m f.owner → ⊥) → types m ≡ others m)
      → Adds all types f made → Adds all others f more → made ≡ more
  adds_same f made more same (nothing e) (nothing g) = refl
  adds_same f made more same (nothing e) (plainly p g) = absurd (unkept_kept p (sym e ∙ g))
  adds_same f made more same (nothing e) (again m g w) = absurd (unkept_message m (sym e ∙ g))
  adds_same f made more same (nothing e) (once m g n) = absurd (unkept_message m (sym e ∙ g))
  adds_same f made more same (plainly p e) (nothing g) = absurd (unkept_kept p (sym g ∙ e))
  adds_same f made more same (plainly p e) (plainly q g) =
      ap (λ (x : Plain). as_field f (shape_of x.kind) x.code ∷ []) (same_kept p q (sym e ∙ g))
  adds_same f made more same (plainly p e) (again m g w) = absurd (kept_message p m (sym e ∙ g))
  adds_same f made more same (plainly p e) (once m g n) = absurd (kept_message p m (sym e ∙ g))
  adds_same f made more same (again m e w) (nothing g) = absurd (unkept_message m (sym g ∙ e))
  adds_same f made more same (again m e w) (plainly p g) = absurd (kept_message p m (sym g ∙ e))
  adds_same f made more same (again m e w) (again n g v) = refl
  adds_same f made more same (again m e w) (once n g x) =
      absurd (x (subst (λ y. Reaches all y f.owner) (same_message m n (sym e ∙ g)) w))
  adds_same f made more same (once m e x) (nothing g) = absurd (unkept_message m (sym g ∙ e))
  adds_same f made more same (once m e x) (plainly p g) = absurd (kept_message p m (sym g ∙ e))
  adds_same f made more same (once m e x) (again n g w) =
      absurd (x (subst (λ y. Reaches all y f.owner) (sym (same_message m n (sym e ∙ g))) w))
  adds_same f made more same (once m e x) (once n g y) =
      ap (λ s. as_field f s encodings.Plain ∷ []) (same m e x ∙ ap others (same_message m n (sym e ∙ g)))

  pub makes_same : (owner : List ℕ) (fields : List FieldIn) (made more : List FieldShape)
      → ((f : FieldIn) (m : List ℕ) → Contains fields f → f.owner ≡ owner → f.sort ≡ sorts.Message m
      → (Reaches all m f.owner → ⊥) → types m ≡ others m)
      → Makes all types owner fields made → Makes all others owner fields more → made ≡ more
  makes_same owner fields made more same none none = refl
  makes_same owner fields made more same (own f rest a b o d w) (own g left c e p h v) =
      ap (λ x. x ++ b) (adds_same f a c (λ m q n. same f m (contains_head f rest) o q n) d h)
      ∙ ap (λ x. c ++ x) (makes_same owner rest b e (λ k m q. same k m (contains_tail f rest k q)) w v)
  makes_same owner fields made more same (own f rest a b o d w) (other g left c p v) = absurd (p o)
  makes_same owner fields made more same (other f rest b o w) (own g left c e p h v) = absurd (o p)
  makes_same owner fields made more same (other f rest b o w) (other g left c p v) =
      makes_same owner rest b c (λ k m q. same k m (contains_tail f rest k q)) w v

module _ (text : Spelling) (all : List Line) (types others : List ℕ → Shape) (t : AreTypes text all types)
    (u : AreTypes text all others) (r : Ranking)
    (k : IsRanking (all_fields text all) r) where
  -- the types of messages of lower ranks are the same
  below : (n : ℕ) (s : Scope) → Contains (messages_in text [] all) s → rank r s.full < n → types s.full ≡ others s.full
  below zero s c l = absurd (omega (arith, l))
  below (suc n) s c l =
      let a = t s c in
      let b = u s c in
      a.2
      ∙ ap (λ made. data_of.proto (fields_of made))
      (makes_same (all_fields text all) types others s.full (all_fields text all) a.0 b.0
      (λ f m q o e x.
      let g = target_of text all f m q e in
      subst (λ y. types y ≡ others y) g.2 (below n g.0 g.1
      (omega (arith, l, ap (rank r) o, ap (rank r) g.2, is_lower (all_fields text all) r k f m q e x))))
      a.1 b.1)
      ∙ sym b.2

  -- a message has one type
  pub types_same : (s : Scope) → Contains (messages_in text [] all) s → types s.full ≡ others s.full
  types_same s c = below (suc (rank r s.full)) s c (omega arith)
