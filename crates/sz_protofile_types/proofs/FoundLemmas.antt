-- A file has one list of types, and so one number of fields in them.
use Rattle.std.proofs.Common.{◌≡◌, ℕ, zero, suc, ◌<◌, nat_le, List, [], ◌∷◌, map, refl, sym, ap, subst, ◌∙◌, arith, Option, Some, None}
use Rattle.std.specs.List.{Contains, sum}
use Rattle.std.proofs.lemmas.Bool.{leb-true, leb-false}
use Rattle.sz_types.specs.Data.{Shape}
use Rattle.sz_protofile.specs.Reading.{Spelling}
use Rattle.sz_protofile.specs.declared.line.Line.{Line}
use Rattle.sz_protofile.specs.declared.scope.Scope.{Scope}
use Rattle.sz_protofile.specs.Names.{unreserved, messages_in}
use Rattle.sz_protofile.specs.declared.field.FieldIn.{FieldIn}
use Rattle.sz_protofile.specs.Types.{TypeShape, AreTypes, field_count, most_fields, all_fields}
use Rattle.sz_protofile_types.specs.Ranks.{Ranking, IsRanking}
use Rattle.sz_protofile_types.specs.Making.{IsInOrder, type_in, made_of, type_named, number_of_fields, AreMadeIfFew, HaveOneType, AreFound}
use Rattle.sz_protofile_types.proofs.MakingLemmas.{are_types}
use Rattle.sz_protofile_types.proofs.UniqueLemmas.{types_same}

same_map : {X : Type 0} (f g : Scope → X) (l : List Scope) → ((s : Scope) → Contains l s → f s ≡ g s)
    → map f l ≡ map g l
same_map f g [] h = refl
same_map {X} f g (s ∷ l) h =
    ap (λ (x : X). x ∷ map f l) (h s (0, omega arith, refl))
    ∙ ap (λ (m : List X). g s ∷ m) (same_map f g l (λ t c. h t (suc c.0, omega (arith, c.1), c.2)))

pub one_type : (text : Spelling) (all : List Line) (r : Ranking) → IsRanking (all_fields text all) r
    → HaveOneType text all
one_type text all r k = λ types others t u. (
  same_map (type_named types) (type_named others) (messages_in text [] all)
      (λ s c. ap (λ (x : Shape). record { name = unreserved s.joined; shape = x })
      (types_same text all types others t u r k s c)),
  ap sum (same_map (λ (s : Scope). field_count (types s.full)) (λ (s : Scope). field_count (others s.full))
      (messages_in text [] all) (λ s c. ap field_count (types_same text all types others t u r k s c))),
)

module _ (text : Spelling) (all : List Line) (r : Ranking) (messages : List Scope) (fields ordered : List FieldIn)
    (m : messages ≡ messages_in text [] all)
    (f : fields ≡ all_fields text all) (k : IsRanking fields r) (o : IsInOrder r fields ordered) where
  ranking : IsRanking (all_fields text all) r
  ranking = subst (λ l. IsRanking l r) f k

  made : AreTypes text all (type_in (made_of r ordered))
  made = are_types r text all ordered ranking (subst (λ l. IsInOrder r l ordered) f o)

  abbrev number : List Scope → ℕ
  number = number_of_fields (type_in (made_of r ordered))

  pub found_by : (answer : Option (List TypeShape)) → AreMadeIfFew r ordered messages answer → AreFound text all answer
  found_by (Some types) h = record {
    found = (
      type_in (made_of r ordered),
      made,
      leb-true (number (messages_in text [] all)) most_fields
          (ap (λ l. nat_le (number l) most_fields) (sym m) ∙ h.few.0),
      h.few.1 ∙ ap (map (type_named (type_in (made_of r ordered)))) m,
    );
    none = tt;
    one = one_type text all r ranking;
  }
  found_by None h = record {
    found = tt;
    none = λ types t.
        let l : most_fields < number (messages_in text [] all) =
        leb-false (number (messages_in text [] all)) most_fields
        (ap (λ l. nat_le (number l) most_fields) (sym m) ∙ h.many) in
        let e = (one_type text all r ranking types (type_in (made_of r ordered)) t made).1 in
        omega (arith, l, e);
    one = one_type text all r ranking;
  }
