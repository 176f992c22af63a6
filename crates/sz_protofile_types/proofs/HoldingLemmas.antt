-- Steps of the loops over fields.
use Rattle.std.proofs.Common.{◌≡◌, ℕ, ◌+◌, ◌<◌, Bool, true, false, cond, List, [], ◌∷◌, ◌++◌, length, take, get_or, map, Option, Some, None, bytes_eq, nat_le, refl, sym, ap, ◌∙◌, arith}
use Rattle.std.specs.HashMap.{HashMap, get_by, IsEmpty}
use Rattle.std.specs.List.{sum, sum_by}
use Rattle.std.proofs.lemmas.List.Sums.{sum-map}
use Rattle.std.proofs.lemmas.List.{take_more}
use Rattle.sz_types.specs.Data.{FieldShape}
use Rattle.sz_protofile.specs.declared.field.FieldIn.{FieldIn}
use Rattle.sz_protofile.specs.Types.{field_count}
use Rattle.sz_protofile_types.specs.Ranks.{Ranking}
use Rattle.sz_protofile_types.specs.Making.{Made, nothing_made, type_in, after_field, made_after, made_of}
use Rattle.sz_protofile.specs.declared.scope.Scope.{Scope}
use Rattle.sz_protofile.specs.Types.{most_fields}
use Rattle.sz_types.specs.Seen.{seen_fields}
use Rattle.sz_types.specs.declared.ty.Fields.{Fields}
use Rattle.sz_protofile_types.specs.Holding.{capped, counted, seen_found, number_as, after_counted}
use Rattle.sz_protofile_types.proofs.CountLemmas.{counted_field, capped_again, capped_total, few_is}

-- nothing is found at first
pub none_found : {K X S : Type 0} (m : HashMap K X S) → IsEmpty m → (test : K → Bool) → get_by test m ≡ None
none_found m e test = rw e refl

module _ (r : Ranking) where
  made_last : (made : Made) (fields : List FieldIn) (f : FieldIn)
      → made_after r made (fields ++ f ∷ []) ≡ after_field r (made_after r made fields) f
  unfolding made_after
  made_last made [] f = refl
  made_last made (g ∷ more) f = made_last (after_field r made g) more f

  -- one field more is made
  made_more : (fields : List FieldIn) (i : ℕ) (d : FieldIn) → i < length fields
      → made_of r (take (i + 1) fields) ≡ after_field r (made_of r (take i fields)) (get_or fields i d)
  made_more fields i d l = ap (made_of r) (take_more fields i d l)
      ∙ made_last nothing_made (take i fields) (get_or fields i d)

  -- the types so far are those that are held
  pub makes_more : (held after : Made) (fields : List FieldIn) (i : ℕ) (f : FieldIn) → i < length fields
      → f ≡ get_or fields i f → ((m : List ℕ) → held m ≡ made_of r (take i fields) m)
      → ((m : List ℕ) → after m ≡ after_field r held f m) → (m : List ℕ) → after m ≡ made_of r (take (i + 1) fields) m
  makes_more held after fields i f l is h step m =
      let all : held ≡ made_of r (take i fields) = λ j n. h n j in
      step m ∙ ap (λ (x : Made). after_field r x f m) all ∙ ap (λ x. after_field r (made_of r (take i fields)) x m) is
      ∙ ap (λ (x : Made). x m) (sym (made_more fields i f l))

  pub made_none : (m : List ℕ) → made_of r [] m ≡ []
  unfolding made_after
  made_none m = refl

  -- the numbers so far are those that are held
  pub counts_more : (held after : List ℕ → ℕ) (fields : List FieldIn) (i : ℕ) (f : FieldIn) → i < length fields
      → f ≡ get_or fields i f → ((m : List ℕ) → held m ≡ capped (field_count (type_in (made_of r (take i fields)) m)))
      → ((m : List ℕ) → after m ≡ after_counted r held f m)
      → (m : List ℕ) → after m ≡ capped (field_count (type_in (made_of r (take (i + 1) fields)) m))
  counts_more held after fields i f l is h step m =
      let all : held ≡ (λ n. capped (field_count (type_in (made_of r (take i fields)) n))) = λ j n. h n j in
      step m ∙ ap (λ (x : List ℕ → ℕ). after_counted r x f m) all
      ∙ counted_field r (made_of r (take i fields)) f m
      ∙ ap (λ x. capped (field_count (type_in (after_field r (made_of r (take i fields)) x) m))) is
      ∙ ap (λ (x : Made). capped (field_count (type_in x m))) (sym (made_more fields i f l))

  pub counts_none : (m : List ℕ) → 0 ≡ capped (field_count (type_in (made_of r []) m))
  unfolding made_after
  counts_none m = refl

  -- a number is put in place of the one that was found
  pub counted_more : (f : FieldIn) (key : List ℕ) (old new : List ℕ → Option ℕ) (count n a : ℕ) → key ≡ f.owner
      → count ≡ capped (n + a) → n ≡ counted (old f.owner) → a ≡ number_as r (λ m. counted (old m)) f f.sort
      → ((m : List ℕ) → new m ≡ cond (bytes_eq key m) (Some count) (old m))
      → (m : List ℕ) → counted (new m) ≡ after_counted r (λ m. counted (old m)) f m
  counted_more f key old new count n a k c p q step m =
      ap counted (step m ∙ ap (λ x. cond (bytes_eq x m) (Some count) (old m)) k) ∙ by (bytes_eq f.owner m)
    where
      sum_is : n + a ≡ counted (old f.owner) + number_as r (λ m. counted (old m)) f f.sort
      sum_is = omega (arith, p, q)

      by : (b : Bool) → counted (cond b (Some count) (old m))
          ≡ cond b (capped (counted (old f.owner) + number_as r (λ m. counted (old m)) f f.sort)) (counted (old m))
      by true = ap capped (c ∙ ap capped sum_is)
          ∙ capped_again (counted (old f.owner) + number_as r (λ m. counted (old m)) f f.sort)
      by false = refl

-- fields are put in place of those that were found
pub found_put : (key : List ℕ) (old new : List ℕ → Option Fields) (w : Fields) (made : List FieldShape)
    → seen_fields w ≡ made → ((m : List ℕ) → new m ≡ cond (bytes_eq key m) (Some w) (old m)) → (m : List ℕ)
    → seen_found (new m) ≡ cond (bytes_eq key m) made (seen_found (old m))
found_put key old new w made e step m = ap seen_found (step m) ∙ by (bytes_eq key m)
  where
    by : (b : Bool) → seen_found (cond b (Some w) (old m)) ≡ cond b made (seen_found (old m))
    by true = e
    by false = refl

-- whether there are few fields is told by the capped number
pub few_by : (number count : List ℕ → ℕ) (messages : List Scope) → ((m : List ℕ) → count m ≡ capped (number m))
    → nat_le (capped (sum (map (λ (s : Scope). count s.full) messages))) most_fields
    ≡ nat_le (sum (map (λ (s : Scope). number s.full) messages)) most_fields
few_by number count messages h =
    let all : count ≡ (λ m. capped (number m)) = λ j m. h m j in
    ap (λ (x : List ℕ → ℕ). nat_le (capped (sum (map (λ (s : Scope). x s.full) messages))) most_fields) all
    ∙ ap (λ n. nat_le (capped n) most_fields) (sum-map (λ (s : Scope). capped (number s.full)) messages)
    ∙ ap (λ n. nat_le n most_fields) (capped_total (λ (s : Scope). number s.full) messages)
    ∙ few_is (sum_by (λ (s : Scope). number s.full) messages)
    ∙ ap (λ n. nat_le n most_fields) (sym (sum-map (λ (s : Scope). number s.full) messages))
