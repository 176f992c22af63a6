-- Loops over what stands in front of bytes: how they begin, go on, stop and end.
use Rattle.std.proofs.Common.{◌≡◌, ◌∙◌, ℕ, zero, suc, ◌<◌, ◌≤◌, ◌+◌, ◌-◌, Bool, true, Option, Some, None, List, [], ◌∷◌, ◌++◌, length, map, drop, get_or, refl, sym, ap, append-nil, arith}
use Rattle.std.proofs.lemmas.List.{length-map}
use Rattle.sz_types.specs.Data.{fields_of}
use Rattle.sz_types.specs.Seen.{seen, seen_field}
use Rattle.sz_types.specs.declared.ty.Ty.{Ty}
use Rattle.sz_types.specs.declared.ty.Field.{Field}
use Rattle.sz_types.proofs.ForCallers.{rest_more, rest_none}
use Rattle.sz_value.specs.Data.{Datum}
use Rattle.sz_save_format.specs.Entries.{in_order}
use Rattle.sz_save_format.specs.Decoding.{Decoder, and_then, length_at, put_first, many_at, counted_at}
use Rattle.sz_save_format.specs.DecodingRows.{count_at, value_at, parts_at, sized_at, indexes_at, long_counted_at}
use Rattle.sz_save_format.proofs.FrontLemmas.{after, after_more, after_none}

-- as many as a number says
pub begins : {X : Type 0} (read : Decoder X) (n : ℕ) (rest : List ℕ)
    → many_at read n rest ≡ after [] (many_at read (n - 0) rest)
begins read n rest = let same : n ≡ n - 0 = omega arith in
    after_none (many_at read n rest) ∙ ap (λ m. after [] (many_at read m rest)) same

pub counted_begins : {X : Type 0} (read : Decoder X) (flat : List ℕ) (n : ℕ) (rest : List ℕ)
    → length_at flat ≡ Some (n, rest) → counted_at read flat ≡ after [] (many_at read (n - 0) rest)
unfolding counted_at
counted_begins read flat n rest e = ap (λ o. and_then o (λ m mid. many_at read m mid)) e ∙ begins read n rest

pub counted_lacks : {X : Type 0} (read : Decoder X) (flat : List ℕ) → length_at flat ≡ None
    → counted_at read flat ≡ None
unfolding counted_at
counted_lacks read flat e = ap (λ o. and_then o (λ m mid. many_at read m mid)) e

pub long_begins : {X : Type 0} (read : Decoder X) (flat : List ℕ) (n : ℕ) (rest : List ℕ)
    → count_at flat ≡ Some (n, rest) → long_counted_at read flat ≡ after [] (many_at read (n - 0) rest)
unfolding long_counted_at
long_begins read flat n rest e = ap (λ o. and_then o (λ m mid. many_at read m mid)) e ∙ begins read n rest

pub long_lacks : {X : Type 0} (read : Decoder X) (flat : List ℕ) → count_at flat ≡ None
    → long_counted_at read flat ≡ None
unfolding long_counted_at
long_lacks read flat e = ap (λ o. and_then o (λ m mid. many_at read m mid)) e

-- a value for each field
module _ (whole : Option (List Datum × List ℕ)) (fields : List Field) (done : List Datum) (rest : List ℕ) (i : ℕ) where
  abbrev PartsFrom : List Datum → ℕ → List ℕ → Type 0
  PartsFrom ds at bytes = whole ≡ after ds (parts_at (fields_of (map seen_field (drop at fields))) bytes)

  pub parts_go : (f : Field) (d : Datum) (more : List ℕ) → i < length fields → f ≡ get_or fields i f
      → value_at (seen f.ty) rest ≡ Some (d, more) → PartsFrom done i rest → PartsFrom (done ++ d ∷ []) (i + 1) more
  unfolding value_at
  parts_go f d more less is one h =
      h ∙ ap (λ fs. after done (parts_at (fields_of fs) rest)) (rest_more seen_field fields i f less is)
      ∙ ap (λ o. after done
      (and_then o (λ x mid. put_first x (parts_at (fields_of (map seen_field (drop (i + 1) fields))) mid)))) one
      ∙ after_more done d (parts_at (fields_of (map seen_field (drop (i + 1) fields))) more)

  pub parts_stop : (f : Field) → i < length fields → f ≡ get_or fields i f → value_at (seen f.ty) rest ≡ None
      → PartsFrom done i rest → whole ≡ None
  unfolding value_at
  parts_stop f less is none h =
      h ∙ ap (λ fs. after done (parts_at (fields_of fs) rest)) (rest_more seen_field fields i f less is)
      ∙ ap (λ o. after done
      (and_then o (λ x mid. put_first x (parts_at (fields_of (map seen_field (drop (i + 1) fields))) mid)))) none

  pub parts_end : length fields ≤ i → PartsFrom done i rest → whole ≡ Some (done, rest)
  unfolding value_at
  parts_end last h =
      h ∙ ap (λ fs. after done (parts_at (fields_of fs) rest)) (rest_none seen_field fields i last)
      ∙ (λ j. Some (append-nil done j, rest))

-- a value of each type
module _ (whole : Option (List Datum × List ℕ)) (types : List Ty) (done : List Datum) (rest : List ℕ) (i : ℕ) where
  abbrev IndexesFrom : List Datum → ℕ → List ℕ → Type 0
  IndexesFrom ds at bytes = whole ≡ after ds (indexes_at (map seen (drop at types)) bytes)

  pub indexes_go : (t : Ty) (d : Datum) (more : List ℕ) → i < length types → t ≡ get_or types i t
      → sized_at (seen t) rest ≡ Some (d, more) → IndexesFrom done i rest → IndexesFrom (done ++ d ∷ []) (i + 1) more
  unfolding indexes_at
  indexes_go t d more less is one h =
      h ∙ ap (λ ts. after done (indexes_at ts rest)) (rest_more seen types i t less is)
      ∙ ap (λ o. after done (and_then o (λ x mid. put_first x (indexes_at (map seen (drop (i + 1) types)) mid)))) one
      ∙ after_more done d (indexes_at (map seen (drop (i + 1) types)) more)

  pub indexes_stop : (t : Ty) → i < length types → t ≡ get_or types i t → sized_at (seen t) rest ≡ None
      → IndexesFrom done i rest → whole ≡ None
  unfolding indexes_at
  indexes_stop t less is none h =
      h ∙ ap (λ ts. after done (indexes_at ts rest)) (rest_more seen types i t less is)
      ∙ ap (λ o. after done (and_then o (λ x mid. put_first x (indexes_at (map seen (drop (i + 1) types)) mid)))) none

  pub indexes_end : length types ≤ i → IndexesFrom done i rest → whole ≡ Some (done, rest)
  unfolding indexes_at
  indexes_end last h =
      h ∙ ap (λ ts. after done (indexes_at ts rest)) (rest_none seen types i last)
      ∙ (λ j. Some (append-nil done j, rest))

shortened : {A : Type 0} (xs : List A) (n : ℕ) → length xs ≤ n + 1 → length (drop n xs) ≤ 1
shortened xs zero short = omega (arith, short)
shortened [] (suc n) short = omega arith
shortened (x ∷ xs) (suc n) short = shortened xs n (omega (arith, short))

-- each behind the one before it
module _ {X : Type 0} (follows : X → X → Bool) where
  short_order : (xs : List X) → length xs ≤ 1 → in_order follows xs ≡ true
  short_order [] short = refl
  short_order (x ∷ []) short = refl
  short_order (x ∷ y ∷ xs) short = absurd (omega (arith, short))

  pub order_ends : (xs : List X) (i : ℕ) → 1 ≤ i → length xs ≤ i
      → in_order follows (drop (i - 1) xs) ≡ in_order follows xs → in_order follows xs ≡ true
  order_ends xs i some last h = sym h ∙ short_order (drop (i - 1) xs) (shortened xs (i - 1) (omega (arith, some, last)))

  -- the same of what is seen of each
  pub seen_order_ends : {A : Type 0} (f : A → X) (xs : List A) (i : ℕ) → 1 ≤ i → length xs ≤ i
      → in_order follows (map f (drop (i - 1) xs)) ≡ in_order follows (map f xs) → in_order follows (map f xs) ≡ true
  seen_order_ends f xs i some last h =
      let short = shortened xs (i - 1) (omega (arith, some, last)) in
      let long = length-map (drop (i - 1) xs) f in
      sym h ∙ short_order (map f (drop (i - 1) xs)) (omega (arith, short, long))
