-- Laws of the list of all entries.
use Rattle.std.proofs.Common.{◌≡◌, ℕ, zero, suc, ◌<◌, ◌≤◌, ◌-◌, ◌⊎◌, inl, inr, Bool, true, false, ◌&&◌, nat_lt, ◌==◌, List, [], ◌∷◌, ◌++◌, length, reverse, slice_get, Option, None, Some, IfSome, option_to_list, refl, sym, ap, subst, ◌∙◌, if◌then◌else◌, arith}
use Rattle.std.proofs.lemmas.Bool.{cases_lt, lt-ltb, le-ltb, cond-true, cond-false}
use Rattle.std.proofs.lemmas.List.{reverse-append, length-reverse, length_push}
use Rattle.std.proofs.lemmas.Option.{none-some, same_Some}
use Rattle.sz_scope.specs.declared.meaning.Meaning.{Meaning}
use Rattle.sz_scope.specs.declared.entry.Entry.{Entry}
use Rattle.sz_scope.specs.Chain.{latest, first_where, oldest, IsLinked, IsNested, IsIndexed}

-- the newest entry of a name is one of the entries
pub latest_within : (name : ℕ) (entries : List Entry) (at : ℕ) → latest name entries ≡ Some at → at < length entries
latest_within name [] at p = absurd (none-some at p)
latest_within name (entry ∷ entries) at p = by (entry.name == name) (latest_within name entries at) p
  where
    by : (b : Bool) → (latest name entries ≡ Some at → at < length entries)
        → (if b then Some (length entries) else latest name entries) ≡ Some at → at < suc (length entries)
    by true rest p = omega (arith, same_Some (length entries) at p)
    by false rest p = omega (arith, rest p)

-- where a name has no entry, none is found
pub first_none : (test : ℕ → Meaning → Bool) (name : ℕ) (entries : List Entry) → latest name entries ≡ None
    → first_where test name entries ≡ None
first_none test name [] p = refl
first_none test name (entry ∷ entries) p = by (entry.name == name) (first_none test name entries) p
  where
    by : (b : Bool) → (latest name entries ≡ None → first_where test name entries ≡ None)
        → (if b then Some (length entries) else latest name entries) ≡ None
        → (if b && test entry.depth entry.what then Some entry.what else first_where test name entries) ≡ None
    by true rest p = absurd (none-some (length entries) (sym p))
    by false rest p = rest p

module _ (entry : Entry) (entries : List Entry) (count : ℕ) where
  -- all entries are the oldest of them, if that many are asked for
  pub oldest_whole : length entries < count → oldest count (entry ∷ entries) ≡ entry ∷ entries
  oldest_whole h = cond-true (nat_lt (length entries) count) (entry ∷ entries) (oldest count entries)
      (lt-ltb (length entries) count h)

  -- if fewer are asked for, the newest is none of them
  pub oldest_less : count ≤ length entries → oldest count (entry ∷ entries) ≡ oldest count entries
  oldest_less h = cond-false (nat_lt (length entries) count) (entry ∷ entries) (oldest count entries)
      (le-ltb (length entries) count h)

-- the oldest entries are all, if at least as many are asked for
pub oldest_all : (entries : List Entry) (count : ℕ) → length entries ≤ count → oldest count entries ≡ entries
oldest_all [] count h = refl
oldest_all (entry ∷ entries) count h = oldest_whole entry entries count (omega (arith, h))

-- the oldest among the oldest
pub oldest_oldest : (entries : List Entry) (few many : ℕ) → few ≤ many
    → oldest few (oldest many entries) ≡ oldest few entries
oldest_oldest [] few many h = refl
oldest_oldest (entry ∷ entries) few many h = by (cases_lt (length entries) many) (oldest_oldest entries few many h)
  where
    by : (length entries < many) ⊎ (many ≤ length entries) → oldest few (oldest many entries) ≡ oldest few entries
        → oldest few (oldest many (entry ∷ entries)) ≡ oldest few (entry ∷ entries)
    by (inl l) rest = ap (oldest few) (oldest_whole entry entries many l)
    by (inr l) rest = ap (oldest few) (oldest_less entry entries many l) ∙ rest
        ∙ sym (oldest_less entry entries few (omega (arith, h, l)))

-- an element of a list with one more at its end
get_snoc : {X : Type 0} (xs : List X) (x y : X) (at : ℕ) → slice_get (xs ++ x ∷ []) at ≡ Some y
    → ((at ≡ length xs) × (x ≡ y)) ⊎ ((at < length xs) × (slice_get xs at ≡ Some y))
get_snoc [] x y zero p = inl (refl, same_Some x y p)
get_snoc [] x y (suc at) p = absurd (none-some y p)
get_snoc (z ∷ xs) x y zero p = inr (omega arith, p)
get_snoc (z ∷ xs) x y (suc at) p = by (get_snoc xs x y at p)
  where
    by : ((at ≡ length xs) × (x ≡ y)) ⊎ ((at < length xs) × (slice_get xs at ≡ Some y))
        → ((suc at ≡ suc (length xs)) × (x ≡ y)) ⊎ ((suc at < suc (length xs)) × (slice_get (z ∷ xs) (suc at) ≡ Some y))
    by (inl h) = inl (ap (λ n. suc n) h.0, h.1)
    by (inr h) = inr (omega (arith, h.0), h.1)

-- the entry at a place is the newest of those up to it
pub get_oldest : (entries : List Entry) (at : ℕ) (found : Entry) → slice_get (reverse entries) at ≡ Some found
    → oldest (suc at) entries ≡ found ∷ oldest at entries
get_oldest [] at found p = absurd (none-some found p)
get_oldest (entry ∷ entries) at found p =
    by (get_snoc (reverse entries) entry found at
    (ap (λ l. slice_get l at) (sym (reverse-append (entry ∷ []) entries)) ∙ p)) (get_oldest entries at found)
  where
    by : ((at ≡ length (reverse entries)) × (entry ≡ found))
        ⊎ ((at < length (reverse entries)) × (slice_get (reverse entries) at ≡ Some found))
        → (slice_get (reverse entries) at ≡ Some found → oldest (suc at) entries ≡ found ∷ oldest at entries)
        → oldest (suc at) (entry ∷ entries) ≡ found ∷ oldest at (entry ∷ entries)
    by (inl h) rest =
        let is : at ≡ length entries = h.0 ∙ length-reverse entries in
        let all = oldest_less entry entries at (omega (arith, is)) ∙ oldest_all entries at (omega (arith, is)) in
        oldest_whole entry entries (suc at) (omega (arith, is)) ∙ (λ i. h.1 i ∷ sym all i)
    by (inr h) rest =
        let l : at < length entries = omega (arith, h.0, length-reverse entries) in
        oldest_less entry entries (suc at) (omega (arith, l)) ∙ rest h.1
        ∙ ap (λ l. found ∷ l) (sym (oldest_less entry entries at (omega (arith, l))))

-- the oldest entries are linked
pub linked_oldest : (entries : List Entry) (count : ℕ) → IsLinked entries → IsLinked (oldest count entries)
linked_oldest [] count h = h
linked_oldest (entry ∷ entries) count h = by (cases_lt (length entries) count) (linked_oldest entries count h.1)
  where
    by : (length entries < count) ⊎ (count ≤ length entries) → IsLinked (oldest count entries)
        → IsLinked (oldest count (entry ∷ entries))
    by (inl l) rest = subst IsLinked (sym (oldest_whole entry entries count l)) h
    by (inr l) rest = subst IsLinked (sym (oldest_less entry entries count l)) rest

-- what is less deep than one depth is less deep than a greater one
pub nested_weaker : (entries : List Entry) (depth more : ℕ) → depth ≤ more → IsNested depth entries
    → IsNested more entries
nested_weaker [] depth more l h = h
nested_weaker (entry ∷ entries) depth more l h = (omega (arith, l, h.0), h.1)

-- the last element of a list is the first of the list turned round
pub popped : (last : Option Entry) (old new : List Entry) (newest : Entry) (depth : ℕ)
    → old ≡ new ++ option_to_list last → slice_get old (length old - 1) ≡ Some newest → depth ≤ newest.depth
    → IfSome last (λ e. (reverse old ≡ e ∷ reverse new) × (depth ≤ e.depth))
popped None old new newest depth p q l = tt
popped (Some entry) old new newest depth p q l = (
  ap reverse p ∙ reverse-append new (entry ∷ []),
  subst (λ e. depth ≤ e.depth) (same (get_snoc new entry newest (length new) at)) l,
)
  where
    count : length old - 1 ≡ length new
    count = omega (arith, ap length p, length_push new entry)

    at : slice_get (new ++ entry ∷ []) (length new) ≡ Some newest
    at = ap (λ l. slice_get l (length new)) (sym p) ∙ ap (slice_get old) (sym count) ∙ q

    same : ((length new ≡ length new) × (entry ≡ newest))
        ⊎ ((length new < length new) × (slice_get new (length new) ≡ Some newest)) → newest ≡ entry
    same (inl h) = sym h.1
    same (inr h) = absurd (omega (arith, h.0))

-- what stands at a name is the place of an entry
pub newest_fits : (newest : List (Option ℕ)) (all : List Entry) → IsIndexed newest (reverse all) → (known at : Option ℕ)
    → ((name : ℕ) → known ≡ Some name → name < length newest)
    → ((name : ℕ) → known ≡ Some name → slice_get newest name ≡ Some at)
    → (known ≡ None → at ≡ None) → (i : ℕ) → at ≡ Some i → i < length all
newest_fits newest all indexed None at within some none i is = absurd (none-some i (sym (none refl) ∙ is))
newest_fits newest all indexed (Some name) at within some none i is =
    let p : at ≡ latest name (reverse all) =
    same_Some at (latest name (reverse all)) (sym (some name refl) ∙ indexed name (within name refl)) in
    omega (arith, latest_within name (reverse all) i (sym p ∙ is), length-reverse all)
