-- Laws of the way along the hidden entries.
use Rattle.std.proofs.Common.{◌≡◌, ℕ, suc, ◌<◌, ◌≤◌, ◌⊎◌, inl, inr, Bool, true, false, ◌&&◌, ◌==◌, List, [], ◌∷◌, length, reverse, slice_get, Option, None, Some, refl, sym, ap, subst, ◌∙◌, if◌then◌else◌, arith}
use Rattle.std.specs.Option.{option_map_or}
use Rattle.std.proofs.lemmas.Bool.{cases_lt, eqb-true, eq-eqb, cond-true, cond-false}
use Rattle.std.proofs.lemmas.List.{reverse-reverse, length-reverse}
use Rattle.std.proofs.lemmas.Option.{none-some, same_Some}
use Rattle.sz_scope.specs.declared.meaning.Meaning.{Meaning}
use Rattle.sz_scope.specs.declared.entry.Entry.{Entry}
use Rattle.sz_scope.specs.Chain.{latest, first_where, oldest, IsLinked}
use Rattle.sz_scope.proofs.ChainLemmas.{latest_within, first_none, oldest_whole, oldest_less, oldest_all, oldest_oldest, get_oldest, linked_oldest}

-- the newest entry of a name, with the older ones after it
pub record IsNewest (name : ℕ) (entries : List Entry) (at : ℕ) : Type 0 where
  pub entry : Entry
  pub here : oldest (suc at) entries ≡ entry ∷ oldest at entries
  pub named : entry.name ≡ name

pub newest_is : (name : ℕ) (entries : List Entry) (at : ℕ) → latest name entries ≡ Some at → IsNewest name entries at
newest_is name [] at p = absurd (none-some at p)
newest_is name (entry ∷ entries) at p = by (entry.name == name) refl (newest_is name entries at) p
  where
    by : (b : Bool) → (entry.name == name) ≡ b → (latest name entries ≡ Some at → IsNewest name entries at)
        → (if b then Some (length entries) else latest name entries) ≡ Some at → IsNewest name (entry ∷ entries) at
    by true e rest p =
        let is : length entries ≡ at = same_Some (length entries) at p in
        let all = oldest_less entry entries at (omega (arith, is)) ∙ oldest_all entries at (omega (arith, is)) in
        record {
          entry = entry;
          here = oldest_whole entry entries (suc at) (omega (arith, is)) ∙ ap (λ l. entry ∷ l) (sym all);
          named = eqb-true entry.name name e;
        }
    by false e rest p =
        let l = latest_within name entries at p in
        let r = rest p in
        record {
          entry = r.entry;
          here = oldest_less entry entries (suc at) (omega (arith, l)) ∙ r.here
              ∙ ap (λ l. r.entry ∷ l) (sym (oldest_less entry entries at (omega (arith, l))));
          named = r.named;
        }

-- what is found is found among the entries up to the newest of the name
pub first_oldest : (test : ℕ → Meaning → Bool) (name : ℕ) (entries : List Entry) (at : ℕ)
    → latest name entries ≡ Some at → first_where test name entries ≡ first_where test name (oldest (suc at) entries)
first_oldest test name [] at p = refl
first_oldest test name (entry ∷ entries) at p = by (entry.name == name) refl (first_oldest test name entries at) p
  where
    by : (b : Bool) → (entry.name == name) ≡ b
        → (latest name entries ≡ Some at
        → first_where test name entries ≡ first_where test name (oldest (suc at) entries))
        → (if b then Some (length entries) else latest name entries) ≡ Some at
        → first_where test name (entry ∷ entries) ≡ first_where test name (oldest (suc at) (entry ∷ entries))
    by true e rest p = ap (first_where test name)
        (sym (oldest_whole entry entries (suc at) (omega (arith, same_Some (length entries) at p))))
    by false e rest p =
        ap (λ b. if b && test entry.depth entry.what then Some entry.what else first_where test name entries) e
        ∙ rest p ∙ ap (first_where test name)
        (sym (oldest_less entry entries (suc at) (omega (arith, latest_within name entries at p))))

-- what is left to find from a place on, along the hidden entries
pub record IsOnWay (test : ℕ → Meaning → Bool) (name : ℕ) (entries : List Entry) (at : Option ℕ) : Type 0 where
  pub none : at ≡ None → first_where test name entries ≡ None
  pub rest : (i : ℕ) → at ≡ Some i → first_where test name entries ≡ first_where test name (oldest (suc i) entries)
  pub newest : (i : ℕ) → at ≡ Some i → IsNewest name entries i

-- the way begins at the newest entry of the name
pub way_starts : (test : ℕ → Meaning → Bool) (name : ℕ) (entries : List Entry)
    → IsOnWay test name entries (latest name entries)
way_starts test name entries = record {
  none = first_none test name entries;
  rest = first_oldest test name entries;
  newest = newest_is name entries;
}

module _ (entries : List Entry) (linked : IsLinked entries) (i : ℕ) (entry : Entry)
    (here : slice_get (reverse entries) i ≡ Some entry) where
  -- an entry hides the newest one of its name among the older ones
  pub hidden_is : entry.hidden ≡ latest entry.name (oldest i entries)
  hidden_is = (subst IsLinked (get_oldest entries i entry here) (linked_oldest entries (suc i) linked)).0

  -- and that one is older
  pub hidden_within : (j : ℕ) → entry.hidden ≡ Some j → (j < i) × (j < length entries)
  hidden_within j p = within (latest_within entry.name (oldest i entries) j (sym hidden_is ∙ p))
    where
      short : (es : List Entry) → (length (oldest i es) ≤ i) × (length (oldest i es) ≤ length es)
      short [] = (omega arith, omega arith)
      short (e ∷ es) = by (cases_lt (length es) i) (short es)
        where
          by : (length es < i) ⊎ (i ≤ length es) → (length (oldest i es) ≤ i) × (length (oldest i es) ≤ length es)
              → (length (oldest i (e ∷ es)) ≤ i) × (length (oldest i (e ∷ es)) ≤ suc (length es))
          by (inl l) rest = subst (λ l. (length l ≤ i) × (length l ≤ suc (length es))) (sym (oldest_whole e es i l))
              (omega (arith, l), omega arith)
          by (inr l) rest = subst (λ l. (length l ≤ i) × (length l ≤ suc (length es))) (sym (oldest_less e es i l))
              (rest.0, omega (arith, rest.1))

      within : j < length (oldest i entries) → (j < i) × (j < length entries)
      within l = (omega (arith, l, (short entries).0), omega (arith, l, (short entries).1))

  module _ (test : ℕ → Meaning → Bool) (name : ℕ) (at : Option ℕ) (way : IsOnWay test name entries at)
      (is : at ≡ Some i) where
    -- the entry on the way has the name
    pub way_named : entry.name ≡ name
    way_named = ap (λ e. e.name) (same_entry (sym (get_oldest entries i entry here) ∙ (way.newest i is).here))
        ∙ (way.newest i is).named
      where
        first : Entry → List Entry → Entry
        first other [] = other
        first other (e ∷ es) = e

        same_entry : {x y : Entry} {xs ys : List Entry} → x ∷ xs ≡ y ∷ ys → x ≡ y
        same_entry {x} p = ap (first x) p

    left : first_where test name entries
        ≡ (if test entry.depth entry.what then Some entry.what else first_where test name (oldest i entries))
    left = way.rest i is ∙ ap (first_where test name) (get_oldest entries i entry here)
        ∙ ap (λ b. if b && test entry.depth entry.what then Some entry.what
        else first_where test name (oldest i entries)) (eq-eqb entry.name name way_named)

    -- where it passes the test, it is what is found
    pub way_ends : test entry.depth entry.what ≡ true → first_where test name entries ≡ Some entry.what
    way_ends p =
        left ∙ cond-true (test entry.depth entry.what) (Some entry.what) (first_where test name (oldest i entries)) p

    -- where it doesn't, the way goes on at what it hides
    pub way_goes_on : test entry.depth entry.what ≡ false → IsOnWay test name entries entry.hidden
    way_goes_on p = record {
      none = λ q. further ∙ first_none test name (oldest i entries) (sym hidden ∙ q);
      rest = λ j q. further ∙ first_oldest test name (oldest i entries) j (sym hidden ∙ q)
          ∙ ap (first_where test name) (oldest_oldest entries (suc j) i (omega (arith, (hidden_within j q).0)));
      newest = λ j q. older j (hidden_within j q).0 (newest_is name (oldest i entries) j (sym hidden ∙ q));
    }
      where
        hidden : entry.hidden ≡ latest name (oldest i entries)
        hidden = hidden_is ∙ ap (λ n. latest n (oldest i entries)) way_named

        further : first_where test name entries ≡ first_where test name (oldest i entries)
        further = left
            ∙ cond-false (test entry.depth entry.what) (Some entry.what) (first_where test name (oldest i entries)) p

        older : (j : ℕ) → j < i → IsNewest name (oldest i entries) j → IsNewest name entries j
        older j l r = record {
          entry = r.entry;
          here = sym (oldest_oldest entries (suc j) i (omega (arith, l))) ∙ r.here
              ∙ ap (λ l. r.entry ∷ l) (oldest_oldest entries j i (omega (arith, l)));
          named = r.named;
        }

-- the way that a search is on, which began at a name's newest entry
pub record IsSearch (test : ℕ → Meaning → Bool) (newest : Option ℕ) (all : List Entry) (at : Option ℕ) : Type 0 where
  pub within : (i : ℕ) → at ≡ Some i → i < length all
  pub way : (name : ℕ) → newest ≡ latest name (reverse all) → IsOnWay test name (reverse all) at

-- a search begins at the newest entry
pub search_starts : (test : ℕ → Meaning → Bool) (newest : Option ℕ) (all : List Entry)
    → ((i : ℕ) → newest ≡ Some i → i < length all) → IsSearch test newest all newest
search_starts test newest all within = record {
  within = within;
  way = λ name p. subst (IsOnWay test name (reverse all)) (sym p) (way_starts test name (reverse all));
}

-- a search that is at no entry finds nothing
pub search_fails : (test : ℕ → Meaning → Bool) (newest : Option ℕ) (all : List Entry) (at : Option ℕ)
    → IsSearch test newest all at → at ≡ None
    → (name : ℕ) → newest ≡ latest name (reverse all) → None ≡ first_where test name (reverse all)
search_fails test newest all at search none name p = sym ((search.way name p).none none)

module _ (test : ℕ → Meaning → Bool) (newest : Option ℕ) (all : List Entry)
    (linked : IsLinked (reverse all)) (at : Option ℕ) (search : IsSearch test newest all at)
    (i : ℕ) (is : at ≡ Some i) (entry : Entry) (here : slice_get all i ≡ Some entry) where
  at_entry : slice_get (reverse (reverse all)) i ≡ Some entry
  at_entry = ap (λ l. slice_get l i) (reverse-reverse all) ∙ here

  -- a search that is at an entry that passes finds it
  pub search_ends : test entry.depth entry.what ≡ true → (name : ℕ) → newest ≡ latest name (reverse all)
      → Some entry.what ≡ first_where test name (reverse all)
  search_ends passes name p =
      sym (way_ends (reverse all) linked i entry at_entry test name at (search.way name p) is passes)

  -- a search goes on at what an entry hides that doesn't pass
  pub search_goes_on : test entry.depth entry.what ≡ false → IsSearch test newest all entry.hidden
  search_goes_on fails = record {
    within = λ j p. omega (arith, (hidden_within (reverse all) linked i entry at_entry j p).1, length-reverse all);
    way = λ name p. way_goes_on (reverse all) linked i entry at_entry test name at (search.way name p) is fails;
  }

  -- what it hides is older
  pub search_falls : (j : ℕ) → entry.hidden ≡ Some j → j < i
  search_falls j p = (hidden_within (reverse all) linked i entry at_entry j p).0

-- a place or none falls where what is hidden is older
pub falls : (hidden at : Option ℕ) (i : ℕ) → at ≡ Some i → ((j : ℕ) → hidden ≡ Some j → j < i)
    → option_map_or (λ place. suc place) hidden 0 < option_map_or (λ place. suc place) at 0
falls hidden at i is older = subst (λ o. option_map_or (λ place. suc place) hidden 0
    < option_map_or (λ place. suc place) o 0) (sym is) (by hidden older)
  where
    by : (o : Option ℕ) → ((j : ℕ) → o ≡ Some j → j < i) → option_map_or (λ place. suc place) o 0 < suc i
    by None h = omega arith
    by (Some j) h = omega (arith, h j refl)
