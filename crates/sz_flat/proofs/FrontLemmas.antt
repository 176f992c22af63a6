-- What stands in front of bytes, item by item.
use Rattle.std.proofs.Common.{◌≡◌, ◌∙◌, ℕ, ◌+◌, ◌<◌, List, [], ◌∷◌, ◌++◌, length, refl, sym, ap, append_assoc, arith}
use Rattle.std.specs.List.{AllByRecursion}
use Rattle.std.proofs.lemmas.List.{length-append, append-nil}
use Rattle.sz_value.specs.Data.{Datum, Data, no_data, datum, data_of, parts_of, Entries, no_entries, entry, entries_of, pairs_of}
use Rattle.sz_flat.specs.Spelling.{spelling, spelled_parts, spelled_pairs, HasSpelling, HaveSpellings, PairsHaveSpellings}
use Rattle.sz_flat.specs.Reading.{Language, pair, spelled_all, all_of, Adds, Stands, Lacks}
use Rattle.sz_flat.proofs.SpellingLemmas.{one_spelling}

-- none of two of a language is spelled as a front of the other
abbrev pub IsUnique : {Y : Type 0} → Language Y → Type 0
IsUnique {Y} language =
    (x y : Y) (r s : List ℕ) → language.Has x → language.Has y → language.spelled x ++ r ≡ language.spelled y ++ s
    → (x ≡ y) × (r ≡ s)

pub pair_unique : IsUnique pair
pair_unique p q r s h k e =
    let key = one_spelling p.0 q.0 (spelling p.1 ++ r) (spelling q.1 ++ s) h.0 k.0
    (sym (append_assoc (spelling p.0) (spelling p.1) r) ∙ e ∙ append_assoc (spelling q.0) (spelling q.1) s) in
    let value = one_spelling p.1 q.1 r s h.1 k.1 key.1 in
    (λ i. (key.0 i, value.0 i), value.1)

module _ {Y : Type 0} (language : Language Y) where
  spelled_more : (ys : List Y) (y : Y)
      → spelled_all language.spelled (ys ++ y ∷ []) ≡ spelled_all language.spelled ys ++ language.spelled y
  spelled_more [] y = append-nil (language.spelled y)
  spelled_more (z ∷ ys) y =
      ap (λ l. language.spelled z ++ l) (spelled_more ys y)
      ∙ sym (append_assoc (language.spelled z) (spelled_all language.spelled ys) (language.spelled y))

  has_more : (ys : List Y) (y : Y) → AllByRecursion language.Has ys → language.Has y
      → AllByRecursion language.Has (ys ++ y ∷ [])
  has_more [] y all one = (one, tt)
  has_more (z ∷ ys) y all one = (all.0, has_more ys y all.1 one)

  -- nothing was read, and one more was
  pub none_stand : (flat : List ℕ) → Stands (all_of language 0) flat [] flat
  none_stand flat = record { has = (refl, tt); is = refl }

  pub one_more_stands : (flat : List ℕ) (ys : List Y) (rest : List ℕ) (y : Y) (after : List ℕ) (count : ℕ)
      → Stands (all_of language count) flat ys rest
      → Stands language rest y after → Stands (all_of language (count + 1)) flat (ys ++ y ∷ []) after
  one_more_stands flat ys rest y after count h one = record {
    has = (length-append ys (y ∷ []) ∙ ap (λ n. n + 1) h.has.0, has_more ys y h.has.1 one.has);
    is =
        h.is ∙ ap (λ l. spelled_all language.spelled ys ++ l) one.is
        ∙ sym (append_assoc (spelled_all language.spelled ys) (language.spelled y) after)
        ∙ ap (λ l. l ++ after) (sym (spelled_more ys y));
  }

  -- one more was appended
  pub one_more_added : (old now new : List ℕ) (ys : List Y) (y : Y) (count : ℕ)
      → Adds (all_of language count) old now ys → Adds language now new y
      → Adds (all_of language (count + 1)) old new (ys ++ y ∷ [])
  one_more_added old now new ys y count h one = record {
    has = (length-append ys (y ∷ []) ∙ ap (λ n. n + 1) h.has.0, has_more ys y h.has.1 one.has);
    is =
        one.is ∙ ap (λ l. l ++ language.spelled y) h.is
        ∙ append_assoc old (spelled_all language.spelled ys) (language.spelled y)
        ∙ ap (λ l. old ++ l) (sym (spelled_more ys y));
  }

  module _ (unique : IsUnique language) where
    stuck : (ys zs : List Y) (rest after : List ℕ) → AllByRecursion language.Has ys → AllByRecursion language.Has zs
        → length ys < length zs
        → spelled_all language.spelled ys ++ rest ≡ spelled_all language.spelled zs ++ after → Lacks language rest → ⊥
    stuck [] [] rest after h k less e lacks = omega (arith, less)
    stuck [] (z ∷ zs) rest after h k less e lacks =
        lacks z (spelled_all language.spelled zs ++ after)
        (record { has = k.0; is = e ∙ append_assoc (language.spelled z) (spelled_all language.spelled zs) after })
    stuck (y ∷ ys) [] rest after h k less e lacks = omega (arith, less)
    stuck (y ∷ ys) (z ∷ zs) rest after h k less e lacks =
        let first =
        unique y z (spelled_all language.spelled ys ++ rest) (spelled_all language.spelled zs ++ after) h.0 k.0
        (sym (append_assoc (language.spelled y) (spelled_all language.spelled ys) rest) ∙ e
        ∙ append_assoc (language.spelled z) (spelled_all language.spelled zs) after) in
        stuck ys zs rest after h.1 k.1 (omega (arith, less)) first.1 lacks

    -- where one is missing among so many, they all are
    pub all_lacked : (flat : List ℕ) (ys : List Y) (rest : List ℕ) (count so_far : ℕ)
        → Stands (all_of language so_far) flat ys rest → so_far < count
        → Lacks language rest → Lacks (all_of language count) flat
    all_lacked flat ys rest count so_far h less lacks zs after k =
        stuck ys zs rest after h.has.1 k.has.1 (omega (arith, less, h.has.0, k.has.0)) (sym h.is ∙ k.is) lacks

    -- so many are the same as others, and so is what follows
    pub all_unique : (ys zs : List Y) (r s : List ℕ) → AllByRecursion language.Has ys → AllByRecursion language.Has zs
        → length ys ≡ length zs → spelled_all language.spelled ys ++ r ≡ spelled_all language.spelled zs ++ s
        → (ys ≡ zs) × (r ≡ s)
    all_unique [] [] r s h k long e = (refl, e)
    all_unique [] (z ∷ zs) r s h k long e = absurd (omega (arith, long))
    all_unique (y ∷ ys) [] r s h k long e = absurd (omega (arith, long))
    all_unique (y ∷ ys) (z ∷ zs) r s h k long e =
        let first = unique y z (spelled_all language.spelled ys ++ r) (spelled_all language.spelled zs ++ s) h.0 k.0
        (sym (append_assoc (language.spelled y) (spelled_all language.spelled ys) r) ∙ e
        ∙ append_assoc (language.spelled z) (spelled_all language.spelled zs) s) in
        let later = all_unique ys zs r s h.1 k.1 (omega (arith, long)) first.1 in
        (λ i. first.0 i ∷ later.0 i, later.1)

-- parts and pairs as lists, and back
pub parts_again : (ds : List Datum) → parts_of (data_of ds) ≡ ds
parts_again [] = refl
parts_again (d ∷ ds) = ap (λ l. d ∷ l) (parts_again ds)

pub pairs_again : (ps : List (Datum × Datum)) → pairs_of (entries_of ps) ≡ ps
pairs_again [] = refl
pairs_again (p ∷ ps) = ap (λ l. p ∷ l) (pairs_again ps)

pub data_again : (ds : Data) → data_of (parts_of ds) ≡ ds
data_again no_data = refl
data_again (datum d ds) = ap (datum d) (data_again ds)

pub entries_again : (es : Entries) → entries_of (pairs_of es) ≡ es
entries_again no_entries = refl
entries_again (entry k v es) = ap (entry k v) (entries_again es)

-- the spellings of parts and pairs are those of the lists
pub parts_spelled : (ds : List Datum) → spelled_all spelling ds ≡ spelled_parts (data_of ds)
parts_spelled [] = refl
parts_spelled (d ∷ ds) = ap (λ l. spelling d ++ l) (parts_spelled ds)

pub pairs_spelled : (ps : List (Datum × Datum)) → spelled_all pair.spelled ps ≡ spelled_pairs (entries_of ps)
pairs_spelled [] = refl
pairs_spelled (p ∷ ps) =
    append_assoc (spelling p.0) (spelling p.1) (spelled_all pair.spelled ps)
    ∙ ap (λ l. spelling p.0 ++ (spelling p.1 ++ l)) (pairs_spelled ps)

pub parts_have : (ds : List Datum) → AllByRecursion HasSpelling ds → HaveSpellings (data_of ds)
parts_have [] all = tt
parts_have (d ∷ ds) all = (all.0, parts_have ds all.1)

pub have_parts : (ds : List Datum) → HaveSpellings (data_of ds) → AllByRecursion HasSpelling ds
have_parts [] all = tt
have_parts (d ∷ ds) all = (all.0, have_parts ds all.1)

pub pairs_have : (ps : List (Datum × Datum)) → AllByRecursion pair.Has ps → PairsHaveSpellings (entries_of ps)
pairs_have [] all = tt
pairs_have (p ∷ ps) all = (all.0.0, all.0.1, pairs_have ps all.1)

pub have_pairs : (ps : List (Datum × Datum)) → PairsHaveSpellings (entries_of ps) → AllByRecursion pair.Has ps
have_pairs [] all = tt
have_pairs (p ∷ ps) all = ((all.0, all.1), have_pairs ps all.2)
