-- What each kind of value has in front, and that nothing else begins with its byte.
use Rattle.std.proofs.Common.{◌≡◌, ◌∙◌, ℕ, ◌<◌, ◌≤◌, true, false, List, [], ◌∷◌, ◌++◌, length, sym, ap, subst, append_assoc, arith}
use Rattle.std.specs.Prelude.{IsUtf8}
use Rattle.std.proofs.lemmas.List.{append-nil}
use Rattle.sz_value.specs.Data.{Datum, truth, int, time, str, bytes, array, tuple, mapping, Data, data_of, parts_of, Entries, entries_of, pairs_of}
use Rattle.sz_value.specs.Order.{KeysRise}
use Rattle.sz_flat.specs.declared.error.FlatError.{FlatError}
use Rattle.sz_flat.specs.declared.error.FlatError.TheVariants.{NotFlat, NoMemory}
use Rattle.sz_flat.specs.Spelling.{length_bytes, spelling, spelled_parts, spelled_pairs, IsShort, HaveSpellings, PairsHaveSpellings, Spells}
use Rattle.sz_flat.specs.Reading.{Language, values, pair, lengths, numbers, strings, all_of, Stands, Lacks, Stops}
use Rattle.sz_flat.proofs.SpellingLemmas.{one_spelling, same_length, same_string}
use Rattle.sz_flat.proofs.FrontLemmas.{pair_unique, all_unique, parts_again, pairs_again, data_again, entries_again, parts_spelled, pairs_spelled, parts_have, have_parts, pairs_have, have_pairs}

abbrev pub tail : List ℕ → List ℕ
tail [] = []
tail (b ∷ bs) = bs

abbrev pub head : List ℕ → ℕ
head [] = 0
head (b ∷ bs) = b

-- a stop at one kind of thing is a stop at another, where the lack of the one is the lack of the other
pub stops_too : {X Y : Type 0} (one : Language X) (other : Language Y) (rest flat : List ℕ) (e : FlatError)
    → (Lacks one rest → Lacks other flat) → Stops one rest e → Stops other flat e
stops_too one other rest flat NotFlat follows stop = follows stop
stops_too one other rest flat NoMemory follows stop = tt

-- a byte that begins no value
pub no_bytes : (flat : List ℕ) → length flat < 1 → Lacks values flat
no_bytes flat none (truth b) rest h = let e = ap length h.is in omega (arith, e, none)
no_bytes flat none d rest h = let e = ap length h.is in omega (arith, e, none)

pub other_kind : (kind : ℕ) (flat : List ℕ) → (1 ≤ kind → kind ≤ 8 → ⊥) → Lacks values (kind ∷ flat)
other_kind kind flat other (truth b) rest h = let e = ap head h.is in other (omega (arith, e)) (omega (arith, e))
other_kind kind flat other d rest h = let e = ap head h.is in other (omega (arith, e)) (omega (arith, e))

pub no_truth : (flat : List ℕ) → length flat ≡ 0 → Lacks values (1 ∷ flat)
no_truth flat none (truth b) rest h = let e = ap length h.is in omega (arith, e, none)
no_truth flat none d rest h = absurd (let e = ap head h.is in omega (arith, e))

pub other_truth : (byte : ℕ) (flat : List ℕ) → 1 < byte → Lacks values (1 ∷ byte ∷ flat)
other_truth byte flat high (truth false) rest h = let e = ap (λ l. head (tail l)) h.is in omega (arith, e, high)
other_truth byte flat high (truth true) rest h = let e = ap (λ l. head (tail l)) h.is in omega (arith, e, high)
other_truth byte flat high d rest h = absurd (let e = ap head h.is in omega (arith, e))

pub no_int : (flat : List ℕ) → Lacks numbers flat → Lacks values (2 ∷ flat)
no_int flat lacks (int n) rest h = lacks n rest (record { has = h.has; is = ap tail h.is })
no_int flat lacks d rest h = absurd (let e = ap head h.is in omega (arith, e))

pub no_time : (flat : List ℕ) → Lacks numbers flat → Lacks values (3 ∷ flat)
no_time flat lacks (time n) rest h = lacks n rest (record { has = h.has; is = ap tail h.is })
no_time flat lacks d rest h = absurd (let e = ap head h.is in omega (arith, e))

pub no_text : (flat : List ℕ) → Lacks strings flat → Lacks values (4 ∷ flat)
no_text flat lacks (str s) rest h = lacks s rest (record { has = h.has.0; is = ap tail h.is })
no_text flat lacks d rest h = absurd (let e = ap head h.is in omega (arith, e))

pub not_utf8 : (flat s rest : List ℕ) → Stands strings flat s rest → ¬ (IsUtf8 s) → Lacks values (4 ∷ flat)
not_utf8 flat s rest k bad (str t) after h =
    let same = same_string s t rest after k.has h.has.0 (sym k.is ∙ ap tail h.is) in
    bad (subst IsUtf8 (sym same.0) h.has.1)
not_utf8 flat s rest k bad d after h = absurd (let e = ap head h.is in omega (arith, e))

pub no_octets : (flat : List ℕ) → Lacks strings flat → Lacks values (5 ∷ flat)
no_octets flat lacks (bytes s) rest h = lacks s rest (record { has = h.has; is = ap tail h.is })
no_octets flat lacks d rest h = absurd (let e = ap head h.is in omega (arith, e))

-- after the byte of a list stands its length, and after that so many parts
module _ (flat : List ℕ) (ds : Data) (rest : List ℕ) (few : IsShort (length (parts_of ds))) (has : HaveSpellings ds)
    (is : flat ≡ (length_bytes (length (parts_of ds)) ++ spelled_parts ds) ++ rest) where
  list_counted : Stands lengths flat (length (parts_of ds)) (spelled_parts ds ++ rest)
  list_counted = record {
    has = few;
    is = is ∙ append_assoc (length_bytes (length (parts_of ds))) (spelled_parts ds) rest;
  }

  list_stands : (count : ℕ) (more : List ℕ) → Stands lengths flat count more
      → Stands (all_of values count) more (parts_of ds) rest
  list_stands count more h =
      let same = same_length count (length (parts_of ds)) more (spelled_parts ds ++ rest) h.has few
      (sym h.is ∙ list_counted.is) in
      record {
        has = (sym same.0, have_parts (parts_of ds) (subst HaveSpellings (sym (data_again ds)) has));
        is = same.1 ∙ ap (λ l. l ++ rest) (sym (parts_spelled (parts_of ds) ∙ ap spelled_parts (data_again ds)));
      }

pub no_count_of_array : (flat : List ℕ) → Lacks lengths flat → Lacks values (6 ∷ flat)
no_count_of_array flat lacks (array ds) rest h = lacks _ _ (list_counted flat ds rest h.has.0 h.has.1 (ap tail h.is))
no_count_of_array flat lacks d rest h = absurd (let e = ap head h.is in omega (arith, e))

pub no_array : (flat : List ℕ) (count : ℕ) (more : List ℕ) → Stands lengths flat count more
    → Lacks (all_of values count) more → Lacks values (6 ∷ flat)
no_array flat count more k lacks (array ds) rest h =
    lacks (parts_of ds) rest (list_stands flat ds rest h.has.0 h.has.1 (ap tail h.is) count more k)
no_array flat count more k lacks d rest h = absurd (let e = ap head h.is in omega (arith, e))

pub no_count_of_tuple : (flat : List ℕ) → Lacks lengths flat → Lacks values (7 ∷ flat)
no_count_of_tuple flat lacks (tuple ds) rest h = lacks _ _ (list_counted flat ds rest h.has.0 h.has.1 (ap tail h.is))
no_count_of_tuple flat lacks d rest h = absurd (let e = ap head h.is in omega (arith, e))

pub no_tuple : (flat : List ℕ) (count : ℕ) (more : List ℕ) → Stands lengths flat count more
    → Lacks (all_of values count) more → Lacks values (7 ∷ flat)
no_tuple flat count more k lacks (tuple ds) rest h =
    lacks (parts_of ds) rest (list_stands flat ds rest h.has.0 h.has.1 (ap tail h.is) count more k)
no_tuple flat count more k lacks d rest h = absurd (let e = ap head h.is in omega (arith, e))

-- a list that was read
module _ (flat : List ℕ) (count : ℕ) (more : List ℕ) (ds : List Datum) (rest : List ℕ)
    (k : Stands lengths flat count more) (h : Stands (all_of values count) more ds rest) where
  read_few : IsShort (length (parts_of (data_of ds)))
  read_few = subst IsShort (sym (ap length (parts_again ds) ∙ h.has.0)) k.has

  read_is : flat ≡ (length_bytes (length (parts_of (data_of ds))) ++ spelled_parts (data_of ds)) ++ rest
  read_is =
      k.is ∙ (λ i. length_bytes (sym (ap length (parts_again ds) ∙ h.has.0) i) ++ h.is i)
      ∙ ap (λ l. length_bytes (length (parts_of (data_of ds))) ++ (l ++ rest)) (parts_spelled ds)
      ∙ sym (append_assoc (length_bytes (length (parts_of (data_of ds)))) (spelled_parts (data_of ds)) rest)

  pub array_stands : Stands values (6 ∷ flat) (array (data_of ds)) rest
  array_stands = record { has = (read_few, parts_have ds h.has.1); is = ap (λ l. 6 ∷ l) read_is }

  pub tuple_stands : Stands values (7 ∷ flat) (tuple (data_of ds)) rest
  tuple_stands = record { has = (read_few, parts_have ds h.has.1); is = ap (λ l. 7 ∷ l) read_is }

-- maps in the same way
module _ (flat : List ℕ) (es : Entries) (rest : List ℕ) (few : IsShort (length (pairs_of es)))
    (has : PairsHaveSpellings es)
    (is : flat ≡ (length_bytes (length (pairs_of es)) ++ spelled_pairs es) ++ rest) where
  map_counted : Stands lengths flat (length (pairs_of es)) (spelled_pairs es ++ rest)
  map_counted = record {
    has = few;
    is = is ∙ append_assoc (length_bytes (length (pairs_of es))) (spelled_pairs es) rest;
  }

  map_stands : (count : ℕ) (more : List ℕ) → Stands lengths flat count more
      → Stands (all_of pair count) more (pairs_of es) rest
  map_stands count more h =
      let same = same_length count (length (pairs_of es)) more (spelled_pairs es ++ rest) h.has few
      (sym h.is ∙ map_counted.is) in
      record {
        has = (sym same.0, have_pairs (pairs_of es) (subst PairsHaveSpellings (sym (entries_again es)) has));
        is = same.1 ∙ ap (λ l. l ++ rest) (sym (pairs_spelled (pairs_of es) ∙ ap spelled_pairs (entries_again es)));
      }

pub no_count_of_map : (flat : List ℕ) → Lacks lengths flat → Lacks values (8 ∷ flat)
no_count_of_map flat lacks (mapping es) rest h = lacks _ _ (map_counted flat es rest h.has.0 h.has.2 (ap tail h.is))
no_count_of_map flat lacks d rest h = absurd (let e = ap head h.is in omega (arith, e))

pub no_map : (flat : List ℕ) (count : ℕ) (more : List ℕ) → Stands lengths flat count more
    → Lacks (all_of pair count) more → Lacks values (8 ∷ flat)
no_map flat count more k lacks (mapping es) rest h =
    lacks (pairs_of es) rest (map_stands flat es rest h.has.0 h.has.2 (ap tail h.is) count more k)
no_map flat count more k lacks d rest h = absurd (let e = ap head h.is in omega (arith, e))

module _ (flat : List ℕ) (count : ℕ) (more : List ℕ) (ps : List (Datum × Datum)) (rest : List ℕ)
    (k : Stands lengths flat count more) (h : Stands (all_of pair count) more ps rest) where
  -- keys that don't rise are those of no map
  pub keys_fall : (KeysRise ps → ⊥) → Lacks values (8 ∷ flat)
  keys_fall falls (mapping es) after g =
      let there = map_stands flat es after g.has.0 g.has.2 (ap tail g.is) count more k in
      let same = all_unique pair pair_unique ps
      (pairs_of es) rest after h.has.1 there.has.1 (h.has.0 ∙ sym there.has.0) (sym h.is ∙ there.is) in
      falls (subst KeysRise (sym same.0) g.has.1)
  keys_fall falls d after g = absurd (let e = ap head g.is in omega (arith, e))

  pub map_read : KeysRise ps → Stands values (8 ∷ flat) (mapping (entries_of ps)) rest
  map_read rise =
      let long : length ps ≡ length (pairs_of (entries_of ps)) = sym (ap length (pairs_again ps)) in
      record {
        has = (
          subst IsShort (sym h.has.0 ∙ long) k.has,
          subst KeysRise (sym (pairs_again ps)) rise,
          pairs_have ps h.has.1,
        );
        is = ap (λ l. 8 ∷ l)
            (k.is ∙ (λ i. length_bytes ((sym h.has.0 ∙ long) i) ++ h.is i)
            ∙ ap (λ l. length_bytes (length (pairs_of (entries_of ps))) ++ (l ++ rest)) (pairs_spelled ps)
            ∙ sym
            (append_assoc (length_bytes (length (pairs_of (entries_of ps)))) (spelled_pairs (entries_of ps)) rest));
      }

-- a value after a key
pub no_value : (flat : List ℕ) (k : Datum) (more : List ℕ) → Stands values flat k more → Lacks values more
    → Lacks pair flat
no_value flat k more h lacks p rest g =
    let same = one_spelling k p.0 more
    (spelling p.1 ++ rest) h.has g.has.0 (sym h.is ∙ g.is ∙ append_assoc (spelling p.0) (spelling p.1) rest) in
    lacks p.1 rest (record { has = g.has.1; is = same.1 })

-- all of the bytes
pub nothing_spelled : (flat : List ℕ) (e : FlatError) → Stops values flat e → e ≡ NotFlat → (d : Datum)
    → Spells flat d → ⊥
nothing_spelled flat NotFlat stop is d h =
    stop d [] (record { has = h.spelled; is = h.is ∙ sym (append-nil (spelling d)) })
nothing_spelled flat NoMemory stop is d h = absurd (cc)

pub more_than_spelled : (flat : List ℕ) (d : Datum) (rest : List ℕ) → Stands values flat d rest → (rest ≡ [] → ⊥)
    → (e : Datum) → Spells flat e → ⊥
more_than_spelled flat d rest h more e g =
    more (one_spelling d e rest [] h.has g.spelled (sym h.is ∙ g.is ∙ sym (append-nil (spelling e)))).1
