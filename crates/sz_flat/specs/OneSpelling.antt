-- One value is spelled by some bytes, and none of two values is spelled as a front of the other.
use Rattle.std.proofs.Common.{◌≡◌, ◌∙◌, ℕ, ◌^◌, ◌<◌, ℤ, Bool, true, false, cond, List, [], ◌∷◌, ◌++◌, length, refl, sym, ap, append_assoc, arith}
use Rattle.std.specs.Int.{w32, w64, cast_unsigned, from_be_bytes}
use Rattle.std.specs.Int.RustNames.{FitsSigned}
use Rattle.std.proofs.lemmas.Nat.{from_be_bytes-to_be_bytes_4, from_be_bytes-to_be_bytes_8}
use Rattle.std.proofs.lemmas.Int.{to_z-of_z, ints}
use mir.Val.{to_z}
use Rattle.sz_value.specs.Data.{truth, int, time, str, bytes, array, tuple, mapping, Data, no_data, datum, parts_of, Entries, no_entries, entry, pairs_of}
use Rattle.sz_flat.specs.Spelling.{length_bytes, number_bytes, counted_bytes, spelling, spelled_parts, spelled_pairs, IsShort, HaveSpellings, PairsHaveSpellings}
use Rattle.sz_flat.specs.Laws.{IsOneSpelling}

abbrev tail : List ℕ → List ℕ
tail [] = []
tail (b ∷ bs) = bs

abbrev head : List ℕ → ℕ
head [] = 0
head (b ∷ bs) = b

-- fronts of one length are the same, and so is what follows
pub split_same : (a b r s : List ℕ) → length a ≡ length b → a ++ r ≡ b ++ s → (a ≡ b) × (r ≡ s)
split_same [] [] r s long e = (refl, e)
split_same [] (y ∷ b) r s long e = absurd (omega (arith, long))
split_same (x ∷ a) [] r s long e = absurd (omega (arith, long))
split_same (x ∷ a) (y ∷ b) r s long e =
    let rest = split_same a b r s (omega (arith, long)) (ap tail e) in
    (λ i. ap head e i ∷ rest.0 i, rest.1)

-- two spellings in front, grouped to the right
regrouped : (a b r c d s : List ℕ) → (a ++ b) ++ r ≡ (c ++ d) ++ s → a ++ (b ++ r) ≡ c ++ (d ++ s)
regrouped a b r c d s e = sym (append_assoc a b r) ∙ e ∙ append_assoc c d s

pub same_length : (m n : ℕ) (r s : List ℕ) → IsShort m → IsShort n → length_bytes m ++ r ≡ length_bytes n ++ s
    → (m ≡ n) × (r ≡ s)
same_length m n r s h k e =
    let parts = split_same (length_bytes m) (length_bytes n) r s refl e in
    (sym (from_be_bytes-to_be_bytes_4 m h) ∙ ap (from_be_bytes w32) parts.0 ∙ from_be_bytes-to_be_bytes_4 n k, parts.1)

unsigned_fits : (z : ℤ) → FitsSigned w64 z → cast_unsigned w64 z < 2 ^ 64
unsigned_fits z h = omega (arith, ints, h.sfits)

pub same_number : (m n : ℤ) (r s : List ℕ) → FitsSigned w64 m → FitsSigned w64 n
    → number_bytes m ++ r ≡ number_bytes n ++ s → (m ≡ n) × (r ≡ s)
same_number m n r s h k e =
    let parts = split_same (number_bytes m) (number_bytes n) r s refl e in
    let whole : cast_unsigned w64 m ≡ cast_unsigned w64 n =
    sym (from_be_bytes-to_be_bytes_8 (cast_unsigned w64 m) (unsigned_fits m h)) ∙ ap (from_be_bytes w64) parts.0
    ∙ from_be_bytes-to_be_bytes_8 (cast_unsigned w64 n) (unsigned_fits n k) in
    (sym (to_z-of_z w64 m h) ∙ ap (to_z w64) whole ∙ to_z-of_z w64 n k, parts.1)

pub same_string : (a b r s : List ℕ) → IsShort (length a) → IsShort (length b)
    → counted_bytes a ++ r ≡ counted_bytes b ++ s → (a ≡ b) × (r ≡ s)
same_string a b r s h k e =
    let counts = same_length (length a) (length b) (a ++ r) (b ++ s) h k
    (regrouped (length_bytes (length a)) a r (length_bytes (length b)) b s e) in
    split_same a b r s counts.0 counts.1

same_truth : (b c : Bool) (r s : List ℕ) → 1 ∷ cond b 1 0 ∷ r ≡ 1 ∷ cond c 1 0 ∷ s → (truth b ≡ truth c) × (r ≡ s)
same_truth false false r s e = (refl, ap (λ l. tail (tail l)) e)
same_truth false true r s e = absurd (let second = ap (λ l. head (tail l)) e in omega (arith, second))
same_truth true false r s e = absurd (let second = ap (λ l. head (tail l)) e in omega (arith, second))
same_truth true true r s e = (refl, ap (λ l. tail (tail l)) e)

mutual
  pub one_spelling : IsOneSpelling
  one_spelling (truth b) (truth c) r s h k e = same_truth b c r s e
  one_spelling (int m) (int n) r s h k e = let same = same_number m n r s h k (ap tail e) in (ap int same.0, same.1)
  one_spelling (time m) (time n) r s h k e = let same = same_number m n r s h k (ap tail e) in (ap time same.0, same.1)
  one_spelling (str a) (str b) r s h k e = let same = same_string a b r s h.0 k.0 (ap tail e) in (ap str same.0, same.1)
  one_spelling (bytes a) (bytes b) r s h k e = let same = same_string a b r s h k (ap tail e) in
      (ap bytes same.0, same.1)
  one_spelling (array ds) (array es) r s h k e =
      let counts = same_length (length (parts_of ds)) (length (parts_of es)) (spelled_parts ds ++ r)
      (spelled_parts es ++ s) h.0 k.0 (regrouped (length_bytes (length (parts_of ds))) (spelled_parts ds) r
      (length_bytes (length (parts_of es))) (spelled_parts es) s (ap tail e)) in
      let same = same_parts ds es r s h.1 k.1 counts.0 counts.1 in
      (ap array same.0, same.1)
  one_spelling (tuple ds) (tuple es) r s h k e =
      let counts = same_length (length (parts_of ds)) (length (parts_of es)) (spelled_parts ds ++ r)
      (spelled_parts es ++ s) h.0 k.0 (regrouped (length_bytes (length (parts_of ds))) (spelled_parts ds) r
      (length_bytes (length (parts_of es))) (spelled_parts es) s (ap tail e)) in
      let same = same_parts ds es r s h.1 k.1 counts.0 counts.1 in
      (ap tuple same.0, same.1)
  one_spelling (mapping ps) (mapping qs) r s h k e =
      let counts = same_length (length (pairs_of ps)) (length (pairs_of qs)) (spelled_pairs ps ++ r)
      (spelled_pairs qs ++ s) h.0 k.0 (regrouped (length_bytes (length (pairs_of ps))) (spelled_pairs ps) r
      (length_bytes (length (pairs_of qs))) (spelled_pairs qs) s (ap tail e)) in
      let same = same_pairs ps qs r s h.2 k.2 counts.0 counts.1 in
      (ap mapping same.0, same.1)
  one_spelling d e r s h k is = absurd (let kinds = ap head is in omega (arith, kinds))

  pub same_parts : (ds es : Data) (r s : List ℕ) → HaveSpellings ds → HaveSpellings es
      → length (parts_of ds) ≡ length (parts_of es)
      → spelled_parts ds ++ r ≡ spelled_parts es ++ s → (ds ≡ es) × (r ≡ s)
  same_parts no_data no_data r s h k long e = (refl, e)
  same_parts no_data (datum f fs) r s h k long e = absurd (omega (arith, long))
  same_parts (datum d ds) no_data r s h k long e = absurd (omega (arith, long))
  same_parts (datum d ds) (datum f fs) r s h k long e =
      let front = one_spelling d f (spelled_parts ds ++ r) (spelled_parts fs ++ s) h.0 k.0
      (regrouped (spelling d) (spelled_parts ds) r (spelling f) (spelled_parts fs) s e) in
      let later = same_parts ds fs r s h.1 k.1 (omega (arith, long)) front.1 in
      (λ i. datum (front.0 i) (later.0 i), later.1)

  pub same_pairs : (ps qs : Entries) (r s : List ℕ) → PairsHaveSpellings ps → PairsHaveSpellings qs
      → length (pairs_of ps) ≡ length (pairs_of qs)
      → spelled_pairs ps ++ r ≡ spelled_pairs qs ++ s → (ps ≡ qs) × (r ≡ s)
  same_pairs no_entries no_entries r s h k long e = (refl, e)
  same_pairs no_entries (entry l w qs) r s h k long e = absurd (omega (arith, long))
  same_pairs (entry k v ps) no_entries r s h m long e = absurd (omega (arith, long))
  same_pairs (entry k v ps) (entry l w qs) r s h m long e =
      let key = one_spelling k l ((spelling v ++ spelled_pairs ps) ++ r) ((spelling w ++ spelled_pairs qs) ++ s) h.0 m.0
      (regrouped (spelling k) (spelling v ++ spelled_pairs ps) r (spelling l) (spelling w ++ spelled_pairs qs) s e) in
      let value = one_spelling v w (spelled_pairs ps ++ r) (spelled_pairs qs ++ s) h.1 m.1
      (regrouped (spelling v) (spelled_pairs ps) r (spelling w) (spelled_pairs qs) s key.1) in
      let later = same_pairs ps qs r s h.2 m.2 (omega (arith, long)) value.1 in
      (λ i. entry (key.0 i) (value.0 i) (later.0 i), later.1)
