-- Laws of hashes of names.
use Rattle.std.proofs.Common.{◌≡◌, ℕ, ◌+◌, ◌<◌, ◌≤◌, Bool, true, false, ◌||◌, List, [], ◌∷◌, ◌++◌, drop, length, get_or, map, nat_eq, bytes_eq, refl, sym, ap, subst, ◌∙◌, arith, if◌then◌else◌}
use Rattle.std.proofs.lemmas.Bool.Decides.{nat_tests}
use Rattle.std.proofs.lemmas.List.{drop_all, at_drop_more}
use Rattle.std.proofs.lemmas.List.Folds.{list_any-append}
use Rattle.std.proofs.lemmas.Slice.Eq.{bytes_eq-Decides}
use Rattle.sz_protofile.specs.Names.{has_name}
use Rattle.sz_protofile_names.specs.Hashes.{hash_with, hash_on, hash_of, has_hash, with_hash, with_hashes, AreHashed}

-- ---- a text's hash

pub hash_step : (bytes : List ℕ) (i d : ℕ) → i < length bytes → (hash : ℕ)
    → hash_on hash (drop i bytes) ≡ hash_on (hash_with hash (get_or bytes i d)) (drop (i + 1) bytes)
hash_step bytes i d lt hash = at_drop_more (hash_on hash) bytes i d lt

pub hash_end : (bytes : List ℕ) (i : ℕ) → length bytes ≤ i → (hash : ℕ) → hash_on hash (drop i bytes) ≡ hash
hash_end bytes i le hash = ap (hash_on hash) (drop_all i bytes le)

-- ---- the hashes of names

module _ {K : Type 0} (bytes : K → List ℕ) (names : List K) (i : ℕ) where
  pub hashes_step : (d : K) → i < length names → (hashes : List ℕ)
      → with_hashes hashes (map bytes (drop i names))
      ≡ with_hashes (with_hash hashes (hash_of (bytes (get_or names i d)))) (map bytes (drop (i + 1) names))
  unfolding with_hashes
  hashes_step d lt hashes = at_drop_more (λ (rest : List K). with_hashes hashes (map bytes rest)) names i d lt

  pub hashes_end : length names ≤ i → (hashes : List ℕ) → with_hashes hashes (map bytes (drop i names)) ≡ hashes
  unfolding with_hashes
  hashes_end le hashes = ap (λ (rest : List K). with_hashes hashes (map bytes rest)) (drop_all i names le)

itself : (h : ℕ) → nat_eq h h ≡ true
itself h = grind (arith, nat_tests)

or_true : (b : Bool) → (b || true) ≡ true
or_true true = refl
or_true false = refl

-- a hash that is taken is among them, and so is each that was
taken : (hashes : List ℕ) (h : ℕ) → has_hash h (with_hash hashes h) ≡ true
taken hashes h = by (has_hash h hashes) refl
  where
    by : (b : Bool) → has_hash h hashes ≡ b → has_hash h (if b then hashes else hashes ++ h ∷ []) ≡ true
    by true e = e
    by false e = list_any-append (nat_eq h) hashes (h ∷ [])
        ∙ ap (λ (b : Bool). has_hash h hashes || (b || false)) (itself h) ∙ or_true (has_hash h hashes)

stays : (hashes : List ℕ) (k h : ℕ) → has_hash h hashes ≡ true → has_hash h (with_hash hashes k) ≡ true
stays hashes k h e = by (has_hash k hashes)
  where
    by : (b : Bool) → has_hash h (if b then hashes else hashes ++ k ∷ []) ≡ true
    by true = e
    by false = list_any-append (nat_eq h) hashes (k ∷ []) ∙ ap (λ (b : Bool). b || has_hash h (k ∷ [])) e

all_stay : (names : List (List ℕ)) (hashes : List ℕ) (h : ℕ) → has_hash h hashes ≡ true
    → has_hash h (with_hashes hashes names) ≡ true
unfolding with_hashes
all_stay [] hashes h e = e
all_stay (n ∷ names) hashes h e = all_stay names (with_hash hashes (hash_of n)) h (stays hashes (hash_of n) h e)

all_hashed : (names : List (List ℕ)) (hashes : List ℕ) → AreHashed names (with_hashes hashes names)
unfolding with_hashes
all_hashed [] hashes name e = absurd cc
all_hashed (n ∷ names) hashes name e =
    by (bytes_eq name n) refl e (all_hashed names (with_hash hashes (hash_of n)) name)
  where
    by : (b : Bool) → bytes_eq name n ≡ b → (b || has_name name names) ≡ true
        → (has_name name names ≡ true
        → has_hash (hash_of name) (with_hashes (with_hash hashes (hash_of n)) names) ≡ true)
        → has_hash (hash_of name) (with_hashes (with_hash hashes (hash_of n)) names) ≡ true
    by true s or rest = all_stay names (with_hash hashes (hash_of n)) (hash_of name)
        (ap (λ (m : List ℕ). has_hash (hash_of name) (with_hash hashes (hash_of m)))
        (sym ((bytes_eq-Decides name n).0 s)) ∙ taken hashes (hash_of name))
    by false s or rest = rest or

pub hashed : (names : List (List ℕ)) (hashes : List ℕ) → hashes ≡ with_hashes [] names → AreHashed names hashes
hashed names hashes e = subst (AreHashed names) (sym e) (all_hashed names [])
