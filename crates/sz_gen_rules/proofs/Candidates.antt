-- The candidates that a base of a type has.
use Rattle.std.proofs.Common.{◌≡◌, ℕ, zero, suc, List, [], ◌∷◌, length, Bool, true, false, Some, None, IfSome, pos, ◌&&◌, refl, subst}
use Rattle.std.specs.Prelude.{chars}
use Rattle.std.specs.Map.{keys_of}
use Rattle.sz_types.specs.Data.{Shape}
use Rattle.sz_value.specs.Data.{Datum, int, str, bytes, array, mapping, parts_of, pairs_of, Entries, no_entries, entry}
use Rattle.sz_types.specs.Types.{has_type, pairs_have}
use Rattle.sz_builtin.proofs.TypeLemmas.{both}
use Rattle.sz_core.specs.Sound.{candidate_type}
use Rattle.sz_world_rules.specs.Slots.{Slot}
use Rattle.sz_world_rules.specs.Typed.{Fits}
use Rattle.sz_world_rules.specs.Candidates.{numbers_from, candidates}
use Rattle.sz_instr.specs.Covering.{is_base}

-- each value has the type
abbrev pub AreOf : Shape → List Datum → Type 0
AreOf t [] = Unit {0}
AreOf t (d ∷ ds) = (has_type d t ≡ true) × AreOf t ds

numbers_are : (first n : ℕ) (t : Shape) → Some Shape.int ≡ Some t → AreOf t (numbers_from first n)
numbers_are first zero t e = tt
numbers_are first (suc n) t e =
    let same : Shape.int ≡ t = cc in
    (subst (λ u. has_type (int (pos first)) u ≡ true) same refl, numbers_are (suc first) n t e)

keys_are : (es : Entries) (k v t : Shape) → pairs_have es k v ≡ true → Some k ≡ Some t → AreOf t (keys_of (pairs_of es))
keys_are no_entries k v t h e = tt
keys_are (entry l w es) k v t h e =
    let same : k ≡ t = cc in
    let p = both (has_type l k && has_type w v) (pairs_have es k v) h in
    (subst (λ u. has_type l u ≡ true) same (both (has_type l k) (has_type w v) p.0).0, keys_are es k v t p.1 e)

-- the candidates have the type that those of the base's type have
pub candidates_are : (slice : Bool) (t u : Shape) (v : Slot) → Fits v t → candidate_type slice t ≡ Some u
    → AreOf u (candidates slice v)
candidates_are true (Shape.array t) u (Some (array ds)) h e = numbers_are 0 (suc (length (parts_of ds))) u e
candidates_are true Shape.str u (Some (str s)) h e = numbers_are 0 (suc (length (chars s))) u e
candidates_are true Shape.bytes u (Some (bytes s)) h e = numbers_are 0 (suc (length s)) u e
candidates_are false (Shape.array t) u (Some (array ds)) h e = numbers_are 0 (length (parts_of ds)) u e
candidates_are false Shape.str u (Some (str s)) h e = numbers_are 0 (length (chars s)) u e
candidates_are false Shape.bytes u (Some (bytes s)) h e = numbers_are 0 (length s) u e
candidates_are false (Shape.mapping k w) u (Some (mapping es)) h e = keys_are es k w u h e
candidates_are slice t u None h e = tt
candidates_are slice t u (Some d) h e = absurd cc

-- the row of entering covers the base
pub base_covered : (slice : Bool) (t u : Shape) (v : Slot) → Fits v t → candidate_type slice t ≡ Some u
    → IfSome v (λ d. is_base slice d ≡ true)
base_covered true (Shape.array t) u (Some (array ds)) h e = refl
base_covered true Shape.str u (Some (str s)) h e = refl
base_covered true Shape.bytes u (Some (bytes s)) h e = refl
base_covered false (Shape.array t) u (Some (array ds)) h e = refl
base_covered false Shape.str u (Some (str s)) h e = refl
base_covered false Shape.bytes u (Some (bytes s)) h e = refl
base_covered false (Shape.mapping k w) u (Some (mapping es)) h e = refl
base_covered slice t u None h e = tt
base_covered slice t u (Some d) h e = absurd cc
