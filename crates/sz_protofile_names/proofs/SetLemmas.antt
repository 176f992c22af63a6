-- Laws of the keys of sets.
use Rattle.std.proofs.Common.{◌≡◌, ℕ, Bool, true, false, ◌||◌, ◌&&◌, List, [], ◌∷◌, ◌++◌, map, bytes_eq, nat_eq, refl, ap, ◌∙◌, if◌then◌else◌}
use Rattle.std.specs.List.{list_any}
use Rattle.std.proofs.lemmas.List.{map-append}
use Rattle.sz_protofile.specs.Names.{has_name}
use Rattle.sz_protofile.specs.Lookup.{with_name}
use Rattle.sz_protofile.specs.Faults.{has_field, has_number, named, numbered}

-- a name is among the keys where it is among their bytes
pub any_name : {K : Type 0} (bytes : K → List ℕ) (name : List ℕ) (keys : List K)
    → list_any (λ k. bytes_eq name (bytes k)) keys ≡ has_name name (map bytes keys)
any_name bytes name [] = refl
any_name bytes name (k ∷ keys) = ap (λ b. bytes_eq name (bytes k) || b) (any_name bytes name keys)

-- the names after a key is taken
pub keys_with : {K : Type 0} (bytes : K → List ℕ) (keys more : List K) (key : K)
    → more ≡ (if list_any (λ k. bytes_eq (bytes key) (bytes k)) keys then keys else keys ++ key ∷ [])
    → map bytes more ≡ with_name (map bytes keys) (bytes key)
keys_with bytes keys more key e =
    ap (map bytes) e ∙ by (list_any (λ k. bytes_eq (bytes key) (bytes k)) keys)
    ∙ ap (λ b. if b then map bytes keys else map bytes keys ++ bytes key ∷ []) (any_name bytes (bytes key) keys)
  where
    by : (b : Bool) → map bytes (if b then keys else keys ++ key ∷ [])
        ≡ (if b then map bytes keys else map bytes keys ++ bytes key ∷ [])
    by true = refl
    by false = map-append bytes keys (key ∷ [])

pub any_field : {K : Type 0} (own of : K → List ℕ) (owner name : List ℕ) (keys : List K)
    → list_any (λ k. bytes_eq owner (own k) && bytes_eq name (of k)) keys
    ≡ has_field owner name (map (λ k. named (own k) (of k)) keys)
any_field own of owner name [] = refl
any_field own of owner name (k ∷ keys) =
    ap (λ b. (bytes_eq owner (own k) && bytes_eq name (of k)) || b) (any_field own of owner name keys)

pub any_number : {K : Type 0} (own : K → List ℕ) (of : K → ℕ) (owner : List ℕ) (number : ℕ) (keys : List K)
    → list_any (λ k. bytes_eq owner (own k) && nat_eq number (of k)) keys
    ≡ has_number owner number (map (λ k. numbered (own k) (of k)) keys)
any_number own of owner number [] = refl
any_number own of owner number (k ∷ keys) =
    ap (λ b. (bytes_eq owner (own k) && nat_eq number (of k)) || b) (any_number own of owner number keys)
