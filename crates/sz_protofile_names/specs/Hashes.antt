-- Hashes of names, by which nearly all names that a file doesn't have are passed over before they are written out.
use Rattle.std.specs.Prelude.{◌≡◌, ℕ, ◌+◌, ◌*◌, ◌%◌, ◌^◌, List, [], ◌∷◌, ◌++◌, true, Bool, nat_eq, if◌then◌else◌}
use Rattle.std.specs.List.{list_any, fold}
use Rattle.sz_protofile.specs.Names.{has_name}

-- the hash with a byte more
abbrev pub hash_with : ℕ → ℕ → ℕ
hash_with hash byte = (hash * 11400714819323198485 % 2 ^ 64 + byte) % 2 ^ 64

-- the hash of a text behind one that has this hash
abbrev pub hash_on : ℕ → List ℕ → ℕ
hash_on hash text = fold hash_with hash text

abbrev pub hash_of : List ℕ → ℕ
hash_of text = hash_on 0 text

abbrev pub has_hash : ℕ → List ℕ → Bool
has_hash hash hashes = list_any (nat_eq hash) hashes

-- one more hash, if it isn't among them
abbrev pub with_hash : List ℕ → ℕ → List ℕ
with_hash hashes hash = if has_hash hash hashes then hashes else hashes ++ hash ∷ []

-- the hashes, and those of the names
unfoldable pub with_hashes : List ℕ → List (List ℕ) → List ℕ
with_hashes hashes [] = hashes
with_hashes hashes (name ∷ more) = with_hashes (with_hash hashes (hash_of name)) more

-- the hash of each of the names is among these
abbrev pub AreHashed : List (List ℕ) → List ℕ → Type 0
AreHashed names hashes = (name : List ℕ) → has_name name names ≡ true → has_hash (hash_of name) hashes ≡ true
