-- Laws of the types of values.
use Rattle.std.specs.Prelude.{◌≡◌, ℕ, ℤ, Bool, true, List}
use Rattle.sz_types.specs.Data.{Shape}
use Rattle.sz_value.specs.Data.{truth, int, time, str, bytes, array, mapping, Data, Entries}
use Rattle.sz_types.specs.Types.{has_type, all_have, pairs_have}

-- a value without parts has the one type of its kind
pub record HaveOneType : Type 0 where
  pub of_truth : (b : Bool) (s : Shape) → has_type (truth b) s ≡ true → Shape.truth ≡ s
  pub of_int : (n : ℤ) (s : Shape) → has_type (int n) s ≡ true → Shape.int ≡ s
  pub of_time : (n : ℤ) (s : Shape) → has_type (time n) s ≡ true → Shape.time ≡ s
  pub of_str : (cs : List ℕ) (s : Shape) → has_type (str cs) s ≡ true → Shape.str ≡ s
  pub of_bytes : (cs : List ℕ) (s : Shape) → has_type (bytes cs) s ≡ true → Shape.bytes ≡ s

-- an array has array types alone, each of which all its elements have the type of, and a map the same of its keys and
-- values
pub record HaveTypesOfParts : Type 0 where
  pub of_array : (ds : Data) (s : Shape) → has_type (array ds) s ≡ true
      → (e : Shape) × (Shape.array e ≡ s) × (all_have ds e ≡ true)
  pub of_mapping : (es : Entries) (s : Shape) → has_type (mapping es) s ≡ true
      → (k : Shape) × (v : Shape) × (Shape.mapping k v ≡ s) × (pairs_have es k v ≡ true)
