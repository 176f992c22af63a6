-- What it tells of a type that a value has it.
use Rattle.std.proofs.Common.{◌≡◌, ℕ, ℤ, Bool, true, List, refl}
use Rattle.sz_types.specs.Data.{Shape}
use Rattle.sz_value.specs.Data.{truth, int, time, str, bytes, array, mapping, Data, Entries}
use Rattle.sz_types.specs.Types.{has_type, all_have, pairs_have}
use Rattle.sz_types.specs.Laws.{HaveOneType, HaveTypesOfParts}

-- the types of a basic value
pub of_int : (n : ℤ) (s : Shape) → has_type (int n) s ≡ true → Shape.int ≡ s
of_int n Shape.int h = refl
of_int n s h = absurd cc

pub of_time : (n : ℤ) (s : Shape) → has_type (time n) s ≡ true → Shape.time ≡ s
of_time n Shape.time h = refl
of_time n s h = absurd cc

pub of_str : (cs : List ℕ) (s : Shape) → has_type (str cs) s ≡ true → Shape.str ≡ s
of_str cs Shape.str h = refl
of_str cs s h = absurd cc

pub of_bytes : (cs : List ℕ) (s : Shape) → has_type (bytes cs) s ≡ true → Shape.bytes ≡ s
of_bytes cs Shape.bytes h = refl
of_bytes cs s h = absurd cc

pub of_truth : (b : Bool) (s : Shape) → has_type (truth b) s ≡ true → Shape.truth ≡ s
of_truth b Shape.truth h = refl
of_truth b s h = absurd cc

pub of_array : (ds : Data) (s : Shape) → has_type (array ds) s ≡ true
    → (e : Shape) × (Shape.array e ≡ s) × (all_have ds e ≡ true)
of_array ds (Shape.array e) h = (e, refl, h)
of_array ds s h = absurd cc

pub of_mapping : (es : Entries) (s : Shape) → has_type (mapping es) s ≡ true
    → (k : Shape) × (v : Shape) × (Shape.mapping k v ≡ s) × (pairs_have es k v ≡ true)
of_mapping es (Shape.mapping k v) h = (k, v, refl, h)
of_mapping es s h = absurd cc

pub simple_values_have_one_type : HaveOneType
simple_values_have_one_type = record {
  of_truth = of_truth;
  of_int = of_int;
  of_time = of_time;
  of_str = of_str;
  of_bytes = of_bytes;
}

pub compounds_have_the_types_of_their_parts : HaveTypesOfParts
compounds_have_the_types_of_their_parts = record { of_array = of_array; of_mapping = of_mapping }
