-- How sums are kept.
use Rattle.std.specs.Prelude.{ℤ, List, [], ◌∷◌}
use Rattle.sz_sum.specs.declared.storage.Storage.{Storage}
use Rattle.sz_sum.specs.declared.storage.Storage.TheVariants.{One, Many}

-- the sums, of which a single one is kept in place
abbrev pub sums_of : Storage → List ℤ
sums_of (One sum) = sum ∷ []
sums_of (Many sums) = sums.items
