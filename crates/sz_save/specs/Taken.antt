-- The first index list of both sides, taken.
use Rattle.std.specs.Prelude.{◌≡◌, Some, List, [], ◌∷◌}
use Rattle.std.specs.declared.cmp.Ordering.TheVariants.{Less, Equal, Greater}
use Rattle.sz_total.specs.Tables.{Indexed}
use Rattle.sz_save.specs.declared.entries.First.{First}
use Rattle.sz_save.specs.declared.entries.First.TheVariants.{Neither, One, Other, Both}
use Rattle.sz_save.specs.Walk.{compare_firsts}

-- it stood in front of the index lists of the one side, of the other, or of both, and these are left behind it
abbrev pub Takes : First → List Indexed → List Indexed → List Indexed → List Indexed → Type 0
Takes Neither entries others after left = (entries ≡ []) × (others ≡ [])
Takes (One entry) entries others after left =
    (entries ≡ entry ∷ after) × (left ≡ others) × (compare_firsts entries others ≡ Some Less)
Takes (Other other) entries others after left =
    (others ≡ other ∷ left) × (after ≡ entries) × (compare_firsts entries others ≡ Some Greater)
Takes (Both entry other) entries others after left =
    (entries ≡ entry ∷ after) × (others ≡ other ∷ left) × (compare_firsts entries others ≡ Some Equal)
