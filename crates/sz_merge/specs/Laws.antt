-- The laws of what states are together.
use Rattle.std.specs.Prelude.{◌≡◌, List}
use Rattle.std.specs.List.Sorted.{IsPermutation}
use Rattle.sz_save_format.specs.Saved.{SavedState}
use Rattle.sz_merge.specs.Together.{AreTogether}

-- the same states, in whatever order, are together one state
abbrev pub IsOneTogether : Type 0
IsOneTogether =
    (states others : List SavedState) (all every : SavedState) → IsPermutation states others → AreTogether states all
    → AreTogether others every → all ≡ every
