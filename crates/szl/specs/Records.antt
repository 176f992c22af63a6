-- The records of an input.
use Rattle.std.specs.Prelude.{ℕ, List}
use Rattle.sz_types.specs.declared.frame.Frame.{Frame}
use Rattle.sz_records.specs.declared.ending.Ending.{Ending}
use Rattle.sz_records.specs.Cutting.{full, IsCut}

-- the records of an input, and how they end
pub record Cut : Type 0 where
  pub records : List (List ℕ)
  pub ending : Ending

-- the input is cut so, which is the one way in which it can be
abbrev pub IsCutInto : Frame → List ℕ → Cut → Type 0
IsCutInto frame input cut = IsCut frame full 0 0 input cut.records cut.ending
