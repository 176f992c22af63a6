-- Which emits have short lengths, so that their parts can be spelled.
use Rattle.std.specs.Prelude.{List, All}
use Rattle.sz_value.specs.Data.{data_of}
use Rattle.sz_flat.specs.Spelling.{HasShortLengths, HaveShortLengths}
use Rattle.sz_tabs.specs.Data.{EmitDatum, Weighted}

-- each length in the emit's parts is short
pub record HasShortParts (emit : EmitDatum) : Type 0 where
  pub indexes : HaveShortLengths (data_of emit.indexes)
  pub value : HasShortLengths emit.value

-- each length in what they bring is short
abbrev pub AreShort : List Weighted → Type 0
AreShort brought = All (λ (w : Weighted). HasShortLengths w.value) brought
