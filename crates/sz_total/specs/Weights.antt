-- Which tables need weights.
use Rattle.std.specs.Prelude.{◌≡◌, Bool, true, false, is_some, List, All}
use Rattle.sz_types.specs.Tables.{Declaration}
use Rattle.sz_types.specs.declared.table.TableKind.{TableKind}
use Rattle.sz_types.specs.declared.table.TableKind.TheVariants.{Maximum, Minimum}

-- whether tables of this kind rank their values by weight
abbrev pub ranks : TableKind → Bool
ranks Maximum = true
ranks Minimum = true
ranks _ = false

-- the table has weights if it ranks its values by them
abbrev pub HasItsWeights : Declaration → Type 0
HasItsWeights table = ranks table.kind ≡ true → is_some table.weight ≡ true

-- each of the tables has weights if it ranks its values by them
abbrev pub HaveTheirWeights : List Declaration → Type 0
HaveTheirWeights = All HasItsWeights
