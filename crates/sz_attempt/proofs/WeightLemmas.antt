-- Tables of a sound program have their weights.
use Rattle.std.proofs.Common.{◌≡◌, ℕ, List, [], ◌∷◌, ◌++◌, Bool, true, false, ◌&&◌, Option, Some, None, is_some, refl}
use Rattle.std.proofs.lemmas.List.Elements.{All-nil, All-cons, All-push}
use Rattle.sz_types.specs.Data.{Shape}
use Rattle.sz_types.specs.Tables.{Declaration}
use Rattle.sz_types.specs.declared.table.TableKind.{TableKind}
use Rattle.sz_types.specs.declared.table.TableKind.TheVariants.{Sum, Maximum, Minimum, Set, Collection}
use Rattle.sz_core.specs.Programs.{Item, Core, tables_of}
use Rattle.sz_core.specs.Programs as items
use Rattle.sz_core.specs.Sound.{IsSound, AreItems, Declared, nothing_declared, record_sight, seen_after}
use Rattle.sz_core.specs.WellFormed.{kind_allows, is_weight, is_between}
use Rattle.sz_mean.specs.Marked.{Marked, table_of_lines, with_lines, all_tables}
use Rattle.sz_total.specs.Weights.{ranks, HasItsWeights, HaveTheirWeights}

both_true : (a b : Bool) → (a && b) ≡ true → b ≡ true
both_true true b h = h
both_true false b h = absurd (cc)

weight_is_there : (weight : Option Shape) → is_weight weight ≡ true → is_some weight ≡ true
weight_is_there None h = absurd (cc)
weight_is_there (Some t) h = refl

-- a table that its kind allows has its weights
allowed_has_weights : (d : Declaration) (kind : TableKind) → kind_allows kind d ≡ true → ranks kind ≡ true
    → is_some d.weight ≡ true
allowed_has_weights d Maximum h r =
    weight_is_there d.weight (both_true (is_between 1 10000 d.limit) (is_weight d.weight) h)
allowed_has_weights d Minimum h r =
    weight_is_there d.weight (both_true (is_between 1 10000 d.limit) (is_weight d.weight) h)
allowed_has_weights d Sum h r = absurd (cc)
allowed_has_weights d Set h r = absurd (cc)
allowed_has_weights d Collection h r = absurd (cc)

items_have_weights : (locals : List Shape) (seen : List ℕ) (d : Declared) (rest : List Item)
    → AreItems locals seen d rest → HaveTheirWeights (tables_of rest)
unfolding AreItems
items_have_weights locals seen d [] sound = All-nil HasItsWeights
items_have_weights locals seen d (items.table t ∷ rest) sound =
    All-cons HasItsWeights t (tables_of rest) (allowed_has_weights t t.kind sound.0.allowed)
    (items_have_weights locals seen (record d { tables = d.tables ++ t ∷ [] }) rest sound.1)
items_have_weights locals seen d (items.function f ∷ rest) sound =
    items_have_weights locals seen (record d { functions = d.functions ++ f.signature ∷ [] }) rest sound.1
items_have_weights locals seen d (items.static s ∷ rest) sound =
    items_have_weights locals seen (record d { statics = d.statics ++ s.type ∷ [] }) rest sound.1
items_have_weights locals seen d (items.statement s ∷ rest) sound =
    items_have_weights locals (seen_after (record_sight locals seen d) s).seen d rest sound.1

-- each table of a sound program has weights if it ranks its values by them
declared_have_weights : (core : Core) → IsSound core → HaveTheirWeights (tables_of core.items)
declared_have_weights core sound = items_have_weights core.locals [] nothing_declared core.items sound.items

-- the table of lines ranks nothing
pub have_their_weights : (program : Marked) → IsSound program.core → HaveTheirWeights (all_tables program)
have_their_weights program sound = by program.ignoring
  where
    by : (ignoring : Bool) → HaveTheirWeights (with_lines ignoring (tables_of program.core.items))
    by false = declared_have_weights program.core sound
    by true =
        All-push HasItsWeights (tables_of program.core.items) table_of_lines (declared_have_weights program.core sound)
        (λ ranked. absurd (cc))
