-- The program of the example is sound.
use Rattle.std.proofs.Common.{[], ◌∷◌, refl, arith}
use Rattle.sz_core.specs.Programs.{core_of}
use Rattle.sz_core.specs.Emitting.{stm_emits, node_emits}
use Rattle.sz_core.specs.WellFormed.{is_well_formed}
use Rattle.sz_core.specs.Example.{sum_table, identity, call_node, small_items}
use Rattle.sz_core.specs.Sound.{IsSound, AreItems, IsTable, IsFunction, IsStm, nothing_declared, record_sight}
use Rattle.sz_core.specs.Typing.{IsNode}

table_is_sound : IsTable nothing_declared sum_table
unfolding is_well_formed
table_is_sound = record { allowed = refl; indexes = refl; element = refl; few = omega arith }

function_is_sound : IsFunction (record nothing_declared { tables = sum_table ∷ [] }) identity
unfolding is_well_formed IsStm IsNode stm_emits node_emits
function_is_sound = record {
  parameters = ([], refl);
  types = refl;
  emits = refl;
  body = ((((0, (omega arith), refl), refl), refl), tt);
}

-- f(1), after the table and the function
call_is_sound : IsNode (record_sight [] []
    (record nothing_declared { functions = identity.signature ∷ []; tables = sum_table ∷ [] })) call_node
unfolding IsNode
call_is_sound = ((refl, tt), (identity.signature, refl, refl, refl, λ _. refl))

pub small_is_sound : IsSound (core_of small_items [])
unfolding AreItems IsStm IsNode
small_is_sound = record {
  types = refl;
  items = (table_is_sound, (function_is_sound, ((tt, call_is_sound, (sum_table, refl, refl, refl, tt)), tt)));
}
