-- How the logic stores checked programs: what the model of a program has to give.
use Rattle.std.specs.Prelude.{◌≡◌, List, [], ◌∷◌, Bool, ◌⊎◌}
use Rattle.std.proofs.Common.{refl, inl, inr}
use Rattle.std.specs.Coded.{Coded, code_by, coded_bool, coded_list, coded×, coded⊎}
use Rattle.sz_types.specs.Data.{Shape}
use Rattle.sz_types.specs.Tables.{Declaration}
use Rattle.sz_types.specs.Code.{shape_code, shapes_code, declarations_code}
use Rattle.sz_types.specs.declared.place.Place.{Place}
use Rattle.sz_core.specs.OperatorCode.{place_code}
use Rattle.sz_core.specs.Nodes.{Node}
use Rattle.sz_core.specs.NodeCode.{node_code}
use Rattle.sz_core.specs.Statements.{Stm, Stms, nothing}
use Rattle.sz_core.specs.StatementCode.{stm_code, stms_code}
use Rattle.sz_core.specs.Programs.{Signature, Function, Static, Item, table, function, static, statement, Core}

-- how a signature is stored
abbrev pub signature_code : Coded Signature
signature_code = code_by (List Shape × (Shape × Bool)) (coded× shapes_code (coded× shape_code coded_bool))
    (λ s. (s.parameters, (s.result, s.emits)))
    (λ p. record { parameters = p.0; result = p.1.0; emits = p.1.1 })
    (λ s. refl)

abbrev function_code : Coded Function
function_code = code_by (Signature × (List Shape × Stms)) (coded× signature_code (coded× shapes_code stms_code))
    (λ f. (f.signature, (f.locals, f.body)))
    (λ p. record { signature = p.0; locals = p.1.0; body = p.1.1 })
    (λ f. refl)

abbrev static_code : Coded Static
static_code = code_by (Place × (Shape × Node)) (coded× place_code (coded× shape_code node_code))
    (λ s. (s.place, (s.type, s.value)))
    (λ p. record { place = p.0; type = p.1.0; value = p.1.1 })
    (λ s. refl)

-- an item as one of four things; a declaration as a list of one
abbrev Kinds : Type 0
Kinds = (List Declaration ⊎ Function) ⊎ (Static ⊎ Stm)

abbrev kinds_of : Item → Kinds
kinds_of (table d) = inl (inl (d ∷ []))
kinds_of (function f) = inl (inr f)
kinds_of (static s) = inr (inl s)
kinds_of (statement s) = inr (inr s)

abbrev made_of : Kinds → Item
made_of (inl (inl [])) = statement nothing
made_of (inl (inl (d ∷ ds))) = table d
made_of (inl (inr f)) = function f
made_of (inr (inl s)) = static s
made_of (inr (inr s)) = statement s

pub item_again : (item : Item) → made_of (kinds_of item) ≡ item
item_again (table d) = refl
item_again (function f) = refl
item_again (static s) = refl
item_again (statement s) = refl

abbrev items_code : Coded (List Item)
items_code = coded_list (code_by Kinds
    (coded⊎ (coded⊎ declarations_code function_code) (coded⊎ static_code stm_code)) kinds_of made_of item_again)

-- how a program is stored
abbrev pub core_code : Coded Core
core_code = code_by (List Item × List Shape) (coded× items_code shapes_code)
    (λ c. (c.items, c.locals))
    (λ p. record { items = p.0; locals = p.1 })
    (λ c. refl)
