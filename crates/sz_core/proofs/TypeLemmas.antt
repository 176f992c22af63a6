-- Each expression has a well-formed type, where what it may name has.
use Rattle.std.proofs.Common.{◌≡◌, ℕ, zero, suc, List, [], ◌∷◌, ◌++◌, append_assoc, refl, sym, ◌∙◌, subst}
use Rattle.std.specs.Prelude.{◌&&◌, slice_get, IfSome}
use Rattle.std.specs.Cmp.{first_so, second_so}
use Rattle.sz_types.specs.Data.{Shape}
use Rattle.sz_value.specs.Data.{Datum}
use Rattle.sz_core.specs.Nodes.{Node, node, Form, constant, local, static, input, call, builtin, def, convert, array, tuple, mapping, index, slice, field, unary}
use Rattle.sz_core.specs.Nodes.{binary, both, either, Nodes, no_nodes, with_node, type_of, types_of}
use Rattle.sz_core.specs.Programs.{Signature, Function, Item, Core}
use Rattle.sz_core.specs.Programs as items
use Rattle.sz_core.specs.WellFormed.{is_well_formed, are_well_formed}
use Rattle.sz_core.specs.Typing.{Sight, HasLiteralType, field_types, results_of, HasFormedTypes, IsNode, IsForm, AreNodes}
use Rattle.sz_core.specs.Sound.{IsSound, AreItems, Declared, declared_by, nothing_declared, seen_after, record_sight, static_sight, function_sight}
use Rattle.sz_core.proofs.LawLemmas.{declared_more, sound_after_front}
use Rattle.sz_core.proofs.FormedLemmas.{some_has, IsFormed, AreFormed, fields_formed, formed_at, truth_formed, int_formed, bytes_formed, unary_formed, binary_formed}
use Rattle.sz_core.proofs.FormedLemmas.{index_formed, slice_formed, builtin_formed}

str_formed : IsFormed Shape.str
unfolding is_well_formed
str_formed = refl

-- a literal's type
literal_formed : (d : Datum) (t : Shape) → HasLiteralType d t → IsFormed t
literal_formed (Datum.truth b) t h = subst IsFormed (sym h) truth_formed
literal_formed (Datum.int n) t h = subst IsFormed (sym h) int_formed
literal_formed (Datum.str s) t h = subst IsFormed (sym h) str_formed
literal_formed (Datum.bytes s) t h = subst IsFormed (sym h) bytes_formed
literal_formed _ t h = absurd h

-- the result's type of one of the functions
result_formed : (fs : List Signature) (n : ℕ) → AreFormed (results_of fs)
    → IfSome (slice_get fs n) (λ s. IsFormed s.result)
result_formed [] n h = tt
result_formed (f ∷ fs) zero h = first_so _ (are_well_formed (results_of fs)) h
result_formed (f ∷ fs) (suc n) h = result_formed fs n (second_so (is_well_formed f.result) _ h)

module _ (g : Sight) (has : HasFormedTypes g) where
  mutual
    unfolding IsNode IsForm AreNodes

    -- the expression's type is well formed
    pub node_formed : (e : Node) → IsNode g e → IsFormed (type_of e)
    node_formed (node p t f) h = form_formed t f h

    form_formed : (t : Shape) (f : Form) → IsForm g t f → IsFormed t
    form_formed t (constant d) h = literal_formed d t h
    form_formed t (local n) h = some_has IsFormed (formed_at g.locals n has.locals) h.1
    form_formed t (static n) h = some_has IsFormed (formed_at g.statics n has.statics) h
    form_formed t input h = subst IsFormed (sym h.1) bytes_formed
    form_formed t (call f es) h = subst IsFormed (sym h.1.3)
        (some_has (λ (s : Signature). IsFormed s.result) (result_formed g.functions f has.results) h.1.1)
    form_formed t (builtin b es) h = some_has IsFormed (builtin_formed b (types_of es) (nodes_formed es h.0)) h.1
    form_formed t (def e) h = subst IsFormed (sym h.1) truth_formed
    form_formed t (convert e) h = h.1
    form_formed t (array es) h = h.1
    form_formed t (tuple es) h = h.1
    form_formed t (mapping ps) h = h.0
    form_formed t (index e i) h = some_has IsFormed (index_formed (type_of e) (type_of i) (node_formed e h.0)) h.2
    form_formed t (slice e i j) h = some_has IsFormed (slice_formed (type_of e) (node_formed e h.0)) h.3
    form_formed t (field e n) h =
        some_has IsFormed
        (formed_at (field_types h.1.0) n (fields_formed (type_of e) h.1.0 h.1.1 (node_formed e h.0))) h.1.2
    form_formed t (unary o e) h = some_has IsFormed (unary_formed o (type_of e)) h.1
    form_formed t (binary o a b) h = some_has IsFormed (binary_formed o (type_of a) (type_of b) (node_formed a h.0)) h.2
    form_formed t (both a b) h = subst IsFormed (sym h.4) truth_formed
    form_formed t (either a b) h = subst IsFormed (sym h.4) truth_formed

    nodes_formed : (es : Nodes) → AreNodes g es → AreFormed (types_of es)
    nodes_formed no_nodes h = refl
    nodes_formed (with_node e es) h = λ i. node_formed e h.0 i && nodes_formed es h.1 i

-- the types of statics, and of what functions give, are well formed wherever they are declared
statics_formed : (locals : List Shape) (seen : List ℕ) (d : Declared) (front rest : List Item)
    → AreItems locals seen d (front ++ rest) → AreFormed (declared_by front).statics
unfolding AreItems
statics_formed locals seen d [] rest sound = refl
statics_formed locals seen d (items.table t ∷ front) rest sound =
    statics_formed locals seen (record d { tables = d.tables ++ t ∷ [] }) front rest sound.1
statics_formed locals seen d (items.function f ∷ front) rest sound =
    statics_formed locals seen (record d { functions = d.functions ++ f.signature ∷ [] }) front rest sound.1
statics_formed locals seen d (items.static s ∷ front) rest sound =
    let after = statics_formed locals seen (record d { statics = d.statics ++ s.type ∷ [] }) front rest sound.1 in
    λ i. sound.0.well_formed i && after i
statics_formed locals seen d (items.statement s ∷ front) rest sound =
    statics_formed locals (seen_after (record_sight locals seen d) s).seen d front rest sound.1

results_formed : (locals : List Shape) (seen : List ℕ) (d : Declared) (front rest : List Item)
    → AreItems locals seen d (front ++ rest) → AreFormed (results_of (declared_by front).functions)
unfolding AreItems
results_formed locals seen d [] rest sound = refl
results_formed locals seen d (items.table t ∷ front) rest sound =
    results_formed locals seen (record d { tables = d.tables ++ t ∷ [] }) front rest sound.1
results_formed locals seen d (items.function f ∷ front) rest sound =
    let after =
    results_formed locals seen (record d { functions = d.functions ++ f.signature ∷ [] }) front rest sound.1 in
    λ i. first_so _ (are_well_formed f.locals) sound.0.types i && after i
results_formed locals seen d (items.static s ∷ front) rest sound =
    results_formed locals seen (record d { statics = d.statics ++ s.type ∷ [] }) front rest sound.1
results_formed locals seen d (items.statement s ∷ front) rest sound =
    results_formed locals (seen_after (record_sight locals seen d) s).seen d front rest sound.1

-- the items of a sound program, as a front and a rest
split_items : (program : Core) (front rest : List Item) → IsSound program → program.items ≡ front ++ rest
    → AreItems program.locals [] nothing_declared (front ++ rest)
split_items program front rest sound is = subst (λ xs. AreItems program.locals [] nothing_declared xs) is sound.items

pub record_formed : (program : Core) (front rest : List Item) (seen : List ℕ) → IsSound program
    → program.items ≡ front ++ rest → HasFormedTypes (record_sight program.locals seen (declared_by front))
record_formed program front rest seen sound is =
    let split = split_items program front rest sound is in
    record {
      locals = sound.types;
      statics = statics_formed program.locals [] nothing_declared front rest split;
      results = results_formed program.locals [] nothing_declared front rest split;
    }

pub static_formed : (program : Core) (front rest : List Item) → IsSound program → program.items ≡ front ++ rest
    → HasFormedTypes (static_sight (declared_by front))
static_formed program front rest sound is =
    let h = record_formed program front rest [] sound is in
    record { locals = refl; statics = h.statics; results = h.results }

pub function_formed : (program : Core) (front rest : List Item) (f : Function) → IsSound program
    → program.items ≡ front ++ items.function f ∷ rest → HasFormedTypes (function_sight (declared_by front) f)
unfolding AreItems
function_formed program front rest f sound is =
    let h = record_formed program front (items.function f ∷ rest) [] sound is in
    let here = (sound_after_front program front (items.function f ∷ rest) sound is).1.0 in
    let with_it = record_formed program (front ++ items.function f ∷ []) rest [] sound
    (is ∙ sym (append_assoc front (items.function f ∷ []) rest)) in
    record {
      locals = second_so (is_well_formed f.signature.result) _ here.types;
      statics = h.statics;
      results = subst (λ d. AreFormed (results_of d.functions))
          (declared_more front (items.function f ∷ [])) with_it.results;
    }
