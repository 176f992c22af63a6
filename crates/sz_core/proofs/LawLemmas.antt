-- Laws of sound programs.
use Rattle.std.proofs.Common.{◌≡◌, ◌≤◌, ◌+◌, ◌++◌, ℕ, zero, suc, List, [], ◌∷◌, length, Bool, true, false, ◌||◌, true≢false, refl, arith, length-append, append_assoc, append-nil}
use Rattle.std.proofs.Common.{sym, ap, subst, ◌∙◌}
use Rattle.std.proofs.lemmas.List.Elements.{All-nil, All-cons}
use Rattle.std.specs.List.{All}
use Rattle.std.specs.Prelude.{Option, Some, is_some, slice_get}
use Rattle.sz_types.specs.Data.{Shape}
use Rattle.sz_core.specs.Nodes.{Node, node, Form, constant, local, static, input, call, builtin, def, convert, array, tuple, mapping, index, slice, field}
use Rattle.sz_core.specs.Nodes.{unary, binary, both, either, Nodes, no_nodes, with_node, Pairings, no_pairings, with_pairing}
use Rattle.sz_core.specs.Programs.{Signature, Static, Item, Core, tables_of, statics_of, core_of}
use Rattle.sz_core.specs.Programs as items
use Rattle.sz_core.specs.Emitting.{node_emits, form_emits, nodes_emit, pairings_emit, is_emitting}
use Rattle.sz_core.specs.Sound.{IsSound, AreItems, Declared, declared_by, nothing_declared, seen_after, record_sight, IsStatic, static_sight, BeginsWith}
use Rattle.sz_core.specs.Typing.{Sight, IsNode, IsForm, AreNodes, ArePairings}

pub empty_is_sound : IsSound (core_of [] [])
unfolding AreItems
empty_is_sound = record { types = refl; items = tt }

-- the tables before and the tables to come are at most 64, where there are at most 64 before
tables_are_few : (locals : List Shape) (seen : List ℕ) (d : Declared) (rest : List Item) → length d.tables ≤ 64
    → AreItems locals seen d rest → length d.tables + length (tables_of rest) ≤ 64
unfolding AreItems
tables_are_few locals seen d [] few sound = omega (arith, few)
tables_are_few locals seen d (items.table t ∷ rest) few sound =
    let more = length-append d.tables (t ∷ []) in
    let then = tables_are_few locals seen (record d { tables = d.tables ++ t ∷ [] }) rest
    (omega (arith, more, sound.0.few)) sound.1 in
    omega (arith, more, then)
tables_are_few locals seen d (items.function f ∷ rest) few sound =
    tables_are_few locals seen (record d { functions = d.functions ++ f.signature ∷ [] }) rest few sound.1
tables_are_few locals seen d (items.static s ∷ rest) few sound =
    tables_are_few locals seen (record d { statics = d.statics ++ s.type ∷ [] }) rest few sound.1
tables_are_few locals seen d (items.statement s ∷ rest) few sound =
    tables_are_few locals (seen_after (record_sight locals seen d) s).seen d rest few sound.1

pub at_most_64_tables : (program : Core) → IsSound program → length (tables_of program.items) ≤ 64
at_most_64_tables program sound =
    let few = tables_are_few program.locals [] nothing_declared program.items (omega arith) sound.items in
    omega (arith, few)

-- what two lists of items declare, one after the other
abbrev both_declared : Declared → Declared → Declared
both_declared d e = record {
  statics = d.statics ++ e.statics;
  functions = d.functions ++ e.functions;
  tables = d.tables ++ e.tables;
}

-- the items after a front are sound after what is declared before them
front_declares : (locals : List Shape) (seen : List ℕ) (d : Declared) (front rest : List Item)
    → AreItems locals seen d (front ++ rest)
    → (after : List ℕ) × AreItems locals after (both_declared d (declared_by front)) rest
unfolding AreItems
front_declares locals seen d [] rest sound =
    let same : d ≡ both_declared d nothing_declared =
    λ i. record {
      statics = sym (append-nil d.statics) i;
      functions = sym (append-nil d.functions) i;
      tables = sym (append-nil d.tables) i;
    } in
    (seen, subst (λ e. AreItems locals seen e rest) same sound)
front_declares locals seen d (items.table t ∷ front) rest sound =
    let h = front_declares locals seen (record d { tables = d.tables ++ t ∷ [] }) front rest sound.1 in
    let e = declared_by front in (
      h.0,
      subst (λ ts. AreItems locals h.0
          (record { statics = d.statics ++ e.statics; functions = d.functions ++ e.functions; tables = ts }) rest)
          (append_assoc d.tables (t ∷ []) e.tables) h.1,
    )
front_declares locals seen d (items.function f ∷ front) rest sound =
    let h = front_declares locals seen (record d { functions = d.functions ++ f.signature ∷ [] }) front rest sound.1 in
    let e = declared_by front in (
      h.0,
      subst (λ fs. AreItems locals h.0
          (record { statics = d.statics ++ e.statics; functions = fs; tables = d.tables ++ e.tables }) rest)
          (append_assoc d.functions (f.signature ∷ []) e.functions) h.1,
    )
front_declares locals seen d (items.static s ∷ front) rest sound =
    let h = front_declares locals seen (record d { statics = d.statics ++ s.type ∷ [] }) front rest sound.1 in
    let e = declared_by front in (
      h.0,
      subst (λ ss. AreItems locals h.0
          (record { statics = ss; functions = d.functions ++ e.functions; tables = d.tables ++ e.tables }) rest)
          (append_assoc d.statics (s.type ∷ []) e.statics) h.1,
    )
front_declares locals seen d (items.statement s ∷ front) rest sound =
    front_declares locals (seen_after (record_sight locals seen d) s).seen d front rest sound.1

pub sound_after_front : (program : Core) (front rest : List Item) → IsSound program → program.items ≡ front ++ rest
    → (seen : List ℕ) × AreItems program.locals seen (declared_by front) rest
sound_after_front program front rest sound is =
    front_declares program.locals [] nothing_declared front rest
    (subst (λ xs. AreItems program.locals [] nothing_declared xs) is sound.items)

-- what more items declare
pub declared_more : (front rest : List Item)
    → declared_by (front ++ rest) ≡ both_declared (declared_by front) (declared_by rest)
declared_more [] rest = refl
declared_more (items.table t ∷ front) rest =
    ap (λ d. both_declared (declared_by (items.table t ∷ [])) d) (declared_more front rest)
declared_more (items.function f ∷ front) rest =
    ap (λ d. both_declared (declared_by (items.function f ∷ [])) d) (declared_more front rest)
declared_more (items.static s ∷ front) rest =
    ap (λ d. both_declared (declared_by (items.static s ∷ [])) d) (declared_more front rest)
declared_more (items.statement s ∷ front) rest = declared_more front rest

pub statics_before : (front rest : List Item)
    → BeginsWith (declared_by front).statics (declared_by (front ++ rest)).statics
statics_before front rest = ((declared_by rest).statics, ap (λ d. d.statics) (declared_more front rest))

pub functions_before : (front rest : List Item)
    → BeginsWith (declared_by front).functions (declared_by (front ++ rest)).functions
functions_before front rest = ((declared_by rest).functions, ap (λ d. d.functions) (declared_more front rest))

pub tables_before : (front rest : List Item)
    → BeginsWith (declared_by front).tables (declared_by (front ++ rest)).tables
tables_before front rest = ((declared_by rest).tables, ap (λ d. d.tables) (declared_more front rest))

-- neither emits
neither : {a b : Bool} → a ≡ false → b ≡ false → (a || b) ≡ false
neither p q = λ i. p i || q i

-- a function that may be called where none that emits may be, doesn't emit
call_is_quiet : (s : Option Signature) (x : Signature) → s ≡ Some x → (x.emits ≡ true → false ≡ true)
    → is_emitting s ≡ false
call_is_quiet s x is quiet = ap is_emitting is ∙ not_true x.emits quiet
  where
    not_true : (b : Bool) → (b ≡ true → false ≡ true) → b ≡ false
    not_true true h = sym (h refl)
    not_true false h = refl

-- among the functions are those that are seen
abbrev HasSeen : Sight → List Signature → Type 0
HasSeen g fs = (n : ℕ) (s : Signature) → slice_get g.functions n ≡ Some s → slice_get fs n ≡ Some s

module _ (g : Sight) (fs : List Signature) (quiet : g.may_emit ≡ false) (has : HasSeen g fs) where
  mutual
    unfolding IsNode IsForm AreNodes ArePairings node_emits form_emits nodes_emit pairings_emit

    node_is_quiet : (e : Node) → IsNode g e → node_emits fs e ≡ false
    node_is_quiet (node p t f) h = form_is_quiet t f h

    form_is_quiet : (t : Shape) (f : Form) → IsForm g t f → form_emits fs f ≡ false
    form_is_quiet t (constant d) h = refl
    form_is_quiet t (local n) h = refl
    form_is_quiet t (static n) h = refl
    form_is_quiet t input h = refl
    form_is_quiet t (call f es) h = neither
        (call_is_quiet (slice_get fs f) h.1.0 (has f h.1.0 h.1.1) (λ emits. sym quiet ∙ h.1.4 emits))
        (nodes_are_quiet es h.0)
    form_is_quiet t (builtin b es) h = nodes_are_quiet es h.0
    form_is_quiet t (def e) h = node_is_quiet e h.0
    form_is_quiet t (convert e) h = node_is_quiet e h.0
    form_is_quiet t (array es) h = nodes_are_quiet es h.0
    form_is_quiet t (tuple es) h = nodes_are_quiet es h.0
    form_is_quiet t (mapping ps) h = pairings_are_quiet h.1.0 h.1.1 ps h.1.3
    form_is_quiet t (index e i) h = neither (node_is_quiet e h.0) (node_is_quiet i h.1)
    form_is_quiet t (slice e i j) h =
        neither (neither (node_is_quiet e h.0) (node_is_quiet i h.1)) (node_is_quiet j h.2)
    form_is_quiet t (field e n) h = node_is_quiet e h.0
    form_is_quiet t (unary o e) h = node_is_quiet e h.0
    form_is_quiet t (binary o a b) h = neither (node_is_quiet a h.0) (node_is_quiet b h.1)
    form_is_quiet t (both a b) h = neither (node_is_quiet a h.0) (node_is_quiet b h.1)
    form_is_quiet t (either a b) h = neither (node_is_quiet a h.0) (node_is_quiet b h.1)

    nodes_are_quiet : (es : Nodes) → AreNodes g es → nodes_emit fs es ≡ false
    nodes_are_quiet no_nodes h = refl
    nodes_are_quiet (with_node e es) h = neither (node_is_quiet e h.0) (nodes_are_quiet es h.1)

    pairings_are_quiet : (k v : Shape) (ps : Pairings) → ArePairings g k v ps → pairings_emit fs ps ≡ false
    pairings_are_quiet k v no_pairings h = refl
    pairings_are_quiet k v (with_pairing a b ps) h =
        neither (neither (node_is_quiet a h.0) (node_is_quiet b h.1)) (pairings_are_quiet k v ps h.4)

-- what is in a front is in the whole
get_in_front : (front rest : List Signature) (n : ℕ) (s : Signature) → slice_get front n ≡ Some s
    → slice_get (front ++ rest) n ≡ Some s
get_in_front [] rest n s h = absurd (let some = ap is_some h in true≢false (sym some))
get_in_front (f ∷ front) rest zero s h = h
get_in_front (f ∷ front) rest (suc n) s h = get_in_front front rest n s h

-- a static's value emits nothing, among the functions before it and any after it
static_is_quiet : (d : Declared) (rest : List Signature) (s : Static) → IsStatic d s
    → node_emits (d.functions ++ rest) s.value ≡ false
static_is_quiet d rest s sound =
    node_is_quiet (static_sight d) (d.functions ++ rest) refl (get_in_front d.functions rest) s.value sound.value

-- each static's value emits nothing, among these functions
abbrev AreQuiet : List Signature → List Static → Type 0
AreQuiet fs ss = All (λ (s : Static). node_emits fs s.value ≡ false) ss

quiet_items : (locals : List Shape) (seen : List ℕ) (d : Declared) (rest : List Item) → AreItems locals seen d rest
    → AreQuiet (d.functions ++ (declared_by rest).functions) (statics_of rest)
unfolding AreItems
quiet_items locals seen d [] sound = All-nil (λ (s : Static). node_emits (d.functions ++ []) s.value ≡ false)
quiet_items locals seen d (items.table t ∷ rest) sound =
    quiet_items locals seen (record d { tables = d.tables ++ t ∷ [] }) rest sound.1
quiet_items locals seen d (items.function f ∷ rest) sound =
    subst (λ fs. AreQuiet fs (statics_of rest))
    (append_assoc d.functions (f.signature ∷ []) (declared_by rest).functions)
    (quiet_items locals seen (record d { functions = d.functions ++ f.signature ∷ [] }) rest sound.1)
quiet_items locals seen d (items.static s ∷ rest) sound =
    let fs = (declared_by rest).functions in
    All-cons (λ (x : Static). node_emits (d.functions ++ fs) x.value ≡ false) s (statics_of rest)
    (static_is_quiet d fs s sound.0)
    (quiet_items locals seen (record d { statics = d.statics ++ s.type ∷ [] }) rest sound.1)
quiet_items locals seen d (items.statement s ∷ rest) sound =
    quiet_items locals (seen_after (record_sight locals seen d) s).seen d rest sound.1

pub statics_are_quiet : (program : Core) → IsSound program
    → AreQuiet (declared_by program.items).functions (statics_of program.items)
statics_are_quiet program sound = quiet_items program.locals [] nothing_declared program.items sound.items
