-- Each number in the code of sound expressions is that of something that the code has.
use Rattle.std.proofs.Common.{◌≡◌, ℕ, suc, ◌+◌, ◌<◌, ◌≤◌, List, [], ◌∷◌, ◌++◌, length, Bool, true, false, Option, Some, None, IfSome, if◌then◌else◌, refl, ap, arith, length-append}
use Rattle.std.specs.Prelude.{slice_get}
use Rattle.std.proofs.lemmas.Bool.{lt-ltb}
use Rattle.std.proofs.lemmas.Option.{slice_get_within}
use Rattle.sz_types.specs.Data.{Shape}
use Rattle.sz_types.specs.Same.{alike}
use Rattle.sz_types.specs.Tables.{Declaration}
use Rattle.sz_types.specs.declared.place.Place.{Place}
use Rattle.sz_core.specs.Nodes.{Node, node, Form, constant, local, static, input, call, builtin, def, convert, array, tuple, mapping, index, slice, type_of}
use Rattle.sz_core.specs.Nodes.{field, unary, binary, both, either, Nodes, no_nodes, with_node, Pairings, no_pairings, with_pairing}
use Rattle.sz_core.specs.Statements.{Step, at_index, at_field}
use Rattle.sz_core.specs.Programs.{Signature}
use Rattle.sz_core.specs.Typing.{Sight, IsNode, IsForm, AreNodes, ArePairings}
use Rattle.sz_instr.specs.WellFormed.{most_locals, is_message_type, is_in_range}
use Rattle.sz_instr.specs.declared.instr.Instr.{Instr}
use Rattle.sz_instr.specs.declared.instr.Instr.TheVariants.{Unary, Binary, Apply, MakeArray, MakeTuple, MakeMap, Index, Slice, Field, Def, Tick, AndTest, OrTest, Call}
use Rattle.sz_instr.specs.declared.line.Line.{Line}
use Rattle.sz_instr.specs.declared.code.Code.{Code}
use Rattle.sz_gen_rules.specs.Tables.{tables_in, constant_number, type_number, HasType}
use Rattle.sz_gen_rules.specs.ExpressionCode.{closed, changing, conversion, decided, expression_code, form_code, expressions_code, pairings_code, indexes_code, code_if_some, count_of, pair_count_of}
use Rattle.sz_gen_rules.specs.Named.{HasTarget, HasNames, FormHasNames, HaveNames, PairingsHaveNames, StepsHaveNames}
use Rattle.sz_gen_rules.proofs.Indexes.{AreIndexes}
use Rattle.sz_gen_rules.specs.Backward.{seeing}

-- each number in the lines is that of something that the code has
abbrev pub AreInRange : Code → List Line → Type 0
AreInRange code [] = Unit {0}
AreInRange code (l ∷ lines) = (is_in_range code l.instr ≡ true) × AreInRange code lines

pub both_in_range : (code : Code) (front rest : List Line) → AreInRange code front → AreInRange code rest
    → AreInRange code (front ++ rest)
both_in_range code [] rest h k = k
both_in_range code (l ∷ front) rest h k = (h.0, both_in_range code front rest h.1 k)

-- what is seen is in the code
pub record IsRoomFor (code : Code) (g : Sight) : Type 0 where
  pub locals : length g.locals ≤ most_locals code
  pub statics : (n : ℕ) (t : Shape) → slice_get g.statics n ≡ Some t → n < length code.statics
  pub functions : (n : ℕ) (f : Signature) → slice_get g.functions n ≡ Some f → n < length code.functions
  pub tables : (n : ℕ) (d : Declaration) → slice_get g.tables n ≡ Some d → n < length code.tables

-- a local that is seen is one of some routine
pub local_in_range : (code : Code) (g : Sight) → IsRoomFor code g → (n : ℕ) (t : Shape)
    → slice_get g.locals n ≡ Some t → n < most_locals code
local_in_range code g room n t is = let within = slice_get_within g.locals n t is in
    let most = room.locals in omega arith

pub closed_in_range : (code : Code) (lines : List Line) (i : Instr) (p : Place) → AreInRange code lines
    → is_in_range code i ≡ true → AreInRange code (closed lines i p)
closed_in_range code lines i p h k = both_in_range code lines _ h (k, tt)

-- code that ends within the lines has its parts within them
pub front_fits : (code : Code) (front rest : List Line) (at : ℕ) → at + length (front ++ rest) ≤ length code.lines
    → at + length front ≤ length code.lines
front_fits code front rest at h = omega (arith, h, length-append front rest)

pub back_fits : (code : Code) (front rest : List Line) (at : ℕ) → at + length (front ++ rest) ≤ length code.lines
    → at + length front + length rest ≤ length code.lines
back_fits code front rest at h = omega (arith, h, length-append front rest)

module _ (code : Code) (g : Sight) (room : IsRoomFor code g) (seen : Sight) where
  -- the code of `&&` or `||` after that of the left operand
  decided_in_range : (test : ℕ → Instr) (p : Place) (right : ℕ → List Line) (at : ℕ)
      → ((to : ℕ) → to < length code.lines → is_in_range code (test to) ≡ true)
      → at + length (decided test p right at) ≤ length code.lines → AreInRange code (right (suc at))
      → AreInRange code (decided test p right at)
  decided_in_range test p right at tests fits h =
      let few : suc at + length (right (suc at)) < length code.lines = omega (
        arith,
        fits,
        length-append (right (suc at))
            (record { instr = Tick; charge = 1; place = p } ∷ []),
      ) in
      (tests (suc at + length (right (suc at))) few, closed_in_range code (right (suc at)) Tick p h refl)

  decided_fits : (test : ℕ → Instr) (p : Place) (right : ℕ → List Line) (at : ℕ)
      → at + length (decided test p right at) ≤ length code.lines
      → suc at + length (right (suc at)) ≤ length code.lines
  decided_fits test p right at fits =
      omega (arith, fits, length-append (right (suc at)) (record { instr = Tick; charge = 1; place = p } ∷ []))

  changing_in_range : (to : Shape) → HasType (tables_in code) to
      → is_in_range code (changing to (type_number (tables_in code) to)) ≡ true
  changing_in_range (Shape.proto fs) has = ap is_message_type has
  changing_in_range to has =
      let n = type_number (tables_in code) to in lt-ltb n (length code.types) (slice_get_within code.types n to has)

  conversion_in_range : (to : Shape) (b : Bool) → HasTarget (tables_in code) b to
      → is_in_range code (if b then Tick else changing to (type_number (tables_in code) to)) ≡ true
  conversion_in_range to true has = refl
  conversion_in_range to false has = changing_in_range to has

  mutual
    unfolding IsNode IsForm AreNodes ArePairings

    pub node_in_range : (e : Node) (at : ℕ) → IsNode (seeing g seen) e → HasNames (tables_in code) e
        → at + length (expression_code (tables_in code) e at) ≤ length code.lines
        → AreInRange code (expression_code (tables_in code) e at)
    node_in_range (node p t form) at sound names fits = form_in_range p t form at sound names fits

    form_in_range : (p : Place) (t : Shape) (form : Form) (at : ℕ) → IsForm (seeing g seen) t form
        → FormHasNames (tables_in code) t form → at + length (form_code (tables_in code) p t form at)
        ≤ length code.lines → AreInRange code (form_code (tables_in code) p t form at)
    form_in_range p t (constant d) at sound names fits =
        let n = constant_number (tables_in code) d in
        (lt-ltb n (length code.constants) (slice_get_within code.constants n d names), tt)
    form_in_range p t (local n) at sound names fits =
        (lt-ltb n (most_locals code) (local_in_range code g room n t sound.1), tt)
    form_in_range p t (static n) at sound names fits = (lt-ltb n (length code.statics) (room.statics n t sound), tt)
    form_in_range p t input at sound names fits = (refl, tt)
    form_in_range p t (call f es) at sound names fits =
        let c = expressions_code (tables_in code) es at in
        closed_in_range code c (Call f) p (nodes_in_range es at sound.0 names (front_fits code c _ at fits))
        (lt-ltb f (length code.functions) (room.functions f sound.1.0 sound.1.1))
    form_in_range p t (builtin b es) at sound names fits =
        let c = expressions_code (tables_in code) es at in
        closed_in_range code c (Apply b) p (nodes_in_range es at sound.0 names (front_fits code c _ at fits)) refl
    form_in_range p t (def e) at sound names fits =
        let c = expression_code (tables_in code) e at in
        closed_in_range code c Def p (node_in_range e at sound.0 names (front_fits code c _ at fits)) refl
    form_in_range p t (convert e) at sound names fits =
        let c = expression_code (tables_in code) e at in
        closed_in_range code c (conversion (tables_in code) (type_of e) t) p
        (node_in_range e at sound.0 names.0 (front_fits code c _ at fits))
        (conversion_in_range t (alike (type_of e) t) names.1)
    form_in_range p t (array es) at sound names fits =
        let c = expressions_code (tables_in code) es at in
        closed_in_range code c (MakeArray (count_of es)) p
        (nodes_in_range es at sound.0 names (front_fits code c _ at fits)) refl
    form_in_range p t (tuple es) at sound names fits =
        let c = expressions_code (tables_in code) es at in
        closed_in_range code c (MakeTuple (count_of es)) p
        (nodes_in_range es at sound.0 names (front_fits code c _ at fits)) refl
    form_in_range p t (mapping ps) at sound names fits =
        let c = pairings_code (tables_in code) ps at in
        closed_in_range code c (MakeMap (pair_count_of ps)) p
        (pairings_in_range sound.1.0 sound.1.1 ps at sound.1.3 names (front_fits code c _ at fits)) refl
    form_in_range p t (index e i) at sound names fits =
        let ca = expression_code (tables_in code) e at in
        let cb = expression_code (tables_in code) i (at + length ca) in
        let f1 = front_fits code (ca ++ cb) _ at fits in
        closed_in_range code (ca ++ cb) Index p
        (both_in_range code ca cb (node_in_range e at sound.0 names.0 (front_fits code ca cb at f1))
        (node_in_range i (at + length ca) sound.1 names.1 (back_fits code ca cb at f1))) refl
    form_in_range p t (slice e i j) at sound names fits =
        let ca = expression_code (tables_in code) e at in
        let cb = expression_code (tables_in code) i (at + length ca) in
        let cd = expression_code (tables_in code) j (at + length (ca ++ cb)) in
        let f2 = front_fits code ((ca ++ cb) ++ cd) _ at fits in
        let f1 = front_fits code (ca ++ cb) cd at f2 in
        closed_in_range code ((ca ++ cb) ++ cd) Slice p
        (both_in_range code (ca ++ cb) cd
        (both_in_range code ca cb (node_in_range e at sound.0 names.0 (front_fits code ca cb at f1))
        (node_in_range i (at + length ca) sound.1 names.1 (back_fits code ca cb at f1)))
        (node_in_range j (at + length (ca ++ cb)) sound.2 names.2 (back_fits code (ca ++ cb) cd at f2))) refl
    form_in_range p t (field e n) at sound names fits =
        let c = expression_code (tables_in code) e at in
        closed_in_range code c (Field n) p (node_in_range e at sound.0 names (front_fits code c _ at fits)) refl
    form_in_range p t (unary o e) at sound names fits =
        let c = expression_code (tables_in code) e at in
        closed_in_range code c (Unary o) p (node_in_range e at sound.0 names (front_fits code c _ at fits)) refl
    form_in_range p t (binary o a b) at sound names fits =
        let ca = expression_code (tables_in code) a at in
        let cb = expression_code (tables_in code) b (at + length ca) in
        let f1 = front_fits code (ca ++ cb) _ at fits in
        closed_in_range code (ca ++ cb) (Binary o) p
        (both_in_range code ca cb (node_in_range a at sound.0 names.0 (front_fits code ca cb at f1))
        (node_in_range b (at + length ca) sound.1 names.1 (back_fits code ca cb at f1))) refl
    form_in_range p t (both a b) at sound names fits =
        let ca = expression_code (tables_in code) a at in
        let at1 = at + length ca in
        let right = expression_code (tables_in code) b in
        let f1 = back_fits code ca (decided AndTest p right at1) at fits in
        both_in_range code ca (decided AndTest p right at1)
        (node_in_range a at sound.0 names.0 (front_fits code ca (decided AndTest p right at1) at fits))
        (decided_in_range AndTest p right at1 (λ to few. lt-ltb to (length code.lines) few) f1
        (node_in_range b (suc at1) sound.1 names.1 (decided_fits AndTest p right at1 f1)))
    form_in_range p t (either a b) at sound names fits =
        let ca = expression_code (tables_in code) a at in
        let at1 = at + length ca in
        let right = expression_code (tables_in code) b in
        let f1 = back_fits code ca (decided OrTest p right at1) at fits in
        both_in_range code ca (decided OrTest p right at1)
        (node_in_range a at sound.0 names.0 (front_fits code ca (decided OrTest p right at1) at fits))
        (decided_in_range OrTest p right at1 (λ to few. lt-ltb to (length code.lines) few) f1
        (node_in_range b (suc at1) sound.1 names.1 (decided_fits OrTest p right at1 f1)))

    pub nodes_in_range : (es : Nodes) (at : ℕ) → AreNodes (seeing g seen) es → HaveNames (tables_in code) es
        → at + length (expressions_code (tables_in code) es at) ≤ length code.lines
        → AreInRange code (expressions_code (tables_in code) es at)
    nodes_in_range no_nodes at sound names fits = tt
    nodes_in_range (with_node e es) at sound names fits =
        let ca = expression_code (tables_in code) e at in
        let cb = expressions_code (tables_in code) es (at + length ca) in
        both_in_range code ca cb (node_in_range e at sound.0 names.0 (front_fits code ca cb at fits))
        (nodes_in_range es (at + length ca) sound.1 names.1 (back_fits code ca cb at fits))

    pairings_in_range : (k v : Shape) (ps : Pairings) (at : ℕ) → ArePairings (seeing g seen) k v ps
        → PairingsHaveNames (tables_in code) ps → at + length (pairings_code (tables_in code) ps at)
        ≤ length code.lines → AreInRange code (pairings_code (tables_in code) ps at)
    pairings_in_range k v no_pairings at sound names fits = tt
    pairings_in_range k v (with_pairing a b ps) at sound names fits =
        let ca = expression_code (tables_in code) a at in
        let cb = expression_code (tables_in code) b (at + length ca) in
        let cd = pairings_code (tables_in code) ps (at + length (ca ++ cb)) in
        let f1 = front_fits code (ca ++ cb) cd at fits in
        both_in_range code (ca ++ cb) cd
        (both_in_range code ca cb (node_in_range a at sound.0 names.0 (front_fits code ca cb at f1))
        (node_in_range b (at + length ca) sound.1 names.1 (back_fits code ca cb at f1)))
        (pairings_in_range k v ps (at + length (ca ++ cb)) sound.4 names.2 (back_fits code (ca ++ cb) cd at fits))

  pub steps_in_range : (steps : List Step) (at : ℕ) → AreIndexes (seeing g seen) steps
      → StepsHaveNames (tables_in code) steps → at + length (indexes_code (tables_in code) steps at)
      ≤ length code.lines → AreInRange code (indexes_code (tables_in code) steps at)
  steps_in_range [] at sound names fits = tt
  steps_in_range (at_index e ∷ steps) at sound names fits =
      let ca = expression_code (tables_in code) e at in
      let cb = indexes_code (tables_in code) steps (at + length ca) in
      both_in_range code ca cb (node_in_range e at sound.0 names.0 (front_fits code ca cb at fits))
      (steps_in_range steps (at + length ca) sound.1 names.1 (back_fits code ca cb at fits))
  steps_in_range (at_field n ∷ steps) at sound names fits = steps_in_range steps at sound names fits

  pub some_in_range : (e : Option Node) (at : ℕ) → IfSome e (IsNode (seeing g seen))
      → IfSome e (HasNames (tables_in code)) → at + length (code_if_some (tables_in code) e at) ≤ length code.lines
      → AreInRange code (code_if_some (tables_in code) e at)
  some_in_range None at sound names fits = tt
  some_in_range (Some e) at sound names fits = node_in_range e at sound names fits
