-- Which checked programs are sound: each name is seen where it stands, each expression has its type, and no rule of
-- statements and declarations is broken.
use Rattle.std.specs.Prelude.{◌≡◌, ℕ, zero, suc, ◌<◌, List, [], ◌∷◌, ◌++◌, length, map, filter, slice_get, Bool, true, false, ◌&&◌, not, if◌then◌else◌}
use Rattle.std.specs.Prelude.{Option, Some, None, IfSome}
use Rattle.std.specs.List.{Contains}
use Rattle.sz_types.specs.Data.{Shape}
use Rattle.sz_types.specs.Tables.{Declaration}
use Rattle.sz_core.specs.Nodes.{Node, type_of, types_of}
use Rattle.sz_core.specs.Statements.{Step, at_index, at_field, Stm, block, clear, keep, store, evaluate, branch, while, do_while, for_loop, break, continue}
use Rattle.sz_core.specs.Statements.{return_value, end_record, emit, Quantity, all, Quantified, when, Stms, no_stms, with_stm}
use Rattle.sz_core.specs.Programs.{Signature, Function, Static, Item, Core, tables_of, functions_of, statics_of}
use Rattle.sz_core.specs.Programs as items
use Rattle.sz_core.specs.Emitting.{body_emits}
use Rattle.sz_core.specs.WellFormed.{is_well_formed, are_well_formed, is_allowed}
use Rattle.sz_core.specs.Typing.{Sight, field_types, HasOwnType, IsNode, AreNodes, IsCall}

-- the steps lead from a value of the first type to one of the second; no step leads into a string or a byte string
unfoldable pub LeadTo : Sight → Shape → List Step → Shape → Type 0
LeadTo g t [] u = u ≡ t
LeadTo g (Shape.array t) (at_index e ∷ steps) u = IsNode g e × (type_of e ≡ Shape.int) × LeadTo g t steps u
LeadTo g (Shape.mapping k v) (at_index e ∷ steps) u = IsNode g e × (type_of e ≡ k) × HasOwnType e × LeadTo g v steps u
LeadTo g (Shape.tuple fields) (at_field n ∷ steps) u = (t : Shape) × (slice_get (field_types fields) n ≡ Some t) × LeadTo g t steps u
LeadTo g (Shape.proto fields) (at_field n ∷ steps) u = (t : Shape) × (slice_get (field_types fields) n ≡ Some t) × LeadTo g t steps u
LeadTo g t (step ∷ steps) u = ⊥

-- where a statement stands: the type of the function's result, if it is in one, and whether a loop is around it that
-- `break` and `continue` reach
pub record Around : Type 0 where
  pub result : Option Shape
  pub loop : Bool

-- the place inside a loop's body
abbrev pub in_loop : Around → Around
in_loop a = record a { loop = true }

-- the place inside a `when`: no loop outside is reached
abbrev pub out_of_loops : Around → Around
out_of_loops a = record a { loop = false }

-- what is seen after a statement
abbrev pub seen_after : Sight → Stm → Sight
seen_after g (clear n) = record g { seen = n ∷ g.seen }
seen_after g (keep p n e) = record g { seen = n ∷ g.seen }
seen_after g _ = g

-- the expression is a test
abbrev pub IsTest : Sight → Node → Type 0
IsTest g e = IsNode g e × (type_of e ≡ Shape.truth)

-- the statement can be done between the turns of a `for`: it is an assignment, a call, or nothing
abbrev pub IsBetweenTurns : Stm → Type 0
IsBetweenTurns (store p n steps e) = Unit {0}
IsBetweenTurns (evaluate p e) = Unit {0}
IsBetweenTurns (block no_stms) = Unit {0}
IsBetweenTurns _ = ⊥

-- no variable with this number is seen yet, so it can be declared
abbrev pub IsFree : Sight → ℕ → Type 0
IsFree g n = Contains g.seen n → ⊥

-- the weight of an emit is there where the table has one, and of its type
abbrev pub IsWeightOf : Sight → Option Shape → Option Node → Type 0
IsWeightOf g None None = Unit {0}
IsWeightOf g (Some t) (Some e) = IsNode g e × (type_of e ≡ t)
IsWeightOf g _ _ = ⊥

-- the type of the candidates that a value of a type has: of bounds of its slices, or of indexes and keys
abbrev pub candidate_type : Bool → Shape → Option Shape
candidate_type slice (Shape.array t) = Some Shape.int
candidate_type slice Shape.str = Some Shape.int
candidate_type slice Shape.bytes = Some Shape.int
candidate_type false (Shape.mapping k v) = Some k
candidate_type _ _ = None

-- a place where nothing that emits may be called
abbrev pub in_condition : Sight → Sight
in_condition g = record g { may_emit = false }

-- what is seen where the variable is bound, which nothing assigns
abbrev pub with_bound : Quantified → Sight → Sight
with_bound v g = record g { seen = v.local ∷ g.seen; fixed = v.local ∷ g.fixed }

-- so where all of these are
abbrev pub with_all_bound : List Quantified → Sight → Sight
with_all_bound [] g = g
with_all_bound (v ∷ vs) g = with_all_bound vs (with_bound v g)

-- whether the variable speaks of all candidates
abbrev pub is_for_all : Quantified → Bool
is_for_all v = is_all v.quantity
  where
    is_all : Quantity → Bool
    is_all all = true
    is_all _ = false

-- the variables that are bound where the statement inside runs: some candidate, or each, but not all
abbrev pub bound_inside : List Quantified → List Quantified
bound_inside vs = filter (λ v. not (is_for_all v)) vs

-- whether all of these variables speak of all candidates
abbrev pub are_for_all : List Quantified → Bool
are_for_all [] = true
are_for_all (v ∷ vs) = is_for_all v && are_for_all vs

-- whether no other variable stands after one that speaks of all candidates
abbrev pub is_all_last : List Quantified → Bool
is_all_last [] = true
is_all_last (v ∷ vs) = if is_for_all v then are_for_all vs else is_all_last vs

-- each variable can be declared, has the type of its candidates, and those are made of what is seen before it is bound and has a type
-- by itself
abbrev pub AreQuantified : Sight → List Quantified → Type 0
AreQuantified g [] = Unit {0}
AreQuantified g (v ∷ vs) =
    IsNode g v.base × IsFree g v.local
    × ((t : Shape) × (slice_get g.locals v.local ≡ Some t) × (candidate_type v.slice (type_of v.base) ≡ Some t))
    × HasOwnType v.base × AreQuantified (with_bound v g) vs

unfoldable mutual
  -- the statement is sound
  pub IsStm : Sight → Around → Stm → Type 0
  IsStm g a (block ss) = AreStms g a ss
  IsStm g a (clear n) = (n < length g.locals) × IsFree g n
  IsStm g a (keep p n e) = IsNode g e × (slice_get g.locals n ≡ Some (type_of e)) × IsFree g n
  IsStm g a (store p n steps e) =
      Contains g.seen n × IsNode g e × ((t : Shape) × (slice_get g.locals n ≡ Some t) × LeadTo g t steps (type_of e))
      × (Contains g.fixed n → ⊥)
  IsStm g a (evaluate p e) = IsNode g e × IsCall e
  IsStm g a (branch p c s t) = IsTest g c × IsStm g a s × IsStm g a t
  IsStm g a (while p c s) = IsTest g c × IsStm g (in_loop a) s
  IsStm g a (do_while p s c) = IsStm g (in_loop a) s × IsTest g c
  IsStm g a (for_loop p c t s) = IfSome c (IsTest g) × IsStm g a t × IsBetweenTurns t × IsStm g (in_loop a) s
  IsStm g a break = a.loop ≡ true
  IsStm g a continue = a.loop ≡ true
  IsStm g a (return_value p e) = IsNode g e × (a.result ≡ Some (type_of e))
  IsStm g a (end_record p) = a.result ≡ None
  IsStm g a (emit p n es e w) =
      AreNodes g es × IsNode g e
      × ((d : Declaration) × (slice_get g.tables n ≡ Some d) × (types_of es ≡ d.indexes) × (type_of e ≡ d.element)
      × IsWeightOf g d.weight w)
  IsStm g a (when p vs c s) =
      AreQuantified (in_condition g) vs × IsTest (with_all_bound vs (in_condition g)) c × (is_all_last vs ≡ true)
      × IsStm (with_all_bound (bound_inside vs) g) (out_of_loops a) s

  -- each statement is sound, and sees what those before it declare
  pub AreStms : Sight → Around → Stms → Type 0
  AreStms g a no_stms = Unit {0}
  AreStms g a (with_stm s ss) = IsStm g a s × AreStms (seen_after g s) a ss

-- the numbers of the first so many variables
abbrev pub first_numbers : ℕ → List ℕ
first_numbers zero = []
first_numbers (suc n) = n ∷ first_numbers n

-- what is declared before an item: the statics, functions and tables
pub record Declared : Type 0 where
  pub statics : List Shape
  pub functions : List Signature
  pub tables : List Declaration

-- what these items declare
abbrev pub declared_by : List Item → Declared
declared_by items = record {
  statics = map (λ (s : Static). s.type) (statics_of items);
  functions = map (λ (f : Function). f.signature) (functions_of items);
  tables = tables_of items;
}

-- what a static's value sees: statics and functions, and no function that emits may be called
abbrev pub static_sight : Declared → Sight
static_sight d = record {
  locals = [];
  seen = [];
  fixed = [];
  statics = d.statics;
  functions = d.functions;
  tables = [];
  input = false;
  may_emit = false;
}

-- what a function's statements see: its parameters, itself, and what is declared before it
abbrev pub function_sight : Declared → Function → Sight
function_sight d f = record {
  locals = f.locals;
  seen = first_numbers (length f.signature.parameters);
  fixed = [];
  statics = d.statics;
  functions = d.functions ++ f.signature ∷ [];
  tables = d.tables;
  input = false;
  may_emit = true;
}

-- the list begins with these, as the variables of a function do with its parameters
abbrev pub BeginsWith : {A : Type 0} → List A → List A → Type 0
BeginsWith {A} front whole = (rest : List A) × (whole ≡ front ++ rest)

-- the function is sound
pub record IsFunction (d : Declared) (f : Function) : Type 0 where
  pub parameters : BeginsWith f.signature.parameters f.locals
  pub types : are_well_formed (f.signature.result ∷ f.locals) ≡ true
  pub emits : f.signature.emits ≡ body_emits d.functions f.body
  pub body : AreStms (function_sight d f) (record { result = Some f.signature.result; loop = false }) f.body

-- the static is sound
pub record IsStatic (d : Declared) (s : Static) : Type 0 where
  pub well_formed : is_well_formed s.type ≡ true
  pub value : IsNode (static_sight d) s.value
  pub type : type_of s.value ≡ s.type

-- the table is sound: its kind allows it, its types are well formed, and there are fewer than 64 before it
pub record IsTable (d : Declared) (t : Declaration) : Type 0 where
  pub allowed : is_allowed t ≡ true
  pub indexes : are_well_formed t.indexes ≡ true
  pub element : is_well_formed t.element ≡ true
  pub few : length d.tables < 64

-- what a record's statements see
abbrev pub record_sight : List Shape → List ℕ → Declared → Sight
record_sight locals seen d = record {
  locals = locals;
  seen = seen;
  fixed = [];
  statics = d.statics;
  functions = d.functions;
  tables = d.tables;
  input = true;
  may_emit = true;
}

-- each item is sound, after what the items before it declare
unfoldable pub AreItems : List Shape → List ℕ → Declared → List Item → Type 0
AreItems locals seen d [] = Unit {0}
AreItems locals seen d (items.table t ∷ rest) = IsTable d t × AreItems locals seen (record d { tables = d.tables ++ t ∷ [] }) rest
AreItems locals seen d (items.function f ∷ rest) =
    IsFunction d f × AreItems locals seen (record d { functions = d.functions ++ f.signature ∷ [] }) rest
AreItems locals seen d (items.static s ∷ rest) = IsStatic d s × AreItems locals seen (record d { statics = d.statics ++ s.type ∷ [] }) rest
AreItems locals seen d (items.statement s ∷ rest) =
    let g = record_sight locals seen d in
    IsStm g (record { result = None; loop = false }) s × AreItems locals (seen_after g s).seen d rest

-- nothing is declared
abbrev pub nothing_declared : Declared
nothing_declared = record { statics = []; functions = []; tables = [] }

-- the program is sound
pub record IsSound (program : Core) : Type 0 where
  pub types : are_well_formed program.locals ≡ true
  pub items : AreItems program.locals [] nothing_declared program.items
