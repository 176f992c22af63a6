-- Checked programs: declarations and statements at the top level, in the order of the text.
use Rattle.std.specs.Prelude.{List, [], ◌∷◌, Bool}
use Rattle.sz_types.specs.Data.{Shape}
use Rattle.sz_types.specs.Tables.{Declaration}
use Rattle.sz_types.specs.declared.place.Place.{Place}
use Rattle.sz_core.specs.Nodes.{Node}
use Rattle.sz_core.specs.Statements.{Stm, Stms}

-- what a call needs to know of a function: the types of its parameters, that of its result, and whether it emits,
-- itself or through a function that it calls
pub record Signature : Type 0 where
  pub parameters : List Shape
  pub result : Shape
  pub emits : Bool

-- a function: its signature, the types of its variables by number, its parameters first, and its statements
pub record Function : Type 0 where
  pub signature : Signature
  pub locals : List Shape
  pub body : Stms

-- a static: the place of its first token, its type and its value
pub record Static : Type 0 where
  pub place : Place
  pub type : Shape
  pub value : Node

-- what stands at the top level. Tables, functions and statics have numbers from 0 in this order, each kind its own.
pub data Item : Type 0 where
  table : Declaration → Item
  function : Function → Item
  static : Static → Item
  statement : Stm → Item

-- a program: its items in order, and the types of the record's variables by number
pub record Core : Type 0 where
  pub items : List Item
  pub locals : List Shape

-- the program of these items, with these types of the record's variables
abbrev pub core_of : List Item → List Shape → Core
core_of items locals = record { items = items; locals = locals }

-- the tables of a program, in order
abbrev pub tables_of : List Item → List Declaration
tables_of [] = []
tables_of (table d ∷ items) = d ∷ tables_of items
tables_of (_ ∷ items) = tables_of items

-- the functions of a program, in order
abbrev pub functions_of : List Item → List Function
functions_of [] = []
functions_of (function f ∷ items) = f ∷ functions_of items
functions_of (_ ∷ items) = functions_of items

-- the statics of a program, in order
abbrev pub statics_of : List Item → List Static
statics_of [] = []
statics_of (static s ∷ items) = s ∷ statics_of items
statics_of (_ ∷ items) = statics_of items

-- the statements that run for each record, in order
abbrev pub statements_of : List Item → List Stm
statements_of [] = []
statements_of (statement s ∷ items) = s ∷ statements_of items
statements_of (_ ∷ items) = statements_of items
