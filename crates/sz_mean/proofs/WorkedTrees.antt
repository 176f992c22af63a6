-- Small checked programs, written by hand, for the worked examples. Each place is a line and a column of the text
-- above it.
use Rattle.std.specs.Prelude.{ℕ, List, [], ◌∷◌, pos, false, None, Some, codes}
use Rattle.sz_types.specs.Data.{Shape}
use Rattle.sz_types.specs.declared.place.Place.{Place}
use Rattle.sz_types.specs.declared.table.TableKind.TheVariants.{Sum, Maximum}
use Rattle.sz_types.specs.declared.operator.BinOp.{BinOp}
use Rattle.sz_types.specs.declared.operator.BinOp.TheVariants.{Add, Sub, Div, Less, Greater, Equal}
use Rattle.sz_value.specs.Data.{Datum}
use Rattle.sz_core.specs.Nodes.{Node, node, Nodes, no_nodes, with_node, constant, local, input, call, convert, array, index, binary, both}
use Rattle.sz_core.specs.Statements.{Stm, at_index, block, clear, keep, store, while, for_loop, return_value, emit, stms_of, branch, Quantity, when}
use Rattle.sz_core.specs.Programs.{Function, Item, table, function, statement, Core, core_of}

abbrev pub at : ℕ → ℕ → Place
at row column = record { line = row; column = column }

abbrev pub number : Place → ℕ → Node
number p n = node p Shape.int (constant (Datum.int (pos n)))

abbrev pub text : Place → List ℕ → Node
text p s = node p Shape.str (constant (Datum.str s))

abbrev pub variable : Place → Shape → ℕ → Node
variable p t n = node p t (local n)

abbrev pub operated : Place → Shape → BinOp → Node → Node → Node
operated p t o a b = node p t (binary o a b)

abbrev pub sum_table : Item
sum_table = table (record { name = codes "c"; kind = Sum; limit = 0; indexes = []; element = Shape.int; weight = None })

abbrev pub weighted_table : Item
weighted_table = table (record {
  name = codes "c";
  kind = Maximum;
  limit = 2;
  indexes = [];
  element = Shape.int;
  weight = Some Shape.int;
})

-- c: table sum of int;
-- emit c <- 1 + 2;
abbrev pub emits_sum : Core
emits_sum = core_of (sum_table ∷ statement (emit (at 2 1) 0 no_nodes
    (operated (at 2 11) Shape.int Add (number (at 2 11) 1) (number (at 2 15) 2)) None) ∷ []) []

-- s: string = "ab" + "c";
abbrev pub joins_texts : Core
joins_texts = core_of
    (statement (keep (at 1 1) 0
    (operated (at 1 13) Shape.str Add (text (at 1 13) (codes "ab")) (text (at 1 20) (codes "c")))) ∷ [])
    (Shape.str ∷ [])

-- x: int = input;
abbrev pub number_of_record : Stm
number_of_record = keep (at 1 1) 0 (node (at 1 10) Shape.int (convert (node (at 1 10) Shape.bytes input)))

-- x: int = input;
-- while (x > 0) x = x - 1;
abbrev pub counts_down : Core
counts_down = core_of
    (statement number_of_record
    ∷ statement
    (while (at 2 1) (operated (at 2 8) Shape.truth Greater (variable (at 2 8) Shape.int 0) (number (at 2 12) 0))
    (store (at 2 15) 0 [] (operated (at 2 19) Shape.int Sub (variable (at 2 19) Shape.int 0) (number (at 2 23) 1))))
    ∷ []) (Shape.int ∷ [])

-- c: table sum of int;
-- for (i: int = 0; i < 3; i++) emit c <- i;
abbrev pub counts_up : Core
counts_up = core_of
    (sum_table
    ∷ statement (block (stms_of (keep (at 2 6) 0 (number (at 2 15) 0)
    ∷ for_loop (at 2 1)
    (Some (operated (at 2 18) Shape.truth Less (variable (at 2 18) Shape.int 0) (number (at 2 22) 3)))
    (store (at 2 25) 0 [] (operated (at 2 25) Shape.int Add (variable (at 2 25) Shape.int 0) (number (at 2 25) 1)))
    (emit (at 2 30) 0 no_nodes (variable (at 2 40) Shape.int 0) None) ∷ []))) ∷ [])
    (Shape.int ∷ [])

-- c: table sum of int;
-- x: int = input;
-- if (x > 0) emit c <- 1;
abbrev pub emits_if : Core
emits_if = core_of
    (sum_table
    ∷ statement (keep (at 2 1) 0 (node (at 2 10) Shape.int (convert (node (at 2 10) Shape.bytes input))))
    ∷ statement
    (branch (at 3 1) (operated (at 3 5) Shape.truth Greater (variable (at 3 5) Shape.int 0) (number (at 3 9) 0))
    (emit (at 3 12) 0 no_nodes (number (at 3 22) 1) None) (block (stms_of []))) ∷ [])
    (Shape.int ∷ [])

-- a: array of int = {1};
-- a[1] = 5;
abbrev pub stores_outside : Core
stores_outside = core_of
    (statement
    (keep (at 1 1) 0 (node (at 1 19) (Shape.array Shape.int) (array (with_node (number (at 1 20) 1) no_nodes))))
    ∷ statement (store (at 2 1) 0 (at_index (number (at 2 3) 1) ∷ []) (number (at 2 8) 5)) ∷ [])
    (Shape.array Shape.int ∷ [])

-- a function's argument, one more
abbrev pub one_more : Nodes
one_more = with_node (operated (at 1 37) Shape.int Add (variable (at 1 37) Shape.int 0) (number (at 1 41) 1)) no_nodes

-- f: function(n: int): int { return f(n + 1); }
abbrev pub calls_itself : Function
calls_itself = record {
  signature = record { parameters = Shape.int ∷ []; result = Shape.int; emits = false };
  locals = Shape.int ∷ [];
  body = stms_of (return_value (at 1 28) (node (at 1 35) Shape.int (call 0 one_more)) ∷ []);
}

-- f: function(n: int): int { return f(n + 1); }
-- x: int = f(0);
abbrev pub calls_on : Core
calls_on = core_of
    (function calls_itself
    ∷ statement (keep (at 2 1) 0 (node (at 2 10) Shape.int (call 0 (with_node (number (at 2 12) 0) no_nodes)))) ∷ [])
    (Shape.int ∷ [])

-- c: table maximum(2) of int weight int;
-- emit c <- 1 weight 1 / 0;
abbrev pub emits_without_weight : Core
emits_without_weight = core_of
    (weighted_table
    ∷ statement (emit (at 2 1) 0 no_nodes (number (at 2 11) 1)
    (Some (operated (at 2 20) Shape.int Div (number (at 2 20) 1) (number (at 2 24) 0)))) ∷ []) []

-- x: bool;
-- y: bool = x && 1 == 1;
abbrev pub undefined_left : Core
undefined_left = core_of
    (statement (clear 0)
    ∷ statement (keep (at 2 1) 1 (node (at 2 11) Shape.truth (both (variable (at 2 11) Shape.truth 0)
    (operated (at 2 16) Shape.truth Equal (number (at 2 16) 1) (number (at 2 21) 1))))) ∷ [])
    (Shape.truth ∷ Shape.truth ∷ [])

-- a: array of int = {3, 5};
abbrev pub two_numbers : Stm
two_numbers = keep (at 2 1) 0 (node (at 2 19) (Shape.array Shape.int)
    (array (with_node (number (at 2 20) 3) (with_node (number (at 2 23) 5) no_nodes))))

-- a[i] == e
abbrev pub element_is : Node → Node
element_is e =
    let element = node (at 3 20) Shape.int
    (index (variable (at 3 20) (Shape.array Shape.int) 0) (variable (at 3 22) Shape.int 1)) in
    operated (at 3 20) Shape.truth Equal element e

-- 3 / 0
abbrev pub nothing : Node
nothing = operated (at 3 28) Shape.int Div (number (at 3 28) 3) (number (at 3 32) 0)

-- emit c <- i;
abbrev pub emits_place : Stm
emits_place = emit (at 3 31) 0 no_nodes (variable (at 3 41) Shape.int 1) None

-- emit c <- 7;
abbrev pub emits_seven : Stm
emits_seven = emit (at 3 36) 0 no_nodes (number (at 3 46) 7) None

-- c: table sum of int;
-- a: array of int = {3, 5};
-- when (i: some int; a[i] == 3) emit c <- i;
abbrev pub searches : Quantity → Node → Stm → Core
searches quantity e body = core_of
    (sum_table ∷ statement two_numbers
    ∷ statement (when (at 3 1) (record {
      quantity = quantity;
      local = 1;
      base = variable (at 3 20) (Shape.array Shape.int) 0;
      slice = false;
    } ∷ [])
    (element_is e) body) ∷ [])
    (Shape.array Shape.int ∷ Shape.int ∷ [])
