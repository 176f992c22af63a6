-- The checked program that a tree is, or its first refusal.
use Rattle.std.specs.Prelude.{ℕ, ◌+◌, pos, negsuc, ℤ, List, [], ◌∷◌, ◌++◌, length, Bool, true, false, if◌then◌else◌, nat_lt, Option, Some, None, Ok, codes}
use Rattle.std.specs.Prelude.{bytes_eq}
use Rattle.sz_types.specs.Data.{Shape}
use Rattle.sz_types.specs.Tables.{Declaration}
use Rattle.sz_types.specs.declared.place.Place.{Place}
use Rattle.sz_types.specs.declared.table.TableKind.{TableKind}
use Rattle.sz_types.specs.declared.table.TableKind.TheVariants.{Sum, Maximum, Minimum, Set, Collection}
use Rattle.sz_tree.specs.Names.{Ident}
use Rattle.sz_tree.specs.Expressions.{Exp}
use Rattle.sz_tree.specs.Statements.{ElemForm, TableForm, Stm, static, typedef, table, function, Stms, no_stms, stm}
use Rattle.sz_tree.specs.Types.{Typ, Params, no_params, param}
use Rattle.sz_core.specs.Programs.{Signature, Static, Item, Core}
use Rattle.sz_core.specs.Programs as items
use Rattle.sz_core.specs.WellFormed.{is_allowed}
use Rattle.sz_check_rules.specs.Refusals.{Judged, ◌>>=◌, unless, no_kind, bad_table, too_many}
use Rattle.sz_check_rules.specs.Names.{Block, only, is_seen_by_functions, is_seen_by_statics, predeclared_names}
use Rattle.sz_check_rules.specs.Names as names
use Rattle.sz_check_rules.specs.JudgingTypes.{judge_type}
use Rattle.sz_check_rules.specs.JudgingExpressions.{judge_exp}
use Rattle.sz_check_rules.specs.Agreeing.{converted}
use Rattle.sz_check_rules.specs.Scene.{Scene}
use Rattle.sz_check_rules.specs.EmittingTrees.{emits_by, stms_emit}
use Rattle.sz_check_rules.specs.JudgingStatements.{Around, judge_stm, judge_stms}

-- what is known in front of a statement at the top level: the scene, and how much of each kind is declared
pub record TopScene : Type 0 where
  pub scene : Scene
  pub tables : ℕ
  pub statics : ℕ
  pub functions : List Signature

-- the items that a statement at the top level is, and what is known after it
pub record Found : Type 0 where
  pub known : TopScene
  pub items : List Item

-- the blocks in front of a statement at the top level
abbrev pub blocks_of : TopScene → List Block
blocks_of k = k.scene.blocks

-- what is known, with other blocks
abbrev pub with_blocks : TopScene → List Block → TopScene
with_blocks k blocks = record k { scene = record { blocks = blocks; locals = k.scene.locals } }

-- the kind of table that a word is
abbrev pub kind_of : Ident → Judged TableKind
kind_of n =
    if bytes_eq n.text (codes "sum") then Ok Sum
    else (if bytes_eq n.text (codes "maximum") then Ok Maximum
    else (if bytes_eq n.text (codes "minimum") then Ok Minimum
    else (if bytes_eq n.text (codes "set") then Ok Set
    else (if bytes_eq n.text (codes "collection") then Ok Collection else no_kind n))))

-- whether a kind of table has a limit
abbrev pub has_limit : TableKind → Bool
has_limit Sum = false
has_limit Collection = false
has_limit _ = true

-- the limit of a table by the number after its kind: 0 where the kind has none, and none where the number is missing,
-- is one too many, or can be no limit
abbrev pub limit_of : TableKind → Option ℤ → Option ℕ
limit_of kind None = if has_limit kind then None else Some 0
limit_of kind (Some (pos n)) = if has_limit kind then Some n else None
limit_of kind (Some (negsuc n)) = None

-- the types of a table's indexes, in order
unfoldable pub judge_elems : List Block → List ElemForm → Judged (List Shape)
judge_elems blocks [] = Ok []
judge_elems blocks (e ∷ es) = do
  t ← judge_type blocks e.of
  ts ← judge_elems blocks es
  Ok (t ∷ ts)

abbrev pub judge_weight : List Block → Option ElemForm → Judged (Option Shape)
judge_weight blocks None = Ok None
judge_weight blocks (Some e) = do
  t ← judge_type blocks e.of
  Ok (Some t)

-- the declaration, if its kind allows it
abbrev pub allowed : Ident → Declaration → Judged Declaration
allowed kind d = if is_allowed d then Ok d else bad_table kind.place

-- a declaration by its parts; the limit is wrong where there is none
abbrev pub declaration_of : Ident → Ident → TableKind → Option ℕ → List Shape → Shape → Option Shape
    → Judged Declaration
declaration_of n word kind None indexes element weight = bad_table word.place
declaration_of n word kind (Some limit) indexes element weight =
    allowed word
    (record { name = n.text; kind = kind; limit = limit; indexes = indexes; element = element; weight = weight })

-- the most tables of a program
abbrev pub most_tables : ℕ
most_tables = 64

-- the types of the indexes, of the element and of the weights
pub record TableTypes : Type 0 where
  pub indexes : List Shape
  pub element : Shape
  pub weight : Option Shape

abbrev pub judge_types : List Block → TableForm → Judged TableTypes
judge_types blocks f = do
  indexes ← judge_elems blocks f.indexes
  element ← judge_type blocks f.of.of
  weight ← judge_weight blocks f.weight
  Ok (record { indexes = indexes; element = element; weight = weight })

-- the declaration that a table's tree stands for
abbrev pub judge_table_declaration : List Block → Ident → TableForm → Judged Declaration
judge_table_declaration blocks n f = do
  kind ← kind_of f.kind
  types ← judge_types blocks f
  declaration_of n f.kind kind (limit_of kind f.argument) types.indexes types.element types.weight

-- a table under its name, with the next number
abbrev pub declare_table : TopScene → Ident → Declaration → Judged Found
declare_table k n d = do
  _ ← unless (nat_lt k.tables most_tables) (too_many n.place)
  blocks ← names.declare n (names.table k.tables d) (blocks_of k)
  Ok (record { known = record (with_blocks k blocks) { tables = 1 + k.tables }; items = items.table d ∷ [] })

-- `name: table kind (limit) [index].. of element weight weight;`
abbrev pub judge_table : TopScene → Ident → TableForm → Judged Found
judge_table k n f = do
  d ← judge_table_declaration (blocks_of k) n f
  declare_table k n d

-- the parameters of a function, each a variable of it; a parameter is declared before the next one is judged
unfoldable pub judge_parameters : Scene → Params → Judged Scene
judge_parameters s no_params = Ok s
judge_parameters s (param n t ps) = do
  u ← judge_type s.blocks t
  blocks ← names.declare n (names.variable (length s.locals) u) s.blocks
  judge_parameters (record { blocks = blocks; locals = s.locals ++ u ∷ [] }) ps

-- the innermost block in front of other blocks
abbrev pub innermost_on : List Block → List Block → List Block
innermost_on [] outer = outer
innermost_on (block ∷ blocks) outer = block ∷ outer

-- where the statements of a function begin
abbrev pub in_function : Shape → Around
in_function t = record { result = Some t; loop = false }

-- `name: function(parameters): type {statements}`: the parameters and the type of the result, then the function's own
-- name, and then its statements, which see it. Whether it emits goes by its text; a call of itself adds nothing.
abbrev pub judge_function : TopScene → Ident → Params → Typ → Stms → Judged Found
judge_function k n ps t ss = do
  front ← judge_parameters (record { blocks = [] ∷ only is_seen_by_functions (blocks_of k); locals = [] }) ps
  u ← judge_type front.blocks t
  let signature : Signature = record {
    parameters = front.locals;
    result = u;
    emits = stms_emit (emits_by front.blocks) (n.text ∷ []) ss;
  }
  own ← names.declare n (names.function (length k.functions) signature) (blocks_of k)
  body ← judge_stms (in_function u)
      (record { blocks = innermost_on front.blocks (only is_seen_by_functions own); locals = front.locals }) ss
  Ok (record {
    known = record (with_blocks k own) { functions = k.functions ++ signature ∷ [] };
    items = items.function (record { signature = signature; locals = body.scene.locals; body = body.stms }) ∷ [];
  })

-- a static under its name, with the next number
abbrev pub declare_static : TopScene → Ident → Static → Judged Found
declare_static k n s = do
  blocks ← names.declare n (names.static k.statics s.type) (blocks_of k)
  Ok (record { known = record (with_blocks k blocks) { statics = 1 + k.statics }; items = items.static s ∷ [] })

-- `static name: type = e;`
abbrev pub judge_static : TopScene → Place → Ident → Typ → Exp → Judged Found
judge_static k p n t e = do
  u ← judge_type (blocks_of k) t
  m ← judge_exp (only is_seen_by_statics (blocks_of k)) false (Some u) e
  value ← converted u e m
  declare_static k n (record { place = p; type = u; value = value })

-- `type name = type;`
abbrev pub judge_typedef : TopScene → Ident → Typ → Judged Found
judge_typedef k n t = do
  u ← judge_type (blocks_of k) t
  blocks ← names.declare n (names.type_name u) (blocks_of k)
  Ok (record { known = with_blocks k blocks; items = [] })

-- a statement that runs for each record
abbrev pub judge_statement : TopScene → Stm → Judged Found
judge_statement k s = do
  m ← judge_stm (record { result = None; loop = false }) k.scene s
  Ok (record { known = record k { scene = m.scene }; items = items.statement m.stm ∷ [] })

-- a statement at the top level
abbrev pub judge_top : TopScene → Stm → Judged Found
judge_top k (static p n t e) = judge_static k p n t e
judge_top k (typedef p n t) = judge_typedef k n t
judge_top k (table n f) = judge_table k n f
judge_top k (function n ps t ss) = judge_function k n ps t ss
judge_top k s = judge_statement k s

-- statements at the top level, in order
unfoldable pub judge_all : TopScene → Stms → Judged Found
judge_all k no_stms = Ok (record { known = k; items = [] })
judge_all k (stm s ss) = do
  first ← judge_top k s
  rest ← judge_all first.known ss
  Ok (record { known = rest.known; items = first.items ++ rest.items })

-- what is known at first: the predeclared names, in a block round the program's own
abbrev pub known_at_first : TopScene
known_at_first = record {
  scene = record { blocks = [] ∷ predeclared_names ∷ []; locals = [] };
  tables = 0;
  statics = 0;
  functions = [];
}

-- the program, or its first refusal
abbrev pub judge_program : Stms → Judged Core
judge_program ss = do
  found ← judge_all known_at_first ss
  Ok (record { items = found.items; locals = found.known.scene.locals })
