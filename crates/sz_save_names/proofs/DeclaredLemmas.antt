-- The declarations of a program that a text spells have a spelling in a saved file.
use Rattle.std.proofs.Common.{◌≡◌, ℕ, ◌+◌, ◌<◌, ◌≤◌, ◌^◌, Bool, true, false, true≢false, List, [], ◌∷◌, ◌++◌, length, refl, sym, ap, subst, arith, codes}
use Rattle.std.specs.Prelude.{nat_eq, nat_le, Option, Some, None}
use Rattle.std.specs.List.{AllByRecursion}
use Rattle.std.proofs.lemmas.Bool.{and_parts, eqb-true, leb-true}
use Rattle.std.proofs.lemmas.List.{length-append}
use Rattle.sz_types.specs.Data.{Shape}
use Rattle.sz_types.specs.Tables.{Declaration}
use Rattle.sz_types.specs.declared.place.Place.{Place}
use Rattle.sz_types.specs.declared.table.TableKind.{TableKind}
use Rattle.sz_types.specs.declared.table.TableKind.TheVariants.{Sum, Maximum, Minimum, Set, Collection}
use Rattle.sz_lex.specs.declared.token.Token.{Token}
use Rattle.sz_lex.specs.Laws.{LieInOrder}
use Rattle.sz_lex.specs.Lexed.{lexeme_of}
use Rattle.sz_tree.specs.Names.{Ident}
use Rattle.sz_tree.specs.Types.{Typ, Params}
use Rattle.sz_tree.specs.Expressions.{Exp}
use Rattle.sz_tree.specs.Statements.{TableForm, Stm, static, typedef, table, function, Stms, no_stms, stm}
use Rattle.sz_parse.specs.Program.{Spells}
use Rattle.sz_core.specs.Programs.{Signature, Item, Core, tables_of}
use Rattle.sz_core.specs.Programs as items
use Rattle.sz_core.specs.Sound.{Declared, AreItems, nothing_declared, IsSound}
use Rattle.sz_core.specs.WellFormed.{is_between, is_weight, has_no_weight, kind_allows, is_allowed}
use Rattle.sz_check_rules.specs.Names.{Block, Named, only, is_seen_by_functions, is_seen_by_statics}
use Rattle.sz_check_rules.specs.Names as names
use Rattle.sz_check_rules.specs.Agreeing.{converted}
use Rattle.sz_check_rules.specs.EmittingTrees.{emits_by, stms_emit}
use Rattle.sz_check_rules.specs.JudgingTypes.{judge_type}
use Rattle.sz_check_rules.specs.Scene.{Scene}
use Rattle.sz_check_rules.specs.JudgingExpressions.{judge_exp}
use Rattle.sz_check_rules.specs.JudgingPrograms.{TopScene, Found, blocks_of, with_blocks, kind_of, limit_of, judge_weight, allowed, declaration_of}
use Rattle.sz_check_rules.specs.JudgingPrograms.{TableTypes, judge_types, judge_table_declaration, judge_table, judge_parameters, judge_function}
use Rattle.sz_check_rules.specs.JudgingPrograms.{judge_static, judge_typedef, judge_statement, judge_top, judge_all}
use Rattle.sz_check_rules.proofs.Holds.{Holds, good, ok_holds, err_holds, bind_holds, if_holds}
use Rattle.sz_check_rules.specs.JudgingWithTypes.{NamedShape, named_type, block_of_types, known_with, judge_program_with}
use Rattle.sz_check_rules.proofs.ForCallers.{Mean, declared}
use Rattle.sz_save_names.specs.Laws.{TypesHaveBytes}
use Rattle.sz_mean.specs.Marked.{table_of_lines, with_lines, marked, all_tables}
use Rattle.sz_flat.specs.Spelling.{IsShort}
use Rattle.sz_save_format.specs.Declarations.{IsSavedWeight, IsSavedDeclaration}
use Rattle.sz_save_format.specs.Decoding.{is_name}
use Rattle.sz_save_format.specs.Names.{HasName}
use Rattle.sz_save_format.specs.Types.{HasTypeBytes, height, most_height, IsSavedType}
use Rattle.sz_save_format.proofs.NameLemmas.{name_told}
use Rattle.sz_save.specs.Saving.{HaveSpelling, are_low, is_low, are_all_low}
use Rattle.sz_save_names.proofs.TreeNames.{IsWritten, IsWrittenTable, IsWrittenStm, AreWrittenStms, stms_written}
use Rattle.sz_save_names.proofs.TextLemmas.{names_of, names_are, agrees, few_tokens}
use Rattle.sz_save_names.proofs.TypeLemmas.{IsSpelled, AreIndexes, type_spelled, indexes_spelled}
use Rattle.sz_save_names.proofs.ScopeLemmas.{anything, stm_keeps}

-- what is known of a declaration by its names: it has its bytes but for what its kind asks
record HasBytes (d : Declaration) : Type 0 where
  name : HasName d.name
  few : IsShort (length d.indexes)
  indexes : AllByRecursion HasTypeBytes d.indexes
  element : HasTypeBytes d.element

-- what is known after a statement at the top level: what names of types stand for has its bytes, and so have the tables
record IsFound (found : Found) : Type 0 where
  mean : Mean IsSpelled (blocks_of found.known)
  tables : AllByRecursion HasBytes (tables_of found.items)

-- ---- each statement at the top level

module _ (k : TopScene) (mean : Mean IsSpelled (blocks_of k)) where
  -- the types of a table that is written so
  record AreTypes (f : TableForm) (types : TableTypes) : Type 0 where
    indexes : AreIndexes (length f.indexes) types.indexes
    element : HasTypeBytes types.element

  types_found : (f : TableForm) (n : Ident) → IsWrittenTable n f → Holds (judge_types (blocks_of k) f) (AreTypes f)
  types_found f n w = bind_holds (indexes_spelled (blocks_of k) mean f.indexes w.indexes) (λ indexes are.
      bind_holds (type_spelled (blocks_of k) mean f.of.of w.element)
      (λ element is. bind_holds (anything (judge_weight (blocks_of k) f.weight)) (λ weight _.
      ok_holds (AreTypes f) (record { indexes = indexes; element = element; weight = weight })
      (record { indexes = are; element = is }))))

  made : (f : TableForm) (n word : Ident) (kind : TableKind) (limit : Option ℕ) (types : TableTypes)
      → IsWrittenTable n f → AreTypes f types
      → Holds (declaration_of n word kind limit types.indexes types.element types.weight) HasBytes
  made f n word kind None types w are = err_holds _ _
  made f n word kind (Some limit) types w are =
      let d : Declaration = record {
        name = n.text;
        kind = kind;
        limit = limit;
        indexes = types.indexes;
        element = types.element;
        weight = types.weight;
      } in
      if_holds (is_allowed d) (λ fine. ok_holds HasBytes d (record {
        name = w.name;
        few = subst IsShort (sym are.indexes.many) w.few;
        indexes = are.indexes.spelled;
        element = are.element;
      })) (λ bad. err_holds _ _)

  declaration_found : (f : TableForm) (n : Ident) → IsWrittenTable n f
      → Holds (judge_table_declaration (blocks_of k) n f) HasBytes
  declaration_found f n w =
      bind_holds (anything (kind_of f.kind)) (λ kind _. bind_holds (types_found f n w) (λ types are.
      made f n f.kind kind (limit_of kind f.argument) types w are))

  table_found : (n : Ident) (f : TableForm) → IsWrittenTable n f → Holds (judge_table k n f) IsFound
  table_found n f w = bind_holds (declaration_found f n w) (λ d has. bind_holds (anything _) (λ few _.
      bind_holds (declared IsSpelled n (names.table k.tables d) (blocks_of k) tt mean) (λ blocks mean_now.
      ok_holds IsFound _ (record { mean = mean_now; tables = (has, tt) }))))

  static_found : (p : Place) (n : Ident) (t : Typ) (e : Exp) → Holds (judge_static k p n t e) IsFound
  static_found p n t e = bind_holds (anything (judge_type (blocks_of k) t)) (λ u _.
      bind_holds (anything (judge_exp (only is_seen_by_statics (blocks_of k)) false (Some u) e)) (λ m _.
      bind_holds (anything (converted u e m))
      (λ value _. bind_holds (declared IsSpelled n (names.static k.statics u) (blocks_of k) tt mean)
      (λ blocks mean_now. ok_holds IsFound _ (record { mean = mean_now; tables = tt })))))

  typedef_found : (n : Ident) (t : Typ) → IsWritten t → Holds (judge_typedef k n t) IsFound
  typedef_found n t w = bind_holds (type_spelled (blocks_of k) mean t w) (λ u has.
      bind_holds (declared IsSpelled n (names.type_name u) (blocks_of k) has mean) (λ blocks mean_now.
      ok_holds IsFound (record { known = with_blocks k blocks; items = [] }) (record { mean = mean_now; tables = tt })))

  function_found : (n : Ident) (ps : Params) (t : Typ) (ss : Stms) → Holds (judge_function k n ps t ss) IsFound
  function_found n ps t ss =
      let outer : Scene = record { blocks = [] ∷ only is_seen_by_functions (blocks_of k); locals = [] } in
      bind_holds (anything (judge_parameters outer ps))
      (λ front _. bind_holds (anything (judge_type front.blocks t)) (λ u _.
      let signature : Signature = record {
        parameters = front.locals;
        result = u;
        emits = stms_emit (emits_by front.blocks) (n.text ∷ []) ss;
      } in
      bind_holds (declared IsSpelled n (names.function (length k.functions) signature) (blocks_of k) tt mean)
      (λ own mean_now. bind_holds (anything _)
      (λ body _. ok_holds IsFound _ (record { mean = mean_now; tables = tt })))))

  statement_found : (s : Stm) → Holds (judge_statement k s) IsFound
  statement_found s =
      bind_holds (stm_keeps IsSpelled (λ n t. tt) (record { result = None; loop = false }) k.scene s mean) (λ m keeps.
      ok_holds IsFound (record { known = record k { scene = m.scene }; items = items.statement m.stm ∷ [] })
      (record { mean = keeps; tables = tt }))

  top_found : (s : Stm) → IsWrittenStm s → Holds (judge_top k s) IsFound
  top_found (static p n t e) w = static_found p n t e
  top_found (typedef p n t) w = typedef_found n t w
  top_found (table n f) w = table_found n f w
  top_found (function n ps t ss) w = function_found n ps t ss
  top_found s w = statement_found s

-- ---- the whole program

all_both : {X : Type 0} (P : X → Type 0) (xs ys : List X) → AllByRecursion P xs → AllByRecursion P ys
    → AllByRecursion P (xs ++ ys)
all_both P [] ys h k = k
all_both P (x ∷ xs) ys h k = (h.0, all_both P xs ys h.1 k)

tables_of_both : (xs ys : List Item) → tables_of (xs ++ ys) ≡ tables_of xs ++ tables_of ys
tables_of_both [] ys = refl
tables_of_both (items.table d ∷ xs) ys = ap (λ l. d ∷ l) (tables_of_both xs ys)
tables_of_both (items.function f ∷ xs) ys = tables_of_both xs ys
tables_of_both (items.static s ∷ xs) ys = tables_of_both xs ys
tables_of_both (items.statement s ∷ xs) ys = tables_of_both xs ys

all_found : (k : TopScene) (ss : Stms) → Mean IsSpelled (blocks_of k) → AreWrittenStms ss
    → Holds (judge_all k ss) IsFound
unfolding judge_all
all_found k no_stms mean w = ok_holds IsFound (record { known = k; items = [] }) (record { mean = mean; tables = tt })
all_found k (stm s ss) mean w =
    bind_holds (top_found k mean s w.0) (λ first is. bind_holds (all_found first.known ss is.mean w.1) (λ rest are.
    ok_holds IsFound (record { known = rest.known; items = first.items ++ rest.items }) (record {
      mean = are.mean;
      tables = subst (AllByRecursion HasBytes) (sym (tables_of_both first.items rest.items))
          (all_both HasBytes (tables_of first.items) (tables_of rest.items) is.tables are.tables);
    })))

abbrev HaveBytes : Core → Type 0
HaveBytes program = AllByRecursion HasBytes (tables_of program.items)

-- types that have their bytes, in a block
one_more : (b : Block) (n : Named) → Mean IsSpelled (b ∷ []) → IsSpelled n.meaning → Mean IsSpelled ((b ++ n ∷ []) ∷ [])
one_more [] n h p = ((p, tt), tt)
one_more (x ∷ b) n h p = ((h.0.0, (one_more b n (h.0.1, tt) p).0), tt)

block_mean : (types : List NamedShape) → TypesHaveBytes types → Mean IsSpelled (block_of_types types ∷ [])
block_mean [] h = (tt, tt)
block_mean (t ∷ types) h = one_more (block_of_types types) (named_type t) (block_mean types h.1) h.0

program_found : (types : List NamedShape) → TypesHaveBytes types → (ss : Stms) → AreWrittenStms ss
    → Holds (judge_program_with types ss) HaveBytes
program_found types have ss w =
    bind_holds
    (all_found (known_with types) ss (tt, ((block_mean types have).0, ((tt, (tt, (tt, (tt, (tt, tt))))), tt))) w)
    (λ found is. ok_holds HaveBytes _ is.tables)

-- ---- what kinds allow, and how many tables there are

-- a limit is short
at_most : (least most n : ℕ) → is_between least most n ≡ true → most < 2 ^ 32 → IsShort n
at_most least most n h low =
    let below : n ≤ most = leb-true n most (and_parts (nat_le least n) (nat_le n most) h).1 in
    omega (arith, below, low)

limit_short : (d : Declaration) (kind : TableKind) → kind_allows kind d ≡ true → IsShort d.limit
limit_short d Sum h = none d.limit (and_parts _ _ (and_parts _ _ h).0).0
  where
    none : (n : ℕ) → nat_eq n 0 ≡ true → IsShort n
    none n h = let zero = eqb-true n 0 h in omega (arith, zero)
limit_short d Maximum h =
    at_most 1 10000 d.limit (and_parts (is_between 1 10000 d.limit) (is_weight d.weight) h).0 (omega arith)
limit_short d Minimum h =
    at_most 1 10000 d.limit (and_parts (is_between 1 10000 d.limit) (is_weight d.weight) h).0 (omega arith)
limit_short d Set h =
    at_most 1 1000000 d.limit (and_parts (is_between 1 1000000 d.limit) (has_no_weight d.weight) h).0 (omega arith)
limit_short d Collection h = let zero = eqb-true d.limit 0 (and_parts _ _ h).0 in omega (arith, zero)

-- a weight is a number or a time
weight_saved : (w : Option Shape) → is_weight w ≡ true → IsSavedWeight w
weight_saved None h = tt
weight_saved (Some Shape.int) h = record { has = tt; low = omega arith }
weight_saved (Some Shape.time) h = record { has = tt; low = omega arith }
weight_saved (Some _) h = absurd (true≢false (sym h))

none_saved : (w : Option Shape) → has_no_weight w ≡ true → IsSavedWeight w
none_saved None h = tt
none_saved (Some t) h = absurd (true≢false (sym h))

weight_allowed : (d : Declaration) (kind : TableKind) → kind_allows kind d ≡ true → IsSavedWeight d.weight
weight_allowed d Sum h = none_saved d.weight (and_parts _ _ h).1
weight_allowed d Maximum h = weight_saved d.weight (and_parts _ _ h).1
weight_allowed d Minimum h = weight_saved d.weight (and_parts _ _ h).1
weight_allowed d Set h = none_saved d.weight (and_parts _ _ h).1
weight_allowed d Collection h = none_saved d.weight (and_parts _ _ h).1

-- types of few levels that have their bytes can be saved
types_saved : (ts : List Shape) → AllByRecursion HasTypeBytes ts → are_low ts ≡ true → AllByRecursion IsSavedType ts
types_saved [] has low = tt
types_saved (t ∷ ts) has low =
    let parts = and_parts (nat_le (height t) most_height) (are_low ts) low in
    (record { has = has.0; low = leb-true (height t) most_height parts.0 }, types_saved ts has.1 parts.1)

declaration_saved : (d : Declaration) → HasBytes d → is_allowed d ≡ true → is_low d ≡ true → IsSavedDeclaration d
declaration_saved d has allowed low =
    let types = types_saved (d.element ∷ d.indexes) (has.element, has.indexes) low in
    record {
      name = has.name;
      limit = limit_short d d.kind allowed;
      few = has.few;
      indexes = types.1;
      element = types.0;
      weight = weight_allowed d d.kind allowed;
      allowed = allowed;
    }

-- the tables of sound items are allowed, and there are at most 64 of them
record AreAllowed (before : ℕ) (ds : List Declaration) : Type 0 where
  each : AllByRecursion (λ (d : Declaration). is_allowed d ≡ true) ds
  few : before + length ds ≤ 64

tables_allowed : (locals : List Shape) (seen : List ℕ) (d : Declared) (xs : List Item) → length d.tables ≤ 64
    → AreItems locals seen d xs → AreAllowed (length d.tables) (tables_of xs)
unfolding AreItems
tables_allowed locals seen d [] few h = record { each = tt; few = omega (arith, few) }
tables_allowed locals seen d (items.table t ∷ xs) few h =
    let longer = length-append d.tables (t ∷ []) in
    let room = h.0.few in
    let rest =
    tables_allowed locals seen (record d { tables = d.tables ++ t ∷ [] }) xs (omega (arith, longer, room)) h.1 in
    record { each = (h.0.allowed, rest.each); few = let all = rest.few in omega (arith, longer, all) }
tables_allowed locals seen d (items.function f ∷ xs) few h =
    let rest = tables_allowed locals seen (record d { functions = d.functions ++ f.signature ∷ [] }) xs few h.1 in
    record { each = rest.each; few = rest.few }
tables_allowed locals seen d (items.static s ∷ xs) few h =
    let rest = tables_allowed locals seen (record d { statics = d.statics ++ s.type ∷ [] }) xs few h.1 in
    record { each = rest.each; few = rest.few }
tables_allowed locals seen d (items.statement s ∷ xs) few h =
    let rest = tables_allowed locals _ d xs few h.1 in
    record { each = rest.each; few = rest.few }

all_declared : (ds : List Declaration) → AllByRecursion HasBytes ds
    → AllByRecursion (λ (d : Declaration). is_allowed d ≡ true) ds → are_all_low ds ≡ true
    → AllByRecursion IsSavedDeclaration ds
all_declared [] has allowed low = tt
all_declared (d ∷ ds) has allowed low =
    let parts = and_parts (is_low d) (are_all_low ds) low in
    (declaration_saved d has.0 allowed.0 parts.0, all_declared ds has.1 allowed.1 parts.1)

-- the table of lines can be saved
lines_saved : IsSavedDeclaration table_of_lines
unfolding is_name
lines_saved = record {
  name = record { short = omega arith; is = name_told (codes "_undefs") refl };
  limit = omega arith;
  few = omega arith;
  indexes = (record { has = tt; low = omega arith }, tt);
  element = record { has = tt; low = omega arith };
  weight = tt;
  allowed = refl;
}

with_lines_spelled : (ignoring : Bool) (ds : List Declaration) → length ds ≤ 64 → AllByRecursion IsSavedDeclaration ds
    → HaveSpelling (with_lines ignoring ds)
with_lines_spelled false ds few all = record { few = omega (arith, few); each = all }
with_lines_spelled true ds few all = record {
  few = let longer = length-append ds (table_of_lines ∷ []) in omega (arith, longer, few);
  each = all_both IsSavedDeclaration ds (table_of_lines ∷ []) all (lines_saved, tt);
}

pub tables_spelled : (text : List ℕ) (tokens : List Token) (types : List NamedShape) (ss : Stms) (program : Core)
    (ignoring : Bool) → length text < 2 ^ 32
    → LieInOrder text 0 tokens → Spells (record { text = text; tokens = tokens }) ss → TypesHaveBytes types
    → judge_program_with types ss ≡ good program → IsSound program → are_all_low (tables_of program.items) ≡ true
    → HaveSpelling (all_tables (marked program ignoring))
tables_spelled text tokens types ss program ignoring short order spells have judged sound low =
    let few = few_tokens text 0 tokens (omega arith) order in
    let written =
    stms_written (lexeme_of text) (names_of text)
    (names_are text) ss tokens [] spells.reads (agrees text 0 tokens short order) (omega (arith, short, few)) in
    let has = (program_found types have ss written).holds program judged in
    let are = tables_allowed program.locals [] nothing_declared program.items (omega arith) sound.items in
    with_lines_spelled ignoring (tables_of program.items) (let most = are.few in omega (arith, most))
    (all_declared (tables_of program.items) has are.each low)
