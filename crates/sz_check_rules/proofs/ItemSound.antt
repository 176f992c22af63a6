-- Tables, statics, names of types and statements at the top level are sound as they are judged.
use Rattle.std.proofs.Common.{◌≡◌, ℕ, ◌+◌, true, false, List, [], ◌∷◌, Option, Some, None, true≢false, refl, sym, subst, arith}
use Rattle.std.specs.Prelude.{nat_lt, IfSome}
use Rattle.std.proofs.lemmas.Bool.{ltb-true}
use Rattle.std.proofs.lemmas.List.{length-append}
use Rattle.sz_types.specs.Data.{Shape}
use Rattle.sz_types.specs.Tables.{Declaration}
use Rattle.sz_types.specs.declared.place.Place.{Place}
use Rattle.sz_tree.specs.Names.{Ident}
use Rattle.sz_tree.specs.Types.{Typ}
use Rattle.sz_tree.specs.Expressions.{Exp}
use Rattle.sz_tree.specs.Statements.{TableForm, Stm}
use Rattle.sz_core.specs.Statements as core
use Rattle.sz_core.specs.Programs.{Static}
use Rattle.sz_core.specs.Programs as items
use Rattle.sz_core.specs.Typing.{Sight}
use Rattle.sz_core.specs.Sound.{seen_after, Declared, record_sight, static_sight, IsTable, IsStatic, AreItems}
use Rattle.sz_check_rules.specs.Names.{Block, Meaning, only, is_seen_by_statics}
use Rattle.sz_check_rules.specs.Names as names
use Rattle.sz_check_rules.specs.Agreeing.{converted}
use Rattle.sz_check_rules.specs.JudgingTypes.{judge_type}
use Rattle.sz_check_rules.specs.JudgingExpressions.{judge_exp}
use Rattle.sz_check_rules.specs.JudgingPrograms.{TopScene, blocks_of, with_blocks, kind_of, limit_of, judge_elems, judge_weight, most_tables, judge_table}
use Rattle.sz_check_rules.specs.JudgingPrograms.{TableTypes, judge_types, judge_table_declaration}
use Rattle.sz_check_rules.specs.JudgingPrograms.{judge_static}
use Rattle.sz_check_rules.specs.JudgingPrograms.{judge_typedef, judge_statement}
use Rattle.sz_check_rules.proofs.Holds.{Holds, good, ok_holds, bind_holds, known, weaker, unless_holds}
use Rattle.sz_check_rules.proofs.Meanings.{kept_only}
use Rattle.sz_check_rules.proofs.Sights.{IsFormed, AreFormed, IsTableOf, Fits, AllFit}
use Rattle.sz_check_rules.proofs.TypeSound.{type_formed}
use Rattle.sz_check_rules.proofs.AgreeLemmas.{converted_holds}
use Rattle.sz_check_rules.proofs.OwnTypes.{own_or_asked}
use Rattle.sz_check_rules.proofs.ExpressionSound.{expression_typed}
use Rattle.sz_check_rules.proofs.SceneLemmas.{Sees, begins_itself}
use Rattle.sz_check_rules.proofs.ItemLemmas.{elems_formed, weight_formed, IsDeclared, declaration_holds}
use Rattle.sz_check_rules.proofs.StatementSound.{statement_sound}
use Rattle.sz_check_rules.proofs.TopLemmas.{IsFoundAfter, with_static, with_table, more_statics, more_tables, sees_on, last_is, declares}

-- ---- tables

-- how a table was judged
record IsJudgedTable (blocks : List Block) (f : TableForm) (d : Declaration) : Type 0 where
  indexes : List Shape
  element : Shape
  weight : Option Shape
  has_indexes : judge_elems blocks f.indexes ≡ good indexes
  has_element : judge_type blocks f.of.of ≡ good element
  has_weight : judge_weight blocks f.weight ≡ good weight
  declared : IsDeclared indexes element weight d

-- the types of a table, as they were judged
record AreJudged (blocks : List Block) (f : TableForm) (types : TableTypes) : Type 0 where
  indexes : judge_elems blocks f.indexes ≡ good types.indexes
  element : judge_type blocks f.of.of ≡ good types.element
  weight : judge_weight blocks f.weight ≡ good types.weight

types_judged : (blocks : List Block) (f : TableForm) → Holds (judge_types blocks f) (AreJudged blocks f)
types_judged blocks f = bind_holds (known (judge_elems blocks f.indexes)) (λ indexes is_indexes.
    bind_holds (known (judge_type blocks f.of.of))
    (λ element is_element. bind_holds (known (judge_weight blocks f.weight)) (λ weight is_weight.
    ok_holds (AreJudged blocks f) (record { indexes = indexes; element = element; weight = weight })
    (record { indexes = is_indexes; element = is_element; weight = is_weight }))))

declaration_judged : (blocks : List Block) (n : Ident) (f : TableForm)
    → Holds (judge_table_declaration blocks n f) (IsJudgedTable blocks f)
declaration_judged blocks n f =
    bind_holds (known (kind_of f.kind)) (λ kind is_kind. bind_holds (types_judged blocks f) (λ types are.
    weaker (declaration_holds n f.kind kind (limit_of kind f.argument) types.indexes types.element types.weight)
    (λ d is. record {
      indexes = types.indexes;
      element = types.element;
      weight = types.weight;
      has_indexes = are.indexes;
      has_element = are.element;
      has_weight = are.weight;
      declared = is;
    })))

-- the types in a declaration are well formed
record IsFormedTable (d : Declaration) : Type 0 where
  indexes : AreFormed d.indexes
  element : IsFormed d.element
  weight : IfSome d.weight IsFormed

table_formed : (g : Sight) (blocks : List Block) (f : TableForm) (d : Declaration)
    → AllFit g blocks → IsJudgedTable blocks f d → IsFormedTable d
table_formed g blocks f d fit is = record {
  indexes = subst AreFormed (sym is.declared.has_indexes)
      ((elems_formed g blocks fit f.indexes).holds is.indexes is.has_indexes);
  element = subst IsFormed (sym is.declared.has_element)
      ((type_formed g blocks fit f.of.of).holds is.element is.has_element);
  weight = subst (λ w. IfSome w IsFormed) (sym is.declared.has_weight)
      ((weight_formed g blocks fit f.weight).holds is.weight is.has_weight);
}

-- a table that is judged is sound
pub table_sound : (k : TopScene) (n : Ident) (f : TableForm) → Holds (judge_table k n f) (IsFoundAfter k)
unfolding AreItems
table_sound k n f = bind_holds (declaration_judged (blocks_of k) n f) (λ d parts.
    bind_holds (unless_holds (nat_lt k.tables most_tables) _) (λ u few.
    bind_holds (known (names.declare n (names.table k.tables d) (blocks_of k))) (λ blocks is_blocks.
    ok_holds (IsFoundAfter k)
    (record { known = record (with_blocks k blocks) { tables = 1 + k.tables }; items = items.table d ∷ [] }) (record {
      grows = begins_itself k.scene.locals;
      carries = λ locals seen e knows final.
          let h = record_sight locals seen (with_table d e) in
          let formed = table_formed (record_sight locals seen e) (blocks_of k) f d knows.sees.fit parts in
          let table_is : IsTableOf h k.tables d = record {
            here = last_is e.tables d k.tables knows.tables;
            indexes = formed.indexes;
            element = formed.element;
            weight = formed.weight;
          } in
          let table_here : IsTable e d = record {
            allowed = parts.declared.allowed;
            indexes = formed.indexes;
            element = formed.element;
            few = omega (arith, knows.tables, ltb-true k.tables most_tables few);
          } in
          record {
            seen_there = seen;
            there = with_table d e;
            knows = record {
              sees = declares h n (names.table k.tables d) k blocks is_blocks table_is
                  (sees_on locals seen e (with_table d e) k.scene (more_tables e d) knows.sees);
              tables = omega (arith, knows.tables, length-append e.tables (d ∷ []));
              statics = knows.statics;
              functions = knows.functions;
            };
            items = λ rest are. (table_here, are);
          };
    }))))

-- ---- statics

-- what a static's value sees of what is seen at the top level is true of it
seen_by_static : (locals : List Shape) (seen : List ℕ) (d : Declared) (m : Meaning) → is_seen_by_statics m ≡ true
    → Fits (record_sight locals seen d) m → Fits (static_sight d) m
seen_by_static locals seen d (names.variable n t) is f = absurd (true≢false (sym is))
seen_by_static locals seen d (names.quantified n t) is f = absurd (true≢false (sym is))
seen_by_static locals seen d (names.static n t) is f = record { here = f.here; formed = f.formed }
seen_by_static locals seen d (names.type_name t) is f = f
seen_by_static locals seen d (names.table n e) is f = absurd (true≢false (sym is))
seen_by_static locals seen d (names.function n s) is f = record { here = f.here; takes = f.takes; gives = f.gives }
seen_by_static locals seen d (names.predeclared b) is f = tt
seen_by_static locals seen d names.input is f = absurd (true≢false (sym is))

-- a static that is judged is sound
pub static_sound : (k : TopScene) (p : Place) (n : Ident) (t : Typ) (e : Exp)
    → Holds (judge_static k p n t e) (IsFoundAfter k)
unfolding AreItems
static_sound k p n t e = bind_holds (known (judge_type (blocks_of k) t)) (λ u is_type.
    bind_holds (known (judge_exp (only is_seen_by_statics (blocks_of k)) false (Some u) e)) (λ m is_value.
    bind_holds (known (converted u e m)) (λ value is_converted.
    bind_holds (known (names.declare n (names.static k.statics u) (blocks_of k))) (λ blocks is_blocks.
    let item : Static = record { place = p; type = u; value = value } in
    ok_holds (IsFoundAfter k) (record {
      known = record (with_blocks k blocks) { statics = 1 + k.statics };
      items = items.static item ∷ [];
    }) (record {
      grows = begins_itself k.scene.locals;
      carries = λ locals seen d knows final.
          let g = record_sight locals seen d in
          let h = record_sight locals seen (with_static u d) in
          let formed = (type_formed g (blocks_of k) knows.sees.fit t).holds u is_type in
          let fit = kept_only is_seen_by_statics (Fits g) (Fits (static_sight d)) (seen_by_static locals seen d)
          (blocks_of k) knows.sees.fit in
          let typed = (expression_typed (static_sight d) (only is_seen_by_statics (blocks_of k)) fit
          (Some u) e formed).holds m is_value in
          let own = (own_or_asked (only is_seen_by_statics (blocks_of k)) false (Some u) e).holds m is_value in
          let has = (converted_holds (static_sight d) u e m formed typed own).holds value is_converted in
          let static_here : IsStatic d item = record { well_formed = formed; value = has.typed; type = has.is } in
          record {
            seen_there = seen;
            there = with_static u d;
            knows = record {
              sees = declares h n (names.static k.statics u) k blocks is_blocks
                  (record { here = last_is d.statics u k.statics knows.statics; formed = formed })
                  (sees_on locals seen d (with_static u d) k.scene (more_statics d u) knows.sees);
              tables = knows.tables;
              statics = omega (arith, knows.statics, length-append d.statics (u ∷ []));
              functions = knows.functions;
            };
            items = λ rest are. (static_here, are);
          };
    })))))

-- ---- names of types

-- a name of a type adds no item
pub typedef_sound : (k : TopScene) (n : Ident) (t : Typ) → Holds (judge_typedef k n t) (IsFoundAfter k)
typedef_sound k n t = bind_holds (known (judge_type (blocks_of k) t)) (λ u is_type.
    bind_holds (known (names.declare n (names.type_name u) (blocks_of k))) (λ blocks is_blocks.
    ok_holds (IsFoundAfter k) (record { known = with_blocks k blocks; items = [] }) (record {
      grows = begins_itself k.scene.locals;
      carries = λ locals seen d knows final.
          let g = record_sight locals seen d in
          let formed = (type_formed g (blocks_of k) knows.sees.fit t).holds u is_type in
          record {
            seen_there = seen;
            there = d;
            knows = record {
              sees = declares g n (names.type_name u) k blocks is_blocks formed knows.sees;
              tables = knows.tables;
              statics = knows.statics;
              functions = knows.functions;
            };
            items = λ rest are. are;
          };
    })))

-- ---- statements for each record

-- what is seen after a statement differs in the variables alone
only_seen : (locals : List Shape) (seen : List ℕ) (d : Declared) (m : core.Stm)
    → seen_after (record_sight locals seen d) m ≡ record_sight locals (seen_after (record_sight locals seen d) m).seen d
only_seen locals seen d (core.clear n) = refl
only_seen locals seen d (core.keep p n e) = refl
only_seen locals seen d _ = refl

-- a statement at the top level that is judged is sound
pub for_record_sound : (k : TopScene) (s : Stm) → Holds (judge_statement k s) (IsFoundAfter k)
unfolding AreItems
for_record_sound k s = bind_holds (statement_sound (record { result = None; loop = false }) k.scene s tt) (λ m is.
    ok_holds (IsFoundAfter k)
    (record { known = record k { scene = m.scene }; items = items.statement m.stm ∷ [] }) (record {
      grows = is.grows;
      carries = λ locals seen d knows final.
          let g = record_sight locals seen d in
          let here = is.is_sound g knows.sees final in
          record {
            seen_there = (seen_after g m.stm).seen;
            there = d;
            knows = record {
              sees = subst (λ h. Sees h m.scene) (only_seen locals seen d m.stm) here.sees;
              tables = knows.tables;
              statics = knows.statics;
              functions = knows.functions;
            };
            items = λ rest are. (here.stm, are);
          };
    }))
