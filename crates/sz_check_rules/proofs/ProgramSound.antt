-- A program that is judged is sound.
use Rattle.std.proofs.Common.{List, [], ◌∷◌, ◌++◌, map, refl, sym, subst, append_assoc}
use Rattle.std.specs.Cmp.{first_so, second_so}
use Rattle.std.proofs.lemmas.List.{append-nil}
use Rattle.sz_tree.specs.Statements.{Stm, static, typedef, table, function, Stms, no_stms, stm}
use Rattle.sz_types.specs.Data.{Shape}
use Rattle.sz_core.specs.WellFormed.{is_well_formed}
use Rattle.sz_core.specs.Typing.{Sight}
use Rattle.sz_core.specs.Sound.{nothing_declared, record_sight, AreItems, IsSound}
use Rattle.sz_check_rules.specs.JudgingPrograms.{TopScene, judge_top, judge_all, known_at_first, judge_program}
use Rattle.sz_check_rules.proofs.Holds.{Holds, ok_holds, bind_holds}
use Rattle.sz_check_rules.specs.JudgingWithTypes.{NamedShape, named_type, block_of_types, known_with, judge_from, judge_program_with}
use Rattle.sz_check_rules.proofs.Meanings.{MeansIn, means_with}
use Rattle.sz_check_rules.proofs.Sights.{AreFormed, Fits}
use Rattle.sz_check_rules.proofs.SceneLemmas.{begins_itself, begins_on}
use Rattle.sz_check_rules.proofs.TopLemmas.{Knows, IsFoundAfter}
use Rattle.sz_check_rules.proofs.ItemSound.{table_sound, static_sound, typedef_sound, for_record_sound}
use Rattle.sz_check_rules.proofs.FunctionSound.{function_sound}

top_sound : (k : TopScene) (s : Stm) → Holds (judge_top k s) (IsFoundAfter k)
top_sound k (static p n t e) = static_sound k p n t e
top_sound k (typedef p n t) = typedef_sound k n t
top_sound k (table n f) = table_sound k n f
top_sound k (function n ps t ss) = function_sound k n ps t ss
top_sound k s = for_record_sound k s

all_sound : (k : TopScene) (ss : Stms) → Holds (judge_all k ss) (IsFoundAfter k)
unfolding judge_all
all_sound k no_stms = ok_holds (IsFoundAfter k) (record { known = k; items = [] }) (record {
  grows = begins_itself k.scene.locals;
  carries =
      λ locals seen d knows final. record { seen_there = seen; there = d; knows = knows; items = λ rest are. are };
})
all_sound k (stm s ss) = bind_holds (top_sound k s) (λ first is. bind_holds (all_sound first.known ss) (λ rest are.
    ok_holds (IsFoundAfter k) (record { known = rest.known; items = first.items ++ rest.items }) (record {
      grows = begins_on k.scene.locals first.known.scene.locals rest.known.scene.locals is.grows are.grows;
      carries = λ locals seen d knows final.
          let here = is.carries locals seen d knows
          (begins_on first.known.scene.locals rest.known.scene.locals locals are.grows final) in
          let there = are.carries locals here.seen_there here.there here.knows final in
          record {
            seen_there = there.seen_there;
            there = there.there;
            knows = there.knows;
            items = λ more all.
                subst (AreItems locals seen d) (sym (append_assoc first.items rest.items more))
                (here.items (rest.items ++ more) (there.items more all));
          };
    })))

-- what is known at first is true of what is seen where nothing is declared
abbrev IsStart : TopScene → Type 0
IsStart k = (locals : List Shape) → Knows locals [] nothing_declared k

-- where it is, a program that is judged is sound
sound_from : (k : TopScene) → IsStart k → (ss : Stms) → Holds (judge_from k ss) IsSound
unfolding AreItems
sound_from k starts ss = bind_holds (all_sound k ss) (λ found is.
    let locals = found.known.scene.locals in
    let carried = is.carries locals [] nothing_declared (starts locals) (begins_itself locals) in
    ok_holds IsSound (record { items = found.items; locals = locals }) (record {
      types = carried.knows.sees.formed;
      items = subst (AreItems locals [] nothing_declared) (append-nil found.items) (carried.items [] tt);
    }))

-- at first nothing is declared, and the predeclared names are known
known_first : IsStart known_at_first
known_first locals = record {
  sees = record {
    fit = (tt, ((refl, (tt, (tt, (tt, (tt, tt))))), tt));
    formed = refl;
    emits = refl;
    numbers = tt;
    fixed = tt;
  };
  tables = refl;
  statics = refl;
  functions = refl;
}

-- a program that is judged is sound
pub program_sound : (ss : Stms) → Holds (judge_program ss) IsSound
program_sound ss = sound_from known_at_first known_first ss

-- the same of types round it, which are well formed
types_fit : (g : Sight) (types : List NamedShape) → AreFormed (map (λ (t : NamedShape). t.1) types)
    → MeansIn (Fits g) (block_of_types types)
types_fit g [] h = tt
types_fit g (t ∷ types) h =
    means_with (Fits g) (block_of_types types) (named_type t) (types_fit g types (second_so (is_well_formed t.1) _ h))
    (first_so (is_well_formed t.1) _ h)

known_round : (types : List NamedShape) → AreFormed (map (λ (t : NamedShape). t.1) types) → IsStart (known_with types)
known_round types formed locals =
    let g = record_sight locals [] nothing_declared in
    record {
      sees = record {
        fit = (tt, (types_fit g types formed, ((refl, (tt, (tt, (tt, (tt, tt))))), tt)));
        formed = refl;
        emits = refl;
        numbers = tt;
        fixed = tt;
      };
      tables = refl;
      statics = refl;
      functions = refl;
    }

-- so is a program that is judged with them
pub program_with_sound : (types : List NamedShape) → AreFormed (map (λ (t : NamedShape). t.1) types) → (ss : Stms)
    → Holds (judge_program_with types ss) IsSound
program_with_sound types formed ss = sound_from (known_with types) (known_round types formed) ss
