-- Programs whose tables can be saved.
use Rattle.std.proofs.Common.{◌≡◌, List, [], ◌∷◌, ℕ, Bool, true, false, Some, None, refl, sym, ap, ◌∙◌, subst, arith}
use Rattle.std.specs.Prelude.{Result, Ok, Err, if◌then◌else◌}
use Rattle.sz_types.specs.Tables.{Declaration}
use Rattle.sz_tree.specs.Statements.{Stms}
use Rattle.sz_core.specs.Programs.{Core, tables_of}
use Rattle.sz_core.specs.Sound.{IsSound}
use Rattle.sz_mean.specs.Marked.{Marked, marked, all_tables}
use Rattle.sz_check_rules.specs.Refusals.{Judged}
use Rattle.sz_check_rules.specs.JudgingWithTypes.{judge_program_with}
use Rattle.sz_check.specs.RoundTypes.{named_shapes}
use Rattle.sz_protofile.specs.Types.{TypeShape}
use Rattle.sz_save.specs.Saving.{HaveSpelling, is_low, are_all_low}
use Rattle.sz_save_names.specs.Laws.{TypesHaveBytes, TablesHaveSpellings}
use Rattle.sz_refusals.specs.declared.refusal.Refusal.{Refusal}
use Rattle.szl.specs.declared.failure.Failure.{Failure}
use Rattle.szl.specs.declared.failure.Failure.TheVariants as failure
use Rattle.sz_refusals.specs.Refusing.{judged_so}
use Rattle.szl.specs.Checking.{checked}
use Rattle.sz_refusals.specs.Texts.{IsShort, HasStatements}
use Rattle.szl.specs.Judging.{IsFailureOn}
use Rattle.szl.specs.Reserved.{unless_reserved, runnable_so, runnable, declared_in, reserved_name}
use Rattle.szl.specs.Savable.{first_high, unless_high, savable_so, savable}
use Rattle.szl.specs.ProtoReads.{HaveTypeBytes}

-- where no table is the first that has too many levels, all tables have few
pub all_low : (ds : List Declaration) → first_high ds ≡ None → are_all_low ds ≡ true
all_low [] none = refl
all_low (d ∷ ds) none = by (is_low d) refl none (all_low ds)
  where
    by : (low : Bool) → is_low d ≡ low → (if low then first_high ds else Some d) ≡ None → (first_high ds ≡ None → are_all_low ds ≡ true)
        → are_all_low (d ∷ ds) ≡ true
    by true is none rest = rw is (rest none)
    by false is none rest = absurd (cc)

-- the program that was found, or else this one
abbrev core_in : Core → Result Marked Refusal → Core
core_in other (Ok m) = m.core
core_in other (Err r) = other

abbrev found_core : Core → Result Core Refusal → Core
found_core other (Ok core) = core
found_core other (Err r) = other

-- a program to be run is the one that the statements are
core_found : (types : List TypeShape) (ignoring : Bool) (statements : Stms) (core : Core) → runnable types ignoring statements ≡ Ok (marked core ignoring)
    → checked types statements ≡ Ok core
core_found types ignoring statements core is = by (checked types statements) refl is
  where
    by : (found : Result Core Refusal) → checked types statements ≡ found → runnable_so ignoring statements found ≡ Ok (marked core ignoring)
        → checked types statements ≡ Ok core
    by (Err r) same h = absurd (cc)
    by (Ok c) same h = same ∙ ap Ok (same_core ignoring (declared_in reserved_name statements) c h)
      where
        same_core : (ignoring : Bool) (found : _) (c : Core) → unless_reserved ignoring found c ≡ Ok (marked core ignoring) → c ≡ core
        same_core true (Some place) c h = absurd (cc)
        same_core true None c h = ap (core_in core) h
        same_core false found c h = ap (core_in core) h

judged : (types : List TypeShape) (statements : Stms) (core : Core) → checked types statements ≡ Ok core
    → judge_program_with (named_shapes types) statements ≡ Ok core
unfolding checked
judged types statements core is = by (judge_program_with (named_shapes types) statements) refl is
  where
    by : (found : Judged Core) → judge_program_with (named_shapes types) statements ≡ found → judged_so found ≡ Ok core
        → judge_program_with (named_shapes types) statements ≡ Ok core
    by (Ok c) same h = same ∙ ap Ok (ap (found_core core) h)
    by (Err r) same h = absurd (cc)

-- what is refused for another cause is refused so where the tables are to be saved too
pub still_refused : (types : List TypeShape) (save ignoring : Bool) (statements : Stms) (f : Failure) → IsFailureOn (runnable types ignoring statements) f
    → IsFailureOn (savable types save ignoring statements) f
still_refused types save ignoring statements failure.NoMemory h = tt
still_refused types save ignoring statements (failure.Refused r) h = by save
  where
    by : (save : Bool) → savable types save ignoring statements ≡ Err r
    by true = ap (savable_so true statements) h
    by false = h
still_refused types save ignoring statements _ h = absurd h

module _ (types : List TypeShape) (ignoring : Bool) (statements : Stms) (core : Core)
    (is : runnable types ignoring statements ≡ Ok (marked core ignoring)) where
  -- a program with a table of too many levels is refused where its tables are to be saved
  pub high_refused : (f : Failure) → IsFailureOn (unless_high statements (first_high (tables_of core.items)) (marked core ignoring)) f
      → IsFailureOn (savable types true ignoring statements) f
  high_refused f h = subst (λ found. IsFailureOn found f) (sym (ap (savable_so true statements) is)) h

  -- one without is run
  pub low_found : (save : Bool) → (save ≡ true → first_high (tables_of core.items) ≡ None) → savable types save ignoring statements ≡ Ok (marked core ignoring)
  low_found true low =
      ap (savable_so true statements) is ∙ ap (λ high. unless_high statements high (marked core ignoring)) (low refl)
  low_found false low = is

-- the tables of a program of which none has too many levels have a spelling
pub can_save : TablesHaveSpellings → (types : List TypeShape) (ignoring : Bool) (statements : Stms) (core : Core) → HaveTypeBytes types
    → IsSound core → runnable types ignoring statements ≡ Ok (marked core ignoring) → first_high (tables_of core.items) ≡ None → (text : List ℕ) → IsShort text
    → HasStatements text statements → HaveSpelling (all_tables (marked core ignoring))
can_save law types ignoring statements core have sound is none text short has =
    law text has.tokens (named_shapes types) statements core ignoring (omega (arith, short)) has.has has.spells (all_have types have)
    (judged types statements core (core_found types ignoring statements core is)) sound (all_low (tables_of core.items) none)
  where
    all_have : (types : List TypeShape) → HaveTypeBytes types → TypesHaveBytes (named_shapes types)
    all_have [] h = tt
    all_have (t ∷ types) h = (h.0, all_have types h.1)
