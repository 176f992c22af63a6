-- What the code of statements and programs needs: the constants and the types that its lines name are in the tables.
use Rattle.std.specs.Prelude.{List, [], ◌∷◌, pos, true, false, IfSome}
use Rattle.sz_value.specs.Data.{Datum}
use Rattle.sz_core.specs.Statements.{Stm, block, clear, keep, store, evaluate, branch, while, do_while, for_loop, break, continue}
use Rattle.sz_core.specs.Statements.{return_value, end_record, emit, Quantity, some, each, all, Quantified, when, Stms, no_stms, with_stm}
use Rattle.sz_core.specs.Programs.{Function, Static, Core, functions_of, statics_of}
use Rattle.sz_mean.specs.Programs.{body_of}
use Rattle.sz_gen_rules.specs.Tables.{Tables, HasConstant}
use Rattle.sz_gen_rules.specs.Named.{HasNames, HaveNames, StepsHaveNames}

module _ (tables : Tables) where
  -- a variable for each candidate has flags, which are truth values. Later one for all candidates there are none.
  abbrev pub QuantityHasNames : Quantity → (rest : Type 0) → Type 0
  QuantityHasNames some rest = rest
  QuantityHasNames each rest = HasConstant tables (Datum.truth false) × HasConstant tables (Datum.truth true) × rest
  QuantityHasNames all rest = Unit {0}

  -- the tables have the flags of the variables of a `when`
  abbrev pub FlagsHaveNames : List Quantified → Type 0
  FlagsHaveNames [] = Unit {0}
  FlagsHaveNames (v ∷ vs) = QuantityHasNames v.quantity (FlagsHaveNames vs)

  -- the tables have what the code of the bases of these variables names
  abbrev pub BasesHaveNames : List Quantified → Type 0
  BasesHaveNames [] = Unit {0}
  BasesHaveNames (v ∷ vs) = HasNames tables v.base × BasesHaveNames vs

  abbrev mutual
    -- the tables have what the code of a statement names
    pub StmHasNames : Stm → Type 0
    StmHasNames (block ss) = StmsHaveNames ss
    StmHasNames (clear n) = Unit {0}
    StmHasNames (keep place n e) = HasNames tables e
    StmHasNames (store place n steps e) = StepsHaveNames tables steps × HasNames tables e
    StmHasNames (evaluate place e) = HasNames tables e
    StmHasNames (branch place e s t) = HasNames tables e × StmHasNames s × StmHasNames t
    StmHasNames (while place e s) = HasNames tables e × StmHasNames s
    StmHasNames (do_while place s e) = StmHasNames s × HasNames tables e
    StmHasNames (for_loop place e t s) = IfSome e (HasNames tables) × StmHasNames t × StmHasNames s
    StmHasNames break = Unit {0}
    StmHasNames continue = Unit {0}
    StmHasNames (return_value place e) = HasNames tables e
    StmHasNames (end_record place) = Unit {0}
    StmHasNames (emit place n es e w) = HaveNames tables es × HasNames tables e × IfSome w (HasNames tables)
    StmHasNames (when place vs c s) = BasesHaveNames vs × FlagsHaveNames vs × HasNames tables c × StmHasNames s

    -- the same of statements
    pub StmsHaveNames : Stms → Type 0
    StmsHaveNames no_stms = Unit {0}
    StmsHaveNames (with_stm s ss) = StmHasNames s × StmsHaveNames ss

  -- the same of functions, at whose end zero is divided by zero
  abbrev pub FunctionsHaveNames : List Function → Type 0
  FunctionsHaveNames [] = Unit {0}
  FunctionsHaveNames (f ∷ fs) = HasConstant tables (Datum.int (pos 0)) × StmsHaveNames f.body × FunctionsHaveNames fs

  -- the same of statics
  abbrev pub StaticsHaveNames : List Static → Type 0
  StaticsHaveNames [] = Unit {0}
  StaticsHaveNames (s ∷ ss) = HasNames tables s.value × StaticsHaveNames ss

  -- the same of a program
  pub record ProgramHasNames (core : Core) : Type 0 where
    pub functions : FunctionsHaveNames (functions_of core.items)
    pub statics : StaticsHaveNames (statics_of core.items)
    pub body : StmsHaveNames (body_of core)
