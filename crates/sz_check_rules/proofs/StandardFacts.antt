-- Worked examples of the definitions.
use Rattle.std.proofs.Common.{◌≡◌, [], ◌∷◌, true, Some, None, refl}
use Rattle.std.specs.Prelude.{Ok, pos, codes}
use Rattle.sz_tree.specs.declared.types.BasicType.TheVariants as basics
use Rattle.sz_tree.specs.declared.stmt.Quantity.TheVariants as quantities
use Rattle.sz_tree.specs.Types.{basic}
use Rattle.sz_tree.specs.Expressions.{number, bytes, boolean, literal, named}
use Rattle.sz_tree.specs.Statements.{Stm, empty, declare, simple, assign, break, table, when, Stms, no_stms, stm}
use Rattle.sz_core.specs.Programs.{core_of}
use Rattle.sz_core.specs.Example.{column, small_items}
use Rattle.sz_core.specs.WellFormed.{is_well_formed}
use Rattle.sz_check_rules.specs.Refusals.{refused_at, refused_for}
use Rattle.sz_check_rules.specs.declared.cause.Cause.TheVariants as causes
use Rattle.sz_check_rules.specs.Agreeing.{agree}
use Rattle.sz_check_rules.specs.JudgingTypes.{judge_type}
use Rattle.sz_check_rules.specs.JudgingExpressions.{judge_exp}
use Rattle.sz_check_rules.specs.EmittingTrees.{exp_emits, stm_emits}
use Rattle.sz_check_rules.specs.Quantifying.{judge_names, judge_quantifiers, bind_inside, all_bounded}
use Rattle.sz_check_rules.specs.JudgingStatements.{judge_stm}
use Rattle.sz_check_rules.specs.JudgingPaths.{judge_steps}
use Rattle.sz_check_rules.specs.JudgingPrograms.{judge_program, judge_all, judge_elems, judge_parameters}
use Rattle.sz_check_rules.specs.Example.{name_at, small_tree}

-- the tree of the small program is judged to be that program
pub small_is_judged : judge_program small_tree ≡ Ok (core_of small_items [])
unfolding judge_all judge_elems judge_parameters judge_stm judge_exp judge_type agree stm_emits exp_emits is_well_formed
small_is_judged = refl

-- a program of one statement
abbrev one : Stm → Stms
one s = stm s no_stms

-- x: int = y;
unknown_name : judge_program
    (one (declare (name_at 1 (codes "x")) (basic (column 4) basics.Int) (Some (named (name_at 10 (codes "y"))))))
    ≡ refused_for causes.UnknownName (name_at 10 (codes "y"))
unfolding judge_all judge_stm judge_exp judge_type
unknown_name = refl

-- x: int; x: int;
declared_again : judge_program (stm (declare (name_at 1 (codes "x")) (basic (column 4) basics.Int) None)
    (one (declare (name_at 9 (codes "x")) (basic (column 12) basics.Int) None)))
    ≡ refused_for causes.Redeclared (name_at 9 (codes "x"))
unfolding judge_all judge_stm judge_type
declared_again = refl

-- x: bool = 1;
wrong_initial : judge_program (one
    (declare (name_at 1 (codes "x")) (basic (column 4) basics.Bool) (Some (literal (column 11) (number (pos 1))))))
    ≡ refused_at causes.WrongType (column 11)
unfolding judge_all judge_stm judge_exp judge_type
wrong_initial = refl

-- input = B"a";
record_assigned : judge_program (one (simple
    (assign (record { name = name_at 1 (codes "input"); steps = [] }) (literal (column 9) (bytes (codes "a"))))))
    ≡ refused_for causes.NotAssignable (name_at 1 (codes "input"))
unfolding judge_all judge_stm judge_steps
record_assigned = refl

-- break;
no_loop : judge_program (one (break (column 1))) ≡ refused_at causes.Misplaced (column 1)
unfolding judge_all judge_stm
no_loop = refl

-- t: table quantile(101) of int;
left_out_kind : judge_program (one (table (name_at 1 (codes "t")) (record {
  kind = name_at 10 (codes "quantile");
  argument = Some (pos 101);
  indexes = [];
  of = record { name = None; of = basic (column 27) basics.Int };
  weight = None;
}))) ≡ refused_for causes.LeftOut (name_at 10 (codes "quantile"))
unfolding judge_all
left_out_kind = refl

-- when (i: some int; true) ;
no_bound : judge_program (one (when (column 1) (record {
  names = name_at 7 (codes "i") ∷ [];
  quantity = quantities.«Some»;
  of = basic (column 15) basics.Int;
} ∷ []) (literal (column 20) (boolean true)) (empty (column 26))))
    ≡ refused_for causes.Unbounded (name_at 7 (codes "i"))
unfolding judge_all judge_stm judge_exp judge_type judge_names judge_quantifiers bind_inside all_bounded
no_bound = refl
