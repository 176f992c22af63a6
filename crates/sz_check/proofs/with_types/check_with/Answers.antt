-- A program that declares none of the names is judged as with the types in front of it.
use Rattle.std.proofs.Common.{List, subst}
use Rattle.std.specs.Prelude.{IsTrue}
use Rattle.sz_tree.specs.View.{program_of}
use Rattle.sz_core.specs.WellFormed.{are_distinct_texts}
use Rattle.sz_check_rules.specs.TypeStatements.{DeclaresNone}
use Rattle.sz_check.specs.Answering.{Answers}
use Rattle.sz_check.specs.RoundTypes.{named_shapes}
use Rattle.sz_check.proofs.RoundLemmas.{all_formed, names_are}
use Rattle.sz_check.proofs.with_types.check_with.Goals as goal

pub returns : goal.returns
returns c =
    let types = c.args.types.now in
    let program = program_of c.args.tree.now in
    record {
      value = c.judge_program_with.ensures.value;
      written_first = λ statements declares none. subst (Answers c.judge_program_with.result)
          (c.types_may_be_written_first.ensures.value (named_shapes types) statements program declares
          (all_formed types c.requires.sound.formed) (subst
          (λ (names : List (List _)). IsTrue (are_distinct_texts names)) (names_are types) c.requires.sound.apart)
          (subst (λ (names : List (List _)). DeclaresNone names program) (names_are types) none))
          c.judge_program_with.ensures.value;
    }
