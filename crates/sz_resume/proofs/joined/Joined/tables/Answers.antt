-- What the rounds hold together.
use Rattle.std.proofs.Common.{◌∷◌, map, sym}
use Rattle.std.proofs.lemmas.Result.{IfOk-weaker}
use Rattle.sz_merge.specs.Together.{AreTogether}
use Rattle.sz_resume.specs.Entries.{HoldsRounds, nothing, saved_in}
use Rattle.sz_resume.proofs.JoinedLemmas.{some_joined, holds_rounds}
use Rattle.sz_resume.proofs.joined.Joined.tables.Goals as goal

pub finish-requires : goal.finish-requires
finish-requires c = record { some = some_joined (rw (sym c.replace-merging.ensures.value) at c.requires.some.2) }

pub returns : goal.returns
returns c = record {
  value = λ decls rounds joined. IfOk-weaker c.finish.result (AreTogether (nothing decls ∷ map saved_in rounds)) (HoldsRounds decls rounds)
      (λ all one. holds_rounds c.saved_runs_join.ensures.state decls rounds all one) (c.finish.ensures.value (nothing decls ∷ map saved_in rounds) (rw (sym c.replace-merging.ensures.value) at joined));
}
