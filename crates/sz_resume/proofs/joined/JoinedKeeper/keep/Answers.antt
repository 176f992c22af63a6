-- The tables of the next round are joined to those of the rounds.
use Rattle.std.proofs.Common.{◌∷◌, map, sym}
use Rattle.sz_resume.specs.Entries.{nothing, saved_in}
use Rattle.sz_resume.proofs.JoinedLemmas.{can_take, joins_next}
use Rattle.sz_resume.proofs.joined.JoinedKeeper.keep.Goals as goal

pub take-requires : goal.take-requires
take-requires c =
    let next = c.requires.next in
    record { can = can_take next.job next.decls next.before c.args.round (rw (sym c.replace-merging.ensures.value) at next.kept) next.are }

pub returns : goal.returns
returns c = record {
  kept = λ decls before joined. joins_next decls before c.args.round (c.in_ok-self.ensures.value (nothing decls ∷ map saved_in before) (rw (sym c.replace-merging.ensures.value) at joined));
}
