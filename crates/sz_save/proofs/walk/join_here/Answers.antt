-- The rows of both sides, and those of the other side alone, are among all that can be joined.
use Rattle.std.proofs.Common.{◌∷◌, [], refl}
use Rattle.sz_save.proofs.WalkLemmas.{other_can, both_can}
use Rattle.sz_save.proofs.walk.join_here.Goals as goal

pub join_kept-requires-clause-can : goal.join_kept-requires-clause-can
join_kept-requires-clause-can c =
    both_can c.args.kind c.args.walk.left.items (c.args.entry ∷ [])
    c.in-Some.kept c.take_equal.new.left.items c.args.entry [] c.in-Some.ensures.some.0 refl
    c.requires.can

pub join_new-requires-clause-can : goal.join_new-requires-clause-can
join_new-requires-clause-can c =
    other_can c.args.kind c.args.walk.left.items (c.args.entry ∷ []) c.args.entry [] refl c.requires.can
