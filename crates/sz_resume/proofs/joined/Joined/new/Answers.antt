-- Tables that hold nothing can be joined to no others.
use Rattle.std.proofs.Common.{[], ◌∷◌, subst}
use Rattle.sz_save_format.specs.Saved.{SavedState}
use Rattle.sz_merge.specs.Groups.{AreOf}
use Rattle.sz_resume.proofs.JoinedLemmas.{can_begin}
use Rattle.sz_resume.proofs.joined.Joined.new.Goals as goal

pub take-requires : goal.take-requires
take-requires c = record {
  can = can_begin c.args.decls.now c.new-2.result c.in_ok-none.none (c.in_ok-none.ensures.emits [] c.in_ok-new.ensures.empty.empty) c.new-2.ensures.value;
}

pub returns : goal.returns
returns c = record {
  value = subst (λ (s : SavedState). AreOf c.in_ok-merging.merging (s ∷ [])) (c.in_ok-none.ensures.emits [] c.in_ok-new.ensures.empty.empty)
      (c.in_ok-merging.ensures.value [] c.new-2.ensures.value);
}
