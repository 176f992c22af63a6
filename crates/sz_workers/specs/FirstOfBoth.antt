-- The first records that fault of two parts together.
use Rattle.std.specs.Prelude.{◌≡◌, max}
use Rattle.sz_workers.specs.declared.first_faults.FirstFaults.{FirstFaults}
use Rattle.sz_workers.specs.FirstFaults.{merged}

-- these are the first of both, as many as are of use for either
pub record IsFirstOfBoth (ours theirs both : FirstFaults) : Type 0 where
  pub most : both.most ≡ max ours.most theirs.most
  pub faults : both.faults ≡ merged (max ours.most theirs.most) ours.faults theirs.faults
