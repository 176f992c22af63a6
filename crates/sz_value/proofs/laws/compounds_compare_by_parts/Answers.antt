-- The law is proved with the lemmas on parts.
use Rattle.sz_value.proofs.PartLemmas.{compare_data-slice_cmp, compare_entries-slice_cmp}
use Rattle.sz_value.proofs.laws.compounds_compare_by_parts.Goals as goal

pub returns : goal.returns
returns c = record {
  parts = record { arrays = compare_data-slice_cmp; tuples = compare_data-slice_cmp; maps = compare_entries-slice_cmp };
}
