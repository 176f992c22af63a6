-- What the crates above may cite: sorted lists and their rows, sums by component, how far sums are from 0, and what
-- rows of further emits and of joined lists need.
pub use Rattle.sz_tabs.proofs.PermutationLemmas.{in_any_order}
pub use Rattle.sz_tabs.proofs.SortingLemmas.{Ascends, ascends, is_sorted, sorted_ascends, one_order, stable_sort_is_sorted}
pub use Rattle.sz_tabs.proofs.SortingLemmas.{sorted_is_permutation, sorted_in_any_order, sorted_mapped}
pub use Rattle.sz_tabs.proofs.SortingLemmas.{distinct_rises, distinct_has, distinct_has_no_other}
pub use Rattle.sz_tabs.proofs.RowsLemmas.{least_total, least_ties, greatest_total, greatest_ties, no_rows}
pub use Rattle.sz_tabs.proofs.RowsLemmas.{brought_by_both, brought_there, brought_elsewhere}
pub use Rattle.sz_tabs.proofs.RowsLemmas.{plus_comm, plus_assoc, sums_in_any_order, rows_in_any_order}
pub use Rattle.sz_tabs.proofs.JoiningLemmas.{all_inserted, sorted_of_both, sorted_of_either, taken_of_inserted, taken_of_all, first_of_either}
pub use Rattle.sz_tabs.proofs.JoiningLemmas.{all_entered, distinct_of_both, distinct_of_either, sums_of_both, rows_decide, rows_join}
pub use Rattle.sz_tabs.proofs.AddingLemmas.{parts_again, plus_nothing, passed, within_further, sum_within, within_plus, within_there}
pub use Rattle.sz_tabs.proofs.AddingLemmas.{added_there, added_after, number_added, components_of_tuple, no_components, sums_of_one_more}
pub use Rattle.sz_tabs.proofs.CallLemmas.{surely}
