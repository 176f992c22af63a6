-- What the crates above may cite.
pub use Rattle.sz_attempt.proofs.MeansLemmas.{nothing, both_nothing, nothing_both, both_assoc, means-append, few_emits, take_front, take_whole, take_shorter, take_short}
pub use Rattle.sz_attempt.proofs.DeathLemmas.{few_pass, many_fail, living_part, living_bad}
pub use Rattle.sz_attempt.proofs.WeightLemmas.{have_their_weights}
pub use Rattle.sz_attempt.proofs.ListedLemmas.{died_after, dies_by, lives_else, has_died, dies_where_died, all_died, died_all, is_lost_where}
pub use Rattle.sz_attempt.proofs.RunLemmas.{length_of_range}
