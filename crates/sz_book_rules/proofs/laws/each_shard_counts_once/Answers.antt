use Rattle.sz_book_rules.proofs.CountLemmas as counts
use Rattle.sz_book_rules.proofs.laws.each_shard_counts_once.Goals as goal

pub returns : goal.returns
returns c = record { once = counts.each_shard_counts_once; stays = counts.the_winner_stays }
