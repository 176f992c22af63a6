use Rattle.sz_book_rules.proofs.DecideLemmas as decides
use Rattle.sz_book_rules.proofs.laws.each_shard_is_decided.Goals as goal

pub returns : goal.returns
returns c = record { decided = decides.each_shard_is_decided }
