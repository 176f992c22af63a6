use Rattle.sz_book_rules.proofs.CountLemmas as counts
use Rattle.sz_book.proofs.laws.noted_deaths_are_true.Goals as goal

pub returns : goal.returns
returns g c = record { true_deaths = counts.noted_deaths_are_true g.T.Load.died g.T.Load.is_bad }
