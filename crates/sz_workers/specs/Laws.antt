-- What the calls of several callers are together.
use Rattle.std.specs.Prelude.{◌≡◌, ℕ, ◌<◌, List}
use Rattle.sz_book_rules.specs.Plan.{PlanData}
use Rattle.sz_book_rules.specs.declared.event.Entry.{Entry}
use Rattle.sz_book_rules.specs.History.{IsLegal, calls_by}
use Rattle.sz_book_rules.specs.Orderly.{Phase, ended, phase_of, IsOrderly}
use Rattle.sz_book_rules.specs.Counting.{left_by}
use Rattle.sz_workers.specs.Advances.{NoneOnItsWay}

-- where the calls of each caller come in order and leave no ticket on its way, so do the calls of all together, and
-- each ticket that was drawn has ended
abbrev pub OrderlyCallersAreOrderly : Type 0
OrderlyCallersAreOrderly = (p : PlanData) (lanes : ℕ) (log : List Entry) → IsLegal p lanes log
    → ((n : ℕ) → (phases : List Phase) × IsOrderly p (calls_by n log) phases × NoneOnItsWay phases)
    → (phases : List Phase) × IsOrderly p log phases × NoneOnItsWay phases
    × ((t : ℕ) → t < (left_by p lanes log).drawn → phase_of phases t ≡ ended)
