use Rattle.std.proofs.Common.{List, ℕ, sym, subst}
use Rattle.sz_book_rules.specs.Plan.{IsPlan}
use Rattle.sz_ledger_tests.proofs.SmallPlans as plans
use Rattle.sz_ledger_tests.proofs.plans.one_ticket.Goals as goal

pub new-requires : goal.new-requires
new-requires c = subst (λ (l : List ℕ). IsPlan record { shards = 1; attempts = 2; tickets = l })
    (sym c.in_ok-tickets.ensures.value) plans.one_ticket
