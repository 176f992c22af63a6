-- What is seen of the value is what the cell holds.
use Rattle.std.proofs.Common.{rules, ◌≡◌, Some, subst}
use Rattle.sz_types.specs.Data.{proto}
use Rattle.sz_builtin.specs.Views.{seen_view}
use Rattle.sz_world_rules.specs.Ticks.{conversion_weight}
use Rattle.sz_machine_cells.proofs.weights.weight_of_message.Goals as goal

pub returns-in-Some : goal.returns-in-Some
returns-in-Some c =
    let same : Some (seen_view c.in-Some.view) ≡ c.args.from.now = search rules in
    record {
      value = λ fields. subst (λ s. c.weight_of_message_of.result
          ≡ conversion_weight (proto fields) s c.args.made.now) same (c.weight_of_message_of.ensures.value fields);
    }
