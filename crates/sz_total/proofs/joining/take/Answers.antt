-- What is found takes the other, which else stands last.
use Rattle.std.proofs.Common.{◌≡◌, ◌∙◌, Some, None, rules}
use Rattle.std.specs.Map.{lookup}
use Rattle.indexmap.proofs.CallerLemmas.{insert_entry-new}
use Rattle.sz_total.specs.Entries.{same_indexes}
use Rattle.sz_total.proofs.JoiningLemmas.{takes_some, takes_last, put_there}
use Rattle.sz_total.proofs.PlaceLemmas.{as_much_room}
use Rattle.sz_total.proofs.joining.take.Goals as goal

pub returns-in-Ok-Occupied-clause-value : goal.returns-in-Ok-Occupied-clause-value
returns-in-Ok-Occupied-clause-value c =
    let es = c.args.lists.now.entries in
    let own = c.into_mut.result.now in
    let now = c.merge_into.new.aggregate in
    let found : lookup (same_indexes c.args.key) es ≡ Some own = search rules in
    let put = c.in-Ok-Occupied.ensures.update.1 now in
    takes_some c.args.key c.args.other es _ own now found c.merge_into.ensures.value
    (search rules ∙ put_there c.args.key es own now found)

pub returns-in-Ok-Occupied-clause-capacity : goal.returns-in-Ok-Occupied-clause-capacity
returns-in-Ok-Occupied-clause-capacity c =
    let now = c.merge_into.new.aggregate in
    let enough =
    as_much_room c.args.lists.now c.in-Ok-Occupied.field-0 c.in-Ok-Occupied.own now _ c.in-Ok-Occupied.field-0-is
    c.in-Ok-Occupied.ensures.room.0 (c.in-Ok-Occupied.ensures.len now) in
    search rules

pub returns-in-Ok-Vacant-clause-value : goal.returns-in-Ok-Vacant-clause-value
returns-in-Ok-Vacant-clause-value c =
    let es = c.args.lists.now.entries in
    let none : lookup (same_indexes c.args.key) es ≡ None = search rules in
    let put = c.in-Ok-Vacant.ensures.update.1 c.args.other in
    takes_last c.args.key c.args.other es _ none
    (search rules ∙ insert_entry-new same_indexes c.args.lists.now c.args.key c.args.other none)
