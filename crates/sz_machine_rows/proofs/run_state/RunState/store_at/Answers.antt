-- The local is undefined while the value that was in it is changed.
use Rattle.std.proofs.Common.{rules, ◌≡◌, None, Some, unwrap_or, slice_set, ap}
use Rattle.std.specs.Option.{option_map}
use Rattle.std.proofs.lemmas.List.{set-set}
use Rattle.sz_value.specs.Seen.{seen}
use Rattle.sz_world_rules.specs.Slots.{slot_at}
use Rattle.sz_machine_cells.specs.Calls.{Open}
use Rattle.sz_machine_cells.specs.Storing.{replaced_by, defined}
use Rattle.sz_machine_rows.specs.Acting.{state_of}
use Rattle.sz_machine_rows.proofs.StoreLemmas.{holds}
use Rattle.sz_machine_rows.proofs.run_state.RunState.store_at.Goals as goal

pub returns-in-Some : goal.returns-in-Some
returns-in-Some c =
    let n = c.args.n in
    let calls : Open = c.args.self.now.calls in
    let old_is : slot_at calls.locals n ≡ c.take-old.result = ap (λ o. unwrap_or o None) c.take-old.ensures.value in
    let becomes : option_map defined (replaced_by c.args.steps.now c.args.indexes.now (seen c.args.new)
    (slot_at calls.locals n)) ≡ Some c.in-Some.cell =
    search (rules, old_is) in
    let kept : c.keep.new.self ≡ record calls { locals = slice_set calls.locals n c.in-Some.cell } =
    search (rules, set-set calls.locals n None c.in-Some.cell) in
    record {
      value = λ counting place a. rw kept (holds counting place n (state_of c.args.self.now a) c.args.self.now.operands
          (replaced_by c.args.steps.now c.args.indexes.now (seen c.args.new) (slot_at calls.locals n))
          c.in-Some.cell becomes);
    }
