-- What a contract sees of a pass after a call.
use Rattle.std.proofs.Common.{◌≡◌, ℕ, ◌+◌, Option, Some, None, true, false, List, [], ap, ◌∙◌, subst}
use Rattle.std.specs.Prelude.{IfNone, IfSome}
use Rattle.atomic_table.specs.Seated.{TableId}
use Rattle.sz_book_rules.specs.Plan.{PlanData}
use Rattle.sz_book.specs.Lanes.{LaneData}
use Rattle.sz_book_rules.specs.declared.event.Event.{Event}
use Rattle.sz_book_rules.specs.declared.event.Event.TheVariants.{LaneOut}
use Rattle.sz_book_rules.specs.declared.event.Reply.{Reply}
use Rattle.sz_book_rules.specs.declared.event.Reply.TheVariants.{Lane}
use Rattle.sz_claims.specs.declared.view.View.{View}
use Rattle.sz_claims.specs.Rule.{Slot, Called, IsAsked, lane_data}
use Rattle.sz_claims.specs.Known.{PassData, pass_data, Calls, CallsWith, IsLent}

-- a lane with this plan and these shards
pub one_lane : (lane : LaneData) (p : PlanData) (shards : List ℕ) → lane.plan ≡ p → lane.shards ≡ shards → lane ≡ lane_data p shards
one_lane lane p shards plan same = λ i. record { plan = plan i; shards = same i }

called_as : (z z' : TableId) (limit : ℕ) (v w : View) (event : Event) (shards : List ℕ) (reply : Reply) (lane : ℕ) (lent : List ℕ) → z' ≡ z
    → Called v event shards reply lane lent w → CallsWith (pass_data z limit v) event shards reply lane lent (pass_data z' limit w)
called_as z z' limit v w event shards reply lane lent same call = (
  call.0,
  ap (λ (x : TableId). pass_data x limit w) same ∙ ap (pass_data z limit) call.1,
  call.2.seen,
  call.2.legal,
  call.2.mine,
)

none_lent : (z z' : TableId) (limit : ℕ) (v w : View) (slots slots' : List (ℕ × Slot)) (i : ℕ) (result : Option LaneData) → z' ≡ z
    → IsAsked i (v, slots) result (w, slots') → IfNone result (Calls (pass_data z limit v) (LaneOut i) (Lane false) (pass_data z' limit w))
none_lent z z' limit v w slots slots' i None same asked =
    called_as z z' limit v w (LaneOut i) [] (Lane false) v.lane v.lent same asked.0
none_lent z z' limit v w slots slots' i (Some lane) same asked = tt

some_lent : (z z' : TableId) (limit : ℕ) (v w : View) (slots slots' : List (ℕ × Slot)) (i : ℕ) (result : Option LaneData) → z' ≡ z
    → IsAsked i (v, slots) result (w, slots') → IfSome result (λ lane. IsLent (pass_data z limit v) i lane (pass_data z' limit w))
some_lent z z' limit v w slots slots' i None same asked = tt
some_lent z z' limit v w slots slots' i (Some lane) same asked = (
  called_as z z' limit v w (LaneOut i) [] (Lane true) (i + 1) lane.shards same asked.0,
  ap (λ (l : LaneData). l.plan) asked.1,
  ap (λ (l : LaneData). l.shards) asked.1,
)

-- the pass asked for a lane
pub asked_as : (z z' : TableId) (limit : ℕ) (v w : View) (slots slots' : List (ℕ × Slot)) (i : ℕ) (result : Option LaneData) (k : PassData)
    → pass_data z limit v ≡ k → z' ≡ z → IsAsked i (v, slots) result (w, slots')
    → IfNone result (Calls k (LaneOut i) (Lane false) (pass_data z' limit w)) × IfSome result (λ lane. IsLent k i lane (pass_data z' limit w))
asked_as z z' limit v w slots slots' i result k is same asked =
    let P : PassData → Type 0 = λ x.
    IfNone result (Calls x (LaneOut i) (Lane false) (pass_data z' limit w)) × IfSome result (λ lane. IsLent x i lane (pass_data z' limit w)) in
    subst P is (none_lent z z' limit v w slots slots' i result same asked, some_lent z z' limit v w slots slots' i result same asked)
