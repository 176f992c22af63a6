-- What is asked of one kind of step.
use Rattle.std.specs.Prelude.{◌≡◌, ℕ, ◌^◌, ◌<◌, List, [], ◌∷◌, ◌++◌, slice_index, slice_set}
use mathlib.Core.Option.{Option as Maybe}
use Rattle.sz_book_rules.specs.Plan.{PlanData, IsPlan}
use Rattle.sz_book.specs.Books.{IsPlain}
use Rattle.sz_book_rules.specs.declared.event.Event.{Event}
use Rattle.sz_book_rules.specs.declared.event.Event.TheVariants.{Draw, Number, Died, Settle, LaneOut, LaneBack, Bad}
use Rattle.sz_book_rules.specs.declared.event.Reply.{Reply}
use Rattle.sz_book_rules.specs.declared.event.Reply.TheVariants.{Noted}
use Rattle.sz_book_rules.specs.declared.event.Entry.{Entry}
use Rattle.sz_book_rules.specs.Machine.{opening, after, reply_of, Fits, draw_reply, number_reply, settle_reply}
use Rattle.sz_book_rules.specs.History.{entry, state_after, IsLegal, IsTrueReport}
use Rattle.sz_claims.specs.declared.view.Account.{Account}
use Rattle.sz_claims.specs.declared.view.View.{View}
use Rattle.sz_claims.specs.Rule.{Slot, Shows, IsBounded, IsTrueOf}

-- the reply to an event where the step found n
abbrev pub replies : PlanData → Event → ℕ → Reply
replies p Draw n = draw_reply p n
replies p (Number c) n = number_reply p n
replies p (Died c k) n = Noted
replies p (Settle c k) n = settle_reply n
replies p (LaneOut i) n = Noted
replies p (LaneBack i) n = Noted
replies p (Bad s) n = Noted

-- what one kind of step shows: the call fits, the reply is right, the lanes stay, and the new words show the new state
pub record Moved (p : PlanData) (lanes : ℕ) (words : List ℕ) (homes : List (Maybe Slot)) (log : List Entry)
    (made number : ℕ) (event : Event) (reply : Reply) : Type 0 where
  pub fits : Fits p (state_after p (opening p lanes) log) number event []
  pub answer : reply ≡ reply_of p (state_after p (opening p lanes) log) event
  pub shows : Shows p lanes words homes (after p (state_after p (opening p lanes) log) number event [])
  pub bounded : IsBounded p words (log ++ entry number event [] reply ∷ []) made

abbrev pub Moves : View → ℕ → (ℕ → ℕ) → Event → (ℕ → Reply) → PlanData → ℕ → Type 0
Moves v i f event reply p lanes =
    (words : List ℕ) (homes : List (Maybe Slot)) (log : List Entry) (made : ℕ) (joined : List Account)
    → IsPlan p → IsLegal p lanes log → Shows p lanes words homes (state_after p (opening p lanes) log)
    → IsBounded p words log made → made < 2 ^ 32
    → IsTrueOf p lanes log (state_after p (opening p lanes) log) made joined v → slice_index words i < 2 ^ 64
    → Moved p lanes (slice_set words i (f (slice_index words i))) homes log made v.number event (reply (slice_index words i))

-- a pass with this view may make the call by a step in which word i becomes f of what it was
pub record MayCall (died : ℕ → ℕ → Type 0) (is_bad : ℕ → Type 0) (p : PlanData) (lanes : ℕ) (v : View) (i : ℕ)
    (f : ℕ → ℕ) (event : Event) (reply : ℕ → Reply) : Type 0 where
  pub live : 0 < v.weight
  pub plain : IsPlain event
  pub report : IsTrueReport died is_bad event
  pub moves : Moves v i f event reply p lanes
