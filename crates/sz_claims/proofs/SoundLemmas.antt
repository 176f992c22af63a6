-- What the type of a pass keeps, after a call.
use Rattle.std.proofs.Common.{◌≡◌, ◌≢◌, ℕ, zero, suc, ◌+◌, ◌-◌, ◌^◌, ◌<◌, ◌≤◌, ◌||◌, Bool, true, false, cond, not, List, [], ◌∷◌, ◌++◌, length}
use Rattle.std.proofs.Common.{replicate, set, length-set, length-append, eq-eqb, ne_eqb, Option, Some, None, is_none, refl, ap, sym, ◌∙◌, subst}
use Rattle.std.proofs.Common.{arith}
use Rattle.std.specs.Prelude.{slice_index_or}
use Rattle.std.proofs.lemmas.List.{get_or-set_same, get_or-set_other, length-replicate}
use mathlib.Core.Logic.{dite}
use native.Mathlib.Decide.{ℕ_discrete}
use Rattle.atomic_table.specs.Seated.{TableId}
use Rattle.sz_book_rules.specs.Plan.{PlanData}
use Rattle.sz_book.specs.Lanes.{LaneData}
use Rattle.sz_book_rules.specs.declared.claim.Claim.{Claim}
use Rattle.sz_book_rules.specs.declared.event.Event.{Event}
use Rattle.sz_book_rules.specs.declared.event.Event.TheVariants.{Draw, Number, LaneOut, LaneBack}
use Rattle.sz_book_rules.specs.declared.event.Reply.{Reply}
use Rattle.sz_book_rules.specs.declared.event.Reply.TheVariants.{Ticket, Number as Numbered, Noted, Lane}
use Rattle.sz_book_rules.specs.declared.event.Entry.{Entry}
use Rattle.sz_claims.specs.declared.view.View.{View}
use Rattle.sz_book_rules.specs.Plan.{IsPlan, count_of}
use Rattle.sz_book_rules.specs.Machine.{opening, IsDrawn}
use Rattle.sz_book_rules.specs.History.{entry, state_after, IsLegal, calls_by, HasDrawn, HasNumber}
use Rattle.sz_claims.specs.Rule.{Slot, any_of, draws_none, numbers_none, found_no_ticket, found_no_number, bit, looking, Called, Looked, split_left}
use Rattle.sz_claims.specs.Rule.{split_right, merged, newcomer, IsAsked}
use Rattle.sz_claims.specs.Known.{LedgerData, PassData, pass_data, AllBlank, IsSound}
use Rattle.sz_book_rules.proofs.GrowthLemmas.{has_drawn, has_number, own_drawn, own_number}

one_bit : (b : Bool) → cond b 1 0 ≡ bit b
one_bit true = refl
one_bit false = refl

no_bit : (b c : Bool) → 0 ≡ bit b → cond c 1 0 ≡ bit (b || c)
no_bit true c h = absurd (omega arith)
no_bit false c h = one_bit c

a_bit : (b c : Bool) → 1 ≡ bit b → 1 ≡ bit (b || c)
a_bit true c h = refl
a_bit false c h = absurd (omega arith)

past : (d b c : Bool) (x y : ℕ) → cond d 1 x ≡ bit b → (x ≡ bit b → y ≡ bit (b || c)) → cond d 1 y ≡ bit (b || c)
past true b c x y h k = a_bit b c h
past false b c x y h k = k h

pub any_snoc : (f : Entry → Bool) (es : List Entry) (e : Entry) (b : Bool) → any_of f es ≡ bit b → any_of f (es ++ e ∷ []) ≡ bit (b || f e)
any_snoc f [] e b h = no_bit b (f e) h
any_snoc f (x ∷ xs) e b h = past (f x) b (f e) (any_of f xs) (any_of f (xs ++ e ∷ [])) h (λ k. any_snoc f xs e b k)

-- after any call, with which shards may come, and which may leave the pass another lane
sound_with : (v w : View) (slots slots' : List (ℕ × Slot)) (vain vain' : Bool) (marks marks' : List Bool) (limit : ℕ) (rows : List (List Bool))
    (event : Event) (shards : List ℕ) (reply : Reply) (lane : ℕ) (lent : List ℕ)
    → IsSound v slots vain marks limit rows → Called v event shards reply lane lent w → (lane ≡ 0 → slots' ≡ [])
    → ((i : ℕ) → lane ≡ i + 1 → (i < v.lanes) × (slots' ≡ (i, None) ∷ [])) → vain' ≡ (vain || draws_none event reply)
    → length marks' ≡ length marks
    → ((t : ℕ) → t < count_of v.plan → slice_index_or marks' t false ≡ (slice_index_or marks t false || numbers_none t event reply))
    → IsSound w slots' vain' marks' limit rows
sound_with v w slots slots' vain vain' marks marks' limit rows event shards reply lane lent s call idle busy dry long each =
    let e : Entry = entry v.number event shards reply in
    subst (λ (u : View). IsSound u slots' vain' marks' limit rows) (sym call.1)
    record {
      live = s.live;
      idle = idle;
      busy = busy;
      legal = subst (λ (u : View). IsLegal v.plan v.lanes u.seen) call.1 call.2.legal;
      mine = subst (λ (u : View). calls_by v.number u.seen ≡ u.mine) call.1 call.2.mine;
      no_ticket = any_snoc found_no_ticket v.mine e vain s.no_ticket ∙ ap bit (sym dry);
      tickets = long ∙ s.tickets;
      no_number = λ t low. any_snoc (found_no_number t) v.mine e (slice_index_or marks t false) (s.no_number t low) ∙ ap bit (sym (each t low));
      room = s.room;
      made = s.made;
      others = λ first n above. subst (λ (u : View). calls_by n u.seen ≡ []) call.1 (call.2.others first n above);
      blank = s.blank;
      small = s.small;
    }

pub sound : (v w : View) (slots slots' : List (ℕ × Slot)) (vain vain' : Bool) (marks marks' : List Bool) (limit : ℕ) (rows : List (List Bool))
    (event : Event) (reply : Reply)
    → IsSound v slots vain marks limit rows → Called v event [] reply v.lane v.lent w → slots' ≡ slots → vain' ≡ (vain || draws_none event reply)
    → length marks' ≡ length marks
    → ((t : ℕ) → t < count_of v.plan → slice_index_or marks' t false ≡ (slice_index_or marks t false || numbers_none t event reply))
    → IsSound w slots' vain' marks' limit rows
sound v w slots slots' vain vain' marks marks' limit rows event reply s call same =
    sound_with v w slots slots' vain vain' marks marks' limit rows event [] reply v.lane v.lent s call (λ e. same ∙ s.idle e)
    (λ i e. let b = s.busy i e in (b.0, same ∙ b.1))

pub none_drawn : (c : Option Claim) → draws_none Draw (Ticket c) ≡ is_none c
none_drawn (Some c) = refl
none_drawn None = refl

or_false : (b : Bool) → b ≡ (b || false)
or_false true = refl
or_false false = refl

pub sound_draw : (p : PlanData) (v w : View) (slots slots' : List (ℕ × Slot)) (vain vain' : Bool) (marks : List Bool) (limit : ℕ)
    (rows : List (List Bool)) (reply : Reply) (claim : Option Claim)
    → IsSound v slots vain marks limit rows → Called v Draw [] reply v.lane v.lent w → slots' ≡ slots → Ticket claim ≡ reply
    → vain' ≡ (vain || is_none claim) → IsSound w slots' vain' marks limit rows
sound_draw p v w slots slots' vain vain' marks limit rows reply claim s call same is no_ticket =
    sound v w slots slots' vain vain' marks marks limit rows Draw reply s call same (no_ticket
    ∙ ap (λ (b : Bool). vain || b) (sym (none_drawn claim) ∙ ap (draws_none Draw) is)) refl (λ t low. or_false (slice_index_or marks t false))

-- a claim that this pass drew
pub claimed_by : (v : View) (c : Claim) → IsLegal v.plan v.lanes v.seen → calls_by v.number v.seen ≡ v.mine → HasDrawn c v.mine
    → IsDrawn v.plan (state_after v.plan (opening v.plan v.lanes) v.seen) c
claimed_by v c legal own drew =
    has_drawn v.plan (opening v.plan v.lanes) v.seen c legal.from
    (own_drawn v.number v.seen c (subst (λ (l : List Entry). HasDrawn c l) (sym own) drew))

pub none_is : (b r : Bool) → b ≡ not r → r ≡ not b
none_is b true h = ap not (sym h)
none_is b false h = ap not (sym h)

-- the pass and the ledger name one table, one plan and one number of lanes
pub record IsOf (z z' : TableId) (v : View) (p : PlanData) (lanes : ℕ) : Type 0 where
  pub table : z ≡ z'
  pub plan : v.plan ≡ p
  pub lanes_are : v.lanes ≡ lanes

pub one_ledger : (z z' : TableId) (limit : ℕ) (v : View) (p : PlanData) (lanes : ℕ) (k : PassData) (n : LedgerData) → pass_data z limit v ≡ k
    → record { id = z'; plan = p; lanes = lanes } ≡ n → k.ledger ≡ n → IsOf z z' v p lanes
one_ledger z z' limit v p lanes k n a b same =
    let e : (pass_data z limit v).ledger ≡ record { id = z'; plan = p; lanes = lanes } = ap (λ (x : PassData). x.ledger) a ∙ same ∙ sym b in
    record { table = ap (λ (x : LedgerData). x.id) e; plan = ap (λ (x : LedgerData). x.plan) e; lanes_are = ap (λ (x : LedgerData). x.lanes) e }

-- a claim that this pass drew names a ticket of the plan and its shard
pub in_plan : (v : View) (slots : List (ℕ × Slot)) (vain : Bool) (marks : List Bool) (limit : ℕ) (rows : List (List Bool)) (p : PlanData) (c : Claim)
    → IsSound v slots vain marks limit rows → v.plan ≡ p → IsPlan p → HasDrawn c v.mine
    → (c.ticket < count_of v.plan) × (c.shard < p.shards)
in_plan v slots vain marks limit rows p c s same plan drew =
    let d = claimed_by v c s.legal s.mine drew in
    let plan' : IsPlan v.plan = subst IsPlan (sym same) plan in
    let a = plan'.within c.ticket d.ticket in
    let b = d.shard in
    let e : v.plan.shards ≡ p.shards = ap (λ (q : PlanData). q.shards) same in
    (d.ticket, omega arith)

-- a number that this pass was given is below the number of attempts
pub in_attempts : (v : View) (slots : List (ℕ × Slot)) (vain : Bool) (marks : List Bool) (limit : ℕ) (rows : List (List Bool)) (p : PlanData)
    (c : Claim) (k : ℕ) → IsSound v slots vain marks limit rows → v.plan ≡ p → IsPlan p → HasNumber c k v.mine → k < 8
in_attempts v slots vain marks limit rows p c k s same plan given =
    let plan' : IsPlan v.plan = subst IsPlan (sym same) plan in
    let own : HasNumber c k v.seen = own_number v.number v.seen c k (subst (λ (l : List Entry). HasNumber c k l) (sym s.mine) given) in
    let t = has_number v.plan (opening v.plan v.lanes) v.seen c k plan' (length-replicate v.plan.shards 0) s.legal.from own in
    let a = plan'.attempts.1 in
    let b = t.0 in omega arith

none_numbered : (t : ℕ) (c : Claim) (k : Option ℕ) → c.ticket ≡ t → is_none k ≡ numbers_none t (Number c) (Numbered k)
none_numbered t c (Some n) e = refl
none_numbered t c None e = sym (eq-eqb c.ticket t e)

none_else : (t : ℕ) (c : Claim) (k : Option ℕ) → c.ticket ≢ t → false ≡ numbers_none t (Number c) (Numbered k)
none_else t c (Some n) e = refl
none_else t c None e = sym (ne_eqb c.ticket t e)

pub sound_number : (p : PlanData) (v w : View) (slots slots' : List (ℕ × Slot)) (vain : Bool) (marks : List Bool) (limit : ℕ) (rows : List (List Bool))
    (claim : Claim) (reply : Reply) (number : Option ℕ) (b : Bool)
    → IsSound v slots vain marks limit rows → Called v (Number claim) [] reply v.lane v.lent w → slots' ≡ slots → Numbered number ≡ reply
    → claim.ticket < length marks → b ≡ (slice_index_or marks claim.ticket false || is_none number)
    → IsSound w slots' vain (set marks claim.ticket b) limit rows
sound_number p v w slots slots' vain marks limit rows claim reply number b s call same is low mark =
    sound v w slots slots' vain vain marks (set marks claim.ticket b) limit rows (Number claim) reply s call same (or_false vain
    ∙ ap (λ (r : Reply). vain || draws_none (Number claim) r) is) (length-set marks claim.ticket b)
    (λ t low'. dite (ℕ_discrete t claim.ticket)
    (λ (e : t ≡ claim.ticket).
    let P : ℕ → Type 0 = λ k.
    slice_index_or (set marks claim.ticket b) k false ≡ (slice_index_or marks k false || numbers_none k (Number claim) reply) in
    let test : is_none number ≡ numbers_none claim.ticket (Number claim) reply = none_numbered claim.ticket claim number refl
    ∙ ap (numbers_none claim.ticket (Number claim)) is in
    let here : P claim.ticket = get_or-set_same marks claim.ticket b false low ∙ mark
    ∙ ap (λ (c : Bool). slice_index_or marks claim.ticket false || c) test in
    subst P (sym e) here)
    (λ (ne : t ≢ claim.ticket).
    get_or-set_other marks claim.ticket t b false ne ∙ or_false (slice_index_or marks t false)
    ∙ ap (λ (c : Bool). slice_index_or marks t false || c) (none_else t claim number (λ e. ne (sym e)) ∙ ap (numbers_none t (Number claim)) is)))

pub sound_quiet : (v w : View) (slots slots' : List (ℕ × Slot)) (vain : Bool) (marks : List Bool) (limit : ℕ) (rows : List (List Bool)) (event : Event)
    (reply : Reply)
    → IsSound v slots vain marks limit rows → Called v event [] reply v.lane v.lent w → slots' ≡ slots → draws_none event reply ≡ false
    → ((t : ℕ) → numbers_none t event reply ≡ false) → IsSound w slots' vain marks limit rows
sound_quiet v w slots slots' vain marks limit rows event reply s call same dry bar =
    sound v w slots slots' vain vain marks marks limit rows event reply s call same (or_false vain ∙ ap (λ (b : Bool). vain || b) (sym dry)) refl
    (λ t low. or_false (slice_index_or marks t false) ∙ ap (λ (b : Bool). slice_index_or marks t false || b) (sym (bar t)))

-- after a call that leaves the pass another lane
sound_lane : (v w : View) (slots slots' : List (ℕ × Slot)) (vain : Bool) (marks : List Bool) (limit : ℕ) (rows : List (List Bool)) (event : Event)
    (shards : List ℕ) (reply : Reply) (lane : ℕ) (lent : List ℕ) → IsSound v slots vain marks limit rows → Called v event shards reply lane lent w
    → (lane ≡ 0 → slots' ≡ []) → ((i : ℕ) → lane ≡ i + 1 → (i < v.lanes) × (slots' ≡ (i, None) ∷ [])) → draws_none event reply ≡ false
    → ((t : ℕ) → numbers_none t event reply ≡ false) → IsSound w slots' vain marks limit rows
sound_lane v w slots slots' vain marks limit rows event shards reply lane lent s call idle busy dry bar =
    sound_with v w slots slots' vain vain marks marks limit rows event shards reply lane lent s call idle busy
    (or_false vain ∙ ap (λ (b : Bool). vain || b) (sym dry)) refl
    (λ t low. or_false (slice_index_or marks t false) ∙ ap (λ (b : Bool). slice_index_or marks t false || b) (sym (bar t)))

-- after a lane was asked for
pub sound_asked : (v w : View) (slots slots' : List (ℕ × Slot)) (vain : Bool) (marks : List Bool) (limit : ℕ) (rows : List (List Bool)) (i : ℕ)
    (lane : Option LaneData) → IsSound v slots vain marks limit rows → v.lane ≡ 0 → i < v.lanes → IsAsked i (v, slots) lane (w, slots')
    → IsSound w slots' vain marks limit rows
sound_asked v w slots slots' vain marks limit rows i None s idle low asked =
    sound_lane v w slots slots' vain marks limit rows (LaneOut i) [] (Lane false) v.lane v.lent s asked.0 (λ e. asked.1 ∙ s.idle e)
    (λ k e. absurd (omega arith)) refl (λ t. refl)
sound_asked v w slots slots' vain marks limit rows i (Some lane) s idle low asked =
    sound_lane v w slots slots' vain marks limit rows (LaneOut i) [] (Lane true) (i + 1) lane.shards s asked.0 (λ e. absurd (omega arith))
    (λ k e. let same : i ≡ k = omega arith in
    subst (λ (n : ℕ). (n < v.lanes) × (slots' ≡ (n, None) ∷ [])) same (low, asked.2 ∙ ap (λ (l : List (ℕ × Slot)). (i, None) ∷ l) (s.idle idle)))
    refl (λ t. refl)

-- after a lane came home
pub sound_given : (v w : View) (slots slots' : List (ℕ × Slot)) (vain : Bool) (marks : List Bool) (limit : ℕ) (rows : List (List Bool)) (i : ℕ)
    (shards : List ℕ) → IsSound v slots vain marks limit rows → Called v (LaneBack i) shards Noted 0 [] w → slots' ≡ []
    → IsSound w slots' vain marks limit rows
sound_given v w slots slots' vain marks limit rows i shards s call none =
    sound_lane v w slots slots' vain marks limit rows (LaneBack i) shards Noted 0 [] s call (λ e. none) (λ k e. absurd (omega arith)) refl (λ t. refl)

pub in_marks : (v : View) (slots : List (ℕ × Slot)) (vain : Bool) (marks : List Bool) (limit : ℕ) (rows : List (List Bool)) (c : Claim)
    → IsSound v slots vain marks limit rows → HasDrawn c v.mine → c.ticket < length marks
in_marks v slots vain marks limit rows c s drew = let d = claimed_by v c s.legal s.mine drew in let t = d.ticket in let l = s.tickets in omega arith

pub one_default : (l : List Bool) (i : ℕ) (a b : Bool) → i < length l → slice_index_or l i a ≡ slice_index_or l i b
one_default [] i a b h = absurd (omega arith)
one_default (x ∷ xs) zero a b h = refl
one_default (x ∷ xs) (suc i) a b h = one_default xs i a b (omega arith)

blank_append : (n : ℕ) (rows : List (List Bool)) (r : List Bool) → AllBlank n (rows ++ r ∷ []) → AllBlank n rows × (r ≡ replicate n false)
blank_append n [] r h = (tt, h.0)
blank_append n (x ∷ xs) r h = let t = blank_append n xs r h.1 in ((h.0, t.0), t.1)

no_mark : (n t : ℕ) → slice_index_or (replicate n false) t false ≡ false
no_mark zero t = refl
no_mark (suc n) zero = refl
no_mark (suc n) (suc t) = no_mark n t

-- the first pass after a split
pub sound_left : (v w : View) (slots slots' : List (ℕ × Slot)) (vain : Bool) (marks : List Bool) (limit : ℕ) (rows rest : List (List Bool))
    (row : List Bool)
    → IsSound v slots vain marks limit rows → w ≡ split_left v → slots' ≡ slots → rows ≡ rest ++ row ∷ [] → IsSound w slots' vain marks limit rest
sound_left v w slots slots' vain marks limit rows rest row s is same cut =
    let long : length rows ≡ length rest + 1 = ap length cut ∙ length-append rest (row ∷ []) in
    let blank = blank_append (count_of v.plan) rest row (subst (AllBlank (count_of v.plan)) cut s.blank) in
    subst (λ (u : View). IsSound u slots' vain marks limit rest) (sym is)
    record {
      live = s.live;
      idle = λ e. same ∙ s.idle e;
      busy = λ i e. let b = s.busy i e in (b.0, same ∙ b.1);
      legal = s.legal;
      mine = s.mine;
      no_ticket = s.no_ticket;
      tickets = s.tickets;
      no_number = s.no_number;
      room = λ e. (let r = s.room e in omega arith);
      made = λ e. omega arith;
      others =
          λ e n above. s.others e n (omega arith);
      blank = blank.0;
      small = s.small;
    }

-- the new pass
pub sound_right : (v w : View) (slots slots' : List (ℕ × Slot)) (vain : Bool) (marks : List Bool) (limit : ℕ) (rows rest : List (List Bool))
    (row : List Bool)
    → IsSound v slots vain marks limit rows → v.number ≡ 0 → w ≡ split_right v → slots' ≡ [] → rows ≡ rest ++ row ∷ [] → IsSound w slots' false row 0 []
sound_right v w slots slots' vain marks limit rows rest row s zeroth is same cut =
    let high = s.made zeroth in
    let none : calls_by v.made v.seen ≡ [] = s.others zeroth v.made (omega arith) in
    let blank = blank_append (count_of v.plan) rest row (subst (AllBlank (count_of v.plan)) cut s.blank) in
    subst (λ (u : View). IsSound u slots' false row 0 []) (sym is)
    record {
      live = omega arith;
      idle = λ e. same;
      busy = λ i e. absurd (omega arith);
      legal = s.legal;
      mine = none;
      no_ticket = refl;
      tickets = ap length blank.1 ∙ length-replicate (count_of v.plan) false;
      no_number = λ t low. ap bit (sym (no_mark (count_of v.plan) t) ∙ ap (λ (l : List Bool). slice_index_or l t false) (sym blank.1));
      room = λ e. absurd (omega arith);
      made = λ e. absurd (omega arith);
      others = λ e. absurd (omega arith);
      blank = tt;
      small = omega arith;
    }

-- the first pass after a join
pub sound_joined : (v u w : View) (slots slots' : List (ℕ × Slot)) (vain : Bool) (marks : List Bool) (limit : ℕ) (rows : List (List Bool))
    (other : View)
    → IsSound v slots vain marks limit rows → u ≡ merged v other → Looked u w → slots' ≡ slots → IsSound w slots' vain marks limit rows
sound_joined v u w slots slots' vain marks limit rows other s is look same =
    let e : w ≡ looking (merged v other) look.0 = look.1 ∙ ap (λ (x : View). looking x look.0) is in
    let live : 0 < v.weight + other.weight = (let l = s.live in omega arith) in
    subst (λ (x : View). IsSound x slots' vain marks limit rows) (sym e)
    record {
      live = live;
      idle = λ e. same ∙ s.idle e;
      busy = λ i e. let b = s.busy i e in (b.0, same ∙ b.1);
      legal = subst (λ (x : View). IsLegal x.plan x.lanes look.0) is (subst (λ (x : View). IsLegal u.plan u.lanes x.seen) look.1 look.2.legal);
      mine = subst (λ (x : View). calls_by x.number look.0 ≡ x.mine) is (subst (λ (x : View). calls_by u.number x.seen ≡ x.mine) look.1 look.2.mine);
      no_ticket = s.no_ticket;
      tickets = s.tickets;
      no_number = s.no_number;
      room = s.room;
      made = s.made;
      others = subst (λ (x : View). x.number ≡ 0 → (n : ℕ) → x.made ≤ n
          → calls_by n look.0 ≡ []) is (subst (λ (x : View). u.number ≡ 0 → (n : ℕ) → u.made ≤ n → calls_by n x.seen ≡ []) look.1 look.2.others);
      blank = s.blank;
      small = s.small;
    }

-- while a row is left, another pass may be made
pub more_room : (v : View) (slots : List (ℕ × Slot)) (vain : Bool) (marks : List Bool) (limit : ℕ) (rows rest : List (List Bool)) (row : List Bool)
    → IsSound v slots vain marks limit rows → v.number ≡ 0 → rows ≡ rest ++ row ∷ [] → (v.made < limit) × (v.made + 1 < 2 ^ 32)
more_room v slots vain marks limit rows rest row s zeroth cut =
    let long : length rows ≡ length rest + 1 = ap length cut ∙ length-append rest (row ∷ []) in
    let r = s.room zeroth in
    let small = s.small in
    (omega arith, omega arith)

all_blank : (n k : ℕ) → AllBlank n (replicate k (replicate n false))
all_blank n zero = tt
all_blank n (suc k) = (refl, all_blank n k)

-- the first pass at the start
pub sound_first : (p : PlanData) (lanes : ℕ) (v : View) (slots : List (ℕ × Slot)) (marks : List Bool) (limit : ℕ) (rows : List (List Bool)) → v ≡ newcomer p lanes
    → slots ≡ [] → marks ≡ replicate (count_of p) false → 0 < limit → limit < 2 ^ 32
    → rows ≡ replicate (limit - 1) (replicate (count_of p) false) → IsSound v slots false marks limit rows
sound_first p lanes v slots marks limit rows is empty blank some small room =
    let long : length rows ≡ limit - 1 = ap length room ∙ length-replicate (limit - 1) (replicate (count_of p) false) in
    subst (λ (u : View). IsSound u slots false marks limit rows) (sym is)
    record {
      live = omega arith;
      idle = λ e. empty;
      busy = λ i e. absurd (omega arith);
      legal = record { from = tt };
      mine = refl;
      no_ticket = refl;
      tickets = ap length blank ∙ length-replicate (count_of p) false;
      no_number = λ t low. ap bit (sym (no_mark (count_of p) t) ∙ ap (λ (l : List Bool). slice_index_or l t false) (sym blank));
      room = λ e. omega arith;
      made = λ e. omega arith;
      others = λ e n above. refl;
      blank = subst (AllBlank (count_of p)) (sym room) (all_blank (count_of p) (limit - 1));
      small = small;
    }
