-- The steps of a core, over what a contract sees of it.
use Rattle.std.proofs.Common.{◌≡◌, ℕ, ◌+◌, ◌-◌, ◌<◌, ◌≤◌, ◌==◌, Bool, true, cond, nat_lt, List, [], set, refl, ap, sym, ◌∙◌, Some, None, lt-ltb, le-ltb, eq-eqb}
use Rattle.std.specs.Prelude.{slice_index}
use Rattle.sz_book_rules.specs.declared.claim.Claim.{Claim}
use Rattle.sz_book_rules.specs.declared.event.Event.TheVariants.{Number, Settle}
use Rattle.sz_book_rules.specs.declared.event.Reply.TheVariants.{Number as Numbered, Won, Late}
use Rattle.sz_book_rules.specs.Machine.{IsDrawn, IsTried}
use Rattle.sz_book.specs.Cores.{CoreData, TakesWith}

-- all numbers of the shard are given
pub number_none : (d : CoreData) (c : Claim) → IsDrawn d.plan d.state c
    → d.plan.attempts ≤ slice_index d.state.given c.shard → TakesWith d (Number c) [] (Numbered None) d
number_none d c drawn all =
    let g = slice_index d.state.given c.shard in
    let b = le-ltb g d.plan.attempts all in
    record {
      step = record {
        fits = (refl, drawn);
        answer = sym (ap (λ (b : Bool). cond b (Numbered (Some g)) (Numbered None)) b);
        next = sym (ap (λ (b : Bool). cond b (record d.state { given = set d.state.given c.shard (g + 1) }) d.state) b);
      };
      kept = refl;
    }

-- one more number is given
pub number_some : (d : CoreData) (c : Claim) (n : ℕ) (given : List ℕ) → IsDrawn d.plan d.state c
    → slice_index d.state.given c.shard ≡ n → n < d.plan.attempts
    → given ≡ set d.state.given c.shard (n + 1)
    → TakesWith d (Number c) [] (Numbered (Some n)) (record d { state = record d.state { given = given } })
number_some d c n given drawn is low set_is =
    let g = slice_index d.state.given c.shard in
    let b : nat_lt g d.plan.attempts ≡ true =
    ap (λ (m : ℕ). nat_lt m d.plan.attempts) is ∙ lt-ltb n d.plan.attempts low in
    record {
      step = record {
        fits = (refl, drawn);
        answer = ap (λ (m : ℕ). Numbered (Some m)) (sym is)
            ∙ sym (ap (λ (b : Bool). cond b (Numbered (Some g)) (Numbered None)) b);
        next = ap (λ (l : List ℕ). record d.state { given = l })
            (set_is ∙ ap (λ (m : ℕ). set d.state.given c.shard (m + 1)) (sym is))
            ∙ sym (ap (λ (b : Bool). cond b (record d.state { given = set d.state.given c.shard (g + 1) }) d.state) b);
      };
      kept = refl;
    }

-- a shard is won
pub settle_won : (d : CoreData) (c : Claim) (k : ℕ) (winners unplaced : List ℕ) → IsTried d.plan d.state c k
    → slice_index d.state.winners c.shard ≡ 0
    → winners ≡ set d.state.winners c.shard (k + 1) → unplaced ≡ set d.state.unplaced c.shard 1
    → TakesWith d (Settle c k) [] Won (record d { state = record d.state { winners = winners; unplaced = unplaced } })
settle_won d c k winners unplaced tried free w_is u_is =
    let w = slice_index d.state.winners c.shard in
    let b : (w == 0) ≡ true = eq-eqb w 0 free in
    record {
      step = record {
        fits = (refl, tried);
        answer = sym (ap (λ (b : Bool). cond b Won (Late (w - 1))) b);
        next = ap (λ (l : List ℕ). record d.state { winners = l; unplaced = unplaced }) w_is
            ∙ ap (λ (l : List ℕ). record d.state { winners = set d.state.winners c.shard (k + 1); unplaced = l }) u_is
            ∙ sym (ap (λ (b : Bool). cond b (record d.state {
              winners = set d.state.winners c.shard (k + 1);
              unplaced = set d.state.unplaced c.shard (0 + 1);
            }) d.state) b);
      };
      kept = refl;
    }
