-- A history with one more call, and the calls of one pass in it.
use Rattle.std.proofs.Common.{◌≡◌, ◌≢◌, ℕ, ◌==◌, Bool, true, false, cond, List, [], ◌∷◌, ◌++◌, refl, ap, sym, ◌∙◌, append_assoc, eq-eqb, ne_eqb}
use Rattle.sz_book_rules.specs.Plan.{PlanData}
use Rattle.sz_book_rules.specs.declared.event.Entry.{Entry}
use Rattle.sz_book_rules.specs.Machine.{LedgerState, opening, after, reply_of, Fits}
use Rattle.sz_book_rules.specs.History.{state_after, IsLegalFrom, IsLegal, calls_by, StartsWith, IsTrueReport, AreTrueReports}

pub state_after-snoc : (p : PlanData) (x : LedgerState) (es : List Entry) (e : Entry)
    → state_after p x (es ++ e ∷ []) ≡ after p (state_after p x es) e.by e.event e.shards
state_after-snoc p x [] e = refl
state_after-snoc p x (d ∷ es) e = state_after-snoc p (after p x d.by d.event d.shards) es e

from-snoc : (p : PlanData) (x : LedgerState) (es : List Entry) (e : Entry) → IsLegalFrom p x es
    → Fits p (state_after p x es) e.by e.event e.shards → e.reply ≡ reply_of p (state_after p x es) e.event
    → IsLegalFrom p x (es ++ e ∷ [])
from-snoc p x [] e h f r = (f, r, tt)
from-snoc p x (d ∷ es) e h f r = (h.0, h.1, from-snoc p (after p x d.by d.event d.shards) es e h.2 f r)

-- a legal history with one more step is legal
pub legal-snoc : (p : PlanData) (lanes : ℕ) (es : List Entry) (e : Entry) → IsLegal p lanes es
    → Fits p (state_after p (opening p lanes) es) e.by e.event e.shards
    → e.reply ≡ reply_of p (state_after p (opening p lanes) es) e.event
    → IsLegal p lanes (es ++ e ∷ [])
legal-snoc p lanes es e h f r = record { from = from-snoc p (opening p lanes) es e h.from f r }

-- true reports with one more are true
pub reports-snoc : (died : ℕ → ℕ → Type 0) (is_bad : ℕ → Type 0) (es : List Entry) (e : Entry)
    → AreTrueReports died is_bad es → IsTrueReport died is_bad e.event → AreTrueReports died is_bad (es ++ e ∷ [])
reports-snoc died is_bad [] e h r = (r, tt)
reports-snoc died is_bad (d ∷ es) e h r = (h.0, reports-snoc died is_bad es e h.1 r)

kept_first : (b : Bool) (e : Entry) (xs ys zs : List Entry) → zs ≡ xs ++ ys
    → cond b (e ∷ zs) zs ≡ cond b (e ∷ xs) xs ++ ys
kept_first true e xs ys zs h = ap (λ (l : List Entry). e ∷ l) h
kept_first false e xs ys zs h = h

pub calls_by-append : (n : ℕ) (xs ys : List Entry) → calls_by n (xs ++ ys) ≡ calls_by n xs ++ calls_by n ys
calls_by-append n [] ys = refl
calls_by-append n (e ∷ es) ys =
    kept_first (e.by == n) e (calls_by n es) (calls_by n ys) (calls_by n (es ++ ys)) (calls_by-append n es ys)

one_own : (n : ℕ) (e : Entry) → e.by ≡ n → calls_by n (e ∷ []) ≡ e ∷ []
one_own n e h = ap (λ (b : Bool). cond b (e ∷ []) []) (eq-eqb e.by n h)

one_other : (n : ℕ) (e : Entry) → e.by ≢ n → calls_by n (e ∷ []) ≡ []
one_other n e h = ap (λ (b : Bool). cond b (e ∷ []) []) (ne_eqb e.by n h)

pub calls_own : (n : ℕ) (es : List Entry) (e : Entry) → e.by ≡ n → calls_by n (es ++ e ∷ []) ≡ calls_by n es ++ e ∷ []
calls_own n es e h = calls_by-append n es (e ∷ []) ∙ ap (λ (l : List Entry). calls_by n es ++ l) (one_own n e h)

no_more : (xs : List Entry) → xs ++ [] ≡ xs
no_more [] = refl
no_more (x ∷ xs) = ap (λ (l : List Entry). x ∷ l) (no_more xs)

pub calls_other : (n : ℕ) (es : List Entry) (e : Entry) → e.by ≢ n → calls_by n (es ++ e ∷ []) ≡ calls_by n es
calls_other n es e h = calls_by-append n es (e ∷ []) ∙ ap (λ (l : List Entry). calls_by n es ++ l) (one_other n e h)
    ∙ no_more (calls_by n es)

pub starts_self : (log : List Entry) → StartsWith log log
starts_self log = ([], sym (no_more log))

pub starts_empty : (log : List Entry) → StartsWith log []
starts_empty log = (log, refl)

pub starts_more : (log seen more : List Entry) → StartsWith log seen → StartsWith (log ++ more) seen
starts_more log seen more h = (h.0 ++ more, ap (λ (l : List Entry). l ++ more) h.1 ∙ append_assoc seen h.0 more)
