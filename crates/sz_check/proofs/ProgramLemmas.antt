-- Turns of the loop over statements at the top level, and declarations that are made twice.
use Rattle.std.proofs.Common.{◌≡◌, ℕ, ◌+◌, ◌<◌, ◌≤◌, List, ◌++◌, length, get_or, drop, map}
use Rattle.std.proofs.Common.{refl, sym, ap, ◌∙◌, append_assoc}
use Rattle.std.proofs.lemmas.List.{append-nil}
use Rattle.std.specs.Prelude.{Ok, Err}
use Rattle.std.specs.Global.{Vec}
use Rattle.sz_tree.specs.declared.stmt.Stmt.{Stmt}
use Rattle.sz_tree.specs.declared.stmt.Stmt.TheVariants as stmts
use Rattle.sz_tree.specs.declared.types.Param.{Param}
use Rattle.sz_tree.specs.declared.types.TypeTree.{TypeTree}
use Rattle.sz_tree.specs.Types.{params_of}
use Rattle.sz_tree.specs.Names.{Ident}
use Rattle.sz_tree.specs.Statements.{stms_of}
use Rattle.sz_tree.specs.View.{stm_of, param_of, type_of}
use Rattle.sz_tree.proofs.RowLemmas.{stm_of_function}
use Rattle.sz_core.specs.Programs.{Item, Core}
use Rattle.sz_check_rules.specs.Refusals.{Judged, ◌>>=◌}
use Rattle.sz_check_rules.specs.JudgingPrograms.{TopScene, Found}
use Rattle.sz_check_rules.specs.JudgingPrograms.{judge_function, judge_top, judge_all}
use Rattle.sz_check.specs.Top.{with_items}
use Rattle.sz_check.specs.Answering.{numbered, Answers}
use Rattle.sz_check_names.specs.Outcome.{Stops}
use Rattle.sz_check_names.specs.declared.error.JudgeError.{JudgeError}
use Rattle.sz_check_names.specs.declared.error.JudgeError.TheVariants as errors
use Rattle.sz_types.proofs.ForCallers.{rest_more, rest_none}

-- the statements after the first, with what the first is
abbrev following : List Stmt → Found → Judged Found
following ts first = judge_all first.known (stms_of (map stm_of ts))
    >>= λ rest. Ok (record { known = rest.known; items = first.items ++ rest.items })

all_turn : (k : TopScene) (ts : List Stmt) (i : ℕ) (t : Stmt) → i < length ts → t ≡ get_or ts i t
    → judge_all k (stms_of (map stm_of (drop i ts))) ≡ (judge_top k (stm_of t) >>= following (drop (i + 1) ts))
unfolding judge_all
all_turn k ts i t within is = rw (rest_more stm_of ts i t within is) refl

pub all_fails : (front : List Item) (k : TopScene) (ts : List Stmt) (i : ℕ) (t : Stmt) (e : JudgeError)
    (whole : Judged Found) → i < length ts → t ≡ get_or ts i t → Stops e (judge_top k (stm_of t))
    → with_items front (judge_all k (stms_of (map stm_of (drop i ts)))) ≡ whole → Stops e whole
all_fails front k ts i t errors.NoMemory whole within is h so_far = tt
all_fails front k ts i t (errors.Refused n p name) whole within is h so_far =
    sym so_far ∙ ap (with_items front)
    (all_turn k ts i t within is ∙ ap (λ (j : Judged Found). j >>= following (drop (i + 1) ts)) h)

joined : (front items : List Item) (j : Judged Found)
    → with_items front (j >>= λ rest. Ok (record { known = rest.known; items = items ++ rest.items }))
    ≡ with_items (front ++ items) j
joined front items (Err r) = refl
joined front items (Ok rest) = ap (λ (is : List Item). Ok (record { known = rest.known; items = is }))
    (sym (append_assoc front items rest.items))

pub all_go : (front : List Item) (k : TopScene) (ts : List Stmt) (i : ℕ) (t : Stmt) (first : Found)
    (whole : Judged Found) → i < length ts → t ≡ get_or ts i t
    → judge_top k (stm_of t) ≡ Ok first → with_items front (judge_all k (stms_of (map stm_of (drop i ts)))) ≡ whole
    → with_items (front ++ first.items) (judge_all first.known (stms_of (map stm_of (drop (i + 1) ts)))) ≡ whole
all_go front k ts i t first whole within is h so_far =
    sym (joined front first.items (judge_all first.known (stms_of (map stm_of (drop (i + 1) ts)))))
    ∙ ap (with_items front)
    (ap (λ (j : Judged Found). j >>= following (drop (i + 1) ts)) (sym h) ∙ sym (all_turn k ts i t within is))
    ∙ so_far

pub all_end : (front : List Item) (k : TopScene) (ts : List Stmt) (i : ℕ) (whole : Judged Found) → length ts ≤ i
    → with_items front (judge_all k (stms_of (map stm_of (drop i ts)))) ≡ whole
    → whole ≡ Ok (record { known = k; items = front })
unfolding judge_all
all_end front k ts i whole over so_far =
    sym so_far ∙ ap (λ (rest : List _). with_items front (judge_all k (stms_of rest))) (rest_none stm_of ts i over)
    ∙ ap (λ (is : List Item). Ok (record { known = k; items = is })) (append-nil front)

-- a declaration of a function, as it stands in a tree
pub of_function : (k : TopScene) (s : Stmt) (n : Ident) (params : Vec Param) (t : TypeTree) (body : Vec Stmt)
    (ps : List Param) (ss : List Stmt) → s ≡ stmts.Function n params t body → ps ≡ params.items → ss ≡ body.items
    → judge_top k (stm_of s) ≡ judge_function k n (params_of (map param_of ps)) (type_of t) (stms_of (map stm_of ss))
of_function k s n params t body ps ss is ps_are ss_are =
    ap (λ (r : Stmt). judge_top k (stm_of r)) is ∙ ap (judge_top k) (stm_of_function n params t body)
    ∙ (λ i. judge_function k n (params_of (map param_of (sym ps_are i))) (type_of t)
    (stms_of (map stm_of (sym ss_are i))))

-- what stops the judgement is answered with its number
pub answers_stopped : (e : JudgeError) (judged : Judged Core) → Stops e judged → Answers (Err (numbered e)) judged
answers_stopped (errors.Refused cause p name) judged h = (cause, refl, h)
answers_stopped errors.NoMemory judged h = tt
