-- Each emit takes a tick: so a run has at most as many emits as ticks.
use Rattle.std.proofs.Common.{◌≡◌, ℕ, zero, suc, ◌+◌, ◌-◌, ◌<◌, ◌≤◌, List, [], ◌∷◌, length, map, Bool, true, false, Option, Some, None, refl, arith, ap, subst, length-append}
use Rattle.std.specs.Prelude.{nat_lt, slice_get, if◌then◌else◌}
use Rattle.std.proofs.lemmas.Bool.Decides.{nat_tests}
use Rattle.sz_types.specs.declared.place.Place.{Place}
use Rattle.sz_types.specs.Data.{Shape}
use Rattle.sz_value.specs.Data.{Datum, truth, int, time, str, bytes}
use Rattle.sz_value.specs.Data as datum
use Rattle.sz_tabs.specs.Data.{EmitDatum}
use Rattle.sz_core.specs.Nodes.{Node, node, Form, constant, local, static, input, call, builtin, def, convert, array, tuple, mapping, index, slice, field, unary, binary}
use Rattle.sz_core.specs.Nodes.{both, either, Nodes, no_nodes, with_node, Pairings, no_pairings, with_pairing}
use Rattle.sz_core.specs.Statements.{Step, at_index, at_field, Stm, Stms, no_stms, with_stm, block, clear, keep, store, evaluate, branch, while, do_while, for_loop, break, continue}
use Rattle.sz_core.specs.Statements.{return_value, end_record, emit, Quantity, some, each, all, Quantified, when}
use Rattle.sz_core.specs.Programs.{Function, functions_of}
use Rattle.sz_world_rules.specs.World.{most_open_calls, World, new_world, Given, Gives, Stops, Doing, and_then, ◌>>=◌, ◌>>◌, give, fails, spend, paid, pay, Done}
use Rattle.sz_world_rules.specs.Slots.{Slot, slot_at, all_defined}
use Rattle.sz_world_rules.specs.Operations.{unary_of, binary_of, applied, element_of, slice_of, part_of, definedness, converted, array_of, tuple_of, map_of}
use Rattle.sz_world_rules.specs.Ticks.{no_weight, result_weight, binary_weight, builtin_weight, conversion_weight}
use Rattle.sz_world_rules.specs.Emits.{EmitParts, emit_weight, emit_of, line_emit, emit_or_line, with_emit}
use Rattle.sz_world_rules.specs.Stores.{Stored, Holds, Undefined, Outside}
use Rattle.sz_mean.specs.Marked.{Marked, counting_table}
use Rattle.sz_mean.specs.Expressions.{Setting, results, called, if_true, if_false, eval, eval_form, eval_all, eval_pairings, eval_indexes, eval_if_some}
use Rattle.sz_mean.specs.Endings.{Ending, Normal, Breaks, Continues, Returns, Running, with_local, then_run, then_loop, passed_over, chosen, turns, turns_after}
use Rattle.sz_mean.specs.Search.{Variable, Finding, Succeeds, Misses, Leaves, Searching, or_else, and_also, and_each, found_one, if_met, if_refuted, succeeded}
use Rattle.sz_mean.specs.Search.{ending_of, tried, any_of, each_of, all_of, holds, search_by, search, exec_when}
use Rattle.sz_mean.specs.Statements.{assigned, if_defined, emits, test_of, idle, variable_of, exec, exec_all}
use Rattle.sz_mean.specs.Programs.{run_function, calls_at, emits_given, body_of, run_record, mean}

-- what was emitted was paid for: emits and ticks that are left are together no more than before
abbrev Pays : {X : Type 0} → World → Given X → Type 0
Pays w (Gives x after) = length after.emits + after.left ≤ length w.emits + w.left
Pays w (Stops fault) = Unit {0}

-- whatever the world is
record Paying {X : Type 0} (doing : Doing X) : Type 0 where
  pays : (w : World) → Pays w (doing w)

then_more : {X Y : Type 0} (w : World) (r : Given X) (second : X → Doing Y) → Pays w r → ((x : X) → Paying (second x))
    → Pays w (and_then r second)
then_more w (Stops fault) second h k = tt
then_more {X} {Y} w (Gives x after) second h k = both (second x after) ((k x).pays after)
  where
    both : (r : Given Y) → Pays after r → Pays w r
    both (Stops fault) m = tt
    both (Gives y last) m = omega (arith, h, m)

-- one thing after the other
then_pays : {X Y : Type 0} (first : Doing X) (second : X → Doing Y) → Paying first → ((x : X) → Paying (second x))
    → Paying (first >>= second)
then_pays first second h k = record { pays = λ w. then_more w (first w) second (h.pays w) k }

given : {X : Type 0} (x : X) → Paying (give x)
given x = record { pays = λ w. omega arith }

failed : {X : Type 0} (kind : ℕ) (place : Place) → Paying (fails {X = X} kind place)
failed kind place = record { pays = λ w. tt }

-- what is left after ticks are taken
left_after : (n : ℕ) (place : Place) (w : World) → Pays w (pay n place w)
left_after zero place w = omega arith
left_after (suc n) place w = by (nat_lt n w.left) refl
  where
    by : (b : Bool) → nat_lt n w.left ≡ b
        → Pays w (paid place (if b then Some (record w { left = w.left - suc n }) else None))
    by true e = omega arith
    by false e = tt

ticks : (n : ℕ) (place : Place) → Paying (pay n place)
ticks n place = record { pays = left_after n place }

-- the same with a tick to spare, whatever the world is
abbrev Takes : {X : Type 0} → World → Given X → Type 0
Takes w (Gives x after) = suc (length after.emits + after.left) ≤ length w.emits + w.left
Takes w (Stops fault) = Unit {0}

record Taking {X : Type 0} (doing : Doing X) : Type 0 where
  takes : (w : World) → Takes w (doing w)

-- the same with a tick that is still owed
abbrev Owes : {X : Type 0} → World → Given X → Type 0
Owes w (Gives x after) = length after.emits + after.left ≤ suc (length w.emits + w.left)
Owes w (Stops fault) = Unit {0}

record Owing {X : Type 0} (doing : Doing X) : Type 0 where
  owes : (w : World) → Owes w (doing w)

-- what has a tick to spare is paid
spared : {X : Type 0} (doing : Doing X) → Taking doing → Paying doing
spared {X} doing h = record { pays = λ w. by w (doing w) (h.takes w) }
  where
    by : (w : World) (r : Given X) → Takes w r → Pays w r
    by w (Stops fault) m = tt
    by w (Gives x after) m = omega (arith, m)

-- what is paid owes no more than a tick
not_more : {X : Type 0} (doing : Doing X) → Paying doing → Owing doing
not_more {X} doing h = record { owes = λ w. by w (doing w) (h.pays w) }
  where
    by : (w : World) (r : Given X) → Pays w r → Owes w r
    by w (Stops fault) m = tt
    by w (Gives x after) m = omega (arith, m)

-- one thing after the other, of which the second has a tick to spare
later_takes : {X Y : Type 0} (first : Doing X) (second : X → Doing Y) → Paying first → ((x : X) → Taking (second x))
    → Taking (first >>= second)
later_takes {X} {Y} first second h k = record { takes = λ w. by w (first w) (h.pays w) }
  where
    with_both : (w after : World) (r : Given Y) → length after.emits + after.left ≤ length w.emits + w.left
        → Takes after r → Takes w r
    with_both w after (Stops fault) m n = tt
    with_both w after (Gives y last) m n = omega (arith, m, n)

    by : (w : World) (r : Given X) → Pays w r → Takes w (and_then r second)
    by w (Stops fault) m = tt
    by w (Gives x after) m = with_both w after (second x after) m ((k x).takes after)

-- one thing after the other, of which the first has a tick to spare
first_takes : {X Y : Type 0} (first : Doing X) (second : X → Doing Y) → Taking first → ((x : X) → Paying (second x))
    → Taking (first >>= second)
first_takes {X} {Y} first second h k = record { takes = λ w. by w (first w) (h.takes w) }
  where
    with_both : (w after : World) (r : Given Y) → suc (length after.emits + after.left) ≤ length w.emits + w.left
        → Pays after r → Takes w r
    with_both w after (Stops fault) m n = tt
    with_both w after (Gives y last) m n = omega (arith, m, n)

    by : (w : World) (r : Given X) → Takes w r → Takes w (and_then r second)
    by w (Stops fault) m = tt
    by w (Gives x after) m = with_both w after (second x after) m ((k x).pays after)

-- one thing after the other, of which the first has the tick that the second owes
settled : {X Y : Type 0} (first : Doing X) (second : X → Doing Y) → Taking first → ((x : X) → Owing (second x))
    → Paying (first >>= second)
settled {X} {Y} first second h k = record { pays = λ w. by w (first w) (h.takes w) }
  where
    with_both : (w after : World) (r : Given Y) → suc (length after.emits + after.left) ≤ length w.emits + w.left
        → Owes after r → Pays w r
    with_both w after (Stops fault) m n = tt
    with_both w after (Gives y last) m n = omega (arith, m, n)

    by : (w : World) (r : Given X) → Takes w r → Pays w (and_then r second)
    by w (Stops fault) m = tt
    by w (Gives x after) m = with_both w after (second x after) m ((k x).owes after)

-- ticks are to spare
taken_after : (n : ℕ) (place : Place) (w : World) → Takes w (pay (suc n) place w)
taken_after n place w = by (nat_lt n w.left) refl
  where
    by : (b : Bool) → nat_lt n w.left ≡ b
        → Takes w (paid place (if b then Some (record w { left = w.left - suc n }) else None))
    by true e = let less : n < w.left = grind (arith, nat_tests) in omega (arith, less)
    by false e = tt

tick : (place : Place) → Taking (pay 1 place)
tick place = record { takes = taken_after 0 place }

result : (place : Place) (added : Slot → ℕ) (x : Slot) → Taking (results place added x)
result place added x =
    let more : suc (added x) ≡ 1 + added x = omega arith in
    first_takes (pay (1 + added x) place) (λ _. give x)
    (subst (λ n. Taking (pay n place)) more (record { takes = taken_after (added x) place })) (λ _. given x)

-- what calls do
abbrev CallsPay : Setting → Type 0
CallsPay s = (f : ℕ) (place : Place) (arguments : List Datum) → Paying (s.calls f place arguments)

call_pays : (s : Setting) → CallsPay s → (f : ℕ) (place : Place) (arguments : Option (List Datum))
    → Paying (called s.calls f place arguments)
call_pays s calls f place None = given {X = Slot} None
call_pays s calls f place (Some arguments) = calls f place arguments

true_pays : (x : Slot) (right : Doing Slot) → Paying right → Paying (if_true x right)
true_pays None right h = given {X = Slot} None
true_pays (Some (truth true)) right h = h
true_pays (Some (truth false)) right h = given {X = Slot} (Some (truth false))
true_pays (Some (int n)) right h = given {X = Slot} (Some (int n))
true_pays (Some (time n)) right h = given {X = Slot} (Some (time n))
true_pays (Some (str t)) right h = given {X = Slot} (Some (str t))
true_pays (Some (bytes t)) right h = given {X = Slot} (Some (bytes t))
true_pays (Some (datum.array ds)) right h = given {X = Slot} (Some (datum.array ds))
true_pays (Some (datum.tuple ds)) right h = given {X = Slot} (Some (datum.tuple ds))
true_pays (Some (datum.mapping es)) right h = given {X = Slot} (Some (datum.mapping es))

false_pays : (x : Slot) (right : Doing Slot) → Paying right → Paying (if_false x right)
false_pays None right h = given {X = Slot} None
false_pays (Some (truth true)) right h = given {X = Slot} (Some (truth true))
false_pays (Some (truth false)) right h = h
false_pays (Some (int n)) right h = given {X = Slot} (Some (int n))
false_pays (Some (time n)) right h = given {X = Slot} (Some (time n))
false_pays (Some (str t)) right h = given {X = Slot} (Some (str t))
false_pays (Some (bytes t)) right h = given {X = Slot} (Some (bytes t))
false_pays (Some (datum.array ds)) right h = given {X = Slot} (Some (datum.array ds))
false_pays (Some (datum.tuple ds)) right h = given {X = Slot} (Some (datum.tuple ds))
false_pays (Some (datum.mapping es)) right h = given {X = Slot} (Some (datum.mapping es))

module _ (s : Setting) (calls : CallsPay s) (locals : List Slot) where
  mutual
    eval_takes : (e : Node) → Taking (eval s locals e)
    eval_takes (node place t form) = form_takes place t form

    eval_pays : (e : Node) → Paying (eval s locals e)
    eval_pays (node place t form) = spared (eval s locals (node place t form)) (form_takes place t form)

    form_takes : (place : Place) (t : Shape) (form : Form) → Taking (eval_form s locals place t form)
    form_takes place t (constant d) = result place no_weight (Some d)
    form_takes place t (local n) = result place no_weight (slot_at locals n)
    form_takes place t (static n) = result place no_weight (slot_at s.statics n)
    form_takes place t input = result place no_weight s.input
    form_takes place t (call f es) =
        later_takes (eval_all s locals es) _ (all_pay es)
        (λ xs. first_takes (pay 1 place) _ (tick place) (λ _. call_pays s calls f place (all_defined xs)))
    form_takes place t (builtin b es) =
        later_takes (eval_all s locals es) _ (all_pay es) (λ xs. result place (builtin_weight b) (applied b xs))
    form_takes place t (def e) =
        later_takes (eval s locals e) _ (eval_pays e) (λ x. result place no_weight (definedness x))
    form_takes place t (convert e) =
        later_takes (eval s locals e) _ (eval_pays e) (λ x. result place (conversion_weight t x) (converted t x))
    form_takes place t (array es) =
        later_takes (eval_all s locals es) _ (all_pay es) (λ xs. result place result_weight (array_of xs))
    form_takes place t (tuple es) =
        later_takes (eval_all s locals es) _ (all_pay es) (λ xs. result place result_weight (tuple_of xs))
    form_takes place t (mapping ps) =
        later_takes (eval_pairings s locals ps) _ (pairings_pay ps) (λ xs. result place result_weight (map_of xs))
    form_takes place t (index e i) =
        later_takes (eval s locals e) _ (eval_pays e)
        (λ x. later_takes (eval s locals i) _ (eval_pays i) (λ y. result place no_weight (element_of x y)))
    form_takes place t (slice e i j) =
        later_takes (eval s locals e) _ (eval_pays e)
        (λ x. later_takes (eval s locals i) _ (eval_pays i)
        (λ y. later_takes (eval s locals j) _ (eval_pays j) (λ z. result place result_weight (slice_of x y z))))
    form_takes place t (field e n) =
        later_takes (eval s locals e) _ (eval_pays e) (λ x. result place no_weight (part_of n x))
    form_takes place t (unary o e) =
        later_takes (eval s locals e) _ (eval_pays e) (λ x. result place no_weight (unary_of o x))
    form_takes place t (binary o a b) =
        later_takes (eval s locals a) _ (eval_pays a)
        (λ x. later_takes (eval s locals b) _ (eval_pays b) (λ y. result place (binary_weight o) (binary_of o x y)))
    form_takes place t (both a b) =
        later_takes (eval s locals a) _ (eval_pays a)
        (λ x. later_takes (if_true x (eval s locals b)) _ (true_pays x _ (eval_pays b)) (λ y. result place no_weight y))
    form_takes place t (either a b) =
        later_takes (eval s locals a) _ (eval_pays a)
        (λ x. later_takes (if_false x (eval s locals b)) _ (false_pays x _ (eval_pays b))
        (λ y. result place no_weight y))

    all_pay : (es : Nodes) → Paying (eval_all s locals es)
    all_pay no_nodes = given []
    all_pay (with_node e es) =
        then_pays (eval s locals e) _ (eval_pays e)
        (λ x. then_pays (eval_all s locals es) _ (all_pay es) (λ xs. given (x ∷ xs)))

    pairings_pay : (ps : Pairings) → Paying (eval_pairings s locals ps)
    pairings_pay no_pairings = given []
    pairings_pay (with_pairing k v ps) =
        then_pays (eval s locals k) _ (eval_pays k)
        (λ x. then_pays (eval s locals v) _ (eval_pays v)
        (λ y. then_pays (eval_pairings s locals ps) _ (pairings_pay ps) (λ xs. given (x ∷ y ∷ xs))))

  indexes_pay : (steps : List Step) → Paying (eval_indexes s locals steps)
  indexes_pay [] = given []
  indexes_pay (at_index e ∷ steps) =
      then_pays (eval s locals e) _ (eval_pays e)
      (λ x. then_pays (eval_indexes s locals steps) _ (indexes_pay steps) (λ xs. given (x ∷ xs)))
  indexes_pay (at_field n ∷ steps) = indexes_pay steps

  optional_pays : (e : Option Node) → Paying (eval_if_some s locals e)
  optional_pays None = given {X = Option Slot} None
  optional_pays (Some e) = then_pays (eval s locals e) _ (eval_pays e) (λ x. given (Some x))

-- a run with the variables as they are
abbrev RunPays : Running → Type 0
RunPays run = (locals : List Slot) → Paying (run locals)

then_run_pays : (ending : Ending) (next : Running) → RunPays next → Paying (then_run ending next)
then_run_pays (Normal locals) next h = h locals
then_run_pays (Breaks locals) next h = given (Breaks locals)
then_run_pays (Continues locals) next h = given (Continues locals)
then_run_pays (Returns x) next h = given (Returns x)

then_loop_pays : (ending : Ending) (next : Running) → RunPays next → Paying (then_loop ending next)
then_loop_pays (Normal locals) next h = h locals
then_loop_pays (Breaks locals) next h = given (Normal locals)
then_loop_pays (Continues locals) next h = h locals
then_loop_pays (Returns x) next h = given (Returns x)

-- a line that is counted is owed a tick
passed_owes : (counting : Option ℕ) (place : Place) (locals : List Slot) → Owing (passed_over counting place locals)
passed_owes None place locals = record { owes = λ w. tt }
passed_owes (Some table) place locals = record {
  owes = λ w. omega (arith, length-append w.emits (line_emit table place ∷ []));
}

chosen_owes : (x : Slot) (first second unknown : Doing Ending) → Paying first → Paying second → Owing unknown
    → Owing (chosen x first second unknown)
chosen_owes None first second unknown h k u = u
chosen_owes (Some (truth true)) first second unknown h k u = not_more first h
chosen_owes (Some (truth false)) first second unknown h k u = not_more second k
chosen_owes (Some (int n)) first second unknown h k u = not_more second k
chosen_owes (Some (time n)) first second unknown h k u = not_more second k
chosen_owes (Some (str t)) first second unknown h k u = not_more second k
chosen_owes (Some (bytes t)) first second unknown h k u = not_more second k
chosen_owes (Some (datum.array ds)) first second unknown h k u = not_more second k
chosen_owes (Some (datum.tuple ds)) first second unknown h k u = not_more second k
chosen_owes (Some (datum.mapping es)) first second unknown h k u = not_more second k

-- a test's tick, and what follows by the test
tested_pays : (counting : Option ℕ) (place : Place) (locals : List Slot) (x : Slot) (first second : Doing Ending)
    → Paying first → Paying second → Paying (pay 1 place >> chosen x first second (passed_over counting place locals))
tested_pays counting place locals x first second h k =
    settled (pay 1 place) _ (tick place) (λ _. chosen_owes x first second _ h k (passed_owes counting place locals))

turns_pay : (counting : Option ℕ) (place : Place) (test : List Slot → Doing Slot) (between body : Running)
    → ((locals : List Slot) → Paying (test locals))
    → RunPays between → RunPays body → (n : ℕ) → RunPays (turns counting place test between body n)
turns_pay counting place test between body t b d zero locals = failed _ place
turns_pay counting place test between body t b d (suc n) locals =
    let next = turns counting place test between body n in
    let again = turns_pay counting place test between body t b d n in
    then_pays (test locals) _ (t locals)
    (λ x. tested_pays counting place locals x _ _
    (then_pays (body locals) _ (d locals)
    (λ ending. then_loop_pays ending _
    (λ after. then_pays (between after) _ (b after)
    (λ stepped. then_run_pays stepped _ (λ l. then_pays (pay 1 place) (λ _. next l) (ticks 1 place) (λ _. again l))))))
    (given (Normal locals)))

turns_after_pay : (counting : Option ℕ) (place : Place) (body : Running) (test : List Slot → Doing Slot) → RunPays body
    → ((locals : List Slot) → Paying (test locals)) → (n : ℕ) → RunPays (turns_after counting place body test n)
turns_after_pay counting place body test d t zero locals = failed _ place
turns_after_pay counting place body test d t (suc n) locals =
    let next = turns_after counting place body test n in
    let again = turns_after_pay counting place body test d t n in
    then_pays (body locals) _ (d locals)
    (λ ending. then_loop_pays ending _
    (λ after. then_pays (test after) _ (t after)
    (λ x. tested_pays counting place after x _ _
    (then_pays (pay 1 place) (λ _. next after) (ticks 1 place) (λ _. again after)) (given (Normal after)))))

-- an emit has a tick of its own
emits_pay : (counting : Option ℕ) (place : Place) (table : ℕ) (parts : EmitParts)
    → RunPays (emits counting place table parts)
emits_pay counting place table parts locals = record { pays = λ w. by w (spend (1 + emit_weight parts) w) refl }
  where
    added : (e : Option EmitDatum) (after : World) → length (with_emit e after).emits ≤ suc (length after.emits)
    added None after = omega arith
    added (Some e) after = omega (arith, length-append after.emits (e ∷ []))

    same_left : (e : Option EmitDatum) (after : World) → (with_emit e after).left ≡ after.left
    same_left None after = refl
    same_left (Some e) after = refl

    taken : (n : ℕ) (w after : World) (b : Bool) → nat_lt n w.left ≡ b
        → (if b then Some (record w { left = w.left - suc n }) else None) ≡ Some after
        → suc (length after.emits + after.left) ≤ length w.emits + w.left
    taken n w after true t e =
        let less : n < w.left = grind (arith, nat_tests) in
        let same : Some (record w { left = w.left - suc n }) ≡ Some after = e in
        let one : (record w { left = w.left - suc n }) ≡ after = cc in
        let left : w.left - suc n ≡ after.left = ap (λ (v : World). v.left) one in
        let emits : length w.emits ≡ length after.emits = ap (λ (v : World). length v.emits) one in
        omega (arith, less, left, emits)
    taken n w after false t e = absurd (cc)

    by : (w : World) (m : Option World) → spend (1 + emit_weight parts) w ≡ m
        → Pays w (and_then (paid place m)
        (λ _ after. Gives (Normal locals) (with_emit (emit_or_line (emit_of table parts) counting place) after)))
    by w None e = tt
    by w (Some after) e =
        let more : 1 + emit_weight parts ≡ suc (emit_weight parts) = omega arith in
        let less = taken (emit_weight parts) w after (nat_lt (emit_weight parts) w.left) refl
        (subst (λ n. spend n w ≡ Some after) more e) in
        let few = added (emit_or_line (emit_of table parts) counting place) after in
        let left = same_left (emit_or_line (emit_of table parts) counting place) after in omega (arith, less, few, left)

assigned_owes : (counting : Option ℕ) (stored : Stored) (place : Place) (n : ℕ) (locals : List Slot)
    → Owing (assigned counting stored place n locals)
assigned_owes counting (Holds d) place n locals =
    not_more (give (Normal (with_local n (Some d) locals))) (given (Normal (with_local n (Some d) locals)))
assigned_owes counting Undefined place n locals = passed_owes counting place locals
assigned_owes counting Outside place n locals = record { owes = λ w. tt }

defined_owes : (x : Slot) (next unknown : Doing Ending) → Paying next → Owing unknown
    → Owing (if_defined x next unknown)
defined_owes None next unknown h u = u
defined_owes (Some d) next unknown h u = not_more next h

test_pays : (s : Setting) → CallsPay s → (e : Option Node) (locals : List Slot) → Paying (test_of s e locals)
test_pays s calls None locals = given {X = Slot} (Some (truth true))
test_pays s calls (Some e) locals = eval_pays s calls locals e

-- a search with the variables as they are
abbrev SearchPays : Searching → Type 0
SearchPays search = (locals : List Slot) → Paying (search locals)

or_else_pays : (finding : Finding) (next : Searching) → SearchPays next → Paying (or_else finding next)
or_else_pays (Succeeds locals) next h = given (Succeeds locals)
or_else_pays (Misses locals) next h = h locals
or_else_pays (Leaves x) next h = given (Leaves x)

and_also_pays : (finding : Finding) (next : Searching) → SearchPays next → Paying (and_also finding next)
and_also_pays (Succeeds locals) next h = h locals
and_also_pays (Misses locals) next h = given (Misses locals)
and_also_pays (Leaves x) next h = given (Leaves x)

and_each_pays : (finding : Finding) (found : Bool) (next : Bool → Searching) → ((b : Bool) → SearchPays (next b))
    → Paying (and_each finding found next)
and_each_pays (Succeeds locals) found next h = h true locals
and_each_pays (Misses locals) found next h = h found locals
and_each_pays (Leaves x) found next h = given (Leaves x)

found_one_pays : (found : Bool) → SearchPays (found_one found)
found_one_pays true locals = given (Succeeds locals)
found_one_pays false locals = given (Misses locals)

met_pays : (x : Slot) (first second : Doing Finding) → Paying first → Paying second → Paying (if_met x first second)
met_pays None first second h k = k
met_pays (Some (truth true)) first second h k = h
met_pays (Some (truth false)) first second h k = k
met_pays (Some (int n)) first second h k = k
met_pays (Some (time n)) first second h k = k
met_pays (Some (str t)) first second h k = k
met_pays (Some (bytes t)) first second h k = k
met_pays (Some (datum.array ds)) first second h k = k
met_pays (Some (datum.tuple ds)) first second h k = k
met_pays (Some (datum.mapping es)) first second h k = k

refuted_pays : (x : Slot) (first second : Doing Finding) → Paying first → Paying second
    → Paying (if_refuted x first second)
refuted_pays None first second h k = k
refuted_pays (Some (truth true)) first second h k = k
refuted_pays (Some (truth false)) first second h k = h
refuted_pays (Some (int n)) first second h k = k
refuted_pays (Some (time n)) first second h k = k
refuted_pays (Some (str t)) first second h k = k
refuted_pays (Some (bytes t)) first second h k = k
refuted_pays (Some (datum.array ds)) first second h k = k
refuted_pays (Some (datum.tuple ds)) first second h k = k
refuted_pays (Some (datum.mapping es)) first second h k = k

succeeded_pays : (ending : Ending) → Paying (succeeded ending)
succeeded_pays (Normal locals) = given (Succeeds locals)
succeeded_pays (Breaks locals) = given (Succeeds locals)
succeeded_pays (Continues locals) = given (Succeeds locals)
succeeded_pays (Returns x) = given (Leaves x)

-- so do the bases of variables
abbrev BasesPay : List Variable → Type 0
BasesPay [] = Unit {0}
BasesPay (v ∷ vs) = ((locals : List Slot) → Paying (v.base locals)) × BasesPay vs

module _ (place : Place) (condition : List Slot → Doing Slot) (body : Running)
    (c : (locals : List Slot) → Paying (condition locals)) (b : RunPays body) where
  tried_pays : (n : ℕ) (d : Datum) (rest : Searching) → SearchPays rest
      → SearchPays (tried place condition body n d rest)
  tried_pays n d rest h locals = then_pays (pay 1 place) _ (ticks 1 place) (λ _. h _)

  any_pays : (n : ℕ) (rest : Searching) → SearchPays rest → (cs : List Datum)
      → SearchPays (any_of place condition body n rest cs)
  any_pays n rest h [] locals = given (Misses locals)
  any_pays n rest h (d ∷ ds) locals =
      then_pays (tried place condition body n d rest locals) _ (tried_pays n d rest h locals)
      (λ f. or_else_pays f _ (any_pays n rest h ds))

  each_pays : (n : ℕ) (rest : Searching) → SearchPays rest → (cs : List Datum) (found : Bool)
      → SearchPays (each_of place condition body n rest cs found)
  each_pays n rest h [] found locals = found_one_pays found locals
  each_pays n rest h (d ∷ ds) found locals =
      then_pays (tried place condition body n d rest locals) _ (tried_pays n d rest h locals)
      (λ f. and_each_pays f found _ (each_pays n rest h ds))

  all_pays : (n : ℕ) (rest : Searching) → SearchPays rest → (cs : List Datum)
      → SearchPays (all_of place condition body n rest cs)
  all_pays n rest h [] locals = given (Succeeds locals)
  all_pays n rest h (d ∷ ds) locals =
      then_pays (tried place condition body n d rest locals) _ (tried_pays n d rest h locals)
      (λ f. and_also_pays f _ (all_pays n rest h ds))

  holds_pays : (vs : List Variable) → BasesPay vs → SearchPays (holds place condition body vs)
  holds_pays [] h locals =
      then_pays (condition locals) _ (c locals)
      (λ x. refuted_pays x _ _ (given (Misses locals)) (given (Succeeds locals)))
  holds_pays (v ∷ vs) h locals =
      then_pays (v.base locals) _ (h.0 locals) (λ x. all_pays v.local _ (holds_pays vs h.1) _ locals)

  by_pays : (q : Quantity) (n : ℕ) (cs : List Datum) (rest others : Searching) → SearchPays rest → SearchPays others
      → SearchPays (search_by place condition body q n cs rest others)
  by_pays some n cs rest others h k locals = any_pays n rest h cs locals
  by_pays each n cs rest others h k locals = each_pays n rest h cs false locals
  by_pays all n cs rest others h k locals =
      then_pays (all_of place condition body n others cs locals) _ (all_pays n others k cs locals)
      (λ f. and_also_pays f _ (λ l. then_pays (body l) _ (b l) (λ ending. succeeded_pays ending)))

  search_pays : (vs : List Variable) → BasesPay vs → SearchPays (search place condition body vs)
  search_pays [] h locals =
      then_pays (condition locals) _ (c locals)
      (λ x. met_pays x _ _ (then_pays (body locals) _ (b locals) (λ ending. succeeded_pays ending))
      (given (Misses locals)))
  search_pays (v ∷ vs) h locals =
      then_pays (v.base locals) _ (h.0 locals)
      (λ x. by_pays v.quantity v.local _ _ _ (search_pays vs h.1) (holds_pays vs h.1) locals)

  when_pays : (vs : List Variable) → BasesPay vs → RunPays (exec_when place condition body vs)
  when_pays vs h locals =
      then_pays (search place condition body vs locals) _ (search_pays vs h locals) (λ f. given (ending_of f))

module _ (s : Setting) (calls : CallsPay s) where
  bases_pay : (vs : List Quantified) → BasesPay (map (variable_of s) vs)
  bases_pay [] = tt
  bases_pay (v ∷ vs) = (λ l. eval_pays s calls l v.base, bases_pay vs)

  mutual
    exec_pays : (statement : Stm) → RunPays (exec s statement)
    exec_pays (block ss) locals = all_run_pays ss locals
    exec_pays (clear n) locals = given _
    exec_pays (keep place n e) locals =
        then_pays (eval s locals e) _ (eval_pays s calls locals e)
        (λ x. then_pays (pay 1 place) _ (ticks 1 place) (λ _. given _))
    exec_pays (store place n steps e) locals =
        then_pays (eval_indexes s locals steps) _ (indexes_pay s calls locals steps)
        (λ xs. then_pays (eval s locals e) _ (eval_pays s calls locals e)
        (λ x. settled (pay 1 place) _ (tick place) (λ _. assigned_owes s.counting _ place n locals)))
    exec_pays (evaluate place e) locals =
        settled (eval s locals e) _ (eval_takes s calls locals e)
        (λ x. defined_owes x _ _ (given (Normal locals)) (passed_owes s.counting place locals))
    exec_pays (branch place e first second) locals =
        then_pays (eval s locals e) _ (eval_pays s calls locals e)
        (λ x. tested_pays s.counting place locals x _ _ (exec_pays first locals) (exec_pays second locals))
    exec_pays (while place e body) locals =
        record {
          pays = λ w. (turns_pay s.counting place (λ l. eval s l e) idle (exec s body) (λ l. eval_pays s calls l e)
              (λ l. given (Normal l)) (exec_pays body) (suc w.left) locals).pays w;
        }
    exec_pays (do_while place body e) locals =
        record {
          pays = λ w. (turns_after_pay s.counting place (exec s body) (λ l. eval s l e) (exec_pays body)
              (λ l. eval_pays s calls l e) (suc w.left) locals).pays w;
        }
    exec_pays (for_loop place e between body) locals =
        record {
          pays = λ w. (turns_pay s.counting place (test_of s e) (exec s between) (exec s body) (test_pays s calls e)
              (exec_pays between) (exec_pays body) (suc w.left) locals).pays w;
        }
    exec_pays break locals = given _
    exec_pays continue locals = given _
    exec_pays (return_value place e) locals =
        then_pays (eval s locals e) _ (eval_pays s calls locals e)
        (λ x. then_pays (pay 1 place) _ (ticks 1 place) (λ _. given _))
    exec_pays (end_record place) locals = then_pays (pay 1 place) _ (ticks 1 place) (λ _. given _)
    exec_pays (emit place table es e weight) locals =
        then_pays (eval_all s locals es) _ (all_pay s calls locals es)
        (λ xs. then_pays (eval s locals e) _ (eval_pays s calls locals e)
        (λ x. then_pays (eval_if_some s locals weight) _ (optional_pays s calls locals weight)
        (λ y. emits_pay s.counting place table (record { indexes = xs; value = x; weight = y }) locals)))
    exec_pays (when place vs c body) locals =
        when_pays place (λ l. eval s l c) (exec s body) (λ l. eval_pays s calls l c) (exec_pays body)
        (map (variable_of s) vs) (bases_pay vs) locals

    all_run_pays : (ss : Stms) → RunPays (exec_all s ss)
    all_run_pays no_stms locals = given _
    all_run_pays (with_stm first rest) locals =
        then_pays (exec s first locals) _ (exec_pays first locals)
        (λ ending. then_run_pays ending _ (all_run_pays rest))

module _ (functions : List Function) (counting : Option ℕ) (statics : List Slot) where
  function_pays : (f : Option Function) (room : ℕ) → ((g : ℕ) (place : Place) (arguments : List Datum)
      → Paying (calls_at functions counting statics room g place arguments))
      → (arguments : List Datum)
      → Paying (run_function functions counting f (calls_at functions counting statics room) statics arguments)
  function_pays None room calls arguments = given {X = Slot} None
  function_pays (Some f) room calls arguments = then_pays _ _ (all_run_pays _ calls f.body _) (λ ending. given _)

  calls_pay : (room : ℕ) (f : ℕ) (place : Place) (arguments : List Datum)
      → Paying (calls_at functions counting statics room f place arguments)
  calls_pay zero f place arguments = failed _ place
  calls_pay (suc room) f place arguments = function_pays (slice_get functions f) room (calls_pay room) arguments

-- a record has at most as many emits as its budget has ticks
pub emits_are_paid : (program : Marked) (slots : List Slot) (budget : ℕ) (text : List ℕ) (es : List EmitDatum)
    → mean program slots budget text ≡ Done es → length es ≤ budget
emits_are_paid program slots budget text es is =
    by (run_record program slots budget text)
    ((all_run_pays _ (calls_pay (functions_of program.core.items) (counting_table program) slots most_open_calls)
    (body_of program.core) _).pays (new_world budget)) is
  where
    same : (a b : List EmitDatum) → Done a ≡ Done b → a ≡ b
    same a b e = cc

    by : (r : Given Ending) → Pays (new_world budget) r → emits_given r ≡ Done es → length es ≤ budget
    by (Gives ending w) h is = let one = ap length (same w.emits es is) in omega (arith, h, one)
    by (Stops fault) h is = absurd (cc)
