-- Worked examples: each program with the budget that is enough, and what it comes to with one tick less.
use Rattle.std.specs.Prelude.{◌≡◌, ℕ, ◌^◌, pos, List, [], ◌∷◌, None, true, false, codes, refl}
use Rattle.std.specs.Int.{int_wrap}
use Rattle.sz_types.specs.declared.place.Place.{Place}
use Rattle.sz_value.specs.Data.{Datum}
use Rattle.sz_tabs.specs.Data.{EmitDatum}
use Rattle.sz_core.specs.Statements.{some, each, all}
use Rattle.sz_core.specs.Programs.{Core}
use Rattle.sz_world_rules.specs.World.{Outcome, Done, Faulted, budget_passed, undefined_used, store_outside, calls_too_deep}
use Rattle.sz_mean.specs.Marked.{marked}
use Rattle.sz_mean.specs.Programs.{mean}
use Rattle.sz_mean.proofs.WorkedTrees.{at, number, emits_sum, joins_texts, counts_down, counts_up, emits_if, stores_outside, calls_on}
use Rattle.sz_mean.proofs.WorkedTrees.{emits_without_weight, undefined_left, nothing, emits_place, emits_seven, searches}

ends : Core → ℕ → List ℕ → Outcome (List EmitDatum)
ends core budget input = mean (marked core false) [] budget input

fault : ℕ → Place → Outcome (List EmitDatum)
fault kind place = Faulted (record { kind = kind; place = place })

of_number : ℕ → EmitDatum
of_number n = record { table = 0; indexes = []; value = Datum.int (pos n); weight = None }

sum_enough : ends emits_sum 5 [] ≡ Done (of_number 3 ∷ [])
unfolding ends of_number int_wrap
sum_enough = refl

sum_less : ends emits_sum 4 [] ≡ fault budget_passed (at 2 1)
unfolding ends fault int_wrap
sum_less = refl

texts_enough : ends joins_texts 8 [] ≡ Done []
unfolding ends
texts_enough = refl

texts_less : ends joins_texts 7 [] ≡ fault budget_passed (at 1 1)
unfolding ends fault
texts_less = refl

texts_two_less : ends joins_texts 6 [] ≡ fault budget_passed (at 1 13)
unfolding ends fault
texts_two_less = refl

down_enough : ends counts_down 25 (codes "2") ≡ Done []
unfolding ends int_wrap
down_enough = refl

down_less : ends counts_down 24 (codes "2") ≡ fault budget_passed (at 2 1)
unfolding ends fault int_wrap
down_less = refl

up_enough : ends counts_up 42 [] ≡ Done (of_number 0 ∷ of_number 1 ∷ of_number 2 ∷ [])
unfolding ends of_number int_wrap
up_enough = refl

up_less : ends counts_up 41 [] ≡ fault budget_passed (at 2 1)
unfolding ends fault int_wrap
up_less = refl

-- an undefined left operand leaves the right one unseen: three ticks, one for each of `x`, `&&` and the declaration
left_enough : ends undefined_left 3 [] ≡ Done []
unfolding ends
left_enough = refl

left_less : ends undefined_left 2 [] ≡ fault budget_passed (at 2 1)
unfolding ends fault
left_less = refl

-- an emit with an undefined weight is ignored, and takes one tick after those of its parts
weight_enough : ends emits_without_weight 5 [] ≡ Done []
unfolding ends int_wrap
weight_enough = refl

weight_less : ends emits_without_weight 4 [] ≡ fault budget_passed (at 2 1)
unfolding ends fault int_wrap
weight_less = refl

undefined_test : ends emits_if 100 [] ≡ fault undefined_used (at 3 1)
unfolding ends fault
undefined_test = refl

-- the same programs, ignoring: the line is counted in the table behind the one that is declared, for the same ticks
ends_ignoring : Core → ℕ → List ℕ → Outcome (List EmitDatum)
ends_ignoring core budget input = mean (marked core true) [] budget input

line_counted : ℕ → ℕ → EmitDatum
line_counted table row = record {
  table = table;
  indexes = Datum.int (pos row) ∷ [];
  value = Datum.int (pos 1);
  weight = None;
}

ignored_test : ends_ignoring emits_if 7 [] ≡ Done (line_counted 1 3 ∷ [])
unfolding ends_ignoring line_counted
ignored_test = refl

ignored_test_less : ends_ignoring emits_if 6 [] ≡ fault budget_passed (at 3 1)
unfolding ends_ignoring fault
ignored_test_less = refl

ignored_emit : ends_ignoring emits_without_weight 5 [] ≡ Done (line_counted 1 2 ∷ [])
unfolding ends_ignoring line_counted int_wrap
ignored_emit = refl

ignored_emit_less : ends_ignoring emits_without_weight 4 [] ≡ fault budget_passed (at 2 1)
unfolding ends_ignoring fault int_wrap
ignored_emit_less = refl

-- a store outside of the value stays a fault
ignored_outside : ends_ignoring stores_outside 8 [] ≡ fault store_outside (at 2 1)
unfolding ends_ignoring fault
ignored_outside = refl

-- the budget is asked before where a store leads
outside_enough : ends stores_outside 8 [] ≡ fault store_outside (at 2 1)
unfolding ends fault
outside_enough = refl

outside_less : ends stores_outside 7 [] ≡ fault budget_passed (at 2 1)
unfolding ends fault
outside_less = refl

too_deep : ends calls_on (2 ^ 24) [] ≡ fault calls_too_deep (at 1 35)
unfolding ends fault int_wrap
too_deep = refl

-- the first candidate with which the condition is true is enough: seven ticks for the array, one for the base, six
-- for a candidate with its condition, and three for the emit
some_enough : ends (searches some (number (at 3 28) 3) emits_place) 17 [] ≡ Done (of_number 0 ∷ [])
unfolding ends of_number int_wrap
some_enough = refl

some_less : ends (searches some (number (at 3 28) 3) emits_place) 16 [] ≡ fault budget_passed (at 3 31)
unfolding ends fault int_wrap
some_less = refl

second_enough : ends (searches some (number (at 3 28) 5) emits_place) 23 [] ≡ Done (of_number 1 ∷ [])
unfolding ends of_number int_wrap
second_enough = refl

-- each candidate is tried, also after one with which the condition is true
each_enough : ends (searches each (number (at 3 28) 3) emits_place) 23 [] ≡ Done (of_number 0 ∷ [])
unfolding ends of_number int_wrap
each_enough = refl

each_less : ends (searches each (number (at 3 28) 3) emits_place) 22 [] ≡ fault budget_passed (at 3 20)
unfolding ends fault int_wrap
each_less = refl

-- a condition that is false for one candidate is not true for all
all_refuted : ends (searches all (number (at 3 28) 3) emits_seven) 20 [] ≡ Done []
unfolding ends int_wrap
all_refuted = refl

-- an undefined one refutes nothing, and is met by none
all_undefined : ends (searches all nothing emits_seven) 27 [] ≡ Done (of_number 7 ∷ [])
unfolding ends of_number int_wrap
all_undefined = refl

some_undefined : ends (searches some nothing emits_seven) 24 [] ≡ Done []
unfolding ends int_wrap
some_undefined = refl
