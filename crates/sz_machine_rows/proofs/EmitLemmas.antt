-- Emits whose parts are on the operands.
use Rattle.std.proofs.Common.{◌≡◌, ◌∙◌, ℕ, suc, ◌+◌, List, [], ◌∷◌, ◌++◌, length, drop, ◌≤◌, Option, Some, None, true, false, refl, sym, ap, subst, arith}
use Rattle.std.specs.Option.{option_map}
use Rattle.std.specs.Prelude.{is_some}
use Rattle.sz_types.specs.declared.place.Place.{Place}
use Rattle.sz_value.specs.Data.{Datum}
use Rattle.sz_value.specs.Weight.{weight_of}
use Rattle.sz_instr.specs.declared.instr.Instr.TheVariants.{Emit}
use Rattle.sz_instr.specs.declared.code.Code.{Code}
use Rattle.sz_world_rules.specs.World.{World, spend, budget_passed}
use Rattle.sz_world_rules.specs.Slots.{Slot, all_defined}
use Rattle.sz_world_rules.specs.Ticks.{weight_of_all, result_weight}
use Rattle.sz_world_rules.specs.Emits.{emit_by_weight, emit_or_line, emit_weight, emit_weighted, with_emit, weight_number, weight_if_all, listed}
use Rattle.sz_instr.specs.States.{State, Goes, popped, faults}
use Rattle.sz_machine_rows.specs.declared.run_state.RunState.{RunState}
use Rattle.sz_machine_rows.specs.declared.run_state.Onward.TheVariants.{On}
use Rattle.sz_machine_rows.specs.Acting.{Around, Paid, DoesAt, world_of, state_of, when_paid, weighs_and_acts}
use Rattle.sz_machine_rows.specs.Emitting.{parts_weight, emits_made, emits_paid, emits_on_top}

-- nothing is emitted without indexes
pub no_indexes : (table : ℕ) (value : Slot) (weight : Option Slot) → emit_by_weight table None value weight ≡ None
no_indexes table value None = refl
no_indexes table value (Some w) = by (weight_number w)
  where
    by : (n : _) → emit_weighted table None value n ≡ None
    by None = refl
    by (Some n) = refl

-- or without a value
pub no_value : (table : ℕ) (indexes : Option (List Datum)) (weight : Option Slot)
    → emit_by_weight table indexes None weight ≡ None
no_value table None weight = no_indexes table None weight
no_value table (Some ds) None = refl
no_value table (Some ds) (Some w) = by (weight_number w)
  where
    by : (n : _) → emit_weighted table (Some ds) None n ≡ None
    by None = refl
    by (Some n) = refl

-- what an emit adds whose parts are all there
pub weighs_plain : (o : Option (List Datum)) (x : Slot) → is_some o ≡ true → is_some x ≡ true
    → weight_if_all o + result_weight x ≡ parts_weight o x None
weighs_plain None x e f = absurd (cc)
weighs_plain (Some ds) None e f = absurd (cc)
weighs_plain (Some ds) (Some v) e f = refl

pub weighs_weighted : (o : Option (List Datum)) (x w : Slot) → is_some o ≡ true → is_some x ≡ true → is_some w ≡ true
    → weight_if_all o + result_weight x + result_weight w ≡ parts_weight o x (Some w)
weighs_weighted None x w e f g = absurd (cc)
weighs_weighted (Some ds) None w e f g = absurd (cc)
weighs_weighted (Some ds) (Some v) None e f g = absurd (cc)
weighs_weighted (Some ds) (Some v) (Some w) e f g = refl

-- one whose parts aren't all there adds nothing
pub without_value : (o : Option (List Datum)) (x : Slot) (w : Option Slot) → is_some x ≡ false → 0 ≡ parts_weight o x w
without_value None x w e = refl
without_value (Some ds) None w e = refl
without_value (Some ds) (Some v) w e = absurd (cc)

pub without_indexes : (o : Option (List Datum)) (x : Slot) (w : Option Slot) → is_some o ≡ false
    → 0 ≡ parts_weight o x w
without_indexes None x w e = refl
without_indexes (Some ds) x w e = absurd (cc)

pub without_weight : (o : Option (List Datum)) (x w : Slot) → is_some w ≡ false → 0 ≡ parts_weight o x (Some w)
without_weight None x w e = refl
without_weight (Some ds) None w e = refl
without_weight (Some ds) (Some v) None e = refl
without_weight (Some ds) (Some v) (Some w) e = absurd (cc)

-- a value alone adds what it weighs
alone_weighs : (x : Slot) → result_weight x ≡ parts_weight (Some []) x None
alone_weighs None = refl
alone_weighs (Some v) = omega arith

-- an index and a value add both weights
pub one_weighs : (i x : Slot) → is_some i ≡ true → is_some x ≡ true
    → result_weight i + result_weight x ≡ parts_weight (all_defined (i ∷ [])) x None
one_weighs None x e f = absurd (cc)
one_weighs (Some d) None e f = absurd (cc)
one_weighs (Some d) (Some v) e f = omega arith

-- without the index they add nothing
pub without_one : (i x : Slot) → is_some i ≡ false → 0 ≡ parts_weight (all_defined (i ∷ [])) x None
without_one None x e = refl
without_one (Some d) x e = absurd (cc)

-- nothing is emitted where the value or the index isn't there
pub lacks_value : (table : ℕ) (indexes : Option (List Datum)) (x : Slot) → x ≡ None
    → emit_by_weight table indexes x None ≡ None
lacks_value table indexes x e = ap (λ v. emit_by_weight table indexes v None) e ∙ no_value table indexes None

pub lacks_index : (table : ℕ) (i x : Slot) → i ≡ None → emit_by_weight table (all_defined (i ∷ [])) x None ≡ None
lacks_index table i x e = ap (λ j. emit_by_weight table (all_defined (j ∷ [])) x None) e

-- the values of two lists, if all are there
abbrev joined : Option (List Datum) → Option (List Datum) → Option (List Datum)
joined None other = None
joined (Some ds) other = option_map (λ es. ds ++ es) other

joined_with : (d : Datum) (a b : Option (List Datum))
    → option_map (λ ds. d ∷ ds) (joined a b) ≡ joined (option_map (λ ds. d ∷ ds) a) b
joined_with d None b = refl
joined_with d (Some ds) None = refl
joined_with d (Some ds) (Some es) = refl

kept : (o : Option (List Datum)) → o ≡ joined (Some []) o
kept None = refl
kept (Some ds) = refl

defined_of_both : (xs ys : List Slot) → all_defined (xs ++ ys) ≡ joined (all_defined xs) (all_defined ys)
defined_of_both [] ys = kept (all_defined ys)
defined_of_both (None ∷ xs) ys = refl
defined_of_both (Some d ∷ xs) ys = ap (option_map (λ ds. d ∷ ds)) (defined_of_both xs ys)
    ∙ joined_with d (all_defined xs) (all_defined ys)

weight_of_both : (ds es : List Datum) → weight_of_all (ds ++ es) ≡ weight_of_all ds + weight_of_all es
weight_of_both [] es = omega arith
weight_of_both (d ∷ ds) es = ap (λ n. weight_of d + n) (weight_of_both ds es) ∙ omega arith

-- the weight of an emit, whose indexes are at hand
pub weight_at_hand : (xs : List Slot) (x : Slot) (w : Option Slot)
    → emit_weight (record { indexes = xs; value = x; weight = w }) ≡ parts_weight (all_defined xs) x w
weight_at_hand xs x w = ap weight_if_all (defined_of_both xs (x ∷ listed w)) ∙ by (all_defined xs) x w
  where
    by : (o : Option (List Datum)) (x : Slot) (w : Option Slot)
        → weight_if_all (joined o (all_defined (x ∷ listed w))) ≡ parts_weight o x w
    by None x w = refl
    by (Some ds) None w = refl
    by (Some ds) (Some v) None = weight_of_both ds (v ∷ []) ∙ omega arith
    by (Some ds) (Some v) (Some None) = refl
    by (Some ds) (Some v) (Some (Some w)) = weight_of_both ds (v ∷ w ∷ []) ∙ omega arith

one_more : (n : ℕ) → n + 1 ≡ suc n
one_more n = omega arith

two_more : (n : ℕ) → n + 2 ≡ suc (suc n)
two_more n = omega arith

module _ (code : Code) (table n : ℕ) (place : Place) where
  -- an emit without a weight
  pub emit_without : (s : State) (x : Slot) (stack : List Slot) → s.stack ≡ x ∷ stack
      → weighs_and_acts code (Emit table n false) place s ≡ emits_on_top code.ignore table n None place s
  emit_without s x stack e =
      let at_hand : (l : List Slot) → l ≡ x ∷ stack
      → weighs_and_acts code (Emit table n false) place (record s { stack = l })
      ≡ emits_on_top code.ignore table n None place (record s { stack = l }) =
      λ l is. subst (λ l. weighs_and_acts code (Emit table n false) place (record s { stack = l })
      ≡ emits_on_top code.ignore table n None place (record s { stack = l })) (sym is) there in
      at_hand s.stack e
    where
      dropped : drop (n + 1) (x ∷ stack) ≡ drop n stack
      dropped = ap (λ m. drop m (x ∷ stack)) (one_more n)

      there : weighs_and_acts code (Emit table n false) place (record s { stack = x ∷ stack })
          ≡ emits_on_top code.ignore table n None place (record s { stack = x ∷ stack })
      there = λ i. when_paid place (spend (weight_at_hand (popped n stack) x None i) s.world) (λ w. Goes (record s {
        at = suc s.at;
        stack = dropped i;
        world =
            with_emit (emit_or_line (emit_by_weight table (all_defined (popped n stack)) x None) code.ignore place) w;
      }))

  -- an emit with a weight, which is popped first
  pub emit_with_weight : (s : State) (weight x : Slot) (below stack : List Slot) → s.stack ≡ weight ∷ below
      → below ≡ x ∷ stack → weighs_and_acts code (Emit table n true) place s
      ≡ emits_on_top code.ignore table n (Some weight) place (record s { stack = below })
  emit_with_weight s weight x below stack e f =
      let at_hand : weighs_and_acts code (Emit table n true) place (record s { stack = weight ∷ x ∷ stack })
      ≡ emits_on_top code.ignore table n (Some weight) place (record s { stack = x ∷ stack }) = there in
      subst (λ l. weighs_and_acts code (Emit table n true) place (record s { stack = l })
      ≡ emits_on_top code.ignore table n (Some weight) place (record s { stack = below }))
      (sym e)
      (subst (λ l. weighs_and_acts code (Emit table n true) place (record s { stack = weight ∷ l })
      ≡ emits_on_top code.ignore table n (Some weight) place (record s { stack = l }))
      (sym f) at_hand)
    where
      dropped : drop (n + 2) (weight ∷ x ∷ stack) ≡ drop n stack
      dropped = ap (λ m. drop m (weight ∷ x ∷ stack)) (two_more n)

      there : weighs_and_acts code (Emit table n true) place (record s { stack = weight ∷ x ∷ stack })
          ≡ emits_on_top code.ignore table n (Some weight) place (record s { stack = x ∷ stack })
      there = λ i. when_paid place (spend (weight_at_hand (popped n stack) x (Some weight) i) s.world)
          (λ w. Goes (record s {
            at = suc s.at;
            stack = dropped i;
            world = with_emit
                (emit_or_line (emit_by_weight table (all_defined (popped n stack)) x (Some weight)) code.ignore place)
                w;
          }))

  -- the same, where there are so many operands
  pub emits_without : (s : State) → n + 1 ≤ length s.stack
      → weighs_and_acts code (Emit table n false) place s ≡ emits_on_top code.ignore table n None place s
  emits_without s within = by s.stack refl within
    where
      by : (l : List Slot) → s.stack ≡ l → n + 1 ≤ length l
          → weighs_and_acts code (Emit table n false) place s ≡ emits_on_top code.ignore table n None place s
      by [] e h = absurd (omega (arith, h))
      by (x ∷ stack) e h = emit_without s x stack e

  pub emits_with_weight : (s : State) (weight : Slot) (below : List Slot) → s.stack ≡ weight ∷ below
      → n + 2 ≤ length s.stack → weighs_and_acts code (Emit table n true) place s
      ≡ emits_on_top code.ignore table n (Some weight) place (record s { stack = below })
  emits_with_weight s weight below e within = by below refl
    where
      by : (l : List Slot) → below ≡ l
          → weighs_and_acts code (Emit table n true) place s
          ≡ emits_on_top code.ignore table n (Some weight) place (record s { stack = below })
      by [] f = absurd (omega (arith, within, ap length e, ap length f))
      by (x ∷ stack) f = emit_with_weight s weight x below stack e f

module _ (counting : Option ℕ) (table n : ℕ) (w : Option Slot) (place : Place) (s : State) (x : Slot)
    (stack : List Slot) (is : s.stack ≡ x ∷ stack) where
  -- an emit whose weight isn't left
  pub top_unpaid : spend (parts_weight (all_defined (popped n stack)) x w) s.world ≡ None
      → emits_on_top counting table n w place s ≡ faults budget_passed place
  top_unpaid none = at_hand s.stack is
    where
      at_hand : (l : List Slot) → l ≡ x ∷ stack
          → emits_on_top counting table n w place (record s { stack = l }) ≡ faults budget_passed place
      at_hand l e = subst
          (λ l. emits_on_top counting table n w place (record s { stack = l }) ≡ faults budget_passed place) (sym e)
          (ap (λ o. when_paid place o (λ v. Goes (record s {
            at = suc s.at;
            stack = drop n stack;
            world = with_emit (emit_or_line (emit_by_weight table (all_defined (popped n stack)) x w) counting place) v;
          }))) none)

  -- one whose weight is taken
  pub top_paid : (v : World) → spend (parts_weight (all_defined (popped n stack)) x w) s.world ≡ Some v
      → emits_on_top counting table n w place s ≡ emits_paid counting table (all_defined (popped n stack)) x w place
      (record s { stack = drop n stack; world = v })
  top_paid v some = at_hand s.stack is
    where
      at_hand : (l : List Slot) → l ≡ x ∷ stack → emits_on_top counting table n w place (record s { stack = l })
          ≡ emits_paid counting table (all_defined (popped n stack)) x w place
          (record s { stack = drop n stack; world = v })
      at_hand l e = subst (λ l. emits_on_top counting table n w place (record s { stack = l })
          ≡ emits_paid counting table (all_defined (popped n stack)) x w place
          (record s { stack = drop n stack; world = v })) (sym e)
          (ap (λ o. when_paid place o (λ v. Goes (record s {
            at = suc s.at;
            stack = drop n stack;
            world = with_emit (emit_or_line (emit_by_weight table (all_defined (popped n stack)) x w) counting place) v;
          }))) some)

module _ (code : Code) (table : ℕ) (place : Place) where
  -- one whose weight isn't left
  pub alone_unpaid : (s : State) (x : Slot) (rest : List Slot) → s.stack ≡ x ∷ rest
      → spend (result_weight x) s.world ≡ None
      → weighs_and_acts code (Emit table 0 false) place s ≡ faults budget_passed place
  alone_unpaid s x rest is none =
      emit_without code table 0 place s x rest is ∙ top_unpaid code.ignore table 0 None place s x rest is
      (subst (λ n. spend n s.world ≡ None) (alone_weighs x) none)

  -- a value under one index, whose weight isn't left
  pub one_unpaid : (s : State) (x i : Slot) (below rest : List Slot) → s.stack ≡ x ∷ below → below ≡ i ∷ rest
      → spend (parts_weight (all_defined (i ∷ [])) x None) s.world ≡ None
      → weighs_and_acts code (Emit table 1 false) place s ≡ faults budget_passed place
  one_unpaid s x i below rest is then none =
      emit_without code table 1 place s x below is ∙ top_unpaid code.ignore table 1 None place s x below is
      (subst (λ l. spend (parts_weight (all_defined (popped 1 l)) x None) s.world ≡ None) (sym then) none)

  -- one whose weight is taken
  one_paid : (s : State) (x i : Slot) (below rest : List Slot) (v : World) → s.stack ≡ x ∷ below → below ≡ i ∷ rest
      → spend (parts_weight (all_defined (i ∷ [])) x None) s.world ≡ Some v
      → weighs_and_acts code (Emit table 1 false) place s
      ≡ emits_paid code.ignore table (all_defined (i ∷ [])) x None place (record s { stack = rest; world = v })
  one_paid s x i below rest v is then some =
      subst (λ l. weighs_and_acts code (Emit table 1 false) place s
      ≡ emits_paid code.ignore table (all_defined (popped 1 l)) x None place
      (record s { stack = drop 1 l; world = v })) then
      (emit_without code table 1 place s x below is ∙ top_paid code.ignore table 1 None place s x below is v
      (subst (λ l. spend (parts_weight (all_defined (popped 1 l)) x None) s.world ≡ Some v) (sym then) some))

  -- the run in place after the ticks were taken
  there : (old paid : RunState) (rest : List Slot) (ticks : ℕ) (a : Around)
      → Paid ticks (record old { operands = rest }) true paid
      → record (state_of old a) { stack = rest; world = world_of paid } ≡ state_of paid a
  there old paid rest ticks a p =
      ap (λ (h : RunState). record (state_of old a) { stack = rest; world = world_of h }) p.kept
      ∙ sym (ap (λ (h : RunState). state_of h a) p.kept)

  -- a value alone whose ticks were taken and which then was emitted
  pub alone_done : (old paid new : RunState) (x : Slot) (rest : List Slot) → old.operands ≡ x ∷ rest
      → Paid (result_weight x) (record old { operands = rest }) true paid
      → DoesAt place (emits_made code.ignore (emit_by_weight table (Some []) x None)) paid On new
      → DoesAt place (weighs_and_acts code (Emit table 0 false)) old On new
  alone_done old paid new x rest is p does = λ a.
      emit_without code table 0 place (state_of old a) x rest is
      ∙ (top_paid code.ignore table 0 None place (state_of old a) x rest is (world_of paid)
      (subst (λ n. spend n (world_of old) ≡ Some (world_of paid)) (alone_weighs x) p.spent)
      ∙ (ap (emits_made code.ignore (emit_by_weight table (Some []) x None) place)
      (there old paid rest (result_weight x) a p) ∙ does a))

  -- a value under one index, in the same way
  pub one_done : (old paid new : RunState) (x i : Slot) (below rest : List Slot) → old.operands ≡ x ∷ below
      → below ≡ i ∷ rest
      → Paid (parts_weight (all_defined (i ∷ [])) x None) (record old { operands = rest }) true paid
      → DoesAt place (emits_made code.ignore (emit_by_weight table (all_defined (i ∷ [])) x None)) paid On new
      → DoesAt place (weighs_and_acts code (Emit table 1 false)) old On new
  one_done old paid new x i below rest is then p does = λ a.
      one_paid (state_of old a) x i below rest (world_of paid) is then p.spent
      ∙ (ap (emits_made code.ignore (emit_by_weight table (all_defined (i ∷ [])) x None) place)
      (there old paid rest (parts_weight (all_defined (i ∷ [])) x None) a p) ∙ does a)
