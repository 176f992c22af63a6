-- Laws of well-formed code.
use Rattle.std.proofs.Common.{◌≡◌, ℕ, max, List, [], ◌∷◌, ◌++◌, Bool, true, All, ◌&&◌, Some, slice_get, nat_lt, refl, ap, subst, arith}
use Rattle.std.specs.List.{list_all, list_any}
use Rattle.std.specs.Cmp.{first_so, second_so}
use Rattle.std.proofs.lemmas.List.Folds.{list_all-append}
use Rattle.std.proofs.lemmas.List.Sums.{AllPass-from_list_all}
use Rattle.std.proofs.lemmas.List.Elements.{All-get_or}
use Rattle.std.proofs.lemmas.Option.{slice_get_within, get_or_from_slice_get}
use Rattle.sz_instr.specs.WellFormed.{routines_of, most_of, most_locals, is_in_range, is_routine, is_table_if_named, is_well_formed}
use Rattle.sz_instr.specs.Example.{example}
use Rattle.sz_instr.specs.declared.line.Line.{Line}
use Rattle.sz_instr.specs.declared.routine.Routine.{Routine}
use Rattle.sz_instr.specs.declared.code.Code.{Code}

-- the greatest of two lists is the greater of theirs
most_of_append : (rs ss : List Routine) → most_of (rs ++ ss) ≡ max (most_of rs) (most_of ss)
most_of_append [] ss = omega arith
most_of_append (r ∷ rs) ss = omega (arith, most_of_append rs ss)

pub most_locals_by_list : (code : Code)
    → most_locals code ≡ max (max (most_of code.functions) (most_of code.statics)) code.main.locals
unfolding most_locals
most_locals_by_list code =
    omega (
      arith,
      most_of_append code.functions (code.statics ++ code.main ∷ []),
      most_of_append code.statics (code.main ∷ []),
    )

-- whether a number is below the greatest of a list
below_most : (n : ℕ) (rs : List Routine) → nat_lt n (most_of rs) ≡ list_any (λ r. nat_lt n r.locals) rs
below_most n [] = grind arith
below_most n (r ∷ rs) = grind (arith, below_most n rs)

pub local_of_a_routine : (code : Code) (n : ℕ)
    → nat_lt n (most_locals code) ≡ list_any (λ r. nat_lt n r.locals) (routines_of code)
unfolding most_locals
local_of_a_routine code n = below_most n (routines_of code)

-- that all of three lists pass, the last with one element
all_of_three : {X : Type 0} (p : X → Bool) (xs ys : List X) (z : X)
    → list_all p (xs ++ (ys ++ z ∷ [])) ≡ (list_all p xs && list_all p ys && p z)
all_of_three p xs ys z = grind (arith, list_all-append p xs (ys ++ z ∷ []), list_all-append p ys (z ∷ []))

pub well_formed_by_list : (code : Code) → is_well_formed code
    ≡ (list_all (is_routine code) code.functions && list_all (is_routine code) code.statics && is_routine code code.main
    && is_table_if_named code code.ignore && list_all (λ line. is_in_range code line.instr) code.lines)
unfolding is_well_formed
well_formed_by_list code =
    ap (λ b. b && is_table_if_named code code.ignore && list_all (λ line. is_in_range code line.instr) code.lines)
    (all_of_three (is_routine code) code.functions code.statics code.main)

-- where all elements pass, so does the one at a place
passes_at : {X : Type 0} (p : X → Bool) (xs : List X) (i : ℕ) (x : X) → list_all p xs ≡ true
    → slice_get xs i ≡ Some x → p x ≡ true
passes_at {X} p xs i x all is =
    let found =
    All-get_or (λ (y : X). p y ≡ true) xs i x (slice_get_within xs i x is) (AllPass-from_list_all p xs all) in
    subst (λ (y : X). p y ≡ true) (get_or_from_slice_get xs i x x is) found

module _ (code : Code) (formed : is_well_formed code ≡ true) where
  pub routines_in_range : All (λ r. is_routine code r ≡ true) (routines_of code)
  unfolding is_well_formed
  routines_in_range =
      AllPass-from_list_all (is_routine code) (routines_of code)
      (first_so (list_all (is_routine code) (routines_of code)) (is_table_if_named code code.ignore)
      (first_so (list_all (is_routine code) (routines_of code) && is_table_if_named code code.ignore)
      (list_all (λ line. is_in_range code line.instr) code.lines) formed))

  pub line_in_range : (at : ℕ) (line : Line) → slice_get code.lines at ≡ Some line → is_in_range code line.instr ≡ true
  unfolding is_well_formed
  line_in_range at line is =
      passes_at (λ line. is_in_range code line.instr) code.lines at line
      (second_so (list_all (is_routine code) (routines_of code) && is_table_if_named code code.ignore)
      (list_all (λ line. is_in_range code line.instr) code.lines) formed) is

pub example_is_well_formed : is_well_formed example ≡ true
unfolding is_well_formed most_locals
example_is_well_formed = refl
