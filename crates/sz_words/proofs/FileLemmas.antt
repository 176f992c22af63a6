-- A name more among files.
use Rattle.std.proofs.Common.{◌≡◌, ℕ, suc, ◌-◌, List, ◌∷◌, length, Bool, true, false, refl, ap, arith}
use Rattle.std.proofs.lemmas.Bool.Decides.{nat_tests}
use Rattle.std.specs.Prelude.{filter, nat_le, not, ◌&&◌, ◌≢◌}
use Rattle.std.specs.List.{list_all}
use Rattle.sz_words.specs.Settings.{are_files, is_empty, is_standard_input}

pub no_name : (inputs : ℕ) (name : List ℕ) (names : List (List ℕ)) → is_empty name ≡ true
    → are_files inputs (name ∷ names) ≡ false
no_name inputs name names e = rw e refl

pub one_named : (inputs : ℕ) (name : List ℕ) (names : List (List ℕ)) → is_empty name ≡ false
    → is_standard_input name ≡ false → are_files inputs (name ∷ names) ≡ are_files inputs names
one_named inputs name names e f = rw (e, f) refl

-- more than none is more than none
none_left : (n : ℕ) → nat_le (suc n) 0 ≡ false
none_left n = grind (arith, nat_tests)

-- one of so many that are left
one_left : (n inputs : ℕ) → inputs ≢ 0 → nat_le (suc n) inputs ≡ nat_le n (inputs - 1)
one_left n inputs some = grind (arith, nat_tests)

and_false : (a b : Bool) → b ≡ false → (a && b) ≡ false
and_false true b e = e
and_false false b e = refl

-- whether no name is empty
abbrev all_named : List (List ℕ) → Bool
all_named names = list_all (λ name. not (is_empty name)) names

pub no_input : (name : List ℕ) (names : List (List ℕ)) → is_empty name ≡ false → is_standard_input name ≡ true
    → are_files 0 (name ∷ names) ≡ false
no_input name names e f =
    rw (e, f) (and_false (all_named names) _ (none_left (length (filter is_standard_input names))))

pub one_input : (inputs : ℕ) (name : List ℕ) (names : List (List ℕ)) → is_empty name ≡ false
    → is_standard_input name ≡ true → inputs ≢ 0 → are_files inputs (name ∷ names) ≡ are_files (inputs - 1) names
one_input inputs name names e f some =
    rw (e, f) (ap (λ b. all_named names && b) (one_left (length (filter is_standard_input names)) inputs some))
