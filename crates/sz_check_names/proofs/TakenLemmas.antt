-- Laws of names and numbers that are taken.
use Rattle.std.proofs.Common.{◌≡◌, ℕ, Bool, true, false, ◌||◌, List, [], ◌∷◌, ◌++◌, length, map, reverse, Some, is_some, bytes_eq, nat_eq, not}
use Rattle.std.proofs.Common.{refl, sym, ap, subst, ◌∙◌, ◌↔◌, IsTrue, IfOk, OnOk, OnErr, Result, Ok, Err, if◌then◌else◌, arith}
use Rattle.std.specs.List.{list_any}
use Rattle.std.proofs.lemmas.List.{reverse-append}
use Rattle.std.proofs.lemmas.List.Folds.{list_any-append}
use Rattle.sz_scope.specs.Blocks as scopes
use Rattle.sz_scope.specs.Blocks.{found_in, is_declared, with_declared}
use Rattle.sz_scope.specs.declared.meaning.Meaning.{Meaning}
use Rattle.sz_scope.specs.declared.error.ScopeError.{ScopeError}
use Rattle.sz_scope.specs.declared.error.ScopeError.TheVariants.{Twice, NoMemory}
use Rattle.sz_check_rules.specs.Refusals.{has_name}
use Rattle.sz_check_names.specs.Parts.{names_in, has_number}
use Rattle.sz_check_names.specs.Keeping.{is_new}
use Rattle.sz_check_names.proofs.KeepingLemmas.{new_is}

-- a name is declared where it is taken
pub declared_has : (name : List ℕ) (blocks : List scopes.Block) → length blocks ≡ 1
    → is_declared name blocks ≡ has_name name (names_in blocks)
declared_has name [] one = absurd (omega (arith, one))
declared_has name (block ∷ blocks) one = in_block block
  where
    in_block : (block : scopes.Block)
        → is_some (found_in name block) ≡ has_name name (map (λ (d : scopes.Declaration). d.name) block)
    in_block [] = refl
    in_block (d ∷ block) = by (bytes_eq name d.name) (in_block block)
      where
        by : (b : Bool) → is_some (found_in name block) ≡ has_name name (map (λ (d : scopes.Declaration). d.name) block)
            → is_some (if b then Some d.what else found_in name block)
            ≡ (b || has_name name (map (λ (d : scopes.Declaration). d.name) block))
        by true rest = refl
        by false rest = rest

-- a name more
pub taken_more : (d : scopes.Declaration) (blocks : List scopes.Block) → length blocks ≡ 1
    → names_in (with_declared d blocks) ≡ d.name ∷ names_in blocks
taken_more d [] one = absurd (omega (arith, one))
taken_more d (block ∷ blocks) one = refl

-- a name joins the others if it is free, and else nothing changes
module _ (name : List ℕ) (what : Meaning) (before after : List scopes.Block) (result : Result (Unit {0}) ScopeError)
    (one : length before ≡ 1) where
  pub taken_free : (result ≡ Err Twice) ↔ IsTrue (is_declared name before)
      → IfOk (is_new result) (λ free. free ≡ not (has_name name (names_in before)))
  taken_free twice = subst (λ b. IfOk (is_new result) (λ free. free ≡ not b)) (declared_has name before one)
      (new_is result (is_declared name before) twice)

  pub taken_ok : OnOk result (after ≡ with_declared (record { name = name; what = what }) before)
      → OnErr result (after ≡ before)
      → IfOk (is_new result) (λ free. names_in after ≡ (if free then name ∷ names_in before else names_in before))
  taken_ok ok err = by result ok err
    where
      by : (r : Result (Unit {0}) ScopeError)
          → OnOk r (after ≡ with_declared (record { name = name; what = what }) before) → OnErr r (after ≡ before)
          → IfOk (is_new r) (λ free. names_in after ≡ (if free then name ∷ names_in before else names_in before))
      by (Ok u) p q = ap names_in p ∙ taken_more _ before one
      by (Err Twice) p q = ap names_in q
      by (Err NoMemory) p q = tt

-- a number is among others whichever end they are read from
pub number_has : (number : ℕ) (keys : List ℕ) → list_any (nat_eq number) keys ≡ has_number number (reverse keys)
number_has number [] = refl
number_has number (key ∷ keys) =
    either (nat_eq number key) (list_any (nat_eq number) keys) (has_number number (reverse keys))
    (number_has number keys) ∙ sym (list_any-append (nat_eq number) (reverse keys) (key ∷ []))
    ∙ ap (list_any (nat_eq number)) (sym (reverse-append (key ∷ []) keys))
  where
    either : (a b c : Bool) → b ≡ c → (a || b) ≡ (c || (a || false))
    either true true c e = ap (λ (x : Bool). x || true) e
    either true false c e = ap (λ (x : Bool). x || true) e
    either false true c e = ap (λ (x : Bool). x || false) e
    either false false c e = ap (λ (x : Bool). x || false) e

-- a number more
pub numbers_with : (number : ℕ) (keys : List ℕ)
    → reverse (if list_any (nat_eq number) keys then keys else keys ++ number ∷ [])
    ≡ (if has_number number (reverse keys) then reverse keys else number ∷ reverse keys)
numbers_with number keys = by (list_any (nat_eq number) keys)
    ∙ ap (λ b. if b then reverse keys else number ∷ reverse keys) (number_has number keys)
  where
    by : (b : Bool)
        → reverse (if b then keys else keys ++ number ∷ []) ≡ (if b then reverse keys else number ∷ reverse keys)
    by true = refl
    by false = reverse-append keys (number ∷ [])
