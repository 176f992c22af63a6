-- Steps of the loops over the lines of a file, and over the messages that are open.
use Rattle.std.proofs.Common.{◌≡◌, ℕ, zero, suc, ◌+◌, ◌-◌, ◌<◌, ◌≤◌, Bool, true, false, List, drop, length, get_or, slice_get, unwrap_or, Option, Some, None, refl, sym, ap, ◌∙◌, arith}
use Rattle.std.specs.Prelude.{codes}
use Rattle.std.specs.Option.{option_or}
use Rattle.std.proofs.lemmas.List.{drop_all, at_drop_more}
use Rattle.sz_protofile.specs.Reading.{Spelling}
use Rattle.sz_protofile.specs.declared.line.Line.{Line}
use Rattle.sz_protofile.specs.declared.line.Line.TheVariants as lines
use Rattle.sz_protofile.specs.declared.fault.Fault.{Fault}
use Rattle.sz_protofile.specs.declared.scope.Scope.{Scope}
use Rattle.sz_protofile.specs.Names.{put_after, outside, declared_by, around_after}
use Rattle.sz_protofile.specs.Lookup.{Known, found, found_around, package_by, package_in, is_first, again_after, with_first, names_in}
use Rattle.sz_protofile.specs.Faults.{Before, fault_of, with_line, first_fault}

module _ (text : Spelling) (all : List Line) (i : ℕ) (d : Line) (lt : i < length all) where
  pub package_step : (last : Option (List ℕ))
      → package_in text last (drop i all)
      ≡ package_in text (option_or (package_by text (get_or all i d)) last) (drop (i + 1) all)
  unfolding package_in
  package_step last = at_drop_more (package_in text last) all i d lt

  pub names_step : (names : List (List ℕ)) (around : List Scope) (again : ℕ)
      → names_in text names around again (drop i all)
      ≡ names_in text (with_first names again (declared_by text around (get_or all i d)))
      (around_after text around (get_or all i d)) (again_after
      (is_first names again (declared_by text around (get_or all i d))) again (get_or all i d)) (drop (i + 1) all)
  unfolding names_in
  names_step names around again = at_drop_more (names_in text names around again) all i d lt

  -- what is wrong with a line is what is wrong with it and those after it
  pub fault_here : (known : Known) (before : Before) (f : Fault) → fault_of text known before (get_or all i d) ≡ Some f
      → first_fault text known before (drop i all) ≡ Some f
  unfolding first_fault
  fault_here known before f e = at_drop_more (first_fault text known before) all i d lt
      ∙ ap (λ (o : Option Fault).
      option_or o (first_fault text known (with_line text before (get_or all i d)) (drop (i + 1) all))) e

  pub fault_step : (known : Known) (before : Before) → fault_of text known before (get_or all i d) ≡ None
      → first_fault text known before (drop i all)
      ≡ first_fault text known (with_line text before (get_or all i d)) (drop (i + 1) all)
  unfolding first_fault
  fault_step known before e = at_drop_more (first_fault text known before) all i d lt
      ∙ ap (λ (o : Option Fault).
      option_or o (first_fault text known (with_line text before (get_or all i d)) (drop (i + 1) all))) e

module _ (text : Spelling) (all : List Line) (i : ℕ) (le : length all ≤ i) where
  pub package_end : (last : Option (List ℕ)) → package_in text last (drop i all) ≡ last
  unfolding package_in
  package_end last = ap (package_in text last) (drop_all i all le)

  pub names_end : (names : List (List ℕ)) (around : List Scope) (again : ℕ)
      → names_in text names around again (drop i all) ≡ names
  unfolding names_in
  names_end names around again = ap (names_in text names around again) (drop_all i all le)

  pub fault_end : (known : Known) (before : Before) → first_fault text known before (drop i all) ≡ None
  unfolding first_fault
  fault_end known before = ap (first_fault text known before) (drop_all i all le)

-- the count of messages that aren't the first of their names grows by one at most
pub again_few : (first : Bool) (again : ℕ) (line : Line) (n : ℕ) → again ≤ n → again_after first again line ≤ n + 1
again_few true again (lines.Message t) n h = omega (arith, h)
again_few false again (lines.Message t) n h = omega (arith, h)
again_few first again lines.End n h = omega (arith, h)
again_few first again lines.Passed n h = omega (arith, h)
again_few first again (lines.Package t) n h = omega (arith, h)
again_few first again (lines.Enum t) n h = omega (arith, h)
again_few first again (lines.Field f) n h = omega (arith, h)
again_few first again (lines.Unread m) n h = omega (arith, h)

-- ---- the messages that are open, from the innermost on

module _ (names : List (List ℕ)) (around : List Scope) (word : List ℕ) where
  pub found_none : (left : ℕ) → left ≤ 0 → found_around names around word left ≡ None
  unfolding found_around
  found_none zero low = refl
  found_none (suc k) low = absurd (omega (arith, low))

  module _ (s : Scope) (o : Option (List ℕ)) (told : o ≡ found names (put_after (codes ".") s.full word)) where
    one_more : (k : ℕ) → slice_get around k ≡ Some s
        → found_around names around word (suc k) ≡ option_or o (found_around names around word k)
    unfolding found_around
    one_more k at =
        ap (λ (here : Option Scope). option_or (found names
        (put_after (codes ".") (unwrap_or here outside).full word)) (found_around names around word k)) at
        ∙ ap (λ (here : Option (List ℕ)). option_or here (found_around names around word k)) (sym told)

    pub found_at : (left : ℕ) → 0 < left → slice_get around (left - 1) ≡ Some s → (name : List ℕ) → o ≡ Some name
        → found_around names around word left ≡ Some name
    found_at zero pos at name is = absurd (omega (arith, pos))
    found_at (suc k) pos at name is = let e : suc k - 1 ≡ k = omega arith in
        one_more k (ap (slice_get around) (sym e) ∙ at)
        ∙ ap (λ (here : Option (List ℕ)). option_or here (found_around names around word k)) is

    pub found_past : (left : ℕ) → 0 < left → slice_get around (left - 1) ≡ Some s → o ≡ None
        → found_around names around word left ≡ found_around names around word (left - 1)
    found_past zero pos at is = absurd (omega (arith, pos))
    found_past (suc k) pos at is = let e : suc k - 1 ≡ k = omega arith in
        one_more k (ap (slice_get around) (sym e) ∙ at)
        ∙ ap (λ (here : Option (List ℕ)). option_or here (found_around names around word k)) is
        ∙ ap (found_around names around word) (sym e)
