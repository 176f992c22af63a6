-- The walk over what is kept, as others come one by one.
use Rattle.std.proofs.Common.{◌≡◌, ◌≢◌, ◌∙◌, ℕ, suc, ◌+◌, ◌-◌, Some, List, [], ◌∷◌, ◌++◌, length, drop, slice_get, refl, sym, ap, subst, arith, append_assoc, Ordering, Less, Equal, Greater}
use Rattle.std.proofs.lemmas.List.{drop-drop}
use Rattle.std.specs.Ordering.{match_ordering}
use Rattle.sz_types.specs.declared.table.TableKind.{TableKind}
use Rattle.sz_tabs.specs.Rows.{compare_indexes}
use Rattle.sz_total.specs.Tables.{Indexed}
use Rattle.sz_save.specs.Walk.{joined_entry, alone, other_alone, joined_entries, compare_firsts, CanJoin, HasCountedRows}
use Rattle.sz_save.specs.Reading.{GoesOn, last_indexes}
use Rattle.sz_save.proofs.WalkLemmas.{can_after, counted_more}
use Rattle.sz_save.proofs.TakenLemmas.{taken_at}

-- dropped twice
pub dropped_twice : {X : Type 0} (m n : ℕ) (xs : List X) → drop n (drop m xs) ≡ drop (m + n) xs
dropped_twice m n xs = drop-drop n m xs

-- ---- the first step, by how the first index lists compare

module _ (kind : TableKind) (limit : ℕ) where
  by_order : (e : Indexed) (es : List Indexed) (o : Indexed) (os : List Indexed) (found : Ordering)
      → compare_indexes e.indexes o.indexes ≡ found → joined_entries kind limit (e ∷ es) (o ∷ os)
      ≡ match_ordering found (alone kind limit e ∷ joined_entries kind limit es (o ∷ os))
      (joined_entry kind limit e.indexes e.rows o.rows ∷ joined_entries kind limit es os)
      (other_alone kind limit o ∷ joined_entries kind limit (e ∷ es) os)
  unfolding joined_entries
  by_order e es o os found is = ap (λ f. match_ordering f (alone kind limit e ∷ joined_entries kind limit es (o ∷ os))
      (joined_entry kind limit e.indexes e.rows o.rows ∷ joined_entries kind limit es os)
      (other_alone kind limit o ∷ joined_entries kind limit (e ∷ es) os)) is

  step_other : (left : List Indexed) (o : Indexed) (os : List Indexed) → compare_firsts left (o ∷ []) ≢ Some Less
      → compare_firsts left (o ∷ []) ≢ Some Equal
      → joined_entries kind limit left (o ∷ os) ≡ other_alone kind limit o ∷ joined_entries kind limit left os
  unfolding joined_entries
  step_other [] o os past other = refl
  step_other (e ∷ es) o os past other = by_found (compare_indexes e.indexes o.indexes) refl
    where
      by_found : (found : Ordering) → compare_indexes e.indexes o.indexes ≡ found
          → joined_entries kind limit (e ∷ es) (o ∷ os)
          ≡ other_alone kind limit o ∷ joined_entries kind limit (e ∷ es) os
      by_found Less is = absurd (past (ap Some is))
      by_found Equal is = absurd (other (ap Some is))
      by_found Greater is = by_order e es o os Greater is

  -- one more is joined, in front of what is left
  pushed_more : (joined now : List Indexed) (both : Indexed) (rest : List Indexed) → now ≡ joined ++ both ∷ []
      → joined ++ both ∷ rest ≡ now ++ rest
  pushed_more joined now both rest pushed = sym (append_assoc joined (both ∷ []) rest)
      ∙ ap (λ l. l ++ rest) (sym pushed)

  -- ---- the kept index lists that are less are passed over

  pub pass_begins : (joined left : List Indexed) (e : Indexed)
      → GoesOn kind limit (e ∷ []) joined left (e ∷ []) joined left
  pass_begins joined left e = record { is = λ more. refl; cut = 0; dropped = refl; few = λ h. h }

  pub pass_more : (first kept joined left after now : List Indexed) (e k both : Indexed)
      → GoesOn kind limit (e ∷ []) first kept (e ∷ []) joined left
      → left ≡ k ∷ after → compare_indexes k.indexes e.indexes ≡ Less → both ≡ alone kind limit k
      → HasCountedRows both → now ≡ joined ++ both ∷ [] → GoesOn kind limit (e ∷ []) first kept (e ∷ []) now after
  pass_more first kept joined left after now e k both far split less is few pushed = record {
    is = λ more. far.is more ∙ ap (λ l. joined ++ joined_entries kind limit l (e ∷ more)) split
        ∙ ap (λ l. joined ++ l) (by_order k after e more Less less)
        ∙ ap (λ b. joined ++ b ∷ joined_entries kind limit after (e ∷ more)) (sym is)
        ∙ pushed_more joined now both (joined_entries kind limit after (e ∷ more)) pushed;
    cut = far.cut + 1;
    dropped = (taken_at kept left after far.cut k far.dropped split).1;
    few = λ h. counted_more joined both now (far.few h) few pushed;
  }

  -- ---- an index list at its place

  pub here_other : (joined left now : List Indexed) (e both : Indexed) → compare_firsts left (e ∷ []) ≢ Some Less
      → compare_firsts left (e ∷ []) ≢ Some Equal → both ≡ other_alone kind limit e → HasCountedRows both
      → now ≡ joined ++ both ∷ [] → GoesOn kind limit (e ∷ []) joined left [] now left
  here_other joined left now e both past other is few pushed = record {
    is = λ more. ap (λ l. joined ++ l) (step_other left e more past other)
        ∙ ap (λ b. joined ++ b ∷ joined_entries kind limit left more) (sym is)
        ∙ pushed_more joined now both (joined_entries kind limit left more) pushed;
    cut = 0;
    dropped = refl;
    few = λ h. counted_more joined both now h few pushed;
  }

  pub here_both : (joined left after now : List Indexed) (e k both : Indexed) → left ≡ k ∷ after
      → compare_indexes k.indexes e.indexes ≡ Equal
      → both ≡ joined_entry kind limit k.indexes k.rows e.rows → HasCountedRows both → now ≡ joined ++ both ∷ []
      → GoesOn kind limit (e ∷ []) joined left [] now after
  here_both joined left after now e k both split equal is few pushed = record {
    is = λ more. ap (λ l. joined ++ joined_entries kind limit l (e ∷ more)) split
        ∙ ap (λ l. joined ++ l) (by_order k after e more Equal equal)
        ∙ ap (λ b. joined ++ b ∷ joined_entries kind limit after more) (sym is)
        ∙ pushed_more joined now both (joined_entries kind limit after more) pushed;
    cut = 1;
    dropped = ap (drop 1) (sym split);
    few = λ h. counted_more joined both now h few pushed;
  }

  -- ---- one way after the other

  pub goes_further : (ones mids others first kept joined left now rest : List Indexed)
      → GoesOn kind limit ones first kept mids joined left
      → GoesOn kind limit mids joined left others now rest → GoesOn kind limit ones first kept others now rest
  goes_further ones mids others first kept joined left now rest g h = record {
    is = λ more. g.is more ∙ h.is more;
    cut = g.cut + h.cut;
    dropped = h.dropped ∙ ap (drop h.cut) g.dropped ∙ dropped_twice g.cut h.cut kept;
    few = λ f. h.few (g.few f);
  }

-- what is asked of the sums goes for what is left behind the first
pub can_behind : (kind : TableKind) (left after others : List Indexed) (k : Indexed) → left ≡ k ∷ after
    → CanJoin kind left others → CanJoin kind after others
can_behind kind left after others k split can =
    can_after kind k after others (subst (λ l. CanJoin kind l others) split can)

-- ---- the last index list

pub last_pushed : (es : List Indexed) (e : Indexed) → last_indexes (es ++ e ∷ []) ≡ Some e.indexes
last_pushed [] e = refl
last_pushed (x ∷ []) e = refl
last_pushed (x ∷ y ∷ es) e = last_pushed (y ∷ es) e

pub last_is : (joined now : List Indexed) (both e : Indexed) → now ≡ joined ++ both ∷ [] → both.indexes ≡ e.indexes
    → last_indexes now ≡ Some e.indexes
last_is joined now both e pushed same = ap last_indexes pushed ∙ last_pushed joined both ∙ ap Some same

-- the last by its place
pub last_at : (es : List Indexed) (e : Indexed) → slice_get es (length es - 1) ≡ Some e
    → last_indexes es ≡ Some e.indexes
last_at [] e is = absurd (cc)
last_at (x ∷ []) e is = let same : x ≡ e = cc in ap (λ (d : Indexed). Some d.indexes) same
last_at (x ∷ y ∷ es) e is = last_at (y ∷ es) e (sym later ∙ is)
  where
    later : slice_get (x ∷ y ∷ es) (length (x ∷ y ∷ es) - 1) ≡ slice_get (y ∷ es) (length (y ∷ es) - 1)
    later = let one : length (x ∷ y ∷ es) - 1 ≡ suc (length (y ∷ es) - 1) = omega arith in
        ap (λ n. slice_get (x ∷ y ∷ es) n) one
