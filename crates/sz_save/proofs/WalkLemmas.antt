-- The steps of the walk over the index lists of both sides.
use Rattle.std.proofs.Common.{◌≡◌, ◌∙◌, ℕ, ◌+◌, List, [], ◌∷◌, ◌++◌, length, sym, ap, subst, arith, Ordering, Less, Equal, Greater}
use Rattle.std.specs.List.{AllByRecursion}
use Rattle.std.specs.Ordering.{match_ordering}
use Rattle.sz_types.specs.declared.table.TableKind.{TableKind}
use Rattle.sz_types.specs.declared.table.TableKind.TheVariants.{Sum, Maximum, Minimum, Set, Collection}
use Rattle.sz_tabs.specs.Rows.{compare_indexes}
use Rattle.sz_total.specs.Tables.{Indexed}
use Rattle.sz_save.specs.Walk.{joined_entry, alone, other_alone, joined_entries, RowsCanJoin, CanJoin, HasCountedRows, Steps}

-- what is asked of the sums goes for what is left
pub can_after : (kind : TableKind) (e : Indexed) (es os : List Indexed) → CanJoin kind (e ∷ es) os → CanJoin kind es os
can_after Sum e es os can = record {
  count = can.count;
  most = can.most;
  others_most = can.others_most;
  low = can.low;
  each = can.each.1;
  each_other = can.each_other;
}
can_after Maximum e es os can = tt
can_after Minimum e es os can = tt
can_after Set e es os can = tt
can_after Collection e es os can = tt

pub can_left : (kind : TableKind) (es : List Indexed) (o : Indexed) (os : List Indexed) → CanJoin kind es (o ∷ os)
    → CanJoin kind es os
can_left Sum es o os can = record {
  count = can.count;
  most = can.most;
  others_most = can.others_most;
  low = can.low;
  each = can.each;
  each_other = can.each_other.1;
}
can_left Maximum es o os can = tt
can_left Minimum es o os can = tt
can_left Set es o os can = tt
can_left Collection es o os can = tt

-- and for the rows of the first on either side
pub can_alone : (kind : TableKind) (e : Indexed) (es os : List Indexed) → CanJoin kind (e ∷ es) os
    → RowsCanJoin kind e.rows []
can_alone Sum e es os can = record {
  count = can.count;
  most = can.most;
  others_most = can.others_most;
  low = can.low;
  each = can.each.0;
  each_other = tt;
}
can_alone Maximum e es os can = tt
can_alone Minimum e es os can = tt
can_alone Set e es os can = tt
can_alone Collection e es os can = tt

pub can_other : (kind : TableKind) (es : List Indexed) (o : Indexed) (os : List Indexed) → CanJoin kind es (o ∷ os)
    → RowsCanJoin kind [] o.rows
can_other Sum es o os can = record {
  count = can.count;
  most = can.most;
  others_most = can.others_most;
  low = can.low;
  each = tt;
  each_other = can.each_other.0;
}
can_other Maximum es o os can = tt
can_other Minimum es o os can = tt
can_other Set es o os can = tt
can_other Collection es o os can = tt

pub can_both : (kind : TableKind) (e : Indexed) (es : List Indexed) (o : Indexed) (os : List Indexed)
    → CanJoin kind (e ∷ es) (o ∷ os) → RowsCanJoin kind e.rows o.rows
can_both Sum e es o os can = record {
  count = can.count;
  most = can.most;
  others_most = can.others_most;
  low = can.low;
  each = can.each.0;
  each_other = can.each_other.0;
}
can_both Maximum e es o os can = tt
can_both Minimum e es o os can = tt
can_both Set e es o os can = tt
can_both Collection e es o os can = tt

-- the same, where a side is the first with what stands behind it
pub alone_can : (kind : TableKind) (entries others : List Indexed) (e : Indexed) (es : List Indexed)
    → entries ≡ e ∷ es → CanJoin kind entries others → RowsCanJoin kind e.rows []
alone_can kind entries others e es split can = can_alone kind e es others (subst (λ l. CanJoin kind l others) split can)

pub other_can : (kind : TableKind) (entries others : List Indexed) (o : Indexed) (os : List Indexed) → others ≡ o ∷ os
    → CanJoin kind entries others → RowsCanJoin kind [] o.rows
other_can kind entries others o os split can = can_other kind entries o os (subst (CanJoin kind entries) split can)

pub both_can : (kind : TableKind) (entries others : List Indexed) (e : Indexed) (es : List Indexed) (o : Indexed)
    (os : List Indexed) → entries ≡ e ∷ es
    → others ≡ o ∷ os → CanJoin kind entries others → RowsCanJoin kind e.rows o.rows
both_can kind entries others e es o os split other_split can =
    can_both kind e es o os (subst (CanJoin kind (e ∷ es)) other_split (subst (λ l. CanJoin kind l others) split can))

-- the steps, where each side is the first with what stands behind it
module _ (kind : TableKind) (limit : ℕ) where
  pub steps_other : (entries others : List Indexed) (o : Indexed) (os : List Indexed) (joined : Indexed)
      → entries ≡ [] → others ≡ o ∷ os → joined ≡ other_alone kind limit o → CanJoin kind entries others
      → HasCountedRows joined → Steps kind limit entries others joined entries os
  unfolding joined_entries
  steps_other entries others o os joined none split is can few = record {
    few = few;
    is = (λ i. joined_entries kind limit (none i) (split i))
        ∙ (λ i. sym is i ∷ joined_entries kind limit (sym none i) os);
    shorter = omega (arith, ap length split);
    can = can_left kind entries o os (subst (CanJoin kind entries) split can);
  }

  pub steps_alone : (entries others : List Indexed) (e : Indexed) (es : List Indexed) (joined : Indexed)
      → entries ≡ e ∷ es → others ≡ [] → joined ≡ alone kind limit e → CanJoin kind entries others
      → HasCountedRows joined → Steps kind limit entries others joined es others
  unfolding joined_entries
  steps_alone entries others e es joined split none is can few = record {
    few = few;
    is = (λ i. joined_entries kind limit (split i) (none i))
        ∙ (λ i. sym is i ∷ joined_entries kind limit es (sym none i));
    shorter = omega (arith, ap length split);
    can = can_after kind e es others (subst (λ l. CanJoin kind l others) split can);
  }

  module _ (entries others : List Indexed) (e : Indexed) (es : List Indexed) (o : Indexed) (os : List Indexed)
      (joined : Indexed) (split : entries ≡ e ∷ es) (other_split : others ≡ o ∷ os)
      (can : CanJoin kind entries others)
      (few : HasCountedRows joined) where
    chosen : (found : Ordering) → compare_indexes e.indexes o.indexes ≡ found
        → joined_entries kind limit (e ∷ es) (o ∷ os)
        ≡ match_ordering found (alone kind limit e ∷ joined_entries kind limit es (o ∷ os))
        (joined_entry kind limit e.indexes e.rows o.rows ∷ joined_entries kind limit es os)
        (other_alone kind limit o ∷ joined_entries kind limit (e ∷ es) os)
    unfolding joined_entries
    chosen found is = ap (λ f. match_ordering f (alone kind limit e ∷ joined_entries kind limit es (o ∷ os))
        (joined_entry kind limit e.indexes e.rows o.rows ∷ joined_entries kind limit es os)
        (other_alone kind limit o ∷ joined_entries kind limit (e ∷ es) os)) is

    begins : joined_entries kind limit entries others ≡ joined_entries kind limit (e ∷ es) (o ∷ os)
    begins = λ i. joined_entries kind limit (split i) (other_split i)

    pub steps_less : compare_indexes e.indexes o.indexes ≡ Less → joined ≡ alone kind limit e
        → Steps kind limit entries others joined es others
    steps_less found is = record {
      few = few;
      is = begins ∙ chosen Less found ∙ (λ i. sym is i ∷ joined_entries kind limit es (sym other_split i));
      shorter = omega (arith, ap length split);
      can = can_after kind e es others (subst (λ l. CanJoin kind l others) split can);
    }

    pub steps_equal : compare_indexes e.indexes o.indexes ≡ Equal
        → joined ≡ joined_entry kind limit e.indexes e.rows o.rows → Steps kind limit entries others joined es os
    steps_equal found is = record {
      few = few;
      is = begins ∙ chosen Equal found ∙ (λ i. sym is i ∷ joined_entries kind limit es os);
      shorter = omega (arith, ap length split, ap length other_split);
      can = can_after kind e es os (can_left kind (e ∷ es) o os
          (subst (λ l. CanJoin kind l (o ∷ os)) split (subst (CanJoin kind entries) other_split can)));
    }

    pub steps_greater : compare_indexes e.indexes o.indexes ≡ Greater → joined ≡ other_alone kind limit o
        → Steps kind limit entries others joined entries os
    steps_greater found is = record {
      few = few;
      is = begins ∙ chosen Greater found ∙ (λ i. sym is i ∷ joined_entries kind limit (sym split i) os);
      shorter = omega (arith, ap length other_split);
      can = can_left kind entries o os (subst (CanJoin kind entries) other_split can);
    }

pub counted_more : (es : List Indexed) (e : Indexed) (next : List Indexed) → AllByRecursion HasCountedRows es
    → HasCountedRows e → next ≡ es ++ e ∷ [] → AllByRecursion HasCountedRows next
counted_more es e next h few pushed = subst (AllByRecursion HasCountedRows) (sym pushed) (more es h)
  where
    more : (fs : List Indexed) → AllByRecursion HasCountedRows fs → AllByRecursion HasCountedRows (fs ++ e ∷ [])
    more [] g = (few, tt)
    more (f ∷ fs) g = (g.0, more fs g.1)
