-- What states are together, by the states: their declarations and their bounds.
use Rattle.std.proofs.Common.{◌≡◌, ◌∙◌, ◌+◌, ◌^◌, ◌≤◌, List, [], ◌∷◌, ◌++◌, refl, sym, ap, subst, arith}
use Rattle.std.specs.List.Sorted.{IsPermutation}
use Rattle.sz_types.specs.Tables.{Declaration}
use Rattle.sz_save_format.specs.Saved.{SavedState, CanBeSaved}
use Rattle.sz_merge.specs.JoiningLaws.{Joining, given, joined, given_in, state_of, IsJoining, Gives, ForgetsOrder}
use Rattle.sz_merge.specs.Laws.{IsOneTogether}
use Rattle.sz_merge.specs.Together.{AreTogether, bounds_of, HasSameTables, HaveTables, CanBeTogether}

pub bounds_of_both : (ss ts : List SavedState) → bounds_of (ss ++ ts) ≡ bounds_of ss + bounds_of ts
bounds_of_both [] ts = omega arith
bounds_of_both (s ∷ ss) ts = omega (arith, bounds_of_both ss ts)

pub tables_both : (ds : List Declaration) (ss ts : List SavedState) → HaveTables ds ss → HaveTables ds ts
    → HaveTables ds (ss ++ ts)
tables_both ds [] ts g h = h
tables_both ds (s ∷ ss) ts g h = (g.0, tables_both ds ss ts g.1 h)

-- what is left of a joining has the declarations of what is given first, and the bounds of all that is given
pub record IsLed (j : Joining) : Type 0 where
  pub first : SavedState
  pub more : List SavedState
  pub given : given_in j ≡ first ∷ more
  pub decls : first.decls ≡ (state_of j).decls
  pub bound : (state_of j).bound ≡ bounds_of (given_in j)

pub led : (j : Joining) → IsJoining j → IsLed j
led (given s) h = record { first = s; more = []; given = refl; decls = refl; bound = omega arith }
led (joined f b s) h =
    let front = led f h.0 in
    let back = led b h.1 in
    let both = bounds_of_both (given_in f) (given_in b) in
    record {
      first = front.first;
      more = front.more ++ given_in b;
      given = ap (λ l. l ++ given_in b) front.given;
      decls = front.decls ∙ sym h.2.joins.decls;
      bound = omega (arith, both, front.bound, back.bound, h.2.joins.bound);
    }

pub bound_together : (states : List SavedState) (all : SavedState) → AreTogether states all
    → all.bound ≡ bounds_of states
bound_together states all h = ap (λ (s : SavedState). s.bound) (sym h.left) ∙ (led h.joining h.is).bound
    ∙ ap bounds_of h.given

-- a state alone
pub alone : (s : SavedState) → CanBeSaved s → AreTogether (s ∷ []) s
alone s can = record { joining = given s; is = can; given = refl; left = refl }

-- both sides joined
pub joined_together : (ss ts : List SavedState) (s t both : SavedState) → AreTogether ss s → AreTogether ts t
    → Gives s t both → AreTogether (ss ++ ts) both
joined_together ss ts s t both g h gives = record {
  joining = joined g.joining h.joining both;
  is = (
    g.is,
    h.is,
    subst (λ (p : SavedState × SavedState). Gives p.0 p.1 both) (λ i. (sym g.left i, sym h.left i)) gives,
  );
  given = λ i. g.given i ++ h.given i;
  left = refl;
}

-- one state more
pub can_more : (before : List SavedState) (s : SavedState) → CanBeTogether before → HasSameTables before s
    → bounds_of before + s.bound ≤ 2 ^ 63 → CanBeTogether (before ++ s ∷ [])
can_more [] s can same low = record { same = tt; low = omega (arith, low) }
can_more (f ∷ more) s can same low = record {
  same = tables_both f.decls more (s ∷ []) can.same (same, tt);
  low = let both = bounds_of_both (f ∷ more) (s ∷ []) in omega (arith, both, low);
}

-- the order can't be seen
pub one_together : ForgetsOrder → IsOneTogether
one_together forgets states others all every moved g h =
    sym g.left
    ∙ forgets g.joining h.joining g.is h.is
    (subst (λ (p : List SavedState × List SavedState). IsPermutation p.0 p.1)
    (λ i. (sym g.given i, sym h.given i)) moved) ∙ h.left
