-- Groups of states that were joined, and the states that they are of.
use Rattle.std.proofs.Common.{◌≡◌, ◌∙◌, ℕ, ◌+◌, ◌^◌, ◌≤◌, List, [], ◌∷◌, ◌++◌, refl, sym, ap, subst, arith, append_assoc, append-nil}
use Rattle.std.proofs.lemmas.List.{map-append}
use Rattle.sz_types.specs.Tables.{Declaration}
use Rattle.sz_save_format.specs.Saved.{SavedState, CanBeSaved, Saves}
use Rattle.sz_merge.specs.declared.error.MergeError.{MergeError}
use Rattle.sz_merge.specs.declared.error.MergeError.TheVariants.{BadTables, OtherTables, TablesLimit, NoMemory}
use Rattle.sz_merge.specs.Files.{IsUnfit, IsStopped}
use Rattle.sz_merge.specs.JoiningLaws.{Gives}
use Rattle.sz_merge.specs.declared.groups.Group.{Group}
use Rattle.sz_merge.specs.Together.{bounds_of, HasSameTables, HaveTables, HaveSameTables, CanBeTogether}
use Rattle.sz_merge.specs.Groups.{Gather, AreOf, Adds, CanTake, Regroups, HasBound, held_by}
use Rattle.sz_merge.proofs.TogetherLemmas.{bounds_of_both, led, bound_together, alone, joined_together, can_more}

-- the bounds are those of the states
pub bounds_gathered : (groups states : List SavedState) → Gather groups states → bounds_of groups ≡ bounds_of states
bounds_gathered [] states h = ap bounds_of (sym h)
bounds_gathered (g ∷ gs) states h =
    let front = bound_together h.0 g h.3 in
    let back = bounds_gathered gs h.1 h.4 in
    let both = bounds_of_both h.0 h.1 in
    omega (arith, front, back, both) ∙ ap bounds_of (sym h.2)

-- the first group has the declarations of the first state
pub same_gathered : (groups states : List SavedState) (s : SavedState) → Gather groups states → HasSameTables groups s
    → HasSameTables states s
same_gathered [] states s h same = subst (λ l. HasSameTables l s) (sym h) tt
same_gathered (g ∷ gs) states s h same =
    let first = led h.3.joining h.3.is in
    let is : states ≡ first.first ∷ (first.more ++ h.1) = h.2 ∙ (λ i. (sym h.3.given ∙ first.given) i ++ h.1) in
    subst (λ l. HasSameTables l s) (sym is) (same ∙ ap (λ (t : SavedState). t.decls) (sym h.3.left) ∙ sym first.decls)

pub same_of_gathered : (groups states : List SavedState) (s : SavedState) → Gather groups states
    → HasSameTables states s → HasSameTables groups s
same_of_gathered [] states s h same = tt
same_of_gathered (g ∷ gs) states s h same =
    let first = led h.3.joining h.3.is in
    let is : states ≡ first.first ∷ (first.more ++ h.1) = h.2 ∙ (λ i. (sym h.3.given ∙ first.given) i ++ h.1) in
    subst (λ l. HasSameTables l s) is same ∙ first.decls ∙ ap (λ (t : SavedState). t.decls) h.3.left

-- one state more is a group of its own
pub gather_more : (groups states : List SavedState) (s : SavedState) → CanBeSaved s → Gather groups states
    → Gather (groups ++ s ∷ []) (states ++ s ∷ [])
gather_more [] states s can h = (s ∷ [], [], ap (λ l. l ++ s ∷ []) h ∙ sym (append-nil (s ∷ [])), alone s can, refl)
gather_more (g ∷ gs) states s can h =
    (h.0, h.1 ++ s ∷ [], ap (λ l. l ++ s ∷ []) h.2 ∙ append_assoc h.0 h.1 (s ∷ []), h.3, gather_more gs h.1 s can h.4)

module _ (l g j : SavedState) (gives : Gives l g j) where
  -- the last two groups joined
  gather_last : (groups states : List SavedState) → Gather (groups ++ l ∷ g ∷ []) states
      → Gather (groups ++ j ∷ []) states
  gather_last [] states h =
      let rest = h.4 in (
        h.0 ++ rest.0,
        rest.1,
        h.2 ∙ ap (λ m. h.0 ++ m) rest.2 ∙ sym (append_assoc h.0 rest.0 rest.1),
        joined_together h.0 rest.0 l g j h.3 rest.3 gives,
        rest.4,
      )
  gather_last (h ∷ hs) states g = (g.0, g.1, g.2, g.3, gather_last hs g.1 g.4)

  bounds_last : (groups : List SavedState) → bounds_of (groups ++ j ∷ []) ≡ bounds_of (groups ++ l ∷ g ∷ [])
  bounds_last groups =
      let one = bounds_of_both groups (j ∷ []) in
      let two = bounds_of_both groups (l ∷ g ∷ []) in
      omega (arith, one, two, gives.joins.bound)

  tables_last : (ds : List Declaration) (groups : List SavedState) → HaveTables ds (groups ++ l ∷ g ∷ [])
      → HaveTables ds (groups ++ j ∷ [])
  tables_last ds [] h = (gives.joins.decls ∙ h.0, tt)
  tables_last ds (s ∷ groups) h = (h.0, tables_last ds groups h.1)

  same_last : (groups : List SavedState) → HaveSameTables (groups ++ l ∷ g ∷ []) → HaveSameTables (groups ++ j ∷ [])
  same_last [] h = tt
  same_last (s ∷ groups) h = tables_last s.decls groups h

  pub can_last : (groups : List SavedState) → CanBeTogether (groups ++ l ∷ g ∷ []) → CanBeTogether (groups ++ j ∷ [])
  can_last groups can = record {
    same = same_last groups can.same;
    low = let bounds = bounds_last groups in omega (arith, bounds, can.low);
  }

-- the last two groups can be joined
tables_of_last : (l g : SavedState) (ds : List Declaration) (groups : List SavedState)
    → HaveTables ds (groups ++ l ∷ g ∷ []) → g.decls ≡ l.decls
tables_of_last l g ds [] h = h.1.0 ∙ sym h.0
tables_of_last l g ds (s ∷ groups) h = tables_of_last l g ds groups h.1

same_of_last : (l g : SavedState) (groups : List SavedState) → HaveSameTables (groups ++ l ∷ g ∷ []) → g.decls ≡ l.decls
same_of_last l g [] h = h.0
same_of_last l g (s ∷ groups) h = tables_of_last l g s.decls groups h

pub can_two : (l g : SavedState) (groups : List SavedState) → CanBeTogether (groups ++ l ∷ g ∷ [])
    → CanBeTogether (l ∷ g ∷ [])
can_two l g groups can = record {
  same = (same_of_last l g groups can.same, tt);
  low = let both = bounds_of_both groups (l ∷ g ∷ []) in omega (arith, both, can.low);
}

pub regroups_itself : (groups : List SavedState) → CanBeTogether groups → Regroups groups groups
regroups_itself groups can = record { gather = λ states h. h; bounds = refl; can = can }

pub regroups_last : (before groups : List SavedState) (l g j : SavedState) → Gives l g j
    → Regroups before (groups ++ l ∷ g ∷ []) → Regroups before (groups ++ j ∷ [])
regroups_last before groups l g j gives h = record {
  gather = λ states are. gather_last l g j gives groups states (h.gather states are);
  bounds = bounds_last l g j gives groups ∙ h.bounds;
  can = can_last l g j gives groups h.can;
}

-- groups with one more, as the code holds them
pub held_more : (groups : List Group) (one : Group) → held_by (groups ++ one ∷ []) ≡ held_by groups ++ one.saved ∷ []
held_more groups one = map-append (λ (group : Group). group.saved) groups (one ∷ [])

pub held_two : (groups now : List Group) (last : Group) (s : SavedState) → now ≡ groups ++ last ∷ []
    → held_by now ++ s ∷ [] ≡ held_by groups ++ last.saved ∷ s ∷ []
held_two groups now last s is =
    ap (λ l. held_by l ++ s ∷ []) is ∙ ap (λ l. l ++ s ∷ []) (held_more groups last)
    ∙ append_assoc (held_by groups) (last.saved ∷ []) (s ∷ [])

-- ---- a state is added

last_has : (ds : List Declaration) (more : List SavedState) (s : SavedState) → HaveTables ds (more ++ s ∷ []) → s.decls ≡ ds
last_has ds [] s h = h.0
last_has ds (m ∷ more) s h = last_has ds more s h.1

pub same_of : (before : List SavedState) (s : SavedState) → HaveSameTables (before ++ s ∷ []) → HasSameTables before s
same_of [] s h = tt
same_of (f ∷ more) s h = last_has f.decls more s h

-- a state that can be joined to others has their tables, and fits their groups
pub same_taken : {groups : List SavedState} {saved : SavedState} → CanTake groups saved → HasSameTables groups saved
same_taken {groups} {saved} take =
    same_of_gathered groups take.before saved take.are.gather (same_of take.before saved take.can.same)

pub low_taken : {groups : List SavedState} {saved : SavedState} → CanTake groups saved → bounds_of groups + saved.bound ≤ 2 ^ 63
low_taken {groups} {saved} take =
    let bounds = bounds_gathered groups take.before take.are.gather in
    let both = bounds_of_both take.before (saved ∷ []) in
    let low : bounds_of (take.before ++ saved ∷ []) ≤ 2 ^ 63 = take.can.low in
    omega (arith, bounds, both, low)

pub taken : {groups before : List SavedState} {saved : SavedState} → AreOf groups before → CanBeSaved saved → HasSameTables groups saved
    → bounds_of groups + saved.bound ≤ 2 ^ 63 → (now : List SavedState) → Regroups (groups ++ saved ∷ []) now → AreOf now (before ++ saved ∷ [])
taken {groups} {before} {saved} are can same low now h = record {
  gather = h.gather (before ++ saved ∷ []) (gather_more groups before saved can are.gather);
  can = can_more before saved are.can (same_gathered groups before saved are.gather same)
      (let bounds = bounds_gathered groups before are.gather in omega (arith, bounds, low));
}

-- ---- a file is added, or not

module _ (groups before : List SavedState) (bytes : List ℕ) (saved : SavedState) (are : AreOf groups before)
    (saves : Saves bytes saved) where
  low_before : bounds_of groups + saved.bound ≤ 2 ^ 63 → bounds_of before + saved.bound ≤ 2 ^ 63
  low_before low = let bounds = bounds_gathered groups before are.gather in omega (arith, bounds, low)

  pub added : (now : List SavedState) → HasSameTables groups saved → bounds_of groups + saved.bound ≤ 2 ^ 63
      → Regroups (groups ++ saved ∷ []) now → Adds before bytes now
  added now same low h =
      let same_before = same_gathered groups before saved are.gather same in
      record {
        state = saved;
        follows = record { saves = saves; same = same_before; low = low_before low };
        now = taken are saves.can same low now h;
      }

  pub unfit_stops : (cause : MergeError) → IsUnfit groups saved cause → IsStopped before bytes cause
  unfit_stops BadTables h = absurd h
  unfit_stops OtherTables h = (saved, saves, λ same. h (same_of_gathered groups before saved are.gather same))
  unfit_stops TablesLimit h =
      let bounds = bounds_gathered groups before are.gather in
      (saved, saves, (same_gathered groups before saved are.gather h.0, omega (arith, bounds, h.1)))
  unfit_stops NoMemory h = absurd h

-- groups with one more have a bound, and are some
pub bound_more : (groups now : List SavedState) (saved : SavedState) (bound all : ℕ) → bound ≡ bounds_of groups
    → all ≡ bound + saved.bound → Regroups (groups ++ saved ∷ []) now → HasBound now all
bound_more groups now saved bound all is added h =
    let both = bounds_of_both groups (saved ∷ []) in
    record { can = h.can; is = omega (arith, is, added, both, h.bounds) }
