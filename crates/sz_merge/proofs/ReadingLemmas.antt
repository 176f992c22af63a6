-- A file that is joined to the last group while it is read.
use Rattle.std.proofs.Common.{◌≡◌, ◌≢◌, ◌∙◌, ℕ, ◌+◌, ◌≤◌, Some, List, [], ◌∷◌, ◌++◌, sym, ap, subst, arith, append_assoc}
use Rattle.sz_types.specs.Tables.{Declaration}
use Rattle.sz_save_format.specs.Saved.{SavedState, most_bound, Saves}
use Rattle.sz_save_format.specs.DecodingRows.{head_at}
use Rattle.sz_save_format.specs.declared.error.SavedError.{SavedError}
use Rattle.sz_save_format.specs.declared.error.SavedError.TheVariants as reading
use Rattle.sz_save_format.specs.Decoding.{Stops}
use Rattle.sz_save_format.proofs.FrontLemmas.{found_is}
use Rattle.sz_save_format.proofs.SavedLemmas.{nothing_saves, no_head}
use Rattle.sz_save.specs.Reading.{JoinsRead}
use Rattle.sz_merge.specs.JoiningLaws.{Gives}
use Rattle.sz_merge.specs.declared.error.MergeError.{MergeError}
use Rattle.sz_merge.specs.declared.error.MergeError.TheVariants.{BadTables, OtherTables, TablesLimit, NoMemory}
use Rattle.sz_merge.specs.Together.{bounds_of, HasSameTables, HaveTables, CanBeTogether}
use Rattle.sz_merge.specs.Files.{IsStopped, error_of_reading}
use Rattle.sz_merge.specs.declared.groups.Group.{Group}
use Rattle.sz_merge.specs.Groups.{AreOf, Adds, Regroups, HasBound, held_by}
use Rattle.sz_merge.specs.Reading.{FitsBehind, AddsRead, IsOtherOrBad, StopsLast, StopsGroups}
use Rattle.sz_merge.proofs.TogetherLemmas.{bounds_of_both, can_more}
use Rattle.sz_merge.proofs.GroupLemmas.{same_of_gathered, can_last, regroups_itself, regroups_last, held_more, added, bound_more}

-- ---- the declarations of the last state are those of the first

tables_at_end : (ds : List Declaration) (more : List SavedState) (last : SavedState)
    → HaveTables ds (more ++ last ∷ []) → last.decls ≡ ds
tables_at_end ds [] last h = h.0
tables_at_end ds (s ∷ more) last h = tables_at_end ds more last h.1

module _ (front : List SavedState) (last : SavedState) (can : CanBeTogether (front ++ last ∷ [])) where
  same_as_first : (state : SavedState) → state.decls ≡ last.decls → HasSameTables (front ++ last ∷ []) state
  same_as_first state same = go front can
    where
      go : (ss : List SavedState) → CanBeTogether (ss ++ last ∷ []) → HasSameTables (ss ++ last ∷ []) state
      go [] h = same
      go (s ∷ ss) h = same ∙ tables_at_end s.decls ss last h.same

  same_as_last : (state : SavedState) → HasSameTables (front ++ last ∷ []) state → state.decls ≡ last.decls
  same_as_last state same = go front can same
    where
      go : (ss : List SavedState) → CanBeTogether (ss ++ last ∷ []) → HasSameTables (ss ++ last ∷ []) state
          → state.decls ≡ last.decls
      go [] h is = is
      go (s ∷ ss) h is = is ∙ sym (tables_at_end s.decls ss last h.same)

  stops_groups : (bytes : List ℕ) (cause : MergeError) → StopsLast last bytes cause
      → StopsGroups (front ++ last ∷ []) bytes cause
  stops_groups bytes BadTables h = h
  stops_groups bytes OtherTables h = (h.0, h.1, λ same. h.2 (same_as_last h.0 same))
  stops_groups bytes TablesLimit h = h
  stops_groups bytes NoMemory h = tt

  -- the bound of the last is low enough, where that of all is
  last_low : (bytes : List ℕ) → ((bound : ℕ) (rest : List ℕ) → head_at bytes ≡ Some (bound, rest)
      → bounds_of (front ++ last ∷ []) + bound ≤ most_bound)
      → (bound : ℕ) (rest : List ℕ) → head_at bytes ≡ Some (bound, rest) → last.bound + bound ≤ most_bound
  last_low bytes low bound rest head =
      let all = low bound rest head in
      let both = bounds_of_both front (last ∷ []) in
      omega (arith, all, both)

  module _ (bytes : List ℕ) (low : (bound : ℕ) (rest : List ℕ) → head_at bytes ≡ Some (bound, rest)
      → bounds_of (front ++ last ∷ []) + bound ≤ most_bound)
      (both : SavedState) (reads : JoinsRead last bytes both) where
    gives : Gives last reads.state both
    gives = record { joins = reads.joins; can = reads.can }

    two : (front ++ last ∷ []) ++ reads.state ∷ [] ≡ front ++ last ∷ reads.state ∷ []
    two = append_assoc front (last ∷ []) (reads.state ∷ [])

    all_can : CanBeTogether ((front ++ last ∷ []) ++ reads.state ∷ [])
    all_can = can_more (front ++ last ∷ []) reads.state can (same_as_first reads.state reads.joins.same)
        (low reads.state.bound reads.behind reads.head)

    both_can : CanBeTogether (front ++ both ∷ [])
    both_can = can_last last reads.state both gives front (subst CanBeTogether two all_can)

    both_regroup : Regroups ((front ++ last ∷ []) ++ reads.state ∷ []) (front ++ both ∷ [])
    both_regroup = regroups_last ((front ++ last ∷ []) ++ reads.state ∷ []) front last reads.state both gives
        (subst (Regroups ((front ++ last ∷ []) ++ reads.state ∷ [])) two
        (regroups_itself ((front ++ last ∷ []) ++ reads.state ∷ []) all_can))

    then_regroups : (before mid now : List SavedState) → Regroups before mid → Regroups mid now → Regroups before now
    then_regroups before mid now g h = record {
      gather = λ states are. h.gather states (g.gather states are);
      bounds = h.bounds ∙ g.bounds;
      can = h.can;
    }

    adds_read : (now : List SavedState) → Regroups (front ++ both ∷ []) now → AddsRead (front ++ last ∷ []) bytes now
    adds_read now h = record {
      state = reads.state;
      saves = reads.saves;
      behind = reads.behind;
      head = reads.head;
      same = same_as_first reads.state reads.joins.same;
      regroups = then_regroups ((front ++ last ∷ []) ++ reads.state ∷ []) (front ++ both ∷ []) now both_regroup h;
    }

-- ---- the same of groups whose last one is known

module _ (groups front : List SavedState) (last : SavedState) (split : groups ≡ front ++ last ∷ [])
    (can : CanBeTogether groups) where
  can_split : CanBeTogether (front ++ last ∷ [])
  can_split = subst CanBeTogether split can

  pub last_stops : (bytes : List ℕ) (cause : MergeError) → StopsLast last bytes cause → StopsGroups groups bytes cause
  last_stops bytes cause h =
      subst (λ l. StopsGroups l bytes cause) (sym split) (stops_groups front last can_split bytes cause h)

  module _ (bytes : List ℕ) (low : (bound : ℕ) (rest : List ℕ) → head_at bytes ≡ Some (bound, rest)
      → bounds_of groups + bound ≤ most_bound) where
    low_split : (bound : ℕ) (rest : List ℕ) → head_at bytes ≡ Some (bound, rest)
        → bounds_of (front ++ last ∷ []) + bound ≤ most_bound
    low_split bound rest head = subst (λ l. bounds_of l + bound ≤ most_bound) split (low bound rest head)

    pub low_of_last : (bound : ℕ) (rest : List ℕ) → head_at bytes ≡ Some (bound, rest) → last.bound + bound ≤ most_bound
    low_of_last = last_low front last can_split bytes low_split

    module _ (both : SavedState) (reads : JoinsRead last bytes both) where
      pub can_of_both : CanBeTogether (front ++ both ∷ [])
      can_of_both = both_can front last can_split bytes low_split both reads

      pub adds_to : (now : List SavedState) → Regroups (front ++ both ∷ []) now → AddsRead groups bytes now
      adds_to now h = subst (λ l. AddsRead l bytes now) (sym split)
          (adds_read front last can_split bytes low_split both reads now h)

-- ---- what a merging says of it

module _ (groups before : List SavedState) (bytes : List ℕ) where
  pub read_stops : (cause : MergeError) → AreOf groups before → StopsGroups groups bytes cause
      → IsStopped before bytes cause
  read_stops BadTables are h = h
  read_stops OtherTables are h = (h.0, h.1, λ same. h.2 (same_of_gathered groups before h.0 are.gather same))
  read_stops TablesLimit are h = absurd h
  read_stops NoMemory are h = tt

  pub read_added : (now : List SavedState) → AreOf groups before → FitsBehind groups bytes → AddsRead groups bytes now
      → Adds before bytes now
  read_added now are fits h =
      added groups before bytes h.state are h.saves now h.same (fits.low h.state.bound h.behind h.head) h.regroups

pub read_bound : (groups now : List SavedState) (bytes : List ℕ) (bound more : ℕ) (rest : List ℕ)
    → bound ≡ bounds_of groups → head_at bytes ≡ Some (more, rest)
    → AddsRead groups bytes now → HasBound now (bound + more)
read_bound groups now bytes bound more rest is head h =
    let same = (found_is h.state.bound more h.behind rest (sym h.head ∙ head)).0 in
    bound_more groups now h.state bound (bound + more) is (ap (λ n. bound + n) (sym same)) h.regroups

-- groups of which the last one is taken
pub held_split : (groups left : List Group) (last : Group) → groups ≡ left ++ last ∷ []
    → held_by groups ≡ held_by left ++ last.saved ∷ []
held_split groups left last is = ap held_by is ∙ held_more left last

-- why a file isn't joined to a state, by what its bytes are
pub other_stops : (one : SavedState) (bytes : List ℕ) (cause : MergeError) → IsOtherOrBad bytes cause
    → ((state : SavedState) → Saves bytes state → state.decls ≢ one.decls) → StopsLast one bytes cause
other_stops one bytes BadTables h differ = h
other_stops one bytes OtherTables h differ = (h.0, h.1, differ h.0 h.1)
other_stops one bytes TablesLimit h differ = h
other_stops one bytes NoMemory h differ = tt

-- a file without a bound
pub head_unread : (before : List SavedState) (bytes : List ℕ) (e : SavedError) → Stops (head_at bytes) e
    → IsStopped before bytes (error_of_reading e)
head_unread before bytes reading.NotSaved stop = nothing_saves bytes (no_head bytes stop)
head_unread before bytes reading.NoMemory stop = tt

pub fits : (groups : List SavedState) (bytes : List ℕ) (bound more : ℕ) (rest : List ℕ) → (groups ≡ [] → ⊥)
    → bound ≡ bounds_of groups
    → head_at bytes ≡ Some (more, rest) → bound + more ≤ most_bound → FitsBehind groups bytes
fits groups bytes bound more rest some is head low = record {
  some = some;
  low = λ other behind found. let same = (found_is other more behind rest (sym found ∙ head)).0 in
      omega (arith, same, low, is);
}
