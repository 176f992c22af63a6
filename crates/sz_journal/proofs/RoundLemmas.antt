-- What a journal is for a job, by what stands behind its rounds.
use Rattle.std.proofs.Common.{◌≡◌, inr, ℕ, ◌<◌, ◌^◌, List, [], ◌∷◌, ◌++◌, drop, refl, sym, ◌∙◌, ap, subst, append_assoc}
use Rattle.std.specs.List.{AllByRecursion}
use Rattle.sz_types.specs.Tables.{Declaration}
use Rattle.sz_disk.specs.Entries.{with_length, opened, all_opened, end_of, IsCounted}
use Rattle.sz_disk.specs.GateCalls.{IsClosed, Begins, HasEntry, IsCut}
use Rattle.sz_disk.proofs.GateForCallers.{opened_more}
use Rattle.sz_journal.specs.Rounds.{round_bytes, IsSpelledRound, IsOfRound, no_progress, AreRounds}
use Rattle.sz_journal.specs.declared.job.JobBytes.{JobBytes}
use Rattle.sz_journal.specs.declared.round.RoundEntry.{RoundEntry}
use Rattle.sz_journal.proofs.FollowLemmas.{spelled_rounds}
use Rattle.sz_journal.proofs.EntryRoundLemmas.{one_round}
use Rattle.sz_journal.specs.Journals.{entries_of, BeginsWith, IsNextRound, Stands, DamagedAt, Spelled}
use Rattle.sz_journal.specs.Reading.{IsReadTo}
use Rattle.sz_journal.proofs.SpellLemmas.{entries_with}
use Rattle.sz_journal.proofs.FirstLemmas.{read_to, same_entry, no_gate}

-- an open gate stands in front, and behind it no entry is whole and has a gate behind it
pub record IsBroken (bytes : List ℕ) : Type 0 where
  pub behind : List ℕ
  pub is : bytes ≡ 1 ∷ behind
  pub none : (entry : List ℕ) → HasEntry entry bytes → ⊥

-- an entry with which the bytes end has no gate behind it
pub ending_broken : (entry bytes : List ℕ) → Begins entry [] bytes → IsBroken bytes
ending_broken entry bytes begins = record { behind = with_length entry ++ []; is = begins.is; none = none }
  where
    none : (other : List ℕ) → HasEntry other bytes → ⊥
    none other has =
        no_gate has.gate has.behind (same_entry bytes other entry (has.gate ∷ has.behind) [] has.begins begins).1

-- and where no entry is whole, none has a gate
pub cut_broken : (bytes : List ℕ) → IsCut bytes → IsBroken bytes
cut_broken bytes cut = record {
  behind = cut.behind;
  is = cut.is;
  none = λ entry has.
      cut.none entry
      (has.gate ∷ has.behind) has.begins.counted (ap (λ (l : List ℕ). drop 1 l) (sym cut.is ∙ has.begins.is));
}

all_last : (P : RoundEntry → Type 0) (rounds : List RoundEntry) (round : RoundEntry)
    → AllByRecursion P (rounds ++ round ∷ []) → P round
all_last P [] round all = all.0
all_last P (first ∷ rounds) round all = all_last P rounds round all.1

all_more : (entries : List (List ℕ)) (entry : List ℕ) → AllByRecursion IsCounted entries → IsCounted entry
    → AllByRecursion IsCounted (entries ++ entry ∷ [])
all_more [] entry all one = (one, tt)
all_more (first ∷ entries) entry all one = (all.0, all_more entries entry all.1 one)

module _ (job : JobBytes) (decls : List Declaration) (rounds : List RoundEntry) where
  abbrev entries : List (List ℕ)
  entries = entries_of job rounds

  -- a round that may be the next one has its bytes
  next_spelled : (round : RoundEntry) → job.skip < 2 ^ 32 → AreRounds job decls (rounds ++ round ∷ [])
      → IsSpelledRound round
  next_spelled round few are = all_last IsSpelledRound rounds round
      (spelled_rounds job decls no_progress (rounds ++ round ∷ []) few are.follow)

  -- bytes that aren't those of a round aren't those of the next one
  pub none_next : (entry : List ℕ) → job.skip < 2 ^ 32 → ((round : RoundEntry) → IsOfRound entry round → ⊥)
      → IsNextRound job decls rounds entry → ⊥
  none_next entry few none next =
      none next.round (record { spelled = next_spelled next.round few next.are; is = next.is })

  -- nor are those of a round that may not be the next one
  pub other_next : (entry : List ℕ) (round : RoundEntry) → job.skip < 2 ^ 32 → IsOfRound entry round
      → (AreRounds job decls (rounds ++ round ∷ []) → ⊥) → IsNextRound job decls rounds entry → ⊥
  other_next entry round few is_round none next =
      let same : next.round ≡ round = one_round entry next.round round
      (record { spelled = next_spelled next.round few next.are; is = next.is }) is_round in
      none (subst (λ (r : RoundEntry). AreRounds job decls (rounds ++ r ∷ [])) same next.are)

  module _ (held : List ℕ) (read : IsReadTo job rounds held) (are : AreRounds job decls rounds) where
    abbrev rest : List ℕ
    rest = drop (end_of entries) held

    -- the gate behind the rounds isn't open
    pub closed_spelled : IsClosed rest → Stands job decls held (Spelled rounds)
    closed_spelled closed = record {
      holds = record {
        gate = closed.gate;
        behind = closed.behind;
        is = read.is ∙ ap (λ (l : List ℕ). all_opened entries ++ l) closed.is;
        closed = closed.closed;
        counted = read.counted;
      };
      are = are;
    }

    damaged_behind : (behind : List ℕ) → rest ≡ 1 ∷ behind → (BeginsWith (IsNextRound job decls rounds) rest → ⊥)
        → Stands job decls held (DamagedAt (end_of entries))
    damaged_behind behind is none = inr (record {
      rounds = rounds;
      behind = behind;
      is = read.is ∙ ap (λ (l : List ℕ). all_opened entries ++ l) is;
      counted = read.counted;
      are = are;
      place_is = refl;
      none = subst (λ (l : List ℕ). BeginsWith (IsNextRound job decls rounds) l → ⊥) is none;
    })

    -- no entry with a gate stands behind it
    pub broken_damaged : IsBroken rest → Stands job decls held (DamagedAt (end_of entries))
    broken_damaged broken = damaged_behind broken.behind broken.is (λ b. broken.none b.entry b.has)

    -- the entry there isn't that of the next round
    pub other_damaged : (entry : List ℕ) → HasEntry entry rest → (IsNextRound job decls rounds entry → ⊥)
        → Stands job decls held (DamagedAt (end_of entries))
    other_damaged entry has other = damaged_behind (with_length entry ++ has.gate ∷ has.behind) has.begins.is none
      where
        none : BeginsWith (IsNextRound job decls rounds) rest → ⊥
        none b =
            let same = (same_entry rest b.entry entry (b.has.gate ∷ b.has.behind)
            (has.gate ∷ has.behind) b.has.begins has.begins).0 in
            other (subst (λ (e : List ℕ). IsNextRound job decls rounds e) same b.good)

    -- the entry there is that of the next round
    pub read_more : (entry : List ℕ) (round : RoundEntry) → HasEntry entry rest → entry ≡ round_bytes round
        → IsReadTo job (rounds ++ round ∷ []) held
    read_more entry round has is =
        let path : entries ++ entry ∷ [] ≡ entries_of job (rounds ++ round ∷ []) =
        entries_with job rounds round entry is in
        let behind = has.gate ∷ has.behind in
        let whole : held ≡ all_opened (entries ++ entry ∷ []) ++ behind =
        read.is ∙ ap (λ (l : List ℕ). all_opened entries ++ l) has.begins.is
        ∙ sym (append_assoc (all_opened entries) (opened entry) behind)
        ∙ ap (λ (l : List ℕ). l ++ behind) (sym (opened_more entries entry)) in
        record {
          is = read_to (entries_of job (rounds ++ round ∷ [])) held behind
              (whole ∙ ap (λ (es : List (List ℕ)). all_opened es ++ behind) path);
          counted = subst (λ (es : List (List ℕ)). AllByRecursion IsCounted es) path
              (all_more entries entry read.counted has.begins.counted);
        }
