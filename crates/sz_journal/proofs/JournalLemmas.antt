-- A journal is one thing for a job, and is not that of two jobs.
use Rattle.std.proofs.Common.{◌≡◌, ◌∙◌, ⊎_elim, ℕ, List, [], ◌∷◌, ◌++◌, map, drop, get_or, refl, sym, ap, subst, append_assoc}
use Rattle.std.specs.List.{AllByRecursion}
use Rattle.sz_types.specs.Tables.{Declaration}
use Rattle.sz_flat.specs.Spelling.{IsShort}
use Rattle.sz_disk.specs.Entries.{with_length, opened, all_opened, end_of, IsCounted, IsEmpty}
use Rattle.sz_journal.specs.Jobs.{job_bytes}
use Rattle.sz_journal.specs.Rounds.{round_bytes, IsSpelledRound, no_progress, AreRounds}
use Rattle.sz_journal.specs.declared.job.JobBytes.{JobBytes}
use Rattle.sz_journal.specs.declared.round.RoundEntry.{RoundEntry}
use Rattle.sz_journal.proofs.FollowLemmas.{are_front, spelled_rounds}
use Rattle.sz_journal.proofs.JobLemmas.{one_job}
use Rattle.sz_journal.specs.Journals.{entries_of, Spells, IsOfOtherJob, BeginsWith, IsNextRound, IsDamagedFirst, IsDamagedBehind, IsDamaged, Standing, Empty, OtherJob, DamagedAt, Spelled, Stands}
use Rattle.sz_journal.specs.Laws.{IsOneStanding, IsOneJournal}
use Rattle.sz_journal.proofs.ChainLemmas.{heads, tails, first_entry, front_gate, Chain, AreSame, IsLonger, Compared, compared, both_closed}
use Rattle.sz_journal.proofs.RoundsLemmas.{rounds_same, has_round}

-- a journal that isn't empty: its first gate is open, and a byte follows
record IsOpen (bytes : List ℕ) : Type 0 where
  byte : ℕ
  behind : List ℕ
  is : bytes ≡ 1 ∷ byte ∷ behind

open_first : (entry rest : List ℕ) → IsOpen (opened entry ++ rest)
open_first entry rest = record {
  byte = get_or (with_length entry) 0 0;
  behind = drop 1 (with_length entry ++ rest);
  is = refl;
}

not_empty : (bytes : List ℕ) → IsOpen bytes → IsEmpty bytes → ⊥
not_empty bytes opens none = subst IsEmpty opens.is none refl

opened_by : (bytes entry rest : List ℕ) → bytes ≡ opened entry ++ rest → IsOpen bytes
opened_by bytes entry rest is = let first = open_first entry rest in
    record { byte = first.byte; behind = first.behind; is = is ∙ first.is }

other_open : (job : JobBytes) (bytes : List ℕ) → IsOfOtherJob job bytes → IsOpen bytes
other_open job bytes other = opened_by bytes other.entry other.behind other.begins.is

first_open : (job : JobBytes) (bytes : List ℕ) → IsDamagedFirst job bytes → IsOpen bytes
first_open job bytes damaged = record { byte = damaged.byte; behind = damaged.behind; is = damaged.is }

-- the entries of a job and of some of its rounds, and a gate
record IsChain (job : JobBytes) (decls : List Declaration) (bytes : List ℕ) : Type 0 where
  rounds : List RoundEntry
  gate : ℕ
  behind : List ℕ
  is : bytes ≡ all_opened (entries_of job rounds) ++ gate ∷ behind
  counted : AllByRecursion IsCounted (entries_of job rounds)
  are : AreRounds job decls rounds

abbrev chain_spelled : (job : JobBytes) (decls : List Declaration) (bytes : List ℕ) (rounds : List RoundEntry)
    → Spells job decls bytes rounds → IsChain job decls bytes
chain_spelled job decls bytes rounds h =
    record {
      rounds = rounds;
      gate = h.holds.gate;
      behind = h.holds.behind;
      is = h.holds.is;
      counted = h.holds.counted;
      are = h.are;
    }

abbrev chain_damaged : (job : JobBytes) (decls : List Declaration) (bytes : List ℕ) (place : ℕ)
    → IsDamagedBehind job decls bytes place → IsChain job decls bytes
chain_damaged job decls bytes place h =
    record { rounds = h.rounds; gate = 1; behind = h.behind; is = h.is; counted = h.counted; are = h.are }

abbrev chain_of : (job : JobBytes) (rounds : List RoundEntry) (gate : ℕ) (behind : List ℕ) → Chain
chain_of job rounds gate behind = record { entries = entries_of job rounds; gate = gate; behind = behind }

module _ (job : JobBytes) (decls : List Declaration) (bytes : List ℕ) where
  begun : (chain : IsChain job decls bytes)
      → bytes ≡ opened (job_bytes job) ++ (all_opened (map round_bytes chain.rounds) ++ chain.gate ∷ chain.behind)
  begun chain = chain.is
      ∙ append_assoc (opened (job_bytes job)) (all_opened (map round_bytes chain.rounds)) (chain.gate ∷ chain.behind)

  chain_open : IsChain job decls bytes → IsOpen bytes
  chain_open chain = opened_by bytes (job_bytes job)
      (all_opened (map round_bytes chain.rounds) ++ chain.gate ∷ chain.behind) (begun chain)

  chain_not_other : IsChain job decls bytes → IsOfOtherJob job bytes → ⊥
  chain_not_other chain other =
      let rest = all_opened (map round_bytes chain.rounds) ++ chain.gate ∷ chain.behind in
      other.other
      (first_entry other.entry (job_bytes job) other.behind rest other.begins.counted chain.counted.0
      (sym other.begins.is ∙ begun chain)).0

  chain_not_first : IsChain job decls bytes → IsDamagedFirst job bytes → ⊥
  chain_not_first chain damaged =
      let gate = front_gate (map round_bytes chain.rounds) chain.gate chain.behind in
      damaged.none (record {
        entry = job_bytes job;
        has = record {
          gate = gate.0;
          behind = gate.1;
          begins =
              record { is = begun chain ∙ ap (λ l. opened (job_bytes job) ++ l) gate.2; counted = chain.counted.0 };
        };
        good = refl;
      })

  module _ (few : IsShort job.skip) where
    spelled : (rounds : List RoundEntry) → AreRounds job decls rounds → AllByRecursion IsSpelledRound rounds
    spelled rounds are = spelled_rounds job decls no_progress rounds few are.follow

    -- where one chain goes on behind the end of another, a further round stands there
    next_stands : (rounds others : List RoundEntry) (g : ℕ) (r : List ℕ) (h : ℕ) (s : List ℕ)
        → AreRounds job decls rounds → AreRounds job decls others → IsLonger (chain_of job rounds g r)
        (chain_of job others h s) → BeginsWith (IsNextRound job decls rounds) (1 ∷ r)
    next_stands rounds others g r h s are more longer =
        let has = has_round others (map round_bytes rounds) longer.entry longer.more (tails longer.is) in
        let all : AreRounds job decls ((has.front ++ has.round ∷ []) ++ has.rest) =
        subst (AreRounds job decls) (has.is ∙ sym (append_assoc has.front (has.round ∷ []) has.rest)) more in
        let next : AreRounds job decls (has.front ++ has.round ∷ []) =
        are_front job decls (has.front ++ has.round ∷ []) has.rest all in
        let front : AreRounds job decls has.front = are_front job decls has.front (has.round ∷ []) next in
        let same : has.front ≡ rounds =
        rounds_same has.front rounds (spelled has.front front) (spelled rounds are) has.before_is in
        let gate = front_gate longer.more h s in
        record {
          entry = longer.entry;
          has = record {
            gate = gate.0;
            behind = gate.1;
            begins = record {
              is = ap (λ l. 1 ∷ l) (longer.behind ∙ ap (λ l. with_length longer.entry ++ l) gate.2);
              counted = longer.counted;
            };
          };
          good = record {
            round = has.round;
            are = subst (λ l. AreRounds job decls (l ++ has.round ∷ [])) same next;
            is = has.entry_is;
          };
        }

    -- two chains of the same bytes
    chains : (one other : IsChain job decls bytes)
        → Compared (chain_of job one.rounds one.gate one.behind) (chain_of job other.rounds other.gate other.behind)
    chains one other =
        compared (chain_of job one.rounds one.gate one.behind)
        (chain_of job other.rounds other.gate other.behind) one.counted other.counted
        (sym one.is ∙ other.is)

    spelled_once : (rounds others : List RoundEntry) → Spells job decls bytes rounds → Spells job decls bytes others
        → rounds ≡ others
    spelled_once rounds others h k =
        let one = chain_of job rounds h.holds.gate h.holds.behind in
        let other = chain_of job others k.holds.gate k.holds.behind in
        let same = both_closed one other h.holds.closed k.holds.closed
        (chains (chain_spelled job decls bytes rounds h) (chain_spelled job decls bytes others k)) in
        rounds_same rounds others (spelled rounds h.are) (spelled others k.are) (tails same.entries)

    damaged_not_spelled : (place : ℕ) (rounds : List RoundEntry) → IsDamagedBehind job decls bytes place
        → Spells job decls bytes rounds → ⊥
    damaged_not_spelled place rounds h k =
        let one = chain_of job h.rounds 1 h.behind in
        let other = chain_of job rounds k.holds.gate k.holds.behind in
        ⊎_elim (λ (same : AreSame one other). k.holds.closed (sym same.gates))
        (λ apart. ⊎_elim
        (λ (longer : IsLonger one other).
        h.none (next_stands h.rounds rounds 1 h.behind k.holds.gate k.holds.behind h.are k.are longer))
        (λ (longer : IsLonger other one). k.holds.closed longer.opens) apart)
        (chains (chain_damaged job decls bytes place h) (chain_spelled job decls bytes rounds k))

    damaged_once : (place other : ℕ) → IsDamagedBehind job decls bytes place
        → IsDamagedBehind job decls bytes other → place ≡ other
    damaged_once place other h k =
        let one = chain_of job h.rounds 1 h.behind in
        let two = chain_of job k.rounds 1 k.behind in
        ⊎_elim (λ (same : AreSame one two). h.place_is ∙ ap end_of same.entries ∙ sym k.place_is)
        (λ apart. absurd (⊎_elim
        (λ (longer : IsLonger one two). h.none (next_stands h.rounds k.rounds 1 h.behind 1 k.behind h.are k.are longer))
        (λ (longer : IsLonger two one).
        k.none (next_stands k.rounds h.rounds 1 k.behind 1 h.behind k.are h.are longer)) apart))
        (chains (chain_damaged job decls bytes place h) (chain_damaged job decls bytes other k))

    damaged_open : (place : ℕ) → IsDamaged job decls bytes place → IsOpen bytes
    damaged_open place h = ⊎_elim (λ first. first_open job bytes first.1)
        (λ behind. chain_open (chain_damaged job decls bytes place behind)) h

    other_not_damaged : (place : ℕ) → IsOfOtherJob job bytes → IsDamaged job decls bytes place → ⊥
    other_not_damaged place other h =
        ⊎_elim (λ first. first.1.no_other other)
        (λ behind. chain_not_other (chain_damaged job decls bytes place behind) other) h

    damaged_or_spelled : (place : ℕ) (rounds : List RoundEntry) → IsDamaged job decls bytes place
        → Spells job decls bytes rounds → ⊥
    damaged_or_spelled place rounds h k =
        ⊎_elim (λ first. chain_not_first (chain_spelled job decls bytes rounds k) first.1)
        (λ behind. damaged_not_spelled place rounds behind k) h

    first_or_behind : (place : ℕ) → IsDamagedFirst job bytes → IsDamagedBehind job decls bytes place → ⊥
    first_or_behind place first behind = chain_not_first (chain_damaged job decls bytes place behind) first

    one_place : (place other : ℕ) → IsDamaged job decls bytes place → IsDamaged job decls bytes other → place ≡ other
    one_place place other h k =
        ⊎_elim
        (λ first. ⊎_elim (λ again. first.0 ∙ sym again.0) (λ behind. absurd (first_or_behind other first.1 behind)) k)
        (λ behind. ⊎_elim (λ first. absurd (first_or_behind place first.1 behind))
        (λ again. damaged_once place other behind again) k) h

    one_thing : (first second : Standing) → Stands job decls bytes first → Stands job decls bytes second
        → first ≡ second
    one_thing Empty Empty h k = refl
    one_thing Empty OtherJob h k = absurd (not_empty bytes (other_open job bytes k) h)
    one_thing Empty (DamagedAt place) h k = absurd (not_empty bytes (damaged_open place k) h)
    one_thing Empty (Spelled rounds) h k =
        absurd (not_empty bytes (chain_open (chain_spelled job decls bytes rounds k)) h)
    one_thing OtherJob Empty h k = absurd (not_empty bytes (other_open job bytes h) k)
    one_thing OtherJob OtherJob h k = refl
    one_thing OtherJob (DamagedAt place) h k = absurd (other_not_damaged place h k)
    one_thing OtherJob (Spelled rounds) h k = absurd (chain_not_other (chain_spelled job decls bytes rounds k) h)
    one_thing (DamagedAt place) Empty h k = absurd (not_empty bytes (damaged_open place h) k)
    one_thing (DamagedAt place) OtherJob h k = absurd (other_not_damaged place k h)
    one_thing (DamagedAt place) (DamagedAt other) h k = ap DamagedAt (one_place place other h k)
    one_thing (DamagedAt place) (Spelled rounds) h k = absurd (damaged_or_spelled place rounds h k)
    one_thing (Spelled rounds) Empty h k =
        absurd (not_empty bytes (chain_open (chain_spelled job decls bytes rounds h)) k)
    one_thing (Spelled rounds) OtherJob h k = absurd (chain_not_other (chain_spelled job decls bytes rounds h) k)
    one_thing (Spelled rounds) (DamagedAt place) h k = absurd (damaged_or_spelled place rounds k h)
    one_thing (Spelled rounds) (Spelled others) h k = ap Spelled (spelled_once rounds others h k)

pub one_standing : IsOneStanding
one_standing job decls bytes first second few h k = one_thing job decls bytes few first second h k

pub one_journal : IsOneJournal
one_journal bytes first second decls others rounds more one other h k =
    let c = chain_of first rounds h.holds.gate h.holds.behind in
    let d = chain_of second more k.holds.gate k.holds.behind in
    let same = both_closed c d h.holds.closed k.holds.closed
    (compared c d h.holds.counted k.holds.counted (sym h.holds.is ∙ k.holds.is)) in (
      one_job (job_bytes first) first second (record { spelled = one; is = refl })
          (record { spelled = other; is = heads same.entries }),
      rounds_same rounds more (spelled_rounds first decls no_progress rounds one.skip h.are.follow)
          (spelled_rounds second others no_progress more other.skip k.are.follow) (tails same.entries),
    )
