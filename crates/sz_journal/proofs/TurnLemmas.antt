-- What a journal is for a job, by what stands at the gate behind the rounds that were read.
use Rattle.std.proofs.Common.{◌≡◌, ℕ, ◌+◌, ◌<◌, List, length, drop, Vec, Option, Some, IfSome, Bool, Result, Err, sym, ◌∙◌, ap, subst, arith}
use Rattle.std.specs.declared.alloc.Global.{Global}
use Rattle.sz_types.specs.Tables.{Declaration}
use Rattle.sz_disk.specs.Entries.{opened, end_of}
use Rattle.sz_disk.specs.GateCalls.{HasEntry, StandsAt, IsWithin}
use Rattle.sz_disk.specs.declared.reading.AtGate.{AtGate}
use Rattle.sz_disk.specs.declared.reading.AtGate.TheVariants.{Closed, Entry, Ending, Cut}
use Rattle.sz_disk.proofs.GateForCallers.{opened_long}
use Rattle.sz_journal.specs.Rounds.{AreRounds}
use Rattle.sz_journal.specs.declared.job.JobBytes.{JobBytes}
use Rattle.sz_journal.specs.declared.round.RoundEntry.{RoundEntry}
use Rattle.sz_journal.specs.Journals.{entries_of, Stands, DamagedAt}
use Rattle.sz_journal.specs.declared.error.OpenError.{OpenError}
use Rattle.sz_journal.specs.declared.error.OpenError.TheVariants as errors
use Rattle.sz_journal.specs.declared.tail.Tail.{Tail}
use Rattle.sz_journal.specs.Journal.{rounds_of, end_gate}
use Rattle.sz_journal.specs.Opening.{FitsError}
use Rattle.sz_journal.specs.Reading.{IsReadTo, HasTaken, FitsTaken, IsAt, HasAll, FitsTurn}
use Rattle.sz_journal.proofs.SpellLemmas.{is_of_more}
use Rattle.sz_journal.proofs.FirstLemmas.{told_at, stands_at}
use Rattle.sz_journal.proofs.RoundLemmas.{ending_broken, cut_broken, closed_spelled, broken_damaged, other_damaged, read_more}

module _ {job : JobBytes} {decls : List Declaration} {bytes : Option (List ℕ)} {count : ℕ} {journal : Tail}
    (at : IsAt job decls journal bytes count)
    {gate : ℕ} (gate_is : gate ≡ end_gate journal) where
  abbrev rounds : List RoundEntry
  rounds = rounds_of journal

  end_is : gate ≡ end_of (entries_of job rounds)
  end_is = gate_is ∙ at.is_of.end

  here : (P : List ℕ → Type 0) → IfSome bytes (λ held. P (drop gate held)) → (held : List ℕ) → bytes ≡ Some held
      → P (drop (end_of (entries_of job rounds)) held)
  here P stands held told =
      subst (λ (n : ℕ). P (drop n held)) end_is (told_at bytes held (λ (h : List ℕ). P (drop gate h)) stands told)

  damaged : (held : List ℕ) → Stands job decls held (DamagedAt (end_of (entries_of job rounds)))
      → FitsError job decls held (errors.Damaged gate)
  damaged held stands = subst (λ (n : ℕ). Stands job decls held (DamagedAt n)) (sym end_is) stands

  module _ {found : AtGate} (stands : IfSome bytes (λ held. StandsAt (drop gate held) found)) where
    is_at : (other : AtGate) → found ≡ other → (held : List ℕ) → bytes ≡ Some held
        → StandsAt (drop (end_of (entries_of job rounds)) held) other
    is_at other is held told =
        here (λ (l : List ℕ). StandsAt l other) (stands_at bytes gate found other is stands) held told

    -- the gate isn't open
    pub turn_closed : found ≡ Closed → HasAll job decls journal bytes
    turn_closed is = record {
      is_of = at.is_of;
      are = at.are;
      spelled =
          λ held told. closed_spelled job decls rounds held (at.read held told) at.are (is_at Closed is held told);
    }

    -- no gate stands behind the entry
    pub turn_ending : (entry : Vec ℕ Global) → found ≡ Ending entry → (held : List ℕ) → bytes ≡ Some held
        → FitsError job decls held (errors.Damaged gate)
    turn_ending entry is held told =
        damaged held
        (broken_damaged job decls rounds held
        (at.read held told) at.are (ending_broken entry.items _ (is_at (Ending entry) is held told)))

    -- no entry is whole
    pub turn_cut : found ≡ Cut → (held : List ℕ) → bytes ≡ Some held → FitsError job decls held (errors.Damaged gate)
    turn_cut is held told =
        damaged held
        (broken_damaged job decls rounds held (at.read held told) at.are (cut_broken _ (is_at Cut is held told)))

  module _ {found : AtGate} {behind : Vec ℕ Global} {entry : List ℕ}
      (stands : IfSome bytes (λ held. StandsAt (drop gate held) found))
      (found_is : found ≡ Entry behind) (entry_is : entry ≡ behind.items) (new : Tail) where
    has : (held : List ℕ) → bytes ≡ Some held → HasEntry entry (drop (end_of (entries_of job rounds)) held)
    has held told =
        subst (λ (e : List ℕ). HasEntry e (drop (end_of (entries_of job rounds)) held)) (sym entry_is)
        (here (λ (l : List ℕ). HasEntry behind.items l)
        (stands_at bytes gate found (Entry behind) found_is stands) held told)

    turn_refused : (error : OpenError) → FitsTaken job decls journal new entry (Err error) → (held : List ℕ)
        → bytes ≡ Some held → FitsError job decls held error
    turn_refused errors.OtherJob taken held told = absurd taken
    turn_refused (errors.Damaged place) taken held told =
        subst (λ (n : ℕ). Stands job decls held (DamagedAt n)) (sym (taken.0 ∙ at.is_of.end))
        (other_damaged job decls rounds held (at.read held told) at.are entry (has held told) taken.1)
    turn_refused errors.Failed taken held told = tt
    turn_refused errors.NoMemory taken held told = tt

    -- the entry isn't that of a round that may be the next one
    pub turn_failed : (result : Result Bool OpenError) (error given : OpenError)
        → FitsTaken job decls journal new entry (Err error)
        → result ≡ Err given → given ≡ error → FitsTurn job decls bytes count journal new result
    turn_failed result error given taken is same =
        subst (λ (r : Result Bool OpenError). FitsTurn job decls bytes count journal new r)
        (sym (is ∙ ap (λ (e : OpenError). Err e) same)) (turn_refused error taken)

    -- the entry is that of the next round
    pub turn_more : HasTaken job decls journal new entry → IsWithin count gate found
        → IsAt job decls new bytes count × (end_gate journal < end_gate new)
    turn_more taken within = (
      record {
        is_of = is_of_more job journal new taken.round entry taken.is at.is_of taken.rounds taken.last taken.end;
        are = subst (λ (rs : List RoundEntry). AreRounds job decls rs) (sym taken.rounds) taken.are;
        here =
            let low : gate + length (opened behind.items) < count =
            subst (λ (f : AtGate). IsWithin count gate f) found_is within in
            omega (arith, taken.end, low, gate_is, ap (λ (e : List ℕ). length (opened e)) entry_is);
        read = λ held told.
            subst (λ (rs : List RoundEntry). IsReadTo job rs held) (sym taken.rounds)
            (read_more job decls rounds held (at.read held told) at.are entry taken.round (has held told) taken.is);
      },
      (let long = opened_long entry in omega (arith, taken.end, long)),
    )
