-- What a journal is for a job, by what stands at its first gate.
use Rattle.std.proofs.Common.{◌≡◌, ◌≢◌, inl, ℕ, ◌+◌, ◌<◌, List, [], ◌∷◌, ◌++◌, length, drop, Vec, Option, Some, IfSome, refl, sym, ◌∙◌, ap, subst, arith, length-append}
use Rattle.std.specs.declared.alloc.Global.{Global}
use Rattle.std.proofs.lemmas.List.{drop_at, append-nil}
use Rattle.sz_types.specs.Tables.{Declaration}
use Rattle.sz_disk.specs.Entries.{with_length, opened, all_opened, end_of, IsCounted}
use Rattle.sz_disk.specs.GateCalls.{Begins, HasEntry, IsCut, StandsAt}
use Rattle.sz_disk.specs.declared.reading.AtGate.{AtGate}
use Rattle.sz_disk.specs.declared.reading.AtGate.TheVariants.{Entry, Ending, Cut}
use Rattle.sz_disk.proofs.GateForCallers.{same_opened, opened_long}
use Rattle.sz_journal.specs.Jobs.{job_bytes, IsJob}
use Rattle.sz_journal.specs.declared.job.JobBytes.{JobBytes}
use Rattle.sz_journal.specs.Journals.{entries_of, BeginsWith, IsOfOtherJob, Stands, DamagedAt}
use Rattle.sz_journal.specs.declared.error.OpenError.{OpenError}
use Rattle.sz_journal.specs.declared.error.OpenError.TheVariants as errors
use Rattle.sz_journal.specs.Opening.{FitsError}
use Rattle.sz_journal.specs.Reading.{FitsRefused, IsReadTo}

-- bytes that are told
pub told_at : (bytes : Option (List ℕ)) (held : List ℕ) (P : List ℕ → Type 0) → IfSome bytes P
    → bytes ≡ Some held → P held
told_at bytes held P has told = subst (λ (b : Option (List ℕ)). IfSome b P) told has

-- what stands at a gate, by what was found there
pub stands_at : (bytes : Option (List ℕ)) (gate : ℕ) (found other : AtGate) → found ≡ other
    → IfSome bytes (λ held. StandsAt (drop gate held) found) → IfSome bytes (λ held. StandsAt (drop gate held) other)
stands_at bytes gate found other is stands =
    subst (λ (f : AtGate). IfSome bytes (λ (h : List ℕ). StandsAt (drop gate h) f)) is stands

-- bytes that begin with these entries, and what stands behind
pub read_to : (entries : List (List ℕ)) (held rest : List ℕ) → held ≡ all_opened entries ++ rest
    → held ≡ all_opened entries ++ drop (end_of entries) held
read_to entries held rest is =
    let same : drop (end_of entries) held ≡ rest =
    ap (λ (l : List ℕ). drop (end_of entries) l) is ∙ drop_at (all_opened entries) rest (end_of entries) refl in
    is ∙ ap (λ (l : List ℕ). all_opened entries ++ l) (sym same)

-- two entries at one place
pub same_entry : (held e f a b : List ℕ) → Begins e a held → Begins f b held → (e ≡ f) × (a ≡ b)
same_entry held e f a b first second = same_opened e f a b first.counted second.counted (sym first.is ∙ second.is)

pub no_gate : (gate : ℕ) (behind : List ℕ) → gate ∷ behind ≡ [] → ⊥
no_gate gate behind e = absurd cc

module _ (job : JobBytes) (decls : List Declaration) (held : List ℕ) where
  damaged_first : (behind : List ℕ) → held ≡ 1 ∷ behind → 1 < length held
      → (BeginsWith (λ e. e ≡ job_bytes job) held → ⊥)
      → (IsOfOtherJob job held → ⊥) → Stands job decls held (DamagedAt 0)
  damaged_first [] is long none other = absurd (omega (arith, long, ap length is))
  damaged_first (byte ∷ behind) is long none other =
      inl (refl, record { byte = byte; behind = behind; is = is; none = none; no_other = other })

  -- no entry is whole
  pub cut_damaged : IsCut held → 1 < length held → Stands job decls held (DamagedAt 0)
  cut_damaged cut long = damaged_first cut.behind cut.is long
      (λ b. no b.entry (b.has.gate ∷ b.has.behind) b.has.begins) (λ o. no o.entry o.behind o.begins)
    where
      no : (entry more : List ℕ) → Begins entry more held → ⊥
      no entry more begins = cut.none entry more begins.counted (ap (λ (l : List ℕ). drop 1 l) (sym cut.is ∙ begins.is))

  module _ (first behind : List ℕ) (begins : Begins first behind held) where
    long : 1 < length held
    long = let parts = length-append (opened first) behind in let whole = opened_long first in
        omega (arith, ap length begins.is, parts, whole)

    -- the entry isn't that of the job with a gate behind it
    pub refused_first : (own : List ℕ) → own ≡ job_bytes job → (BeginsWith (λ e. e ≡ job_bytes job) held → ⊥)
        → (error : OpenError) → FitsRefused own first error → FitsError job decls held error
    refused_first own is none errors.OtherJob found =
        record { entry = first; behind = behind; begins = begins; is_job = found.1; other = λ e. found.0 (e ∙ sym is) }
    refused_first own is none (errors.Damaged place) found =
        subst (λ (p : ℕ). Stands job decls held (DamagedAt p)) (sym found.0)
        (damaged_first (with_length first ++ behind) begins.is long none no_other)
      where
        no_other : IsOfOtherJob job held → ⊥
        no_other o =
            let same = (same_entry held o.entry first o.behind behind o.begins begins).0 in
            found.1 (λ e. o.other (same ∙ e ∙ is)) (subst IsJob same o.is_job)
    refused_first own is none errors.Failed found = absurd found
    refused_first own is none errors.NoMemory found = tt

    pub other_none : (own : List ℕ) → own ≡ job_bytes job → first ≢ own → BeginsWith (λ e. e ≡ job_bytes job) held → ⊥
    other_none own is other b =
        other (sym (same_entry held b.entry first (b.has.gate ∷ b.has.behind) behind b.has.begins begins).0
        ∙ b.good ∙ sym is)

  -- the journal ends with the entry
  pub ending_none : (first : List ℕ) → Begins first [] held → BeginsWith (λ e. e ≡ job_bytes job) held → ⊥
  ending_none first begins b =
      no_gate b.has.gate b.has.behind
      (same_entry held b.entry first (b.has.gate ∷ b.has.behind) [] b.has.begins begins).1

  -- the entry is that of the job, with a gate behind it
  pub job_read : (first : List ℕ) → HasEntry first held → first ≡ job_bytes job → IsReadTo job [] held
  job_read first has is =
      let rest = has.gate ∷ has.behind in
      let whole : held ≡ all_opened (entries_of job []) ++ rest =
      has.begins.is ∙ ap (λ (e : List ℕ). opened e ++ rest) is
      ∙ ap (λ (l : List ℕ). l ++ rest) (sym (append-nil (opened (job_bytes job)))) in
      record { is = read_to (entries_of job []) held rest whole; counted = (subst IsCounted is has.begins.counted, tt) }

-- no entry is whole, by what was read at the first gate of so many bytes
pub cut_told : (job : JobBytes) (decls : List Declaration) (bytes : Option (List ℕ)) (count : ℕ) (found : AtGate)
    → IfSome bytes (λ held. count ≡ length held) → 1 < count → IfSome bytes (λ held. StandsAt (drop 0 held) found)
    → found ≡ Cut → (held : List ℕ) → bytes ≡ Some held → Stands job decls held (DamagedAt 0)
cut_told job decls bytes count found all long stands is held told =
    let whole : count ≡ length held = told_at bytes held (λ (h : List ℕ). count ≡ length h) all told in
    cut_damaged job decls held (told_at bytes held IsCut (stands_at bytes 0 found Cut is stands) told)
    (omega (arith, long, whole))

-- the entry there isn't that of the job, or it has no gate behind it
pub other_told : (job : JobBytes) (decls : List Declaration) (bytes : Option (List ℕ)) (found : AtGate)
    (first : Vec ℕ Global) (own : List ℕ) (error : OpenError) → IfSome bytes (λ held. StandsAt (drop 0 held) found)
    → found ≡ Entry first → first.items ≢ own → FitsRefused own first.items error → (held : List ℕ)
    → own ≡ job_bytes job → bytes ≡ Some held → FitsError job decls held error
other_told job decls bytes found first own error stands is other refused held own_is told =
    let has : HasEntry first.items held = told_at bytes held (λ (h : List ℕ). HasEntry first.items h)
    (stands_at bytes 0 found (Entry first) is stands) told in
    refused_first job decls held first.items (has.gate ∷ has.behind) has.begins own own_is
    (other_none job decls held first.items (has.gate ∷ has.behind) has.begins own own_is other) error refused

-- the journal ends with the entry there
pub ending_told : (job : JobBytes) (decls : List Declaration) (bytes : Option (List ℕ)) (found : AtGate)
    (first : Vec ℕ Global) (own : List ℕ) (error : OpenError) → IfSome bytes (λ held. StandsAt (drop 0 held) found)
    → found ≡ Ending first → FitsRefused own first.items error
    → (held : List ℕ) → own ≡ job_bytes job → bytes ≡ Some held → FitsError job decls held error
ending_told job decls bytes found first own error stands is refused held own_is told =
    let begins : Begins first.items [] held =
    told_at bytes held (λ (h : List ℕ). Begins first.items [] h)
    (stands_at bytes 0 found (Ending first) is stands) told in
    refused_first job decls held first.items [] begins own own_is
    (ending_none job decls held first.items begins) error refused

-- the length of what stands in front of the first round
pub end_first : (job : JobBytes) (length_told : ℕ) → length_told ≡ length (job_bytes job)
    → 9 + length_told ≡ end_of (entries_of job [])
end_first job told is = let whole = opened_long (job_bytes job) in
    omega (arith, whole, is, ap length (append-nil (opened (job_bytes job))))
