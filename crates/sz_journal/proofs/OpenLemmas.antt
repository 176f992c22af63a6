-- What opening a journal answers, by what its parts do.
use Rattle.std.proofs.Common.{◌≡◌, inl, inr, List, [], ◌∷◌, Option, ℕ, Bool, true, false, true≢false, Result, Ok, Err, IfOk, OnOk, IsErrOf}
use Rattle.std.proofs.Common.{refl, sym, ◌∙◌, ap, subst}
use Rattle.sz_types.specs.Tables.{Declaration}
use Rattle.sz_io.specs.declared.error.OutsideError.{OutsideError}
use Rattle.sz_io.specs.declared.error.OutsideError.TheVariants as outside
use Rattle.sz_disk.specs.Crashes.{Images, MayBe}
use Rattle.sz_disk.specs.Entries.{IsEmpty, IsEmptyOrHolds}
use Rattle.sz_disk.specs.Crashing.{Rests, LeavesOnly, WritesNothing}
use Rattle.sz_disk.specs.GateCalls.{Keeps}
use Rattle.sz_disk.proofs.GateForCallers.{leaves_if, leaves_both}
use Rattle.sz_journal.specs.Jobs.{job_bytes}
use Rattle.sz_journal.specs.declared.job.JobBytes.{JobBytes}
use Rattle.sz_journal.specs.declared.round.RoundEntry.{RoundEntry}
use Rattle.sz_journal.specs.declared.error.OpenError.{OpenError}
use Rattle.sz_journal.specs.declared.error.OpenError.TheVariants as errors
use Rattle.sz_journal.specs.declared.tail.Tail.{Tail}
use Rattle.sz_journal.specs.Journal.{rounds_of, KeepsRounds}
use Rattle.sz_journal.specs.Opening.{open_error, FitsError, FitsAnswer, IsKept}
use Rattle.sz_journal.specs.Reading.{IsReadTo, FitsFirst, FitsRead}
use Rattle.sz_journal.proofs.LeftLemmas.{keeps_none, kept_empty}

-- an error of the outside tells nothing of the bytes
pub fits_outside : (job : JobBytes) (decls : List Declaration) (held : List ℕ) (result : Result Tail OpenError)
    (error : OutsideError) (given : OpenError) → result ≡ Err given → given ≡ open_error error
    → FitsAnswer job decls held result
fits_outside job decls held result error given is same =
    subst (λ (r : Result Tail OpenError). FitsAnswer job decls held r)
    (sym (is ∙ ap (λ (e : OpenError). Err e) same)) (any error)
  where
    any : (e : OutsideError) → FitsError job decls held (open_error e)
    any outside.Failed = tt
    any outside.NoMemory = tt

-- what was found at the first gate
pub fits_first : (job : JobBytes) (decls : List Declaration) (held : List ℕ) (result : Result Tail OpenError)
    (error given : OpenError) → FitsFirst job decls held (Err error) → result ≡ Err given → given ≡ error
    → FitsAnswer job decls held result
fits_first job decls held result error given found is same =
    subst (λ (r : Result Tail OpenError). FitsAnswer job decls held r)
    (sym (is ∙ ap (λ (e : OpenError). Err e) same)) found

pub first_none : (job : JobBytes) (decls : List Declaration) (held : List ℕ) (has : Bool)
    → FitsFirst job decls held (Ok has) → has ≡ false → IsEmpty held
first_none job decls held true found is = absurd (true≢false is)
first_none job decls held false found is = found

pub first_read : (job : JobBytes) (decls : List Declaration) (held : List ℕ) (has : Bool)
    → FitsFirst job decls held (Ok has) → has ≡ true → IsReadTo job [] held
first_read job decls held true found is = found
first_read job decls held false found is = absurd (true≢false (sym is))

-- a journal that begins
pub fits_started : (job : JobBytes) (decls : List Declaration) (held : List ℕ) (result : Result Tail OpenError)
    → IsEmpty held → IfOk result (λ journal. rounds_of journal ≡ []) → (IsErrOf result errors.OtherJob → ⊥)
    → ((place : ℕ) → IsErrOf result (errors.Damaged place) → ⊥) → FitsAnswer job decls held result
fits_started job decls held (Ok journal) none rounds other damaged = inr (none, rounds)
fits_started job decls held (Err errors.OtherJob) none rounds other damaged = absurd (other refl)
fits_started job decls held (Err (errors.Damaged place)) none rounds other damaged = absurd (damaged place refl)
fits_started job decls held (Err errors.Failed) none rounds other damaged = tt
fits_started job decls held (Err errors.NoMemory) none rounds other damaged = tt

pub keeps_started : (job : JobBytes) (decls : List Declaration) (entry : List ℕ) (bytes : Option (List ℕ))
    (may_leave : Images) (result : Result Tail OpenError) → entry ≡ job_bytes job
    → OnOk result (Keeps bytes may_leave (entry ∷ [])) → IfOk result (λ journal. rounds_of journal ≡ [])
    → IfOk result (λ journal. KeepsRounds bytes may_leave job decls (rounds_of journal))
keeps_started job decls entry bytes may_leave (Ok journal) is keeps rounds =
    subst (λ (rs : List RoundEntry). KeepsRounds bytes may_leave job decls rs) (sym rounds)
    (keeps_none job decls entry bytes may_leave is keeps)
keeps_started job decls entry bytes may_leave (Err error) is keeps rounds = tt

-- a journal that was read
pub keeps_read : (job : JobBytes) (decls : List Declaration) (held : List ℕ) (bytes : Option (List ℕ))
    (may_leave : Images) (result : Result Tail OpenError) → Rests bytes may_leave held
    → FitsRead job decls held result
    → IfOk result (λ journal. KeepsRounds bytes may_leave job decls (rounds_of journal))
keeps_read job decls held bytes may_leave (Ok journal) rests read = record { held = held; rests = rests; spells = read }
keeps_read job decls held bytes may_leave (Err error) rests read = tt

-- what a crash might have left where nothing was written
pub leaves_read : {D : Type 0} {bytes : D → Option (List ℕ)} {may_leave : D → Images} {time : D → ℕ}
    {left_since : D → ℕ → Images} (job : JobBytes) (decls : List Declaration) (held : List ℕ) {old new : D}
    → WritesNothing bytes may_leave time left_since old new
    → LeavesOnly time left_since old new (IsKept job decls (may_leave old) held)
leaves_read {may_leave = may_leave} {time = time} {left_since = left_since} job decls held {old = old} {new = new} none =
    leaves_if time left_since old new (MayBe (may_leave old)) (IsKept job decls (may_leave old) held)
    (λ image left. inl left) none.leaves

-- what a crash might have left where a journal begins
pub leaves_started : {D : Type 0} {bytes : D → Option (List ℕ)} {may_leave : D → Images} {time : D → ℕ}
    {left_since : D → ℕ → Images} (job : JobBytes) (decls : List Declaration) {entry : List ℕ} (held : List ℕ) {old mid new : D}
    → entry ≡ job_bytes job → WritesNothing bytes may_leave time left_since old mid → IsEmpty held
    → LeavesOnly time left_since mid new (IsEmptyOrHolds entry)
    → LeavesOnly time left_since old new (IsKept job decls (may_leave old) held)
leaves_started {may_leave = may_leave} {time = time} {left_since = left_since} job decls {entry = entry} held {old = old} {mid = mid}
    {new = new} is none empty leaves =
    leaves_both time left_since old mid new (IsKept job decls (may_leave old) held) (leaves_read job decls held none)
    (leaves_if time left_since mid new (IsEmptyOrHolds entry) (IsKept job decls (may_leave old) held)
    (λ image left. kept_empty job decls entry held (may_leave old) image is empty left)
    leaves)
