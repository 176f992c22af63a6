-- Rounds that are read one after the other.
use Rattle.std.proofs.Common.{◌≡◌, ℕ, ◌+◌, ◌<◌, List, [], length, Option, Some, Bool, true, false, true≢false, Result, Ok, Err, sym, ◌∙◌, ap, subst, arith}
use Rattle.sz_types.specs.Tables.{Declaration}
use Rattle.sz_journal.specs.Jobs.{job_bytes}
use Rattle.sz_journal.specs.Rounds.{AreRounds}
use Rattle.sz_journal.specs.declared.job.JobBytes.{JobBytes}
use Rattle.sz_journal.specs.declared.round.RoundEntry.{RoundEntry}
use Rattle.sz_journal.specs.declared.error.OpenError.{OpenError}
use Rattle.sz_journal.specs.declared.tail.Tail.{Tail}
use Rattle.sz_journal.specs.Journal.{rounds_of, end_gate}
use Rattle.sz_journal.specs.Reading.{IsReadTo, IsAt, HasAll, FitsTurn, FitsRead}
use Rattle.sz_journal.proofs.FirstLemmas.{end_first}
use Rattle.sz_journal.proofs.LeftLemmas.{no_rounds}
use Rattle.sz_journal.proofs.SpellLemmas.{is_of_none}

module _ (job : JobBytes) (decls : List Declaration) (bytes : Option (List ℕ)) (count : ℕ) where
  -- behind the entry of the job
  pub at_first : (journal : Tail) (size : ℕ) → rounds_of journal ≡ [] → end_gate journal ≡ 9 + size
      → size ≡ length (job_bytes job) → 9 + size < count
      → ((held : List ℕ) → bytes ≡ Some held → IsReadTo job [] held) → IsAt job decls journal bytes count
  at_first journal size none end size_is low read = record {
    is_of = is_of_none job journal none (end ∙ end_first job size size_is);
    are = subst (λ (rs : List RoundEntry). AreRounds job decls rs) (sym none) (no_rounds job decls);
    here = omega (arith, end, low);
    read = λ held told. subst (λ (rs : List RoundEntry). IsReadTo job rs held) (sym none) (read held told);
  }

  -- the disk tells the same bytes
  pub at_still : (journal : Tail) (told_later : Option (List ℕ)) → told_later ≡ bytes
      → IsAt job decls journal bytes count → IsAt job decls journal told_later count
  at_still journal told_later same at = record {
    is_of = at.is_of;
    are = at.are;
    here = at.here;
    read = λ held told. at.read held (sym same ∙ told);
  }

  module _ (old new : Tail) where
    -- a further round was read
    pub turn_goes : (more : Bool) → FitsTurn job decls bytes count old new (Ok more) → more ≡ true
        → IsAt job decls new bytes count × (end_gate old < end_gate new)
    turn_goes true fits is = fits
    turn_goes false fits is = absurd (true≢false (sym is))

    -- there is none
    pub turn_ends : (more : Bool) → FitsTurn job decls bytes count old new (Ok more) → more ≡ false
        → HasAll job decls new bytes
    turn_ends true fits is = absurd (true≢false is)
    turn_ends false fits is = fits

    -- the journal isn't one of the job
    pub turn_fails : (result : Result Tail OpenError) (error given : OpenError)
        → FitsTurn job decls bytes count old new (Err error)
        → result ≡ Err given → given ≡ error → (held : List ℕ) → bytes ≡ Some held → FitsRead job decls held result
    turn_fails result error given fits is same held told =
        subst (λ (r : Result Tail OpenError). FitsRead job decls held r)
        (sym (is ∙ ap (λ (e : OpenError). Err e) same)) (fits held told)
