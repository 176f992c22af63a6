-- Numbers that a reader of saved tables reads.
use Rattle.std.proofs.Common.{◌≡◌, Option, sym, subst}
use Rattle.sz_save_format.specs.Decoding as decoding
use Rattle.sz_save_format.specs.declared.error.SavedError.{SavedError}
use Rattle.sz_save_format.specs.declared.error.SavedError.TheVariants as saved
use Rattle.sz_journal.specs.EntryReading.{Stops, entry_error}
use Rattle.sz_journal.specs.declared.entry_error.EntryError.{EntryError}

-- where it stops, nothing is there
pub stops_told : {X : Type 0} (found : Option X) (error : SavedError) (given : EntryError)
    → decoding.Stops found error → given ≡ entry_error error → Stops found given
stops_told found error given stops is = subst (Stops found) (sym is) (by error stops)
  where
    by : (e : SavedError) → decoding.Stops found e → Stops found (entry_error e)
    by saved.NotSaved stop = stop
    by saved.NoMemory stop = tt
