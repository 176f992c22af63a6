-- Why a file that can't be read isn't joined to what is kept.
use Rattle.sz_save_format.specs.declared.error.SavedError.{SavedError}
use Rattle.sz_save_format.specs.declared.error.SavedError.TheVariants as reading
use Rattle.sz_save.specs.declared.stopped.ReadJoinError.{ReadJoinError}
use Rattle.sz_save.specs.declared.stopped.ReadJoinError.TheVariants.{NotSaved, NoMemory}

abbrev pub error_of_reading : SavedError → ReadJoinError
error_of_reading reading.NotSaved = NotSaved
error_of_reading reading.NoMemory = NoMemory
