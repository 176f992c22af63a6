-- What a call of the program leaves of which no device fails.
use Rattle.std.specs.Prelude.{◌≡◌, ◌⊎◌, ℕ, List}
use Rattle.sz_io.specs.declared.files.Files as files
use Rattle.sz_io.specs.declared.sink.Sink as sink
use Rattle.szl.specs.declared.status.Status.{Status}
use Rattle.szl.specs.declared.status.Status.TheVariants.{NoMemory}
use Rattle.szl.specs.Outcome.{outcome}
use Rattle.szl.specs.Promise.{MeansSource}

-- The call keeps its promise with the outcome's status itself, or with want of memory: no device's failure stands in its place. So with
-- any other status than want of memory the output is all that of the outcome, and the line is its line, or a prefix of it where a count of the error
-- stream rose.
pub record Completes {F O E : Type 0} (the_files : files.Ghosts F) (the_out : sink.Ghosts O) (the_err : sink.Ghosts E)
    (words : List (List ℕ)) (status : Status) (files new_files : F) (out new_out : O) (err new_err : E) : Type 0 where
  pub means : MeansSource the_files the_out the_err words status files new_files out new_out err new_err
  pub status_is : (status ≡ NoMemory) ⊎ (status ≡ (outcome words means.file means.reading means.cut means.merged).status)
