-- Why a resumed job has no tables, by what failed.
use Rattle.sz_io.specs.declared.error.OutsideError.{OutsideError}
use Rattle.sz_io.specs.declared.error.OutsideError.TheVariants as outside
use Rattle.sz_stream.specs.declared.stop.Stop.TheVariants as stops
use Rattle.sz_stream.specs.InputRuns.{stop_of}
use Rattle.sz_resume.specs.declared.halt.Halt.{Halt}
use Rattle.sz_resume.specs.declared.halt.Halt.TheVariants.{Stopped, DiskFailed}

abbrev pub no_memory : Halt
no_memory = Stopped stops.NoMemory

abbrev pub read_failed : Halt
read_failed = Stopped stops.ReadFailed

-- the halt for an append that the disk failed, or for which there was no memory
abbrev pub of_disk : OutsideError → Halt
of_disk outside.Failed = DiskFailed
of_disk outside.NoMemory = no_memory

-- the halt for a read that failed, or for which there was no memory
abbrev pub of_file : OutsideError → Halt
of_file error = Stopped (stop_of error)
