-- The status and the line of each cause for which a call ends early.
use Rattle.std.specs.Prelude.{ℕ, List}
use Rattle.szl.specs.declared.status.Status.{Status}
use Rattle.szl.specs.declared.status.Status.TheVariants as status
use Rattle.szl.specs.declared.failure.Failure.{Failure}
use Rattle.szl.specs.declared.failure.Failure.TheVariants.{Usage, Refused, Faulted, Lost, Damaged, Limit, BadTables, OtherTables, TablesLimit}
use Rattle.szl.specs.declared.failure.Failure.TheVariants.{BadProtoFile, OtherJob, JournalDamaged, DiskFailed, ReadFailed, WriteFailed, NoMemory}
use Rattle.sz_machine.specs.Ends.{seen_fault}
use Rattle.szl.specs.Answers.{fault_line, usage_line, lost_line, damaged_line, limit_line, bad_tables_line, other_tables_line, tables_limit_line}
use Rattle.szl.specs.Answers.{other_job_line, journal_damaged_line, disk_failed_line, read_failed_line, write_failed_line, no_memory_line}
use Rattle.sz_refusals.specs.Lines.{refusal_line}
use Rattle.szl.specs.ProtoFiles.{bad_file_line}

-- the number that a status has as the exit status of the process
abbrev pub code_of : Status → ℕ
code_of status.Done = 0
code_of status.Usage = 1
code_of status.Program = 2
code_of status.RecordFault = 3
code_of status.Damaged = 4
code_of status.ReadFailed = 5
code_of status.WriteFailed = 6
code_of status.ShardLost = 7
code_of status.NoMemory = 8
code_of status.Limit = 9
code_of status.BadTables = 10
code_of status.OtherTables = 11
code_of status.TablesLimit = 12
code_of status.BadProtoFile = 13
code_of status.OtherJob = 14
code_of status.JournalDamaged = 15
code_of status.DiskFailed = 16

-- the exit status of a failure
abbrev pub status_of : Failure → Status
status_of Usage = status.Usage
status_of (Refused r) = status.Program
status_of (Faulted number fault) = status.RecordFault
status_of (Lost shard) = status.ShardLost
status_of (Damaged byte) = status.Damaged
status_of (Limit byte) = status.Limit
status_of (BadTables number) = status.BadTables
status_of (OtherTables number) = status.OtherTables
status_of (TablesLimit number) = status.TablesLimit
status_of (BadProtoFile f) = status.BadProtoFile
status_of OtherJob = status.OtherJob
status_of (JournalDamaged gate) = status.JournalDamaged
status_of DiskFailed = status.DiskFailed
status_of ReadFailed = status.ReadFailed
status_of WriteFailed = status.WriteFailed
status_of NoMemory = status.NoMemory

-- the line of a failure
abbrev pub line_of_failure : Failure → List ℕ
line_of_failure Usage = usage_line
line_of_failure (Refused r) = refusal_line r
line_of_failure (Faulted number fault) = fault_line number (seen_fault fault)
line_of_failure (Lost shard) = lost_line shard
line_of_failure (Damaged byte) = damaged_line byte
line_of_failure (Limit byte) = limit_line byte
line_of_failure (BadTables number) = bad_tables_line number
line_of_failure (OtherTables number) = other_tables_line number
line_of_failure (TablesLimit number) = tables_limit_line number
line_of_failure (BadProtoFile f) = bad_file_line f
line_of_failure OtherJob = other_job_line
line_of_failure (JournalDamaged gate) = journal_damaged_line gate
line_of_failure DiskFailed = disk_failed_line
line_of_failure ReadFailed = read_failed_line
line_of_failure WriteFailed = write_failed_line
line_of_failure NoMemory = no_memory_line
