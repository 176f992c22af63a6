-- What stays true while records are appended.
use Rattle.std.proofs.Common.{◌≡◌, ◌++◌, ◌-◌}
use Rattle.sz_feed.specs.Feed.{file_of, records_after}
use Rattle.sz_feed.proofs.feeding.feed.Given as goal

-- the bytes so far and the records to come are the file
abbrev pub invariant-loop : goal.invariant-loop
invariant-loop l =
    l.file.items ++ records_after l.draws.last (l.fn.records - l.counter) ≡ file_of l.fn.seed l.fn.records
