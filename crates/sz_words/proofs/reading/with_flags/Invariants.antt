-- The flags still to come are taken by what the settings are by then.
use Rattle.std.proofs.Common.{◌≡◌, drop}
use Rattle.sz_words.specs.Settings.{with_flags}
use Rattle.sz_words.specs.Bounds.{IsBounded}
use Rattle.sz_words.proofs.reading.with_flags.Given as goal

abbrev pub invariant-loop-flag : goal.invariant-loop-flag
invariant-loop-flag l =
    (with_flags (drop l.flag-index l.flags) l.settings ≡ with_flags l.flags l.fn.settings)
    × (IsBounded l.fn.settings → IsBounded l.settings)
