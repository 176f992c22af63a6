-- What a command line asks for: how its input is cut, and what a self test asks of its run.
use Rattle.std.specs.Prelude.{ℕ, ◌^◌, [], false, Option, Some, None}
use Rattle.sz_types.specs.declared.frame.Frame.{Frame}
use Rattle.sz_types.specs.declared.frame.Frame.TheVariants.{Lines, Delimited}
use Rattle.sz_words.specs.declared.settings.RunSettings.{RunSettings}
use Rattle.sz_words.specs.declared.settings.Settings.{Settings}
use Rattle.sz_words.specs.declared.settings.Settings.TheVariants.{Run, Selftest}
use Rattle.sz_words.specs.Settings.{default_shard}

-- how the records of the input are told apart without a disk: as lines, where nothing else is asked for; of `resume` see Resuming.antt
abbrev pub frame_asked : Option Settings → Frame
frame_asked (Some (Run s)) = s.frame
frame_asked (Some (Selftest seed records workers)) = Delimited
frame_asked _ = Lines

-- what a self test asks of the run of its program: messages with their lengths before them, so many workers, and all else as it is by itself
abbrev pub selftest_run : ℕ → RunSettings
selftest_run workers = record {
  program = [];
  input = [];
  frame = Delimited;
  workers = workers;
  shard = default_shard;
  attempts = 3;
  budget = 2 ^ 24;
  skip = 0;
  kills = [];
  twice = [];
  ignore_undefs = false;
  save = false;
  proto = None;
}
