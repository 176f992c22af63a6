-- The last text so far, or one of those that are left.
use Rattle.std.proofs.Common.{◌≡◌, [], drop}
use denote.Text.{Utf8}
use denote.Shadow.{shadow}
use Rattle.sz_proto.specs.Found.{contents, last_text_of}
use Rattle.sz_proto.proofs.singles.last_text.Given as goal

abbrev pub invariant-loop-field : goal.invariant-loop-field
invariant-loop-field l = shadow (Utf8 l.last)
    × (last_text_of l.last (contents l.bytes (drop l.field-index l.run)) ≡ last_text_of [] (contents l.bytes l.run))
