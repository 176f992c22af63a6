-- The places of the text that it begins with are its places.
use Rattle.std.proofs.Common.{string_bytes}
use Rattle.std.proofs.lemmas.Str.{IsUtf8-string_bytes}
use Rattle.sz_value.specs.Characters.{AreMarks}
use Rattle.sz_value.proofs.MarkLemmas.{marks_of_begun}
use Rattle.sz_value.proofs.marked.MarkedText.begun.Goals as goal

pub with_more-requires : goal.with_more-requires
with_more-requires c =
    let marks : AreMarks (string_bytes c.self.inside.string) c.in_ok-copied.field-0.items =
    rw c.in_ok-copied.ensures.value c.self.invariant in
    record {
      marks = rw (c.as_str.ensures.value) (rw c.requires.begins (rw (← c.self.view_is)
          (marks_of_begun _ _ _ (IsUtf8-string_bytes c.self.inside.string) c.utf8.end marks)));
    }
