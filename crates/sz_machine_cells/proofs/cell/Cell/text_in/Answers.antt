-- Bytes of ASCII are UTF-8.
use Rattle.std.proofs.Common.{◌≡◌, ◌∙◌, ℕ, List, [], Some, true, sym, ap, subst}
use Rattle.std.specs.Str.{is_utf8}
use Rattle.std.proofs.lemmas.Str.{is_utf8-from_IsUtf8}
use Rattle.sz_value.specs.Data.{bytes}
use Rattle.sz_value.specs.Texts.{is_ascii}
use Rattle.sz_world_rules.specs.Slots.{Slot}
use Rattle.sz_builtin.proofs.CharacterLemmas.{ascii_is_text}
use Rattle.sz_machine_cells.specs.Cells.{slot_of}
use Rattle.sz_machine_cells.proofs.cell.Cell.text_in.Goals as goal

-- the bytes that a slot is
abbrev octets_of : Slot → List ℕ
octets_of (Some (bytes octets)) = octets
octets_of _ = []

utf8_of : (read octets : List ℕ) → is_ascii read ≡ true → Some (bytes read) ≡ Some (bytes octets)
    → is_utf8 octets ≡ true
utf8_of read octets ascii is =
    subst (λ s. is_utf8 s ≡ true) (ap octets_of is) (is_utf8-from_IsUtf8 read (ascii_is_text read ascii))

pub returns-clause-utf8 : goal.returns-clause-utf8
returns-clause-utf8 c = λ octets is.
    let read = c.in-Some.field-0 in
    let same = ap (λ s. Some (bytes s)) (c.in-Some.ensures.some ∙ c.part_bytes.ensures.value)
    ∙ sym (ap slot_of c.in-Part.is) ∙ c.self.view_is in
    utf8_of read.octets.now octets read.ascii (same ∙ is)
